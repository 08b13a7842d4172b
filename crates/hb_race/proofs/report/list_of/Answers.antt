-- One more history adds its race, if it has one.
use Rattle.std.proofs.Common.{◌++◌, get_or, option_to_list, ap, sym, ◌∙◌}
use Rattle.hb_race.specs.Lasts.{no_history}
use Rattle.hb_race.proofs.Reports.{filter_map-more}
use Rattle.hb_race.proofs.report.list_of.Goals as goal

pub loop-history-preserved : goal.loop-history-preserved
loop-history-preserved c =
    let histories = c.args.histories.now in
    let i = c.loop-history.history-index in
    c.in_ok-push_race.ensures.ok
    ∙ ap (λ races. races ++ option_to_list (get_or histories i no_history).race)
    c.loop-history.invariant
    ∙ sym (filter_map-more histories i c.loop-history-test.true)
