-- The histories after the last step tell the races.
use Rattle.std.proofs.Common.{◌≡◌, List, length, ap, sym, ◌∙◌}
use Rattle.std.specs.List.{filter_map}
use Rattle.std.proofs.lemmas.Result.{IfOk-weaker}
use Rattle.hb_race.specs.declared.race.Race.{Race}
use Rattle.hb_race.specs.Races.{AreRaces}
use Rattle.hb_race.proofs.Ranges.{all-wider}
use Rattle.hb_race.proofs.Reports.{reported, whole-slice, race_of}
use Rattle.hb_race.proofs.report.races_of.Goals as goal

pub returns : goal.returns
returns c =
    let events = c.args.events.now in
    let histories = c.follow.new.histories in
    let made = c.in_ok-histories.histories in
    let full : made.len ≡ length made.items =
    sym c.as_mut_slice-2.ensures.len ∙ ap length c.as_mut_slice-2.ensures.value in
    let rows : length histories ≡ length c.args.deal.now.vars =
    c.follow.auto.histories ∙ ap length c.as_mut_slice-2.ensures.value
    ∙ c.in_ok-histories.ensures.rows ∙ c.len.ensures in
    let same = c.as_slice.ensures.value
    ∙ whole-slice histories made.items made.len
    (c.follow.auto.histories ∙ ap length c.as_mut_slice-2.ensures.value) full in
    let range = all-wider c.args.deal.now (length histories) events rows c.requires.in_range in
    IfOk-weaker c.list_of.result (λ (races : List Race). races
    ≡ filter_map race_of c.as_slice.result.now) (λ (races : List Race). AreRaces events races)
    (λ races made_of. reported events histories races range c.follow.ensures
    (made_of ∙ ap (filter_map race_of) same))
    c.list_of.ensures
