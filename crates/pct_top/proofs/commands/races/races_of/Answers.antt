use Rattle.std.proofs.Common.{List, length, eqb, sym, subst, ap, ◌∙◌, arith}
use Rattle.std.specs.Prelude.{All}
use Rattle.pct_ask.specs.NameLists.{NameLists}
use Rattle.pct_ask.specs.declared.event.Event.{Event}
use Rattle.pct_ask.specs.Objects.{sizes_of_deal, EventIsInRange}
use Rattle.script_tree.specs.ScriptSeen.{plain_script}
use Rattle.worker_run.specs.Run.{Run}
use Rattle.hb_race.specs.declared.race.Race.{Race}
use Rattle.hb_race.specs.Races.{AreRaces}
use Rattle.pct_top.specs.Printed.{printed_text}
use Rattle.pct_top.specs.Runs.{trace_version}
use Rattle.pct_top.specs.commands.Races.{race_text}
use Rattle.pct_top.proofs.InRange.{all_in_range}
use Rattle.pct_top.proofs.commands.races.races_of.Goals as goal

pub races-requires-clause-in_range : goal.races-requires-clause-in_range
races-requires-clause-in_range g c =
    let test = c.args.test.now in
    let ready = test.is_ready in
    let of = all_in_range (plain_script test.script) test.deal ready.sound ready.is_deal
    (trace_version (plain_script test.script))
    c.in_ok-run.run'.events c.in_ok-run.ensures.known.steps in
    subst (All (EventIsInRange (sizes_of_deal test.deal))) (sym (c.from.ensures).0) of

pub races-requires-clause-few : goal.races-requires-clause-few
races-requires-clause-few g c =
    omega (arith, c.in_ok-run.ensures.short, ap length (c.from.ensures).0)

pub returns : goal.returns
returns g c =
    let test = c.args.test.now in
    let script = plain_script test.script in
    let ended : Run = (c.in_ok-run.run'.events, c.in_ok-run.run'.verdict) in
    let E : List Event → Type 0 = λ events. AreRaces events c.in_ok-found.found in
    let written = c.in_ok-text.ensures
    ∙ ap (λ (names : NameLists). race_text names c.as_slice.result.now) c.names.ensures
    ∙ ap (λ (races : List Race). race_text script.names races) c.as_slice.ensures in
    let done = ap (λ n. eqb n 0) c.len-done.ensures in (
      ended,
      c.in_ok-run.ensures.run,
      (
        c.in_ok-found.found,
        subst E (c.from.ensures).0 c.in_ok-found.ensures,
        λ i. printed_text (written i) (done i),
      ),
    )
