use Rattle.std.proofs.Common.{map, ap, ◌∙◌}
use Rattle.std.proofs.lemmas.Result.{err_from_is_err_and}
use Rattle.c_values.proofs.laws.Refusals.{refusal}
use Rattle.c_tells.specs.Races.{race_numbers, AreRacesOf}
use Rattle.c_tells.specs.Runs.{SayRun}
use Rattle.c_tells.specs.declared.run.Run.{Run}
use Rattle.c_tells.proofs.races.races_told.Goals as goal

pub returns-in_err-run : goal.returns-in_err-run
returns-in_err-run c =
    let a = c.args in
    let p = err_from_is_err_and c.from_residual.result c.from_residual.ensures.1 in
    refusal
    (λ (run : Run). SayRun a.counts.now a.vars.now a.sems.now a.barriers.now a.steps.now run.deal
    run.events)
    (AreRacesOf a.counts.now a.vars.now a.sems.now a.barriers.now a.steps.now)
    c.in_err-run.field-0.0 p.0 c.from_residual.result p.1 p.2 c.in_err-run.ensures
    (λ told is. let run : Run = record { deal = is.deal; events = is.events } in (run, is.run))

pub returns : goal.returns
returns c = record {
  deal = c.in_ok-run.run'.deal;
  events = c.in_ok-run.run'.events;
  run = c.in_ok-run.ensures;
  races = c.in_ok-found.found;
  are = c.in_ok-found.ensures;
  told_are =
      c.from_vec.ensures
      ∙ (c.in_ok-numbers_of.ensures ∙ ap (λ list. map race_numbers list) c.as_slice.ensures);
}
