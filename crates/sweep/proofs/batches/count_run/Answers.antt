-- The run's row is that of the choice at the place, counted for those for which it stands.
use Rattle.std.proofs.Common.{◌≡◌, length, take, refl, sym, ap, ◌∙◌, arith}
use Rattle.std.specs.Prelude.{max}
use Rattle.worker_run.specs.Run.{Run}
use Rattle.std.proofs.Common.{Option, Some}
use Rattle.sweep.specs.Weights.{weight, spread, often_in}
use Rattle.sweep.specs.Rows.{choices_of}
use Rattle.sweep.specs.Batches.{setup_of_sweep}
use Rattle.sweep.proofs.Steps.{pass-by, run-counted, run-fits}
use Rattle.sweep.proofs.batches.count_run.Goals as goal

pub verdict_of-requires : goal.verdict_of-requires
verdict_of-requires c =
    let run = (c.requires.run).run in
    (run.verdict, run.ends)

pub add_copies-requires : goal.add_copies-requires
add_copies-requires c =
    let sweep = c.args.sweep.now in
    let setup = setup_of_sweep sweep in
    let is = c.requires.run in
    let before = pass-by setup sweep.some_steps c.args.reach c.args.tally.now c.args.place
    c.requires.ahead (omega (arith, c.requires.place, sweep.whole))
    c.requires.above c.requires.before in (
      spread (often_in setup) setup 0 (take c.args.place (choices_of setup)),
      before.counted,
      omega (
        arith,
        run-fits setup c.args.place is.choice c.stands_for.result is.at
            (λ ran made.
            let both : ◌≡◌ {A = Option Run} (Some (c.args.events.now, is.run.verdict))
            (Some ran) = sym is.run.steps ∙ made in
            let same : ◌≡◌ {A = Run} (c.args.events.now, is.run.verdict) ran = cc in
            c.stands_for.ensures is.choice is.at
            ∙ ap (λ n. weight sweep.steps n is.choice.points)
            (c.max.ensures ∙ ap (λ n. max n 1)
            (c.count_steps-steps.ensures ∙ ap (λ (r : Run). length r.0) same))),
        sweep.few_choices,
      ),
    )

pub returns-clause-counted : goal.returns-clause-counted
returns-clause-counted c =
    let sweep = c.args.sweep.now in
    let setup = setup_of_sweep sweep in
    let is = c.requires.run in
    let here = record c.args.reach { place = c.args.place } in
    let before = pass-by setup sweep.some_steps c.args.reach c.args.tally.now c.args.place
    c.requires.ahead (omega (arith, c.requires.place, sweep.whole))
    c.requires.above c.requires.before in
    let rows = spread (often_in setup) setup 0 (take c.args.place (choices_of setup)) in
    run-counted setup here _ c.args.tally.now c.add_copies.new.tally
    (record { events = c.args.events.now; outcome = c.args.outcome.now }) _
    c.stands_for.result is before c.from.ensures c.count_steps-steps.ensures c.verdict_of.ensures
    (c.stands_for.ensures is.choice is.at
    ∙ ap (λ n. weight sweep.steps n is.choice.points)
    (c.max.ensures ∙ ap (λ n. max n 1) c.count_steps-steps.ensures))
    (c.in_ok-add_copies.ensures rows before.counted) refl
    (c.max-2.ensures ∙ ap (λ n. max c.args.reach.longest n) c.count_steps-steps.ensures)
