-- The points are those of the moments in the run that was made by them.
use Rattle.std.proofs.Common.{◌≡◌, sym, ap, subst, ◌∙◌}
use Rattle.std.specs.Cmp.{unsigned_Decides}
use Rattle.std.proofs.lemmas.Slice.Eq.{slice_eq-Decides}
use Rattle.turn_book.specs.Posts.{schedule_of}
use Rattle.pct_ask.specs.declared.deal.Deal.{Deal}
use Rattle.choices.specs.Points.{points_of}
use Rattle.kit_runs.specs.Runs.{IsFileOf}
use Rattle.kit_directives.proofs.directed.run_round.Goals as goal

pub returns-then-eq-clause-run : goal.returns-then-eq-clause-run
returns-then-eq-clause-run g c =
    let trial = c.args.trial.now in
    let lent = c.as_slice-2.result.now in
    let same : lent ≡ c.args.points.now =
    (slice_eq-Decides unsigned_Decides lent c.args.points.now c.eq.result c.eq.ensures).0
    c.if-eq.true in
    record {
      points = c.args.points.now;
      run = subst (λ (d : Deal). IsFileOf d trial.order.now c.args.points.now trial.limit
          c.in_ok-file.file) c.in_ok-own.ensures c.in_ok-file.ensures.run;
      stand = sym same ∙ c.as_slice-2.ensures ∙ c.in_ok-found.ensures
          ∙ ap (λ es. points_of (schedule_of es) trial.limit c.args.moments.now)
          c.as_slice.ensures;
    }
