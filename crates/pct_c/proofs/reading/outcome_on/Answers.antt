-- Once an outcome stands, the steps are the run.
use Rattle.std.proofs.Common.{Option, refl, sym, subst, ◌∙◌, inl, arith}
use Rattle.std.specs.Prelude.{IsSome}
use Rattle.pct_ask.specs.declared.verdict.Outcome.{Outcome}
use Rattle.pct_c.proofs.reading.outcome_on.Goals as goal

pub returns-in-Some : goal.returns-in-Some
returns-in-Some c =
    let stands = sym c.outcome.ensures.outcome ∙ c.in-Some.is in
    let settled = subst (λ (o : Option Outcome). IsSome o) (sym stands) refl in
    record {
      done = λ z. (
        c.in-Some.found,
        stands,
        c.numbers_of_outcome.ensures,
        (λ posts events over. c.trace-steps.ensures.whole posts events over settled
            ∙ c.trace-steps.ensures.trace),
      );
      not_yet = λ z. absurd (omega (arith, z));
      statuses = inl refl;
      unwritten = λ n. absurd (n refl);
      stays = refl;
    }
