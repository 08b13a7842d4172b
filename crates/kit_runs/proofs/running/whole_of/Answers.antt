-- A verdict ended the run.
use Rattle.std.proofs.Common.{◌≡◌, Option, Some, IfSome, sym, subst, ◌∙◌}
use Rattle.pct_ask.specs.declared.verdict.Verdict.{Verdict}
use Rattle.pct_ask.specs.declared.verdict.Outcome.TheVariants.{Verdict as Ends}
use Rattle.kit_runs.proofs.running.whole_of.Goals as goal

pub returns-in-Some : goal.returns-in-Some
returns-in-Some c = λ first making.
    let Q : Verdict → Type 0 = λ v. c.into_parts-events.result.1 ≡ Some (Ends v) in
    let ends = subst (λ (o : Option Verdict). IfSome o Q) c.in-Some.is c.verdict_in.ensures in
    record {
      book = c.args.book;
      making = making;
      lawful = c.into_parts-events.ensures.lawful;
      trace = sym c.into_parts-events.ensures.events;
      outcome = sym c.into_parts-events.ensures.outcome ∙ ends;
    }
