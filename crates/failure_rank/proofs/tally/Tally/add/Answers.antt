-- One more row: it passed, or it is of a failure.
use Rattle.std.proofs.Common.{◌≡◌, ◌≢◌, [], ◌∷◌, length, sym, ap, ◌∙◌, arith}
use Rattle.std.proofs.Common.{true≢false}
use Rattle.std.proofs.lemmas.List.{length-append}
use Rattle.std.proofs.lemmas.List.Sums.{length-filter, count_by-le-length}
use Rattle.pct_ask.specs.declared.event.Row.{Row}
use Rattle.pct_ask.specs.declared.verdict.Verdict.TheVariants.{Passed}
use Rattle.pct_ask.specs.SameVerdict.{same_verdict}
use Rattle.failure_rank.specs.Groups.{rows_with}
use Rattle.failure_rank.proofs.RowLemmas.{equal, same-true, rows_with-own, rows_with-other}
use Rattle.failure_rank.proofs.Counting.{IsCounted-passed, IsCounted-failed, counts_fit}
use Rattle.failure_rank.proofs.tally.Tally.add.Goals as goal

pub overflow_add-self : goal.overflow_add-self
overflow_add-self c =
    let rows = c.requires.0 in
    omega (
      arith,
      c.requires.1.passed,
      c.requires.2,
      length-filter (λ (r : Row). same_verdict Passed r.verdict) rows,
      count_by-le-length (λ (r : Row). same_verdict Passed r.verdict) rows,
    )

pub add_failure-requires : goal.add_failure-requires
add_failure-requires c =
    counts_fit c.requires.0 c.args.self.now.failures.entries c.requires.1.failures c.requires.2

pub returns-then-eq : goal.returns-then-eq
returns-then-eq c = λ rows is.
    let row = c.args.row.now in
    let passed : row.verdict ≡ Passed =
    equal row.verdict Passed (sym c.eq.ensures ∙ c.if-eq.true) in
    record {
      passed = omega (
        arith,
        is.passed,
        ap length (rows_with-own rows row Passed (sym passed)),
        length-append (rows_with Passed rows) (row ∷ []),
      );
      failures = IsCounted-passed rows row c.args.self.now.failures.entries passed is.failures;
    }

pub returns-in_ok-add_failure : goal.returns-in_ok-add_failure
returns-in_ok-add_failure c = λ rows is.
    let row = c.args.row.now in
    let failed : row.verdict ≢ Passed =
    λ e. true≢false (sym (same-true row.verdict Passed e) ∙ sym c.eq.ensures ∙ c.if-eq.false) in
    record {
      passed = is.passed
          ∙ ap length (sym (rows_with-other rows row Passed (λ e. failed (sym e))));
      failures =
          rw c.in_ok-add_failure.ensures (IsCounted-failed rows row
          c.args.self.now.failures.entries failed is.failures);
    }
