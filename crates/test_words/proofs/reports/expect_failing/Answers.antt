-- The two verdicts have texts.
use Rattle.std.proofs.Common.{◌≡◌, ℕ, ◌<◌, List, [], length, sym, subst, arith}
use Rattle.std.specs.List.{All}
use Rattle.std.proofs.lemmas.List.Elements.{All-weaker, All-push, All-nil}
use Rattle.pct_ask.specs.NameLists.{NameLists}
use Rattle.pct_ask.specs.declared.event.Row.{Row}
use Rattle.pct_ask.specs.declared.verdict.Verdict.TheVariants.{Failed}
use Rattle.failure_rank.specs.declared.group.Group.{Group}
use Rattle.report_text.specs.Report.{IsWritable}
use Rattle.test_words.proofs.reports.expect_failing.Goals as goal

writable : (names : NameLists) → 0 < length names.threads → IsWritable names (Failed 0 3)
writable names some = record {
  named = All-push (λ thread. thread < length names.threads) [] 0
      (All-nil (λ (thread : ℕ). thread < length names.threads)) some;
  whole = (omega arith, omega arith);
}

of_rows : (names : NameLists) → 0 < length names.threads → (rows : List Row)
    → All (λ row. row.verdict ≡ Failed 0 3) rows → All (λ row. IsWritable names row.verdict) rows
of_rows names some rows same =
    All-weaker (λ (row : Row). row.verdict ≡ Failed 0 3)
    (λ (row : Row). IsWritable names row.verdict)
    (λ row is. subst (IsWritable names) (sym is) (writable names some)) rows same

of_groups : (names : NameLists) → 0 < length names.threads → (groups : List Group)
    → All (λ group. group.verdict ≡ Failed 0 3) groups
    → All (λ group. IsWritable names group.verdict) groups
of_groups names some groups same =
    All-weaker (λ (group : Group). group.verdict ≡ Failed 0 3)
    (λ (group : Group). IsWritable names group.verdict)
    (λ group is. subst (IsWritable names) (sym is) (writable names some)) groups same

pub text_report-text-requires : goal.text_report-text-requires
text_report-text-requires g c =
    let names = c.args.names.now in
    record {
      rows = of_rows names c.requires c.in_ok-rows.rows c.in_ok-rows.ensures;
      groups = of_groups names c.requires c.in_ok-groups.groups c.in_ok-groups.ensures;
    }

pub json_report-json-requires : goal.json_report-json-requires
json_report-json-requires g c =
    let names = c.args.names.now in
    record {
      rows = of_rows names c.requires c.in_ok-rows.rows c.in_ok-rows.ensures;
      groups = of_groups names c.requires c.in_ok-groups.groups c.in_ok-groups.ensures;
    }
