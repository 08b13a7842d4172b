-- The counts of the large script's campaign are one thing.
use Rattle.std.proofs.Common.{◌≡◌, ℕ, None, sym, subst, ap, ◌∙◌}
use Rattle.std.specs.List.{flat_map}
use Rattle.pct_ask.specs.TraceText.{line_text}
use Rattle.pct_ask.specs.declared.Deal.{Deal}
use Rattle.script_tree.specs.ScriptText.{ScriptText}
use Rattle.pct_top.specs.Printed.{Printed}
use Rattle.pct_top.specs.commands.Campaign.{setup_of, all_pass}
use Rattle.pct_top.specs.commands.Big.{big_lines, script_lines, printed_counts, OfBigRuns, OfBig}
use Rattle.pct_top.specs.Call.{IsCarriedOut}
use Rattle.pct_top.proofs.OneReport.{answers_as, one_count}
use Rattle.pct_top.proofs.OneCampaign.{of_seeds_once}

module _ (script : ScriptText) (deal : Deal) (pieces : ℕ) where
  runs_once : (k : ℕ) (p q : Printed) → OfBigRuns pieces k script deal p
      → OfBigRuns pieces k script deal q → p ≡ q
  runs_once k p q a b =
      let one = of_seeds_once (setup_of script deal 3 k 10000) 1 20 a.0 b.0 a.1 b.1 a.2 b.2 in
      a.3 ∙ ap (λ rows. printed_counts pieces k rows a.1) one.rows_are
      ∙ ap (printed_counts pieces k b.0) one.groups_are ∙ sym b.3

  pub big_once : (p q : Printed) → OfBig pieces script deal p → OfBig pieces script deal q → p ≡ q
  big_once p q a b =
      let same = one_count script deal 10000 None a.0 b.0 a.1 b.1 in
      runs_once b.0 p q (subst (λ k. OfBigRuns pieces k script deal p) same a.2) b.2

  pub big_answers : (p : Printed) → OfBig pieces script deal p → IsCarriedOut p.status
  big_answers p a =
      answers_as p (flat_map line_text (big_lines (script_lines pieces) a.0 (a.2).0 (a.2).1))
      (all_pass (a.2).0) (a.2).3
