-- The report on a sweep is one thing.
use Rattle.std.proofs.Common.{◌≡◌, ℕ, List, [], ◌∷◌, length, map, Bool, false}
use Rattle.std.proofs.Common.{Option, Some, sym, subst, ap, ◌∙◌, arith, refl}
use Rattle.std.specs.Prelude.{◌==◌}
use Rattle.pct_ask.specs.declared.Deal.{Deal}
use Rattle.pct_ask.specs.declared.event.Row.{Row}
use Rattle.script_tree.specs.ScriptText.{ScriptText}
use Rattle.failure_rank.specs.Groups.{IsRanking, rows_with}
use Rattle.failure_rank.proofs.Laws.{one_ranking}
use Rattle.pct_ask.specs.declared.verdict.Verdict.TheVariants.{Passed}
use Rattle.report_text.specs.declared.frame.Frame.{Frame}
use Rattle.report_text.specs.declared.swept.SweptGroup.{SweptGroup}
use Rattle.sweep.specs.Rows.{SweepSetup}
use Rattle.sweep.specs.Swept.{Sweeps, IsSweep}
use Rattle.sweep.specs.declared.sweeping.Swept.{Swept}
use Rattle.sweep.specs.declared.sweeping.Answer.{Answer}
use Rattle.sweep.specs.declared.sweeping.Answer.TheVariants.{Whole, TooMany}
use Rattle.pct_top.specs.Printed.{Printed, printed_text}
use Rattle.pct_top.specs.commands.Campaign.{frame_of}
use Rattle.pct_top.specs.commands.Sweep.{swept_setup, sweep_report, too_many_text}
use Rattle.pct_top.specs.commands.Sweep.{PrintsAnswer, OfChoices, OfSweep}
use Rattle.pct_top.specs.Call.{IsCarriedOut}
use Rattle.pct_top.proofs.OneReport.{answers_as, one_count}

-- what some lists are all of
pub all-some : {A : Type 0} (xs ys : List A) → map Some xs ≡ map Some ys → xs ≡ ys
all-some [] [] same = refl
all-some [] (y ∷ ys) same = absurd cc
all-some (x ∷ xs) [] same = absurd cc
all-some {A = A} (x ∷ xs) (y ∷ ys) same =
    let first : ◌≡◌ {A = Option A} (Some x) (Some y) = cc in
    let here : x ≡ y = cc in
    let rest : map Some xs ≡ map Some ys = cc in
    λ i. here i ∷ all-some xs ys rest i

one_sweep : (setup : SweepSetup) (one other : Swept) → IsSweep setup one → IsSweep setup other
    → one ≡ other
one_sweep setup one other a b =
    let rows : a.rows ≡ b.rows = all-some a.rows b.rows (a.are ∙ sym b.are) in
    let groups : one.groups ≡ other.groups =
    sym (one_ranking b.rows one.groups other.groups
    (subst (λ (rs : List Row). IsRanking rs one.groups) rows a.ranked) b.ranked) in
    let passed : one.passed ≡ other.passed =
    a.passed ∙ ap (λ (rs : List Row). length (rows_with Passed rs)) rows ∙ sym b.passed in
    let choices : one.choices ≡ other.choices = a.choices ∙ sym b.choices in
    λ i. record { choices = choices i; passed = passed i; groups = groups i }

one_answer : (setup : SweepSetup) (one other : Answer) → Sweeps setup one → Sweeps setup other
    → one ≡ other
one_answer setup (Whole one) (Whole other) a b = ap Whole (one_sweep setup one other a.1 b.1)
one_answer setup (Whole one) TooMany a b = absurd (omega (arith, a.0, b))
one_answer setup TooMany (Whole other) a b = absurd (omega (arith, a, b.0))
one_answer setup TooMany TooMany a b = refl

one_print : (json : Bool) (script : ScriptText) (frame : Frame) (answer : Answer) (p q : Printed)
    → PrintsAnswer json script frame answer p → PrintsAnswer json script frame answer q → p ≡ q
one_print json script frame (Whole swept) p q a b =
    a.2 ∙ ap (λ (told : List SweptGroup).
    printed_text (sweep_report json script frame swept told) (length swept.groups == 0))
    (all-some a.0 b.0 (a.1 ∙ sym b.1)) ∙ sym b.2
one_print json script frame TooMany p q a b = a ∙ sym b

answer_told : (json : Bool) (script : ScriptText) (frame : Frame) (answer : Answer) (p : Printed)
    → PrintsAnswer json script frame answer p → IsCarriedOut p.status
answer_told json script frame (Whole swept) p a =
    answers_as p (sweep_report json script frame swept a.0) (length swept.groups == 0) a.2
answer_told json script frame TooMany p a =
    answers_as p (too_many_text frame.threads) false a

module _ (script : ScriptText) (deal : Deal) (depth : ℕ) (steps : Option ℕ) (limit : ℕ)
    (json : Bool) where
  choices_once : (k : ℕ) (p q : Printed) → OfChoices depth k limit json script deal p
      → OfChoices depth k limit json script deal q → p ≡ q
  choices_once k p q a b =
      let frame = frame_of deal depth k limit in
      let same : a.0 ≡ b.0 = one_answer (swept_setup script deal depth k limit) a.0 b.0 a.1 b.1 in
      one_print json script frame b.0 p q
      (subst (λ answer. PrintsAnswer json script frame answer p) same a.2) b.2

  pub sweep_once : (p q : Printed) → OfSweep depth steps limit json script deal p
      → OfSweep depth steps limit json script deal q → p ≡ q
  sweep_once p q a b =
      let same = one_count script deal limit steps a.0 b.0 a.1 b.1 in
      choices_once b.0 p q (subst (λ k. OfChoices depth k limit json script deal p) same a.2) b.2

  pub sweep_answers : (p : Printed) → OfSweep depth steps limit json script deal p
      → IsCarriedOut p.status
  sweep_answers p a =
      answer_told json script (frame_of deal depth a.0 limit) (a.2).0 p (a.2).2
