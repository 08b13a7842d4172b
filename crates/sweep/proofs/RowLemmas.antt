-- The row of a choice, and which verdict it has.
use Rattle.std.specs.Prelude.{filter}
use Rattle.std.specs.Option.{option_map}
use Rattle.std.proofs.Common.{◌≡◌, ℕ, ◌+◌, Bool, true, false, cond, Option, Some, None, List, ◌∷◌}
use Rattle.std.proofs.Common.{length, refl, sym, ap, ◌∙◌, arith}
use Rattle.pct_ask.specs.declared.event.Event.{Event}
use Rattle.pct_ask.specs.declared.event.Row.{Row}
use Rattle.pct_ask.specs.declared.verdict.Verdict.{Verdict}
use Rattle.pct_ask.specs.SameVerdict.{same_verdict}
use Rattle.worker_run.specs.Run.{Run}
use Rattle.failure_rank.proofs.Laws.{same-true, same-false, verdict_cases}
use Rattle.choices.specs.Counting.{has_verdict}
use Rattle.sweep.specs.declared.choice.Choice.{Choice}
use Rattle.sweep.specs.Rows.{SweepSetup, leads, row_of_run, row_of_choice}

pub same-sym : (v w : Verdict) → same_verdict v w ≡ same_verdict w v
same-sym v w = verdict_cases v w (same_verdict v w ≡ same_verdict w v)
    (λ e. same-true v w e ∙ sym (same-true w v (sym e)))
    (λ n. same-false v w n ∙ sym (same-false w v (λ e. n (sym e))))

pub record IsRowOf (setup : SweepSetup) (place : ℕ) (choice : Choice) (row : Row) : Type 0 where
  pub made : List Event
  pub is_run : leads setup choice.order choice.points ≡ Some (made, row.verdict)
  pub seed : row.seed ≡ place
  pub steps : row.steps ≡ length made

pub row-of : (setup : SweepSetup) (place : ℕ) (choice : Choice) (row : Row)
    → row_of_choice setup place choice ≡ Some row → IsRowOf setup place choice row
row-of setup place choice row is = by (leads setup choice.order choice.points) refl
  where
    by : (o : Option Run) → leads setup choice.order choice.points ≡ o
        → IsRowOf setup place choice row
    by None none = absurd (let e : None ≡ Some row =
        sym (ap (λ (o : Option Run). option_map (row_of_run place) o) none) ∙ is in cc)
    by (Some run) at =
        let e : Some (row_of_run place run) ≡ Some row =
        sym (ap (λ (o : Option Run). option_map (row_of_run place) o) at) ∙ is in
        let same : row_of_run place run ≡ row = cc in
        record {
          made = run.0;
          is_run = at ∙ ap (λ (r : Row). Some (run.0, r.verdict)) same;
          seed = ap (λ (r : Row). r.seed) (sym same);
          steps = ap (λ (r : Row). r.steps) (sym same);
        }

abbrev pub ones : Bool → ℕ
ones b = cond b 1 0

abbrev pub has : SweepSetup → Verdict → Choice → Bool
has setup verdict choice = has_verdict verdict (leads setup choice.order choice.points)

pub length-filter-cons : {X : Type 0} (p : X → Bool) (x : X) (xs : List X)
    → length (filter p (x ∷ xs)) ≡ cond (p x) 1 0 + length (filter p xs)
length-filter-cons p x xs = by (p x) refl
  where
    by : (b : Bool) → p x ≡ b
        → length (filter p (x ∷ xs)) ≡ cond (p x) 1 0 + length (filter p xs)
    by true is = rw is (omega arith)
    by false is = rw is (omega arith)
