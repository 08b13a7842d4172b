-- The threads of the tests name only what there is.
use Rattle.std.proofs.Common.{◌≡◌, ℕ, zero, suc, ◌≤◌, ◌&&◌, ℤ, pos, Bool, true, false}
use Rattle.std.proofs.Common.{List, [], ◌∷◌, length, map, refl, sym, subst, ap, arith}
use Rattle.std.specs.List.{list_all}
use Rattle.std.proofs.lemmas.Bool.{false≢true, ltb-true}
use Rattle.pct_ask.specs.declared.Deal.{Deal}
use Rattle.pct_ask.specs.declared.ask.Ask.{Ask}
use Rattle.pct_ask.specs.declared.ask.Ask.TheVariants.{Add, Check, Down}
use Rattle.pct_ask.specs.Objects.{Sizes, sizes_of_deal, IsInRange, PostIsInRange}
use Rattle.pct_ask.specs.Bodies.{Pending, IsInRangeBody, AreInRange}
use Rattle.worker_run.specs.Samples.{sample_pending}
use Rattle.worker_run.proofs.laws.SampleRanges.{samples-within}
use Rattle.test_runs.specs.OneStep.{once_pending, is_deed}

-- the threads of the small test, where three threads share a variable
pub samples-fit : {X : Type 0} (deal : Deal) → length deal.vars ≡ 1 → deal.threads ≡ 3
    → (thread steps : X → ℕ) (seen : X → ℤ) (items : List X)
    → AreInRange (sizes_of_deal deal)
    (map (λ b. sample_pending (thread b) (steps b) (seen b)) items)
samples-fit deal vars threads thread steps seen items =
    samples-within (sizes_of_deal deal) (omega (arith, vars)) (omega (arith, threads))
    thread steps seen items

-- ---- threads of one step
module _ (sizes : Sizes) (vars : 1 ≤ sizes.vars) (sems : 1 ≤ sizes.sems) where
  deed-within : (ask : Ask) → is_deed ask ≡ true → IsInRange sizes ask
  deed-within (Add x value) is = let b = ltb-true x 1 is in omega arith
  deed-within (Down s) is = let b = ltb-true s 1 is in omega arith
  deed-within (Check holds) is = tt
  deed-within _ is = absurd (false≢true is)

  once-within : (ask : Ask) (line : ℕ) (asked : Bool) (answers : List ℤ) → is_deed ask ≡ true
      → PostIsInRange sizes (once_pending ask line asked answers).ask
  once-within ask line true answers is = tt
  once-within ask line false [] is = deed-within ask is
  once-within ask line false (answer ∷ answers) is = tt

  -- threads that add
  pub adders-within : {X : Type 0} (line : X → ℕ) (added : X → Bool) (items : List X)
      → AreInRange sizes (map (λ b. once_pending (Add 0 (pos 1)) (line b) (added b)) items)
  adders-within line added [] t answers = tt
  adders-within line added (b ∷ items) zero answers =
      once-within (Add 0 (pos 1)) (line b) (added b) answers refl
  adders-within line added (b ∷ items) (suc t) answers = adders-within line added items t answers

  both-true : (a b : Bool) → (a && b) ≡ true → (a ≡ true) × (b ≡ true)
  both-true true b is = (refl, is)
  both-true false b is = absurd (false≢true is)

  pub onces-within : {X : Type 0} (line : ℕ) (ask : X → Ask) (asked : X → Bool) (make : Ask → X)
      → ((a : Ask) → ask (make a) ≡ a) → (asks : List Ask) → list_all is_deed asks ≡ true
      → AreInRange sizes (map (λ b. once_pending (ask b) line (asked b)) (map make asks))
  onces-within line ask asked make same [] deeds t answers = tt
  onces-within line ask asked make same (a ∷ asks) deeds zero answers =
      let is = (both-true (is_deed a) (list_all is_deed asks) deeds).0 in
      let D : Ask → Type 0 = λ x. is_deed x ≡ true in
      once-within (ask (make a)) line (asked (make a)) answers (subst D (sym (same a)) is)
  onces-within line ask asked make same (a ∷ asks) deeds (suc t) answers =
      onces-within line ask asked make same asks
      (both-true (is_deed a) (list_all is_deed asks) deeds).1 t answers

four-in-range : (sizes : Sizes) (one two three last : Pending) → IsInRangeBody sizes one
    → IsInRangeBody sizes two → IsInRangeBody sizes three → IsInRangeBody sizes last
    → AreInRange sizes (one ∷ two ∷ three ∷ last ∷ [])
four-in-range sizes one two three last a b c d zero = a
four-in-range sizes one two three last a b c d (suc zero) = b
four-in-range sizes one two three last a b c d (suc (suc zero)) = c
four-in-range sizes one two three last a b c d (suc (suc (suc zero))) = d
four-in-range sizes one two three last a b c d (suc (suc (suc (suc t)))) = λ answers. tt

-- a list of four bodies
pub four-within : {X : Type 0} (sizes : Sizes) (pending : X → Pending) (items : List X)
    (one two three last : X) → items ≡ one ∷ two ∷ three ∷ last ∷ []
    → IsInRangeBody sizes (pending one) → IsInRangeBody sizes (pending two)
    → IsInRangeBody sizes (pending three) → IsInRangeBody sizes (pending last)
    → AreInRange sizes (map pending items)
four-within sizes pending items one two three last is a b c d =
    subst (AreInRange sizes) (sym (ap (map pending) is))
    (four-in-range sizes (pending one) (pending two) (pending three) (pending last) a b c d)
