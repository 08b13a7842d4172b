-- Bodies that may be shown name only what there is, and what there is has names.
use Rattle.std.proofs.Common.{◌≡◌, ◌≢◌, ℕ, ℤ, pos, zero, suc, ◌+◌, ◌<◌, List, [], ◌∷◌, length, map}
use Rattle.std.proofs.Common.{get_or, Some, refl, sym, ap, subst, ◌∙◌, arith, inl, inr}
use Rattle.std.specs.Prelude.{All}
use Rattle.std.proofs.lemmas.Bool.{cases_lt}
use Rattle.std.proofs.lemmas.List.{get_or_past, length-map}
use Rattle.std.proofs.lemmas.List.Elements.{All-cons, All-nil}
use Rattle.pct_ask.specs.VerdictText.{IsLine}
use Rattle.pct_ask.specs.declared.Deal.{Deal}
use Rattle.pct_ask.specs.declared.ask.Ask.{Ask}
use Rattle.pct_ask.specs.declared.ask.Ask.TheVariants.{RdLock, WrLock, TryRdLock, TryWrLock}
use Rattle.pct_ask.specs.declared.ask.Ask.TheVariants.{RwUnlock}
use Rattle.pct_ask.specs.Objects.{Sizes, sizes_of_deal, IsInRange, PostIsInRange}
use Rattle.pct_ask.specs.Bodies.{Pending, no_body, pending_of, AreInRange}
use Rattle.pct_ask.specs.Limits.{IsStepCount}
use Rattle.rank_now.specs.Order.{IsFirstWrong}
use Rattle.worker_run.specs.Samples.{sample_post, sample_pending}
use Rattle.worker_run.proofs.laws.SampleRanges.{samples-within}
use Rattle.rank_now.proofs.laws.WholeOrders.{whole-order}
use Rattle.trace_text.specs.Lawful.{HasObjects, IsHead}
use Rattle.trace_text.proofs.laws.KnownVerdicts.{IsAsked}
use Rattle.kit_main.specs.Showing.{IsTestDeal, test_sizes, test_names, test_order, test_head}
use Rattle.kit_main.specs.Showing.{IsShowableBody}

pub sizes-are : (deal : Deal) → IsTestDeal deal → sizes_of_deal deal ≡ test_sizes
sizes-are deal is = λ i. record {
  threads = is.threads i;
  vars = length (is.vars i);
  mutexes = is.mutexes i;
  conds = is.conds i;
  sems = length (is.sems i);
  barriers = length (is.barriers i);
  rwlocks = is.rwlocks i;
}

-- ---- what the bodies name
objects : (ask : Ask) → IsInRange test_sizes ask → HasObjects test_names 1 ask
objects (RdLock l) h = absurd (omega arith)
objects (WrLock l) h = absurd (omega arith)
objects (TryRdLock l) h = absurd (omega arith)
objects (TryWrLock l) h = absurd (omega arith)
objects (RwUnlock l) h = absurd (omega arith)
objects ask h = h

pub mapped-three : {X : Type 0} (pending : X → Pending) (items : List X) → length items ≡ 3
    → length (map pending items) ≡ 3
mapped-three pending items three = length-map items pending ∙ three

module _ (bodies : List Pending) (three : length bodies ≡ 3) (all : All IsShowableBody bodies) where
  in-range : (t : ℕ) (answers : List ℤ) → PostIsInRange test_sizes (pending_of bodies t answers).ask
  in-range t answers = elim (cases_lt t (length bodies)) [
    | inl below ↦ (all t no_body below).in_range answers
    | inr past ↦
        let P : Pending → Type 0 = λ pending. PostIsInRange test_sizes (pending answers).ask in
        let none = get_or_past bodies t no_body past in
        subst P (sym none) tt
  ]

  pub are-in-range : (deal : Deal) → IsTestDeal deal → AreInRange (sizes_of_deal deal) bodies
  are-in-range deal is = let P : Sizes → Type 0 = λ sizes. AreInRange sizes bodies in
      subst P (sym (sizes-are deal is)) in-range

  pub asked : (t : ℕ) (answers : List ℤ) (ask : Ask) → (pending_of bodies t answers).ask ≡ Some ask
      → IsAsked test_names 1 t (pending_of bodies t answers).line ask
  asked t answers ask asks = elim (cases_lt t (length bodies)) [
    | inl below ↦ record {
      at = omega (arith, three, below);
      on = (all t no_body below).lines answers;
      has = objects ask (subst (PostIsInRange test_sizes) asks (in-range t answers));
    }
    | inr past ↦
        let P : Pending → Type 0 = λ pending. (pending answers).ask ≡ Some ask in
        absurd (let none : P no_body = subst P (get_or_past bodies t no_body past) asks in cc)
  ]

-- ---- the order is one
none-zero : (k : ℕ) → k < 0 → ⊥
none-zero k below = absurd (omega arith)

abbrev named : List ℕ → ℕ → ℕ → ℕ
named before k d = get_or before k d

none-one : (k : ℕ) → k < 1 → named (0 ∷ []) k 1 ≡ 1 → ⊥
none-one zero below is = absurd (omega (arith, is))
none-one (suc k) below is = absurd (omega arith)

none-two : (k : ℕ) → k < 2 → named (0 ∷ 1 ∷ []) k 2 ≡ 2 → ⊥
none-two zero below is = absurd (omega (arith, is))
none-two (suc zero) below is = absurd (omega (arith, is))
none-two (suc (suc k)) below is = absurd (omega arith)

pub no-wrong-order : (at : ℕ) → IsFirstWrong (0 ∷ 1 ∷ 2 ∷ []) at → ⊥
no-wrong-order zero w = elim w.wrong [
  | inl past ↦ absurd (omega (arith, past))
  | inr again ↦ none-zero again.0 again.1
]
no-wrong-order (suc zero) w = elim w.wrong [
  | inl past ↦ absurd (omega (arith, past))
  | inr again ↦ none-one again.0 again.1 again.2
]
no-wrong-order (suc (suc zero)) w = elim w.wrong [
  | inl past ↦ absurd (omega (arith, past))
  | inr again ↦ none-two again.0 again.1 again.2
]
no-wrong-order (suc (suc (suc k))) w = absurd (let within = w.within in omega arith)

order-below : (place : ℕ) → place < 3 → get_or test_order place 0 < 3
order-below zero within = omega arith
order-below (suc zero) within = omega arith
order-below (suc (suc zero)) within = omega arith
order-below (suc (suc (suc k))) within = absurd (omega arith)

order-once : (first second : ℕ) → first < second → second < 3
    → get_or test_order first 0 ≢ get_or test_order second 0
order-once zero (suc zero) low within same = omega (arith, same)
order-once zero (suc (suc zero)) low within same = omega (arith, same)
order-once (suc zero) (suc (suc zero)) low within same = omega (arith, same)
order-once zero zero low within same = omega arith
order-once (suc zero) zero low within same = omega arith
order-once (suc zero) (suc zero) low within same = omega arith
order-once (suc (suc first)) second low within same = omega arith
order-once first (suc (suc (suc second))) low within same = omega arith

pub head-is : IsHead test_names test_head
head-is = record {
  version = inl refl;
  order = whole-order test_order order-below order-once;
  whole = refl;
  few_points = omega arith;
  points =
      All-cons IsStepCount 1 [] (omega arith, omega arith) (All-nil IsStepCount);
  limit = (omega arith, omega arith);
}

-- ---- bodies in boxes
three-all : (one other last : Pending) → IsShowableBody one → IsShowableBody other
    → IsShowableBody last
    → All IsShowableBody (one ∷ other ∷ last ∷ [])
three-all one other last a b c =
    All-cons IsShowableBody one (other ∷ last ∷ []) a
    (All-cons IsShowableBody other (last ∷ []) b
    (All-cons IsShowableBody last [] c (All-nil IsShowableBody)))

pub boxed-showable : {X : Type 0} (pending : X → Pending) (items : List X) (one other last : X)
    → items ≡ one ∷ other ∷ last ∷ [] → IsShowableBody (pending one)
    → IsShowableBody (pending other)
    → IsShowableBody (pending last) → All IsShowableBody (map pending items)
boxed-showable pending items one other last is a b c =
    subst (All IsShowableBody) (sym (ap (map pending) is))
    (three-all (pending one) (pending other) (pending last) a b c)

post-line : (t steps : ℕ) (seen : ℤ) → IsLine (sample_post t steps seen).line
post-line zero zero seen = (omega arith, omega arith)
post-line zero (suc zero) seen = (omega arith, omega arith)
post-line zero (suc (suc steps)) seen = (omega arith, omega arith)
post-line (suc zero) zero seen = (omega arith, omega arith)
post-line (suc zero) (suc zero) seen = (omega arith, omega arith)
post-line (suc zero) (suc (suc steps)) seen = (omega arith, omega arith)
post-line (suc (suc t)) zero seen = (omega arith, omega arith)
post-line (suc (suc t)) (suc zero) seen = (omega arith, omega arith)
post-line (suc (suc t)) (suc (suc zero)) seen = (omega arith, omega arith)
post-line (suc (suc t)) (suc (suc (suc zero))) seen = (omega arith, omega arith)
post-line (suc (suc t)) (suc (suc (suc (suc steps)))) seen = (omega arith, omega arith)

sample-line : (t steps : ℕ) (seen : ℤ) (answers : List ℤ)
    → IsLine (sample_pending t steps seen answers).line
sample-line t steps seen [] = post-line t steps seen
sample-line t steps seen (answer ∷ answers) = sample-line t (steps + 1) answer answers

pub sample-showable : (t : ℕ) → IsShowableBody (sample_pending t 0 (pos 0))
sample-showable t = record {
  in_range =
      samples-within test_sizes (omega arith) (omega arith) (λ (t : ℕ). t) (λ (t : ℕ). 0)
      (λ (t : ℕ). pos 0) (t ∷ []) 0;
  lines = sample-line t 0 (pos 0);
}
