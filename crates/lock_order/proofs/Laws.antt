-- Laws of the definitions alone: there is one chosen report.
use Rattle.std.proofs.Common.{◌≡◌, ◌≢◌, ℕ, zero, suc, ◌+◌, ◌-◌, ◌<◌, ◌≤◌, List, ◌++◌, length}
use Rattle.std.proofs.Common.{get_or, take, drop, reverse, Some, refl, sym, ap, ◌∙◌, subst, inl}
use Rattle.std.proofs.Common.{inr, arith, add-one}
use Rattle.std.proofs.lemmas.Bool.{cases_eq, cases_lt}
use Rattle.std.proofs.lemmas.List.{take_all, take_more_same, ext_get_or, length-drop}
use Rattle.std.proofs.lemmas.List.{length-reverse, get_or-drop, get_or-reverse}
use Rattle.pct_ask.specs.declared.event.Event.{Event}
use Rattle.lock_order.specs.declared.nesting.Nesting.{Nesting}
use Rattle.lock_order.specs.declared.report.LockReport.{LockReport}
use Rattle.lock_order.specs.declared.report.LockReport.TheVariants.{Order, Cycle}
use Rattle.lock_order.specs.Nestings.{event_at_step}
use Rattle.lock_order.specs.Chosen.{IsFirstOfPair, IsLowest, Remains, IsFree, IsHeldWhere}
use Rattle.lock_order.specs.Chosen.{AreTakenOut, IsWalk, IsRing, next_in_ring, AreNestingsOf}
use Rattle.lock_order.specs.Chosen.{IsChosenOrder, IsChosenCycle, IsChosen}
use Rattle.lock_order.proofs.Cycles.{no_nesting, nesting-at}
use Rattle.lock_order.proofs.Walks.{turned-place, turned-begin}

lowest-once : (P : ℕ → Type 0) (one other : ℕ) → IsLowest P one → IsLowest P other → one ≡ other
lowest-once P one other is also = elim (cases_eq one other) [
  | inl same ↦ same
  | inr ne ↦ elim (cases_lt one other) [
    | inl lt ↦ absurd (also.lowest one lt is.holds)
    | inr ge ↦ absurd (is.lowest other (omega arith) also.holds)
  ]
]

same-parts : (xs ys : List ℕ) → length xs ≡ length ys → take (length xs) xs ≡ take (length xs) ys
    → xs ≡ ys
same-parts xs ys long same =
    sym (take_all (length xs) xs (omega arith)) ∙ same ∙ take_all (length xs) ys (omega arith)

-- ---- the mutexes that are taken out
module _ (mutexes : ℕ) (events : List Event) where
  same-takes : (one other : List ℕ) → AreTakenOut mutexes events one
      → AreTakenOut mutexes events other → (n : ℕ) → n ≤ length one → n ≤ length other
      → take n one ≡ take n other
  same-takes one other is also zero p q = refl
  same-takes one other is also (suc n) p q =
      let before = same-takes one other is also n (omega arith) (omega arith) in
      let P : List ℕ → Type 0 = λ xs. IsLowest (IsFree mutexes events xs) (get_or one n 0) in
      let same = lowest-once (IsFree mutexes events (take n other)) (get_or one n 0)
      (get_or other n 0) (subst P before (is.each n (omega arith)))
      (also.each n (omega arith)) in
      let e : n + 1 ≡ suc n = add-one n in
      let Q : ℕ → Type 0 = λ k. take k one ≡ take k other in
      subst Q e (take_more_same one other n 0 (omega arith) (omega arith) before same)

  not-longer : (one other : List ℕ) → AreTakenOut mutexes events one
      → AreTakenOut mutexes events other → ¬ (length one < length other)
  not-longer one other is also lt =
      let same = same-takes one other is also (length one) (omega arith) (omega arith) in
      let whole : take (length one) other ≡ one =
      sym same ∙ take_all (length one) one (omega arith) in
      let P : List ℕ → Type 0 = λ xs. IsFree mutexes events xs (get_or other (length one) 0) in
      is.end (get_or other (length one) 0) (subst P whole (also.each (length one) lt).holds)

  pub taken-out-once : (one other : List ℕ) → AreTakenOut mutexes events one
      → AreTakenOut mutexes events other → one ≡ other
  taken-out-once one other is also =
      let p = not-longer one other is also in
      let q = not-longer other one also is in
      let long : length one ≡ length other = elim (cases_lt (length one) (length other)) [
        | inl lt ↦ absurd (p lt)
        | inr ge ↦ elim (cases_lt (length other) (length one)) [
          | inl lt ↦ absurd (q lt)
          | inr le ↦ omega arith
        ]
      ] in
      same-parts one other long (same-takes one other is also (length one) (omega arith)
      (omega arith))

-- ---- the walk
module _ (IsLeft : ℕ → Type 0) (IsHeldAt : ℕ → ℕ → Type 0) where
  same-steps : (one other : List ℕ) (back back' : ℕ) → IsWalk IsLeft IsHeldAt one back
      → IsWalk IsLeft IsHeldAt other back' → (k : ℕ) → k < length one → k < length other
      → get_or one k 0 ≡ get_or other k 0
  same-steps one other back back' is also zero p q =
      lowest-once IsLeft (get_or one 0 0) (get_or other 0 0) is.begins also.begins
  same-steps one other back back' is also (suc k) p q =
      let before = same-steps one other back back' is also k (omega arith) (omega arith) in
      let P : ℕ → Type 0 = λ from. IsLowest (IsHeldAt from) (get_or one (k + 1) 0) in
      let same = lowest-once (IsHeldAt (get_or other k 0)) (get_or one (k + 1) 0)
      (get_or other (k + 1) 0) (subst P before (is.goes k (omega arith)))
      (also.goes k (omega arith)) in
      let e : k + 1 ≡ suc k = add-one k in
      let Q : ℕ → Type 0 = λ n. get_or one n 0 ≡ get_or other n 0 in
      subst Q e same

  -- where one walk ends, the other would come to a mutex again
  not-further : (one other : List ℕ) (back back' : ℕ) → IsWalk IsLeft IsHeldAt one back
      → IsWalk IsLeft IsHeldAt other back' → ¬ (length one < length other)
  not-further one other back back' is also lt =
      let inside = is.within in
      let last : ℕ = length one - 1 in
      let e : last + 1 ≡ length one = omega arith in
      let at_last = same-steps one other back back' is also last (omega arith) (omega arith) in
      let P : ℕ → Type 0 = λ from. IsLowest (IsHeldAt from) (get_or one back 0) in
      let again = lowest-once (IsHeldAt (get_or other last 0)) (get_or one back 0)
      (get_or other (last + 1) 0) (subst P at_last is.repeats) (also.goes last (omega arith)) in
      let earlier = same-steps one other back back' is also back inside (omega arith) in
      also.once back (last + 1) (omega arith) (omega arith) (sym earlier ∙ again)

  pub walk-once : (one other : List ℕ) (back back' : ℕ) → IsWalk IsLeft IsHeldAt one back
      → IsWalk IsLeft IsHeldAt other back' → (one ≡ other) × (back ≡ back')
  walk-once one other back back' is also =
      let p = not-further one other back back' is also in
      let q = not-further other one back' back also is in
      let inside = is.within in
      let inside' = also.within in
      let long : length one ≡ length other = elim (cases_lt (length one) (length other)) [
        | inl lt ↦ absurd (p lt)
        | inr ge ↦ elim (cases_lt (length other) (length one)) [
          | inl lt ↦ absurd (q lt)
          | inr le ↦ omega arith
        ]
      ] in
      let same : one ≡ other = ext_get_or 0 one other long
      (λ k within. same-steps one other back back' is also k within (omega arith)) in
      let P : List ℕ → Type 0 = λ xs. IsWalk IsLeft IsHeldAt xs back in
      let moved = subst P same is in
      let again = lowest-once (IsHeldAt (get_or other (length other - 1) 0)) (get_or other back 0)
      (get_or other back' 0) moved.repeats also.repeats in (
        same,
        elim (cases_eq back back') [
          | inl e ↦ e
          | inr ne ↦ elim (cases_lt back back') [
            | inl lt ↦ absurd (also.once back back' lt inside' again)
            | inr ge ↦ absurd (also.once back' back (omega arith) (omega arith) (sym again))
          ]
        ],
      )

-- ---- the ring
module _ (part : List ℕ) (once : (first second : ℕ) → first < second → second < length part
    → get_or part first 0 ≢ get_or part second 0) where
  abbrev backwards : List ℕ
  backwards = reverse part

  backwards-once : (first second : ℕ) → first < length part → second < length part
      → get_or backwards first 0 ≡ get_or backwards second 0 → first ≡ second
  backwards-once first second p q same =
      let at_first = get_or-reverse part first 0 p in
      let at_second = get_or-reverse part second 0 q in
      let both = sym at_first ∙ same ∙ at_second in
      elim (cases_eq first second) [
        | inl e ↦ e
        | inr ne ↦ elim (cases_lt first second) [
          | inl lt ↦ absurd (once (length part - 1 - second) (length part - 1 - first) (omega arith)
              (omega arith) (sym both))
          | inr ge ↦ absurd (once (length part - 1 - first) (length part - 1 - second) (omega arith)
              (omega arith) both)
        ]
      ]

  -- the mutex at which a ring begins is the lowest of the part
  ring-begins : (ring : List ℕ) (is : IsRing part ring) → (place : ℕ) → place < length part
      → get_or backwards is.turn 0 ≤ get_or backwards place 0
  ring-begins ring is place within =
      let long = length-reverse part in
      let inside = is.within in
      let turn_within : is.turn < length backwards = omega arith in
      let P : List ℕ → Type 0 = λ xs. (k : ℕ) → k < length xs → get_or xs 0 0 ≤ get_or xs k 0 in
      let there = turned-place backwards is.turn turn_within place (omega arith) in
      let least = subst P is.turned is.lowest there.0 there.1 in
      let begin = turned-begin backwards is.turn turn_within in
      let found = there.2 in
      omega arith

  pub ring-once : (one other : List ℕ) → IsRing part one → IsRing part other → one ≡ other
  ring-once one other is also =
      let least = ring-begins one is also.turn also.within in
      let least' = ring-begins other also is.turn is.within in
      let same : is.turn ≡ also.turn =
      backwards-once is.turn also.turn is.within also.within (omega arith) in
      is.turned ∙ ap (λ t. drop t backwards ++ take t backwards) same ∙ sym also.turned

-- ---- the nestings
same-nesting : (one other : Nesting) → one.step ≡ other.step → one.thread ≡ other.thread
    → one.held ≡ other.held → one.taken ≡ other.taken → one ≡ other
same-nesting one other p q r s = λ i. record { step = p i; thread = q i; held = r i; taken = s i }

first-once : (events : List Event) (held taken : ℕ) (one other : Nesting)
    → IsFirstOfPair events held taken one → IsFirstOfPair events held taken other → one ≡ other
first-once events held taken one other is also =
    let least = is.least other also.nested in
    let least' = also.least one is.nested in
    let step : one.step ≡ other.step = omega arith in
    let takes = is.nested.nested.takes in
    let takes' = also.nested.nested.takes in
    let both : Some takes.event ≡ Some takes'.event =
    sym takes.at ∙ ap (event_at_step events) step ∙ takes'.at in
    let event : takes.event ≡ takes'.event = cc in
    same-nesting one other step (sym takes.by ∙ ap (λ (e : Event). e.thread) event ∙ takes'.by)
    (is.nested.held_is ∙ sym also.nested.held_is)
    (is.nested.taken_is ∙ sym also.nested.taken_is)

nestings-once : (events : List Event) (ring : List ℕ) (one other : List Nesting)
    → AreNestingsOf events ring one → AreNestingsOf events ring other → one ≡ other
nestings-once events ring one other is also =
    let long : length one ≡ length other = is.whole ∙ sym also.whole in
    ext_get_or no_nesting one other long
    (λ k within. first-once events (get_or ring k 0) (next_in_ring ring k)
    (get_or one k no_nesting) (get_or other k no_nesting)
    (is.each k (get_or one k no_nesting) (nesting-at one k within))
    (also.each k (get_or other k no_nesting) (nesting-at other k (omega arith))))

-- ---- the reports
module _ (mutexes : ℕ) (events : List Event) where
  part-once : (out walk : List ℕ) (back : ℕ)
      → IsWalk (Remains mutexes out) (IsHeldWhere mutexes events out) walk back → (first second : ℕ)
      → first < second → second < length (drop back walk)
      → get_or (drop back walk) first 0 ≢ get_or (drop back walk) second 0
  part-once out walk back walked first second lt within same =
      let long = length-drop back walk in
      walked.once (back + first) (back + second) (omega arith) (omega arith)
      (sym (get_or-drop back walk first 0) ∙ same ∙ get_or-drop back walk second 0)

  cycle-once : (one other : List Nesting) → IsChosenCycle mutexes events one
      → IsChosenCycle mutexes events other → one ≡ other
  cycle-once one other is also =
      let out = taken-out-once mutexes events is.out also.out is.taken_out also.taken_out in
      let P : List ℕ → Type 0 = λ xs. IsWalk (Remains mutexes xs) (IsHeldWhere mutexes events xs)
      is.walk is.back in
      let walked = subst P out is.walked in
      let walk = walk-once (Remains mutexes also.out) (IsHeldWhere mutexes events also.out) is.walk
      also.walk is.back also.back walked also.walked in
      let part : drop is.back is.walk ≡ drop also.back also.walk =
      ap (λ n. drop n is.walk) walk.1 ∙ ap (λ xs. drop also.back xs) walk.0 in
      let Q : List ℕ → Type 0 = λ xs. IsRing xs is.ring in
      let ring = ring-once (drop also.back also.walk)
      (part-once also.out also.walk also.back also.walked) is.ring also.ring
      (subst Q part is.turned) also.turned in
      let R : List ℕ → Type 0 = λ xs. AreNestingsOf events xs one in
      nestings-once events also.ring one other (subst R ring is.nestings) also.nestings

  apart : (order : List ℕ) (cycle : List Nesting) → IsChosenOrder mutexes events order
      → ¬ IsChosenCycle mutexes events cycle
  apart order cycle is also =
      let same = taken-out-once mutexes events also.out order also.taken_out is.taken_out in
      let P : List ℕ → Type 0 = λ xs. Remains mutexes xs (get_or also.walk 0 0) in
      is.all (get_or also.walk 0 0) (subst P same also.walked.begins.holds)

  pub chosen-once : (one other : LockReport) → IsChosen mutexes events one
      → IsChosen mutexes events other → one ≡ other
  chosen-once (Order one) (Order other) is also =
      ap (λ xs. Order xs) (taken-out-once mutexes events one other is.taken_out also.taken_out)
  chosen-once (Cycle one) (Cycle other) is also = ap (λ xs. Cycle xs) (cycle-once one other is also)
  chosen-once (Order one) (Cycle other) is also = absurd (apart one other is also)
  chosen-once (Cycle one) (Order other) is also = absurd (apart other one also is)
