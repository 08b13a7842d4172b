-- Orders and their lists of places.
use Rattle.std.proofs.Common.{Bool, nat_lt, eqb, eq-eqb, ◌≡◌, ℕ, zero, suc, ◌+◌, ◌-◌, ◌<◌, ◌≤◌}
use Rattle.std.proofs.Common.{List, [], ◌∷◌, length, get_or, refl, ap, ◌∙◌, arith, ◌⊎◌, inl, inr}
use Rattle.std.specs.List.{remove, count_by}
use Rattle.std.proofs.lemmas.Bool.Decides.{nat_tests}
use Rattle.std.proofs.lemmas.Bool.{cases_lt}
use Rattle.std.proofs.lemmas.List.Edits.{length-remove, get_or-remove_below, get_or-remove_above}
use Rattle.priority_draw.specs.Orders.{AreInBounds, taken_from, places_of}
use Rattle.priority_draw.proofs.CountLemmas.{one_if, count_of, lower, count-cons, count-remove}
use Rattle.priority_draw.proofs.CountLemmas.{count-none, located, lower-same}

-- numbers that rise along the list
abbrev pub IsRising : List ℕ → Type 0
IsRising xs = (i j : ℕ) → i < j → j < length xs → get_or xs i 0 < get_or xs j 0

-- in such a list a number's place is how many are below it
lower-at : (xs : List ℕ) → IsRising xs → (i : ℕ) → i < length xs → lower (get_or xs i 0) xs ≡ i
lower-at [] rising i within = absurd (omega arith)
lower-at (x ∷ xs) rising zero within =
    let rest = count-none (λ y. nat_lt y x) xs
    (λ k p. let above = rising 0 (suc k) (omega arith) (omega arith) in
    grind (arith, nat_tests)) in
    let here : one_if (nat_lt x x) ≡ 0 = grind (arith, nat_tests) in
    omega (arith, here, rest, count-cons (λ y. nat_lt y x) x xs)
lower-at (x ∷ xs) rising (suc i) within =
    let thread = get_or xs i 0 in
    let rest = lower-at xs (λ a b lt p. rising (suc a) (suc b) (omega arith) (omega arith)) i
    (omega arith) in
    let below : x < thread = rising 0 (suc i) (omega arith) within in
    let here : one_if (nat_lt x thread) ≡ 1 = grind (arith, nat_tests) in
    omega (arith, here, rest, count-cons (λ y. nat_lt y thread) x xs)

-- the item at a place of a list without one item
without : (xs : List ℕ) (gone : ℕ) → gone < length xs → (k : ℕ)
    → (k < gone) × (get_or (remove xs gone) k 0 ≡ get_or xs k 0) ⊎ (gone ≤ k)
    × (get_or (remove xs gone) k 0 ≡ get_or xs (k + 1) 0)
without xs gone within k =
    elim (cases_lt k gone) [
      | inl lt ↦ inl (lt, get_or-remove_below xs gone 0 k lt within)
      | inr ge ↦ inr (ge, get_or-remove_above xs gone 0 k ge within)
    ]

rising-remove : (xs : List ℕ) (gone : ℕ) → gone < length xs → IsRising xs
    → IsRising (remove xs gone)
rising-remove xs gone within rising i j lt p =
    let long = length-remove xs gone within in
    elim (without xs gone within i) [
      | inl a ↦ elim (without xs gone within j) [
        | inl b ↦ omega (arith, a.1, b.1, rising i j lt (omega arith))
        | inr b ↦ omega (arith, a.1, b.1, rising i (j + 1) (omega arith) (omega arith))
      ]
      | inr a ↦ elim (without xs gone within j) [
        | inl b ↦ omega (arith, a.0, b.0)
        | inr b ↦ omega (arith, a.1, b.1, rising (i + 1) (j + 1) (omega arith) (omega arith))
      ]
    ]

-- the first place of a list, and the others
first-within : (threads place : ℕ) (places : List ℕ) → AreInBounds threads (place ∷ places)
    → place < threads
first-within threads place places are =
    omega (arith, are.whole, are.within 0 (omega (arith, are.whole)))

rest-within : (threads left place : ℕ) (places : List ℕ) → left + 1 ≡ threads
    → AreInBounds threads (place ∷ places) → AreInBounds left places
rest-within threads left place places e are = record {
  whole = omega (arith, are.whole);
  within = λ draw p. omega (arith, are.within (suc draw) (omega arith));
}

module _ (remaining : List ℕ) (place : ℕ) (places : List ℕ)
    (are : AreInBounds (length remaining) (place ∷ places)) where
  pub here : place < length remaining
  here = first-within (length remaining) place places are

  pub there : AreInBounds (length (remove remaining place)) places
  there =
      rest-within (length remaining) (length (remove remaining place)) place places
      (length-remove remaining place here) are

-- what is taken out is what was there
pub taken-same : (p : ℕ → Bool) (places remaining : List ℕ) → AreInBounds (length remaining) places
    → count_by p (taken_from remaining places) ≡ count_by p remaining
taken-same p [] [] are = refl
taken-same p [] (x ∷ xs) are = absurd (omega (arith, are.whole))
taken-same p (place ∷ places) remaining are =
    let first = here remaining place places are in
    let rest = taken-same p places (remove remaining place) (there remaining place places are) in
    omega (
      arith,
      rest,
      count-cons p (get_or remaining place 0)
          (taken_from (remove remaining place) places),
      count-remove p remaining place first,
    )

-- the places are read off the order that they give
pub places-of-taken : (places remaining : List ℕ) → IsRising remaining
    → AreInBounds (length remaining) places → places_of (taken_from remaining places) ≡ places
places-of-taken [] remaining rising are = refl
places-of-taken (place ∷ places) remaining rising are =
    let first = here remaining place places are in
    let after = there remaining place places are in
    let thread = get_or remaining place 0 in
    let rest = places-of-taken places (remove remaining place)
    (rising-remove remaining place first rising) after in
    let none : one_if (nat_lt thread thread) ≡ 0 = grind (arith, nat_tests) in
    let head : lower thread (taken_from (remove remaining place) places) ≡ place =
    omega (
      arith,
      none,
      taken-same (λ y. nat_lt y thread) places (remove remaining place) after,
      count-remove (λ y. nat_lt y thread) remaining place first,
      lower-at remaining rising place first,
    ) in
    cc

within-cons : (left place : ℕ) (places : List ℕ) → place < suc left
    → ((draw : ℕ) → draw < left → get_or places draw 0 < left - draw) → (draw : ℕ) → draw < suc left
    → get_or (place ∷ places) draw 0 < suc left - draw
within-cons left place places first rest zero p = omega (arith, first)
within-cons left place places first rest (suc draw) p = omega (arith, rest draw (omega arith))

places-cons : (left place : ℕ) (places : List ℕ) → place < suc left → AreInBounds left places
    → AreInBounds (suc left) (place ∷ places)
places-cons left place places first rest = record {
  whole = omega (arith, rest.whole);
  within = within-cons left place places first rest.within;
}

taken-cons : (thread : ℕ) (order remaining : List ℕ) (place : ℕ) → get_or remaining place 0 ≡ thread
    → taken_from (remove remaining place) (places_of order) ≡ order
    → taken_from remaining (place ∷ places_of order) ≡ thread ∷ order
taken-cons thread order remaining place is rest = cc

-- an order of what remains is given by its places
pub places-are : (order remaining : List ℕ) → IsRising remaining → length order ≡ length remaining
    → ((t : ℕ) → count_of t remaining ≡ count_of t order)
    → AreInBounds (length order) (places_of order)
    × (taken_from remaining (places_of order) ≡ order)
places-are [] remaining rising long same =
    (record { whole = refl; within = λ draw p. absurd (omega arith) }, refl)
places-are (thread ∷ order) remaining rising long same =
    let place = lower thread order in
    let none : one_if (nat_lt thread thread) ≡ 0 = grind (arith, nat_tests) in
    let one : one_if (eqb thread thread) ≡ 1 = ap (λ b. one_if b) (eq-eqb thread thread refl) in
    let at = located thread remaining
    (omega (arith, one, same thread, count-cons (λ y. eqb y thread) thread order)) in
    let found : place ≡ at.0 = omega (
      arith,
      none,
      count-cons (λ y. nat_lt y thread) thread order,
      lower-same remaining (thread ∷ order) same thread,
      ap (λ t. lower t remaining) at.2,
      lower-at remaining rising at.0 at.1,
    ) in
    let within : place < length remaining = omega (arith, at.1) in
    let is : get_or remaining place 0 ≡ thread = ap (λ k. get_or remaining k 0) found ∙ at.2 in
    let fewer = length-remove remaining place within in
    let others : (t : ℕ) → count_of t (remove remaining place) ≡ count_of t order = λ t.
    omega (
      arith,
      same t,
      count-cons (λ y. eqb y t) thread order,
      count-remove (λ y. eqb y t) remaining place within,
      ap (λ y. one_if (eqb y t)) is,
    ) in
    let rest = places-are order (remove remaining place)
    (rising-remove remaining place within rising) (omega (arith, long)) others in (
      places-cons (length order) place (places_of order) (omega (arith, long)) rest.0,
      taken-cons thread order remaining place is rest.1,
    )
