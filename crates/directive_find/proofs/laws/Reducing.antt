-- Lists from which single items are left out, each time the first that can be.
use Rattle.std.proofs.Common.{◌≡◌, ℕ, ◌+◌, ◌<◌, ◌≤◌, List, length, refl, sym, subst, arith, inl}
use Rattle.std.proofs.Common.{inr}
use Rattle.std.specs.List.{All, remove}
use Rattle.std.proofs.lemmas.Bool.{cases_eq, cases_lt}
use Rattle.std.proofs.lemmas.List.Elements.{All-get_or, All-from_get_or}
use Rattle.std.proofs.lemmas.List.Edits.{length-remove, get_or-remove_below, get_or-remove_above}
use Rattle.directive_find.specs.Reduced.{NeedsFirst, IsFirstToLeaveOut, Reduces, Stays, Drops}

-- what holds of each item holds of those that are left
all-remove : {X : Type 0} (P : X → Type 0) (d : X) (items : List X) (place : ℕ)
    → place < length items → All P items → All P (remove items place)
all-remove P d items place within all =
    All-from_get_or P (remove items place) d (λ i l. elim (cases_lt i place) [
      | inl lt ↦ subst P (sym (get_or-remove_below items place d i lt within))
          (All-get_or P items i d (omega arith) all)
      | inr ge ↦ subst P (sym (get_or-remove_above items place d i ge within))
          (All-get_or P items (i + 1) d (omega (arith, length-remove items place within)) all)
    ])

module _ {X : Type 0} (Holds : List X → Type 0) where
  -- The list that is left holds.
  pub reduced-holds : (items left : List X) → Reduces Holds items left → Holds items → Holds left
  reduced-holds _ _ (Stays items none) holds = holds
  reduced-holds _ _ (Drops items left place first rest) holds =
      reduced-holds (remove items place) left rest first.holds

  -- It needs each of its items.
  pub reduced-least : (items left : List X) → Reduces Holds items left
      → NeedsFirst Holds left (length left)
  reduced-least _ _ (Stays items none) = none
  reduced-least _ _ (Drops items left place first rest) =
      reduced-least (remove items place) left rest

  -- Its items are some of the list's.
  pub reduced-all : (P : X → Type 0) (d : X) (items left : List X) → Reduces Holds items left
      → All P items → All P left
  reduced-all P d _ _ (Stays items none) all = all
  reduced-all P d _ _ (Drops items left place first rest) all =
      reduced-all P d (remove items place) left rest (all-remove P d items place first.within all)

  -- They are no more.
  pub reduced-few : (items left : List X) → Reduces Holds items left → length left ≤ length items
  reduced-few _ _ (Stays items none) = omega arith
  reduced-few _ _ (Drops items left place first rest) =
      let fewer = reduced-few (remove items place) left rest in
      omega (arith, fewer, length-remove items place first.within, first.within)

  same-place : (items : List X) (one other : ℕ) → IsFirstToLeaveOut Holds items one
      → IsFirstToLeaveOut Holds items other → one ≡ other
  same-place items one other a b = elim (cases_eq one other) [
    | inl e ↦ e
    | inr ne ↦ elim (cases_lt one other) [
      | inl lt ↦ absurd (b.before one lt a.holds)
      | inr ge ↦ absurd (a.before other (omega arith) b.holds)
    ]
  ]

  -- Only one list is left.
  pub reduced-only : (items left other : List X) → Reduces Holds items left
      → Reduces Holds items other → left ≡ other
  reduced-only _ _ other (Stays items none) two = by other two none where
    by : (other : List X) → Reduces Holds items other → NeedsFirst Holds items (length items)
        → items ≡ other
    by _ (Stays items none') none = refl
    by _ (Drops items other place first rest) none = absurd (none place first.within first.holds)
  reduced-only _ _ other (Drops items left place first rest) two =
      by other two (λ o r. reduced-only (remove items place) left o rest r) where
        by : (other : List X) → Reduces Holds items other
            → ((o : List X) → Reduces Holds (remove items place) o → left ≡ o) → left ≡ other
        by _ (Stays items none) further = absurd (none place first.within first.holds)
        by _ (Drops items other place' first' rest') further =
            let R : ℕ → Type 0 = λ j. Reduces Holds (remove items j) other in
            further other (subst R (same-place items place' place first' first) rest')
