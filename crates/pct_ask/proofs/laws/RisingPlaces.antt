-- Places whose threads rise.
use Rattle.std.specs.List.Sorted.{IsStrictlyIncreasing}
use Rattle.std.proofs.Common.{ℕ, ◌+◌, ◌<◌, ◌≤◌, List, [], ◌∷◌, length, get_or, suc, arith, add-one}
use Rattle.pct_ask.specs.NameLists.{NameLists}
use Rattle.pct_ask.specs.VerdictText.{thread_name}

-- threads that rise, from a least one on
abbrev pub RiseFrom : ℕ → List ℕ → Type 0
RiseFrom least [] = Unit {0}
RiseFrom least (t ∷ ts) = (least ≤ t) × RiseFrom (t + 1) ts

rise-tail : (x : ℕ) (xs : List ℕ) → IsStrictlyIncreasing (x ∷ xs) → IsStrictlyIncreasing xs
rise-tail x xs rising k h =
    let later = rw add-one at (rising (suc k) (omega arith)) in rw add-one later

rise-first : (x : ℕ) (xs : List ℕ) → IsStrictlyIncreasing (x ∷ xs) → 0 < length xs
    → x < get_or xs 0 0
rise-first x xs rising h = rising 0 (omega arith)

rise-from : (least : ℕ) (xs : List ℕ) → (0 < length xs → least ≤ get_or xs 0 0)
    → IsStrictlyIncreasing xs → RiseFrom least xs
rise-from least [] low rising = tt
rise-from least (x ∷ xs) low rising =
    let first = rise-first x xs rising in (
      low (omega arith),
      rise-from (x + 1) xs (λ h. let above = first h in omega arith)
          (rise-tail x xs rising),
    )

pub RiseFrom-increasing : (xs : List ℕ) → IsStrictlyIncreasing xs → RiseFrom 0 xs
RiseFrom-increasing xs rising = rise-from 0 xs (λ h. omega arith) rising

-- a place with its thread by its name
abbrev pub named_place : NameLists → ℕ × ℕ → List ℕ × ℕ
named_place names place = (thread_name names place.0, place.1)
