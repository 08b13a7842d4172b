-- Laws on happens-before and on the races of a run (this project).
use Rattle.std.specs.Prelude.{◌≡◌, ℕ, Bool, true, List}
use Rattle.pct_ask.specs.declared.event.Event.{Event}
use Rattle.hb_race.specs.declared.race.Race.{Race}
use Rattle.hb_race.specs.HappensBefore.{IsEdge, HappensBefore}
use Rattle.hb_race.specs.Races.{AreRaces}

-- what is related by a middle one is related
abbrev pub IsTransitive : (ℕ → ℕ → Type 0) → Type 0
IsTransitive relation =
    (first middle last : ℕ) → relation first middle → relation middle last → relation first last

-- Happens-before has the edges of a run, and is transitive.
abbrev pub HasTheEdges : Type 0
HasTheEdges =
    (events : List Event)
    → ((first last : ℕ) → IsEdge events first last → HappensBefore events first last)
    × IsTransitive (HappensBefore events)

-- It is the least such relation: whatever relation has the edges and is transitive, as a test of
-- two steps, has it.
abbrev pub IsTheLeast : Type 0
IsTheLeast =
    (events : List Event) (relates : ℕ → ℕ → Bool)
    → ((first last : ℕ) → IsEdge events first last → relates first last ≡ true)
    → IsTransitive (λ first last. relates first last ≡ true)
    → (first last : ℕ) → HappensBefore events first last → relates first last ≡ true

-- A run has one list of races.
abbrev pub EachHasOneList : Type 0
EachHasOneList =
    (events : List Event) (one other : List Race)
    → AreRaces events one → AreRaces events other → one ≡ other
