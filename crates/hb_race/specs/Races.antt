-- The data races of a run (this project's profile of happens-before).
use Rattle.std.specs.Prelude.{◌≡◌, ◌≢◌, ℕ, ℤ, pos, ◌+◌, ◌<◌, ◌≤◌, Bool, true, false, ◌||◌, List}
use Rattle.std.specs.Prelude.{[], ◌∷◌, map, All, Contains, Option, Some, None, slice_get}
use Rattle.std.specs.Ordering.{int_eq}
use Rattle.std.specs.List.Sorted.{IsStrictlyIncreasing}
use Rattle.pct_ask.specs.declared.ask.Ask.{Ask}
use Rattle.pct_ask.specs.declared.ask.Ask.TheVariants.{Read, Write, Add, Cas}
use Rattle.pct_ask.specs.declared.names.NameKind.{NameKind}
use Rattle.pct_ask.specs.declared.names.NameKind.TheVariants.{Var}
use Rattle.pct_ask.specs.Objects.{TestObject, objects_of}
use Rattle.pct_ask.specs.declared.event.Event.{Event}
use Rattle.hb_race.specs.declared.race.Race.{Race}
use Rattle.hb_race.specs.HappensBefore.{HappensBefore}

-- the place, where the kind is a variable's, and otherwise what is given beside it
abbrev pub variable_or : NameKind → ℕ → Option ℕ → Option ℕ
variable_or Var place other = Some place
variable_or _ place other = other

-- the first variable among some objects, if there is one
abbrev pub variable_among : List TestObject → Option ℕ
variable_among [] = None
variable_among (o ∷ others) = variable_or o.kind o.place (variable_among others)

-- the variable that a step accesses: the one that its ask names
abbrev pub variable_accessed : Ask → Option ℕ
variable_accessed ask = variable_among (objects_of ask)

-- whether an access is plain: it is not atomic
abbrev pub is_plain_access : Ask → Bool
is_plain_access (Read x) = true
is_plain_access (Write x value) = true
is_plain_access _ = false

-- whether an access writes; of compare-and-exchange only one that was answered 1
abbrev pub is_writing : Ask → ℤ → Bool
is_writing (Write x value) answer = true
is_writing (Add x value) answer = true
is_writing (Cas x old new) answer = int_eq answer (pos 1)
is_writing _ answer = false

-- The steps i and j race on the variable x: they are of different threads, both access it, at least
-- one is plain, at least one writes, and the earlier one does not happen before the later one.
pub record IsRace (events : List Event) (x i j : ℕ) : Type 0 where
  pub earlier : i < j
  pub a : Event
  pub b : Event
  pub first : slice_get events i ≡ Some a
  pub second : slice_get events j ≡ Some b
  pub apart : a.thread ≢ b.thread
  pub first_accesses : variable_accessed a.ask ≡ Some x
  pub second_accesses : variable_accessed b.ask ≡ Some x
  pub plain : (is_plain_access a.ask || is_plain_access b.ask) ≡ true
  pub writes : (is_writing a.ask a.answer || is_writing b.ask b.answer) ≡ true
  pub unordered : HappensBefore events i j → ⊥

-- What is reported of a variable, with steps numbered from 1: the later step is the least that
-- races with an earlier one on it, and the earlier step is the greatest that races with that one.
pub record IsReported (events : List Event) (race : Race) : Type 0 where
  pub first : ℕ
  pub second : ℕ
  pub first_number : race.first ≡ first + 1
  pub second_number : race.second ≡ second + 1
  pub races : IsRace events race.var first second
  pub least : (i j : ℕ) → IsRace events race.var i j → second ≤ j
  pub greatest : (i : ℕ) → IsRace events race.var i second → i ≤ first

-- the races of a run: one for each variable on which some steps race, in the order of the variables
pub record AreRaces (events : List Event) (races : List Race) : Type 0 where
  pub ordered : IsStrictlyIncreasing (map (λ race. race.var) races)
  pub each : All (IsReported events) races
  pub every : (x i j : ℕ) → IsRace events x i j → Contains (map (λ race. race.var) races) x
