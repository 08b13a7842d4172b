-- The last access of each thread and kind, and the races that they tell of.
use Rattle.std.specs.Prelude.{◌≡◌, ◌≢◌, ℕ, zero, suc, ◌<◌, ◌≤◌, max, ◌==◌, ◌&&◌, Bool, true, false}
use Rattle.std.specs.Prelude.{if◌then◌else◌, nat_lt, Option, Some, None, ◌+◌, List, [], length}
use Rattle.std.specs.Prelude.{replicate, slice_index_or, slice_set, MatchOption}
use Rattle.std.specs.Option.{option_map}
use Rattle.hb_race.specs.declared.access.AccessKind.{AccessKind}
use Rattle.hb_race.specs.declared.access.AccessKind.TheVariants.{PlainRead, PlainWrite, AtomicRead}
use Rattle.hb_race.specs.declared.access.AccessKind.TheVariants.{AtomicWrite}
use Rattle.hb_race.specs.declared.history.LastAccess.{LastAccess}
use Rattle.hb_race.specs.declared.history.History.{History}
use Rattle.hb_race.specs.declared.race.Race.{Race}
use Rattle.hb_race.specs.Order.{Steps, HasLines, Before}
use Rattle.hb_race.specs.Clocks.{own, stamp}
use Rattle.hb_race.specs.Accesses.{conflict, same_kind}
use Rattle.pct_ask.specs.declared.limits.TheConstants.{MAX_THREADS}

-- how each step accesses a variable
abbrev pub Accesses : Type 0
Accesses = ℕ → Option AccessKind

-- an earlier step and a later one race
pub record StepsRace {O : Type 0} (s : Steps O) (access : Accesses) (i j : ℕ) : Type 0 where
  pub earlier : i < j
  pub apart : s.thread i ≢ s.thread j
  pub first : AccessKind
  pub second : AccessKind
  pub at_first : access i ≡ Some first
  pub at_second : access j ≡ Some second
  pub conflicts : conflict first second ≡ true
  pub unordered : Before s i j → ⊥

abbrev pub is_of : Option AccessKind → AccessKind → Bool
is_of None kind = false
is_of (Some k) kind = same_kind k kind

-- the last of the first n steps that is the thread's and accesses the variable so
abbrev pub last : {O : Type 0} → Steps O → Accesses → ℕ → AccessKind → ℕ → Option ℕ
last s access u kind zero = None
last s access u kind (suc n) =
    if (s.thread n == u) && is_of (access n) kind then Some n else last s access u kind n

-- what is kept of it: its number, from 1, and its number among its thread's own steps
abbrev pub kept_access : {O : Type 0} → Steps O → ℕ → LastAccess
kept_access s i = record { step = i + 1; own = own s i }

-- the last accesses of a kind, for each thread, after n steps
abbrev pub AreLasts
    : {O : Type 0} → Steps O → Accesses → AccessKind → ℕ → List (Option LastAccess) → Type 0
AreLasts s access kind n lasts =
    (u : ℕ) → u < MAX_THREADS
    → slice_index_or lasts u None ≡ option_map (kept_access s) (last s access u kind n)

abbrev pub lasts_of : AccessKind → History → List (Option LastAccess)
lasts_of PlainRead history = history.plain_reads
lasts_of PlainWrite history = history.plain_writes
lasts_of AtomicRead history = history.atomic_reads
lasts_of AtomicWrite history = history.atomic_writes

abbrev pub with_last : AccessKind → ℕ → LastAccess → History → History
with_last PlainRead u last history =
    record history { plain_reads = slice_set history.plain_reads u (Some last) }
with_last PlainWrite u last history =
    record history { plain_writes = slice_set history.plain_writes u (Some last) }
with_last AtomicRead u last history =
    record history { atomic_reads = slice_set history.atomic_reads u (Some last) }
with_last AtomicWrite u last history =
    record history { atomic_writes = slice_set history.atomic_writes u (Some last) }

abbrev pub new_history : History
new_history = record {
  plain_reads = replicate MAX_THREADS None;
  plain_writes = replicate MAX_THREADS None;
  atomic_reads = replicate MAX_THREADS None;
  atomic_writes = replicate MAX_THREADS None;
  race = None;
}

-- what stands past the last variable
abbrev pub no_history : History
no_history = record {
  plain_reads = [];
  plain_writes = [];
  atomic_reads = [];
  atomic_writes = [];
  race = None;
}

-- the last accesses of all kinds, after n steps
pub record HasLasts
    {O : Type 0} (s : Steps O) (access : Accesses) (n : ℕ) (history : History)
    : Type 0 where
  pub lasts : (kind : AccessKind) → AreLasts s access kind n (lasts_of kind history)
  pub long : (kind : AccessKind) → length (lasts_of kind history) ≡ MAX_THREADS

-- none of the first n steps races with an earlier one
abbrev pub NoneRaces : {O : Type 0} → Steps O → Accesses → ℕ → Type 0
NoneRaces s access n = (i j : ℕ) → j < n → StepsRace s access i j → ⊥

-- the least step that races with an earlier one, and the greatest that races with it
pub record IsFirstRace
    {O : Type 0} (s : Steps O) (access : Accesses) (x : ℕ) (race : Race)
    : Type 0 where
  pub first : ℕ
  pub second : ℕ
  pub var : race.var ≡ x
  pub first_number : race.first ≡ first + 1
  pub second_number : race.second ≡ second + 1
  pub races : StepsRace s access first second
  pub least : (i j : ℕ) → StepsRace s access i j → second ≤ j
  pub greatest : (i : ℕ) → StepsRace s access i second → i ≤ first

-- what is known of a variable after n steps: its first race, or that none of them races and the
-- last accesses
abbrev pub IsHistory : {O : Type 0} → Steps O → Accesses → ℕ → ℕ → History → Type 0
IsHistory s access x n history =
    MatchOption history.race
    (HasLasts s access n history × NoneRaces s access n)
    (IsFirstRace s access x)

-- ---- the search for the greatest step that races
-- what is found is the greatest number of which P holds, if there is one
abbrev pub IsGreatest : (ℕ → Type 0) → Option ℕ → Type 0
IsGreatest P None = (k : ℕ) → P k → ⊥
IsGreatest P (Some most) = P most × ((k : ℕ) → P k → k ≤ most)

-- the step of a last access, where its thread's steps up to that one aren't known to come before
abbrev pub untold_step : Option LastAccess → ℕ → Option ℕ
untold_step None known = None
untold_step (Some last) known = if nat_lt known last.own then Some last.step else None

-- so it is with the last access of one of the first k threads, which isn't the thread's own
abbrev pub IsUntold : List (Option LastAccess) → ℕ → List ℕ → ℕ → ℕ → Type 0
IsUntold lasts thread clock k step =
    (u : ℕ) × (u < k) × (u ≢ thread)
    × (untold_step (slice_index_or lasts u None) (slice_index_or clock u 0) ≡ Some step)

abbrev pub IsLatest : List (Option LastAccess) → ℕ → List ℕ → ℕ → Option ℕ → Type 0
IsLatest lasts thread clock k = IsGreatest (IsUntold lasts thread clock k)

abbrev pub later : Option ℕ → Option ℕ → Option ℕ
later None b = b
later (Some m) None = Some m
later (Some m) (Some n) = Some (max m n)

-- the step n accesses the variable so, and this is its thread and its clock
pub record IsCurrent
    {O : Type 0} (s : Steps O) (access : Accesses) (n : ℕ)
    (kind : AccessKind) (thread : ℕ) (clock : List ℕ)
    : Type 0 where
  pub lines : HasLines s
  pub own_step : s.thread n ≡ thread
  pub threads : (i : ℕ) → s.thread i < MAX_THREADS
  pub accesses : access n ≡ Some kind
  pub stamped : (u : ℕ) → slice_index_or clock u 0 ≡ stamp s n u

-- a last access of a kind, by its number, that the clock of the step j doesn't tell of
pub record IsFlagged
    {O : Type 0} (s : Steps O) (access : Accesses) (j : ℕ)
    (first second : AccessKind) (number : ℕ)
    : Type 0 where
  pub step : ℕ
  pub number_is : number ≡ step + 1
  pub at_last : last s access (s.thread step) first j ≡ Some step
  pub apart : s.thread step ≢ s.thread j
  pub conflicts : conflict first second ≡ true
  pub untold : stamp s j (s.thread step) < own s step

-- a step, by its number, that races with the step j
abbrev pub NumbersRace : {O : Type 0} → Steps O → Accesses → ℕ → ℕ → Type 0
NumbersRace s access j number = (i : ℕ) × (number ≡ i + 1) × StepsRace s access i j
