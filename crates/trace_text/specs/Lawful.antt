-- What the parts of a trace may be (this project).
use Rattle.std.specs.Prelude.{◌≡◌, ℕ, ℤ, ◌≤◌, ◌<◌, ◌⊎◌, Bool, true, false, length, FitsSigned}
use Rattle.std.specs.Prelude.{List, All}
use Rattle.std.specs.Int.{w64}
use Rattle.pct_ask.specs.NameLists.{NameLists}
use Rattle.pct_ask.specs.Objects.{sizes_of_names, IsInRange}
use Rattle.pct_ask.specs.VerdictText.{named_verdict, IsVerdictForm, HasNames, IsWholeVerdict}
use Rattle.pct_ask.specs.VerdictText.{IsLine}
use Rattle.pct_ask.specs.declared.ask.Ask.{Ask}
use Rattle.pct_ask.specs.declared.ask.Ask.TheVariants.{Write, Add, Cas, RdLock, WrLock, TryRdLock}
use Rattle.pct_ask.specs.declared.ask.Ask.TheVariants.{TryWrLock, RwUnlock}
use Rattle.pct_ask.specs.declared.event.Event.{Event}
use Rattle.pct_ask.specs.declared.verdict.MisuseKind.TheVariants.{NotOwner, SemFull, AlreadyStarted}
use Rattle.pct_ask.specs.declared.verdict.MisuseKind.TheVariants.{TooManyReads}
use Rattle.pct_ask.specs.declared.verdict.Verdict.{Verdict}
use Rattle.pct_ask.specs.declared.verdict.Verdict.TheVariants.{Passed, Failed, Stuck, Misuse}
use Rattle.pct_ask.specs.declared.verdict.Verdict.TheVariants.{Fault as VerdictFault, Cut}
use Rattle.pct_ask.specs.TraceText.{TraceHead}
use Rattle.pct_ask.specs.Limits.{IsStepCount}
use Rattle.rank_now.specs.Order.{IsOrder}
use Rattle.pct_ask.specs.declared.limits.TheConstants.{MAX_POINTS}

-- the numbers of an ask and of an answer are i64s
abbrev pub IsValue : ℤ → Type 0
IsValue z = FitsSigned w64 z

-- The threads and objects that an ask names have names, and in the first version it asks nothing of
-- a read-write lock.
abbrev pub HasObjects : NameLists → ℕ → Ask → Type 0
HasObjects names version (RdLock l) =
    IsInRange (sizes_of_names names) (RdLock l) × (version ≡ 2)
HasObjects names version (WrLock l) =
    IsInRange (sizes_of_names names) (WrLock l) × (version ≡ 2)
HasObjects names version (TryRdLock l) =
    IsInRange (sizes_of_names names) (TryRdLock l) × (version ≡ 2)
HasObjects names version (TryWrLock l) =
    IsInRange (sizes_of_names names) (TryWrLock l) × (version ≡ 2)
HasObjects names version (RwUnlock l) =
    IsInRange (sizes_of_names names) (RwUnlock l) × (version ≡ 2)
HasObjects names version ask = IsInRange (sizes_of_names names) ask

-- an ask of a test in a trace of a version: its numbers are i64s besides
abbrev pub IsAsk : NameLists → ℕ → Ask → Type 0
IsAsk names version (Write x value) = HasObjects names version (Write x value) × IsValue value
IsAsk names version (Add x value) = HasObjects names version (Add x value) × IsValue value
IsAsk names version (Cas x old new) =
    HasObjects names version (Cas x old new) × IsValue old × IsValue new
IsAsk names version ask = HasObjects names version ask

-- what a step names is there, and its line is a test's
pub record NamesKnown (names : NameLists) (version : ℕ) (event : Event) : Type 0 where
  pub thread : event.thread < length names.threads
  pub line : IsLine event.line
  pub objects : HasObjects names version event.ask

-- a step of a test in a trace of a version
pub record IsStep (names : NameLists) (version : ℕ) (event : Event) : Type 0 where
  pub thread : event.thread < length names.threads
  pub line : IsLine event.line
  pub ask : IsAsk names version event.ask
  pub answer : IsValue event.answer

-- a verdict that comes from read-write locks alone
abbrev pub is_of_second : Verdict → Bool
is_of_second Passed = false
is_of_second (Failed thread line) = false
is_of_second (Stuck places) = false
is_of_second (Misuse thread line NotOwner) = false
is_of_second (Misuse thread line SemFull) = false
is_of_second (Misuse thread line AlreadyStarted) = false
is_of_second (Misuse thread line TooManyReads) = true
is_of_second (VerdictFault thread line kind) = false
is_of_second Cut = false

-- A verdict of a test in a trace of a version: its threads have names, its lines are a test's, a
-- list of blocked threads rises and isn't empty, and the first version has no misuse of a
-- read-write lock.
pub record IsEnd (names : NameLists) (version : ℕ) (verdict : Verdict) : Type 0 where
  pub threads : HasNames names verdict
  pub form : IsVerdictForm names (named_verdict names verdict)
  pub known : (is_of_second verdict ≡ false) ⊎ (version ≡ 2)

-- A verdict that a trace of a version may tell of a test: its threads have names, its lines are a
-- test's, a list of blocked threads isn't empty, and the first version has no misuse of a
-- read-write lock.
pub record IsKnownVerdict (names : NameLists) (version : ℕ) (verdict : Verdict) : Type 0 where
  pub threads : HasNames names verdict
  pub whole : IsWholeVerdict verdict
  pub known : (is_of_second verdict ≡ false) ⊎ (version ≡ 2)

-- A run that a trace of a version may tell of a test: it has at most so many steps, and they and
-- the verdict name only what there is.
pub record IsKnownRun (names : NameLists) (version limit : ℕ) (events : List Event)
    (verdict : Verdict) : Type 0 where
  pub few : length events ≤ limit
  pub steps : All (NamesKnown names version) events
  pub end : IsKnownVerdict names version verdict

-- The head of a trace: its version is 1 or 2, its order is one of all threads, it has few points,
-- and each point and the limit is a number of steps.
pub record IsHead (names : NameLists) (head : TraceHead) : Type 0 where
  pub version : (head.version ≡ 1) ⊎ (head.version ≡ 2)
  pub order : IsOrder head.order
  pub whole : length head.order ≡ length names.threads
  pub few_points : length head.points ≤ MAX_POINTS
  pub points : All IsStepCount head.points
  pub limit : IsStepCount head.limit
