-- A verdict as a text: words with one space between them, in which threads stand by their names
-- (this project).
use Rattle.std.specs.Prelude.{◌≡◌, ℕ, ◌≤◌, ◌<◌, None, List, [], ◌∷◌, true, length, codes, decimal}
use Rattle.std.specs.Prelude.{map, All, Any, ⊤}
use Rattle.std.specs.List.{slice_index_or, flat_map, filter_map, join_with_byte}
use Rattle.std.specs.List.Sorted.{IsStrictlyIncreasing}
use Rattle.pct_ask.specs.Words.{is_name}
use Rattle.pct_ask.specs.NameLists.{NameLists, place_of}
use Rattle.pct_ask.specs.declared.ask.FaultKind.{FaultKind}
use Rattle.pct_ask.specs.declared.ask.FaultKind.TheVariants.{Overflow, ZeroDivisor, Spin}
use Rattle.pct_ask.specs.declared.verdict.MisuseKind.{MisuseKind}
use Rattle.pct_ask.specs.declared.verdict.MisuseKind.TheVariants.{NotOwner, SemFull, AlreadyStarted}
use Rattle.pct_ask.specs.declared.verdict.MisuseKind.TheVariants.{TooManyReads}
use Rattle.pct_ask.specs.declared.verdict.Verdict.{Verdict}
use Rattle.pct_ask.specs.declared.verdict.Verdict.TheVariants.{Passed, Failed, Stuck, Misuse, Fault}
use Rattle.pct_ask.specs.declared.verdict.Verdict.TheVariants.{Cut}
use Rattle.pct_ask.specs.declared.limits.TheConstants.{MAX_LINES}

-- a verdict whose threads are given by their names
pub data NamedVerdict : Type 0 where
  NamedPassed : NamedVerdict
  NamedFailed : (name : List ℕ) (line : ℕ) → NamedVerdict
  NamedStuck : (places : List (List ℕ × ℕ)) → NamedVerdict
  NamedMisuse : (name : List ℕ) (line : ℕ) (kind : MisuseKind) → NamedVerdict
  NamedFault : (name : List ℕ) (line : ℕ) (kind : FaultKind) → NamedVerdict
  NamedCut : NamedVerdict

-- the word for what a thread did that its object forbids
abbrev pub misuse_word : MisuseKind → List ℕ
misuse_word NotOwner = codes "notowner"
misuse_word SemFull = codes "semfull"
misuse_word AlreadyStarted = codes "alreadystarted"
misuse_word TooManyReads = codes "toomanyreads"

-- the word for why a thread couldn't go on by itself
abbrev pub fault_word : FaultKind → List ℕ
fault_word Overflow = codes "overflow"
fault_word ZeroDivisor = codes "zerodivisor"
fault_word Spin = codes "spin"

-- a thread's name, and its line in decimal
abbrev pub place_words : List ℕ × ℕ → List (List ℕ)
place_words place = place.0 ∷ decimal place.1 ∷ []

-- a verdict as words: the first says how the run ended; where threads belong to that, each follows
-- with its line, and a misuse or a fault ends with the word of its kind
abbrev pub verdict_words : NamedVerdict → List (List ℕ)
verdict_words NamedPassed = codes "passed" ∷ []
verdict_words (NamedFailed name line) = codes "failed" ∷ name ∷ decimal line ∷ []
verdict_words (NamedStuck places) = codes "stuck" ∷ flat_map place_words places
verdict_words (NamedMisuse name line kind) =
    codes "misuse" ∷ name ∷ decimal line ∷ misuse_word kind ∷ []
verdict_words (NamedFault name line kind) =
    codes "fault" ∷ name ∷ decimal line ∷ fault_word kind ∷ []
verdict_words NamedCut = codes "cut" ∷ []

-- a verdict's words, with one space between them
abbrev pub named_text : NamedVerdict → List ℕ
named_text verdict = join_with_byte 32 (verdict_words verdict)

-- a thread's name, and no bytes where there is no such thread
abbrev pub thread_name : NameLists → ℕ → List ℕ
thread_name names thread = slice_index_or names.threads thread []

-- the verdict with its threads by their names
abbrev pub named_verdict : NameLists → Verdict → NamedVerdict
named_verdict names Passed = NamedPassed
named_verdict names (Failed thread line) = NamedFailed (thread_name names thread) line
named_verdict names (Stuck places) =
    NamedStuck (map (λ place. (thread_name names place.0, place.1)) places)
named_verdict names (Misuse thread line kind) = NamedMisuse (thread_name names thread) line kind
named_verdict names (Fault thread line kind) = NamedFault (thread_name names thread) line kind
named_verdict names Cut = NamedCut

-- the text of a verdict, by the names that the test gives to its threads
abbrev pub verdict_text : NameLists → Verdict → List ℕ
verdict_text names verdict = named_text (named_verdict names verdict)

-- a line number that a test may have
abbrev pub IsLine : ℕ → Type 0
IsLine line = (1 ≤ line) × (line ≤ MAX_LINES)

-- a lawful name by the first version's keywords, and a line of a test
abbrev pub IsPlace : List ℕ × ℕ → Type 0
IsPlace place = (is_name 1 place.0 ≡ true) × IsLine place.1

-- the threads of those names that are a thread's
abbrev pub known_threads : NameLists → List (List ℕ × ℕ) → List ℕ
known_threads names places = filter_map (λ place. place_of place.0 names.threads) places

-- A verdict by form: its names are lawful and its lines are a test's. A list of blocked threads
-- isn't empty, and the threads among its names stand in strictly rising order.
abbrev pub IsVerdictForm : NameLists → NamedVerdict → Type 0
IsVerdictForm names NamedPassed = ⊤
IsVerdictForm names (NamedFailed name line) = IsPlace (name, line)
IsVerdictForm names (NamedStuck places) =
    (0 < length places) × All IsPlace places × IsStrictlyIncreasing (known_threads names places)
IsVerdictForm names (NamedMisuse name line kind) = IsPlace (name, line)
IsVerdictForm names (NamedFault name line kind) = IsPlace (name, line)
IsVerdictForm names NamedCut = ⊤

-- the names in a verdict, in its order
abbrev pub names_in : NamedVerdict → List (List ℕ)
names_in NamedPassed = []
names_in (NamedFailed name line) = name ∷ []
names_in (NamedStuck places) = map (λ place. place.0) places
names_in (NamedMisuse name line kind) = name ∷ []
names_in (NamedFault name line kind) = name ∷ []
names_in NamedCut = []

-- no thread of the test has the name
abbrev pub IsNobody : NameLists → List ℕ → Type 0
IsNobody names name = place_of name names.threads ≡ None

-- some name in it is no thread's
abbrev pub HasUnknownThread : NameLists → NamedVerdict → Type 0
HasUnknownThread names verdict = Any (IsNobody names) (names_in verdict)

-- the threads in a verdict, in its order
abbrev pub threads_in : Verdict → List ℕ
threads_in Passed = []
threads_in (Failed thread line) = thread ∷ []
threads_in (Stuck places) = map (λ place. place.0) places
threads_in (Misuse thread line kind) = thread ∷ []
threads_in (Fault thread line kind) = thread ∷ []
threads_in Cut = []

-- every thread in it has a name
abbrev pub HasNames : NameLists → Verdict → Type 0
HasNames names verdict = All (λ thread. thread < length names.threads) (threads_in verdict)

-- its lines are a test's, and a list of blocked threads isn't empty
abbrev pub IsWholeVerdict : Verdict → Type 0
IsWholeVerdict Passed = ⊤
IsWholeVerdict (Failed thread line) = IsLine line
IsWholeVerdict (Stuck places) = (0 < length places) × All (λ place. IsLine place.1) places
IsWholeVerdict (Misuse thread line kind) = IsLine line
IsWholeVerdict (Fault thread line kind) = IsLine line
IsWholeVerdict Cut = ⊤
