-- How the words of a text are read as a verdict, one after another (this project).
use Rattle.std.specs.Prelude.{ℕ, ◌+◌, Bool, true, false, ◌==◌, nat_le, if◌then◌else◌, Option, Some}
use Rattle.std.specs.Prelude.{None, List, [], ◌∷◌, ◌++◌, codes, length}
use Rattle.std.proofs.Common.{Bor}
use Rattle.std.specs.List.{slice_split}
use Rattle.std.specs.Option.{option_map}
use Rattle.std.specs.Str.{bytes_eq}
use Rattle.pct_ask.specs.Numbers.{number_in}
use Rattle.pct_ask.specs.Words.{is_name}
use Rattle.pct_ask.specs.NameLists.{NameLists, place_of}
use Rattle.pct_ask.specs.declared.ask.FaultKind.{FaultKind}
use Rattle.pct_ask.specs.declared.ask.FaultKind.TheVariants.{Overflow, ZeroDivisor, Spin}
use Rattle.pct_ask.specs.declared.verdict.MisuseKind.{MisuseKind}
use Rattle.pct_ask.specs.declared.verdict.MisuseKind.TheVariants.{NotOwner, SemFull, AlreadyStarted}
use Rattle.pct_ask.specs.declared.verdict.MisuseKind.TheVariants.{TooManyReads}
use Rattle.pct_ask.specs.declared.verdict.Verdict.{Verdict}
use Rattle.pct_ask.specs.declared.verdict.Verdict.TheVariants.{Passed, Failed, Stuck, Misuse, Fault}
use Rattle.pct_ask.specs.declared.verdict.Verdict.TheVariants.{Cut}
use Rattle.pct_ask.specs.declared.verdict_text.VerdictRead.{VerdictRead}
use Rattle.pct_ask.specs.declared.verdict_text.VerdictRead.TheVariants.{Is, NoForm, UnknownName}
use Rattle.pct_ask.specs.declared.verdict_words.PlacedKind.{PlacedKind}
use Rattle.pct_ask.specs.declared.verdict_words.PlacedKind.TheVariants.{Failure, Misused, Faulted}
use Rattle.pct_ask.specs.declared.limits.TheConstants.{MAX_LINES}

-- what stands between single spaces
abbrev pub words_of : List ℕ → List (List ℕ)
words_of text = slice_split (λ b. b == 32) text

-- the words after one that was cut off
abbrev pub words_after : Option (Bor (List ℕ)) → List (List ℕ)
words_after None = []
words_after (Some rest) = words_of rest.now

-- how many bytes they take, with the space before them
abbrev pub length_with_space : Option (Bor (List ℕ)) → ℕ
length_with_space None = 0
length_with_space (Some rest) = length rest.now + 1

-- the line of a test that a word spells
abbrev pub line_number : List ℕ → Option ℕ
line_number word = number_in 1 MAX_LINES word

-- a place and the words after it, where its name is lawful and its line is a test's; its name may
-- be no thread's
abbrev pub place_by : Bool → Option ℕ → Option ℕ → List (List ℕ)
    → Option (Option ℕ × ℕ × List (List ℕ))
place_by false thread line rest = None
place_by true thread None rest = None
place_by true thread (Some n) rest = Some (thread, n, rest)

-- a name and a line at the front: the thread of that name, if it is one's, the line, and the other
-- words
abbrev pub first_place : NameLists → List (List ℕ) → Option (Option ℕ × ℕ × List (List ℕ))
first_place names [] = None
first_place names (name ∷ []) = None
first_place names (name ∷ line ∷ rest) =
    place_by (is_name 1 name) (place_of name names.threads) (line_number line) rest

-- the misuse that a word stands for
abbrev pub misuse_kind : List ℕ → Option MisuseKind
misuse_kind word =
    if bytes_eq word (codes "notowner") then Some NotOwner
    else (if bytes_eq word (codes "semfull") then Some SemFull
    else (if bytes_eq word (codes "alreadystarted") then Some AlreadyStarted
    else (if bytes_eq word (codes "toomanyreads") then Some TooManyReads else None)))

-- the fault that a word stands for
abbrev pub fault_kind : List ℕ → Option FaultKind
fault_kind word =
    if bytes_eq word (codes "overflow") then Some Overflow
    else (if bytes_eq word (codes "zerodivisor") then Some ZeroDivisor
    else (if bytes_eq word (codes "spin") then Some Spin else None))

-- the kind of a verdict at one place, by its first word and those after the place
abbrev pub placed_kind : List ℕ → List (List ℕ) → Option PlacedKind
placed_kind head [] = if bytes_eq head (codes "failed") then Some Failure else None
placed_kind head (word ∷ []) =
    if bytes_eq head (codes "misuse") then option_map (λ kind. Misused kind) (misuse_kind word)
    else (if bytes_eq head (codes "fault") then option_map (λ kind. Faulted kind) (fault_kind word)
    else None)
placed_kind head (word ∷ other ∷ rest) = None

-- the verdict of this kind, of a thread at a line
abbrev pub verdict_at : PlacedKind → ℕ → ℕ → Verdict
verdict_at Failure thread line = Failed thread line
verdict_at (Misused kind) thread line = Misuse thread line kind
verdict_at (Faulted kind) thread line = Fault thread line kind

-- no form where there is no kind, and an unknown name where the name is no thread's
abbrev pub placed_read : Option PlacedKind → Option ℕ → ℕ → VerdictRead
placed_read None thread line = NoForm
placed_read (Some kind) None line = UnknownName
placed_read (Some kind) (Some thread) line = Is (verdict_at kind thread line)

-- a verdict at one place, by its first word, and the place with the words after it, if there is one
abbrev pub placed_words : List ℕ → Option (Option ℕ × ℕ × List (List ℕ)) → VerdictRead
placed_words head None = NoForm
placed_words head (Some place) = placed_read (placed_kind head place.2) place.0 place.1

-- places that were all read: a run is stuck at them, unless some name was no thread's
abbrev pub stuck_read : Bool → List (ℕ × ℕ) → VerdictRead
stuck_read true blocked = UnknownName
stuck_read false blocked = Is (Stuck blocked)

-- One place, and `next` for those after it. The name and the line must be lawful. A thread's name
-- must be of none below the least one, and any other name is noted as unknown.
abbrev pub stuck_step : Bool → Option ℕ → Option ℕ → ℕ → List (ℕ × ℕ) → Bool
    → (ℕ → List (ℕ × ℕ) → Bool → VerdictRead) → VerdictRead
stuck_step false thread line least blocked unknown next = NoForm
stuck_step true thread None least blocked unknown next = NoForm
stuck_step true None (Some n) least blocked unknown next = next least blocked true
stuck_step true (Some thread) (Some n) least blocked unknown next =
    if nat_le least thread then next (thread + 1) (blocked ++ (thread, n) ∷ []) unknown else NoForm

-- places to the end, after some that were read, where threads may stand from a least one on
abbrev pub stuck_words : NameLists → ℕ → List (ℕ × ℕ) → Bool → List (List ℕ) → VerdictRead
stuck_words names least blocked unknown [] = stuck_read unknown blocked
stuck_words names least blocked unknown (name ∷ []) = NoForm
stuck_words names least blocked unknown (name ∷ line ∷ rest) =
    stuck_step (is_name 1 name) (place_of name names.threads) (line_number line) least blocked
    unknown
    (λ least_later blocked_later unknown_later.
    stuck_words names least_later blocked_later unknown_later rest)

-- a verdict of one word: the run has passed, or was cut
abbrev pub bare_word : List ℕ → VerdictRead
bare_word head =
    if bytes_eq head (codes "passed") then Is Passed
    else (if bytes_eq head (codes "cut") then Is Cut else NoForm)

-- the verdict that all words of a text spell: places follow `stuck`, and one place or nothing
-- follows another first word
abbrev pub verdict_of_words : NameLists → List (List ℕ) → VerdictRead
verdict_of_words names [] = NoForm
verdict_of_words names (head ∷ []) = bare_word head
verdict_of_words names (head ∷ word ∷ rest) =
    if bytes_eq head (codes "stuck") then stuck_words names 0 [] false (word ∷ rest)
    else placed_words head (first_place names (word ∷ rest))
