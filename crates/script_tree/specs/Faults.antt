-- The first faulty line of a text and what is wrong with it: for each kind of fault, which lines
-- have it (this project).
use Rattle.std.specs.Prelude.{◌≡◌, ℕ, ◌+◌, ◌<◌, ◌≤◌, ◌⊎◌, ◌==◌, ◌&&◌, ◌||◌, nat_le, Bool, true}
use Rattle.std.specs.Prelude.{false, not, if◌then◌else◌, List, [], ◌∷◌, ◌++◌, length, map, None}
use Rattle.std.specs.Prelude.{is_some, codes, reverse}
use Rattle.std.specs.List.{list_all}
use Rattle.std.specs.Str.{is_utf8}
use Rattle.pct_ask.specs.FirstFaults as texts
use Rattle.pct_ask.specs.Lines.{lines_of}
use Rattle.pct_ask.specs.Tokens.{Token, tokens_of}
use Rattle.pct_ask.specs.Words.{is_among}
use Rattle.pct_ask.specs.NameLists.{NameLists, list_of, all_names}
use Rattle.pct_ask.specs.declared.names.NameKind.{NameKind}
use Rattle.pct_ask.specs.declared.names.NameKind.TheVariants as kinds
use Rattle.pct_ask.specs.declared.limits.TheConstants.{MAX_LINES, MAX_OBJECTS}
use Rattle.pct_ask.specs.StatementVerbs.{on_kind, into_kind}
use Rattle.script_tree.specs.declared.fault.ScriptFault.{ScriptFault}
use Rattle.script_tree.specs.declared.fault.ScriptFault.TheVariants as faults
use Rattle.script_tree.specs.Forms.{TokenForm, MeantForm, Plain, Valued, Thread, On, Into, Write}
use Rattle.script_tree.specs.Forms.{Add, Cas, Wait, If, While, End, Else, IsForm}
use Rattle.script_tree.specs.Ranges.{is_out_of_range}
use Rattle.script_tree.specs.Fitting.{most_threads}
use Rattle.script_tree.specs.Lines.{tokens_in, is_blank_line, version_in, version_of, begins_with}
use Rattle.script_tree.specs.Lines.{opens}
use Rattle.script_tree.specs.Lines.{declared_name, names_of, depth, opener, threads_begun}

-- a line in its text, with the lines before it and those after it
pub record Place : Type 0 where
  pub before : List (List ℕ)
  pub line : List ℕ
  pub after : List (List ℕ)

-- the tokens of the lines before it
abbrev pub tokens_before : Place → List (List Token)
tokens_before place = map tokens_in place.before

-- each of these lines has only space, tab and CR, and perhaps a comment
abbrev pub are_blank : List (List ℕ) → Bool
are_blank lines = list_all is_blank_line lines

-- no line comes after it
abbrev pub is_last : Place → Type 0
is_last place = place.after ≡ []

-- ---- what the lines so far have declared

-- What lines have declared and begun: the version of the language, the names of each kind, how many
-- blocks are open, the thread among them, and whether the innermost is an `if` without `else`.
pub record SoFar : Type 0 where
  pub version : ℕ
  pub names : NameLists
  pub depth : ℕ
  pub in_if : Bool

-- the names that lines declare
abbrev pub names_declared : List (List Token) → NameLists
names_declared lines = record {
  threads = names_of kinds.Thread lines;
  vars = names_of kinds.Var lines;
  mutexes = names_of kinds.Mutex lines;
  conds = names_of kinds.Cond lines;
  sems = names_of kinds.Sem lines;
  barriers = names_of kinds.Barrier lines;
  rwlocks = names_of kinds.RwLock lines;
}

-- what these lines have declared and begun
abbrev pub so_far : List (List Token) → SoFar
so_far lines = record {
  version = version_of lines;
  names = names_declared lines;
  depth = depth lines;
  in_if = begins_with (codes "if") (opener 0 (reverse lines));
}

-- what the lines before it have declared and begun
abbrev pub so_far_at : Place → SoFar
so_far_at place = so_far (tokens_before place)

-- no thread began so far
abbrev pub is_threadless : SoFar → Bool
is_threadless lines = length lines.names.threads == 0

-- no block is open so far: no thread, `if` or `while`
abbrev pub is_outside : SoFar → Bool
is_outside lines = lines.depth == 0

-- ---- what has a form

-- The form may stand after these lines: a declaration above the first thread, a thread outside
-- threads, a statement inside one, and an `end` or `else` anywhere.
abbrev pub may_stand : SoFar → MeantForm → Bool
may_stand lines (Plain kind name) = is_threadless lines
may_stand lines (Valued kind name value) = is_threadless lines
may_stand lines (Thread name) = is_outside lines
may_stand lines End = true
may_stand lines Else = true
may_stand lines form = not (is_outside lines)

-- a line below the header that isn't blank
pub record IsBelowHeader (place : Place) : Type 0 where
  pub below : are_blank place.before ≡ false
  pub says : is_blank_line place.line ≡ false

-- the line has this form, which may stand at its place
pub record HasForm (place : Place) (cut : TokenForm) (meant : MeantForm) : Type 0 where
  pub is_below : IsBelowHeader place
  pub form : IsForm (version_of (tokens_before place)) (tokens_in place.line) cut meant
  pub stands : may_stand (so_far_at place) meant ≡ true

-- the line has a form of which this test holds
abbrev pub HasFormWith : (MeantForm → Bool) → Place → Type 0
HasFormWith test place =
    (cut : TokenForm) × (meant : MeantForm) × HasForm place cut meant × (test meant ≡ true)

-- ---- what a form asks of the lines around it

-- A name of this kind is declared: on a line before, but a thread on any line of the file.
abbrev pub is_declared : Place → NameKind → List ℕ → Bool
is_declared place kinds.Thread name =
    is_among name (threads_begun (place.before ++ place.line ∷ place.after))
is_declared place kind name = is_among name (names_of kind (tokens_before place))

-- it uses a name that isn't known with the kind that is needed
abbrev pub uses_unknown : (NameKind → List ℕ → Bool) → MeantForm → Bool
uses_unknown is_known (On verb object) = not (is_known (on_kind verb) object)
uses_unknown is_known (Into verb register object) = not (is_known (into_kind verb) object)
uses_unknown is_known (Write var value) = not (is_known kinds.Var var)
uses_unknown is_known (Add register var value) = not (is_known kinds.Var var)
uses_unknown is_known (Cas register var old new) = not (is_known kinds.Var var)
uses_unknown is_known (Wait cond mutex) =
    not (is_known kinds.Cond cond && is_known kinds.Mutex mutex)
uses_unknown is_known form = false

-- it declares a name that a line before declares, of whatever kind
abbrev pub declares_again : SoFar → MeantForm → Bool
declares_again lines (Plain kind name) = is_among name (all_names lines.names)
declares_again lines (Valued kind name value) = is_among name (all_names lines.names)
declares_again lines (Thread name) = is_among name (all_names lines.names)
declares_again lines form = false

-- ---- blocks and limits

-- an `end` with no open block, or an `else` where the innermost open block isn't an `if` without
-- `else`
abbrev pub closes_nothing : SoFar → MeantForm → Bool
closes_nothing lines End = is_outside lines
closes_nothing lines Else = not lines.in_if
closes_nothing lines form = false

-- A block is open behind a line with these tokens: it begins one, or it is an `end` with two blocks
-- open, or any other line with one.
abbrev pub leaves_open : SoFar → List Token → Bool
leaves_open lines tokens =
    opens tokens
    || (if begins_with (codes "end") tokens then nat_le 2 lines.depth else not (is_outside lines))

-- no thread began up to a line with these tokens
abbrev pub lacks_thread : SoFar → List Token → Bool
lacks_thread lines tokens = not (is_some (declared_name kinds.Thread tokens)) && is_threadless lines

-- one thread, object or nested block more than a script may have; the thread isn't counted among
-- the 32 nested blocks
abbrev pub is_too_many : SoFar → MeantForm → Bool
is_too_many lines (Thread name) =
    nat_le (most_threads lines.version) (length lines.names.threads)
is_too_many lines (Plain kind name) = nat_le MAX_OBJECTS (length (list_of kind lines.names))
is_too_many lines (Valued kind name value) = nat_le MAX_OBJECTS (length (list_of kind lines.names))
is_too_many lines (If test) = nat_le 33 lines.depth
is_too_many lines (While test) = nat_le 33 lines.depth
is_too_many lines form = false

-- ---- the kinds of fault

-- its bytes aren't text in UTF-8
abbrev pub NotUtf8 : Place → Type 0
NotUtf8 place = is_utf8 place.line ≡ false

-- it has more than 256 bytes, its LF not counted
abbrev pub LineTooLong : Place → Type 0
LineTooLong place = 256 < length place.line

-- at least 4,096 lines stand before it
abbrev pub TooManyLines : Place → Type 0
TooManyLines place = MAX_LINES ≤ length place.before

-- it is the first line that isn't blank and no header; or line 1, where all are blank
abbrev pub BadHeader : Place → Type 0
BadHeader place =
    ((are_blank place.before ≡ true)
    × (is_blank_line place.line ≡ false)
    × (version_in (tokens_in place.line) ≡ None))
    ⊎ ((place.before ≡ []) × (are_blank (place.line ∷ place.after) ≡ true))

-- it can't be cut into words, numbers and symbols
abbrev pub BadToken : Place → Type 0
BadToken place = tokens_of place.line ≡ None

-- it stands below the header and isn't blank, but it has no form that its version has and that may
-- stand there
abbrev pub BadStatement : Place → Type 0
BadStatement place =
    IsBelowHeader place × ((cut : TokenForm) (meant : MeantForm) → ¬ HasForm place cut meant)

-- it has a form, with a name that isn't declared with the kind that is needed
abbrev pub UnknownName : Place → Type 0
UnknownName place = HasFormWith (uses_unknown (is_declared place)) place

-- it declares a name that a line before declares, of whatever kind
abbrev pub TwiceNamed : Place → Type 0
TwiceNamed place = HasFormWith (declares_again (so_far_at place)) place

-- it has a form, in which a first value or another number is out of range
abbrev pub NumberRange : Place → Type 0
NumberRange place = HasFormWith (is_out_of_range (tokens_in place.line)) place

-- it is the last line, and a block is open after it
abbrev pub NoEnd : Place → Type 0
NoEnd place = is_last place × (leaves_open (so_far_at place) (tokens_in place.line) ≡ true)

-- it is an `end` with no open block, or an `else` with no `if` that it could belong to
abbrev pub StrayEnd : Place → Type 0
StrayEnd place = HasFormWith (closes_nothing (so_far_at place)) place

-- it is the last line, and no line of the text begins a thread
abbrev pub NoThread : Place → Type 0
NoThread place = is_last place × (lacks_thread (so_far_at place) (tokens_in place.line) ≡ true)

-- it begins one thread or nested block more than a script may have, or declares such an object
abbrev pub TooMany : Place → Type 0
TooMany place = HasFormWith (is_too_many (so_far_at place)) place

-- the line has a fault of this kind
abbrev pub IsFaulty : ScriptFault → Place → Type 0
IsFaulty faults.NotUtf8 = NotUtf8
IsFaulty faults.LineTooLong = LineTooLong
IsFaulty faults.TooManyLines = TooManyLines
IsFaulty faults.BadHeader = BadHeader
IsFaulty faults.BadToken = BadToken
IsFaulty faults.BadStatement = BadStatement
IsFaulty faults.UnknownName = UnknownName
IsFaulty faults.TwiceNamed = TwiceNamed
IsFaulty faults.NumberRange = NumberRange
IsFaulty faults.NoEnd = NoEnd
IsFaulty faults.StrayEnd = StrayEnd
IsFaulty faults.NoThread = NoThread
IsFaulty faults.TooMany = TooMany

-- ---- the first fault

-- the order of the kinds: of a line's faults the first of these counts
abbrev pub kind_rank : ScriptFault → ℕ
kind_rank faults.NotUtf8 = 0
kind_rank faults.LineTooLong = 1
kind_rank faults.TooManyLines = 2
kind_rank faults.BadHeader = 3
kind_rank faults.BadToken = 4
kind_rank faults.BadStatement = 5
kind_rank faults.UnknownName = 6
kind_rank faults.TwiceNamed = 7
kind_rank faults.NumberRange = 8
kind_rank faults.NoEnd = 9
kind_rank faults.StrayEnd = 10
kind_rank faults.NoThread = 11
kind_rank faults.TooMany = 12

-- the lines of a text, where a text without any is judged as one blank line
abbrev pub judged_lines : List ℕ → List (List ℕ)
judged_lines [] = [] ∷ []
judged_lines (b ∷ bs) = lines_of (b ∷ bs)

-- line k of these lines, from 1, has a fault of this kind
abbrev pub IsFaultyLine : List (List ℕ) → ℕ → ScriptFault → Type 0
IsFaultyLine lines k kind =
    (place : Place)
    × (lines ≡ place.before ++ place.line ∷ place.after)
    × (k ≡ length place.before + 1)
    × IsFaulty kind place

-- the first faulty line of the text has this number, and its first fault is of this kind
abbrev pub IsFirstFault : List ℕ → ℕ → ScriptFault → Type 0
IsFirstFault bytes number kind =
    texts.IsFirstFault kind_rank (IsFaultyLine (judged_lines bytes)) number kind

-- The fault of a text: one of more bytes than a script may have is refused at line 1, before any
-- line is looked at.
abbrev pub IsFault : List ℕ → ℕ → ScriptFault → Type 0
IsFault bytes number kind =
    ((1048576 < length bytes) × (number ≡ 1) × (kind ≡ faults.TooMany))
    ⊎ ((length bytes ≤ 1048576) × IsFirstFault bytes number kind)
