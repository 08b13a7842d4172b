-- How the words of an ask are read (this project). They are no form of an ask, or they are an ask,
-- or would be one if each name were declared with the kind that its place needs.
use Rattle.std.specs.Prelude.{ℕ, ℤ, Bool, true, false, if◌then◌else◌, List}
use Rattle.std.specs.Prelude.{Option, Some, None, codes}
use Rattle.std.specs.Str.{bytes_eq}
use Rattle.pct_ask.specs.Words.{is_name}
use Rattle.pct_ask.specs.NameLists.{NameLists, list_of, place_of}
use Rattle.pct_ask.specs.VerdictWords.{fault_kind}
use Rattle.pct_ask.specs.declared.names.NameKind.{NameKind}
use Rattle.pct_ask.specs.declared.ask.Ask.{Ask}
use Rattle.pct_ask.specs.declared.ask.Ask.TheVariants as asks
use Rattle.pct_ask.specs.declared.trace_verbs.Verb.{Verb}
use Rattle.pct_ask.specs.declared.trace_verbs.Verb.TheVariants.{Read, Write, Add, Lock, TryLock}
use Rattle.pct_ask.specs.declared.trace_verbs.Verb.TheVariants.{Unlock, Release, Regain, Signal}
use Rattle.pct_ask.specs.declared.trace_verbs.Verb.TheVariants.{Broadcast, Down, TryDown, Up}
use Rattle.pct_ask.specs.declared.trace_verbs.Verb.TheVariants.{Arrive, Leave, Join, Yield, Start}
use Rattle.pct_ask.specs.declared.trace_verbs.Verb.TheVariants.{Begin, RdLock, WrLock, TryRdLock}
use Rattle.pct_ask.specs.declared.trace_verbs.Verb.TheVariants.{TryWrLock, RwUnlock}
use Rattle.pct_ask.specs.declared.trace_verbs.OperandKind.{OperandKind}
use Rattle.pct_ask.specs.declared.trace_verbs.OperandKind.TheVariants as kinds
use Rattle.pct_ask.specs.declared.trace_verbs.Operands.{Operands}
use Rattle.pct_ask.specs.declared.trace_verbs.Operands.TheVariants.{Bare, One, Two, Three}
use Rattle.pct_ask.specs.TraceVerbs.{verb_operands, verb_in}
use Rattle.trace_text.specs.declared.asks.WordsRead.{WordsRead}
use Rattle.trace_text.specs.declared.asks.WordsRead.TheVariants.{Is, NoForm, UnknownName}
use Rattle.trace_text.specs.declared.asks.Operand.{Operand}
use Rattle.trace_text.specs.declared.asks.Operand.TheVariants.{Place, Value, Holds, Cause}
use Rattle.trace_text.specs.reader.Numbers.{i64_in}

-- whether words have the form, be their names known or not
abbrev pub has_form : {T : Type 0} → WordsRead T → Bool
has_form (Is what) = true
has_form NoForm = false
has_form UnknownName = true

-- what words are, where all their names are known
abbrev pub known_words : {T : Type 0} → WordsRead T → Option T
known_words (Is what) = Some what
known_words NoForm = None
known_words UnknownName = None

-- a lawful name with its place, if it has one
abbrev pub object_at : Option ℕ → WordsRead ℕ
object_at (Some id) = Is id
object_at None = UnknownName

-- The place of an object of a kind, by its name. A word that is no lawful name has no form.
abbrev pub object : NameLists → NameKind → List ℕ → WordsRead ℕ
object names kind word =
    if is_name 1 word then object_at (place_of word (list_of kind names)) else NoForm

-- ---- operands

-- what a check found: 1 where it holds, 0 where it fails
abbrev pub holds_of : List ℕ → Option Bool
holds_of word =
    if bytes_eq word (codes "1") then Some true
    else (if bytes_eq word (codes "0") then Some false else None)

-- an operand that is no object, where it is read
abbrev pub plain : {T : Type 0} → (T → Operand) → Option T → WordsRead Operand
plain operand None = NoForm
plain operand (Some value) = Is (operand value)

-- something made of what is read
abbrev pub read_as : {A B : Type 0} → (A → B) → WordsRead A → WordsRead B
read_as make (Is what) = Is (make what)
read_as make NoForm = NoForm
read_as make UnknownName = UnknownName

-- an object as an operand
abbrev pub placed : WordsRead ℕ → WordsRead Operand
placed object = read_as (λ id. Place id) object

-- an operand of a kind
abbrev pub operand_in : NameLists → OperandKind → List ℕ → WordsRead Operand
operand_in names (kinds.Object kind) word = placed (object names kind word)
operand_in names kinds.Value word = plain Value (i64_in word)
operand_in names kinds.Holds word = plain Holds (holds_of word)
operand_in names kinds.Cause word = plain Cause (fault_kind word)

-- two things that are read, where each has a form and the names of both are known
abbrev pub both : {A B : Type 0} → WordsRead A → WordsRead B → WordsRead (A × B)
both NoForm second = NoForm
both first NoForm = NoForm
both UnknownName second = UnknownName
both first UnknownName = UnknownName
both (Is first) (Is second) = Is (first, second)

-- one operand as the operands
abbrev pub one : WordsRead Operand → WordsRead (Operands Operand)
one operand = read_as (λ o. One o) operand

-- two operands as the operands
abbrev pub two : WordsRead (Operand × Operand) → WordsRead (Operands Operand)
two operands = read_as (λ o. Two o.0 o.1) operands

-- three operands as the operands
abbrev pub three : WordsRead (Operand × (Operand × Operand)) → WordsRead (Operands Operand)
three operands = read_as (λ o. Three o.0 o.1.0 o.1.1) operands

-- as many operands as there are kinds, each of its own
abbrev pub operands_in : NameLists → Operands OperandKind → Operands (List ℕ)
    → WordsRead (Operands Operand)
operands_in names Bare Bare = Is Bare
operands_in names (One k) (One a) = one (operand_in names k a)
operands_in names (Two k l) (Two a b) = two (both (operand_in names k a) (operand_in names l b))
operands_in names (Three k l m) (Three a b c) =
    three (both (operand_in names k a) (both (operand_in names l b) (operand_in names m c)))
operands_in names kinds words = NoForm

-- ---- asks

-- what a verb asks with no operand
abbrev pub bare_ask : Verb → Option Ask
bare_ask Yield = Some asks.Yield
bare_ask Begin = Some asks.Begin
bare_ask verb = None

-- what a verb asks of one object
abbrev pub object_ask : Verb → ℕ → Option Ask
object_ask Read id = Some (asks.Read id)
object_ask Lock id = Some (asks.Lock id)
object_ask TryLock id = Some (asks.TryLock id)
object_ask Unlock id = Some (asks.Unlock id)
object_ask Signal id = Some (asks.Signal id)
object_ask Broadcast id = Some (asks.Broadcast id)
object_ask Down id = Some (asks.Down id)
object_ask TryDown id = Some (asks.TryDown id)
object_ask Up id = Some (asks.Up id)
object_ask Arrive id = Some (asks.Arrive id)
object_ask Leave id = Some (asks.Leave id)
object_ask Join id = Some (asks.Join id)
object_ask Start id = Some (asks.Start id)
object_ask RdLock id = Some (asks.RdLock id)
object_ask WrLock id = Some (asks.WrLock id)
object_ask TryRdLock id = Some (asks.TryRdLock id)
object_ask TryWrLock id = Some (asks.TryWrLock id)
object_ask RwUnlock id = Some (asks.RwUnlock id)
object_ask verb id = None

-- what a verb asks of a variable with a number
abbrev pub change_ask : Verb → ℕ → ℤ → Option Ask
change_ask Write var value = Some (asks.Write var value)
change_ask Add var value = Some (asks.Add var value)
change_ask verb var value = None

-- what a verb asks of a condition and a mutex
abbrev pub wait_ask : Verb → ℕ → ℕ → Option Ask
wait_ask Release cond mutex = Some (asks.Release cond mutex)
wait_ask Regain cond mutex = Some (asks.Regain cond mutex)
wait_ask verb cond mutex = None

-- what a verb asks with these operands, where they are such as it has
abbrev pub ask_of : Verb → Operands Operand → Option Ask
ask_of verb Bare = bare_ask verb
ask_of verb (One (Place id)) = object_ask verb id
ask_of verb (One (Holds holds)) = Some (asks.Check holds)
ask_of verb (One (Cause kind)) = Some (asks.Fault kind)
ask_of verb (Two (Place var) (Value value)) = change_ask verb var value
ask_of verb (Two (Place cond) (Place mutex)) = wait_ask verb cond mutex
ask_of verb (Three (Place var) (Value old) (Value new)) = Some (asks.Cas var old new)
ask_of verb operands = None

-- an ask that is made
abbrev pub made : Option Ask → WordsRead Ask
made None = NoForm
made (Some ask) = Is ask

-- an ask whose operands are read
abbrev pub asked : Verb → WordsRead (Operands Operand) → WordsRead Ask
asked verb (Is operands) = made (ask_of verb operands)
asked verb NoForm = NoForm
asked verb UnknownName = UnknownName

-- the ask of a verb, where the word is one, with the words of its operands
abbrev pub verb_ask : NameLists → Option Verb → Operands (List ℕ) → WordsRead Ask
verb_ask names None words = NoForm
verb_ask names (Some verb) words = asked verb (operands_in names (verb_operands verb) words)

-- an ask by its first word and the words of its operands
unfoldable pub ask_of_words : NameLists → ℕ → List ℕ → Operands (List ℕ) → WordsRead Ask
ask_of_words names version word words = verb_ask names (verb_in version word) words
