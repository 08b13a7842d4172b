-- The lines of a trace by form: a table of forms with their words, and what a form asks of its
-- operands (this project).
use Rattle.std.specs.Prelude.{◌≡◌, ℕ, ℤ, ◌<◌, ◌≤◌, ◌⊎◌, ◌^◌, Bool, true, List, [], ◌∷◌, ◌++◌}
use Rattle.std.specs.Prelude.{length, map, None, All, Any, codes, decimal}
use Rattle.std.specs.Fmt.{signed_decimal}
use Rattle.pct_ask.specs.Words.{is_name}
use Rattle.pct_ask.specs.NameLists.{NameLists, list_of, place_of, AreDistinct}
use Rattle.pct_ask.specs.TraceText.{check_word}
use Rattle.pct_ask.specs.VerdictText as verdicts
use Rattle.pct_ask.specs.VerdictText.{NamedVerdict, NamedMisuse, fault_word, verdict_words, IsLine}
use Rattle.pct_ask.specs.declared.names.NameKind.{NameKind}
use Rattle.pct_ask.specs.declared.names.NameKind.TheVariants as kinds
use Rattle.pct_ask.specs.declared.ask.FaultKind.{FaultKind}
use Rattle.pct_ask.specs.declared.verdict.MisuseKind.TheVariants.{TooManyReads}
use Rattle.pct_ask.specs.declared.trace_verbs.Verb.{Verb}
use Rattle.pct_ask.specs.declared.trace_verbs.OperandKind.{OperandKind}
use Rattle.pct_ask.specs.declared.trace_verbs.OperandKind.TheVariants as operands
use Rattle.pct_ask.specs.declared.trace_verbs.Operands.{Operands}
use Rattle.pct_ask.specs.declared.limits.TheConstants.{MAX_POINTS}
use Rattle.pct_ask.specs.Limits.{IsStepCount}
use Rattle.pct_ask.specs.TraceVerbs.{verb_word, verb_operands, verb_since}
use Rattle.trace_text.specs.Lawful.{IsValue}
use Rattle.trace_text.specs.Operands.{listed, mapped, Each}
use Rattle.trace_text.specs.Operands.{SomeOf}

-- an operand: an object by its name, a number, whether a check holds, or a fault
pub data OperandForm : Type 0 where
  Name : (name : List ℕ) → OperandForm
  Value : (value : ℤ) → OperandForm
  Holds : (holds : Bool) → OperandForm
  Cause : (kind : FaultKind) → OperandForm

-- what a step asks
pub record AskForm : Type 0 where
  pub verb : Verb
  pub operands : Operands OperandForm

-- the ask of a verb with these operands
abbrev pub ask_form : Verb → Operands OperandForm → AskForm
ask_form verb operands = record { verb = verb; operands = operands }

-- what a line says: the four lines of the head, a step and the verdict
pub data Form : Type 0 where
  Version : (version : ℕ) → Form
  Order : (threads : List (List ℕ)) → Form
  Points : (points : List ℕ) → Form
  Limit : (limit : ℕ) → Form
  Step : (number : ℕ) (thread : List ℕ) (line : ℕ) (ask : AskForm) (answer : ℤ) → Form
  End : (verdict : NamedVerdict) → Form

-- ---- the words of a form

-- an operand as a word
abbrev pub operand_word : OperandForm → List ℕ
operand_word (Name name) = name
operand_word (Value value) = signed_decimal value
operand_word (Holds holds) = check_word holds
operand_word (Cause kind) = fault_word kind

-- an ask as words
abbrev pub words_of_ask : AskForm → List (List ℕ)
words_of_ask ask = verb_word ask.verb ∷ listed (mapped operand_word ask.operands)

-- a line as words
abbrev pub words_of_form : Form → List (List ℕ)
words_of_form (Version version) = codes "trace" ∷ decimal version ∷ []
words_of_form (Order threads) = codes "order" ∷ threads
words_of_form (Points points) = codes "points" ∷ map decimal points
words_of_form (Limit limit) = codes "limit" ∷ decimal limit ∷ []
words_of_form (Step number thread line ask answer) =
    decimal number ∷ thread ∷ decimal line
    ∷ (words_of_ask ask ++ codes "=" ∷ signed_decimal answer ∷ [])
words_of_form (End verdict) = codes "verdict" ∷ verdict_words verdict

-- ---- where a form stands, and since which version

-- The form may be that of line k: the head has the first four lines, one form each, and the steps
-- and the verdict stand after it.
abbrev pub StandsAt : ℕ → Form → Type 0
StandsAt k (Version version) = k ≡ 1
StandsAt k (Order threads) = k ≡ 2
StandsAt k (Points points) = k ≡ 3
StandsAt k (Limit limit) = k ≡ 4
StandsAt k (Step number thread line ask answer) = 5 ≤ k
StandsAt k (End verdict) = 5 ≤ k

-- the first version of traces that has a verdict: one misuse comes from read-write locks alone
abbrev pub verdict_since : NamedVerdict → ℕ
verdict_since (NamedMisuse name line TooManyReads) = 2
verdict_since verdict = 1

-- ---- what a form asks of its operands

-- a lawful name by the first version's keywords
abbrev pub IsName : List ℕ → Type 0
IsName word = is_name 1 word ≡ true

-- an operand of a kind: a name is lawful and a number an i64
abbrev pub IsOperandForm : OperandKind → OperandForm → Type 0
IsOperandForm (operands.Object kind) (Name name) = IsName name
IsOperandForm operands.Value (Value value) = IsValue value
IsOperandForm operands.Holds (Holds holds) = Unit {0}
IsOperandForm operands.Cause (Cause kind) = Unit {0}
IsOperandForm kind operand = ⊥

-- an ask of a trace of this version: its verb is known there, and its operands are such as it has
abbrev pub IsAskOf : ℕ → AskForm → Type 0
IsAskOf version ask =
    (verb_since ask.verb ≤ version) × Each IsOperandForm (verb_operands ask.verb) ask.operands

-- A line of a trace of this version, for a test with these names: the order has as many different
-- lawful names as there are threads, there are at most 7 points, counts of steps are in 1..100000,
-- lines in 1..4096, a step's number below 2 ^ 63, answers are i64s, and a verdict is one by form
-- that the version has.
abbrev pub IsLineOf : NameLists → ℕ → Form → Type 0
IsLineOf names version (Version number) = (number ≡ 1) ⊎ (number ≡ 2)
IsLineOf names version (Order threads) =
    (length threads ≡ length names.threads) × All IsName threads × AreDistinct threads
IsLineOf names version (Points points) = (length points ≤ MAX_POINTS) × All IsStepCount points
IsLineOf names version (Limit limit) = IsStepCount limit
IsLineOf names version (Step number thread line ask answer) =
    (number < 2 ^ 63) × IsName thread × IsLine line × IsAskOf version ask × IsValue answer
IsLineOf names version (End verdict) =
    verdicts.IsVerdictForm names verdict × (verdict_since verdict ≤ version)

-- ---- the names in a line

-- no object of this kind has the name
abbrev pub IsUndeclared : NameLists → NameKind → List ℕ → Type 0
IsUndeclared names kind name = place_of name (list_of kind names) ≡ None

-- an operand is a name that isn't declared with this kind
abbrev pub IsUnknownOperand : NameLists → OperandKind → OperandForm → Type 0
IsUnknownOperand names (operands.Object kind) (Name name) = IsUndeclared names kind name
IsUnknownOperand names kind operand = ⊥

-- some name in the ask isn't declared with the kind that its place needs
abbrev pub AsksUnknown : NameLists → AskForm → Type 0
AsksUnknown names ask =
    SomeOf (IsUnknownOperand names) (verb_operands ask.verb) ask.operands

-- some name in the line isn't declared with the kind that its place needs
abbrev pub HasUnknown : NameLists → Form → Type 0
HasUnknown names (Order threads) = Any (IsUndeclared names kinds.Thread) threads
HasUnknown names (Step number thread line ask answer) =
    IsUndeclared names kinds.Thread thread ⊎ AsksUnknown names ask
HasUnknown names (End verdict) = verdicts.HasUnknownThread names verdict
HasUnknown names form = ⊥
