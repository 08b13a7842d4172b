-- The bytes of a trace's words are neither spaces nor LFs.
use Rattle.std.specs.Prelude.{codes, decimal}
use Rattle.std.proofs.Common.{ℕ, ◌<◌, ◌^◌, Bool, true, false, [], ◌∷◌, length, get_or, ℤ}
use Rattle.std.proofs.Common.{pos, negsuc, suc, refl, sym, arith}
use Rattle.std.proofs.Math.Path.{subst}
use Rattle.pct_ask.specs.Numbers.{number_text}
use Rattle.pct_ask.specs.NameLists.{NameLists, list_of, AreNames}
use Rattle.pct_ask.specs.TraceText.{ask_words, check_word, event_words}
use Rattle.pct_ask.specs.declared.names.NameKind.{NameKind}
use Rattle.pct_ask.specs.declared.names.NameKind.TheVariants.{Thread}
use Rattle.pct_ask.specs.declared.ask.Ask.{Ask}
use Rattle.pct_ask.specs.declared.event.Event.{Event}
use Rattle.pct_ask.proofs.laws.TextBytes.{IsHigh, AreHigh, high-cons, high-append, high-by}
use Rattle.pct_ask.proofs.laws.TextBytes.{name-high, decimal-high, fault-high}
use Rattle.pct_ask.specs.declared.trace_verbs.Verb.{Verb}
use Rattle.pct_ask.specs.declared.trace_verbs.Verb.TheVariants as verbs
use Rattle.pct_ask.specs.declared.trace_verbs.OperandKind.{OperandKind}
use Rattle.pct_ask.specs.declared.trace_verbs.OperandKind.TheVariants as kinds
use Rattle.pct_ask.specs.declared.trace_verbs.Operands.{Operands}
use Rattle.pct_ask.specs.declared.trace_verbs.Operands.TheVariants.{Bare, One, Two, Three}
use Rattle.pct_ask.specs.TraceVerbs.{verb_word, verb_operands}
use Rattle.trace_text.specs.Lawful.{IsAsk, IsStep, IsValue}
use Rattle.trace_text.specs.Operands.{listed, Each}
use Rattle.trace_text.specs.declared.asks.Operand.{Operand}
use Rattle.trace_text.specs.declared.asks.Operand.TheVariants.{Place, Value, Holds, Cause}
use Rattle.trace_text.proofs.Names.{name-lawful}
use Rattle.trace_text.proofs.AskParts.{IsOperand, operand_word, operand_words, parts, parts-words}
use Rattle.trace_text.proofs.AskParts.{lawful-operands}

value-high : (z : ℤ) → IsValue z → IsHigh (number_text z)
value-high (pos n) fits = decimal-high n (omega (arith, fits.sfits))
value-high (negsuc n) fits =
    high-cons 45 (decimal (suc n)) (omega arith) (decimal-high (suc n) (omega (arith, fits.sfits)))

kind-high : (names : NameLists) (kind : NameKind) (id : ℕ) → AreNames names
    → id < length (list_of kind names) → IsHigh (get_or (list_of kind names) id [])
kind-high names kind id sound h =
    name-high (get_or (list_of kind names) id []) (name-lawful names kind id sound h)

check-high : (holds : Bool) → IsHigh (check_word holds)
check-high true = high-by (codes "1") refl
check-high false = high-by (codes "0") refl

verb-high : (verb : Verb) → IsHigh (verb_word verb)
verb-high verbs.Read = high-by (codes "read") refl
verb-high verb = high-by (verb_word verb) refl

operand-high : (names : NameLists) (kind : OperandKind) (operand : Operand) → AreNames names
    → IsOperand names kind operand → IsHigh (operand_word names kind operand)
operand-high names (kinds.Object kind) (Place id) sound h = kind-high names kind id sound h
operand-high names kinds.Value (Value z) sound h = value-high z h
operand-high names kinds.Holds (Holds holds) sound h = check-high holds
operand-high names kinds.Cause (Cause kind) sound h = fault-high kind
operand-high names kind operand sound h = absurd h

operands-high : (names : NameLists) (ks : Operands OperandKind) (operands : Operands Operand)
    → AreNames names → Each (IsOperand names) ks operands
    → AreHigh (listed (operand_words names ks operands))
operands-high names Bare Bare sound h = tt
operands-high names (One k) (One a) sound h = (operand-high names k a sound h, tt)
operands-high names (Two k l) (Two a b) sound h =
    (operand-high names k a sound h.0, (operand-high names l b sound h.1, tt))
operands-high names (Three k l m) (Three a b c) sound h = (
  operand-high names k a sound h.0,
  (operand-high names l b sound h.1, (operand-high names m c sound h.2, tt)),
)
operands-high names ks operands sound h = absurd h

ask-high : (names : NameLists) (version : ℕ) (ask : Ask) → AreNames names → IsAsk names version ask
    → AreHigh (ask_words names ask)
ask-high names version ask sound h =
    let verb = (parts ask).0 in
    subst AreHigh (sym (parts-words names ask)) (
      verb-high verb,
      operands-high names (verb_operands verb) (parts ask).1 sound
          (lawful-operands names version ask h),
    )

pub step-high : (names : NameLists) (version n : ℕ) (event : Event) → AreNames names
    → IsStep names version event → n < 2 ^ 63 → AreHigh (event_words names n event)
step-high names version n event sound step small = (
  decimal-high n (omega arith),
  (
    kind-high names Thread event.thread sound step.thread,
    (
      decimal-high event.line (omega (arith, step.line.0, step.line.1)),
      high-append (ask_words names event.ask) (codes "=" ∷ number_text event.answer ∷ [])
          (ask-high names version event.ask sound step.ask)
          (high-by (codes "=") refl, (value-high event.answer step.answer, tt)),
    ),
  ),
)
