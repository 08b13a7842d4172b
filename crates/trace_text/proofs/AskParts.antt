-- An ask as its verb and its operands.
use Rattle.std.specs.Fmt.{signed_decimal}
use Rattle.std.proofs.Common.{◌≡◌, ℕ, ◌<◌, List, [], ◌∷◌, length}
use Rattle.std.proofs.Common.{Some, refl, sym, ap, ◌∙◌}
use Rattle.std.proofs.lemmas.Option.{same_Some}
use Rattle.std.proofs.Math.Path.{subst}
use Rattle.pct_ask.specs.NameLists.{NameLists, list_of}
use Rattle.pct_ask.specs.VerdictText.{fault_word}
use Rattle.pct_ask.specs.TraceText.{name_at, ask_words, check_word}
use Rattle.pct_ask.specs.declared.ask.Ask.{Ask}
use Rattle.pct_ask.specs.declared.ask.Ask.TheVariants as asks
use Rattle.pct_ask.specs.declared.trace_verbs.Verb.{Verb}
use Rattle.pct_ask.specs.declared.trace_verbs.Verb.TheVariants as verbs
use Rattle.pct_ask.specs.declared.trace_verbs.OperandKind.{OperandKind}
use Rattle.pct_ask.specs.declared.trace_verbs.OperandKind.TheVariants as kinds
use Rattle.pct_ask.specs.declared.trace_verbs.Operands.{Operands}
use Rattle.pct_ask.specs.declared.trace_verbs.Operands.TheVariants.{Bare, One, Two, Three}
use Rattle.pct_ask.specs.TraceVerbs.{verb_word, verb_operands}
use Rattle.pct_ask.proofs.laws.TraceVerbs.{IsKnown, known-second, in-second}
use Rattle.trace_text.specs.Lawful.{IsAsk, IsValue}
use Rattle.trace_text.specs.Operands.{listed, Each}
use Rattle.trace_text.specs.reader.Asks.{ask_of}
use Rattle.trace_text.specs.declared.asks.Operand.{Operand}
use Rattle.trace_text.specs.declared.asks.Operand.TheVariants.{Place, Value, Holds, Cause}

abbrev pub parts : Ask → Verb × Operands Operand
parts (asks.Read x) = (verbs.Read, One (Place x))
parts (asks.Write x v) = (verbs.Write, Two (Place x) (Value v))
parts (asks.Add x v) = (verbs.Add, Two (Place x) (Value v))
parts (asks.Cas x u v) = (verbs.Cas, Three (Place x) (Value u) (Value v))
parts (asks.Lock x) = (verbs.Lock, One (Place x))
parts (asks.TryLock x) = (verbs.TryLock, One (Place x))
parts (asks.Unlock x) = (verbs.Unlock, One (Place x))
parts (asks.Release c m) = (verbs.Release, Two (Place c) (Place m))
parts (asks.Regain c m) = (verbs.Regain, Two (Place c) (Place m))
parts (asks.Signal x) = (verbs.Signal, One (Place x))
parts (asks.Broadcast x) = (verbs.Broadcast, One (Place x))
parts (asks.Down x) = (verbs.Down, One (Place x))
parts (asks.TryDown x) = (verbs.TryDown, One (Place x))
parts (asks.Up x) = (verbs.Up, One (Place x))
parts (asks.Arrive x) = (verbs.Arrive, One (Place x))
parts (asks.Leave x) = (verbs.Leave, One (Place x))
parts (asks.Join x) = (verbs.Join, One (Place x))
parts asks.Yield = (verbs.Yield, Bare)
parts (asks.Check b) = (verbs.Check, One (Holds b))
parts (asks.Fault k) = (verbs.Fault, One (Cause k))
parts (asks.Start x) = (verbs.Start, One (Place x))
parts asks.Begin = (verbs.Begin, Bare)
parts (asks.RdLock x) = (verbs.RdLock, One (Place x))
parts (asks.WrLock x) = (verbs.WrLock, One (Place x))
parts (asks.TryRdLock x) = (verbs.TryRdLock, One (Place x))
parts (asks.TryWrLock x) = (verbs.TryWrLock, One (Place x))
parts (asks.RwUnlock x) = (verbs.RwUnlock, One (Place x))

-- what an operand of a kind is, and its word
abbrev pub IsOperand : NameLists → OperandKind → Operand → Type 0
IsOperand names (kinds.Object kind) (Place id) = id < length (list_of kind names)
IsOperand names kinds.Value (Value z) = IsValue z
IsOperand names kinds.Holds (Holds b) = Unit {0}
IsOperand names kinds.Cause (Cause k) = Unit {0}
IsOperand names kind operand = ⊥

abbrev pub operand_word : NameLists → OperandKind → Operand → List ℕ
operand_word names (kinds.Object kind) (Place id) = name_at (list_of kind names) id
operand_word names kinds.Value (Value z) = signed_decimal z
operand_word names kinds.Holds (Holds b) = check_word b
operand_word names kinds.Cause (Cause k) = fault_word k
operand_word names kind operand = []

abbrev pub AreOperands : NameLists → Verb → Operands Operand → Type 0
AreOperands names verb operands = Each (IsOperand names) (verb_operands verb) operands

abbrev pub operand_words : NameLists → Operands OperandKind → Operands Operand → Operands (List ℕ)
operand_words names (One k) (One a) = One (operand_word names k a)
operand_words names (Two k l) (Two a b) = Two (operand_word names k a) (operand_word names l b)
operand_words names (Three k l m) (Three a b c) =
    Three (operand_word names k a) (operand_word names l b) (operand_word names m c)
operand_words names kinds operands = Bare

abbrev pub words_of_parts : NameLists → Verb × Operands Operand → List (List ℕ)
words_of_parts names p =
    verb_word p.0 ∷ listed (operand_words names (verb_operands p.0) p.1)

pub parts-words : (names : NameLists) (ask : Ask)
    → ask_words names ask ≡ words_of_parts names (parts ask)
parts-words names (asks.Read x) = refl
parts-words names ask = refl

pub parts-make : (ask : Ask) → ask_of (parts ask).0 (parts ask).1 ≡ Some ask
parts-make (asks.Read x) = refl
parts-make ask = refl

-- a verb with operands such as it has makes an ask
pub makes : (names : NameLists) (verb : Verb) (operands : Operands Operand)
    → AreOperands names verb operands
    → (ask : Ask) × (ask_of verb operands ≡ Some ask) × (parts ask ≡ (verb, operands))
makes names verbs.Read (One (Place x)) fits = (asks.Read x, refl, refl)
makes names verbs.Write (Two (Place x) (Value v)) fits = (asks.Write x v, refl, refl)
makes names verbs.Write (Two (Place x) b) fits = absurd fits.1
makes names verbs.Write (Two a b) fits = absurd fits.0
makes names verbs.Add (Two (Place x) (Value v)) fits = (asks.Add x v, refl, refl)
makes names verbs.Add (Two (Place x) b) fits = absurd fits.1
makes names verbs.Add (Two a b) fits = absurd fits.0
makes names verbs.Cas (Three (Place x) (Value u) (Value v)) fits = (asks.Cas x u v, refl, refl)
makes names verbs.Cas (Three (Place x) (Value u) c) fits = absurd fits.2
makes names verbs.Cas (Three (Place x) b c) fits = absurd fits.1
makes names verbs.Cas (Three a b c) fits = absurd fits.0
makes names verbs.Lock (One (Place x)) fits = (asks.Lock x, refl, refl)
makes names verbs.TryLock (One (Place x)) fits = (asks.TryLock x, refl, refl)
makes names verbs.Unlock (One (Place x)) fits = (asks.Unlock x, refl, refl)
makes names verbs.Release (Two (Place c) (Place m)) fits = (asks.Release c m, refl, refl)
makes names verbs.Release (Two (Place c) b) fits = absurd fits.1
makes names verbs.Release (Two a b) fits = absurd fits.0
makes names verbs.Regain (Two (Place c) (Place m)) fits = (asks.Regain c m, refl, refl)
makes names verbs.Regain (Two (Place c) b) fits = absurd fits.1
makes names verbs.Regain (Two a b) fits = absurd fits.0
makes names verbs.Signal (One (Place x)) fits = (asks.Signal x, refl, refl)
makes names verbs.Broadcast (One (Place x)) fits = (asks.Broadcast x, refl, refl)
makes names verbs.Down (One (Place x)) fits = (asks.Down x, refl, refl)
makes names verbs.TryDown (One (Place x)) fits = (asks.TryDown x, refl, refl)
makes names verbs.Up (One (Place x)) fits = (asks.Up x, refl, refl)
makes names verbs.Arrive (One (Place x)) fits = (asks.Arrive x, refl, refl)
makes names verbs.Leave (One (Place x)) fits = (asks.Leave x, refl, refl)
makes names verbs.Join (One (Place x)) fits = (asks.Join x, refl, refl)
makes names verbs.Yield Bare fits = (asks.Yield, refl, refl)
makes names verbs.Check (One (Holds b)) fits = (asks.Check b, refl, refl)
makes names verbs.Fault (One (Cause k)) fits = (asks.Fault k, refl, refl)
makes names verbs.Start (One (Place x)) fits = (asks.Start x, refl, refl)
makes names verbs.Begin Bare fits = (asks.Begin, refl, refl)
makes names verbs.RdLock (One (Place x)) fits = (asks.RdLock x, refl, refl)
makes names verbs.WrLock (One (Place x)) fits = (asks.WrLock x, refl, refl)
makes names verbs.TryRdLock (One (Place x)) fits = (asks.TryRdLock x, refl, refl)
makes names verbs.TryWrLock (One (Place x)) fits = (asks.TryWrLock x, refl, refl)
makes names verbs.RwUnlock (One (Place x)) fits = (asks.RwUnlock x, refl, refl)
makes names verb operands fits = absurd fits

pub made-parts : (names : NameLists) (verb : Verb) (operands : Operands Operand) (ask : Ask)
    → AreOperands names verb operands → ask_of verb operands ≡ Some ask
    → parts ask ≡ (verb, operands)
made-parts names verb operands ask fits h =
    let m = makes names verb operands fits in
    ap parts (same_Some ask m.0 (sym h ∙ m.1)) ∙ m.2

-- ---- lawful asks

pub lawful-known : (names : NameLists) (version : ℕ) (ask : Ask) → IsAsk names version ask
    → IsKnown version (parts ask).0
lawful-known names version (asks.Read x) h = refl
lawful-known names version (asks.RdLock x) h = in-second version verbs.RdLock h.1
lawful-known names version (asks.WrLock x) h = in-second version verbs.WrLock h.1
lawful-known names version (asks.TryRdLock x) h = in-second version verbs.TryRdLock h.1
lawful-known names version (asks.TryWrLock x) h = in-second version verbs.TryWrLock h.1
lawful-known names version (asks.RwUnlock x) h = in-second version verbs.RwUnlock h.1
lawful-known names version ask h = refl

pub lawful-operands : (names : NameLists) (version : ℕ) (ask : Ask) → IsAsk names version ask
    → AreOperands names (parts ask).0 (parts ask).1
lawful-operands names version (asks.Read x) h = h
lawful-operands names version (asks.RdLock x) h = h.0
lawful-operands names version (asks.WrLock x) h = h.0
lawful-operands names version (asks.TryRdLock x) h = h.0
lawful-operands names version (asks.TryWrLock x) h = h.0
lawful-operands names version (asks.RwUnlock x) h = h.0
lawful-operands names version ask h = h

own-lawful : (names : NameLists) (version : ℕ) (ask : Ask) → IsKnown version (parts ask).0
    → AreOperands names (parts ask).0 (parts ask).1 → IsAsk names version ask
own-lawful names version (asks.Read x) known fits = fits
own-lawful names version (asks.RdLock x) known fits =
    (fits, known-second version verbs.RdLock refl known)
own-lawful names version (asks.WrLock x) known fits =
    (fits, known-second version verbs.WrLock refl known)
own-lawful names version (asks.TryRdLock x) known fits =
    (fits, known-second version verbs.TryRdLock refl known)
own-lawful names version (asks.TryWrLock x) known fits =
    (fits, known-second version verbs.TryWrLock refl known)
own-lawful names version (asks.RwUnlock x) known fits =
    (fits, known-second version verbs.RwUnlock refl known)
own-lawful names version ask known fits = fits

pub lawful-parts : (names : NameLists) (version : ℕ) (ask : Ask) (verb : Verb)
    (operands : Operands Operand) → parts ask ≡ (verb, operands) → IsKnown version verb
    → AreOperands names verb operands → IsAsk names version ask
lawful-parts names version ask verb operands p known fits =
    own-lawful names version ask
    (subst (λ (q : Verb × Operands Operand). IsKnown version q.0) (sym p) known)
    (subst (λ (q : Verb × Operands Operand). AreOperands names q.0 q.1) (sym p) fits)
