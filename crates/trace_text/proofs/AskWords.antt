-- An ask is read of its words, and of nothing else.
use Rattle.std.specs.Prelude.{codes, if◌then◌else◌}
use Rattle.std.specs.Str.{bytes_eq}
use Rattle.std.proofs.Common.{◌≡◌, ℕ, Bool, true, false, List, [], ◌∷◌, Option, Some, None, refl}
use Rattle.std.proofs.Common.{sym, ap, ◌∙◌, ℤ}
use Rattle.pct_ask.specs.NameLists.{NameLists, AreNames}
use Rattle.pct_ask.specs.VerdictWords.{fault_kind}
use Rattle.pct_ask.specs.TraceText.{ask_words, check_word}
use Rattle.pct_ask.specs.declared.ask.FaultKind.{FaultKind}
use Rattle.pct_ask.specs.declared.ask.FaultKind.TheVariants.{Overflow, ZeroDivisor, Spin}
use Rattle.pct_ask.specs.declared.ask.Ask.{Ask}
use Rattle.pct_ask.specs.declared.ask.Ask.TheVariants as asks
use Rattle.pct_ask.proofs.laws.SameWords.{same-word}
use Rattle.pct_ask.proofs.laws.VerdictForms.{fault_word-read}
use Rattle.pct_ask.specs.declared.trace_verbs.Verb.{Verb}
use Rattle.pct_ask.specs.declared.trace_verbs.OperandKind.{OperandKind}
use Rattle.pct_ask.specs.declared.trace_verbs.OperandKind.TheVariants as kinds
use Rattle.pct_ask.specs.declared.trace_verbs.Operands.{Operands}
use Rattle.pct_ask.specs.declared.trace_verbs.Operands.TheVariants.{Bare, One, Two, Three}
use Rattle.pct_ask.specs.TraceVerbs.{verb_operands, verb_word, verb_in}
use Rattle.pct_ask.proofs.laws.TraceVerbs.{verb-told, verb-found}
use Rattle.trace_text.specs.Lawful.{IsAsk}
use Rattle.trace_text.specs.Operands.{listed, Each}
use Rattle.trace_text.specs.reader.Numbers.{i64_in}
use Rattle.trace_text.specs.reader.Asks.{object, holds_of, plain, operand_in, both, read_as}
use Rattle.trace_text.specs.reader.Asks.{operands_in, ask_of, made, asked, verb_ask, ask_of_words}
use Rattle.trace_text.specs.declared.asks.WordsRead.{WordsRead}
use Rattle.trace_text.specs.declared.asks.WordsRead.TheVariants.{Is, NoForm, UnknownName}
use Rattle.trace_text.specs.declared.asks.Operand.{Operand}
use Rattle.trace_text.specs.declared.asks.Operand.TheVariants.{Place, Value, Holds, Cause}
use Rattle.trace_text.proofs.Names.{known-object, object-known}
use Rattle.trace_text.proofs.Values.{Some-i64_in, i64_in-Some}
use Rattle.trace_text.proofs.AskParts.{parts, IsOperand}
use Rattle.trace_text.proofs.AskParts.{operand_word, operand_words, words_of_parts}
use Rattle.trace_text.proofs.AskParts.{parts-words, parts-make, made-parts, lawful-known}
use Rattle.trace_text.proofs.AskParts.{lawful-operands, lawful-parts}

-- ---- what is read of words is of these words

is_is : {A : Type 0} (x y : A) → Is x ≡ Is y → x ≡ y
is_is x y e = cc

read_as-told : {A B : Type 0} (make : A → B) (read : WordsRead A) (what : B)
    → read_as make read ≡ Is what → (x : A) × (read ≡ Is x) × (make x ≡ what)
read_as-told make (Is x) what h = (x, refl, is_is (make x) what h)
read_as-told make NoForm what h = absurd cc
read_as-told make UnknownName what h = absurd cc

both-told : {A B : Type 0} (a : WordsRead A) (b : WordsRead B) (what : A × B)
    → both a b ≡ Is what → (a ≡ Is what.0) × (b ≡ Is what.1)
both-told (Is x) (Is y) what h =
    let same : (x, y) ≡ what = is_is (x, y) what h in
    (ap (λ p. Is p.0) same, ap (λ p. Is p.1) same)
both-told NoForm b what h = absurd cc
both-told (Is x) NoForm what h = absurd cc
both-told (Is x) UnknownName what h = absurd cc
both-told UnknownName NoForm what h = absurd cc
both-told UnknownName (Is y) what h = absurd cc
both-told UnknownName UnknownName what h = absurd cc

plain-told : {A : Type 0} (make : A → Operand) (read : Option A) (operand : Operand)
    → plain make read ≡ Is operand → (x : A) × (read ≡ Some x) × (make x ≡ operand)
plain-told make None operand h = absurd cc
plain-told make (Some x) operand h = (x, refl, is_is (make x) operand h)

holds-by : (word : List ℕ) (holds : Bool) (a b : Bool) → bytes_eq word (codes "1") ≡ a
    → bytes_eq word (codes "0") ≡ b → (if a then Some true else (if b then Some false else None))
    ≡ Some holds → word ≡ check_word holds
holds-by word holds true b ea eb h = let is : true ≡ holds = cc in
    same-word word (codes "1") ea ∙ ap check_word is
holds-by word holds false true ea eb h = let is : false ≡ holds = cc in
    same-word word (codes "0") eb ∙ ap check_word is
holds-by word holds false false ea eb h = absurd cc

pub holds-word : (word : List ℕ) (holds : Bool) → holds_of word ≡ Some holds
    → word ≡ check_word holds
holds-word word holds h =
    holds-by word holds (bytes_eq word (codes "1")) (bytes_eq word (codes "0")) refl refl h

-- the word is the operand's, which is one of its kind
record IsToldOperand (names : NameLists) (kind : OperandKind) (word : List ℕ) (operand : Operand)
    : Type 0 where
  word_is : word ≡ operand_word names kind operand
  is : IsOperand names kind operand

same-operand : (names : NameLists) (kind : OperandKind) (word : List ℕ) (a b : Operand) → a ≡ b
    → IsToldOperand names kind word a → IsToldOperand names kind word b
same-operand names kind word a b e told = rw (← e) told

operand-told : (names : NameLists) (kind : OperandKind) (word : List ℕ) (operand : Operand)
    → operand_in names kind word ≡ Is operand → IsToldOperand names kind word operand
operand-told names (kinds.Object kind) word operand h =
    let i = read_as-told (λ (id : ℕ). Place id) (object names kind word) operand h in
    let at = known-object names kind word i.0 i.1 in
    same-operand names (kinds.Object kind) word (Place i.0) operand i.2
    (record { word_is = sym at.1; is = at.0 })
operand-told names kinds.Value word operand h =
    let i = plain-told (λ (z : ℤ). Value z) (i64_in word) operand h in
    let v = Some-i64_in word i.0 i.1 in
    same-operand names kinds.Value word (Value i.0) operand i.2
    (record { word_is = v.0; is = v.1 })
operand-told names kinds.Holds word operand h =
    let i = plain-told (λ (b : Bool). Holds b) (holds_of word) operand h in
    same-operand names kinds.Holds word (Holds i.0) operand i.2
    (record { word_is = holds-word word i.0 i.1; is = tt })
operand-told names kinds.Cause word operand h =
    let i = plain-told (λ (k : FaultKind). Cause k) (fault_kind word) operand h in
    same-operand names kinds.Cause word (Cause i.0) operand i.2
    (record { word_is = fault_word-read word i.0 i.1; is = tt })

pub record AreToldOperands (names : NameLists) (ks : Operands OperandKind)
    (words : Operands (List ℕ)) (operands : Operands Operand) : Type 0 where
  pub words_are : words ≡ operand_words names ks operands
  pub are : Each (IsOperand names) ks operands

same-operands : (names : NameLists) (ks : Operands OperandKind) (words : Operands (List ℕ))
    (a b : Operands Operand) → a ≡ b → AreToldOperands names ks words a
    → AreToldOperands names ks words b
same-operands names ks words a b e told = rw (← e) told

pub operands-told : (names : NameLists) (ks : Operands OperandKind) (words : Operands (List ℕ))
    (operands : Operands Operand) → operands_in names ks words ≡ Is operands
    → AreToldOperands names ks words operands
operands-told names Bare Bare operands h =
    let bare : Operands Operand = Bare in
    same-operands names Bare Bare bare operands (is_is bare operands h)
    (record { words_are = refl; are = tt })
operands-told names (One k) (One a) operands h =
    let i = read_as-told (λ (o : Operand). One o) (operand_in names k a) operands h in
    let x = operand-told names k a i.0 i.1 in
    same-operands names (One k) (One a) (One i.0) operands i.2
    (record { words_are = ap (λ w. One w) x.word_is; are = x.is })
operands-told names (Two k l) (Two a b) operands h =
    let i = read_as-told (λ (o : Operand × Operand). Two o.0 o.1)
    (both (operand_in names k a) (operand_in names l b)) operands h in
    let t = both-told (operand_in names k a) (operand_in names l b) i.0 i.1 in
    let x = operand-told names k a i.0.0 t.0 in
    let y = operand-told names l b i.0.1 t.1 in
    same-operands names (Two k l) (Two a b) (Two i.0.0 i.0.1) operands i.2
    (record {
      words_are = ap (λ w. Two w b) x.word_is
          ∙ ap (λ w. Two (operand_word names k i.0.0) w) y.word_is;
      are = (x.is, y.is);
    })
operands-told names (Three k l m) (Three a b c) operands h =
    let i = read_as-told (λ (o : Operand × (Operand × Operand)). Three o.0 o.1.0 o.1.1)
    (both (operand_in names k a) (both (operand_in names l b) (operand_in names m c))) operands
    h in
    let t = both-told (operand_in names k a)
    (both (operand_in names l b) (operand_in names m c)) i.0 i.1 in
    let u = both-told (operand_in names l b) (operand_in names m c) i.0.1 t.1 in
    let x = operand-told names k a i.0.0 t.0 in
    let y = operand-told names l b i.0.1.0 u.0 in
    let z = operand-told names m c i.0.1.1 u.1 in
    same-operands names (Three k l m) (Three a b c) (Three i.0.0 i.0.1.0 i.0.1.1) operands i.2
    (record {
      words_are = ap (λ w. Three w b c) x.word_is
          ∙ ap (λ w. Three (operand_word names k i.0.0) w c) y.word_is
          ∙ ap (λ w. Three (operand_word names k i.0.0) (operand_word names l i.0.1.0) w) z.word_is;
      are = (x.is, y.is, z.is);
    })
operands-told names ks words operands h = absurd cc

-- the words are the ask's, and the ask is one of the test
pub record IsTold (names : NameLists) (version : ℕ) (words : List (List ℕ)) (ask : Ask) : Type
    0 where
  pub words_are : words ≡ ask_words names ask
  pub lawful : IsAsk names version ask

asked-told : (verb : Verb) (read : WordsRead (Operands Operand)) (ask : Ask)
    → asked verb read ≡ Is ask
    → (operands : Operands Operand) × (read ≡ Is operands) × (ask_of verb operands ≡ Some ask)
asked-told verb (Is operands) ask h = (operands, refl, by (ask_of verb operands) h)
  where
    by : (found : Option Ask) → made found ≡ Is ask → found ≡ Some ask
    by None k = absurd cc
    by (Some other) k = ap (λ x. Some x) (is_is other ask k)
asked-told verb NoForm ask h = absurd cc
asked-told verb UnknownName ask h = absurd cc

words-told : (names : NameLists) (version : ℕ) (word : List ℕ) (words : Operands (List ℕ))
    (ask : Ask) → ask_of_words names version word words ≡ Is ask
    → IsTold names version (word ∷ listed words) ask
unfolding ask_of_words
words-told names version word words ask h = by (verb_in version word) refl h
  where
    by : (found : Option Verb) → verb_in version word ≡ found
        → verb_ask names found words ≡ Is ask
        → IsTold names version (word ∷ listed words) ask
    by None e k = absurd cc
    by (Some verb) e k =
        let v = verb-told version word verb e in
        let o = asked-told verb (operands_in names (verb_operands verb) words) ask k in
        let t = operands-told names (verb_operands verb) words o.0 o.1 in
        let p = made-parts names verb o.0 ask t.are o.2 in
        record {
          words_are = ap (λ w. w ∷ listed words) v.0
              ∙ ap (λ ws. verb_word verb ∷ listed ws) t.words_are
              ∙ sym (parts-words names ask ∙ ap (words_of_parts names) p);
          lawful = lawful-parts names version ask verb o.0 p v.1 t.are;
        }

-- ---- words of an ask are read as the ask

operand-known : (names : NameLists) (kind : OperandKind) (operand : Operand) → AreNames names
    → IsOperand names kind operand
    → operand_in names kind (operand_word names kind operand) ≡ Is operand
operand-known names (kinds.Object kind) (Place id) sound h =
    ap (λ (o : WordsRead ℕ). read_as (λ (i : ℕ). Place i) o) (object-known names kind id sound h)
operand-known names kinds.Value (Value z) sound h =
    ap (λ (o : Option ℤ). plain (λ (v : ℤ). Value v) o) (i64_in-Some z h)
operand-known names kinds.Holds (Holds true) sound h = refl
operand-known names kinds.Holds (Holds false) sound h = refl
operand-known names kinds.Cause (Cause Overflow) sound h = refl
operand-known names kinds.Cause (Cause ZeroDivisor) sound h = refl
operand-known names kinds.Cause (Cause Spin) sound h = refl
operand-known names kind operand sound h = absurd h

operands-known : (names : NameLists) (ks : Operands OperandKind) (operands : Operands Operand)
    → AreNames names → Each (IsOperand names) ks operands
    → operands_in names ks (operand_words names ks operands) ≡ Is operands
operands-known names Bare Bare sound h = refl
operands-known names (One k) (One a) sound h = rw (operand-known names k a sound h)
operands-known names (Two k l) (Two a b) sound h =
    rw (operand-known names k a sound h.0, operand-known names l b sound h.1)
operands-known names (Three k l m) (Three a b c) sound h =
    rw (
      operand-known names k a sound h.0,
      operand-known names l b sound h.1,
      operand-known names m c sound h.2,
    )
operands-known names ks operands sound h = absurd h

-- what is read of an ask's words, by how many there are
abbrev pub ask_in : NameLists → ℕ → List (List ℕ) → WordsRead Ask
ask_in names version (word ∷ []) = ask_of_words names version word Bare
ask_in names version (word ∷ a ∷ []) = ask_of_words names version word (One a)
ask_in names version (word ∷ a ∷ b ∷ []) = ask_of_words names version word (Two a b)
ask_in names version (word ∷ a ∷ b ∷ c ∷ []) = ask_of_words names version word (Three a b c)
ask_in names version words = NoForm

pub listed-ask : (names : NameLists) (version : ℕ) (word : List ℕ) (words : Operands (List ℕ))
    → ask_in names version (word ∷ listed words) ≡ ask_of_words names version word words
listed-ask names version word Bare = refl
listed-ask names version word (One a) = refl
listed-ask names version word (Two a b) = refl
listed-ask names version word (Three a b c) = refl

pub ask-known : (names : NameLists) (version : ℕ) (ask : Ask) → AreNames names
    → IsAsk names version ask → ask_in names version (ask_words names ask) ≡ Is ask
unfolding ask_of_words
ask-known names version ask sound h =
    let verb = (parts ask).0 in
    let operands = (parts ask).1 in
    let words = operand_words names (verb_operands verb) operands in
    ap (ask_in names version) (parts-words names ask)
    ∙ listed-ask names version (verb_word verb) words
    ∙ ap (λ (v : Option Verb). verb_ask names v words)
    (verb-found version verb (lawful-known names version ask h))
    ∙ ap (asked verb)
    (operands-known names (verb_operands verb) operands sound
    (lawful-operands names version ask h))
    ∙ ap made (parts-make ask)

-- an ask has one word to four
abbrev pub HasFewWords : List (List ℕ) → Type 0
HasFewWords [] = ⊥
HasFewWords (a ∷ []) = Unit {0}
HasFewWords (a ∷ b ∷ []) = Unit {0}
HasFewWords (a ∷ b ∷ c ∷ []) = Unit {0}
HasFewWords (a ∷ b ∷ c ∷ d ∷ []) = Unit {0}
HasFewWords (a ∷ b ∷ c ∷ d ∷ e ∷ words) = ⊥

pub few-words : (names : NameLists) (ask : Ask) → HasFewWords (ask_words names ask)
few-words names (asks.Read x) = tt
few-words names ask = tt

-- and what is read of few words is the ask of which they are
pub ask-told : (names : NameLists) (version : ℕ) (words : List (List ℕ)) (ask : Ask)
    → ask_in names version words ≡ Is ask → IsTold names version words ask
ask-told names version (a ∷ []) ask h = words-told names version a Bare ask h
ask-told names version (a ∷ b ∷ []) ask h = words-told names version a (One b) ask h
ask-told names version (a ∷ b ∷ c ∷ []) ask h = words-told names version a (Two b c) ask h
ask-told names version (a ∷ b ∷ c ∷ d ∷ []) ask h =
    words-told names version a (Three b c d) ask h
ask-told names version words ask h = absurd cc
