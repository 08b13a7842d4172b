-- An ask is read of the words of its form, and of nothing else.
use Rattle.std.specs.Prelude.{if◌then◌else◌}
use Rattle.std.proofs.Common.{◌≡◌, ◌⊎◌, ℕ, ◌≤◌, Bool, true, false, List, [], ◌∷◌, ℤ, Option}
use Rattle.std.proofs.Common.{Some, None, refl, sym, ap, ◌∙◌, inl, inr}
use Rattle.pct_ask.specs.Words.{is_name}
use Rattle.pct_ask.specs.NameLists.{NameLists, list_of, place_of}
use Rattle.pct_ask.specs.VerdictWords.{fault_kind}
use Rattle.pct_ask.specs.declared.names.NameKind.{NameKind}
use Rattle.pct_ask.specs.declared.ask.FaultKind.{FaultKind}
use Rattle.pct_ask.specs.declared.ask.FaultKind.TheVariants.{Overflow, ZeroDivisor, Spin}
use Rattle.pct_ask.specs.declared.ask.Ask.{Ask}
use Rattle.pct_ask.proofs.laws.VerdictForms.{fault_word-read}
use Rattle.pct_ask.specs.declared.trace_verbs.Verb.{Verb}
use Rattle.pct_ask.specs.declared.trace_verbs.OperandKind.{OperandKind}
use Rattle.pct_ask.specs.declared.trace_verbs.OperandKind.TheVariants as kinds
use Rattle.pct_ask.specs.declared.trace_verbs.Operands.{Operands}
use Rattle.pct_ask.specs.declared.trace_verbs.Operands.TheVariants.{Bare, One, Two, Three}
use Rattle.pct_ask.specs.TraceVerbs.{verb_operands, verb_word, verb_in}
use Rattle.pct_ask.proofs.laws.TraceVerbs.{verb-told, verb-found, known-since, since-known}
use Rattle.trace_text.specs.Operands.{listed, mapped, Each, SomeOf}
use Rattle.trace_text.specs.reader.Numbers.{i64_in}
use Rattle.trace_text.specs.reader.Asks.{has_form, object_at, object, holds_of, plain, operand_in}
use Rattle.trace_text.specs.reader.Asks.{both, read_as, operands_in, ask_of, made, asked, verb_ask}
use Rattle.trace_text.specs.reader.Asks.{ask_of_words}
use Rattle.trace_text.specs.declared.asks.WordsRead.{WordsRead}
use Rattle.trace_text.specs.declared.asks.WordsRead.TheVariants.{Is, NoForm, UnknownName}
use Rattle.trace_text.specs.declared.asks.Operand.{Operand}
use Rattle.trace_text.specs.declared.asks.Operand.TheVariants as operands
use Rattle.trace_text.specs.Forms.{OperandForm, Name, Value, Holds, Cause, AskForm, ask_form}
use Rattle.trace_text.specs.Forms.{operand_word, words_of_ask, IsName, IsOperandForm, IsAskOf}
use Rattle.trace_text.specs.Forms.{IsUnknownOperand, AsksUnknown}
use Rattle.trace_text.proofs.Values.{Some-i64_in, i64_in-Some}
use Rattle.trace_text.proofs.AskParts.{makes}
use Rattle.trace_text.proofs.AskWords.{holds-word, operands-told, ask_in, listed-ask, HasFewWords}

-- words with no form, and words whose names are known
no-form : {A : Type 0} (read : WordsRead A) → NoForm ≡ read → has_form read ≡ true → ⊥
no-form (Is x) e form = cc
no-form NoForm e form = cc
no-form UnknownName e form = cc

not-unknown : {A : Type 0} (x : A) (read : WordsRead A) → Is x ≡ read → read ≡ UnknownName → ⊥
not-unknown x read e unknown = cc

-- ---- an object

pub object-inv : (names : NameLists) (kind : NameKind) (word : List ℕ)
    → has_form (object names kind word) ≡ true
    → IsName word × (object names kind word ≡ UnknownName
    → place_of word (list_of kind names) ≡ None)
object-inv names kind word form = by (is_name 1 word) (place_of word (list_of kind names)) refl refl
    (object names kind word) refl form
  where
    by : (b : Bool) (place : Option ℕ) → is_name 1 word ≡ b
        → place_of word (list_of kind names) ≡ place → (found : WordsRead ℕ)
        → (if◌then◌else◌ {A = WordsRead ℕ} b (object_at place) NoForm) ≡ found
        → has_form found ≡ true → IsName word × (found ≡ UnknownName
        → place_of word (list_of kind names) ≡ None)
    by true None e p found k form' = (e, λ unknown. p)
    by true (Some id) e p found k form' = (e, λ unknown. absurd (not-unknown id found k unknown))
    by false place e p found k form' = absurd (no-form found k form')

pub object-lawful : (names : NameLists) (kind : NameKind) (word : List ℕ) → IsName word
    → object names kind word ≡ object_at (place_of word (list_of kind names))
object-lawful names kind word lawful = rw lawful

-- a lawful name has a form, and is unknown where it has no place
pub placed-form : (place : Option ℕ) → has_form (object_at place) ≡ true
placed-form None = refl
placed-form (Some id) = refl

-- ---- what is read has a form, and an unknown name

read_as-form : {A B : Type 0} (make : A → B) (read : WordsRead A)
    → has_form (read_as make read) ≡ has_form read
read_as-form make (Is x) = refl
read_as-form make NoForm = refl
read_as-form make UnknownName = refl

read_as-unknown : {A B : Type 0} (make : A → B) (read : WordsRead A)
    → read_as make read ≡ UnknownName → read ≡ UnknownName
read_as-unknown make (Is x) h = absurd cc
read_as-unknown make NoForm h = absurd cc
read_as-unknown make UnknownName h = refl

both-form : {A B : Type 0} (a : WordsRead A) (b : WordsRead B) → has_form (both a b) ≡ true
    → (has_form a ≡ true) × (has_form b ≡ true)
both-form (Is x) (Is y) h = (refl, refl)
both-form (Is x) UnknownName h = (refl, refl)
both-form UnknownName (Is y) h = (refl, refl)
both-form UnknownName UnknownName h = (refl, refl)
both-form a b h = absurd cc

form-both : {A B : Type 0} (a : WordsRead A) (b : WordsRead B) → has_form a ≡ true
    → has_form b ≡ true → has_form (both a b) ≡ true
form-both (Is x) (Is y) p q = refl
form-both (Is x) UnknownName p q = refl
form-both UnknownName (Is y) p q = refl
form-both UnknownName UnknownName p q = refl
form-both NoForm b p q = absurd cc
form-both (Is x) NoForm p q = absurd cc
form-both UnknownName NoForm p q = absurd cc

both-unknown : {A B : Type 0} (a : WordsRead A) (b : WordsRead B) → both a b ≡ UnknownName
    → (a ≡ UnknownName) ⊎ (b ≡ UnknownName)
both-unknown UnknownName b h = inl refl
both-unknown (Is x) UnknownName h = inr refl
both-unknown a b h = absurd cc

unknown-both : {A B : Type 0} (a : WordsRead A) (b : WordsRead B) → has_form a ≡ true
    → has_form b ≡ true → (a ≡ UnknownName) ⊎ (b ≡ UnknownName) → both a b ≡ UnknownName
unknown-both (Is x) (Is y) p q (inl h) = absurd cc
unknown-both (Is x) (Is y) p q (inr h) = absurd cc
unknown-both (Is x) UnknownName p q h = refl
unknown-both UnknownName (Is y) p q h = refl
unknown-both UnknownName UnknownName p q h = refl
unknown-both NoForm b p q h = absurd cc
unknown-both (Is x) NoForm p q h = absurd cc
unknown-both UnknownName NoForm p q h = absurd cc

plain-form : {A : Type 0} (make : A → Operand) (read : Option A)
    → has_form (plain make read) ≡ true → (x : A) × (read ≡ Some x)
plain-form make None h = absurd cc
plain-form make (Some x) h = (x, refl)

plain-known : {A : Type 0} (make : A → Operand) (read : Option A)
    → plain make read ≡ UnknownName → ⊥
plain-known make None h = cc
plain-known make (Some x) h = cc

-- ---- an operand

-- the word is that of an operand by form, which is an unknown name where one was read
record IsOperandWord (names : NameLists) (kind : OperandKind) (word : List ℕ)
    (read : WordsRead Operand) : Type 0 where
  form : OperandForm
  word_is : word ≡ operand_word form
  of : IsOperandForm kind form
  unknown : read ≡ UnknownName → IsUnknownOperand names kind form

operand-form : (names : NameLists) (kind : OperandKind) (word : List ℕ)
    → has_form (operand_in names kind word) ≡ true
    → IsOperandWord names kind word (operand_in names kind word)
operand-form names (kinds.Object kind) word h =
    let place = λ (id : ℕ). operands.Place id in
    let o = object-inv names kind word (sym (read_as-form place (object names kind word)) ∙ h) in
    record {
      form = Name word;
      word_is = refl;
      of = o.0;
      unknown = λ none. o.1 (read_as-unknown place (object names kind word) none);
    }
operand-form names kinds.Value word h =
    let make = λ (z : ℤ). operands.Value z in
    let i = plain-form make (i64_in word) h in
    let v = Some-i64_in word i.0 i.1 in
    record {
      form = Value i.0;
      word_is = v.0;
      of = v.1;
      unknown = λ none. absurd (plain-known make (i64_in word) none);
    }
operand-form names kinds.Holds word h =
    let make = λ (b : Bool). operands.Holds b in
    let i = plain-form make (holds_of word) h in
    record {
      form = Holds i.0;
      word_is = holds-word word i.0 i.1;
      of = tt;
      unknown = λ none. absurd (plain-known make (holds_of word) none);
    }
operand-form names kinds.Cause word h =
    let make = λ (k : FaultKind). operands.Cause k in
    let i = plain-form make (fault_kind word) h in
    record {
      form = Cause i.0;
      word_is = fault_word-read word i.0 i.1;
      of = tt;
      unknown = λ none. absurd (plain-known make (fault_kind word) none);
    }

-- what is read of the word of an operand by form: an unknown name where it is one
record IsOperandRead (names : NameLists) (kind : OperandKind) (form : OperandForm) : Type 0 where
  has : has_form (operand_in names kind (operand_word form)) ≡ true
  unknown : IsUnknownOperand names kind form
      → operand_in names kind (operand_word form) ≡ UnknownName

operand-read : (names : NameLists) (kind : OperandKind) (form : OperandForm)
    → IsOperandForm kind form → IsOperandRead names kind form
operand-read names (kinds.Object kind) (Name name) of =
    let place = λ (id : ℕ). operands.Place id in
    let at = object-lawful names kind name of in
    record {
      has = ap (λ (o : WordsRead ℕ). has_form (read_as place o)) at
          ∙ read_as-form place (object_at (place_of name (list_of kind names)))
          ∙ placed-form (place_of name (list_of kind names));
      unknown = λ none. ap (λ (o : WordsRead ℕ). read_as place o) at
          ∙ ap (λ (p : Option ℕ). read_as place (object_at p)) none;
    }
operand-read names kinds.Value (Value z) of = record {
  has = ap (λ (o : Option ℤ). has_form (plain (λ (v : ℤ). operands.Value v) o)) (i64_in-Some z of);
  unknown = λ none. absurd none;
}
operand-read names kinds.Holds (Holds true) of = record
    { has = refl; unknown = λ none. absurd none }
operand-read names kinds.Holds (Holds false) of = record
    { has = refl; unknown = λ none. absurd none }
operand-read names kinds.Cause (Cause Overflow) of = record
    { has = refl; unknown = λ none. absurd none }
operand-read names kinds.Cause (Cause ZeroDivisor) of = record
    { has = refl; unknown = λ none. absurd none }
operand-read names kinds.Cause (Cause Spin) of = record
    { has = refl; unknown = λ none. absurd none }
operand-read names kind form of = absurd of

-- ---- the operands of an ask

record AreOperandWords (names : NameLists) (ks : Operands OperandKind) (words : Operands (List ℕ))
    (read : WordsRead (Operands Operand)) : Type 0 where
  forms : Operands OperandForm
  words_are : words ≡ mapped operand_word forms
  of : Each IsOperandForm ks forms
  unknown : read ≡ UnknownName → SomeOf (IsUnknownOperand names) ks forms

either : {A B C D : Type 0} → (A → C) → (B → D) → A ⊎ B → C ⊎ D
either f g (inl x) = inl (f x)
either f g (inr y) = inr (g y)

operands-form : (names : NameLists) (ks : Operands OperandKind) (words : Operands (List ℕ))
    → has_form (operands_in names ks words) ≡ true
    → AreOperandWords names ks words (operands_in names ks words)
operands-form names Bare Bare h = record {
  forms = Bare;
  words_are = refl;
  of = tt;
  unknown = λ none. absurd cc;
}
operands-form names (One k) (One a) h =
    let make = λ (o : Operand). One o in
    let p = operand_in names k a in
    let x = operand-form names k a (sym (read_as-form make p) ∙ h) in
    record {
      forms = One x.form;
      words_are = ap (λ w. One w) x.word_is;
      of = x.of;
      unknown = λ none. x.unknown (read_as-unknown make p none);
    }
operands-form names (Two k l) (Two a b) h =
    let make = λ (o : Operand × Operand). Two o.0 o.1 in
    let p = operand_in names k a in
    let q = operand_in names l b in
    let f = both-form p q (sym (read_as-form make (both p q)) ∙ h) in
    let x = operand-form names k a f.0 in
    let y = operand-form names l b f.1 in
    record {
      forms = Two x.form y.form;
      words_are = ap (λ w. Two w b) x.word_is ∙ ap (λ w. Two (operand_word x.form) w) y.word_is;
      of = (x.of, y.of);
      unknown = λ none. either x.unknown y.unknown
          (both-unknown p q (read_as-unknown make (both p q) none));
    }
operands-form names (Three k l m) (Three a b c) h =
    let make = λ (o : Operand × (Operand × Operand)). Three o.0 o.1.0 o.1.1 in
    let p = operand_in names k a in
    let q = operand_in names l b in
    let r = operand_in names m c in
    let f = both-form p (both q r) (sym (read_as-form make (both p (both q r))) ∙ h) in
    let g = both-form q r f.1 in
    let x = operand-form names k a f.0 in
    let y = operand-form names l b g.0 in
    let z = operand-form names m c g.1 in
    record {
      forms = Three x.form y.form z.form;
      words_are = ap (λ w. Three w b c) x.word_is
          ∙ ap (λ w. Three (operand_word x.form) w c) y.word_is
          ∙ ap (λ w. Three (operand_word x.form) (operand_word y.form) w) z.word_is;
      of = (x.of, y.of, z.of);
      unknown = λ none. either x.unknown
          (λ (others : both q r ≡ UnknownName). either y.unknown z.unknown
          (both-unknown q r others))
          (both-unknown p (both q r) (read_as-unknown make (both p (both q r)) none));
    }
operands-form names ks words h = absurd cc

record AreOperandsRead (names : NameLists) (ks : Operands OperandKind)
    (forms : Operands OperandForm) : Type 0 where
  has : has_form (operands_in names ks (mapped operand_word forms)) ≡ true
  unknown : SomeOf (IsUnknownOperand names) ks forms
      → operands_in names ks (mapped operand_word forms) ≡ UnknownName

operands-read : (names : NameLists) (ks : Operands OperandKind) (forms : Operands OperandForm)
    → Each IsOperandForm ks forms → AreOperandsRead names ks forms
operands-read names Bare Bare of = record { has = refl; unknown = λ none. absurd none }
operands-read names (One k) (One a) of =
    let make = λ (o : Operand). One o in
    let x = operand-read names k a of in
    record {
      has = read_as-form make (operand_in names k (operand_word a)) ∙ x.has;
      unknown = λ none. ap (read_as make) (x.unknown none);
    }
operands-read names (Two k l) (Two a b) of =
    let make = λ (o : Operand × Operand). Two o.0 o.1 in
    let p = operand_in names k (operand_word a) in
    let q = operand_in names l (operand_word b) in
    let x = operand-read names k a of.0 in
    let y = operand-read names l b of.1 in
    record {
      has = read_as-form make (both p q) ∙ form-both p q x.has y.has;
      unknown = λ none. ap (read_as make)
          (unknown-both p q x.has y.has (either x.unknown y.unknown none));
    }
operands-read names (Three k l m) (Three a b c) of =
    let make = λ (o : Operand × (Operand × Operand)). Three o.0 o.1.0 o.1.1 in
    let p = operand_in names k (operand_word a) in
    let q = operand_in names l (operand_word b) in
    let r = operand_in names m (operand_word c) in
    let x = operand-read names k a of.0 in
    let y = operand-read names l b of.1 in
    let z = operand-read names m c of.2 in
    let others = form-both q r y.has z.has in
    record {
      has = read_as-form make (both p (both q r)) ∙ form-both p (both q r) x.has others;
      unknown = λ none. ap (read_as make)
          (unknown-both p (both q r) x.has others
          (either x.unknown
          (λ (some : IsUnknownOperand names l b ⊎ IsUnknownOperand names m c).
          unknown-both q r y.has z.has (either y.unknown z.unknown some)) none));
    }
operands-read names ks forms of = absurd of

-- ---- an ask

-- the words are those of an ask by form, which has an unknown name where one was read
pub record IsAskWords (names : NameLists) (version : ℕ) (words : List (List ℕ))
    (read : WordsRead Ask) : Type 0 where
  pub ask : AskForm
  pub words_are : words ≡ words_of_ask ask
  pub of : IsAskOf version ask
  pub unknown : read ≡ UnknownName → AsksUnknown names ask

asked-form : (verb : Verb) (read : WordsRead (Operands Operand)) → has_form (asked verb read) ≡ true
    → has_form read ≡ true
asked-form verb (Is operands) h = refl
asked-form verb NoForm h = absurd cc
asked-form verb UnknownName h = refl

made-known : (ask : Option Ask) → made ask ≡ UnknownName → ⊥
made-known None h = cc
made-known (Some ask) h = cc

asked-unknown : (verb : Verb) (read : WordsRead (Operands Operand))
    → asked verb read ≡ UnknownName → read ≡ UnknownName
asked-unknown verb (Is operands) h = absurd (made-known (ask_of verb operands) h)
asked-unknown verb NoForm h = absurd cc
asked-unknown verb UnknownName h = refl

words-form : (names : NameLists) (version : ℕ) (word : List ℕ) (words : Operands (List ℕ))
    (read : WordsRead Ask) → 1 ≤ version → ask_of_words names version word words ≡ read
    → has_form read ≡ true → IsAskWords names version (word ∷ listed words) read
unfolding ask_of_words
words-form names version word words read some h form = by (verb_in version word) refl h
  where
    by : (found : Option Verb) → verb_in version word ≡ found → verb_ask names found words ≡ read
        → IsAskWords names version (word ∷ listed words) read
    by None e k = absurd (no-form read k form)
    by (Some verb) e k =
        let v = verb-told version word verb e in
        let o = operands-form names (verb_operands verb) words
        (asked-form verb (operands_in names (verb_operands verb) words) (ap has_form k ∙ form)) in
        record {
          ask = ask_form verb o.forms;
          words_are = ap (λ w. w ∷ listed words) v.0
              ∙ ap (λ ws. verb_word verb ∷ listed ws) o.words_are;
          of = (known-since version verb some v.1, o.of);
          unknown = λ unknown. o.unknown
              (asked-unknown verb (operands_in names (verb_operands verb) words) (k ∙ unknown));
        }

pub ask-form : (names : NameLists) (version : ℕ) (words : List (List ℕ)) (read : WordsRead Ask)
    → 1 ≤ version → ask_in names version words ≡ read → has_form read ≡ true
    → IsAskWords names version words read
ask-form names version (a ∷ []) read some h form =
    words-form names version a Bare read some h form
ask-form names version (a ∷ b ∷ []) read some h form =
    words-form names version a (One b) read some h form
ask-form names version (a ∷ b ∷ c ∷ []) read some h form =
    words-form names version a (Two b c) read some h form
ask-form names version (a ∷ b ∷ c ∷ d ∷ []) read some h form =
    words-form names version a (Three b c d) read some h form
ask-form names version words read some h form = absurd (no-form read h form)

-- what is read of the words of an ask by form: an unknown name where it has one
pub record IsAskRead (names : NameLists) (version : ℕ) (ask : AskForm) : Type 0 where
  pub read : WordsRead Ask
  pub is : ask_in names version (words_of_ask ask) ≡ read
  pub form : has_form read ≡ true
  pub unknown : AsksUnknown names ask → read ≡ UnknownName

asked-has : (names : NameLists) (verb : Verb) (words : Operands (List ℕ))
    → has_form (operands_in names (verb_operands verb) words) ≡ true
    → has_form (asked verb (operands_in names (verb_operands verb) words)) ≡ true
asked-has names verb words h = by (operands_in names (verb_operands verb) words) refl h
  where
    by : (read : WordsRead (Operands Operand)) → operands_in names (verb_operands verb) words ≡ read
        → has_form read ≡ true → has_form (asked verb read) ≡ true
    by (Is operands) e k =
        let t = operands-told names (verb_operands verb) words operands e in
        let m = makes names verb operands t.are in
        ap (λ (a : Option Ask). has_form (made a)) m.1
    by NoForm e k = absurd cc
    by UnknownName e k = refl

pub ask-read : (names : NameLists) (version : ℕ) (ask : AskForm) → (version ≡ 1) ⊎ (version ≡ 2)
    → IsAskOf version ask → IsAskRead names version ask
unfolding ask_of_words
ask-read names version ask which of =
    let words = mapped operand_word ask.operands in
    let r = operands-read names (verb_operands ask.verb) ask.operands of.1 in
    let known = since-known version ask.verb which of.0 in
    record {
      read = asked ask.verb (operands_in names (verb_operands ask.verb) words);
      is = listed-ask names version (verb_word ask.verb) words
          ∙ ap (λ (v : Option Verb). verb_ask names v words) (verb-found version ask.verb known);
      form = asked-has names ask.verb words r.has;
      unknown = λ none. ap (asked ask.verb) (r.unknown none);
    }

few-listed : (word : List ℕ) (words : Operands (List ℕ)) → HasFewWords (word ∷ listed words)
few-listed word Bare = tt
few-listed word (One a) = tt
few-listed word (Two a b) = tt
few-listed word (Three a b c) = tt

pub few-ask_words : (ask : AskForm) → HasFewWords (words_of_ask ask)
few-ask_words ask = few-listed (verb_word ask.verb) (mapped operand_word ask.operands)
