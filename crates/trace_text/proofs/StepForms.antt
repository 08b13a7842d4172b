-- A step is read of the words of its form, and of nothing else.
use Rattle.std.specs.Prelude.{codes, decimal, ◌&&◌, if◌then◌else◌}
use Rattle.std.specs.List.{join_with_byte}
use Rattle.std.specs.Str.{bytes_eq}
use Rattle.std.proofs.Common.{◌≡◌, ◌⊎◌, ℕ, ◌<◌, ◌≤◌, ◌^◌, Bool, true, false, List, [], ◌∷◌, ◌++◌}
use Rattle.std.proofs.Common.{take, drop, ℤ, Option, Some, None, refl, sym, ap, ◌∙◌, inl, inr}
use Rattle.std.proofs.Common.{arith}
use Rattle.std.proofs.lemmas.Fmt.{decimal_is_IsNumeral_wide}
use Rattle.std.proofs.lemmas.Slice.Eq.{bytes_eq-Decides}
use Rattle.pct_ask.specs.NameLists.{NameLists, place_of}
use Rattle.pct_ask.specs.Numbers.{number_text}
use Rattle.pct_ask.specs.VerdictWords.{words_of, verdict_of_words}
use Rattle.pct_ask.specs.declared.names.NameKind.TheVariants.{Thread}
use Rattle.pct_ask.specs.declared.ask.Ask.{Ask}
use Rattle.pct_ask.specs.declared.event.Event.{Event}
use Rattle.pct_ask.proofs.laws.SplitWords.{join-words_of}
use Rattle.pct_ask.specs.VerdictWords.{line_number}
use Rattle.pct_ask.proofs.laws.Decimals.{number_in-decimal, number_in-Some}
use Rattle.trace_text.specs.reader.Numbers.{i64_in, natural_of}
use Rattle.trace_text.specs.reader.Asks.{has_form, known_words, object_at, object}
use Rattle.trace_text.specs.reader.StepLines.{event_of, numbered_step, step_of_parts, step_in_words}
use Rattle.trace_text.specs.reader.StepLines.{step_of_words, end_of, row_of}
use Rattle.trace_text.specs.declared.asks.WordsRead.{WordsRead}
use Rattle.trace_text.specs.declared.asks.WordsRead.TheVariants.{Is, NoForm, UnknownName}
use Rattle.trace_text.specs.Forms.{AskForm, words_of_ask, words_of_form, IsLineOf, HasUnknown}
use Rattle.trace_text.specs.Forms.{AsksUnknown, IsUndeclared}
use Rattle.trace_text.specs.Forms as forms
use Rattle.trace_text.specs.declared.row.TraceRow.TheVariants.{Step}
use Rattle.trace_text.proofs.Values.{i64_in-Some, Some-i64_in}
use Rattle.trace_text.proofs.AskWords.{ask_in}
use Rattle.trace_text.proofs.StepWords.{natural-decimal, decimal-natural, step_words, read-words}
use Rattle.trace_text.proofs.Ends.{row-step}
use Rattle.trace_text.proofs.Rows.{end-no-step, digit-first}
use Rattle.trace_text.proofs.AskForms.{object-inv, object-lawful, placed-form, ask-form}
use Rattle.trace_text.proofs.AskForms.{ask-read, few-ask_words}

-- ---- what is read as a step is one by form

-- the words are those of a step by form, which has an unknown name where no event was read
pub record IsStepWords (names : NameLists) (version : ℕ) (words : List (List ℕ)) (n : ℕ)
    (event : Option Event) : Type 0 where
  pub thread : List ℕ
  pub line : ℕ
  pub ask : AskForm
  pub answer : ℤ
  pub words_are : words ≡ words_of_form (forms.Step n thread line ask answer)
  pub of : IsLineOf names version (forms.Step n thread line ask answer)
  pub unknown : event ≡ None → HasUnknown names (forms.Step n thread line ask answer)

record Parts (number : Option ℕ) (thread : WordsRead ℕ) (line : Option ℕ) (ask : WordsRead Ask)
    (sign : Bool) (answer : Option ℤ) (n : ℕ) (event : Option Event) : Type 0 where
  l : ℕ
  v : ℤ
  number_is : number ≡ Some n
  thread_form : has_form thread ≡ true
  line_is : line ≡ Some l
  ask_form : has_form ask ≡ true
  sign_is : sign ≡ true
  answer_is : answer ≡ Some v
  event_is : event_of (known_words thread) l (known_words ask) v ≡ event

row-inv : (m n : ℕ) (e event : Option Event) → Some (Step m e) ≡ Some (Step n event)
    → (m ≡ n) × (e ≡ event)
row-inv m n e event h = let same : Step m e ≡ Step n event = cc in (cc, cc)

numbered-inv : (m : ℕ) (thread : WordsRead ℕ) (l : ℕ) (ask : WordsRead Ask) (v : ℤ) (n : ℕ)
    (event : Option Event) → numbered_step m thread l ask v ≡ Some (Step n event)
    → Parts (Some m) thread (Some l) ask true (Some v) n event
numbered-inv m thread l ask v n event h = by (has_form thread) (has_form ask) refl refl h
  where
    by : (a b : Bool) → has_form thread ≡ a → has_form ask ≡ b
        → (if a && b then Some (Step m (event_of (known_words thread) l (known_words ask) v))
        else None) ≡ Some
        (Step n event) → Parts (Some m) thread (Some l) ask true (Some v) n event
    by true true p q k =
        let r = row-inv m n (event_of (known_words thread) l (known_words ask) v) event k in
        record {
          l = l;
          v = v;
          number_is = ap (λ x. Some x) r.0;
          thread_form = p;
          line_is =
              refl;
          ask_form = q;
          sign_is = refl;
          answer_is = refl;
          event_is = r.1;
        }
    by true false p q k = absurd cc
    by false b p q k = absurd cc

parts-inv : (number : Option ℕ) (thread : WordsRead ℕ) (line : Option ℕ) (ask : WordsRead Ask)
    (sign : Bool) (answer : Option ℤ) (n : ℕ) (event : Option Event)
    → step_of_parts number thread line ask sign answer ≡ Some (Step n event)
    → Parts number thread line ask sign answer n event
parts-inv None thread line ask sign answer n event h = absurd cc
parts-inv (Some m) thread None ask sign answer n event h = absurd cc
parts-inv (Some m) thread (Some l) ask false answer n event h = absurd cc
parts-inv (Some m) thread (Some l) ask true None n event h = absurd cc
parts-inv (Some m) thread (Some l) ask true (Some v) n event h =
    numbered-inv m thread l ask v n event h

-- an event is lost where its thread or its ask is
event-lost : (t : Option ℕ) (l : ℕ) (a : Option Ask) (v : ℤ) (event : Option Event)
    → event_of t l a v ≡ event → event ≡ None → (t ≡ None) ⊎ (a ≡ None)
event-lost None l a v event h none = inl refl
event-lost (Some t) l None v event h none = inr refl
event-lost (Some t) l (Some a) v event h none = absurd cc

lost-event : (t : Option ℕ) (l : ℕ) (a : Option Ask) (v : ℤ) → (t ≡ None) ⊎ (a ≡ None)
    → event_of t l a v ≡ None
lost-event None l a v none = refl
lost-event (Some t) l None v none = refl
lost-event (Some t) l (Some a) v (inl none) = absurd cc
lost-event (Some t) l (Some a) v (inr none) = absurd cc

unknown-is : {A : Type 0} (read : WordsRead A) → has_form read ≡ true → known_words read ≡ None
    → read ≡ UnknownName
unknown-is (Is x) form none = absurd cc
unknown-is NoForm form none = absurd cc
unknown-is UnknownName form none = refl

unknown-by : (names : NameLists) (thread : List ℕ) (ask : AskForm) (t : WordsRead ℕ)
    (a : WordsRead Ask) → has_form t ≡ true → has_form a ≡ true
    → (t ≡ UnknownName → IsUndeclared names Thread thread)
    → (a ≡ UnknownName → AsksUnknown names ask) → (known_words t ≡ None) ⊎ (known_words a ≡ None)
    → IsUndeclared names Thread thread ⊎ AsksUnknown names ask
unknown-by names thread ask t a p q f g (inl none) = inl (f (unknown-is t p none))
unknown-by names thread ask t a p q f g (inr none) = inr (g (unknown-is a q none))

step-spelled : (number thread line sign answer n l v : List ℕ) (ask asked : List (List ℕ))
    → number ≡ n → line ≡ l → ask ≡ asked → sign ≡ codes "=" → answer ≡ v
    → step_words number thread line ask sign answer ≡ step_words n thread l asked (codes "=") v
step-spelled number thread line sign answer n l v ask asked p q r s t = rw (p, q, r, s, t)

form-parts : (names : NameLists) (version : ℕ) (number thread line : List ℕ) (ask : List (List ℕ))
    (sign answer : List ℕ) (n : ℕ) (event : Option Event) → 1 ≤ version
    → step_in_words names number thread line (ask_in names version ask) sign answer
    ≡ Some (Step n event) → IsStepWords names version
    (step_words number thread line ask sign answer) n event
unfolding step_in_words
form-parts names version number thread line ask sign answer n event some h =
    let p = parts-inv (natural_of number) (object names Thread thread) (line_number line)
    (ask_in names version ask) (bytes_eq sign (codes "=")) (i64_in answer) n event h in
    let number_is = natural-decimal number n p.number_is in
    let thread_is = object-inv names Thread thread p.thread_form in
    let line_is = number_in-Some 1 4096 p.l line p.line_is in
    let ask_is = ask-form names version ask (ask_in names version ask) some refl p.ask_form in
    let sign_is = (bytes_eq-Decides sign (codes "=")).0 p.sign_is in
    let answer_is = Some-i64_in answer p.v p.answer_is in
    record {
      thread = thread;
      line = p.l;
      ask = ask_is.ask;
      answer = p.v;
      words_are = step-spelled number thread line sign answer (decimal n) (decimal p.l)
          (number_text p.v) ask (words_of_ask ask_is.ask) number_is.0 line_is.2 ask_is.words_are
          sign_is answer_is.0;
      of = (number_is.1, thread_is.0, (line_is.0, line_is.1), ask_is.of, answer_is.1);
      unknown = λ none. unknown-by names thread ask_is.ask (object names Thread thread)
          (ask_in names version ask) p.thread_form p.ask_form thread_is.1 ask_is.unknown
          (event-lost (known_words (object names Thread thread)) p.l
          (known_words (ask_in names version ask))
          p.v event p.event_is none);
    }

none-step : (n : ℕ) (event : Option Event) → None ≡ Some (Step n event) → ⊥
none-step n event h = cc

pub words-form : (names : NameLists) (version : ℕ) (words : List (List ℕ)) (n : ℕ)
    (event : Option Event) → 1 ≤ version → step_of_words names version words ≡ Some (Step n event)
    → IsStepWords names version words n event
words-form names version [] n event some h = absurd (none-step n event h)
words-form names version (a ∷ []) n event some h = absurd (none-step n event h)
words-form names version (a ∷ b ∷ []) n event some h = absurd (none-step n event h)
words-form names version (a ∷ b ∷ c ∷ []) n event some h = absurd (none-step n event h)
words-form names version (a ∷ b ∷ c ∷ d ∷ []) n event some h = absurd (none-step n event h)
words-form names version (a ∷ b ∷ c ∷ d ∷ e ∷ []) n event some h = absurd (none-step n event h)
words-form names version (number ∷ thread ∷ line ∷ w ∷ sign ∷ answer ∷ []) n event some h =
    form-parts names version number thread line (w ∷ []) sign answer n event some h
words-form names version (number ∷ thread ∷ line ∷ w ∷ x ∷ sign ∷ answer ∷ []) n event some h =
    form-parts names version number thread line (w ∷ x ∷ []) sign answer n event some h
words-form names version (number ∷ thread ∷ line ∷ w ∷ x ∷ y ∷ sign ∷ answer ∷ []) n event some h =
    form-parts names version number thread line (w ∷ x ∷ y ∷ []) sign answer n event some h
words-form names version (number ∷ thread ∷ line ∷ w ∷ x ∷ y ∷ z ∷ sign ∷ answer ∷ []) n event some
    h = form-parts names version number thread line (w ∷ x ∷ y ∷ z ∷ []) sign answer n event some h
words-form names version (a ∷ b ∷ c ∷ d ∷ e ∷ f ∷ g ∷ i ∷ j ∷ k ∷ words) n event some h =
    absurd (none-step n event h)

pub step-form : (names : NameLists) (version : ℕ) (text : List ℕ) (n : ℕ) (event : Option Event)
    → 1 ≤ version → row_of names version text ≡ Some (Step n event)
    → IsStepWords names version (words_of text) n event
unfolding row_of
step-form names version text n event some h = by (bytes_eq (take 8 text) (codes "verdict ")) h
  where
    by : (first : Bool) → (if first then end_of version (drop 8 text)
        (verdict_of_words names (words_of (drop 8 text))) else step_of_words names version
        (words_of text)) ≡ Some (Step n event) → IsStepWords names version (words_of text) n event
    by true k =
        absurd (end-no-step version (drop 8 text) (verdict_of_words names (words_of (drop 8 text)))
        n event k)
    by false k = words-form names version (words_of text) n event some k

-- ---- a step by form is read

-- what is read of the words of a step by form: no event where it has an unknown name
pub record IsStepRead (names : NameLists) (version : ℕ) (text : List ℕ) (n : ℕ) (thread : List ℕ)
    (line : ℕ) (ask : AskForm) (answer : ℤ) : Type 0 where
  pub event : Option Event
  pub is : row_of names version text ≡ Some (Step n event)
  pub unknown : HasUnknown names (forms.Step n thread line ask answer) → event ≡ None

-- a line that begins with a number isn't the verdict's
no-verdict : (number : ℕ) (words : List (List ℕ)) (next text : List ℕ) → number < 2 ^ 63
    → words_of text ≡ decimal number ∷ next ∷ words
    → bytes_eq (take 8 text) (codes "verdict ") ≡ false
no-verdict number words next text small is =
    let numeral = (decimal_is_IsNumeral_wide number (omega arith)).0 in
    let text_is : text ≡ decimal number ++ (32 ∷ join_with_byte 32 (next ∷ words)) =
    sym (join-words_of text) ∙ ap (join_with_byte 32) is in
    ap (λ t. bytes_eq (take 8 t) (codes "verdict ")) text_is
    ∙ digit-first (decimal number) (32 ∷ join_with_byte 32 (next ∷ words)) numeral.0 numeral.1

pub step-read : (names : NameLists) (version : ℕ) (text : List ℕ) (n : ℕ) (thread : List ℕ)
    (line : ℕ) (ask : AskForm) (answer : ℤ) → (version ≡ 1) ⊎ (version ≡ 2)
    → words_of text ≡ words_of_form (forms.Step n thread line ask answer)
    → IsLineOf names version (forms.Step n thread line ask answer)
    → IsStepRead names version text n thread line ask answer
unfolding step_in_words
step-read names version text n thread line ask answer which words of =
    let asked = ask-read names version ask which of.3 in
    record {
      event = event_of (known_words (object_at (place_of thread names.threads))) line
          (known_words asked.read)
          answer;
      is =
          row-step names version text (no-verdict n
          (decimal line ∷ (words_of_ask ask ++ codes "=" ∷ number_text answer ∷ [])) thread text
          of.0 words)
          ∙ ap (step_of_words names version) words
          ∙ read-words names version (decimal n) thread (decimal line) (words_of_ask ask)
          (codes "=") (number_text answer) (few-ask_words ask)
          ∙ rw (
            decimal-natural n of.0,
            object-lawful names Thread thread of.1,
            number_in-decimal 1
                4096 line (decimal line) of.2.0 of.2.1 (omega arith) refl,
            asked.is,
            i64_in-Some
                answer of.4,
            placed-form (place_of thread names.threads),
            asked.form,
          );
      unknown = λ none. lost-event (known_words (object_at (place_of thread names.threads))) line
          (known_words asked.read) answer (by asked.read asked.unknown none);
    }
  where
    by : (read : WordsRead Ask) → (AsksUnknown names ask → read ≡ UnknownName)
        → IsUndeclared names Thread thread ⊎ AsksUnknown names ask
        → (known_words (object_at (place_of thread names.threads)) ≡ None)
        ⊎ (known_words read ≡ None)
    by read lost (inl none) = inl (ap (λ (p : Option ℕ). known_words (object_at p)) none)
    by read lost (inr none) = inr (ap (λ (r : WordsRead Ask). known_words r) (lost none))
