-- A step and a verdict are read of their lines, and of nothing else.
use Rattle.std.specs.Prelude.{codes, decimal, ◌&&◌, if◌then◌else◌}
use Rattle.std.specs.Str.{bytes_eq}
use Rattle.std.proofs.Common.{◌≡◌, ℕ, ◌<◌, ◌^◌, Bool, true, false, List, [], ◌∷◌, ◌++◌, ℤ, pos}
use Rattle.std.proofs.Common.{negsuc, Option, Some, None, refl, ap, ◌∙◌, arith}
use Rattle.std.proofs.lemmas.Slice.Eq.{bytes_eq-Decides}
use Rattle.std.proofs.lemmas.Option.{same_Some}
use Rattle.pct_ask.specs.NameLists.{NameLists, AreNames}
use Rattle.pct_ask.specs.Numbers.{number_text}
use Rattle.pct_ask.specs.VerdictWords.{line_number}
use Rattle.pct_ask.proofs.laws.Decimals.{number_in-decimal, number_in-Some}
use Rattle.pct_ask.specs.VerdictText.{thread_name}
use Rattle.pct_ask.specs.TraceText.{ask_words, event_words}
use Rattle.pct_ask.specs.declared.names.NameKind.TheVariants.{Thread}
use Rattle.pct_ask.specs.declared.ask.Ask.{Ask}
use Rattle.pct_ask.specs.declared.event.Event.{Event}
use Rattle.trace_text.specs.Lawful.{IsStep}
use Rattle.trace_text.specs.reader.Numbers.{i64_in, natural, natural_of}
use Rattle.trace_text.specs.reader.Asks.{has_form, known_words, object}
use Rattle.trace_text.specs.reader.StepLines.{event_of, numbered_step, step_of_parts, step_in_words}
use Rattle.trace_text.specs.reader.StepLines.{step_of_words}
use Rattle.trace_text.specs.declared.asks.WordsRead.{WordsRead}
use Rattle.trace_text.specs.declared.asks.WordsRead.TheVariants.{Is, NoForm, UnknownName}
use Rattle.trace_text.specs.declared.row.TraceRow.TheVariants.{Step}
use Rattle.trace_text.proofs.Names.{object-known, known-object}
use Rattle.trace_text.proofs.Values.{i64_in-Some, Some-i64_in, fits-natural}
use Rattle.trace_text.proofs.AskWords.{ask_in, ask-known, ask-told, HasFewWords, few-words}

-- ---- numbers from 0 on

pub natural-inv : (value : Option ℤ) (n : ℕ) → natural value ≡ Some n → value ≡ Some (pos n)
natural-inv None n h = absurd cc
natural-inv (Some (pos m)) n h = ap (λ k. Some (pos k)) (same_Some m n h)
natural-inv (Some (negsuc m)) n h = absurd cc

pub natural-decimal : (word : List ℕ) (n : ℕ) → natural_of word ≡ Some n
    → (word ≡ decimal n) × (n < 2 ^ 63)
natural-decimal word n h =
    let v = Some-i64_in word (pos n) (natural-inv (i64_in word) n h) in
    (v.0, omega (arith, v.1.sfits))

pub decimal-natural : (n : ℕ) → n < 2 ^ 63 → natural_of (decimal n) ≡ Some n
decimal-natural n h = ap natural (i64_in-Some (pos n) (fits-natural n h))

-- ---- a step by its parts

record Parts (number : Option ℕ) (thread : WordsRead ℕ) (line : Option ℕ) (ask : WordsRead Ask)
    (sign : Bool) (answer : Option ℤ) (n : ℕ) (event : Event) : Type 0 where
  number_is : number ≡ Some n
  thread_is : thread ≡ Is event.thread
  line_is : line ≡ Some event.line
  ask_is : ask ≡ Is event.ask
  sign_is : sign ≡ true
  answer_is : answer ≡ Some event.answer

event-inv : (thread : Option ℕ) (line : ℕ) (ask : Option Ask) (answer : ℤ) (event : Event)
    → event_of thread line ask answer ≡ Some event
    → (thread ≡ Some event.thread) × (line ≡ event.line) × (ask ≡ Some event.ask)
    × (answer ≡ event.answer)
event-inv None line ask answer event h = absurd cc
event-inv (Some t) line None answer event h = absurd cc
event-inv (Some t) line (Some a) answer event h =
    let own : Event = record { thread = t; line = line; ask = a; answer = answer } in
    let same : own ≡ event = same_Some own event h in (
      ap (λ e. Some e.thread) same,
      ap (λ e. e.line) same,
      ap (λ e. Some e.ask) same,
      ap (λ e. e.answer) same,
    )

row-inv : (m n : ℕ) (e : Option Event) (event : Event)
    → Some (Step m e) ≡ Some (Step n (Some event)) → (m ≡ n) × (e ≡ Some event)
row-inv m n e event h = let same : Step m e ≡ Step n (Some event) = cc in (cc, cc)

known-is : {A : Type 0} (read : WordsRead A) (x : A) → known_words read ≡ Some x → read ≡ Is x
known-is (Is y) x h = ap (λ z. Is z) (same_Some y x h)
known-is NoForm x h = absurd cc
known-is UnknownName x h = absurd cc

numbered-inv : (m : ℕ) (thread : WordsRead ℕ) (l : ℕ) (ask : WordsRead Ask) (v : ℤ) (n : ℕ)
    (event : Event) → numbered_step m thread l ask v ≡ Some (Step n (Some event))
    → Parts (Some m) thread (Some l) ask true (Some v) n event
numbered-inv m thread l ask v n event h = by (has_form thread && has_form ask) h
  where
    by : (b : Bool)
        → (if b then Some (Step m (event_of (known_words thread) l (known_words ask) v)) else
        None) ≡ Some (Step n (Some event)) → Parts (Some m) thread (Some l) ask true (Some v) n
        event
    by true k =
        let r = row-inv m n (event_of (known_words thread) l (known_words ask) v) event k in
        let e = event-inv (known_words thread) l (known_words ask) v event r.1 in
        record {
          number_is = ap (λ x. Some x) r.0;
          thread_is =
              known-is thread event.thread e.0;
          line_is = ap (λ x. Some x) e.1;
          ask_is =
              known-is ask event.ask e.2;
          sign_is = refl;
          answer_is = ap (λ x. Some x) e.3;
        }
    by false k = absurd cc

parts-inv : (number : Option ℕ) (thread : WordsRead ℕ) (line : Option ℕ) (ask : WordsRead Ask)
    (sign : Bool) (answer : Option ℤ) (n : ℕ) (event : Event)
    → step_of_parts number thread line ask sign answer ≡ Some (Step n (Some event))
    → Parts number thread line ask sign answer n event
parts-inv None thread line ask sign answer n event h = absurd cc
parts-inv (Some m) thread None ask sign answer n event h = absurd cc
parts-inv (Some m) thread (Some l) ask false answer n event h = absurd cc
parts-inv (Some m) thread (Some l) ask true None n event h = absurd cc
parts-inv (Some m) thread (Some l) ask true (Some v) n event h =
    numbered-inv m thread l ask v n event h

-- the words of a step
abbrev pub step_words : List ℕ → List ℕ → List ℕ → List (List ℕ) → List ℕ → List ℕ → List (List ℕ)
step_words number thread line ask sign answer = number ∷ thread ∷ line ∷ (ask ++ sign ∷ answer ∷ [])

-- how the words are read: its ask by itself
pub read-words : (names : NameLists) (version : ℕ) (number thread line : List ℕ)
    (ask : List (List ℕ)) (sign answer : List ℕ) → HasFewWords ask
    → step_of_words names version (step_words number thread line ask sign answer)
    ≡ step_in_words names number thread line (ask_in names version ask) sign answer
read-words names version number thread line [] sign answer few = absurd few
read-words names version number thread line (a ∷ []) sign answer few = refl
read-words names version number thread line (a ∷ b ∷ []) sign answer few = refl
read-words names version number thread line (a ∷ b ∷ c ∷ []) sign answer few = refl
read-words names version number thread line (a ∷ b ∷ c ∷ d ∷ []) sign answer few = refl
read-words names version number thread line (a ∷ b ∷ c ∷ d ∷ e ∷ words) sign answer few = absurd few

-- the line is the step's, and the step is one of the test
pub record IsStepLine (names : NameLists) (version : ℕ) (words : List (List ℕ)) (n : ℕ)
    (event : Event) : Type 0 where
  pub words_are : words ≡ event_words names n event
  pub lawful : IsStep names version event

told-parts : (names : NameLists) (version : ℕ) (number thread line : List ℕ) (ask : List (List ℕ))
    (sign answer : List ℕ) (n : ℕ) (event : Event)
    → step_in_words names number thread line (ask_in names version ask) sign answer
    ≡ Some (Step n (Some event)) → IsStepLine names version
    (step_words number thread line ask sign answer) n event
unfolding step_in_words
told-parts names version number thread line ask sign answer n event h =
    let p = parts-inv (natural_of number) (object names Thread thread) (line_number line)
    (ask_in names version ask) (bytes_eq sign (codes "=")) (i64_in answer) n event h in
    let number_is = (natural-decimal number n p.number_is).0 in
    let thread_is = known-object names Thread thread event.thread p.thread_is in
    let line_is = number_in-Some 1 4096 event.line line p.line_is in
    let ask_is = ask-told names version ask event.ask p.ask_is in
    let sign_is = (bytes_eq-Decides sign (codes "=")).0 p.sign_is in
    let answer_is = Some-i64_in answer event.answer p.answer_is in
    record {
      words_are = rw (number_is, ← thread_is.1, line_is.2, ask_is.words_are, sign_is, answer_is.0);
      lawful = record {
        thread = thread_is.0;
        line = (line_is.0, line_is.1);
        ask = ask_is.lawful;
        answer = answer_is.1;
      };
    }

none-step : (n : ℕ) (event : Event) → None ≡ Some (Step n (Some event)) → ⊥
none-step n event h = cc

-- what is read as a step is one
pub words-told : (names : NameLists) (version : ℕ) (words : List (List ℕ)) (n : ℕ) (event : Event)
    → step_of_words names version words ≡ Some (Step n (Some event))
    → IsStepLine names version words n event
words-told names version [] n event h = absurd (none-step n event h)
words-told names version (a ∷ []) n event h = absurd (none-step n event h)
words-told names version (a ∷ b ∷ []) n event h = absurd (none-step n event h)
words-told names version (a ∷ b ∷ c ∷ []) n event h = absurd (none-step n event h)
words-told names version (a ∷ b ∷ c ∷ d ∷ []) n event h = absurd (none-step n event h)
words-told names version (a ∷ b ∷ c ∷ d ∷ e ∷ []) n event h = absurd (none-step n event h)
words-told names version (number ∷ thread ∷ line ∷ w ∷ sign ∷ answer ∷ []) n event h =
    told-parts names version number thread line (w ∷ []) sign answer n event h
words-told names version (number ∷ thread ∷ line ∷ w ∷ x ∷ sign ∷ answer ∷ []) n event h =
    told-parts names version number thread line (w ∷ x ∷ []) sign answer n event h
words-told names version (number ∷ thread ∷ line ∷ w ∷ x ∷ y ∷ sign ∷ answer ∷ []) n event h =
    told-parts names version number thread line (w ∷ x ∷ y ∷ []) sign answer n event h
words-told names version (number ∷ thread ∷ line ∷ w ∷ x ∷ y ∷ z ∷ sign ∷ answer ∷ []) n event h =
    told-parts names version number thread line (w ∷ x ∷ y ∷ z ∷ []) sign answer n event h
words-told names version (a ∷ b ∷ c ∷ d ∷ e ∷ f ∷ g ∷ i ∷ j ∷ k ∷ words) n event h =
    absurd (none-step n event h)

-- and a step of the test is read of its words
pub words-known : (names : NameLists) (version n : ℕ) (event : Event) → AreNames names
    → IsStep names version event → n < 2 ^ 63
    → step_of_words names version (event_words names n event) ≡ Some (Step n (Some event))
unfolding step_in_words
words-known names version n event sound step small =
    read-words names version (decimal n) (thread_name names event.thread) (decimal event.line)
    (ask_words names event.ask) (codes "=") (number_text event.answer)
    (few-words names event.ask)
    ∙ rw (
      decimal-natural n small,
      object-known names Thread event.thread sound step.thread,
      number_in-decimal 1 4096 event.line (decimal event.line) step.line.0 step.line.1
          (omega arith) refl,
      ask-known names version event.ask sound step.ask,
      i64_in-Some event.answer step.answer,
    )
