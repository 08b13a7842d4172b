-- What a line says by its words is what it is by form.
use Rattle.std.specs.Prelude.{if◌then◌else◌, codes, decimal}
use Rattle.std.specs.Str.{bytes_eq}
use Rattle.std.proofs.Common.{◌≡◌, ℕ, Bool, true, false, List, [], ◌∷◌, ◌++◌, take, drop, Option}
use Rattle.std.proofs.Common.{Some, None, refl, sym, ◌∙◌, ap, arith, subst}
use Rattle.std.proofs.lemmas.List.{take-append-drop}
use Rattle.pct_ask.specs.Words.{is_name}
use Rattle.pct_ask.specs.NameLists.{NameLists, AreNames, place_of}
use Rattle.pct_ask.specs.VerdictText.{NamedVerdict, named_verdict, named_text, verdict_text}
use Rattle.pct_ask.specs.VerdictText.{IsVerdictForm, HasNames}
use Rattle.pct_ask.specs.VerdictRead.{ReadsAs}
use Rattle.pct_ask.specs.VerdictWords.{words_of, verdict_of_words}
use Rattle.pct_ask.specs.declared.verdict.Verdict.{Verdict}
use Rattle.pct_ask.specs.declared.verdict_text.VerdictRead.{VerdictRead}
use Rattle.pct_ask.specs.declared.verdict_text.VerdictRead.TheVariants.{Is, NoForm}
use Rattle.pct_ask.specs.declared.verdict_text.VerdictRead.TheVariants.{UnknownName as Unknown}
use Rattle.pct_ask.proofs.laws.SameWords.{same-word}
use Rattle.pct_ask.proofs.laws.SplitWords.{joined-words}
use Rattle.pct_ask.proofs.laws.TextBytes.{words_of-high, high-by, name-high, decimal-high}
use Rattle.pct_ask.proofs.laws.VerdictsRead.{ReadsAs-words, ReadsAs-only}
use Rattle.directive.specs.DirectiveText.{verdict_line}
use Rattle.directive.specs.Forms.{IsNumber, IsLowLine, IsAfter, IsVerdict, IsAfterText}
use Rattle.directive.specs.Forms.{IsVerdictText}
use Rattle.directive.specs.Forms.{HasUnknownVerdict}
use Rattle.directive.specs.Reading.{low_words, low_in, moment_row, after_words, end_of, row_of}
use Rattle.directive.specs.declared.row.DirectiveRow.{DirectiveRow}
use Rattle.directive.specs.declared.row.DirectiveRow.TheVariants.{After, End}
use Rattle.pct_ask.specs.Numbers.{step_count}
use Rattle.pct_ask.proofs.laws.Decimals.{number_in-decimal, number_in-Some}
use Rattle.directive.proofs.Bodies.{row-after}

-- ---- the line of the lowest thread

low-cut : (text name : List ℕ) → IsLowLine text name → words_of text ≡ codes "low" ∷ name ∷ []
low-cut text name is =
    ap words_of is.spelled ∙ words_of-high (codes "low") (name ∷ [])
    (high-by (codes "low") refl, (name-high name is.lawful, tt))

pub low_in-IsLowLine : (text name : List ℕ) → IsLowLine text name → low_in text ≡ Some name
unfolding low_in
low_in-IsLowLine text name is = rw (low-cut text name is, is.lawful)

lawful-Some : (b : Bool) (name other : List ℕ) → (if b then Some name else None) ≡ Some other
    → (b ≡ true) × (name ≡ other)
lawful-Some true name other h = (refl, cc)
lawful-Some false name other h = absurd cc

low-by : (b c : Bool) (head name other : List ℕ) → bytes_eq head (codes "low") ≡ b
    → is_name 1 name ≡ c → (if b then (if c then Some name else None) else None) ≡ Some other
    → (head ∷ name ∷ [] ≡ codes "low" ∷ other ∷ []) × (is_name 1 other ≡ true)
low-by true true head name other e f h =
    let same : name ≡ other = cc in (
      ap (λ w. w ∷ name ∷ []) (same-word head (codes "low") e)
          ∙ ap (λ w. codes "low" ∷ w ∷ []) same,
      ap (is_name 1) (sym same) ∙ f,
    )
low-by true false head name other e f h = absurd cc
low-by false c head name other e f h = absurd cc

low-spelled : (words : List (List ℕ)) (name : List ℕ) → low_words words ≡ Some name
    → (words ≡ codes "low" ∷ name ∷ []) × (is_name 1 name ≡ true)
low-spelled [] name h = absurd cc
low-spelled (a ∷ []) name h = absurd cc
low-spelled (head ∷ word ∷ []) name h =
    low-by (bytes_eq head (codes "low")) (is_name 1 word) head word name refl refl h
low-spelled (a ∷ b ∷ c ∷ words) name h = absurd cc

pub IsLowLine-low_in : (text name : List ℕ) → low_in text ≡ Some name → IsLowLine text name
unfolding low_in
IsLowLine-low_in text name h =
    let k = low-spelled (words_of text) name h in
    record { lawful = k.1; spelled = joined-words text _ k.0 }

-- ---- the line of a moment

pub after-cut : (text name : List ℕ) (number : ℕ) → IsAfter text name number
    → words_of text ≡ codes "after" ∷ name ∷ decimal number ∷ []
after-cut text name number is =
    ap words_of is.spelled ∙ words_of-high (codes "after") (name ∷ decimal number ∷ []) (
      high-by (codes "after") refl,
      (
        name-high name is.lawful,
        (decimal-high number (omega (arith, is.range.0, is.range.1)), tt),
      ),
    )

-- there is one name on it
pub after-name : (text a b : List ℕ) (n m : ℕ) → IsAfter text a n → IsAfter text b m → a ≡ b
after-name text a b n m is other =
    let e : codes "after" ∷ a ∷ decimal n ∷ [] ≡ codes "after" ∷ b ∷ decimal m ∷ [] =
    sym (after-cut text a n is) ∙ after-cut text b m other in
    cc

far : ◌≡◌ {A = ℕ} 97 118 → ⊥
far e = omega (arith, e)

first_byte : List ℕ → ℕ
first_byte [] = 0
first_byte (b ∷ bs) = b

-- it is no verdict's
pub after-no-verdict : (names : NameLists) (text name : List ℕ) (number : ℕ)
    (verdict : NamedVerdict) → IsAfter text name number → IsVerdict names text verdict → ⊥
unfolding first_byte
after-no-verdict names text name number verdict is other =
    let e : ◌≡◌ {A = ℕ} 97 118 = ap first_byte (sym is.spelled ∙ other.spelled) in far e

pub row_of-IsAfter : (names : NameLists) (text name : List ℕ) (number : ℕ)
    → IsAfter text name number → row_of names text
    ≡ Some (After (place_of name names.threads) number)
row_of-IsAfter names text name number is =
    let other : bytes_eq (take 8 text) (codes "verdict ") ≡ false =
    ap (λ t. bytes_eq (take 8 t) (codes "verdict ")) is.spelled in
    row-after names text other
    ∙ ap (after_words names) (after-cut text name number is)
    ∙ rw (
      is.lawful,
      number_in-decimal 1 100000 number (decimal number) is.range.0 is.range.1
          (omega arith) refl,
    )

record Moments (names : NameLists) (words : List (List ℕ)) (row : DirectiveRow) : Type 0 where
  name : List ℕ
  number : ℕ
  lawful_name : is_name 1 name ≡ true
  range : IsNumber number
  words_are : words ≡ codes "after" ∷ name ∷ decimal number ∷ []
  row_is : After (place_of name names.threads) number ≡ row

moment-by : (names : NameLists) (b c : Bool) (head name digits : List ℕ) (number : Option ℕ)
    (row : DirectiveRow) → bytes_eq head (codes "after") ≡ b → is_name 1 name ≡ c
    → step_count digits ≡ number → (if b then moment_row names
    (if c then Some name else None) number else None) ≡ Some row
    → Moments names (head ∷ name ∷ digits ∷ []) row
moment-by names true true head name digits (Some n) row e f g h =
    let k = number_in-Some 1 100000 n digits g in
    let same : After (place_of name names.threads) n ≡ row = cc in
    record {
      name = name;
      number = n;
      lawful_name = f;
      range = (k.0, k.1);
      words_are = ap (λ w. w ∷ name ∷ digits ∷ []) (same-word head (codes "after") e)
          ∙ ap (λ w. codes "after" ∷ name ∷ w ∷ []) k.2;
      row_is = same;
    }
moment-by names true true head name digits None row e f g h = absurd cc
moment-by names true false head name digits number row e f g h = absurd cc
moment-by names false c head name digits number row e f g h = absurd cc

moment-spelled : (names : NameLists) (words : List (List ℕ)) (row : DirectiveRow)
    → after_words names words ≡ Some row → Moments names words row
moment-spelled names [] row h = absurd cc
moment-spelled names (a ∷ []) row h = absurd cc
moment-spelled names (a ∷ b ∷ []) row h = absurd cc
moment-spelled names (head ∷ name ∷ digits ∷ []) row h =
    moment-by names (bytes_eq head (codes "after")) (is_name 1 name) head name digits
    (step_count digits) row refl refl refl h
moment-spelled names (a ∷ b ∷ c ∷ d ∷ words) row h = absurd cc

-- ---- the line of a verdict

pub record Told (names : NameLists) (text : List ℕ) (verdict : Verdict) : Type 0 where
  pub threads : HasNames names verdict
  pub form : IsVerdictForm names (named_verdict names verdict)
  pub spelled : text ≡ verdict_line (verdict_text names verdict)

pub Told-IsVerdict : (names : NameLists) (text : List ℕ) (verdict : Verdict)
    → Told names text verdict → IsVerdict names text (named_verdict names verdict)
Told-IsVerdict names text verdict is = record { form = is.form; spelled = is.spelled }

row_of-verdict : (names : NameLists) (text rest : List ℕ) → text ≡ verdict_line rest
    → row_of names text ≡ end_of (verdict_of_words names (words_of rest))
unfolding row_of
row_of-verdict names text rest is = rw is

pub row_of-Told : (names : NameLists) (text : List ℕ) (verdict : Verdict) → AreNames names
    → Told names text verdict → row_of names text ≡ Some (End (Some verdict))
row_of-Told names text verdict sound is =
    row_of-verdict names text (verdict_text names verdict) is.spelled
    ∙ ap end_of (ReadsAs-only names (verdict_text names verdict) (Is verdict) sound
    (is.threads, is.form, refl))

-- no name of a verdict that is told is unknown
pub told-known : (names : NameLists) (text : List ℕ) (verdict : Verdict) → AreNames names
    → Told names text verdict → HasUnknownVerdict names text → ⊥
told-known names text verdict sound is other =
    let rest = verdict_text names verdict in
    let same : rest ≡ named_text other.0 = ap (drop 8) (sym is.spelled ∙ other.1.spelled) in
    let one = ReadsAs-only names rest (Is verdict) sound (is.threads, is.form, refl) in
    let two = ReadsAs-only names rest Unknown sound (other.0, other.1.form, other.2, same) in
    let both : Is verdict ≡ Unknown = sym one ∙ two in
    cc

-- ---- a line after the second

abbrev pub RowTold : NameLists → List ℕ → Option DirectiveRow → Type 0
RowTold names text None = (¬ IsAfterText text) × (¬ IsVerdictText names text)
RowTold names text (Some (After thread number)) =
    (name : List ℕ) × IsAfter text name number × (place_of name names.threads ≡ thread)
RowTold names text (Some (End None)) = HasUnknownVerdict names text
RowTold names text (Some (End (Some verdict))) = Told names text verdict

no-after-verdict : (rest text : List ℕ) → text ≡ verdict_line rest → ¬ IsAfterText text
unfolding first_byte
no-after-verdict rest text is =
    λ a. let e : ◌≡◌ {A = ℕ} 97 118 = ap first_byte (sym a.2.spelled ∙ is) in far e

verdict-told : (names : NameLists) (text rest : List ℕ) (read : VerdictRead)
    → text ≡ verdict_line rest → ReadsAs names rest read → RowTold names text (end_of read)
verdict-told names text rest NoForm is h =
    (no-after-verdict rest text is, λ v. h v.0 v.1.form (ap (drop 8) (sym is ∙ v.1.spelled)))
verdict-told names text rest Unknown is h =
    (h.0, record { form = h.1; spelled = is ∙ ap verdict_line h.3 }, h.2)
verdict-told names text rest (Is verdict) is h = record {
  threads = h.0;
  form = h.1;
  spelled = is ∙ ap verdict_line h.2;
}

no-verdict : (names : NameLists) (text : List ℕ) → bytes_eq (take 8 text) (codes "verdict ") ≡ false
    → ¬ IsVerdictText names text
no-verdict names text other = λ v.
    let is : bytes_eq (take 8 text) (codes "verdict ") ≡ true =
    ap (λ t. bytes_eq (take 8 t) (codes "verdict ")) v.1.spelled in
    let both : true ≡ false = sym is ∙ other in
    cc

after-told : (names : NameLists) (text : List ℕ) (row : Option DirectiveRow)
    → bytes_eq (take 8 text) (codes "verdict ") ≡ false → after_words names (words_of text) ≡ row
    → RowTold names text row
after-told names text None other h = (
  λ a. let there = sym (row-after names text other ∙ h)
      ∙ row_of-IsAfter names text a.0 a.1 a.2 in
      let bad : None ≡ Some (After (place_of a.0 names.threads) a.1) = there in
      cc,
  no-verdict names text other,
)
after-told names text (Some row) other h =
    let m = moment-spelled names (words_of text) row h in
    subst (λ (r : DirectiveRow). RowTold names text (Some r)) m.row_is (
      m.name,
      record {
        lawful = m.lawful_name;
        range = m.range;
        spelled = joined-words text _ m.words_are;
      },
      refl,
    )

pub row-told : (names : NameLists) (text : List ℕ) → RowTold names text (row_of names text)
unfolding row_of
row-told names text = by (bytes_eq (take 8 text) (codes "verdict ")) refl
  where
    by : (b : Bool) → bytes_eq (take 8 text) (codes "verdict ") ≡ b
        → RowTold names text (if b then end_of (verdict_of_words names (words_of (drop 8 text)))
        else after_words names (words_of text))
    by true e =
        let is : text ≡ verdict_line (drop 8 text) =
        sym (take-append-drop 8 text) ∙ ap (λ t. t ++ drop 8 text)
        (same-word (take 8 text) (codes "verdict ") e) in
        verdict-told names text (drop 8 text) (verdict_of_words names (words_of (drop 8 text))) is
        (ReadsAs-words names (drop 8 text))
    by false e = after-told names text (after_words names (words_of text)) e refl

-- there is one name on the line of the lowest thread
pub low-name : (text a b : List ℕ) → IsLowLine text a → IsLowLine text b → a ≡ b
low-name text a b is other =
    let e : codes "low" ∷ a ∷ [] ≡ codes "low" ∷ b ∷ [] =
    sym (low-cut text a is) ∙ low-cut text b other in
    cc
