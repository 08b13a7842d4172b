-- What a line says, by the forms of lines: a step or the end of the body, and the lines of the
-- head.
use Rattle.std.specs.Prelude.{codes, not, nat_le, nat_lt, is_some}
use Rattle.std.specs.Option.{unwrap_or}
use Rattle.std.specs.Str.{bytes_eq}
use Rattle.std.proofs.Common.{◌≡◌, ◌⊎◌, ℕ, ℤ, ◌+◌, ◌-◌, ◌<◌, ◌≤◌, Bool, true, false, List}
use Rattle.std.proofs.Common.{zero, suc, Option, Some, None, refl, sym, ap, ◌∙◌}
use Rattle.std.proofs.Common.{inl, inr, arith}
use Rattle.std.proofs.lemmas.Bool.Decides.{nat_tests}
use Rattle.std.proofs.lemmas.Bool.{and_parts, and_from, or_cases, or_parts}
use Rattle.std.proofs.lemmas.Bool.{not-true}
use Rattle.pct_ask.specs.NameLists.{NameLists, AreNames}
use Rattle.pct_ask.specs.VerdictText.{NamedVerdict}
use Rattle.pct_ask.specs.declared.event.Event.{Event}
use Rattle.pct_ask.specs.declared.verdict.Verdict.{Verdict}
use Rattle.trace_text.specs.reader.Heads.{order_on_line, points_on_line, limit_on_line}
use Rattle.trace_text.specs.Forms.{AskForm, Form, HasUnknown}
use Rattle.trace_text.specs.Forms as forms
use Rattle.trace_text.specs.Faults.{text_at, version_of, HasForm, IsStepLine}
use Rattle.trace_text.specs.Faults.{IsVerdictLine, IsInBody}
use Rattle.trace_text.specs.reader.StepLines.{row_of}
use Rattle.trace_text.specs.declared.row.TraceRow.{TraceRow}
use Rattle.trace_text.specs.declared.row.TraceRow.TheVariants.{Step, End}
use Rattle.trace_text.proofs.StepForms.{step-form, step-read}
use Rattle.trace_text.proofs.EndForms.{never, end-form, end-read}
use Rattle.trace_text.proofs.HeadForms.{version-form, version-read, same-version, one-or-two}
use Rattle.trace_text.proofs.HeadForms.{order-form, order-read}
use Rattle.trace_text.proofs.HeadForms.{points-form, points-read, limit-form, limit-read}
use Rattle.trace_text.proofs.FaultTests as tests
use Rattle.trace_text.proofs.FaultTests.{limit_of, row_at, is_verdict, has_verdict, is_in_body}
use Rattle.trace_text.proofs.FaultTests.{is_head_line}

-- ---- tests

pub unequal : (a : Bool) → a ≡ true → a ≡ false → ⊥
unequal true p q = cc
unequal false p q = cc

pub some-of : {A : Type 0} (o : Option A) → is_some o ≡ true → (x : A) × (o ≡ Some x)
some-of None h = absurd cc
some-of (Some x) h = (x, refl)

first-or-second : (version : ℕ) → (version ≡ 1) ⊎ (version ≡ 2) → 1 ≤ version
first-or-second version (inl one) = omega arith
first-or-second version (inr two) = omega arith

module _ (names : NameLists) (sound : AreNames names) (size : ℕ) (pieces : List (List ℕ)) where
  -- ---- what a line says

  which : (version_of pieces ≡ 1) ⊎ (version_of pieces ≡ 2)
  which = one-or-two (bytes_eq (text_at pieces 1) (codes "trace 2")) (version_of pieces) refl

  versions : tests.version_of pieces ≡ version_of pieces
  versions = same-version (text_at pieces 1)

  row-is : (k : ℕ) → row_at names pieces k ≡ row_of names (version_of pieces) (text_at pieces k)
  row-is k = ap (λ v. row_of names v (text_at pieces k)) versions

  pub record IsStepFound (k n : ℕ) (event : Option Event) : Type 0 where
    pub thread : List ℕ
    pub line : ℕ
    pub ask : AskForm
    pub answer : ℤ
    pub form : HasForm names pieces k (forms.Step n thread line ask answer)
    pub unknown : event ≡ None → HasUnknown names (forms.Step n thread line ask answer)

  pub step-found : (k n : ℕ) (event : Option Event) → 5 ≤ k
      → row_at names pieces k ≡ Some (Step n event) → IsStepFound k n event
  step-found k n event low h =
      let told = step-form names (version_of pieces) (text_at pieces k) n event
      (first-or-second (version_of pieces) which) (sym (row-is k) ∙ h) in
      record {
        thread = told.thread;
        line = told.line;
        ask = told.ask;
        answer = told.answer;
        form = record { stands = low; spelled = told.words_are; of = told.of };
        unknown = told.unknown;
      }

  pub step-line : (k n : ℕ) (event : Option Event) → IsStepFound k n event
      → IsStepLine names pieces k n
  step-line k n event f = (f.thread, f.line, f.ask, f.answer, f.form)

  pub step-row : (k n : ℕ) (thread : List ℕ) (line : ℕ) (ask : AskForm) (answer : ℤ)
      → HasForm names pieces k (forms.Step n thread line ask answer)
      → (event : Option Event) × (row_at names pieces k ≡ Some (Step n event))
      × (HasUnknown names (forms.Step n thread line ask answer) → event ≡ None)
  step-row k n thread line ask answer form =
      let read = step-read names (version_of pieces) (text_at pieces k) n thread line ask answer
      which form.spelled form.of in
      (read.event, row-is k ∙ read.is, read.unknown)

  pub end-found : (k : ℕ) (read : Option Verdict) → 5 ≤ k → row_at names pieces k ≡ Some (End read)
      → (verdict : NamedVerdict) × HasForm names pieces k (forms.End verdict)
      × (read ≡ None → HasUnknown names (forms.End verdict))
  end-found k read low h =
      let told = end-form names (version_of pieces) (text_at pieces k) read which
      (sym (row-is k) ∙ h) in
      (told.verdict, record { stands = low; spelled = told.words_are; of = told.of }, told.unknown)

  pub end-row : (k : ℕ) (verdict : NamedVerdict) → HasForm names pieces k (forms.End verdict)
      → (read : Option Verdict) × (row_at names pieces k ≡ Some (End read))
      × (HasUnknown names (forms.End verdict) → read ≡ None)
  end-row k verdict form =
      let read = end-read names (version_of pieces) (text_at pieces k) verdict sound which
      form.spelled form.of in
      (read.read, row-is k ∙ read.is, read.unknown)

  -- ---- the body

  pub verdict-found : (k : ℕ) → 5 ≤ k → is_verdict (row_at names pieces k) ≡ true
      → IsVerdictLine names pieces k
  verdict-found k low h = by (row_at names pieces k) refl h
    where
      by : (row : Option TraceRow) → row_at names pieces k ≡ row → is_verdict row ≡ true
          → IsVerdictLine names pieces k
      by None e t = absurd cc
      by (Some (Step n event)) e t = absurd cc
      by (Some (End read)) e t = let f = end-found k read low e in (f.0, f.1)

  pub verdict-row : (k : ℕ) → IsVerdictLine names pieces k
      → is_verdict (row_at names pieces k) ≡ true
  verdict-row k line = let read = end-row k line.0 line.1 in ap is_verdict read.1

  no-verdicts : (n i : ℕ) → has_verdict names pieces n ≡ false → i < n
      → is_verdict (row_at names pieces (i + 5)) ≡ false
  no-verdicts zero i h low = absurd (omega arith)
  no-verdicts (suc n) i h low =
      by (nat_lt i n) refl (λ less. no-verdicts n i
      (or_parts (has_verdict names pieces n) (is_verdict (row_at names pieces (n + 5))) h).0 less)
    where
      by : (b : Bool) → nat_lt i n ≡ b → (i < n → is_verdict (row_at names pieces (i + 5)) ≡ false)
          → is_verdict (row_at names pieces (i + 5)) ≡ false
      by true e before = before (grind (arith, nat_tests))
      by false e before = let same : i ≡ n = grind (arith, nat_tests) in
          ap (λ j. is_verdict (row_at names pieces (j + 5))) same
          ∙ (or_parts (has_verdict names pieces n) (is_verdict (row_at names pieces (n + 5))) h).1

  some-verdict : (n : ℕ) → has_verdict names pieces n ≡ true
      → (i : ℕ) × (i < n) × (is_verdict (row_at names pieces (i + 5)) ≡ true)
  some-verdict zero h = absurd cc
  some-verdict (suc n) h =
      by (or_cases (has_verdict names pieces n) (is_verdict (row_at names pieces (n + 5))) h)
      (λ e. some-verdict n e)
    where
      by : (has_verdict names pieces n ≡ true) ⊎ (is_verdict (row_at names pieces (n + 5)) ≡ true)
          → (has_verdict names pieces n ≡ true
          → (i : ℕ) × (i < n) × (is_verdict (row_at names pieces (i + 5)) ≡ true))
          → (i : ℕ) × (i < suc n) × (is_verdict (row_at names pieces (i + 5)) ≡ true)
      by (inl e) before = let b = before e in (b.0, let low = b.1 in omega arith, b.2)
      by (inr e) before = (n, omega arith, e)

  pub body-found : (k : ℕ) → is_in_body names pieces k ≡ true → IsInBody names pieces k
  body-found k h =
      let low : 5 ≤ k = let t = (and_parts (nat_le 5 k) (not (has_verdict names pieces (k - 5)))
      h).0 in grind (arith, nat_tests) in
      let none = not-true (has_verdict names pieces (k - 5))
      (and_parts (nat_le 5 k) (not (has_verdict names pieces (k - 5))) h).1 in
      (low, λ j before line. no-line j before none line line.1.stands)
    where
      no-line : (j : ℕ) → j < k → has_verdict names pieces (k - 5) ≡ false
          → IsVerdictLine names pieces j → 5 ≤ j → ⊥
      no-line j before none line stands =
          let place : j - 5 + 5 ≡ j = omega arith in
          let free = no-verdicts (k - 5) (j - 5) none (omega arith) in
          unequal (is_verdict (row_at names pieces j)) (verdict-row j line)
          (ap (λ i. is_verdict (row_at names pieces i)) (sym place) ∙ free)

  pub body-test : (k : ℕ) → IsInBody names pieces k → is_in_body names pieces k ≡ true
  body-test k body =
      let low : nat_le 5 k ≡ true = let l = body.0 in grind (arith, nat_tests) in
      let free = never (has_verdict names pieces (k - 5))
      (λ h. let some = some-verdict (k - 5) h in
      body.1 (some.0 + 5) (let l = some.1 in let b = body.0 in omega arith)
      (verdict-found (some.0 + 5) (omega arith) some.2)) in
      and_from (nat_le 5 k) (not (has_verdict names pieces (k - 5))) low (ap not free)

  -- ---- the head

  pub head-found : (k : ℕ) → 1 ≤ k → k ≤ 4 → is_head_line names pieces k ≡ true
      → (form : Form) × HasForm names pieces k form
  head-found zero low high h = absurd (omega arith)
  head-found (suc zero) low high h = let f = version-form (text_at pieces 1) h in
      (forms.Version f.0, record { stands = refl; spelled = f.1; of = f.2 })
  head-found (suc (suc zero)) low high h =
      let words = some-of (order_on_line names (text_at pieces 2)) h in
      let f = order-form names (version_of pieces) (text_at pieces 2) words.0 words.1 in
      (forms.Order words.0, record { stands = refl; spelled = f.0; of = f.1 })
  head-found (suc (suc (suc zero))) low high h =
      let points = some-of (points_on_line (text_at pieces 3)) h in
      let f = points-form names (version_of pieces) (text_at pieces 3) points.0 points.1 in
      (forms.Points points.0, record { stands = refl; spelled = f.0; of = f.1 })
  head-found (suc (suc (suc (suc zero)))) low high h =
      let limit = some-of (limit_on_line (text_at pieces 4)) h in
      let f = limit-form names (version_of pieces) (text_at pieces 4) limit.0 limit.1 in
      (forms.Limit limit.0, record { stands = refl; spelled = f.0; of = f.1 })
  head-found (suc (suc (suc (suc (suc k))))) low high h = absurd (omega arith)

  pub head-test : (k : ℕ) (form : Form) → k ≤ 4 → HasForm names pieces k form
      → is_head_line names pieces k ≡ true
  head-test k (forms.Version v) high form =
      rw form.stands (ap is_some (version-read (text_at pieces 1) v (rw form.stands at form.spelled)
      form.of))
  head-test k (forms.Order threads) high form =
      rw form.stands (ap is_some (order-read names (version_of pieces) (text_at pieces 2) threads
      (rw form.stands at form.spelled) form.of))
  head-test k (forms.Points points) high form =
      rw form.stands (ap is_some (points-read names (version_of pieces) (text_at pieces 3) points
      (rw form.stands at form.spelled) form.of))
  head-test k (forms.Limit limit) high form =
      rw form.stands (ap is_some (limit-read names (version_of pieces) (text_at pieces 4) limit
      (rw form.stands at form.spelled) form.of))
  head-test k (forms.Step n thread line ask answer) high form =
      absurd (let low = form.stands in omega arith)
  head-test k (forms.End verdict) high form = absurd (let low = form.stands in omega arith)

  pub limit-test : (limit : ℕ) → HasForm names pieces 4 (forms.Limit limit)
      → limit_of pieces ≡ limit
  limit-test limit form =
      ap (λ o. unwrap_or o 0) (limit-read names (version_of pieces) (text_at pieces 4) limit
      form.spelled form.of)

  pub body-row : (k : ℕ) (form : Form) → 5 ≤ k → HasForm names pieces k form
      → is_some (row_at names pieces k) ≡ true
  body-row k (forms.Version v) low form = absurd (let at = form.stands in omega arith)
  body-row k (forms.Order threads) low form = absurd (let at = form.stands in omega arith)
  body-row k (forms.Points points) low form = absurd (let at = form.stands in omega arith)
  body-row k (forms.Limit limit) low form = absurd (let at = form.stands in omega arith)
  body-row k (forms.Step n thread line ask answer) low form =
      ap is_some (step-row k n thread line ask answer form).1
  body-row k (forms.End verdict) low form = ap is_some (end-row k verdict form).1

  pub row-found : (k : ℕ) → 5 ≤ k → is_some (row_at names pieces k) ≡ true
      → (form : Form) × HasForm names pieces k form
  row-found k low h = by (row_at names pieces k) refl h
    where
      by : (row : Option TraceRow) → row_at names pieces k ≡ row → is_some row ≡ true
          → (form : Form) × HasForm names pieces k form
      by None e t = absurd cc
      by (Some (Step n event)) e t = let f = step-found k n event low e in
          (forms.Step n f.thread f.line f.ask f.answer, f.form)
      by (Some (End read)) e t = let f = end-found k read low e in (forms.End f.0, f.1)
