-- A line is found faulty exactly where it is, by the forms of lines: as far as no line before it
-- is.
use Rattle.std.specs.Prelude.{◌==◌, ◌&&◌, not, nat_le, nat_lt, is_some, is_none}
use Rattle.std.specs.Prelude.{if◌then◌else◌}
use Rattle.std.specs.Option.{unwrap_or}
use Rattle.std.proofs.Common.{◌≡◌, ◌≢◌, ◌⊎◌, ℕ, ◌+◌, ◌-◌, ◌<◌, ◌≤◌, Bool, true, false, List}
use Rattle.std.proofs.Common.{Option, Some, None, Result, Ok, Err, refl, sym, ap, ◌∙◌}
use Rattle.std.proofs.Common.{inl, inr, arith}
use Rattle.std.proofs.lemmas.Bool.Decides.{nat_tests}
use Rattle.std.proofs.lemmas.Bool.{and_parts, and_from, or_left, or_right, or_cases}
use Rattle.std.proofs.lemmas.Bool.{not-true, not-false}
use Rattle.pct_ask.specs.NameLists.{NameLists, AreNames}
use Rattle.pct_ask.specs.declared.event.Event.{Event}
use Rattle.trace_text.specs.Lines.{line_at, text_in, is_whole}
use Rattle.trace_text.specs.reader.Heads.{order_on_line, limit_on_line}
use Rattle.trace_text.specs.Forms.{Form, HasUnknown}
use Rattle.trace_text.specs.Forms as forms
use Rattle.trace_text.specs.Faults.{text_at, has_byte, version_of, HasForm}
use Rattle.trace_text.specs.Faults.{IsOpen, IsInBody, IsNextNumber, IsFaulty}
use Rattle.trace_text.specs.Faults.{IsFirstFault}
use Rattle.trace_text.specs.reader.Reading.{Fault}
use Rattle.trace_text.specs.declared.row.TraceRow.{TraceRow}
use Rattle.trace_text.specs.declared.row.TraceRow.TheVariants.{Step, End}
use Rattle.trace_text.specs.declared.fault.TraceFault.{TraceFault}
use Rattle.trace_text.specs.declared.fault.TraceFault.TheVariants.{TooLong, BadHeader, BadLine}
use Rattle.trace_text.specs.declared.fault.TraceFault.TheVariants.{UnknownName, OutOfOrder}
use Rattle.trace_text.specs.declared.fault.TraceFault.TheVariants.{NoVerdict, MoreAfterVerdict}
use Rattle.trace_text.proofs.EndForms.{never}
use Rattle.trace_text.proofs.HeadForms.{three}
use Rattle.trace_text.proofs.HeadForms.{order-form, order-read, unknown-told, unknown-read}
use Rattle.trace_text.proofs.HeadForms.{limit-form}
use Rattle.trace_text.proofs.FaultTests.{limit_of, row_at, is_verdict, is_in_body}
use Rattle.trace_text.proofs.FaultTests.{number_in, number_before, is_past, has_unknown}
use Rattle.trace_text.proofs.FaultTests.{is_other_number, is_head_line, has_unknown_thread}
use Rattle.trace_text.proofs.FaultTests.{is_faulty, IsFirstFound}
use Rattle.trace_text.proofs.FaultBodies.{IsTold, all-three}
use Rattle.trace_text.proofs.FoundLines.{step-found, step-line, step-row, end-found, end-row}
use Rattle.trace_text.proofs.FoundLines.{verdict-found, verdict-row, body-found, body-test}
use Rattle.trace_text.proofs.FoundLines.{head-found, head-test, limit-test, body-row, row-found}
use Rattle.trace_text.proofs.FoundLines.{some-of, unequal}

-- ---- tests

guarded-not : (a b : Bool) → (a && not b) ≡ false → a ≡ true → b ≡ true
guarded-not a true h p = refl
guarded-not true false h p = absurd cc
guarded-not false false h p = absurd cc

none-of : {A : Type 0} (o : Option A) → is_none o ≡ true → o ≡ None
none-of None h = refl
none-of (Some x) h = absurd cc

-- what is read of a text: its first fault, or a file where no line is faulty
abbrev pub IsRead : {A : Type 0} → ℕ → NameLists → List (List ℕ) → Result A Fault → Type 0
IsRead size names pieces (Ok x) = (k : ℕ) (kind : TraceFault) → ¬ IsFaulty size names pieces k kind
IsRead size names pieces (Err fault) = IsFirstFault size names pieces fault.0 fault.1

module _ (names : NameLists) (sound : AreNames names) (size : ℕ) (pieces : List (List ℕ)) where
  -- ---- a faulty line is found so

  too_long-test : (k : ℕ) → IsFaulty size names pieces k TooLong
      → is_faulty size names pieces k TooLong ≡ true
  too_long-test k (inl large) =
      let one : (k == 1) ≡ true = let e = large.0 in grind (arith, nat_tests) in
      let big : nat_lt 16777216 size ≡ true = let e = large.1 in grind (arith, nat_tests) in
      or_left ((k == 1) && nat_lt 16777216 size)
      (is_in_body names pieces k && is_past (limit_of pieces) (row_at names pieces k))
      (and_from (k == 1) (nat_lt 16777216 size) one big)
  too_long-test k (inr far) =
      let step = far.4 in
      let read = step-row names sound size pieces k far.2 step.0 step.1 step.2 step.3 step.4 in
      let past : nat_lt far.1 far.2 ≡ true = let e = far.5 in grind (arith, nat_tests) in
      or_right ((k == 1) && nat_lt 16777216 size)
      (is_in_body names pieces k && is_past (limit_of pieces) (row_at names pieces k))
      (and_from (is_in_body names pieces k) (is_past (limit_of pieces) (row_at names pieces k))
      (body-test names sound size pieces k far.0)
      (ap (λ l. is_past l (row_at names pieces k))
      (limit-test names sound size pieces far.1 far.3)
      ∙ ap (is_past far.1) read.1 ∙ past))

  bad_header-test : (k : ℕ) → IsFaulty size names pieces k BadHeader
      → is_faulty size names pieces k BadHeader ≡ true
  bad_header-test k bad =
      let low : nat_le 1 k ≡ true = let e = bad.0 in grind (arith, nat_tests) in
      let high : nat_le k 4 ≡ true = let e = bad.1 in grind (arith, nat_tests) in
      let lost = never (is_whole (line_at pieces k) && is_head_line names pieces k)
      (λ h. let f = head-found names sound size pieces k bad.0 bad.1
      (and_parts (is_whole (line_at pieces k)) (is_head_line names pieces k) h).1 in
      bad.2 (
        (and_parts (is_whole (line_at pieces k)) (is_head_line names pieces k) h).0,
        f.0,
        f.1,
      )) in
      all-three (nat_le 1 k) (nat_le k 4)
      (not (is_whole (line_at pieces k) && is_head_line names pieces k)) low high (ap not lost)

  bad_line-test : (k : ℕ) → IsFaulty size names pieces k BadLine
      → is_faulty size names pieces k BadLine ≡ true
  bad_line-test k bad =
      let lost = never (is_whole (line_at pieces k) && is_some (row_at names pieces k))
      (λ h. let f = row-found names sound size pieces k bad.0.0
      (and_parts (is_whole (line_at pieces k)) (is_some (row_at names pieces k)) h).1 in
      bad.2 (
        (and_parts (is_whole (line_at pieces k)) (is_some (row_at names pieces k)) h).0,
        f.0,
        f.1,
      )) in
      all-three (is_in_body names pieces k) (has_byte pieces k)
      (not (is_whole (line_at pieces k) && is_some (row_at names pieces k)))
      (body-test names sound size pieces k bad.0)
      bad.1 (ap not lost)

  late-unknown : (k : ℕ) → 5 ≤ k → IsOpen names pieces k
      → has_unknown (row_at names pieces k) ≡ true
      → is_faulty size names pieces k UnknownName ≡ true
  late-unknown k low free h =
      or_right ((k == 2) && has_unknown_thread names
      (order_on_line names (text_in (line_at pieces k))))
      (is_in_body names pieces k && has_unknown (row_at names pieces k))
      (and_from (is_in_body names pieces k) (has_unknown (row_at names pieces k))
      (body-test names sound size pieces k (low, free)) h)

  order-unknown : (k : ℕ) (threads : List (List ℕ)) → HasForm names pieces k (forms.Order threads)
      → HasUnknown names (forms.Order threads) → is_faulty size names pieces k UnknownName ≡ true
  order-unknown k threads form unknown =
      let two : (k == 2) ≡ true = let e = form.stands in grind (arith, nat_tests) in
      let lost : has_unknown_thread names (order_on_line names (text_in (line_at pieces k)))
      ≡ true = ap (has_unknown_thread names)
      (order-read names (version_of pieces) (text_at pieces k) threads form.spelled form.of)
      ∙ unknown-read names threads unknown in
      or_left ((k == 2) && has_unknown_thread names
      (order_on_line names (text_in (line_at pieces k))))
      (is_in_body names pieces k && has_unknown (row_at names pieces k))
      (and_from (k == 2) (has_unknown_thread names
      (order_on_line names (text_in (line_at pieces k)))) two lost)

  unknown-test : (k : ℕ) (form : Form) → IsOpen names pieces k → HasForm names pieces k form
      → HasUnknown names form → is_faulty size names pieces k UnknownName ≡ true
  unknown-test k (forms.Version v) at form unknown = absurd unknown
  unknown-test k (forms.Order threads) at form unknown = order-unknown k threads form unknown
  unknown-test k (forms.Points points) at form unknown = absurd unknown
  unknown-test k (forms.Limit limit) at form unknown = absurd unknown
  unknown-test k (forms.Step n thread line ask answer) at form unknown =
      let read = step-row names sound size pieces k n thread line ask answer form in
      late-unknown k form.stands at (ap has_unknown read.1 ∙ ap is_none (read.2 unknown))
  unknown-test k (forms.End verdict) at form unknown =
      let read = end-row names sound size pieces k verdict form in
      late-unknown k form.stands at (ap has_unknown read.1 ∙ ap is_none (read.2 unknown))

  next-test : (k next : ℕ) → IsNextNumber names pieces k next
      → number_before names pieces k + 1 ≡ next
  next-test k next (inl first) = rw (first.0, first.1) refl
  next-test k next (inr later) =
      let step = later.1 in
      let read = step-row names sound size pieces (k - 1) later.0 step.0 step.1 step.2 step.3
      step.4 in
      let far : nat_le k 5 ≡ false = let low = step.4.stands in grind (arith, nat_tests) in
      let is : number_before names pieces k ≡ later.0 =
      by (nat_le k 5) (number_in (row_at names pieces (k - 1))) later.0 far
      (ap number_in read.1) in
      ap (λ n. n + 1) is ∙ sym later.2
    where
      by : (b : Bool) (x n : ℕ) → b ≡ false → x ≡ n → (if b then 0 else x) ≡ n
      by b x n p q = rw (p, q)

  order-test : (k : ℕ) → IsFaulty size names pieces k OutOfOrder
      → is_faulty size names pieces k OutOfOrder ≡ true
  order-test k bad =
      let step = bad.3 in
      let read = step-row names sound size pieces k bad.1 step.0 step.1 step.2 step.3 step.4 in
      let other : (bad.1 == bad.2) ≡ false = let e = bad.5 in grind (arith, nat_tests) in
      and_from (is_in_body names pieces k)
      (is_other_number (number_before names pieces k + 1) (row_at names pieces k))
      (body-test names sound size pieces k bad.0)
      (ap (λ n. is_other_number n (row_at names pieces k)) (next-test k bad.2 bad.4)
      ∙ ap (is_other_number bad.2) read.1 ∙ ap not other)

  fault-test : (k : ℕ) (kind : TraceFault) → IsFaulty size names pieces k kind
      → is_faulty size names pieces k kind ≡ true
  fault-test k TooLong bad = too_long-test k bad
  fault-test k BadHeader bad = bad_header-test k bad
  fault-test k BadLine bad = bad_line-test k bad
  fault-test k UnknownName bad = unknown-test k bad.1 bad.0 bad.2 bad.3
  fault-test k OutOfOrder bad = order-test k bad
  fault-test k NoVerdict bad =
      and_from (is_in_body names pieces k) (not (has_byte pieces k))
      (body-test names sound size pieces k bad.0)
      (ap not bad.1)
  fault-test k MoreAfterVerdict bad =
      let high : nat_le 6 k ≡ true = let low = bad.0.1.stands in grind (arith, nat_tests) in
      all-three (nat_le 6 k) (is_verdict (row_at names pieces (k - 1))) (has_byte pieces k) high
      (verdict-row names sound size pieces (k - 1) bad.0) bad.1

  -- ---- a line that is found faulty is so, where none before it is

  abbrev IsClean : ℕ → Type 0
  IsClean k = (j : ℕ) (kind : TraceFault) → j < k → is_faulty size names pieces j kind ≡ false

  step-past : (k : ℕ) (limit : ℕ) (row : Option TraceRow) → row_at names pieces k ≡ row
      → is_past limit row ≡ true → (n : ℕ) × (event : Option Event)
      × (row_at names pieces k ≡ Some (Step n event)) × (limit < n)
  step-past k limit None e h = absurd cc
  step-past k limit (Some (Step n event)) e h = (n, event, e, grind (arith, nat_tests))
  step-past k limit (Some (End read)) e h = absurd cc

  limit-clean : is_faulty size names pieces 4 BadHeader ≡ false
      → HasForm names pieces 4 (forms.Limit (limit_of pieces))
  limit-clean clean =
      let told = (and_parts (is_whole (line_at pieces 4))
      (is_some (limit_on_line (text_at pieces 4)))
      (not-false (is_whole (line_at pieces 4) && is_some (limit_on_line (text_at pieces 4)))
      clean)).1 in
      let limit = some-of (limit_on_line (text_at pieces 4)) told in
      let form = limit-form names (version_of pieces) (text_at pieces 4) limit.0 limit.1 in
      let same : limit.0 ≡ limit_of pieces = sym (ap (λ o. unwrap_or o 0) limit.1) in
      rw (← same) (record { stands = refl; spelled = form.0; of = form.1 })

  too_long-found : (k : ℕ) → IsClean k → is_faulty size names pieces k TooLong ≡ true
      → IsFaulty size names pieces k TooLong
  too_long-found k clean h =
      by (or_cases ((k == 1) && nat_lt 16777216 size)
      (is_in_body names pieces k && is_past (limit_of pieces) (row_at names pieces k)) h)
    where
      by : (((k == 1) && nat_lt 16777216 size) ≡ true)
          ⊎ ((is_in_body names pieces k && is_past (limit_of pieces) (row_at names pieces k))
          ≡ true) → IsFaulty size names pieces k TooLong
      by (inl e) =
          let one = (and_parts (k == 1) (nat_lt 16777216 size) e).0 in
          let large = (and_parts (k == 1) (nat_lt 16777216 size) e).1 in
          inl (grind (arith, nat_tests), grind (arith, nat_tests))
      by (inr e) =
          let body = body-found names sound size pieces k (and_parts (is_in_body names pieces k)
          (is_past (limit_of pieces) (row_at names pieces k)) e).0 in
          let past = step-past k (limit_of pieces) (row_at names pieces k) refl
          (and_parts (is_in_body names pieces k)
          (is_past (limit_of pieces) (row_at names pieces k)) e).1 in
          let low : 4 < k = let b = body.0 in omega arith in
          inr (
            body,
            limit_of pieces,
            past.0,
            limit-clean (clean 4 BadHeader low),
            step-line names sound size pieces k past.0 past.1
                (step-found names sound size pieces k past.0 past.1 body.0 past.2),
            past.3,
          )

  bad_header-found : (k : ℕ) → is_faulty size names pieces k BadHeader ≡ true
      → IsFaulty size names pieces k BadHeader
  bad_header-found k h =
      let parts = three (nat_le 1 k) (nat_le k 4)
      (not (is_whole (line_at pieces k) && is_head_line names pieces k)) h in
      let lost = not-true (is_whole (line_at pieces k) && is_head_line names pieces k) parts.2 in
      let low : 1 ≤ k = let t = parts.0 in grind (arith, nat_tests) in
      let high : k ≤ 4 = let t = parts.1 in grind (arith, nat_tests) in (
        low,
        high,
        λ line. unequal (is_whole (line_at pieces k) && is_head_line names pieces k)
            (and_from (is_whole (line_at pieces k)) (is_head_line names pieces k) line.0
            (head-test names sound size pieces k line.1 high line.2)) lost,
      )

  bad_line-found : (k : ℕ) → is_faulty size names pieces k BadLine ≡ true
      → IsFaulty size names pieces k BadLine
  bad_line-found k h =
      let parts = three (is_in_body names pieces k) (has_byte pieces k)
      (not (is_whole (line_at pieces k) && is_some (row_at names pieces k))) h in
      let lost = not-true (is_whole (line_at pieces k) && is_some (row_at names pieces k))
      parts.2 in
      let body = body-found names sound size pieces k parts.0 in (
        body,
        parts.1,
        λ line. unequal (is_whole (line_at pieces k)
            && is_some (row_at names pieces k))
            (and_from (is_whole (line_at pieces k)) (is_some (row_at names pieces k)) line.0
            (body-row names sound size pieces k line.1 body.0 line.2)) lost,
      )

  order-found : (k : ℕ) (order : Option (List (List ℕ))) → k ≡ 2
      → order_on_line names (text_at pieces 2) ≡ order → has_unknown_thread names order ≡ true
      → IsFaulty size names pieces k UnknownName
  order-found k None two e h = absurd cc
  order-found k (Some threads) two e h =
      let form = order-form names (version_of pieces) (text_at pieces 2) threads e in
      rw two (
        λ j before line. let low = line.1.stands in
            omega arith,
        forms.Order threads,
        record { stands = refl; spelled = form.0; of = form.1 },
        unknown-told names threads h,
      )

  row-unknown : (k : ℕ) (row : Option TraceRow) → IsInBody names pieces k
      → row_at names pieces k ≡ row
      → has_unknown row ≡ true → IsFaulty size names pieces k UnknownName
  row-unknown k None body e h = absurd cc
  row-unknown k (Some (Step n event)) body e h =
      let f = step-found names sound size pieces k n event body.0 e in
      (body.1, forms.Step n f.thread f.line f.ask f.answer, f.form, f.unknown (none-of event h))
  row-unknown k (Some (End read)) body e h =
      let f = end-found names sound size pieces k read body.0 e in
      (body.1, forms.End f.0, f.1, f.2 (none-of read h))

  unknown-found : (k : ℕ) → is_faulty size names pieces k UnknownName ≡ true
      → IsFaulty size names pieces k UnknownName
  unknown-found k h =
      by (or_cases ((k == 2) && has_unknown_thread names
      (order_on_line names (text_in (line_at pieces k))))
      (is_in_body names pieces k && has_unknown (row_at names pieces k)) h)
    where
      by : (((k == 2) && has_unknown_thread names
          (order_on_line names (text_in (line_at pieces k)))) ≡ true)
          ⊎ ((is_in_body names pieces k && has_unknown (row_at names pieces k)) ≡ true)
          → IsFaulty size names pieces k UnknownName
      by (inl e) =
          let two : k ≡ 2 = let t = (and_parts (k == 2)
          (has_unknown_thread names (order_on_line names (text_in (line_at pieces k)))) e).0 in
          grind (arith, nat_tests) in
          order-found k (order_on_line names (text_at pieces 2)) two refl
          (ap (λ j. has_unknown_thread names (order_on_line names (text_at pieces j))) (sym two)
          ∙ (and_parts (k == 2) (has_unknown_thread names
          (order_on_line names (text_in (line_at pieces k)))) e).1)
      by (inr e) =
          row-unknown k (row_at names pieces k)
          (body-found names sound size pieces k (and_parts (is_in_body names pieces k)
          (has_unknown (row_at names pieces k)) e).0) refl
          (and_parts (is_in_body names pieces k) (has_unknown (row_at names pieces k)) e).1

  earlier : (k : ℕ) → IsInBody names pieces k → 6 ≤ k → IsInBody names pieces (k - 1)
  earlier k body low = (omega arith, λ j before line. body.1 j (omega arith) line)

  -- the line before one of the body is a step's
  step-before : (k : ℕ) → IsClean k → IsInBody names pieces k → 6 ≤ k
      → (n : ℕ) × (event : Option Event) × (row_at names pieces (k - 1) ≡ Some (Step n event))
  step-before k clean body low =
      let before = earlier k body low in
      let test = body-test names sound size pieces (k - 1) before in
      let there = guarded-not (is_in_body names pieces (k - 1)) (has_byte pieces (k - 1))
      (clean (k - 1) NoVerdict (omega arith)) test in
      let line = whole (is_in_body names pieces (k - 1)) (has_byte pieces (k - 1))
      (is_whole (line_at pieces (k - 1)) && is_some (row_at names pieces (k - 1)))
      (clean (k - 1) BadLine (omega arith)) test there in
      by (row_at names pieces (k - 1)) refl
      (and_parts (is_whole (line_at pieces (k - 1))) (is_some (row_at names pieces (k - 1)))
      line).1 before.0
    where
      whole : (a b c : Bool) → (a && b && not c) ≡ false → a ≡ true → b ≡ true → c ≡ true
      whole a b true h p q = refl
      whole true true false h p q = absurd cc
      whole true false false h p q = absurd cc
      whole false b false h p q = absurd cc

      by : (row : Option TraceRow) → row_at names pieces (k - 1) ≡ row → is_some row ≡ true
          → 5 ≤ k - 1
          → (n : ℕ) × (event : Option Event) × (row_at names pieces (k - 1) ≡ Some (Step n event))
      by None e t after = absurd cc
      by (Some (Step n event)) e t after = (n, event, e)
      by (Some (End read)) e t after =
          let f = end-found names sound size pieces (k - 1) read after e in
          absurd (body.1 (k - 1) (omega arith) (f.0, f.1))

  next-found : (k : ℕ) → IsClean k → IsInBody names pieces k
      → IsNextNumber names pieces k (number_before names pieces k + 1)
  next-found k clean body = by (nat_le k 5) refl
    where
      by : (b : Bool) → nat_le k 5 ≡ b
          → IsNextNumber names pieces k ((if b then 0 else number_in (row_at names pieces (k - 1)))
          + 1)
      by true e = let low = body.0 in inl (grind (arith, nat_tests), refl)
      by false e =
          let far : 6 ≤ k = grind (arith, nat_tests) in
          let step = step-before k clean body far in
          let low : 5 ≤ k - 1 = omega arith in
          inr (
            step.0,
            step-line names sound size pieces (k - 1) step.0 step.1
                (step-found names sound size pieces (k - 1) step.0 step.1 low step.2),
            ap (λ r. number_in r + 1) step.2,
          )

  step-other : (k next : ℕ) (row : Option TraceRow) → row_at names pieces k ≡ row
      → is_other_number next row ≡ true
      → (n : ℕ) × (event : Option Event) × (row_at names pieces k ≡ Some (Step n event))
      × (n ≢ next)
  step-other k next None e h = absurd cc
  step-other k next (Some (Step n event)) e h = let other = not-true (n == next) h in
      (n, event, e, grind (arith, nat_tests))
  step-other k next (Some (End read)) e h = absurd cc

  out_of_order-found : (k : ℕ) → IsClean k → is_faulty size names pieces k OutOfOrder ≡ true
      → IsFaulty size names pieces k OutOfOrder
  out_of_order-found k clean h =
      let next = number_before names pieces k + 1 in
      let body = body-found names sound size pieces k (and_parts (is_in_body names pieces k)
      (is_other_number next (row_at names pieces k)) h).0 in
      let other = step-other k next (row_at names pieces k) refl
      (and_parts (is_in_body names pieces k) (is_other_number next (row_at names pieces k))
      h).1 in (
        body,
        other.0,
        next,
        step-line names sound size pieces k other.0 other.1
            (step-found names sound size pieces k other.0 other.1 body.0 other.2),
        next-found k clean body,
        other.3,
      )

  fault-found : (k : ℕ) (kind : TraceFault) → IsClean k → is_faulty size names pieces k kind ≡ true
      → IsFaulty size names pieces k kind
  fault-found k TooLong clean h = too_long-found k clean h
  fault-found k BadHeader clean h = bad_header-found k h
  fault-found k BadLine clean h = bad_line-found k h
  fault-found k UnknownName clean h = unknown-found k h
  fault-found k OutOfOrder clean h = out_of_order-found k clean h
  fault-found k NoVerdict clean h = (
    body-found names sound size pieces k
        (and_parts (is_in_body names pieces k) (not (has_byte pieces k)) h).0,
    not-true (has_byte pieces k) (and_parts (is_in_body names pieces k)
        (not (has_byte pieces k)) h).1,
  )
  fault-found k MoreAfterVerdict clean h =
      let parts = three (nat_le 6 k) (is_verdict (row_at names pieces (k - 1))) (has_byte pieces k)
      h in
      let low : 5 ≤ k - 1 = let t = parts.0 in grind (arith, nat_tests) in
      (verdict-found names sound size pieces (k - 1) low parts.1, parts.2)

  -- ---- the first fault

  none-faulty : (k : ℕ) (kind : TraceFault) → is_faulty size names pieces k kind ≡ false
      → ¬ IsFaulty size names pieces k kind
  none-faulty k kind free bad =
      unequal (is_faulty size names pieces k kind) (fault-test k kind bad) free

  first-fault : (line : ℕ) (kind : TraceFault) → IsFirstFound size names pieces line kind
      → IsFirstFault size names pieces line kind
  first-fault line kind first = record {
    faulty = fault-found line kind (λ j other before. first.first_line j other before) first.faulty;
    first_kind = λ other low. none-faulty line other (first.first_kind other low);
    first_line = λ j other before. none-faulty j other (first.first_line j other before);
  }

  pub told-read : {A : Type 0} (read : Result A Fault) → IsTold size names pieces read
      → IsRead size names pieces read
  told-read (Ok x) told = λ k kind. none-faulty k kind (told k kind)
  told-read (Err fault) told = first-fault fault.0 fault.1 told
