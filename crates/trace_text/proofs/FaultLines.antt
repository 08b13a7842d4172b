-- By which kinds a line after the head is faulty.
use Rattle.std.specs.Prelude.{◌==◌, ◌&&◌, ◌||◌, not, nat_le, is_some, if◌then◌else◌}
use Rattle.std.proofs.Common.{◌≡◌, ℕ, ◌+◌, ◌-◌, ◌<◌, Bool, true, false, nat_lt, List, [], ◌∷◌}
use Rattle.std.proofs.Common.{Option, Some, None, Result, Ok, Err, refl, ap, ◌∙◌, arith}
use Rattle.std.proofs.lemmas.Bool.Decides.{nat_tests}
use Rattle.std.proofs.lemmas.Bool.{and_left, and_right}
use Rattle.pct_ask.specs.NameLists.{NameLists}
use Rattle.pct_ask.specs.declared.event.Event.{Event}
use Rattle.pct_ask.specs.declared.verdict.Verdict.{Verdict}
use Rattle.trace_text.proofs.Bodies.{past-unknown}
use Rattle.trace_text.specs.Lines.{is_empty, line_at, text_in, is_whole}
use Rattle.trace_text.specs.reader.StepLines.{row_of}
use Rattle.trace_text.specs.Faults.{has_byte, kind_rank}
use Rattle.trace_text.proofs.FaultTests.{version_of, limit_of, row_at, is_verdict, has_verdict}
use Rattle.trace_text.proofs.FaultTests.{is_in_body, number_before, is_past, has_unknown}
use Rattle.trace_text.proofs.FaultTests.{is_other_number, is_head_line, has_unknown_thread}
use Rattle.trace_text.proofs.FaultTests.{is_faulty}
use Rattle.trace_text.specs.reader.Heads.{order_on_line}
use Rattle.trace_text.specs.reader.Reading.{unended_fault, line_or_fault}
use Rattle.trace_text.specs.declared.row.TraceRow.{TraceRow}
use Rattle.trace_text.specs.declared.row.TraceRow.TheVariants.{Step, End}
use Rattle.trace_text.specs.declared.row.SoundTraceRow.{SoundTraceRow}
use Rattle.trace_text.specs.declared.row.SoundTraceRow.TheVariants as sound
use Rattle.trace_text.specs.declared.fault.TraceFault.{TraceFault}
use Rattle.trace_text.specs.declared.fault.TraceFault.TheVariants.{TooLong, BadHeader, BadLine}
use Rattle.trace_text.specs.declared.fault.TraceFault.TheVariants.{UnknownName, OutOfOrder}
use Rattle.trace_text.specs.declared.fault.TraceFault.TheVariants.{NoVerdict, MoreAfterVerdict}

-- whether a line after the head, with no verdict before it, is faulty by a kind: by the number of
-- the next step, the
-- line's text, whether it has its LF, and what it says
abbrev pub line_fault : ℕ → ℕ → List ℕ → Bool → Option TraceRow → TraceFault → Bool
line_fault limit next text whole row TooLong = is_past limit row
line_fault limit next text whole row BadHeader = false
line_fault limit next text whole row BadLine =
    (whole || not (is_empty text)) && not (whole && is_some row)
line_fault limit next text whole row UnknownName = has_unknown row
line_fault limit next text whole row OutOfOrder = is_other_number next row
line_fault limit next text whole row NoVerdict = not (whole || not (is_empty text))
line_fault limit next text whole row MoreAfterVerdict = false

-- the kind is the first of a line
pub record IsFirstKind (fault : TraceFault → Bool) (kind : TraceFault) : Type 0 where
  pub here : fault kind ≡ true
  pub lower : (other : TraceFault) → kind_rank other < kind_rank kind → fault other ≡ false

first_too_long : (fault : TraceFault → Bool) → fault TooLong ≡ true → IsFirstKind fault TooLong
first_too_long fault h = record { here = h; lower = λ other low. absurd (omega arith) }

first_bad_line : (fault : TraceFault → Bool) → fault TooLong ≡ false → fault BadHeader ≡ false
    → fault BadLine ≡ true → IsFirstKind fault BadLine
first_bad_line fault a b h = record { here = h; lower = by }
  where
    by : (other : TraceFault) → kind_rank other < kind_rank BadLine → fault other ≡ false
    by TooLong low = a
    by BadHeader low = b
    by BadLine low = absurd (omega arith)
    by UnknownName low = absurd (omega arith)
    by OutOfOrder low = absurd (omega arith)
    by NoVerdict low = absurd (omega arith)
    by MoreAfterVerdict low = absurd (omega arith)

first_unknown : (fault : TraceFault → Bool) → fault TooLong ≡ false → fault BadHeader ≡ false
    → fault BadLine ≡ false → fault UnknownName ≡ true → IsFirstKind fault UnknownName
first_unknown fault a b c h = record { here = h; lower = by }
  where
    by : (other : TraceFault) → kind_rank other < kind_rank UnknownName → fault other ≡ false
    by TooLong low = a
    by BadHeader low = b
    by BadLine low = c
    by UnknownName low = absurd (omega arith)
    by OutOfOrder low = absurd (omega arith)
    by NoVerdict low = absurd (omega arith)
    by MoreAfterVerdict low = absurd (omega arith)

first_out_of_order : (fault : TraceFault → Bool) → fault TooLong ≡ false → fault BadHeader ≡ false
    → fault BadLine ≡ false → fault UnknownName ≡ false → fault OutOfOrder ≡ true
    → IsFirstKind fault OutOfOrder
first_out_of_order fault a b c d h = record { here = h; lower = by }
  where
    by : (other : TraceFault) → kind_rank other < kind_rank OutOfOrder → fault other ≡ false
    by TooLong low = a
    by BadHeader low = b
    by BadLine low = c
    by UnknownName low = d
    by OutOfOrder low = absurd (omega arith)
    by NoVerdict low = absurd (omega arith)
    by MoreAfterVerdict low = absurd (omega arith)

first_no_verdict : (fault : TraceFault → Bool) → fault TooLong ≡ false → fault BadHeader ≡ false
    → fault BadLine ≡ false → fault UnknownName ≡ false → fault OutOfOrder ≡ false
    → fault NoVerdict ≡ true → IsFirstKind fault NoVerdict
first_no_verdict fault a b c d e h = record { here = h; lower = by }
  where
    by : (other : TraceFault) → kind_rank other < kind_rank NoVerdict → fault other ≡ false
    by TooLong low = a
    by BadHeader low = b
    by BadLine low = c
    by UnknownName low = d
    by OutOfOrder low = e
    by NoVerdict low = absurd (omega arith)
    by MoreAfterVerdict low = absurd (omega arith)

pub first_bad_header : (fault : TraceFault → Bool) → fault TooLong ≡ false → fault BadHeader ≡ true
    → IsFirstKind fault BadHeader
first_bad_header fault a h = record { here = h; lower = by }
  where
    by : (other : TraceFault) → kind_rank other < kind_rank BadHeader → fault other ≡ false
    by TooLong low = a
    by BadHeader low = absurd (omega arith)
    by BadLine low = absurd (omega arith)
    by UnknownName low = absurd (omega arith)
    by OutOfOrder low = absurd (omega arith)
    by NoVerdict low = absurd (omega arith)
    by MoreAfterVerdict low = absurd (omega arith)

pub first_unknown_line : (fault : TraceFault → Bool) → fault TooLong ≡ false
    → fault BadHeader ≡ false → fault BadLine ≡ false → fault UnknownName ≡ true
    → IsFirstKind fault UnknownName
first_unknown_line fault a b c h = first_unknown fault a b c h

-- ---- a line with no LF

unended-step : (past : Bool) (limit next : ℕ) (b : ℕ) (bs : List ℕ) (number : ℕ)
    (event : Option Event) → nat_lt limit number ≡ past
    → IsFirstKind (line_fault limit next (b ∷ bs) false (Some (Step number event)))
    (if past then TooLong else BadLine)
unended-step true limit next b bs number event p =
    first_too_long (line_fault limit next (b ∷ bs) false (Some (Step number event))) p
unended-step false limit next b bs number event p =
    first_bad_line (line_fault limit next (b ∷ bs) false (Some (Step number event))) p refl refl

pub unended-first : (names : NameLists) (version limit next : ℕ) (text : List ℕ)
    (row : Option TraceRow)
    → row ≡ row_of names version text
    → IsFirstKind (line_fault limit next text false row) (unended_fault limit row text)
unfolding row_of
unended-first names version limit next [] None is =
    first_no_verdict (line_fault limit next [] false None) refl refl refl refl refl refl
unended-first names version limit next [] (Some row) is = absurd cc
unended-first names version limit next (b ∷ bs) None is =
    first_bad_line (line_fault limit next (b ∷ bs) false None) refl refl refl
unended-first names version limit next (b ∷ bs) (Some (Step number event)) is =
    unended-step (nat_lt limit number) limit next b bs number event refl
unended-first names version limit next (b ∷ bs) (Some (End verdict)) is =
    first_bad_line (line_fault limit next (b ∷ bs) false (Some (End verdict))) refl refl refl

-- ---- a line with its LF

err_is : (a b : TraceFault) → ◌≡◌ {A = Result SoundTraceRow TraceFault} (Err a) (Err b) → a ≡ b
err_is a b h = cc

line_or_fault-unknown : (past : Bool) (limit next : ℕ) (text : List ℕ) (number : ℕ)
    (kind : TraceFault) → nat_lt limit number ≡ past
    → ◌≡◌ {A = Result SoundTraceRow TraceFault} (if past then Err TooLong else Err UnknownName)
    (Err kind)
    → IsFirstKind (line_fault limit next text true (Some (Step number None))) kind
line_or_fault-unknown true limit next text number kind p h =
    rw (← err_is TooLong kind h) (first_too_long
    (line_fault limit next text true (Some (Step number None))) p)
line_or_fault-unknown false limit next text number kind p h =
    rw (← err_is UnknownName kind h) (first_unknown
    (line_fault limit next text true (Some (Step number None))) p refl refl refl)

line_or_fault-order : (past same : Bool) (limit next : ℕ) (text : List ℕ) (number : ℕ)
    (event : Event) (kind : TraceFault) → nat_lt limit number ≡ past → (number == next) ≡ same
    → (if past then Err TooLong else (if same then Ok (sound.Step event) else Err OutOfOrder))
    ≡ Err kind → IsFirstKind (line_fault limit next text true (Some (Step number (Some event))))
    kind
line_or_fault-order true same limit next text number event kind p q h =
    rw (← err_is TooLong kind h) (first_too_long
    (line_fault limit next text true (Some (Step number (Some event)))) p)
line_or_fault-order false true limit next text number event kind p q h = absurd cc
line_or_fault-order false false limit next text number event kind p q h =
    let other : not (number == next) ≡ true = ap not q in
    rw (← err_is OutOfOrder kind h) (first_out_of_order
    (line_fault limit next text true (Some (Step number (Some event)))) p refl refl refl other)

pub line_or_fault-first : (limit next : ℕ) (text : List ℕ) (row : Option TraceRow)
    (kind : TraceFault)
    → line_or_fault limit next row ≡ Err kind
    → IsFirstKind (line_fault limit next text true row) kind
line_or_fault-first limit next text None kind h =
    rw (← err_is BadLine kind h) (first_bad_line (line_fault limit next text true None) refl refl
    refl)
line_or_fault-first limit next text (Some (Step number None)) kind h =
    line_or_fault-unknown (nat_lt limit number) limit next text number kind refl h
line_or_fault-first limit next text (Some (Step number (Some event))) kind h =
    line_or_fault-order (nat_lt limit number) (number == next) limit next text number event kind
    refl refl h
line_or_fault-first limit next text (Some (End None)) kind h =
    rw (← err_is UnknownName kind h) (first_unknown
    (line_fault limit next text true (Some (End None))) refl refl refl refl)
line_or_fault-first limit next text (Some (End (Some verdict))) kind h = absurd cc

step-none : (past same : Bool) (limit next : ℕ) (text : List ℕ) (number : ℕ) (event : Event)
    (s : SoundTraceRow) → nat_lt limit number ≡ past → (number == next) ≡ same
    → (if past then Err TooLong else (if same then Ok (sound.Step event) else Err OutOfOrder))
    ≡ Ok s → (kind : TraceFault) → line_fault limit next text true (Some (Step number (Some event)))
    kind ≡ false
step-none true same limit next text number event s p q h kind = absurd cc
step-none false false limit next text number event s p q h kind = absurd cc
step-none false true limit next text number event s p q h TooLong = p
step-none false true limit next text number event s p q h BadHeader = refl
step-none false true limit next text number event s p q h BadLine = refl
step-none false true limit next text number event s p q h UnknownName = refl
step-none false true limit next text number event s p q h OutOfOrder = ap not q
step-none false true limit next text number event s p q h NoVerdict = refl
step-none false true limit next text number event s p q h MoreAfterVerdict = refl

end-none : (limit next : ℕ) (text : List ℕ) (verdict : Verdict) (kind : TraceFault)
    → line_fault limit next text true (Some (End (Some verdict))) kind ≡ false
end-none limit next text verdict TooLong = refl
end-none limit next text verdict BadHeader = refl
end-none limit next text verdict BadLine = refl
end-none limit next text verdict UnknownName = refl
end-none limit next text verdict OutOfOrder = refl
end-none limit next text verdict NoVerdict = refl
end-none limit next text verdict MoreAfterVerdict = refl

-- a sound line is faulty by none
pub line_or_fault-none : (limit next : ℕ) (text : List ℕ) (row : Option TraceRow)
    (s : SoundTraceRow)
    → line_or_fault limit next row ≡ Ok s → (kind : TraceFault)
    → line_fault limit next text true row kind ≡ false
line_or_fault-none limit next text None s h kind = absurd cc
line_or_fault-none limit next text (Some (Step number None)) s h kind =
    absurd (past-unknown (nat_lt limit number) s h)
line_or_fault-none limit next text (Some (Step number (Some event))) s h kind =
    step-none (nat_lt limit number) (number == next) limit next text number event s refl refl h kind
line_or_fault-none limit next text (Some (End None)) s h kind = absurd cc
line_or_fault-none limit next text (Some (End (Some verdict))) s h kind =
    end-none limit next text verdict kind

-- ---- where line k stands so

-- what is known at line k, which stands after the head with no verdict before it
pub record IsAt (names : NameLists) (pieces : List (List ℕ)) (version limit m next k : ℕ)
    (text : List ℕ) (whole : Bool) : Type 0 where
  pub version_is : version_of pieces ≡ version
  pub limit_is : limit_of pieces ≡ limit
  pub place : k ≡ m + 5
  pub free : has_verdict names pieces m ≡ false
  pub line_is : line_at pieces k ≡ Some (text, whole)
  pub number_is : number_before names pieces k + 1 ≡ next
  pub before : nat_le 6 k && is_verdict (row_at names pieces (k - 1)) ≡ false

mixed : (a b c d : Bool) → a ≡ false → c ≡ true → (a && b || c && d) ≡ d
mixed a b c d p q = rw (p, q)

bad-parts : (i t w s x y z : Bool) → i ≡ true → t ≡ x → w ≡ y → s ≡ z
    → (i && t && not (w && s)) ≡ (x && not (y && z))
bad-parts i t w s x y z p q r u = rw (p, q, r, u)

only-second : (a b x : Bool) → a ≡ true → b ≡ x → (a && b) ≡ x
only-second a b x p q = rw (p, q)

pub in-body : (names : NameLists) (pieces : List (List ℕ)) (m k : ℕ) → k ≡ m + 5
    → has_verdict names pieces m ≡ false → is_in_body names pieces k ≡ true
in-body names pieces m k place free =
    let low : nat_le 5 k ≡ true = grind (arith, nat_tests) in
    let less : k - 5 ≡ m = omega arith in
    only-second (nat_le 5 k) (not (has_verdict names pieces (k - 5))) true low
    (ap not (ap (has_verdict names pieces) less ∙ free))

pub faulty-at : (size : ℕ) (names : NameLists) (pieces : List (List ℕ)) (version limit m next k : ℕ)
    (text : List ℕ) (whole : Bool) → IsAt names pieces version limit m next k text whole
    → (kind : TraceFault) → is_faulty size names pieces k kind
    ≡ line_fault limit next text whole (row_of names version text) kind
faulty-at size names pieces version limit m next k text whole at TooLong =
    let row : row_at names pieces k ≡ row_of names version text =
    ap (λ v. row_of names v (text_in (line_at pieces k))) at.version_is
    ∙ ap (λ l. row_of names version (text_in l)) at.line_is in
    let high : (k == 1) ≡ false = let p = at.place in grind (arith, nat_tests) in
    mixed (k == 1) (nat_lt 16777216 size) (is_in_body names pieces k)
    (is_past (limit_of pieces) (row_at names pieces k)) high
    (in-body names pieces m k at.place at.free)
    ∙ ap (λ l. is_past l (row_at names pieces k)) at.limit_is ∙ ap (is_past limit) row
faulty-at size names pieces version limit m next k text whole at BadHeader =
    let high : nat_le k 4 ≡ false = let p = at.place in grind (arith, nat_tests) in
    and_left (nat_le 1 k && nat_le k 4)
    (not (is_whole (line_at pieces k) && is_head_line names pieces k))
    (and_right (nat_le 1 k) (nat_le k 4) high)
faulty-at size names pieces version limit m next k text whole at BadLine =
    let row : row_at names pieces k ≡ row_of names version text =
    ap (λ v. row_of names v (text_in (line_at pieces k))) at.version_is
    ∙ ap (λ l. row_of names version (text_in l)) at.line_is in
    bad-parts (is_in_body names pieces k) (has_byte pieces k) (is_whole (line_at pieces k))
    (is_some (row_at names pieces k)) (whole || not (is_empty text)) whole
    (is_some (row_of names version text))
    (in-body names pieces m k at.place at.free)
    (ap (λ l. is_whole l || not (is_empty (text_in l))) at.line_is) (ap is_whole at.line_is)
    (ap is_some row)
faulty-at size names pieces version limit m next k text whole at UnknownName =
    let row : row_at names pieces k ≡ row_of names version text =
    ap (λ v. row_of names v (text_in (line_at pieces k))) at.version_is
    ∙ ap (λ l. row_of names version (text_in l)) at.line_is in
    let high : (k == 2) ≡ false = let p = at.place in grind (arith, nat_tests) in
    mixed (k == 2) (has_unknown_thread names (order_on_line names (text_in (line_at pieces k))))
    (is_in_body names pieces k) (has_unknown (row_at names pieces k)) high
    (in-body names pieces m k at.place at.free)
    ∙ ap has_unknown row
faulty-at size names pieces version limit m next k text whole at OutOfOrder =
    let row : row_at names pieces k ≡ row_of names version text =
    ap (λ v. row_of names v (text_in (line_at pieces k))) at.version_is
    ∙ ap (λ l. row_of names version (text_in l)) at.line_is in
    only-second (is_in_body names pieces k)
    (is_other_number (number_before names pieces k + 1) (row_at names pieces k))
    (is_other_number next (row_of names version text))
    (in-body names pieces m k at.place at.free)
    (ap (λ n. is_other_number n (row_at names pieces k)) at.number_is
    ∙ ap (is_other_number next) row)
faulty-at size names pieces version limit m next k text whole at NoVerdict =
    only-second (is_in_body names pieces k) (not (has_byte pieces k))
    (not (whole || not (is_empty text))) (in-body names pieces m k at.place at.free)
    (ap (λ l. not (is_whole l || not (is_empty (text_in l)))) at.line_is)
faulty-at size names pieces version limit m next k text whole at MoreAfterVerdict =
    three (nat_le 6 k) (is_verdict (row_at names pieces (k - 1))) (has_byte pieces k) at.before
  where
    three : (a b c : Bool) → (a && b) ≡ false → (a && b && c) ≡ false
    three true true c p = cc
    three true false c p = refl
    three false b c p = refl
