-- The faults of the lines after a head.
use Rattle.std.specs.Prelude.{◌==◌, ◌&&◌, ◌||◌, not, nat_le, is_some, if◌then◌else◌}
use Rattle.std.proofs.Common.{◌≡◌, ℕ, ◌+◌, ◌-◌, ◌<◌, ◌≤◌, Bool, true, false, nat_lt, List, [], ◌∷◌}
use Rattle.std.proofs.Common.{zero, suc, Some, Result, Ok, Err, refl, sym, ap, ◌∙◌, arith}
use Rattle.std.proofs.lemmas.Bool.Decides.{nat_tests}
use Rattle.std.proofs.lemmas.Bool.{or_left, or_right, or_from, and_left, and_right}
use Rattle.pct_ask.specs.NameLists.{NameLists}
use Rattle.pct_ask.specs.declared.event.Event.{Event}
use Rattle.pct_ask.specs.declared.verdict.Verdict.{Verdict}
use Rattle.trace_text.specs.Lines.{is_empty, piece_at, line_at, text_in, is_whole}
use Rattle.trace_text.specs.reader.StepLines.{row_of}
use Rattle.trace_text.specs.Faults.{has_byte, kind_rank}
use Rattle.trace_text.proofs.FaultTests.{version_of, limit_of, row_at, is_verdict, has_verdict}
use Rattle.trace_text.proofs.FaultTests.{is_in_body, number_in, number_before, is_past}
use Rattle.trace_text.proofs.FaultTests.{has_unknown, is_other_number, is_head_line}
use Rattle.trace_text.proofs.FaultTests.{has_unknown_thread, is_faulty, IsFirstFound}
use Rattle.trace_text.specs.reader.Heads.{order_on_line}
use Rattle.trace_text.specs.reader.Reading.{Fault, Body, unended_fault, line_or_fault, with_event}
use Rattle.trace_text.specs.reader.Reading.{body_at_verdict, body_from_line, body_of}
use Rattle.trace_text.specs.declared.row.TraceRow.TheVariants.{Step, End}
use Rattle.trace_text.specs.declared.row.SoundTraceRow.{SoundTraceRow}
use Rattle.trace_text.specs.declared.row.SoundTraceRow.TheVariants as sound
use Rattle.trace_text.specs.declared.fault.TraceFault.{TraceFault}
use Rattle.trace_text.specs.declared.fault.TraceFault.TheVariants.{TooLong, BadHeader, BadLine}
use Rattle.trace_text.specs.declared.fault.TraceFault.TheVariants.{UnknownName, OutOfOrder}
use Rattle.trace_text.specs.declared.fault.TraceFault.TheVariants.{NoVerdict, MoreAfterVerdict}
use Rattle.trace_text.proofs.Wholes.{line_or_fault-step, line_or_fault-last}
use Rattle.trace_text.proofs.FaultLines.{line_fault, IsFirstKind, unended-first}
use Rattle.trace_text.proofs.FaultLines.{line_or_fault-first, line_or_fault-none, IsAt, faulty-at}

-- three tests that pass
pub all-three : (a b c : Bool) → a ≡ true → b ≡ true → c ≡ true → (a && b && c) ≡ true
all-three a b c p q r = rw (p, q, r)

-- where reading stands after m steps, with these pieces left
record IsReached (size : ℕ) (names : NameLists) (all : List (List ℕ)) (version limit m next : ℕ)
    (pieces : List (List ℕ)) : Type 0 where
  version_is : version_of all ≡ version
  limit_is : limit_of all ≡ limit
  next_is : next ≡ m + 1
  free : has_verdict names all m ≡ false
  number_is : number_before names all (m + 5) + 1 ≡ next
  before : nat_le 6 (m + 5) && is_verdict (row_at names all (m + 4)) ≡ false
  at : (i k : ℕ) → k ≡ m + 5 + i → line_at all k ≡ piece_at pieces i
  sound : (k : ℕ) (kind : TraceFault) → k < m + 5 → is_faulty size names all k kind ≡ false

at-line : (size : ℕ) (names : NameLists) (all : List (List ℕ)) (version limit m next : ℕ)
    (piece : List ℕ) (pieces : List (List ℕ))
    → IsReached size names all version limit m next (piece ∷ pieces)
    → IsAt names all version limit m next (m + 5) piece (not (is_empty pieces))
at-line size names all version limit m next piece pieces r =
    let less : m + 5 - 1 ≡ m + 4 = omega arith in
    record {
      version_is = r.version_is;
      limit_is = r.limit_is;
      place = refl;
      free = r.free;
      line_is = r.at 0 (m + 5) (omega arith);
      number_is = r.number_is;
      before = ap (λ j. nat_le 6 (m + 5) && is_verdict (row_at names all j)) less ∙ r.before;
    }

row-here : (size : ℕ) (names : NameLists) (all : List (List ℕ)) (version limit m next : ℕ)
    (piece : List ℕ) (pieces : List (List ℕ))
    → IsReached size names all version limit m next (piece ∷ pieces)
    → row_at names all (m + 5) ≡ row_of names version piece
row-here size names all version limit m next piece pieces r =
    ap (λ v. row_of names v (text_in (line_at all (m + 5)))) r.version_is
    ∙ ap (λ l. row_of names version (text_in l)) (r.at 0 (m + 5) (omega arith))

-- the fault of the line that is reached
fault-here : (size : ℕ) (names : NameLists) (all : List (List ℕ)) (version limit m next : ℕ)
    (piece : List ℕ) (pieces : List (List ℕ)) (kind : TraceFault)
    → IsReached size names all version limit m next (piece ∷ pieces)
    → IsFirstKind (line_fault limit next piece (not (is_empty pieces)) (row_of names version piece))
    kind → IsFirstFound size names all (next + 4) kind
fault-here size names all version limit m next piece pieces kind r first =
    let at = at-line size names all version limit m next piece pieces r in
    let place : m + 5 ≡ next + 4 = let n = r.next_is in omega arith in
    let here : IsFirstFound size names all (m + 5) kind = record {
      faulty =
          faulty-at size names all version limit m next (m + 5) piece (not (is_empty pieces)) at
          kind ∙ first.here;
      first_kind =
          λ other low. faulty-at size names all version limit m next (m + 5) piece
          (not (is_empty pieces)) at other ∙ first.lower other low;
      first_line = λ k other low. r.sound k other low;
    } in
    rw place at here

below-more : (n : ℕ) (P : ℕ → Type 0) → ((k : ℕ) → k < n → P k) → P n → (k : ℕ) → k < suc n → P k
below-more n P below here k h = by (nat_lt k n) refl
  where
    by : (b : Bool) → nat_lt k n ≡ b → P k
    by true e = below k (grind (arith, nat_tests))
    by false e = let same : n ≡ k = grind (arith, nat_tests) in rw (← same) here

-- one more sound step
reach-more : (size : ℕ) (names : NameLists) (all : List (List ℕ)) (version limit m next : ℕ)
    (piece after : List ℕ) (pieces : List (List ℕ)) (event : Event)
    → IsReached size names all version limit m next (piece ∷ after ∷ pieces)
    → line_or_fault limit next (row_of names version piece) ≡ Ok (sound.Step event)
    → IsReached size names all version limit (suc m) (next + 1) (after ∷ pieces)
reach-more size names all version limit m next piece after pieces event r j =
    let row : row_at names all (m + 5) ≡ Some (Step next (Some event)) =
    row-here size names all version limit m next piece (after ∷ pieces) r
    ∙ line_or_fault-step limit next (row_of names version piece) event j in
    let place : suc m + 4 ≡ m + 5 = omega arith in
    let place_less : suc m + 5 - 1 ≡ m + 5 = omega arith in
    let low : nat_le (suc m + 5) 5 ≡ false = grind (arith, nat_tests) in
    let no_verdict : is_verdict (row_at names all (m + 5)) ≡ false = ap is_verdict row in
    let at = at-line size names all version limit m next piece (after ∷ pieces) r in
    let further : suc m + 5 ≡ suc (m + 5) = omega arith in
    record {
      version_is = r.version_is;
      limit_is = r.limit_is;
      next_is = let n = r.next_is in omega arith;
      free =
          or_from (has_verdict names all m) (is_verdict (row_at names all (m + 5))) r.free
          no_verdict;
      number_is =
          ap (λ n. n + 1) (later-number (nat_le (suc m + 5) 5)
          (number_in (row_at names all (suc m + 5 - 1))) next low
          (ap (λ j. number_in (row_at names all j)) place_less ∙ ap number_in row));
      before =
          and_right (nat_le 6 (suc m + 5)) (is_verdict (row_at names all (suc m + 4)))
          (ap (λ j. is_verdict (row_at names all j)) place ∙ no_verdict);
      at = λ i k e. r.at (suc i) k (omega arith);
      sound =
          λ k kind h. below-more (m + 5) (λ j. is_faulty size names all j kind ≡ false)
          (λ j lower. r.sound j kind lower)
          (faulty-at size names all version limit m next (m + 5) piece true at kind
          ∙ line_or_fault-none limit next piece (row_of names version piece) (sound.Step event) j
          kind) k (omega arith);
    }
  where
    later-number : (b : Bool) (x n : ℕ) → b ≡ false → x ≡ n → (if b then 0 else x) ≡ n
    later-number b x n p q = rw (p, q)

-- ---- after the verdict

later-by : (names : NameLists) (all : List (List ℕ)) (t n : ℕ) (b : Bool) → nat_le n t ≡ b
    → n ≤ suc t → has_verdict names all n ≡ true → (n ≤ t → has_verdict names all t ≡ true)
    → has_verdict names all (suc t) ≡ true
later-by names all t n true e low h before =
    or_left (has_verdict names all t) (is_verdict (row_at names all (t + 5)))
    (before (grind (arith, nat_tests)))
later-by names all t n false e low h before = let same : n ≡ suc t = grind (arith, nat_tests) in
    sym (ap (has_verdict names all) same) ∙ h

has-later : (names : NameLists) (all : List (List ℕ)) (t n : ℕ) → n ≤ t
    → has_verdict names all n ≡ true → has_verdict names all t ≡ true
has-later names all zero n low h = let none : n ≡ 0 = omega arith in
    sym (ap (has_verdict names all) none) ∙ h
has-later names all (suc t) n low h =
    later-by names all t n (nat_le n t) refl low h (λ less. has-later names all t n less h)

no-body : (names : NameLists) (all : List (List ℕ)) (m k : ℕ) → has_verdict names all (suc m) ≡ true
    → m + 6 ≤ k → is_in_body names all k ≡ false
no-body names all m k h far =
    let later : has_verdict names all (k - 5) ≡ true =
    has-later names all (k - 5) (suc m) (omega arith) h in
    by (nat_le 5 k) (has_verdict names all (k - 5)) later
  where
    by : (a b : Bool) → b ≡ true → (a && not b) ≡ false
    by true b p = rw p
    by false b p = refl

mixed-none : (a b c d : Bool) → a ≡ false → c ≡ false → (a && b || c && d) ≡ false
mixed-none a b c d p q = rw (p, q)

-- a line after the verdict's is faulty by no other kind
after-none : (size : ℕ) (names : NameLists) (all : List (List ℕ)) (m k : ℕ)
    → has_verdict names all (suc m) ≡ true → m + 6 ≤ k → (kind : TraceFault) → kind_rank kind < 6
    → is_faulty size names all k kind ≡ false
after-none size names all m k h far TooLong low =
    let high : (k == 1) ≡ false = grind (arith, nat_tests) in
    mixed-none (k == 1) (nat_lt 16777216 size) (is_in_body names all k)
    (is_past (limit_of all) (row_at names all k)) high (no-body names all m k h far)
after-none size names all m k h far BadHeader low =
    let high : nat_le k 4 ≡ false = grind (arith, nat_tests) in
    and_left (nat_le 1 k && nat_le k 4) (not (is_whole (line_at all k) && is_head_line names all k))
    (and_right (nat_le 1 k) (nat_le k 4) high)
after-none size names all m k h far BadLine low =
    and_left (is_in_body names all k && has_byte all k)
    (not (is_whole (line_at all k) && is_some (row_at names all k)))
    (and_left (is_in_body names all k) (has_byte all k) (no-body names all m k h far))
after-none size names all m k h far UnknownName low =
    let high : (k == 2) ≡ false = grind (arith, nat_tests) in
    mixed-none (k == 2) (has_unknown_thread names (order_on_line names (text_in (line_at all k))))
    (is_in_body names all k) (has_unknown (row_at names all k)) high
    (no-body names all m k h far)
after-none size names all m k h far OutOfOrder low =
    and_left (is_in_body names all k)
    (is_other_number (number_before names all k + 1) (row_at names all k))
    (no-body names all m k h far)
after-none size names all m k h far NoVerdict low =
    and_left (is_in_body names all k) (not (has_byte all k)) (no-body names all m k h far)
after-none size names all m k h far MoreAfterVerdict low = absurd (omega arith)

last-there : (i : ℕ) → (is_whole (piece_at ([] ∷ []) i)
    || not (is_empty (text_in (piece_at ([] ∷ []) i)))) ≡ false
last-there zero = refl
last-there (suc i) = refl

-- what is known of the verdict's line and the lines before it
record IsLast (size : ℕ) (names : NameLists) (all : List (List ℕ)) (m : ℕ)
    (pieces : List (List ℕ)) : Type 0 where
  has : has_verdict names all (suc m) ≡ true
  verdict_here : is_verdict (row_at names all (m + 5)) ≡ true
  at : (i k : ℕ) → k ≡ m + 6 + i → line_at all k ≡ piece_at pieces i
  sound : (k : ℕ) (kind : TraceFault) → k < m + 6 → is_faulty size names all k kind ≡ false

reach-last : (size : ℕ) (names : NameLists) (all : List (List ℕ)) (version limit m next : ℕ)
    (piece after : List ℕ) (pieces : List (List ℕ)) (verdict : Verdict)
    → IsReached size names all version limit m next (piece ∷ after ∷ pieces)
    → line_or_fault limit next (row_of names version piece) ≡ Ok (sound.Last verdict)
    → IsLast size names all m (after ∷ pieces)
reach-last size names all version limit m next piece after pieces verdict r j =
    let row : row_at names all (m + 5) ≡ Some (End (Some verdict)) =
    row-here size names all version limit m next piece (after ∷ pieces) r
    ∙ line_or_fault-last limit next (row_of names version piece) verdict j in
    let here : is_verdict (row_at names all (m + 5)) ≡ true = ap is_verdict row in
    let at = at-line size names all version limit m next piece (after ∷ pieces) r in
    record {
      has = or_right (has_verdict names all m) (is_verdict (row_at names all (m + 5))) here;
      verdict_here = here;
      at = λ i k e. r.at (suc i) k (omega arith);
      sound =
          λ k kind h. below-more (m + 5) (λ j. is_faulty size names all j kind ≡ false)
          (λ j lower. r.sound j kind lower)
          (faulty-at size names all version limit m next (m + 5) piece true at kind
          ∙ line_or_fault-none limit next piece (row_of names version piece) (sound.Last verdict) j
          kind) k (omega arith);
    }

-- the file ends after its verdict
last-none : (size : ℕ) (names : NameLists) (all : List (List ℕ)) (m : ℕ)
    → IsLast size names all m ([] ∷ []) → (k : ℕ) (kind : TraceFault)
    → is_faulty size names all k kind ≡ false
last-none size names all m l k kind = by (nat_lt k (m + 6)) refl kind
  where
    by : (b : Bool) → nat_lt k (m + 6) ≡ b → (kd : TraceFault)
        → is_faulty size names all k kd ≡ false
    by true e kd = l.sound k kd (grind (arith, nat_tests))
    by false e TooLong =
        after-none size names all m k l.has (grind (arith, nat_tests)) TooLong (omega arith)
    by false e BadHeader =
        after-none size names all m k l.has (grind (arith, nat_tests)) BadHeader (omega arith)
    by false e BadLine =
        after-none size names all m k l.has (grind (arith, nat_tests)) BadLine (omega arith)
    by false e UnknownName =
        after-none size names all m k l.has (grind (arith, nat_tests)) UnknownName (omega arith)
    by false e OutOfOrder =
        after-none size names all m k l.has (grind (arith, nat_tests)) OutOfOrder (omega arith)
    by false e NoVerdict =
        after-none size names all m k l.has (grind (arith, nat_tests)) NoVerdict (omega arith)
    by false e MoreAfterVerdict =
        let far : m + 6 ≤ k = grind (arith, nat_tests) in
        let line = l.at (k - (m + 6)) k (omega arith) in
        no-third (nat_le 6 k) (is_verdict (row_at names all (k - 1))) (has_byte all k)
        (ap (λ x. is_whole x || not (is_empty (text_in x))) line ∙ last-there (k - (m + 6)))
      where
        no-third : (a b c : Bool) → c ≡ false → (a && b && c) ≡ false
        no-third true true c p = p
        no-third true false c p = refl
        no-third false b c p = refl

-- something stands after it
last-more : (size : ℕ) (names : NameLists) (all : List (List ℕ)) (m : ℕ) (pieces : List (List ℕ))
    → IsLast size names all m pieces → (is_whole (piece_at pieces 0)
    || not (is_empty (text_in (piece_at pieces 0)))) ≡ true
    → IsFirstFound size names all (m + 6) MoreAfterVerdict
last-more size names all m pieces l some =
    let line = l.at 0 (m + 6) (omega arith) in
    let less : m + 6 - 1 ≡ m + 5 = omega arith in
    let high : nat_le 6 (m + 6) ≡ true = grind (arith, nat_tests) in
    record {
      faulty =
          all-three (nat_le 6 (m + 6)) (is_verdict (row_at names all (m + 6 - 1)))
          (has_byte all (m + 6)) high (ap (λ j. is_verdict (row_at names all j)) less
          ∙ l.verdict_here) (ap (λ x. is_whole x || not (is_empty (text_in x))) line ∙ some);
      first_kind = λ other low. after-none size names all m (m + 6) l.has (omega arith) other low;
      first_line = λ k other low. l.sound k other low;
    }

-- ---- what is read after a head

abbrev pub IsTold : {A : Type 0} → ℕ → NameLists → List (List ℕ) → Result A Fault → Type 0
IsTold size names all (Ok x) = (k : ℕ) (kind : TraceFault) → is_faulty size names all k kind ≡ false
IsTold size names all (Err fault) = IsFirstFound size names all fault.0 fault.1

told-event : (size : ℕ) (names : NameLists) (all : List (List ℕ)) (event : Event)
    (others : Result Body Fault) → IsTold size names all others
    → IsTold size names all (with_event event others)
told-event size names all event (Ok body) told = told
told-event size names all event (Err fault) told = told

told-closed : (size : ℕ) (names : NameLists) (all : List (List ℕ)) (m line : ℕ) (verdict : Verdict)
    (piece : List ℕ) (pieces : List (List ℕ)) → line ≡ m + 6
    → IsLast size names all m (piece ∷ pieces)
    → IsTold size names all (body_at_verdict line verdict piece pieces)
told-closed size names all m line verdict [] [] place l = last-none size names all m l
told-closed size names all m line verdict [] (q ∷ pieces) place l =
    rw place (last-more size names all m ([] ∷ q ∷ pieces) l refl)
told-closed size names all m line verdict (b ∷ bs) pieces place l =
    rw place (last-more size names all m ((b ∷ bs) ∷ pieces) l
    (or_right (not (is_empty pieces)) true refl))

told-by : (size : ℕ) (names : NameLists) (all : List (List ℕ)) (version limit m next : ℕ)
    (piece after : List ℕ) (pieces : List (List ℕ))
    → IsReached size names all version limit m next (piece ∷ after ∷ pieces)
    → (IsReached size names all version limit (suc m) (next + 1) (after ∷ pieces)
    → IsTold size names all (body_of names version limit (next + 1) (after ∷ pieces)))
    → (read : Result SoundTraceRow TraceFault)
    → line_or_fault limit next (row_of names version piece) ≡ read
    → IsTold size names all (body_from_line (next + 4) read after pieces
    (body_of names version limit (next + 1) (after ∷ pieces)))
told-by size names all version limit m next piece after pieces r others (Err kind) j =
    fault-here size names all version limit m next piece (after ∷ pieces) kind r
    (line_or_fault-first limit next piece (row_of names version piece) kind j)
told-by size names all version limit m next piece after pieces r others (Ok (sound.Step event)) j =
    told-event size names all event (body_of names version limit (next + 1) (after ∷ pieces))
    (others (reach-more size names all version limit m next piece after pieces event r j))
told-by size names all version limit m next piece after pieces r others (Ok (sound.Last verdict))
    j =
    told-closed size names all m (next + 4 + 1) verdict after pieces
    (let n = r.next_is in omega arith)
    (reach-last size names all version limit m next piece after pieces verdict r j)

told-more : (size : ℕ) (names : NameLists) (all : List (List ℕ)) (version limit m next : ℕ)
    (piece : List ℕ) (pieces : List (List ℕ))
    → IsReached size names all version limit m next (piece ∷ pieces)
    → IsTold size names all (body_of names version limit next (piece ∷ pieces))
told-more size names all version limit m next piece [] r =
    fault-here size names all version limit m next piece []
    (unended_fault limit (row_of names version piece) piece) r
    (unended-first names version limit next piece (row_of names version piece) refl)
told-more size names all version limit m next piece (after ∷ pieces) r =
    told-by size names all version limit m next piece after pieces r
    (λ further. told-more size names all version limit (suc m) (next + 1) after pieces further)
    (line_or_fault limit next (row_of names version piece)) refl

-- the lines after a sound head
pub body-faults : (size : ℕ) (names : NameLists) (all : List (List ℕ)) (version limit : ℕ)
    (piece : List ℕ) (pieces : List (List ℕ)) → version_of all ≡ version → limit_of all ≡ limit
    → ((i k : ℕ) → k ≡ 5 + i → line_at all k ≡ piece_at (piece ∷ pieces) i)
    → ((k : ℕ) (kind : TraceFault) → k < 5 → is_faulty size names all k kind ≡ false)
    → IsTold size names all (body_of names version limit 1 (piece ∷ pieces))
body-faults size names all version limit piece pieces v l at sound =
    told-more size names all version limit 0 1 piece pieces
    (record {
      version_is = v;
      limit_is = l;
      next_is = refl;
      free = refl;
      number_is = refl;
      before = refl;
      at = at;
      sound = sound;
    })
