-- What a text is read as: its trace or its first fault.
use Rattle.std.specs.Prelude.{◌&&◌, ◌||◌, not, is_some, if◌then◌else◌}
use Rattle.std.proofs.Common.{◌≡◌, ℕ, ◌+◌, ◌-◌, ◌<◌, Bool, true, false, nat_lt, List, [], ◌∷◌}
use Rattle.std.proofs.Common.{length, zero, suc, Option, Some, None, Result, Ok, Err, refl, sym, ap}
use Rattle.std.proofs.Common.{◌∙◌, arith}
use Rattle.std.proofs.lemmas.Bool.Decides.{nat_tests}
use Rattle.pct_ask.specs.NameLists.{NameLists}
use Rattle.pct_ask.specs.Pieces.{pieces_of}
use Rattle.trace_text.specs.Lines.{is_empty, piece_at, line_at, text_in, is_whole}
use Rattle.trace_text.specs.reader.Heads.{version_on_line, order_on_line, threads_of_names}
use Rattle.trace_text.specs.reader.Heads.{points_on_line, limit_on_line}
use Rattle.trace_text.proofs.FaultTests.{is_head_line, has_unknown_thread, is_faulty, IsFirstFound}
use Rattle.trace_text.specs.reader.Reading.{Fault, Body, ◌>>=◌, head_value, head_line, known_order}
use Rattle.trace_text.specs.reader.Reading.{order_line, body_of, file_of, file_in, read_as_trace}
use Rattle.trace_text.specs.declared.file.TraceFile.{TraceFile}
use Rattle.trace_text.specs.declared.fault.TraceFault.{TraceFault}
use Rattle.trace_text.specs.declared.fault.TraceFault.TheVariants.{TooLong, BadHeader, BadLine}
use Rattle.trace_text.specs.declared.fault.TraceFault.TheVariants.{UnknownName, OutOfOrder}
use Rattle.trace_text.specs.declared.fault.TraceFault.TheVariants.{NoVerdict, MoreAfterVerdict}
use Rattle.trace_text.proofs.FaultLines.{IsFirstKind, first_bad_header, first_unknown_line}
use Rattle.trace_text.proofs.FaultBodies.{IsTold, body-faults}

-- ---- a line of the head

pub record HeadLine {A : Type 0} (says : List ℕ → Option A) (pieces : List (List ℕ)) (x : A)
    (rest : List (List ℕ)) : Type 0 where
  pub piece : List ℕ
  pub next : List ℕ
  pub others : List (List ℕ)
  pub pieces_are : pieces ≡ piece ∷ next ∷ others
  pub says_so : says piece ≡ Some x
  pub rest_is : rest ≡ next ∷ others

value-inv : {A : Type 0} (line : ℕ) (value : Option A) (next : List ℕ) (others : List (List ℕ))
    (x : A) (rest : List (List ℕ)) → head_value line value (next ∷ others) ≡ Ok (x, rest)
    → (value ≡ Some x) × (rest ≡ next ∷ others)
value-inv line None next others x rest h = absurd cc
value-inv {A = A} line (Some y) next others x rest h =
    let same : ◌≡◌ {A = A × List (List ℕ)} (y, next ∷ others) (x, rest) = cc in
    (ap (λ p. Some p.0) same, sym (ap (λ p. p.1) same))

pub head-ok : {A : Type 0} (line : ℕ) (says : List ℕ → Option A) (pieces : List (List ℕ)) (x : A)
    (rest : List (List ℕ)) → head_line line says pieces ≡ Ok (x, rest) → HeadLine says pieces x rest
head-ok line says [] x rest h = absurd cc
head-ok line says (piece ∷ []) x rest h = absurd cc
head-ok line says (piece ∷ next ∷ others) x rest h =
    let v = value-inv line (says piece) next others x rest h in
    record {
      piece = piece;
      next = next;
      others = others;
      pieces_are = refl;
      says_so = v.0;
      rest_is = v.1;
    }

err_is : {A : Type 0} (a b : Fault) → ◌≡◌ {A = Result A Fault} (Err a) (Err b) → a ≡ b
err_is a b h = cc

-- a first piece is a line that says something
abbrev is_sound : {A : Type 0} → (List ℕ → Option A) → List (List ℕ) → Bool
is_sound says pieces = is_whole (piece_at pieces 0) && is_some (says (text_in (piece_at pieces 0)))

head-err : {A : Type 0} (line : ℕ) (says : List ℕ → Option A) (pieces : List (List ℕ)) (e : Fault)
    → head_line line says pieces ≡ Err e → (e ≡ (line, BadHeader)) × (is_sound says pieces ≡ false)
head-err line says [] e h = (sym (err_is (line, BadHeader) e h), refl)
head-err line says (piece ∷ []) e h = (sym (err_is (line, BadHeader) e h), refl)
head-err {A = A} line says (piece ∷ next ∷ others) e h = by (says piece) refl h
  where
    by : (value : Option A) → says piece ≡ value → head_value line value (next ∷ others) ≡ Err e
        → (e ≡ (line, BadHeader)) × (is_some (says piece) ≡ false)
    by None s k = (sym (err_is (line, BadHeader) e k), ap is_some s)
    by (Some x) s k = absurd cc

-- ---- the lines of the head that are sound

line-zero : (size : ℕ) (names : NameLists) (all : List (List ℕ)) (kind : TraceFault)
    → is_faulty size names all 0 kind ≡ false
line-zero size names all TooLong = refl
line-zero size names all BadHeader = refl
line-zero size names all BadLine = refl
line-zero size names all UnknownName = refl
line-zero size names all OutOfOrder = refl
line-zero size names all NoVerdict = refl
line-zero size names all MoreAfterVerdict = refl

not-true : (b : Bool) → b ≡ true → not b ≡ false
not-true b p = rw p

not-false : (b : Bool) → b ≡ false → not b ≡ true
not-false b p = rw p

or-none : (a : Bool) → a ≡ false → (a || false) ≡ false
or-none a p = rw p

-- whether line k is one of a sound head, by its piece
abbrev IsHeadLine : NameLists → List (List ℕ) → ℕ → Type 0
IsHeadLine names all k = (is_whole (line_at all k) && is_head_line names all k) ≡ true

line-one : (size : ℕ) (names : NameLists) (all : List (List ℕ)) → nat_lt 16777216 size ≡ false
    → IsHeadLine names all 1 → (kind : TraceFault) → is_faulty size names all 1 kind ≡ false
line-one size names all small sound TooLong = or-none (nat_lt 16777216 size) small
line-one size names all small sound BadHeader =
    not-true (is_whole (line_at all 1) && is_head_line names all 1) sound
line-one size names all small sound BadLine = refl
line-one size names all small sound UnknownName = refl
line-one size names all small sound OutOfOrder = refl
line-one size names all small sound NoVerdict = refl
line-one size names all small sound MoreAfterVerdict = refl

line-two : (size : ℕ) (names : NameLists) (all : List (List ℕ)) → IsHeadLine names all 2
    → has_unknown_thread names (order_on_line names (text_in (line_at all 2))) ≡ false
    → (kind : TraceFault) → is_faulty size names all 2 kind ≡ false
line-two size names all sound known TooLong = refl
line-two size names all sound known BadHeader =
    not-true (is_whole (line_at all 2) && is_head_line names all 2) sound
line-two size names all sound known BadLine = refl
line-two size names all sound known UnknownName =
    or-none (has_unknown_thread names (order_on_line names (text_in (line_at all 2)))) known
line-two size names all sound known OutOfOrder = refl
line-two size names all sound known NoVerdict = refl
line-two size names all sound known MoreAfterVerdict = refl

line-three : (size : ℕ) (names : NameLists) (all : List (List ℕ)) → IsHeadLine names all 3
    → (kind : TraceFault) → is_faulty size names all 3 kind ≡ false
line-three size names all sound TooLong = refl
line-three size names all sound BadHeader =
    not-true (is_whole (line_at all 3) && is_head_line names all 3) sound
line-three size names all sound BadLine = refl
line-three size names all sound UnknownName = refl
line-three size names all sound OutOfOrder = refl
line-three size names all sound NoVerdict = refl
line-three size names all sound MoreAfterVerdict = refl

line-four : (size : ℕ) (names : NameLists) (all : List (List ℕ)) → IsHeadLine names all 4
    → (kind : TraceFault) → is_faulty size names all 4 kind ≡ false
line-four size names all sound TooLong = refl
line-four size names all sound BadHeader =
    not-true (is_whole (line_at all 4) && is_head_line names all 4) sound
line-four size names all sound BadLine = refl
line-four size names all sound UnknownName = refl
line-four size names all sound OutOfOrder = refl
line-four size names all sound NoVerdict = refl
line-four size names all sound MoreAfterVerdict = refl

abbrev SoundTo : ℕ → ℕ → NameLists → List (List ℕ) → Type 0
SoundTo n size names all = (k : ℕ) (kind : TraceFault) → k < n
    → is_faulty size names all k kind ≡ false

sound-one : (size : ℕ) (names : NameLists) (all : List (List ℕ)) → SoundTo 1 size names all
sound-one size names all zero kind low = line-zero size names all kind
sound-one size names all (suc k) kind low = absurd (omega arith)

sound-two : (size : ℕ) (names : NameLists) (all : List (List ℕ))
    → ((kind : TraceFault) → is_faulty size names all 1 kind ≡ false) → SoundTo 2 size names all
sound-two size names all one zero kind low = line-zero size names all kind
sound-two size names all one (suc zero) kind low = one kind
sound-two size names all one (suc (suc k)) kind low = absurd (omega arith)

sound-three : (size : ℕ) (names : NameLists) (all : List (List ℕ))
    → ((kind : TraceFault) → is_faulty size names all 1 kind ≡ false)
    → ((kind : TraceFault) → is_faulty size names all 2 kind ≡ false) → SoundTo 3 size names all
sound-three size names all one two zero kind low = line-zero size names all kind
sound-three size names all one two (suc zero) kind low = one kind
sound-three size names all one two (suc (suc zero)) kind low = two kind
sound-three size names all one two (suc (suc (suc k))) kind low = absurd (omega arith)

sound-four : (size : ℕ) (names : NameLists) (all : List (List ℕ)) → SoundTo 3 size names all
    → ((kind : TraceFault) → is_faulty size names all 3 kind ≡ false) → SoundTo 4 size names all
sound-four size names all three here k kind low = by (nat_lt k 3) refl
  where
    by : (b : Bool) → nat_lt k 3 ≡ b → is_faulty size names all k kind ≡ false
    by true e = three k kind (grind (arith, nat_tests))
    by false e = let same : 3 ≡ k = grind (arith, nat_tests) in rw (← same) (here kind)

sound-five : (size : ℕ) (names : NameLists) (all : List (List ℕ)) → SoundTo 4 size names all
    → ((kind : TraceFault) → is_faulty size names all 4 kind ≡ false) → SoundTo 5 size names all
sound-five size names all four here k kind low = by (nat_lt k 4) refl
  where
    by : (b : Bool) → nat_lt k 4 ≡ b → is_faulty size names all k kind ≡ false
    by true e = four k kind (grind (arith, nat_tests))
    by false e = let same : 4 ≡ k = grind (arith, nat_tests) in rw (← same) (here kind)

-- a fault of a line of the head
head-fault : (size : ℕ) (names : NameLists) (all : List (List ℕ)) (k : ℕ) (kind : TraceFault)
    → IsFirstKind (is_faulty size names all k) kind → SoundTo k size names all
    → IsFirstFound size names all k kind
head-fault size names all k kind first sound = record {
  faulty = first.here;
  first_kind = first.lower;
  first_line = λ before other low. sound before other low;
}

-- ---- the whole head, and what is read of it

-- a sound head, and what is read after it
abbrev after-head : NameLists → ℕ → List ℕ → List ℕ → ℕ → List (List ℕ) → Result TraceFile Fault
after-head names version order points limit rest =
    body_of names version limit 1 rest >>= λ body. Ok (file_of version order points limit body)

told-file : (size : ℕ) (names : NameLists) (all : List (List ℕ)) (version : ℕ)
    (order points : List ℕ) (limit : ℕ) (body : Result Body Fault) → IsTold size names all body
    → IsTold size names all (body >>= λ b. Ok (file_of version order points limit b))
told-file size names all version order points limit (Ok body) told = told
told-file size names all version order points limit (Err fault) told = told

some-true : {A : Type 0} (o : Option A) (x : A) → o ≡ Some x → is_some o ≡ true
some-true o x h = ap is_some h

or-true : (a : Bool) → a ≡ true → (a || false) ≡ true
or-true a p = rw p

one-sound : (names : NameLists) (p1 : List ℕ) (rest : List (List ℕ)) (version : ℕ)
    → version_on_line p1 ≡ Some version
    → (not (is_empty rest) && is_some (version_on_line p1)) ≡ not (is_empty rest)
one-sound names p1 [] version v = refl
one-sound names p1 (p ∷ rest) version v = ap is_some v

-- the stages: a text of which some lines of the head are known
stage-five : (size : ℕ) (names : NameLists) (p1 p2 p3 p4 p5 : List ℕ) (rest : List (List ℕ))
    (version : ℕ) (words : List (List ℕ)) (order points : List ℕ) (limit : ℕ)
    → nat_lt 16777216 size ≡ false → version_on_line p1 ≡ Some version
    → order_on_line names p2 ≡ Some words → threads_of_names names words ≡ Some order
    → points_on_line p3 ≡ Some points → limit_on_line p4 ≡ Some limit
    → IsTold size names (p1 ∷ p2 ∷ p3 ∷ p4 ∷ p5 ∷ rest)
    (after-head names version order points limit (p5 ∷ rest))
stage-five size names p1 p2 p3 p4 p5 rest version words order points limit small v o t p l =
    let all = p1 ∷ p2 ∷ p3 ∷ p4 ∷ p5 ∷ rest in
    let one = line-one size names all small (some-true (version_on_line p1) version v) in
    let two = line-two size names all (some-true (order_on_line names p2) words o)
    (ap (has_unknown_thread names) o ∙ unknown) in
    let three = line-three size names all (some-true (points_on_line p3) points p) in
    let four = line-four size names all (some-true (limit_on_line p4) limit l) in
    told-file size names all version order points limit (body_of names version limit 1 (p5 ∷ rest))
    (body-faults size names all version limit p5 rest (versions v) (limits l)
    (λ i k e. places i k e) (sound-five size names all
    (sound-four size names all (sound-three size names all one two) three) four))
  where
    unknown : has_unknown_thread names (Some words) ≡ false
    unknown = rw t

    versions : (h : version_on_line p1 ≡ Some version)
        → Rattle.trace_text.proofs.FaultTests.version_of (p1 ∷ p2 ∷ p3 ∷ p4 ∷ p5 ∷ rest) ≡ version
    versions h = rw h

    limits : (h : limit_on_line p4 ≡ Some limit)
        → Rattle.trace_text.proofs.FaultTests.limit_of (p1 ∷ p2 ∷ p3 ∷ p4 ∷ p5 ∷ rest) ≡ limit
    limits h = rw h

    places : (i k : ℕ) → k ≡ 5 + i → line_at (p1 ∷ p2 ∷ p3 ∷ p4 ∷ p5 ∷ rest) k
        ≡ piece_at (p5 ∷ rest) i
    places i k e = let less : k - 1 ≡ suc (suc (suc (suc i))) = omega arith in
        ap (piece_at (p1 ∷ p2 ∷ p3 ∷ p4 ∷ p5 ∷ rest)) less

four-by : (size : ℕ) (names : NameLists) (p1 p2 p3 p4 : List ℕ) (rest : List (List ℕ)) (version : ℕ)
    (words : List (List ℕ)) (order points : List ℕ) (read : Result (ℕ × List (List ℕ)) Fault)
    → nat_lt 16777216 size ≡ false → version_on_line p1 ≡ Some version
    → order_on_line names p2 ≡ Some words → threads_of_names names words ≡ Some order
    → points_on_line p3 ≡ Some points → head_line 4 limit_on_line (p4 ∷ rest) ≡ read
    → IsTold size names (p1 ∷ p2 ∷ p3 ∷ p4 ∷ rest)
    (read >>= λ limit. after-head names version order points limit.0 limit.1)
four-by size names p1 p2 p3 p4 rest version words order points (Err e) small v o t p h =
    let all = p1 ∷ p2 ∷ p3 ∷ p4 ∷ rest in
    let bad = head-err 4 limit_on_line (p4 ∷ rest) e h in
    let unknown : has_unknown_thread names (Some words) ≡ false = rw t in
    let one = line-one size names all small (some-true (version_on_line p1) version v) in
    let two = line-two size names all (some-true (order_on_line names p2) words o)
    (ap (has_unknown_thread names) o ∙ unknown) in
    let three = line-three size names all (some-true (points_on_line p3) points p) in
    let fault = head-fault size names all 4 BadHeader
    (first_bad_header (is_faulty size names all 4) refl
    (not-false (is_sound limit_on_line (p4 ∷ rest)) bad.1))
    (sound-four size names all (sound-three size names all one two) three) in
    rw bad.0 fault
four-by size names p1 p2 p3 p4 [] version words order points (Ok (l, ps)) small v o t p h =
    absurd cc
four-by size names p1 p2 p3 p4 (p5 ∷ rest) version words order points (Ok (l, ps)) small v o t p h =
    let is = value-inv 4 (limit_on_line p4) p5 rest l ps h in
    rw is.1 (stage-five size names p1 p2 p3 p4 p5 rest version words order points l small v o t p
    is.0)

three-by : (size : ℕ) (names : NameLists) (p1 p2 p3 : List ℕ) (rest : List (List ℕ)) (version : ℕ)
    (words : List (List ℕ)) (order : List ℕ) (read : Result (List ℕ × List (List ℕ)) Fault)
    → nat_lt 16777216 size ≡ false → version_on_line p1 ≡ Some version
    → order_on_line names p2 ≡ Some words → threads_of_names names words ≡ Some order
    → head_line 3 points_on_line (p3 ∷ rest) ≡ read
    → IsTold size names (p1 ∷ p2 ∷ p3 ∷ rest)
    (read >>= λ points. (head_line 4 limit_on_line points.1 >>= λ limit.
    after-head names version order points.0 limit.0 limit.1))
three-by size names p1 p2 p3 rest version words order (Err e) small v o t h =
    let all = p1 ∷ p2 ∷ p3 ∷ rest in
    let bad = head-err 3 points_on_line (p3 ∷ rest) e h in
    let unknown : has_unknown_thread names (Some words) ≡ false = rw t in
    let one = line-one size names all small (one-sound names p1 (p2 ∷ p3 ∷ rest) version v) in
    let two = line-two size names all (some-true (order_on_line names p2) words o)
    (ap (has_unknown_thread names) o ∙ unknown) in
    let fault = head-fault size names all 3 BadHeader
    (first_bad_header (is_faulty size names all 3) refl
    (not-false (is_sound points_on_line (p3 ∷ rest)) bad.1))
    (sound-three size names all one two) in
    rw bad.0 fault
three-by size names p1 p2 p3 [] version words order (Ok (x, ps)) small v o t h = absurd cc
three-by size names p1 p2 p3 (p4 ∷ rest) version words order (Ok (x, ps)) small v o t h =
    let is = value-inv 3 (points_on_line p3) p4 rest x ps h in
    rw is.1 (four-by size names p1 p2 p3 p4 rest version words order x
    (head_line 4 limit_on_line (p4 ∷ rest)) small v o t is.0 refl)

threads-by : (size : ℕ) (names : NameLists) (p1 p2 p3 : List ℕ) (rest : List (List ℕ)) (version : ℕ)
    (words : List (List ℕ)) (order : Option (List ℕ)) → nat_lt 16777216 size ≡ false
    → version_on_line p1 ≡ Some version → order_on_line names p2 ≡ Some words
    → threads_of_names names words ≡ order
    → IsTold size names (p1 ∷ p2 ∷ p3 ∷ rest)
    ((◌>>=◌ {A = List ℕ} {B = List ℕ × List (List ℕ)} (known_order order)
    (λ o. Ok (o, p3 ∷ rest))) >>= λ o.
    (head_line 3 points_on_line o.1 >>= λ points.
    (head_line 4 limit_on_line points.1 >>= λ limit.
    after-head names version o.0 points.0 limit.0 limit.1)))
threads-by size names p1 p2 p3 rest version words None small v o t =
    let all = p1 ∷ p2 ∷ p3 ∷ rest in
    let one = line-one size names all small (one-sound names p1 (p2 ∷ p3 ∷ rest) version v) in
    let sound : IsHeadLine names all 2 = some-true (order_on_line names p2) words o in
    let missing : has_unknown_thread names (Some words) ≡ true = rw t in
    let unknown : has_unknown_thread names (order_on_line names p2) ≡ true =
    ap (has_unknown_thread names) o ∙ missing in
    head-fault size names all 2 UnknownName
    (first_unknown_line (is_faulty size names all 2) refl
    (not-true (is_some (order_on_line names p2)) sound) refl
    (or-true (has_unknown_thread names (order_on_line names p2)) unknown))
    (sound-two size names all one)
threads-by size names p1 p2 p3 rest version words (Some order) small v o t =
    three-by size names p1 p2 p3 rest version words order (head_line 3 points_on_line (p3 ∷ rest))
    small v o t refl

two-by : (size : ℕ) (names : NameLists) (p1 p2 : List ℕ) (rest : List (List ℕ)) (version : ℕ)
    (read : Result (List (List ℕ) × List (List ℕ)) Fault) → nat_lt 16777216 size ≡ false
    → version_on_line p1 ≡ Some version → head_line 2 (order_on_line names) (p2 ∷ rest) ≡ read
    → IsTold size names (p1 ∷ p2 ∷ rest)
    ((read >>= λ words. ◌>>=◌ {A = List ℕ} {B = List ℕ × List (List ℕ)}
    (known_order (threads_of_names names words.0)) (λ o. Ok (o, words.1))) >>= λ o.
    (head_line 3 points_on_line o.1 >>= λ points.
    (head_line 4 limit_on_line points.1 >>= λ limit.
    after-head names version o.0 points.0 limit.0 limit.1)))
two-by size names p1 p2 rest version (Err e) small v h =
    let all = p1 ∷ p2 ∷ rest in
    let bad = head-err 2 (order_on_line names) (p2 ∷ rest) e h in
    let one = line-one size names all small (one-sound names p1 (p2 ∷ rest) version v) in
    let fault = head-fault size names all 2 BadHeader
    (first_bad_header (is_faulty size names all 2) refl
    (not-false (is_sound (order_on_line names) (p2 ∷ rest)) bad.1))
    (sound-two size names all one) in
    rw bad.0 fault
two-by size names p1 p2 [] version (Ok (words, ps)) small v h = absurd cc
two-by size names p1 p2 (p3 ∷ rest) version (Ok (words, ps)) small v h =
    let is = value-inv 2 (order_on_line names p2) p3 rest words ps h in
    rw is.1 (threads-by size names p1 p2 p3 rest version words (threads_of_names names words) small
    v is.0 refl)

one-by : (size : ℕ) (names : NameLists) (pieces : List (List ℕ))
    (read : Result (ℕ × List (List ℕ)) Fault) → nat_lt 16777216 size ≡ false
    → head_line 1 version_on_line pieces ≡ read
    → IsTold size names pieces (read >>= λ version.
    (order_line names version.1 >>= λ o.
    (head_line 3 points_on_line o.1 >>= λ points.
    (head_line 4 limit_on_line points.1 >>= λ limit.
    after-head names version.0 o.0 points.0 limit.0 limit.1))))
one-by size names pieces (Err e) small h =
    let bad = head-err 1 version_on_line pieces e h in
    let fault = head-fault size names pieces 1 BadHeader
    (first_bad_header (is_faulty size names pieces 1) (or-none (nat_lt 16777216 size) small)
    (not-false (is_sound version_on_line pieces) bad.1)) (sound-one size names pieces) in
    rw bad.0 fault
one-by size names [] (Ok (v, ps)) small h = absurd cc
one-by size names (p1 ∷ []) (Ok (v, ps)) small h = absurd cc
one-by size names (p1 ∷ p2 ∷ rest) (Ok (v, ps)) small h =
    let is = value-inv 1 (version_on_line p1) p2 rest v ps h in
    rw is.1 (two-by size names p1 p2 rest v (head_line 2 (order_on_line names) (p2 ∷ rest)) small
    is.0 refl)

-- the first fault of a text, or none where it is read
pub file-told : (size : ℕ) (names : NameLists) (pieces : List (List ℕ))
    → nat_lt 16777216 size ≡ false → IsTold size names pieces (file_in names pieces)
file-told size names pieces small =
    one-by size names pieces (head_line 1 version_on_line pieces) small refl

too-long : (size : ℕ) (names : NameLists) (pieces : List (List ℕ)) → nat_lt 16777216 size ≡ true
    → IsFirstFound size names pieces 1 TooLong
too-long size names pieces large = record {
  faulty = or-true (nat_lt 16777216 size) large;
  first_kind = λ other low. absurd (omega arith);
  first_line = λ before other low. sound-one size names pieces before other low;
}

pub read-told : (names : NameLists) (bytes : List ℕ)
    → IsTold (length bytes) names (pieces_of bytes) (read_as_trace names bytes)
read-told names bytes = by (nat_lt 16777216 (length bytes)) refl
  where
    by : (large : Bool) → nat_lt 16777216 (length bytes) ≡ large
        → IsTold (length bytes) names (pieces_of bytes)
        (if large then Err (1, TooLong) else file_in names (pieces_of bytes))
    by true e = too-long (length bytes) names (pieces_of bytes) e
    by false e = file-told (length bytes) names (pieces_of bytes) e
