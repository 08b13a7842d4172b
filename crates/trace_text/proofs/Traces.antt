-- A text is read as a file exactly where it is the file's trace.
use Rattle.std.specs.Prelude.{codes, decimal, nat_lt, map, if◌then◌else◌}
use Rattle.std.specs.List.{All, join_with_byte}
use Rattle.std.proofs.Common.{◌≡◌, ◌⊎◌, ℕ, ◌+◌, ◌<◌, ◌≤◌, ◌^◌, Bool, true, false, List, [], ◌∷◌}
use Rattle.std.proofs.Common.{◌++◌, length, Option, Some, None, Result, Ok, Err, refl, sym, ap, ◌∙◌}
use Rattle.std.proofs.Common.{inl, inr, arith}
use Rattle.std.proofs.lemmas.Bool.Decides.{nat_tests}
use Rattle.std.proofs.lemmas.List.Elements.{All-head, All-tail}
use Rattle.pct_ask.specs.NameLists.{NameLists, AreNames}
use Rattle.pct_ask.specs.VerdictText.{named_verdict, thread_name}
use Rattle.pct_ask.specs.TraceText.{TraceHead, event_words, step_lines, head_lines}
use Rattle.pct_ask.specs.TraceText.{verdict_line_words, trace_text}
use Rattle.pct_ask.specs.declared.event.Event.{Event}
use Rattle.pct_ask.specs.declared.verdict.Verdict.{Verdict}
use Rattle.trace_text.specs.Answers.{AnswersTrace}
use Rattle.trace_text.specs.Lawful.{IsStep, IsEnd}
use Rattle.pct_ask.specs.Pieces.{pieces_of}
use Rattle.trace_text.specs.Trace.{head_of, IsWritableFile, IsTrace}
use Rattle.trace_text.specs.reader.Heads.{version_on_line, order_on_line, threads_of_names}
use Rattle.trace_text.specs.reader.Heads.{points_on_line, limit_on_line}
use Rattle.trace_text.specs.Faults.{IsTraceFault}
use Rattle.trace_text.specs.reader.Reading.{Fault, Body, ◌>>=◌, head_line, known_order, order_line}
use Rattle.trace_text.specs.reader.Reading.{body_of, file_of, file_in, read_as_trace}
use Rattle.trace_text.specs.reader.Seen.{Gives}
use Rattle.trace_text.specs.declared.file.TraceFile.{TraceFile}
use Rattle.trace_text.specs.declared.fault.TraceFault.{TraceFault}
use Rattle.trace_text.specs.declared.fault.TraceFault.TheVariants.{TooLong}
use Rattle.trace_text.specs.declared.fault.TraceError.{TraceError}
use Rattle.trace_text.specs.declared.fault.TraceError.TheVariants.{Bad, NoMemory}
use Rattle.pct_ask.proofs.laws.TextBytes.{AreHigh, no-end, high-by, decimal-high, form-high}
use Rattle.trace_text.proofs.Bytes.{step-high}
use Rattle.trace_text.proofs.Heads.{version-told, version-known, order-told, order-known}
use Rattle.trace_text.proofs.Heads.{order-named, order-line-high, points-told, points-known}
use Rattle.trace_text.proofs.Heads.{points-line-high}
use Rattle.trace_text.proofs.Heads.{limit-told, limit-known, limit-line-high}
use Rattle.trace_text.proofs.Wholes.{line_pieces, HaveNoEnds, pieces-lines, line_pieces-some}
use Rattle.trace_text.proofs.Wholes.{text-pieces, body-told, body-known}
use Rattle.trace_text.proofs.FaultForms.{IsRead, told-read}
use Rattle.trace_text.proofs.Readings.{HeadLine, head-ok, read-told}
use Rattle.trace_text.proofs.Sizes.{trace-size}
use Rattle.trace_text.proofs.laws.Faults.{one-fault}

-- ---- what is read is spelled so

bind-ok : {A B : Type 0} (r : Result A Fault) (f : A → Result B Fault) (y : B) → (r >>= f) ≡ Ok y
    → (x : A) × (r ≡ Ok x) × (f x ≡ Ok y)
bind-ok (Ok x) f y h = (x, refl, h)
bind-ok (Err e) f y h = absurd cc

known-inv : (order : Option (List ℕ)) (threads : List ℕ) → known_order order ≡ Ok threads
    → order ≡ Some threads
known-inv None threads h = absurd cc
known-inv (Some order) threads h = let same : order ≡ threads = cc in ap (λ o. Some o) same

pub ok_is : {A : Type 0} (x y : A) → ◌≡◌ {A = Result A Fault} (Ok x) (Ok y) → x ≡ y
ok_is x y h = cc

pair-parts : (a b : List ℕ) (u v : List (List ℕ))
    → ◌≡◌ {A = Result (List ℕ × List (List ℕ)) Fault} (Ok (a, u)) (Ok (b, v)) → (a ≡ b) × (u ≡ v)
pair-parts a b u v h =
    let same : ◌≡◌ {A = List ℕ × List (List ℕ)} (a, u) (b, v) = ok_is (a, u) (b, v) h in
    (ap (λ p. p.0) same, ap (λ p. p.1) same)

-- the line of the order
record OrderLine (names : NameLists) (pieces : List (List ℕ)) (order : List ℕ)
    (rest : List (List ℕ)) : Type 0 where
  words : List (List ℕ)
  line : HeadLine (order_on_line names) pieces words rest
  threads : threads_of_names names words ≡ Some order

order-ok : (names : NameLists) (pieces : List (List ℕ)) (order : List ℕ) (rest : List (List ℕ))
    → order_line names pieces ≡ Ok (order, rest) → OrderLine names pieces order rest
order-ok names pieces order rest h =
    let first = bind-ok (head_line 2 (order_on_line names) pieces)
    (λ ws. ◌>>=◌ {A = List ℕ} {B = List ℕ × List (List ℕ)}
    (known_order (threads_of_names names ws.0)) (λ o. Ok (o, ws.1))) (order, rest) h in
    let second = bind-ok {A = List ℕ} {B = List ℕ × List (List ℕ)}
    (known_order (threads_of_names names first.0.0)) (λ o. Ok (o, first.0.1)) (order, rest)
    first.2 in
    let same = pair-parts second.0 order first.0.1 rest second.2 in
    let line = head-ok 2 (order_on_line names) pieces first.0.0 first.0.1 first.1 in
    record {
      words = first.0.0;
      line = rw same.1 at line;
      threads =
          known-inv (threads_of_names names first.0.0) second.0 second.1 ∙ ap (λ o. Some o) same.0;
    }

-- what a sound head and body make
whole : (names : NameLists) (bytes p1 p2 p3 p4 : List ℕ) (rest words : List (List ℕ)) (version : ℕ)
    (order points : List ℕ) (limit : ℕ) (events : List Event) (verdict : Verdict)
    → length bytes ≤ 16777216 → pieces_of bytes ≡ p1 ∷ p2 ∷ p3 ∷ p4 ∷ rest
    → version_on_line p1 ≡ Some version → order_on_line names p2 ≡ Some words
    → threads_of_names names words ≡ Some order → points_on_line p3 ≡ Some points
    → limit_on_line p4 ≡ Some limit → body_of names version limit 1 rest ≡ Ok (events, verdict)
    → IsTrace bytes names (file_of version order points limit (events, verdict))
whole names bytes p1 p2 p3 p4 rest words version order points limit events verdict small pieces v o
    t p l b =
    let v_told = version-told p1 version v in
    let o_told = order-told names p2 words order o t in
    let p_told = points-told p3 points p in
    let l_told = limit-told p4 limit l in
    let body = body-told names version limit 1 rest events verdict v_told.0
    (let low = l_told.1.0 in omega arith) b in
    let head : TraceHead = record {
      version = version;
      order = order;
      points = points;
      limit = limit;
    } in
    let lines = head_lines names head ++ step_lines names 1 events
    ++ verdict_line_words names verdict ∷ [] in
    let as_lines : pieces_of bytes ≡ line_pieces lines =
    pieces ∙ five p1 p2 p3 p4 rest _ _ _ _ _ v_told.1 o_told.0 p_told.0 l_told.0 body.lines in
    record {
      run = record {
        head = record {
          version = v_told.0;
          order = o_told.1;
          whole = o_told.2;
          few_points = p_told.1;
          points = p_told.2;
          limit = l_told.1;
        };
        few = omega (arith, body.few);
        steps = body.steps;
        end = body.end;
      };
      small = small;
      text = text-pieces bytes lines as_lines;
    }
  where
    five : (a b c d : List ℕ) (r : List (List ℕ)) (x y z w : List ℕ) (s : List (List ℕ)) → a ≡ x
        → b ≡ y → c ≡ z → d ≡ w → r ≡ s → a ∷ b ∷ c ∷ d ∷ r ≡ x ∷ y ∷ z ∷ w ∷ s
    five a b c d r x y z w s e f g h i = rw (e, f, g, h, i)

four-pieces : (ps p1 n1 p2 n2 p3 n3 p4 n4 : List ℕ) (all r1 r2 r3 r4 o1 o2 o3 o4 : List (List ℕ))
    → all ≡ p1 ∷ n1 ∷ o1 → r1 ≡ n1 ∷ o1 → r1 ≡ p2 ∷ n2 ∷ o2 → r2 ≡ n2 ∷ o2 → r2 ≡ p3 ∷ n3 ∷ o3
    → r3 ≡ n3 ∷ o3 → r3 ≡ p4 ∷ n4 ∷ o4 → r4 ≡ n4 ∷ o4 → all ≡ p1 ∷ p2 ∷ p3 ∷ p4 ∷ r4
four-pieces ps p1 n1 p2 n2 p3 n3 p4 n4 all r1 r2 r3 r4 o1 o2 o3 o4 a b c d e f g h =
    a ∙ ap (λ x. p1 ∷ x) (sym b ∙ c ∙ ap (λ x. p2 ∷ x)
    (sym d ∙ e ∙ ap (λ x. p3 ∷ x) (sym f ∙ g ∙ ap (λ x. p4 ∷ x) (sym h))))

pub file-spelled : (names : NameLists) (bytes : List ℕ) (file : TraceFile) → length bytes ≤ 16777216
    → file_in names (pieces_of bytes) ≡ Ok file → IsTrace bytes names file
file-spelled names bytes file small h =
    let a = bind-ok (head_line 1 version_on_line (pieces_of bytes)) _ file h in
    let b = bind-ok (order_line names a.0.1) _ file a.2 in
    let c = bind-ok (head_line 3 points_on_line b.0.1) _ file b.2 in
    let d = bind-ok (head_line 4 limit_on_line c.0.1) _ file c.2 in
    let e = bind-ok (body_of names a.0.0 d.0.0 1 d.0.1) _ file d.2 in
    let one = head-ok 1 version_on_line (pieces_of bytes) a.0.0 a.0.1 a.1 in
    let two = order-ok names a.0.1 b.0.0 b.0.1 b.1 in
    let three = head-ok 3 points_on_line b.0.1 c.0.0 c.0.1 c.1 in
    let four = head-ok 4 limit_on_line c.0.1 d.0.0 d.0.1 d.1 in
    let pieces = four-pieces [] one.piece one.next two.line.piece two.line.next three.piece
    three.next four.piece four.next (pieces_of bytes) a.0.1 b.0.1 c.0.1 d.0.1 one.others
    two.line.others three.others four.others one.pieces_are one.rest_is two.line.pieces_are
    two.line.rest_is three.pieces_are three.rest_is four.pieces_are four.rest_is in
    let told = whole names bytes one.piece two.line.piece three.piece four.piece d.0.1 two.words
    a.0.0 b.0.0 c.0.0 d.0.0 e.0.0 e.0.1 small pieces one.says_so two.line.says_so two.threads
    three.says_so four.says_so e.1 in
    let same = ok_is (file_of a.0.0 b.0.0 c.0.0 d.0.0 e.0) file e.2 in
    rw same at told

-- ---- what is spelled so is read

steps-no-end : (names : NameLists) (version next : ℕ) (events : List Event) (verdict : Verdict)
    → AreNames names → All (IsStep names version) events → IsEnd names version verdict
    → next + length events < 2 ^ 63 → HaveNoEnds
    (step_lines names next events ++ verdict_line_words names verdict ∷ [])
steps-no-end names version next [] verdict sound steps end few = (
  no-end (verdict_line_words names verdict)
      (high-by (codes "verdict") refl, form-high names (named_verdict names verdict) end.form),
  tt,
)
steps-no-end names version next (event ∷ events) verdict sound steps end few = (
  no-end (event_words names next event)
      (step-high names version next event sound
      (All-head (IsStep names version) event events steps) (omega arith)),
  steps-no-end names version (next + 1) events verdict sound
      (All-tail (IsStep names version) event events steps) end (omega arith),
)

version-high : (version : ℕ) → (version ≡ 1) ⊎ (version ≡ 2)
    → AreHigh (codes "trace" ∷ decimal version ∷ [])
version-high version (inl one) =
    (high-by (codes "trace") refl, (decimal-high version (omega arith), tt))
version-high version (inr two) =
    (high-by (codes "trace") refl, (decimal-high version (omega arith), tt))

pub lines-no-end : (names : NameLists) (file : TraceFile) → AreNames names
    → IsWritableFile names file → HaveNoEnds
    (head_lines names (head_of file.header) ++ step_lines names 1 file.events
    ++ verdict_line_words names file.verdict ∷ [])
lines-no-end names file sound run =
    let head = run.head in (
      no-end (codes "trace" ∷ decimal file.header.version ∷ [])
          (version-high file.header.version head.version),
      (
        no-end (codes "order" ∷ map (thread_name names) file.header.order)
            (order-line-high names file.header.order sound
            (order-named names file.header.order head.order head.whole)),
        (
          no-end (codes "points" ∷ map decimal file.header.points)
              (points-line-high file.header.points head.points),
          (
            no-end (codes "limit" ∷ decimal file.header.limit ∷ [])
                (limit-line-high file.header.limit head.limit),
            steps-no-end names file.header.version 1 file.events file.verdict sound run.steps
                run.end (let few = run.few in let high = head.limit.1 in omega arith),
          ),
        ),
      ),
    )

pub trace-read : (names : NameLists) (bytes : List ℕ) (file : TraceFile) → AreNames names
    → IsTrace bytes names file → read_as_trace names bytes ≡ Ok file
trace-read names bytes file sound trace =
    let run = trace.run in
    let head = run.head in
    let lines = head_lines names (head_of file.header) ++ step_lines names 1 file.events
    ++ verdict_line_words names file.verdict ∷ [] in
    let pieces : pieces_of bytes ≡ line_pieces lines =
    ap pieces_of trace.text ∙ pieces-lines lines (lines-no-end names file sound run) in
    let small : nat_lt 16777216 (length bytes) ≡ false = let s = trace.small in
    grind (arith, nat_tests) in
    let v = version-known file.header.version head.version in
    let o = order-known names file.header.order sound head.order head.whole in
    let p = points-known file.header.points head.few_points head.points in
    let l = limit-known file.header.limit head.limit in
    let some = line_pieces-some (step_lines names 1 file.events
    ++ verdict_line_words names file.verdict ∷ []) in
    let body : body_of names file.header.version file.header.limit 1 (some.0 ∷ some.1)
    ≡ Ok (file.events, file.verdict) =
    ap (body_of names file.header.version file.header.limit 1) (sym some.2)
    ∙ body-known names file.header.version file.header.limit 1 file.events file.verdict sound
    run.steps run.end (let few = run.few in omega arith) head.limit.1 in
    ap (λ large. if large then Err (1, TooLong) else file_in names (pieces_of bytes)) small
    ∙ ap (file_in names) (pieces ∙ ap
    (λ rest. join_with_byte 32 (codes "trace" ∷ decimal file.header.version ∷ [])
    ∷ join_with_byte 32 (codes "order" ∷ map (thread_name names) file.header.order)
    ∷ join_with_byte 32 (codes "points" ∷ map decimal file.header.points)
    ∷ join_with_byte 32 (codes "limit" ∷ decimal file.header.limit ∷ []) ∷ rest) some.2)
    ∙ head-read names (join_with_byte 32 (codes "trace" ∷ decimal file.header.version ∷ []))
    (join_with_byte 32 (codes "order" ∷ map (thread_name names) file.header.order))
    (join_with_byte 32 (codes "points" ∷ map decimal file.header.points))
    (join_with_byte 32 (codes "limit" ∷ decimal file.header.limit ∷ [])) some.0 some.1
    file.header.version (map (thread_name names) file.header.order) file.header.order
    file.header.points file.header.limit (file.events, file.verdict) v o.0 o.1 p l body
  where
    head-read : (names : NameLists) (p1 p2 p3 p4 p5 : List ℕ) (rest : List (List ℕ)) (version : ℕ)
        (words : List (List ℕ)) (order points : List ℕ) (limit : ℕ) (body : Body)
        → version_on_line p1 ≡ Some version → order_on_line names p2 ≡ Some words
        → threads_of_names names words ≡ Some order → points_on_line p3 ≡ Some points
        → limit_on_line p4 ≡ Some limit → body_of names version limit 1 (p5 ∷ rest) ≡ Ok body
        → file_in names (p1 ∷ p2 ∷ p3 ∷ p4 ∷ p5 ∷ rest)
        ≡ Ok (file_of version order points limit body)
    head-read names p1 p2 p3 p4 p5 rest version words order points limit body v o t p l b =
        rw (v, o, t, p, l, b)

-- ---- the answers

small-read : (names : NameLists) (bytes : List ℕ) (large : Bool) (file : TraceFile)
    → nat_lt 16777216 (length bytes) ≡ large
    → (if large then Err (1, TooLong) else file_in names (pieces_of bytes)) ≡ Ok file
    → IsTrace bytes names file
small-read names bytes true file e h = absurd cc
small-read names bytes false file e h = file-spelled names bytes file (grind (arith, nat_tests)) h

-- a text is read as its first fault, or as a file where no line is faulty
pub read-found : (names : NameLists) (bytes : List ℕ) → AreNames names
    → IsRead (length bytes) names (pieces_of bytes) (read_as_trace names bytes)
read-found names bytes sound =
    told-read names sound (length bytes) (pieces_of bytes) (read_as_trace names bytes)
    (read-told names bytes)

read-fault : (names : NameLists) (bytes : List ℕ) (r : Result TraceFile Fault) (line : ℕ)
    (kind : TraceFault) → IsRead (length bytes) names (pieces_of bytes) r → r ≡ Err (line, kind)
    → IsTraceFault bytes names line kind
read-fault names bytes (Ok file) line kind told h = absurd cc
read-fault names bytes (Err e) line kind told h =
    let same : e ≡ (line, kind) = cc in
    rw same at told

pub answer-given : (names : NameLists) (bytes : List ℕ) (result : Result TraceFile TraceError)
    → AreNames names → Gives (λ (file : TraceFile). file) result (read_as_trace names bytes)
    → AnswersTrace bytes names result
answer-given names bytes (Ok file) sound given =
    small-read names bytes (nat_lt 16777216 (length bytes)) file refl given
answer-given names bytes (Err (Bad line kind)) sound given =
    read-fault names bytes (read_as_trace names bytes) line kind (read-found names bytes sound)
    given
answer-given names bytes (Err NoMemory) sound given = tt

given-ok : (result : Result TraceFile TraceError) (r : Result TraceFile Fault) (file : TraceFile)
    → Gives (λ (f : TraceFile). f) result r → r ≡ Ok file
    → (result ≡ Ok file) ⊎ (result ≡ Err NoMemory)
given-ok (Ok f) r file given h = let same = ok_is f file (sym given ∙ h) in
    inl (ap (λ x. Ok x) same)
given-ok (Err (Bad line kind)) r file given h =
    let two : ◌≡◌ {A = Result TraceFile Fault} (Err (line, kind)) (Ok file) = sym given ∙ h in
    absurd cc
given-ok (Err NoMemory) r file given h = inr refl

pub trace-given : (names : NameLists) (bytes : List ℕ) (result : Result TraceFile TraceError)
    (file : TraceFile) → AreNames names
    → Gives (λ (f : TraceFile). f) result (read_as_trace names bytes) → IsTrace bytes names file
    → (result ≡ Ok file) ⊎ (result ≡ Err NoMemory)
trace-given names bytes result file sound given trace =
    given-ok result (read_as_trace names bytes) file given (trace-read names bytes file sound trace)

same-fault : (a b : ℕ) (j k : TraceFault) → a ≡ b → j ≡ k → ◌≡◌ {A = Fault} (a, j) (b, k)
same-fault a b j k p q = cc

pub fault-read : (names : NameLists) (bytes : List ℕ) (r : Result TraceFile Fault) (line : ℕ)
    (kind : TraceFault) → IsRead (length bytes) names (pieces_of bytes) r
    → IsTraceFault bytes names line kind → r ≡ Err (line, kind)
fault-read names bytes (Ok file) line kind told fault = absurd (told line kind fault.faulty)
fault-read names bytes (Err e) line kind told fault =
    let same = one-fault (length bytes) names (pieces_of bytes) e.0 line e.1 kind told fault in
    ap (λ x. Err x) (same-fault e.0 line e.1 kind same.0 same.1)

given-err : (result : Result TraceFile TraceError) (r : Result TraceFile Fault) (line : ℕ)
    (kind : TraceFault) → Gives (λ (f : TraceFile). f) result r → r ≡ Err (line, kind)
    → (result ≡ Err (Bad line kind)) ⊎ (result ≡ Err NoMemory)
given-err (Ok f) r line kind given h =
    let two : ◌≡◌ {A = Result TraceFile Fault} (Ok f) (Err (line, kind)) = sym given ∙ h in
    absurd cc
given-err (Err (Bad l k)) r line kind given h =
    let two : ◌≡◌ {A = Result TraceFile Fault} (Err (l, k)) (Err (line, kind)) = sym given ∙ h in
    let same : ◌≡◌ {A = Fault} (l, k) (line, kind) = cc in
    inl (ap (λ (e : Fault). Err (Bad e.0 e.1)) same)
given-err (Err NoMemory) r line kind given h = inr refl

pub fault-given : (names : NameLists) (bytes : List ℕ) (result : Result TraceFile TraceError)
    (line : ℕ) (kind : TraceFault) → AreNames names
    → Gives (λ (f : TraceFile). f) result (read_as_trace names bytes)
    → IsTraceFault bytes names line kind → (result ≡ Err (Bad line kind)) ⊎ (result ≡ Err NoMemory)
fault-given names bytes result line kind sound given fault =
    given-err result (read_as_trace names bytes) line kind given
    (fault-read names bytes (read_as_trace names bytes) line kind (read-found names bytes sound)
    fault)

-- ---- what is written

-- a text that was written is a trace, and whatever is answered of it is what was written
pub written-trace : (names : NameLists) (bytes : List ℕ) (file : TraceFile) → AreNames names
    → IsWritableFile names file → bytes
    ≡ trace_text (head_of file.header) names file.events file.verdict → IsTrace bytes names file
written-trace names bytes file sound run is = record {
  run = run;
  small = rw is (trace-size names file sound run);
  text = is;
}
