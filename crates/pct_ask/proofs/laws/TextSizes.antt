-- How many bytes names, numbers and verdicts have.
use Rattle.std.specs.Prelude.{codes, decimal, map}
use Rattle.std.specs.List.{All, flat_map, join_with_byte}
use Rattle.std.proofs.Common.{◌≡◌, ℕ, ◌+◌, ◌*◌, ◌≤◌, List, [], ◌∷◌, ◌++◌, length, arith}
use Rattle.std.proofs.Common.{length-append}
use Rattle.std.proofs.lemmas.Fmt.{length-decimal-le}
use Rattle.std.proofs.lemmas.List.{length-map}
use Rattle.std.proofs.lemmas.List.Elements.{All-head, All-tail}
use Rattle.pct_ask.specs.NameLists.{NameLists, AreNames}
use Rattle.pct_ask.specs.VerdictText.{thread_name, fault_word, misuse_word, place_words}
use Rattle.pct_ask.specs.VerdictText.{verdict_words, named_verdict, known_threads, IsLine}
use Rattle.pct_ask.specs.VerdictText.{IsVerdictForm, IsPlace, HasNames}
use Rattle.pct_ask.specs.VerdictPieces.{HasName}
use Rattle.pct_ask.specs.declared.names.NameKind.TheVariants.{Thread}
use Rattle.pct_ask.specs.declared.ask.FaultKind.{FaultKind}
use Rattle.pct_ask.specs.declared.ask.FaultKind.TheVariants.{Overflow, ZeroDivisor, Spin}
use Rattle.pct_ask.specs.declared.verdict.MisuseKind.{MisuseKind}
use Rattle.pct_ask.specs.declared.verdict.MisuseKind.TheVariants.{NotOwner, SemFull, AlreadyStarted}
use Rattle.pct_ask.specs.declared.verdict.MisuseKind.TheVariants.{TooManyReads}
use Rattle.pct_ask.specs.declared.verdict.Verdict.{Verdict}
use Rattle.pct_ask.specs.declared.verdict.Verdict.TheVariants.{Passed, Failed, Stuck, Misuse, Fault}
use Rattle.pct_ask.specs.declared.verdict.Verdict.TheVariants.{Cut}
use Rattle.pct_ask.proofs.laws.Names.{place_of-thread}
use Rattle.pct_ask.proofs.laws.NameParts.{name-short}
use Rattle.pct_ask.proofs.laws.RisingPlaces.{named_place, RiseFrom, RiseFrom-increasing}

-- the bytes of words, each with one byte after it
abbrev pub size : List (List ℕ) → ℕ
size [] = 0
size (word ∷ words) = length word + 1 + size words

pub size-append : (a b : List (List ℕ)) → size (a ++ b) ≡ size a + size b
size-append [] b = omega arith
size-append (word ∷ a) b = omega (arith, size-append a b)

pub length-join : (word : List ℕ) (words : List (List ℕ))
    → length (join_with_byte 32 (word ∷ words)) + 1 ≡ size (word ∷ words)
length-join word [] = omega arith
length-join word (next ∷ words) =
    omega (
      arith,
      length-join next words,
      length-append word (32 ∷ join_with_byte 32 (next ∷ words)),
    )

pub line-short : (line : ℕ) → IsLine line → length (decimal line) ≤ 4
line-short line h =
    length-decimal-le 4 line (omega arith) (omega (arith, h.0, h.1)) (omega (arith, h.0, h.1))

pub fault-short : (kind : FaultKind) → length (fault_word kind) ≤ 12
fault-short Overflow = omega arith
fault-short ZeroDivisor = omega arith
fault-short Spin = omega arith

places-size : (places : List (List ℕ × ℕ)) → All IsPlace places
    → size (flat_map place_words places) ≤ 38 * length places
places-size [] all = omega arith
places-size (p ∷ ps) all =
    let here = All-head IsPlace p ps all in
    let name = name-short p.0 here.0 in
    let line = line-short p.1 here.1 in
    let others = places-size ps (All-tail IsPlace p ps all) in
    omega arith

places-few : (names : NameLists) (least : ℕ) (places : List (ℕ × ℕ)) → AreNames names
    → All (HasName names) (map (λ place. place.0) places)
    → RiseFrom least (known_threads names (map (named_place names) places))
    → least ≤ length names.threads → least + length places ≤ length names.threads
places-few names least [] sound all rise low = omega arith
places-few names least (p ∷ ps) sound all rise low =
    let here = All-head (HasName names) p.0 (map (λ (q : ℕ × ℕ). q.0) ps) all in
    let at = place_of-thread names p.0 sound here in
    let risen : RiseFrom least (p.0 ∷ known_threads names (map (named_place names) ps)) =
    rw at at rise in
    let others = places-few names (p.0 + 1) ps sound
    (All-tail (HasName names) p.0 (map (λ (q : ℕ × ℕ). q.0) ps) all) risen.1
    (omega (arith, here)) in
    omega (arith, others, risen.0)

misuse-short : (kind : MisuseKind) → length (misuse_word kind) ≤ 14
misuse-short NotOwner = omega arith
misuse-short SemFull = omega arith
misuse-short AlreadyStarted = omega arith
misuse-short TooManyReads = omega arith

placed-size : (head name : List ℕ) (line : ℕ) (words : List (List ℕ)) → length head ≤ 12
    → length name ≤ 32 → IsLine line → size words ≤ 15
    → size (head ∷ name ∷ decimal line ∷ words) ≤ 2438
placed-size head name line words a b c d = let l = line-short line c in omega arith

pub verdict-size : (names : NameLists) (verdict : Verdict) → AreNames names → HasNames names verdict
    → IsVerdictForm names (named_verdict names verdict)
    → size (verdict_words (named_verdict names verdict)) ≤ 2438
verdict-size names Passed sound has form = omega arith
verdict-size names (Failed thread line) sound has form =
    placed-size (codes "failed") (thread_name names thread) line [] (omega arith)
    (name-short (thread_name names thread) form.0) form.1 (omega arith)
verdict-size names (Stuck places) sound has form =
    let each = places-size (map (named_place names) places) form.1 in
    let rise = RiseFrom-increasing (known_threads names (map (named_place names) places)) form.2 in
    let few = places-few names 0 places sound has rise (omega arith) in
    let threads = sound.few Thread in
    let long : length (map (named_place names) places) ≡ length places =
    length-map places (named_place names) in
    omega (arith, each, few, threads, long)
verdict-size names (Misuse thread line kind) sound has form = let k = misuse-short kind in
    placed-size (codes "misuse") (thread_name names thread) line (misuse_word kind ∷ [])
    (omega arith) (name-short (thread_name names thread) form.0) form.1 (omega arith)
verdict-size names (Fault thread line kind) sound has form = let k = fault-short kind in
    placed-size (codes "fault") (thread_name names thread) line (fault_word kind ∷ []) (omega arith)
    (name-short (thread_name names thread) form.0) form.1 (omega arith)
verdict-size names Cut sound has form = omega arith

-- words joined by spaces are no longer than that
pub length-joined : (words : List (List ℕ)) → length (join_with_byte 32 words) ≤ size words
length-joined [] = omega arith
length-joined (word ∷ words) = omega (arith, length-join word words)
