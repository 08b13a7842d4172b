-- Facts on the pieces of a verdict's text.
use Rattle.std.specs.Prelude.{decimal, codes, map, filter, nat_lt, ◌==◌, if◌then◌else◌}
use Rattle.std.specs.List.{All, flat_map, slice_get, slice_index_or, join_with_byte}
use Rattle.std.specs.Result.{OnOk, OnErr}
use Rattle.std.proofs.lemmas.List.{take-take, take_at}
use Rattle.std.proofs.Common.{◌≡◌, ℕ, ◌+◌, ◌<◌, ◌≤◌, Bool, true, false, List, [], ◌∷◌, ◌++◌, length}
use Rattle.std.proofs.Common.{zero, suc, Option, Some, None, Result, Ok, Err, take, length-append}
use Rattle.std.proofs.Common.{refl, sym, ◌∙◌, ap, arith, append_assoc, append-nil}
use Rattle.std.proofs.lemmas.Bool.Decides.{nat_tests}
use Rattle.std.proofs.lemmas.List.Elements.{All-head, All-tail}
use Rattle.std.proofs.lemmas.Result.{on_ok_weaker}
use Rattle.std.proofs.lemmas.Grind.{flat_map-append}
use Rattle.pct_ask.specs.NameLists.{NameLists}
use Rattle.pct_ask.specs.Places.{AreRising, line_of_thread}
use Rattle.pct_ask.specs.VerdictText.{thread_name, place_words, verdict_text}
use Rattle.pct_ask.specs.declared.verdict.Verdict.{Verdict}
use Rattle.pct_ask.specs.declared.verdict.Verdict.TheVariants.{Stuck}
use Rattle.pct_ask.specs.VerdictPieces.{IsStartOf, place_piece}
use Rattle.pct_ask.proofs.laws.RisingPlaces.{named_place, RiseFrom, RiseFrom-increasing}

name-there : (names : List (List ℕ)) (place : ℕ) (name : List ℕ) → Some name ≡ slice_get names place
    → name ≡ slice_index_or names place []
name-there [] place name h = cc
name-there (n ∷ ns) zero name h = cc
name-there (n ∷ ns) (suc place) name h = name-there ns place name h

-- a name, a line and a space before each
pub place-written : {X E : Type 0} (names : NameLists) (thread line : ℕ)
    (old mid new name digits : List ℕ) (r : Result X E) → Some name ≡ slice_get names.threads thread
    → mid ≡ old ++ 32 ∷ name → digits ≡ decimal line → OnOk r (new ≡ mid ++ 32 ∷ digits)
    → OnOk r (new ≡ old ++ place_piece names (thread, line))
place-written names thread line old mid new name digits r found first second h =
    let there = name-there names.threads thread name found in
    on_ok_weaker r (λ e. e ∙ rw (first, second, there)
    (append_assoc old (32 ∷ thread_name names thread) (32 ∷ decimal line))) h

-- the places of the threads below one
abbrev pub places_below : ℕ → List (ℕ × ℕ) → List (ℕ × ℕ)
places_below thread places = filter (λ place. nat_lt place.0 thread) places

pub places_below-zero : (places : List (ℕ × ℕ)) → places_below 0 places ≡ []
places_below-zero [] = refl
places_below-zero (p ∷ ps) =
    let test : nat_lt p.0 0 ≡ false = grind (arith, nat_tests) in rw test (places_below-zero ps)

pub places_below-all : (last : ℕ) (places : List (ℕ × ℕ))
    → All (λ (place : ℕ × ℕ). place.0 < last) places → places_below last places ≡ places
places_below-all last [] all = refl
places_below-all last (p ∷ ps) all =
    let low = All-head (λ (place : ℕ × ℕ). place.0 < last) p ps all in
    let test : nat_lt p.0 last ≡ true = grind (arith, nat_tests) in
    rw test (ap (λ qs. p ∷ qs) (places_below-all last ps
    (All-tail (λ (place : ℕ × ℕ). place.0 < last) p ps all)))

places_below-none : (thread least : ℕ) (places : List (ℕ × ℕ)) → thread ≤ least
    → RiseFrom least (map (λ (p : ℕ × ℕ). p.0) places) → places_below thread places ≡ []
places_below-none thread least [] h rise = refl
places_below-none thread least (p ∷ ps) h rise =
    let above = rise.0 in
    let test : nat_lt p.0 thread ≡ false = grind (arith, nat_tests) in
    rw test (places_below-none thread (p.0 + 1) ps (omega arith) rise.1)

-- a thread with its line, where it has one
abbrev pub place_at : ℕ → Option ℕ → List (ℕ × ℕ)
place_at thread None = []
place_at thread (Some line) = (thread, line) ∷ []

below-by : (thread : ℕ) (p : ℕ × ℕ) (ps : List (ℕ × ℕ)) (low same : Bool) → nat_lt p.0 thread ≡ low
    → (p.0 == thread) ≡ same → RiseFrom (p.0 + 1) (map (λ (q : ℕ × ℕ). q.0) ps)
    → places_below (thread + 1) ps ≡ places_below thread ps
    ++ place_at thread (line_of_thread thread ps)
    → places_below (thread + 1) (p ∷ ps)
    ≡ places_below thread (p ∷ ps) ++ place_at thread (line_of_thread thread (p ∷ ps))
below-by thread p ps true true low same rise next = absurd (grind (arith, nat_tests))
below-by thread p ps true false low same rise next =
    let test : nat_lt p.0 (thread + 1) ≡ true = grind (arith, nat_tests) in
    rw (test, low, same) (ap (λ qs. p ∷ qs) next)
below-by thread p ps false true low same rise next =
    let test : nat_lt p.0 (thread + 1) ≡ true = grind (arith, nat_tests) in
    let is : p.0 ≡ thread = grind (arith, nat_tests) in
    rw (
      test,
      low,
      same,
      places_below-none (thread + 1) (p.0 + 1) ps (omega arith) rise,
      places_below-none thread (p.0 + 1) ps (omega arith) rise,
    ) (ap (λ t. (t, p.1) ∷ []) is)
below-by thread p ps false false low same rise next =
    let test : nat_lt p.0 (thread + 1) ≡ false = grind (arith, nat_tests) in
    rw (test, low, same) next

-- the next thread's place comes after those below it
places_below-step : (thread least : ℕ) (places : List (ℕ × ℕ))
    → RiseFrom least (map (λ (p : ℕ × ℕ). p.0) places)
    → places_below (thread + 1) places
    ≡ places_below thread places ++ place_at thread (line_of_thread thread places)
places_below-step thread least [] rise = refl
places_below-step thread least (p ∷ ps) rise =
    below-by thread p ps (nat_lt p.0 thread) (p.0 == thread) refl refl rise.1
    (places_below-step thread (p.0 + 1) ps rise.1)

-- what is written after one more thread
pub pieces-step : (names : NameLists) (thread : ℕ) (line : Option ℕ) (places : List (ℕ × ℕ))
    (start out new : List ℕ) → AreRising places → line ≡ line_of_thread thread places
    → out ≡ start ++ flat_map (place_piece names) (places_below thread places)
    → new ≡ out ++ flat_map (place_piece names) (place_at thread line)
    → new ≡ start ++ flat_map (place_piece names) (places_below (thread + 1) places)
pieces-step names thread line places start out new sound is before after =
    let F : List (ℕ × ℕ) → List ℕ = λ ps. flat_map (place_piece names) ps in
    let next : places_below (thread + 1) places
    ≡ places_below thread places ++ place_at thread line =
    places_below-step thread 0 places
    (RiseFrom-increasing (map (λ (p : ℕ × ℕ). p.0) places) sound.rising)
    ∙ ap (λ l. places_below thread places ++ place_at thread l) (sym is) in
    after ∙ ap (λ o. o ++ F (place_at thread line)) before
    ∙ append_assoc start (F (places_below thread places)) (F (place_at thread line))
    ∙ ap (λ t. start ++ t) (sym (flat_map-append (place_piece names) (places_below thread places)
    (place_at thread line)) ∙ ap F (sym next))

member-by : (P : ℕ → Type 0) (thread line : ℕ) (p : ℕ × ℕ) (ps : List (ℕ × ℕ)) (same : Bool)
    → (p.0 == thread) ≡ same → P p.0 → (if same then Some p.1 else line_of_thread thread ps)
    ≡ Some line → (line_of_thread thread ps ≡ Some line → P thread) → P thread
member-by P thread line p ps true same here h next =
    let is : p.0 ≡ thread = grind (arith, nat_tests) in rw (← is) here
member-by P thread line p ps false same here h next = next h

-- a thread with a line is one of them
pub line_of_thread-member : (P : ℕ → Type 0) (thread line : ℕ) (places : List (ℕ × ℕ))
    → All P (map (λ (p : ℕ × ℕ). p.0) places) → line_of_thread thread places ≡ Some line → P thread
line_of_thread-member P thread line [] all h = cc
line_of_thread-member P thread line (p ∷ ps) all h =
    member-by P thread line p ps (p.0 == thread) refl
    (All-head P p.0 (map (λ (q : ℕ × ℕ). q.0) ps) all) h
    (λ later. line_of_thread-member P thread line ps
    (All-tail P p.0 (map (λ (q : ℕ × ℕ). q.0) ps) all) later)

-- after the last thread all places are written
pub places_below-last : (thread : ℕ) (places : List (ℕ × ℕ)) → thread ≡ 64 → AreRising places
    → places_below thread places ≡ places
places_below-last thread places last sound = rw last (places_below-all 64 places sound.few)

pub OnErr-any : {T E P : Type 0} (r : Result T E) → P → OnErr r P
OnErr-any (Ok x) p = tt
OnErr-any (Err e) p = p

-- what begins with more begins with less
pub IsStartOf-more : (old a b mid new : List ℕ) → mid ≡ old ++ a ++ b → IsStartOf mid new
    → IsStartOf old new
IsStartOf-more old a b mid new is begun =
    let longer : length old ≤ length mid =
    omega (arith, ap length is, length-append (old ++ a) b, length-append old a) in
    sym (take-take (length old) (length mid) new longer)
    ∙ ap (take (length old)) (begun ∙ is ∙ append_assoc old a b)
    ∙ take_at old (a ++ b) (length old) refl

-- the text of a list of blocked threads, piece by piece
pub stuck-pieces : (names : NameLists) (head : List ℕ) (places : List (ℕ × ℕ))
    → join_with_byte 32 (head ∷ flat_map place_words (map (named_place names) places))
    ≡ head ++ flat_map (place_piece names) places
stuck-pieces names head [] = sym (append-nil head)
stuck-pieces names head (p ∷ ps) =
    let name = thread_name names p.0 in
    let others = stuck-pieces names (decimal p.1) ps in
    let pieces = flat_map (place_piece names) ps in
    ap (λ t. head ++ 32 ∷ (name ++ 32 ∷ t)) others
    ∙ ap (λ t. head ++ 32 ∷ t) (sym (append_assoc name (32 ∷ decimal p.1) pieces))

pub stuck-written : {X E : Type 0} (names : NameLists) (verdict : Verdict) (places : List (ℕ × ℕ))
    (old new : List ℕ) (r : Result X E) → verdict ≡ Stuck places
    → OnOk r (new ≡ old ++ codes "stuck" ++ flat_map (place_piece names) places)
    → OnOk r (new ≡ old ++ verdict_text names verdict)
stuck-written names verdict places old new r is h =
    on_ok_weaker r (λ e. e ∙ append_assoc old (codes "stuck") (flat_map (place_piece names) places)
    ∙ ap (λ t. old ++ t) (sym (stuck-pieces names (codes "stuck") places))
    ∙ ap (λ v. old ++ verdict_text names v) (sym is)) h
