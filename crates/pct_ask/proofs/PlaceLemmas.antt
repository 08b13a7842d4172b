-- Facts on the threads that can't go on.
use Rattle.std.proofs.Common.{◌≡◌, ◌≢◌, ℕ, ◌+◌, ◌*◌, ◌/◌, ◌%◌, ◌^◌, ◌<◌, ◌≤◌, Bool, true, false}
use Rattle.std.proofs.Common.{Option, Some, None, List, [], ◌∷◌, ◌++◌, length, map, set, get_or}
use Rattle.std.proofs.Common.{zero, suc, refl, add-one, sym, ◌∙◌, ap, arith, lit<, inl, inr}
use Rattle.std.proofs.Common.{bit_and, bit_or, w64}
use Rattle.std.specs.Int.{bit_at}
use Rattle.std.specs.List.{All}
use Rattle.std.specs.Bool.{Decides}
use Rattle.std.specs.Prelude.{nat_eq, ◌==◌, if◌then◌else◌}
use Rattle.std.specs.Cmp.{unsigned_Decides}
use Rattle.std.specs.Cmp.Lexicographic.{pointwise, pointwise_decides}
use Rattle.std.specs.Hash.{slice, u32, u64}
use Rattle.std.specs.List.Sorted.{IsStrictlyIncreasing}
use Rattle.std.proofs.lemmas.List.Elements.{All-cons, All-head, All-tail, All-nil}
use Rattle.std.proofs.lemmas.Bool.Decides.{eqb_tells, Decides-like, same_from_decides}
use Rattle.std.proofs.lemmas.List.{length-set}
use Rattle.std.proofs.lemmas.Nat.{or_lt, mod_below}
use Rattle.std.proofs.lemmas.Nat.Bits.{bit_at_lowest, bit_at-suc, shr_and_one, bit_at_set_same}
use Rattle.std.proofs.lemmas.Nat.Bits.{bit_at_set_other, same_from_bits}
use Rattle.pct_ask.specs.Places.{AreRising, line_of_thread, places_from, lines_from, same_places}
use Rattle.pct_ask.specs.Places.{known_lines, line_bits, line_numbers, AreKnown}
use Rattle.pct_ask.specs.PlaceLaws.{length-known, bits-back, numbers-back, same_places-Decides}

line_of_thread-earlier : (thread first : ℕ) (lines : List (Option ℕ)) → thread < first
    → line_of_thread thread (places_from first lines) ≡ None
line_of_thread-earlier thread first [] h = refl
line_of_thread-earlier thread first (None ∷ lines) h =
    line_of_thread-earlier thread (first + 1) lines (omega arith)
line_of_thread-earlier thread first (Some line ∷ lines) h =
    let apart : (first == thread) ≡ false = grind (arith, eqb_tells) in
    rw apart (line_of_thread-earlier thread (first + 1) lines (omega arith))

-- a thread's line stands at its place
pub line_of_thread-places : (thread first k : ℕ) (lines : List (Option ℕ)) → thread ≡ first + k
    → get_or lines k None ≡ line_of_thread thread (places_from first lines)
line_of_thread-places thread first k [] e = refl
line_of_thread-places thread first zero (None ∷ lines) e =
    sym (line_of_thread-earlier thread (first + 1) lines (omega arith))
line_of_thread-places thread first (suc k) (None ∷ lines) e =
    line_of_thread-places thread (first + 1) k lines (omega arith)
line_of_thread-places thread first zero (Some line ∷ lines) e =
    let same : (first == thread) ≡ true = grind (arith, eqb_tells) in rw same
line_of_thread-places thread first (suc k) (Some line ∷ lines) e =
    let apart : (first == thread) ≡ false = grind (arith, eqb_tells) in
    rw apart (line_of_thread-places thread (first + 1) k lines (omega arith))

-- one more number before rising ones
pub increasing-cons : (x : ℕ) (xs : List ℕ) → (0 < length xs → x < get_or xs 0 0)
    → IsStrictlyIncreasing xs → IsStrictlyIncreasing (x ∷ xs)
increasing-cons x xs first rising zero h = first (omega arith)
increasing-cons x xs first rising (suc k) h =
    let later = rw add-one at (rising k (omega arith)) in rw add-one later

above-first : (thread first : ℕ) (lines : List (Option ℕ)) → thread < first
    → 0 < length (map (λ (place : ℕ × ℕ). place.0) (places_from first lines))
    → thread < get_or (map (λ (place : ℕ × ℕ). place.0) (places_from first lines)) 0 0
above-first thread first [] h some = absurd (omega arith)
above-first thread first (None ∷ lines) h some =
    above-first thread (first + 1) lines (omega arith) some
above-first thread first (Some line ∷ lines) h some = h

places-rising : (first : ℕ) (lines : List (Option ℕ))
    → IsStrictlyIncreasing (map (λ (place : ℕ × ℕ). place.0) (places_from first lines))
places-rising first [] = λ k h. absurd (omega arith)
places-rising first (None ∷ lines) = places-rising (first + 1) lines
places-rising first (Some line ∷ lines) =
    increasing-cons first (map (λ (place : ℕ × ℕ). place.0) (places_from (first + 1) lines))
    (above-first first (first + 1) lines (omega arith)) (places-rising (first + 1) lines)

places-below : (first last : ℕ) (lines : List (Option ℕ)) → first + length lines ≤ last
    → All (λ (place : ℕ × ℕ). place.0 < last) (places_from first lines)
places-below first last [] h = All-nil (λ (place : ℕ × ℕ). place.0 < last)
places-below first last (None ∷ lines) h = places-below (first + 1) last lines (omega arith)
places-below first last (Some line ∷ lines) h =
    All-cons (λ (place : ℕ × ℕ). place.0 < last) (first, line) (places_from (first + 1) lines)
    (omega arith) (places-below (first + 1) last lines (omega arith))

pub AreRising-places : (lines : List (Option ℕ)) (places : List (ℕ × ℕ)) → length lines ≡ 64
    → places_from 0 lines ≡ places → AreRising places
AreRising-places lines places long view =
    rw (← view) (record {
      rising = places-rising 0 lines;
      few = places-below 0 64 lines (omega arith);
    })

-- where all places are below the first that there can be, there are none
none-below : (thread first : ℕ) (lines : List (Option ℕ)) → thread ≤ first
    → All (λ (place : ℕ × ℕ). place.0 < thread) (places_from first lines)
    → places_from first lines ≡ []
none-below thread first [] h below = refl
none-below thread first (None ∷ lines) h below =
    none-below thread (first + 1) lines (omega arith) below
none-below thread first (Some line ∷ lines) h below =
    let low = All-head (λ (place : ℕ × ℕ). place.0 < thread) (first, line)
    (places_from (first + 1) lines) below in
    absurd (omega arith)

places_from-set : (thread first k line : ℕ) (lines : List (Option ℕ)) → thread ≡ first + k
    → k < length lines → All (λ (place : ℕ × ℕ). place.0 < thread) (places_from first lines)
    → places_from first (set lines k (Some line)) ≡ places_from first lines ++ (thread, line) ∷ []
places_from-set thread first k line [] e h below = absurd (omega arith)
places_from-set thread first zero line (None ∷ lines) e h below =
    let same : first ≡ thread = omega arith in
    rw (none-below thread (first + 1) lines (omega arith) below, same)
places_from-set thread first zero line (Some other ∷ lines) e h below =
    let low = All-head (λ (place : ℕ × ℕ). place.0 < thread) (first, other)
    (places_from (first + 1) lines) below in
    absurd (omega arith)
places_from-set thread first (suc k) line (None ∷ lines) e h below =
    places_from-set thread (first + 1) k line lines (omega arith) (omega arith) below
places_from-set thread first (suc k) line (Some other ∷ lines) e h below =
    let others = All-tail (λ (place : ℕ × ℕ). place.0 < thread) (first, other)
    (places_from (first + 1) lines) below in
    ap (λ places. (first, other) ∷ places)
    (places_from-set thread (first + 1) k line lines (omega arith) (omega arith) others)

-- what `push` leaves
pub places-push : (thread line : ℕ) (lines : List (Option ℕ)) (places : List (ℕ × ℕ)) → thread < 64
    → length lines ≡ 64 → places_from 0 lines ≡ places
    → All (λ (place : ℕ × ℕ). place.0 < thread) places
    → places_from 0 (set lines thread (Some line)) ≡ places ++ (thread, line) ∷ []
places-push thread line lines places few long view below =
    let here : All (λ (place : ℕ × ℕ). place.0 < thread) (places_from 0 lines) = rw view below in
    rw (← view) (places_from-set thread 0 thread line lines (omega arith) (omega arith) here)

-- ---- lines as numbers under bits

-- a thread's bit tells whether its number is a line
pub get_or-known : (bits k : ℕ) (numbers : List ℕ) → k < length numbers
    → get_or (known_lines bits numbers) k None
    ≡ (if bit_at bits k == 1 then Some (get_or numbers k 0) else None)
get_or-known bits k [] h = absurd (omega arith)
get_or-known bits zero (number ∷ numbers) h =
    ap (λ b. if b == 1 then Some number else None) (sym (bit_at_lowest bits))
get_or-known bits (suc k) (number ∷ numbers) h =
    get_or-known (bits / 2) k numbers (omega arith)
    ∙ ap (λ b. if b == 1 then Some (get_or numbers k 0) else None) (sym (bit_at-suc bits k))

pub known-set : (bits more k line : ℕ) (numbers : List ℕ) → k < length numbers
    → bit_at more k ≡ 1 → ((i : ℕ) → i ≢ k → bit_at more i ≡ bit_at bits i)
    → known_lines more (set numbers k line) ≡ set (known_lines bits numbers) k (Some line)
known-set bits more k line [] h here others = absurd (omega arith)
known-set bits more zero line (number ∷ numbers) h here others =
    let odd : (more % 2 == 1) ≡ true =
    (unsigned_Decides (more % 2) 1).1 (sym (bit_at_lowest more) ∙ here) in
    let rest : more / 2 ≡ bits / 2 = same_from_bits (more / 2) (bits / 2)
    (λ i. sym (bit_at-suc more i) ∙ others (suc i) (λ e. omega (arith, e)) ∙ bit_at-suc bits i) in
    rw (odd, rest)
known-set bits more (suc k) line (number ∷ numbers) h here others =
    let same : more % 2 ≡ bits % 2 =
    sym (bit_at_lowest more) ∙ others 0 (λ e. omega (arith, e)) ∙ bit_at_lowest bits in
    let rest = known-set (bits / 2) (more / 2) k line numbers (omega arith)
    (sym (bit_at-suc more k) ∙ here)
    (λ i ne. sym (bit_at-suc more i)
    ∙ others (suc i) (λ e. ne (omega (arith, e))) ∙ bit_at-suc bits i) in
    λ i. (if same i == 1 then Some number else None) ∷ rest i

line_numbers-set : (k line : ℕ) (lines : List (Option ℕ))
    → line_numbers (set lines k (Some line)) ≡ set (line_numbers lines) k line
line_numbers-set zero line [] = refl
line_numbers-set (suc k) line [] = refl
line_numbers-set zero line (None ∷ lines) = refl
line_numbers-set zero line (Some other ∷ lines) = refl
line_numbers-set (suc k) line (None ∷ lines) =
    ap (λ numbers. 0 ∷ numbers) (line_numbers-set k line lines)
line_numbers-set (suc k) line (Some other ∷ lines) =
    ap (λ numbers. other ∷ numbers) (line_numbers-set k line lines)

-- the bits of `push`
abbrev pub with_bit : ℕ → ℕ → ℕ
with_bit bits thread = bit_or bits (1 * 2 ^ thread % 2 ^ 64)

known-with : (bits thread line : ℕ) (numbers : List ℕ) → thread < 64 → length numbers ≡ 64
    → known_lines (with_bit bits thread) (set numbers thread line)
    ≡ set (known_lines bits numbers) thread (Some line)
known-with bits thread line numbers few long =
    known-set bits (with_bit bits thread) thread line numbers (omega arith)
    (bit_at_set_same w64 bits thread few) (bit_at_set_other w64 bits thread few)

pub AreKnown-with : (bits thread line : ℕ) (numbers : List ℕ) → thread < 64
    → AreKnown bits numbers → AreKnown (with_bit bits thread) (set numbers thread line)
AreKnown-with bits thread line numbers few known = record {
  long = length-set numbers thread line ∙ known.long;
  narrow = or_lt 64 bits (1 * 2 ^ thread % 2 ^ 64) known.narrow
      (mod_below (1 * 2 ^ thread) (2 ^ 64) (lit< tt));
  zeros = ap (λ lines. line_numbers lines) (known-with bits thread line numbers few known.long)
      ∙ line_numbers-set thread line (known_lines bits numbers)
      ∙ ap (λ others. set others thread line) known.zeros;
}

pub places-with : (bits thread line : ℕ) (numbers : List ℕ) (places : List (ℕ × ℕ)) → thread < 64
    → AreKnown bits numbers → places_from 0 (known_lines bits numbers) ≡ places
    → All (λ (place : ℕ × ℕ). place.0 < thread) places
    → places_from 0 (known_lines (with_bit bits thread) (set numbers thread line))
    ≡ places ++ (thread, line) ∷ []
places-with bits thread line numbers places few known view below =
    ap (λ lines. places_from 0 lines) (known-with bits thread line numbers few known.long)
    ∙ places-push thread line (known_lines bits numbers) places few
    (length-known bits numbers ∙ known.long) view below

-- what `get` answers
module _ (bits thread : ℕ) (numbers : List ℕ) (places : List (ℕ × ℕ))
    (few : thread < length numbers) (view : places_from 0 (known_lines bits numbers) ≡ places) where
  by_bit : (if bit_at bits thread == 1 then Some (get_or numbers thread 0) else None)
      ≡ line_of_thread thread places
  by_bit =
      rw (← view) (sym (get_or-known bits thread numbers few)
      ∙ line_of_thread-places thread 0 thread (known_lines bits numbers) (omega arith))

  pub line_of_thread-set : bit_and (bits / 2 ^ thread) 1 ≡ 1
      → Some (get_or numbers thread 0) ≡ line_of_thread thread places
  line_of_thread-set one =
      let is : (bit_at bits thread == 1) ≡ true =
      (unsigned_Decides (bit_at bits thread) 1).1 (sym (shr_and_one bits thread) ∙ one) in
      rw is at by_bit

  pub line_of_thread-clear : bit_and (bits / 2 ^ thread) 1 ≢ 1 → None ≡ line_of_thread thread places
  line_of_thread-clear other =
      elim (eqb_tells (bit_at bits thread) 1) [
        | inl h ↦ absurd (other (shr_and_one bits thread ∙ h.1))
        | inr h ↦ let not : (bit_at bits thread == 1) ≡ false = h.0 in rw not at by_bit
      ]

module _ (bits : ℕ) (numbers : List ℕ) (places : List (ℕ × ℕ)) (known : AreKnown bits numbers)
    (view : places_from 0 (known_lines bits numbers) ≡ places) where
  bits-are : line_bits (lines_from 0 64 places) ≡ bits
  bits-are =
      ap (λ shown. line_bits (lines_from 0 64 shown)) (sym view) ∙ bits-back bits numbers known

  numbers-are : line_numbers (lines_from 0 64 places) ≡ numbers
  numbers-are =
      ap (λ shown. line_numbers (lines_from 0 64 shown)) (sym view)
      ∙ numbers-back bits numbers known

  -- what `hash` feeds
  pub fed-known : u64 bits ++ slice u32 numbers
      ≡ u64 (line_bits (lines_from 0 64 places))
      ++ slice u32 (line_numbers (lines_from 0 64 places))
  fed-known = λ i. u64 (sym bits-are i) ++ slice u32 (sym numbers-are i)

  -- a thread's line is told in rising order
  pub AreRising-known : AreRising places
  AreRising-known =
      AreRising-places (known_lines bits numbers) places (length-known bits numbers ∙ known.long)
      view

-- two values, with their bits, their numbers and their places
module _ (a b : ℕ) (us vs : List ℕ) (x y : List (ℕ × ℕ)) (known_a : AreKnown a us)
    (known_b : AreKnown b vs) (view_a : places_from 0 (known_lines a us) ≡ x)
    (view_b : places_from 0 (known_lines b vs) ≡ y) where
  to_places : (a ≡ b) × (us ≡ vs) → x ≡ y
  to_places e = sym view_a ∙ (λ i. places_from 0 (known_lines (e.0 i) (e.1 i))) ∙ view_b

  to_known : x ≡ y → (a ≡ b) × (us ≡ vs)
  to_known e = (
    sym (bits-are a us x known_a view_a)
        ∙ ap (λ places. line_bits (lines_from 0 64 places)) e ∙ bits-are b vs y known_b view_b,
    sym (numbers-are a us x known_a view_a)
        ∙ ap (λ places. line_numbers (lines_from 0 64 places)) e
        ∙ numbers-are b vs y known_b view_b,
  )

  by_fields : (r : Bool) → Decides r ((a ≡ b) × (us ≡ vs)) → r ≡ same_places x y
  by_fields r says =
      same_from_decides r (same_places x y) (Decides-like r to_places to_known says)
      (same_places-Decides x y)

  -- with the same bits the numbers decide
  pub same_by_numbers : (r : Bool) → a ≡ b → r ≡ pointwise nat_eq us vs → r ≡ same_places x y
  same_by_numbers r same is =
      let numbers : Decides r (us ≡ vs) = rw is (pointwise_decides unsigned_Decides us vs) in
      by_fields r (Decides-like r (λ e. (same, e)) (λ e. e.1) numbers)

  -- and with other bits they aren't looked at
  pub other_by_bits : a ≢ b → (a == b) ≡ same_places x y
  other_by_bits other =
      let bits = unsigned_Decides a b in
      by_fields (a == b) (λ h. absurd (other (bits.0 h)), λ e. bits.1 e.0)
