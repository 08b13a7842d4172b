-- Threads, each with a line of the test (this project): those of a run in which nobody can go on.
use Rattle.std.specs.Prelude.{◌≡◌, ℕ, ◌+◌, ◌*◌, ◌/◌, ◌%◌, ◌^◌, ◌<◌, ◌==◌, ◌&&◌, Bool}
use Rattle.std.specs.Prelude.{if◌then◌else◌, Option, Some, None, List, [], ◌∷◌, length, map, All}
use Rattle.std.specs.Prelude.{zero, suc}
use Rattle.std.specs.List.Sorted.{IsStrictlyIncreasing}
use Rattle.std.specs.Cmp.Lexicographic.{pointwise}
use Rattle.pct_ask.specs.declared.limits.TheConstants.{MAX_THREADS}

-- in rising order of threads, which are at most 64
pub record AreRising (places : List (ℕ × ℕ)) : Type 0 where
  pub rising : IsStrictlyIncreasing (map (λ place. place.0) places)
  pub few : All (λ place. place.0 < MAX_THREADS) places

-- a thread's line
abbrev pub line_of_thread : ℕ → List (ℕ × ℕ) → Option ℕ
line_of_thread thread [] = None
line_of_thread thread (place ∷ places) =
    if place.0 == thread then Some place.1 else line_of_thread thread places

-- the places of threads that are numbered from a first one on, each with a line or none
abbrev pub places_from : ℕ → List (Option ℕ) → List (ℕ × ℕ)
places_from thread [] = []
places_from thread (None ∷ lines) = places_from (thread + 1) lines
places_from thread (Some line ∷ lines) = (thread, line) ∷ places_from (thread + 1) lines

-- back: so many lines from a first thread on
abbrev pub lines_from : ℕ → ℕ → List (ℕ × ℕ) → List (Option ℕ)
lines_from thread zero places = []
lines_from thread (suc n) [] = None ∷ lines_from (thread + 1) n []
lines_from thread (suc n) (place ∷ places) =
    if place.0 == thread then Some place.1 ∷ lines_from (thread + 1) n places
    else None ∷ lines_from (thread + 1) n (place ∷ places)

-- so many numbers under as many bits: each is a line where its bit, from the lowest on, is set
abbrev pub known_lines : ℕ → List ℕ → List (Option ℕ)
known_lines bits [] = []
known_lines bits (number ∷ numbers) =
    (if bits % 2 == 1 then Some number else None) ∷ known_lines (bits / 2) numbers

-- back: the bits of those that are lines
abbrev pub line_bits : List (Option ℕ) → ℕ
line_bits [] = 0
line_bits (None ∷ lines) = 2 * line_bits lines
line_bits (Some line ∷ lines) = 2 * line_bits lines + 1

-- and the numbers, with 0 for each that is no line
abbrev pub line_numbers : List (Option ℕ) → List ℕ
line_numbers [] = []
line_numbers (None ∷ lines) = 0 ∷ line_numbers lines
line_numbers (Some line ∷ lines) = line ∷ line_numbers lines

-- a number for each of 64 threads under 64 bits, with 0 wherever the bit isn't set
pub record AreKnown (bits : ℕ) (numbers : List ℕ) : Type 0 where
  pub long : length numbers ≡ MAX_THREADS
  pub narrow : bits < 2 ^ 64
  pub zeros : line_numbers (known_lines bits numbers) ≡ numbers

-- whether two places have the same thread and the same line
abbrev pub same_place : ℕ × ℕ → ℕ × ℕ → Bool
same_place a b = a.0 == b.0 && a.1 == b.1

-- the same threads, each with the same line
abbrev pub same_places : List (ℕ × ℕ) → List (ℕ × ℕ) → Bool
same_places = pointwise same_place
