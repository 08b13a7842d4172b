-- The places that a seed draws.
use Rattle.std.proofs.Common.{◌≡◌, ℕ, ◌+◌, ◌-◌, ◌*◌, ◌<◌, length, get_or, arith}
use Rattle.std.proofs.lemmas.List.FromFn.{length-map-range_with_len, get_or-map-range_with_len}
use Rattle.priority_draw.specs.Orders.{AreInBounds}
use Rattle.priority_draw.specs.Drawing.{draw, drawn_places}
use Rattle.priority_draw.proofs.WordLemmas.{draw-lt}

-- as many places are drawn as there are threads
pub drawn-length : (seed place threads : ℕ) → length (drawn_places seed place threads) ≡ threads
unfolding drawn_places
drawn-length seed place threads =
    length-map-range_with_len (λ i. draw seed (place + 2 * i) (threads - i)) 0 threads

-- and each is a draw
pub drawn-at : (seed place threads i : ℕ) → i < threads
    → get_or (drawn_places seed place threads) i 0 ≡ draw seed (place + 2 * i) (threads - i)
unfolding drawn_places
drawn-at seed place threads i within =
    get_or-map-range_with_len (λ i. draw seed (place + 2 * i) (threads - i)) 0 threads i i 0 within
    (omega arith)

-- the places that are drawn are in bounds
pub drawn-are : (seed place threads : ℕ) → AreInBounds threads (drawn_places seed place threads)
drawn-are seed place threads = record {
  whole = drawn-length seed place threads;
  within =
      λ i p. omega (
        arith,
        drawn-at seed place threads i p,
        draw-lt seed (place + 2 * i) (threads - i) (omega arith),
      );
}
