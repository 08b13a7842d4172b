-- Orders of n threads, and the list of places of each.
use Rattle.std.specs.Prelude.{◌≡◌, ℕ, ◌-◌, ◌<◌, nat_lt, List, [], ◌∷◌, length, slice_index, remove}
use Rattle.std.specs.List.{count_by, range_with_len}

-- the threads as they are declared
abbrev pub declared_order : ℕ → List ℕ
declared_order threads = range_with_len 0 threads

-- places, from 0, with the bounds n, n-1, .., 1
pub record AreInBounds (threads : ℕ) (places : List ℕ) : Type 0 where
  pub whole : length places ≡ threads
  pub within : (draw : ℕ) → draw < threads → slice_index places draw < threads - draw

-- threads taken out of a list one by one, each by its place in what remains
abbrev pub taken_from : List ℕ → List ℕ → List ℕ
taken_from remaining [] = []
taken_from remaining (place ∷ places) =
    slice_index remaining place ∷ taken_from (remove remaining place) places

-- The order of a list of places: the threads as they are taken out of the declared list, the
-- highest priority first (this project).
unfoldable pub order_of : List ℕ → List ℕ
order_of places = taken_from (declared_order (length places)) places

-- The places of an order: for each thread, how many that come after it in the order are declared
-- before it (the Lehmer code of a permutation).
abbrev pub places_of : List ℕ → List ℕ
places_of [] = []
places_of (thread ∷ order) = count_by (λ other. nat_lt other thread) order ∷ places_of order

-- the one list of places in bounds whose order is this
pub record AreOnlyPlaces (threads : ℕ) (order places : List ℕ) : Type 0 where
  pub bounds : AreInBounds threads places
  pub gives : order_of places ≡ order
  pub only : (others : List ℕ) → AreInBounds threads others → order_of others ≡ order
      → others ≡ places
