-- The orders of some threads, listed (this project).
use Rattle.std.specs.Prelude.{◌≡◌, ℕ, zero, suc, ◌*◌, List, [], ◌∷◌, ◌++◌, length, map, remove}
use Rattle.std.specs.Prelude.{slice_index}
use Rattle.turn_book.specs.Chances.{threads_below}

-- n!, the product of the numbers 1 to n: how many orders n threads have
abbrev pub factorial : ℕ → ℕ
factorial zero = 1
factorial (suc n) = suc n * factorial n

-- Of a list's first threads, as many as the number says, from the last to the first: the orders
-- that end in the thread. They are the orders of the list without it, followed by it.
abbrev pub orders_ending : (List ℕ → List (List ℕ)) → List ℕ → ℕ → List (List ℕ)
orders_ending others list zero = []
orders_ending others list (suc place) =
    map (λ order. order ++ slice_index list place ∷ []) (others (remove list place))
    ++ orders_ending others list place

-- the orders of a list of so many threads: of no threads there is one, which is empty
abbrev pub orders_by : ℕ → List ℕ → List (List ℕ)
orders_by zero list = [] ∷ []
orders_by (suc n) list = orders_ending (orders_by n) list (suc n)

-- all orders of the list's threads: their last thread varies slowest, from the list's last to its
-- first
abbrev pub orders : List ℕ → List (List ℕ)
orders list = orders_by (length list) list

-- The orders that place the thread last: those of the other threads, each followed by it. Each
-- declared thread stands at its own place.
abbrev pub low_orders : ℕ → ℕ → List (List ℕ)
low_orders threads low =
    map (λ order. order ++ low ∷ []) (orders (remove (threads_below threads) low))

-- the order places the thread last
abbrev pub EndsIn : List ℕ → ℕ → Type 0
EndsIn order low = (front : List ℕ) × (order ≡ front ++ low ∷ [])
