-- An order of a script's threads, by their names (this project).
use Rattle.std.specs.Prelude.{◌≡◌, ℕ, List, [], ◌∷◌, length, Option, Some, None, Result, Ok, Err}
use Rattle.std.specs.Option.{option_map, option_and_then}
use Rattle.pct_ask.specs.NameLists.{NameLists, place_of}
use Rattle.rank_now.specs.Order.{IsOrder}
use Rattle.pct_top.specs.declared.refusal.Refusal.{Refusal}
use Rattle.pct_top.specs.declared.refusal.Refusal.TheVariants.{Usage, Memory}

-- the threads that names stand for, where each is a thread's
abbrev pub threads_named : NameLists → List (List ℕ) → Option (List ℕ)
threads_named names [] = Some []
threads_named names (item ∷ items) =
    option_and_then (λ t. option_map (λ ts. t ∷ ts) (threads_named names items))
    (place_of item names.threads)

-- the names list each thread of the script once, and this is their order
pub record NamesAll (names : NameLists) (items : List (List ℕ)) (order : List ℕ) : Type 0 where
  pub named : threads_named names items ≡ Some order
  pub whole : length order ≡ length names.threads
  pub once : IsOrder order

-- where the words give an order, it names each thread once
abbrev pub OrderFits : NameLists → Option (List (List ℕ)) → Type 0
OrderFits names None = Unit {0}
OrderFits names (Some items) = (order : List ℕ) × NamesAll names items order

-- The order is the one that the names give, or their word is refused.
abbrev pub GivesOrder : NameLists → List (List ℕ) → ℕ → Result (List ℕ) Refusal → Type 0
GivesOrder names items word (Ok order) = NamesAll names items order
GivesOrder names items word (Err (Usage n)) =
    (n ≡ word) × ((order : List ℕ) → ¬ NamesAll names items order)
GivesOrder names items word (Err Memory) = Unit {0}
GivesOrder names items word (Err refusal) = ⊥
