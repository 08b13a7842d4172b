-- How long the orders are that place a thread last, and how many.
use Rattle.std.specs.Prelude.{slice_get}
use Rattle.std.proofs.Common.{◌≡◌, ◌<◌, ℕ, List, Some, length, sym, ap, ◌∙◌}
use Rattle.std.proofs.lemmas.List.Elements.{All-get_or}
use Rattle.std.proofs.lemmas.Option.{slice_get_within, get_or_from_slice_get}
use Rattle.choices.specs.Orders.{low_orders}
use Rattle.choices.proofs.laws.OrderLists.{IsLowOrder, low-orders-all}

pub order_long : (threads low place : ℕ) (order : List ℕ) → low < threads
    → slice_get (low_orders threads low) place ≡ Some order → length order ≡ threads
order_long threads low place order within stands =
    let all = low_orders threads low in
    let inside = slice_get_within all place order stands in
    let is = All-get_or (IsLowOrder threads low) all place order inside
    (low-orders-all threads low within) in
    ap length (sym (get_or_from_slice_get all place order order stands)) ∙ is.whole
