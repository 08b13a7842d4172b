-- Every order of the threads is that of exactly one list of places in bounds.
use Rattle.std.proofs.Common.{Bool, true, eqb, eq-eqb, ne_eqb, ◌≡◌, ◌≢◌, ℕ, ◌<◌, ◌≤◌, List, length}
use Rattle.std.proofs.Common.{get_or, refl, sym, ap, subst, ◌∙◌, arith, inl, inr}
use Rattle.std.specs.List.{remove, count_by, Contains}
use Rattle.std.proofs.lemmas.Bool.{cases_lt}
use Rattle.std.proofs.lemmas.List.{get_or_default}
use Rattle.std.proofs.lemmas.List.Edits.{length-remove, get_or-remove_below}
use Rattle.std.proofs.lemmas.List.FromFn.{length-range_with_len, get_or-range_with_len}
use Rattle.rank_now.specs.Order.{IsOrderOf}
use Rattle.priority_draw.specs.Orders.{declared_order, AreInBounds, taken_from, order_of}
use Rattle.priority_draw.specs.Orders.{places_of, AreOnlyPlaces}
use Rattle.priority_draw.proofs.CountLemmas.{one_if, count_of, count-remove, count-none, count-all}
use Rattle.priority_draw.proofs.CountLemmas.{count-some, located, count-once}
use Rattle.priority_draw.proofs.PlaceLemmas.{IsRising, taken-same, places-of-taken, places-are}

long : (threads : ℕ) → length (declared_order threads) ≡ threads
long threads = length-range_with_len 0 threads

at : (threads place : ℕ) → place < threads → get_or (declared_order threads) place 0 ≡ place
at threads place within = omega (arith, get_or-range_with_len 0 threads place 0 within)

rising : (threads : ℕ) → IsRising (declared_order threads)
rising threads i j lt p =
    omega (
      arith,
      long threads,
      at threads i (omega (arith, long threads)),
      at threads j (omega (arith, long threads)),
    )

-- each thread is declared once, and no other number is
declared-once : (threads thread : ℕ) → thread < threads
    → count_of thread (declared_order threads) ≡ 1
declared-once threads thread small =
    count-once thread (declared_order threads) thread (omega (arith, long threads))
    (at threads thread small) (λ i j lt p e. omega (arith, rising threads i j lt p))

declared-none : (threads thread : ℕ) → threads ≤ thread
    → count_of thread (declared_order threads) ≡ 0
declared-none threads thread past =
    count-none (λ y. eqb y thread) (declared_order threads)
    (λ k p. ne_eqb (get_or (declared_order threads) k 0) thread
    (λ e. omega (arith, long threads, at threads k (omega (arith, long threads)))))

-- an order has each thread as often as the declared one
order-counts : (threads : ℕ) (order : List ℕ) → IsOrderOf threads order → (thread : ℕ)
    → count_of thread (declared_order threads) ≡ count_of thread order
order-counts threads order is thread =
    elim (cases_lt thread threads) [
      | inl small ↦
          let w = is.is_order.all thread (omega (arith, small, is.whole)) in
          declared-once threads thread small
          ∙ sym (count-once thread order w.0 w.1 (get_or_default order w.0 0 thread w.1 ∙ w.2)
          (λ i j lt p. is.is_order.once i j lt p))
      | inr past ↦
          declared-none threads thread past
          ∙ sym (count-none (λ y. eqb y thread) order
          (λ k p. ne_eqb (get_or order k 0) thread
          (λ e. omega (arith, is.is_order.below k p, is.whole))))
    ]

order-of-taken : (threads : ℕ) (places : List ℕ) → AreInBounds threads places
    → order_of places ≡ taken_from (declared_order threads) places
unfolding order_of
order-of-taken threads places are = ap (λ n. taken_from (declared_order n) places) are.whole

as-long : (threads : ℕ) (places : List ℕ) → AreInBounds threads places
    → AreInBounds (length (declared_order threads)) places
as-long threads places are = let P : ℕ → Type 0 = λ n. AreInBounds n places in
    subst P (sym (long threads)) are

-- the places of an order are the only ones in bounds that give it
pub only-places : (threads : ℕ) (order : List ℕ) → IsOrderOf threads order
    → AreOnlyPlaces threads order (places_of order)
only-places threads order is =
    let both = places-are order (declared_order threads) (rising threads)
    (is.whole ∙ sym (long threads)) (order-counts threads order is) in
    let P : ℕ → Type 0 = λ n. AreInBounds n (places_of order) in
    let bounds : AreInBounds threads (places_of order) = subst P is.whole both.0 in
    record {
      bounds = bounds;
      gives = order-of-taken threads (places_of order) bounds ∙ both.1;
      only = λ others are gives.
          sym (places-of-taken others (declared_order threads) (rising threads)
          (as-long threads others are))
          ∙ ap (λ xs. places_of xs) (sym (order-of-taken threads others are) ∙ gives);
    }

module _ (threads : ℕ) (order : List ℕ)
    (same : (p : ℕ → Bool) → count_by p order ≡ count_by p (declared_order threads)) where
  whole : length order ≡ threads
  whole =
      sym (count-all order) ∙ same (λ _. true) ∙ count-all (declared_order threads) ∙ long threads

  below : (place : ℕ) → place < threads → get_or order place 0 < threads
  below place within =
      let thread = get_or order place 0 in
      elim (cases_lt thread threads) [
        | inl small ↦ small
        | inr past ↦ omega (
          arith,
          count-some (λ y. eqb y thread) order place (omega (arith, whole))
              (eq-eqb thread thread refl),
          same (λ y. eqb y thread),
          declared-none threads thread past,
        )
      ]

  once : (first second : ℕ) → first < second → second < threads
      → get_or order first 0 ≢ get_or order second 0
  once first second lt within e =
      let thread = get_or order second 0 in
      let in_order : second < length order = omega (arith, whole) in
      let fewer = length-remove order second in_order in
      let one : one_if (eqb thread thread) ≡ 1 = ap (λ b. one_if b) (eq-eqb thread thread refl) in
      let stays = get_or-remove_below order second 0 first lt in_order ∙ e in
      let another = count-some (λ y. eqb y thread) (remove order second) first (omega arith)
      (eq-eqb (get_or (remove order second) first 0) thread stays) in
      omega (
        arith,
        one,
        another,
        count-remove (λ y. eqb y thread) order second in_order,
        same (λ y. eqb y thread),
        declared-once threads thread (below second within),
      )

  all : (thread : ℕ) → thread < threads → Contains order thread
  all thread small =
      let w = located thread order (omega
      (arith, same (λ y. eqb y thread), declared-once threads thread small)) in
      (w.0, w.1, get_or_default order w.0 thread 0 w.1 ∙ w.2)

  is-order : IsOrderOf threads order
  is-order = record {
    whole = whole;
    is_order = record {
      below = λ place within. omega (arith, below place (omega (arith, within, whole)), whole);
      once = λ first second before within. once first second before (omega (arith, within, whole));
      all = λ thread within. all thread (omega (arith, within, whole));
    };
  }

-- places in bounds give an order
pub order-of-is : (threads : ℕ) (places : List ℕ) → AreInBounds threads places
    → IsOrderOf threads (order_of places)
order-of-is threads places are =
    let taken = order-of-taken threads places are in
    is-order threads (order_of places)
    (λ p. ap (λ xs. count_by p xs) taken
    ∙ taken-same p places (declared_order threads) (as-long threads places are))
