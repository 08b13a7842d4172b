-- The listed orders of threads: how many there are, that they are orders, and that each order is
-- listed.
use Rattle.std.specs.Prelude.{slice_index, slice_get, remove, map}
use Rattle.std.specs.List.{All, range_with_len}
use Rattle.std.proofs.Common.{◌≡◌, ◌≢◌, ◌⊎◌, ℕ, zero, suc, ◌+◌, ◌-◌, ◌*◌, ◌<◌, ◌≤◌, Bool, cond, eqb}
use Rattle.std.proofs.Common.{Some, List, [], ◌∷◌, ◌++◌, length, get_or, refl, sym, ap, subst, ◌∙◌}
use Rattle.std.proofs.Common.{inl, inr, arith, eq-eqb, ne_eqb}
use Rattle.std.proofs.lemmas.Bool.{cases_eq, cases_lt}
use Rattle.std.proofs.lemmas.List.{length-append, length-map}
use Rattle.std.proofs.lemmas.List.Edits.{length-remove}
use Rattle.std.proofs.lemmas.List.Elements.{All-nil, All-cons, All-append, All-map}
use Rattle.rank_now.specs.Order.{IsOrder}
use Rattle.turn_book.specs.Chances.{threads_below}
use Rattle.choices.specs.Orders.{factorial, orders_ending, orders_by, orders, low_orders, EndsIn}

-- ---- how many there are

length-ending : (others : List ℕ → List (List ℕ)) (list : List ℕ) (many place : ℕ)
    → ((p : ℕ) → p < length list → length (others (remove list p)) ≡ many) → place ≤ length list
    → length (orders_ending others list place) ≡ place * many
length-ending others list many zero each within = let e : 0 * many ≡ 0 = omega arith in sym e
length-ending others list many (suc p) each within =
    let block = each p (omega arith) in
    let rest = length-ending others list many p each (omega arith) in
    let mapped = length-map (others (remove list p)) (λ order. order ++ slice_index list p ∷ []) in
    let sum = length-append (map (λ order. order ++ slice_index list p ∷ [])
    (others (remove list p))) (orders_ending others list p) in
    let product : suc p * many ≡ many + p * many = grind arith in
    omega (arith, sum, mapped, block, rest, product)

pub length-orders_by : (n : ℕ) (list : List ℕ) → length list ≡ n
    → length (orders_by n list) ≡ factorial n
length-orders_by zero list long = refl
length-orders_by (suc n) list long =
    length-ending (orders_by n) list (factorial n) (suc n)
    (λ p within. length-orders_by n (remove list p)
    (omega (arith, length-remove list p within))) (omega arith)

-- ---- the same threads, each as often

abbrev one : Bool → ℕ
one b = cond b 1 0

-- how often a thread is in a list
abbrev pub count : ℕ → List ℕ → ℕ
count x [] = 0
count x (y ∷ ys) = one (eqb y x) + count x ys

abbrev pub SameThreads : List ℕ → List ℕ → Type 0
SameThreads xs ys = (x : ℕ) → count x xs ≡ count x ys

count-append : (x : ℕ) (xs ys : List ℕ) → count x (xs ++ ys) ≡ count x xs + count x ys
count-append x [] ys = omega arith
count-append x (y ∷ xs) ys = omega (arith, count-append x xs ys)

count-remove : (x : ℕ) (list : List ℕ) (p : ℕ) → p < length list
    → count x list ≡ count x (remove list p) + one (eqb (slice_index list p) x)
count-remove x [] p within = absurd (omega arith)
count-remove x (y ∷ ys) zero within = omega arith
count-remove x (y ∷ ys) (suc p) within = omega (arith, count-remove x ys p (omega arith))

count-last : (x : ℕ) (front : List ℕ) (t : ℕ)
    → count x (front ++ t ∷ []) ≡ count x front + one (eqb t x)
count-last x front t = omega (arith, count-append x front (t ∷ []))

one-same : (x : ℕ) → one (eqb x x) ≡ 1
one-same x = ap one (eq-eqb x x refl)

one-other : (x y : ℕ) → x ≢ y → one (eqb x y) ≡ 0
one-other x y apart = ap one (ne_eqb x y apart)

count-index : (list : List ℕ) (k : ℕ) → k < length list → 1 ≤ count (slice_index list k) list
count-index [] k within = absurd (omega arith)
count-index (y ∷ ys) zero within = omega (arith, one-same y)
count-index (y ∷ ys) (suc k) within = omega (arith, count-index ys k (omega arith))

count-twice : (list : List ℕ) (i j : ℕ) → i < j → j < length list
    → slice_index list i ≡ slice_index list j → 2 ≤ count (slice_index list i) list
count-twice [] i j less within same = absurd (omega arith)
count-twice (y ∷ ys) i zero less within same = absurd (omega arith)
count-twice (y ∷ ys) zero (suc j) less within same =
    let later = count-index ys j (omega arith) in
    let moved : 1 ≤ count y ys = (let P : ℕ → Type 0 = λ z. 1 ≤ count z ys in
    subst P (sym same) later) in
    omega (arith, moved, one-same y)
count-twice (y ∷ ys) (suc i) (suc j) less within same =
    omega (arith, count-twice ys i j (omega arith) (omega arith) same)

-- where a thread that is there stands
found : (x : ℕ) (list : List ℕ) → 1 ≤ count x list
    → (k : ℕ) × (k < length list) × (slice_index list k ≡ x)
found x [] some = absurd (omega arith)
found x (y ∷ ys) some = elim (cases_eq y x) [
  | inl same ↦ (0, omega arith, same)
  | inr apart ↦ let rest = found x ys (omega (arith, one-other y x apart)) in
      (suc rest.0, omega (arith, rest.1), rest.2)
]

-- a thread that is there twice stands at two places
twice : (x : ℕ) (list : List ℕ) → 2 ≤ count x list
    → (i : ℕ) × (j : ℕ) × (i < j) × (j < length list) × (slice_index list i ≡ x)
    × (slice_index list j ≡ x)
twice x [] some = absurd (omega arith)
twice x (y ∷ ys) some = elim (cases_eq y x) [
  | inl same ↦ let rest = found x ys (omega (arith, ap (λ z. one (eqb z x)) same, one-same x)) in
      (0, suc rest.0, omega arith, omega (arith, rest.1), same, rest.2)
  | inr apart ↦ let rest = twice x ys (omega (arith, one-other y x apart)) in
      (suc rest.0, suc rest.1, omega (arith, rest.2), omega (arith, rest.3), rest.4, rest.5)
]

-- ---- the declared threads

count-range-out : (x from many : ℕ) → (x < from) ⊎ (from + many ≤ x)
    → count x (range_with_len from many) ≡ 0
count-range-out x from zero out = refl
count-range-out x from (suc many) out =
    let here = one-other from x (λ e.
    elim out [ inl low ↦ omega arith | inr high ↦ omega arith ]) in
    let rest = count-range-out x (from + 1) many
    (elim out [ inl low ↦ inl (omega arith) | inr high ↦ inr (omega arith) ]) in
    omega (arith, here, rest)

count-range-in : (x from many : ℕ) → from ≤ x → x < from + many
    → count x (range_with_len from many) ≡ 1
count-range-in x from zero low high = absurd (omega arith)
count-range-in x from (suc many) low high = elim (cases_eq from x) [
  | inl same ↦ omega (
    arith,
    ap (λ z. one (eqb z x)) same,
    one-same x,
    count-range-out x (from + 1) many (inl (omega arith)),
  )
  | inr apart ↦ omega (
    arith,
    one-other from x apart,
    count-range-in x (from + 1) many (omega arith) (omega arith),
  )
]

pub range-at : (from many k : ℕ) → k < many → slice_index (range_with_len from many) k ≡ from + k
range-at from zero k within = absurd (omega arith)
range-at from (suc many) zero within = omega arith
range-at from (suc many) (suc k) within = omega (arith, range-at (from + 1) many k (omega arith))

length-range : (from many : ℕ) → length (range_with_len from many) ≡ many
length-range from zero = refl
length-range from (suc many) = omega (arith, length-range (from + 1) many)

pub thread-at : (threads low : ℕ) → low < threads → slice_index (threads_below threads) low ≡ low
thread-at threads low within = omega (arith, range-at 0 threads low within)

pub length-threads : (threads : ℕ) → length (threads_below threads) ≡ threads
length-threads threads = length-range 0 threads

-- a list with the same threads as the declared ones is an order of them
pub same-order : (threads : ℕ) (order : List ℕ) → length order ≡ threads
    → SameThreads order (threads_below threads) → IsOrder order
same-order threads order long same = record {
  below = λ place within. below place within (cases_lt (slice_index order place) threads);
  once = λ first second less within equal.
      let two = count-twice order first second less within equal in
      let in_range = below first (omega arith) (cases_lt (slice_index order first) threads) in
      omega (
        arith,
        two,
        same (slice_index order first),
        count-range-in (slice_index order first) 0 threads (omega arith)
            (omega (arith, in_range)),
      );
  all = λ thread within.
      let at = found thread order (omega
      (arith, same thread, count-range-in thread 0 threads (omega arith) (omega arith))) in
      (at.0, at.1, index_default order at.0 thread at.1 ∙ at.2);
}
  where
    below : (place : ℕ) → place < length order
        → (slice_index order place < threads) ⊎ (threads ≤ slice_index order place)
        → slice_index order place < length order
    below place within (inl low) = omega arith
    below place within (inr high) =
        absurd (omega (
          arith,
          count-index order place within,
          same (slice_index order place),
          count-range-out (slice_index order place) 0 threads (inr (omega arith)),
        ))

    index_default : (list : List ℕ) (k d : ℕ) → k < length list
        → get_or list k d ≡ slice_index list k
    index_default [] k d within = absurd (omega arith)
    index_default (y ∷ ys) zero d within = refl
    index_default (y ∷ ys) (suc k) d within = index_default ys k d (omega arith)

-- and an order has the same threads as the declared ones
pub order-same : (threads : ℕ) (order : List ℕ) → length order ≡ threads → IsOrder order
    → SameThreads order (threads_below threads)
order-same threads order long is x = elim (cases_lt x threads) [
  | inl low ↦
      let at = is.all x (omega arith) in
      let there = count-index order at.0 at.1 in
      let here : slice_index order at.0 ≡ x = sym (index_default order at.0 x at.1) ∙ at.2 in
      let some : 1 ≤ count x order = (let P : ℕ → Type 0 = λ z. 1 ≤ count z order in
      subst P here there) in
      elim (cases_lt (count x order) 2) [
        | inl few ↦ omega (arith, some, few, count-range-in x 0 threads (omega arith) (omega arith))
        | inr many ↦ absurd (let t = twice x order many in is.once t.0 t.1 t.2 t.3 (t.4 ∙ sym t.5))
      ]
  | inr high ↦ elim (cases_lt 0 (count x order)) [
    | inl some ↦ absurd (let at = found x order (omega arith) in let b = is.below at.0 at.1 in
        omega (arith, b, at.2))
    | inr none ↦ omega (arith, none, count-range-out x 0 threads (inr (omega arith)))
  ]
]
  where
    index_default : (list : List ℕ) (k d : ℕ) → k < length list
        → get_or list k d ≡ slice_index list k
    index_default [] k d within = absurd (omega arith)
    index_default (y ∷ ys) zero d within = refl
    index_default (y ∷ ys) (suc k) d within = index_default ys k d (omega arith)

-- ---- each listed order has the list's threads

pub record Arranges (list order : List ℕ) : Type 0 where
  pub long : length order ≡ length list
  pub same : SameThreads order list

arranges-last : (list front : List ℕ) (p : ℕ) → p < length list → Arranges (remove list p) front
    → Arranges list (front ++ slice_index list p ∷ [])
arranges-last list front p within is = record {
  long =
      omega (
        arith,
        length-append front (slice_index list p ∷ []),
        is.long,
        length-remove list p within,
      );
  same =
      λ x. omega (
        arith,
        count-last x front (slice_index list p),
        is.same x,
        count-remove x list p within,
      );
}

ending-all : (others : List ℕ → List (List ℕ)) (list : List ℕ) (place : ℕ)
    → ((p : ℕ) → p < length list → All (Arranges (remove list p)) (others (remove list p)))
    → place ≤ length list → All (Arranges list) (orders_ending others list place)
ending-all others list zero each within = All-nil (Arranges list)
ending-all others list (suc p) each within =
    All-append (Arranges list) (map (λ order. order ++ slice_index list p ∷ [])
    (others (remove list p))) (orders_ending others list p)
    (All-map (Arranges list) (λ order. order ++ slice_index list p ∷ []) (others (remove list p))
    (λ k d inside. arranges-last list (get_or (others (remove list p)) k d) p (omega arith)
    (each p (omega arith) k d inside)))
    (ending-all others list p each (omega arith))

pub orders-all : (n : ℕ) (list : List ℕ) → length list ≡ n → All (Arranges list) (orders_by n list)
orders-all zero [] long =
    All-cons (Arranges []) [] [] (record { long = refl; same = λ x. refl }) (All-nil (Arranges []))
orders-all zero (x ∷ xs) long = absurd (omega arith)
orders-all (suc n) list long =
    ending-all (orders_by n) list (suc n)
    (λ p within. orders-all n (remove list p) (omega (arith, length-remove list p within)))
    (omega arith)

-- ---- and each such order is listed

abbrev pub IsListed : List (List ℕ) → List ℕ → Type 0
IsListed lists order = (k : ℕ) × (k < length lists) × (slice_get lists k ≡ Some order)

pub get-left : {X : Type 0} (a b : List X) (k : ℕ) → k < length a
    → slice_get (a ++ b) k ≡ slice_get a k
get-left [] b k within = absurd (omega arith)
get-left (x ∷ a) b zero within = refl
get-left (x ∷ a) b (suc k) within = get-left a b k (omega arith)

pub get-right : {X : Type 0} (a b : List X) (k : ℕ)
    → slice_get (a ++ b) (length a + k) ≡ slice_get b k
get-right [] b k = ap (slice_get b) (let e : 0 + k ≡ k = omega arith in e)
get-right (x ∷ a) b k =
    ap (slice_get (x ∷ (a ++ b))) (let e : suc (length a) + k ≡ suc (length a + k) = omega arith in
    e) ∙ get-right a b k

pub get-map : {X Y : Type 0} (f : X → Y) (xs : List X) (k : ℕ) (x : X) → slice_get xs k ≡ Some x
    → slice_get (map f xs) k ≡ Some (f x)
get-map f [] k x is = absurd cc
get-map f (y ∷ xs) zero x is = ap (λ z. Some (f z)) (let same : y ≡ x = cc in same)
get-map f (y ∷ xs) (suc k) x is = get-map f xs k x is

listed-in : (others : List ℕ → List (List ℕ)) (list front : List ℕ) (p place : ℕ) → p < place
    → IsListed (others (remove list p)) front
    → IsListed (orders_ending others list place) (front ++ slice_index list p ∷ [])
listed-in others list front p zero less is = absurd (omega arith)
listed-in others list front p (suc q) less is = elim (cases_eq p q) [
  | inl same ↦ here q same
  | inr apart ↦
      let rest = listed-in others list front p q (omega arith) is in
      let block = map (λ order. order ++ slice_index list q ∷ []) (others (remove list q)) in (
        length block + rest.0,
        omega (
          arith,
          rest.1,
          length-append block (orders_ending others list q),
        ),
        get-right block (orders_ending others list q) rest.0 ∙ rest.2,
      )
]
  where
    here : (q : ℕ) → p ≡ q → IsListed (orders_ending others list (suc q))
        (front ++ slice_index list p ∷ [])
    here q same =
        let P : ℕ → Type 0 = λ z. IsListed (orders_ending others list (suc z))
        (front ++ slice_index list p ∷ []) in
        let block = map (λ order. order ++ slice_index list p ∷ []) (others (remove list p)) in
        let inside : is.0 < length block =
        omega (
          arith,
          is.1,
          length-map (others (remove list p))
              (λ order. order ++ slice_index list p ∷ []),
        ) in
        subst P same (
          is.0,
          omega (
            arith,
            inside,
            length-append block (orders_ending others list p),
          ),
          get-left block (orders_ending others list p) is.0 inside
              ∙ get-map (λ order. order ++ slice_index list p ∷ []) (others (remove list p)) is.0
              front is.2,
        )

-- a list that isn't empty has a last item
split-last : (order : List ℕ) (n : ℕ) → length order ≡ suc n
    → (front : List ℕ) × (t : ℕ) × (order ≡ front ++ t ∷ []) × (length front ≡ n)
split-last [] n long = absurd (omega arith)
split-last (x ∷ []) n long = ([], x, refl, omega arith)
split-last (x ∷ y ∷ rest) zero long = absurd (omega arith)
split-last (x ∷ y ∷ rest) (suc n) long =
    let more = split-last (y ∷ rest) n (omega arith) in
    (x ∷ more.0, more.1, ap (λ l. x ∷ l) more.2, omega (arith, more.3))

front-same : (list order front : List ℕ) (t p : ℕ) → p < length list → slice_index list p ≡ t
    → order ≡ front ++ t ∷ [] → SameThreads order list → SameThreads front (remove list p)
front-same list order front t p within at is same x =
    omega (
      arith,
      ap (count x) is,
      count-last x front t,
      count-remove x list p within,
      same x,
      ap (λ z. one (eqb z x)) at,
    )

pub order-listed : (n : ℕ) (list order : List ℕ) → length list ≡ n → Arranges list order
    → IsListed (orders_by n list) order
order-listed zero list [] long is = (0, omega arith, refl)
order-listed zero list (x ∷ order) long is = absurd (omega (arith, is.long))
order-listed (suc n) list order long is =
    let last = split-last order n (omega (arith, is.long)) in
    let t = last.1 in
    let there : 1 ≤ count t order = omega
    (arith, ap (count t) last.2, count-last t last.0 t, one-same t) in
    let at = found t list (omega (arith, there, is.same t)) in
    let front : Arranges (remove list at.0) last.0 = record {
      long = omega (arith, last.3, length-remove list at.0 at.1);
      same = front-same list order last.0 t at.0 at.1 at.2 last.2 is.same;
    } in
    let listed = order-listed n (remove list at.0) last.0
    (omega (arith, length-remove list at.0 at.1)) front in
    let P : List ℕ → Type 0 = IsListed (orders_by (suc n) list) in
    subst P (sym (last.2 ∙ ap (λ z. last.0 ++ z ∷ []) (sym at.2)))
    (listed-in (orders_by n) list last.0 at.0 (suc n) (omega (arith, at.1)) listed)

-- ---- the orders that place a thread last

pub record IsLowOrder (threads low : ℕ) (order : List ℕ) : Type 0 where
  pub is_order : IsOrder order
  pub whole : length order ≡ threads
  pub last : EndsIn order low

low-others : (threads low : ℕ) → low < threads
    → length (remove (threads_below threads) low) + 1 ≡ threads
low-others threads low within =
    omega (
      arith,
      length-remove (threads_below threads) low (omega (arith, length-threads threads)),
      length-threads threads,
    )

low-is-order : (threads low : ℕ) (front : List ℕ) → low < threads
    → Arranges (remove (threads_below threads) low) front
    → IsLowOrder threads low (front ++ low ∷ [])
low-is-order threads low front within is =
    let list = threads_below threads in
    let inside : low < length list = omega (arith, length-threads threads) in
    let whole = arranges-last list front low inside is in
    let at = thread-at threads low within in
    let P : ℕ → Type 0 = λ t. Arranges list (front ++ t ∷ []) in
    let moved = subst P at whole in
    let long : length (front ++ low ∷ []) ≡ threads =
    omega (arith, moved.long, length-threads threads) in
    record {
      is_order = same-order threads (front ++ low ∷ []) long moved.same;
      whole = long;
      last = (front, refl);
    }

-- each of them is an order of the threads with that one last
pub low-orders-all : (threads low : ℕ) → low < threads
    → All (IsLowOrder threads low) (low_orders threads low)
low-orders-all threads low within =
    let rest = remove (threads_below threads) low in
    All-map (IsLowOrder threads low) (λ order. order ++ low ∷ []) (orders rest)
    (λ k d inside. low-is-order threads low (get_or (orders rest) k d) within
    (orders-all (length rest) rest refl k d inside))

-- there are as many as orders of the other threads
pub length-low-orders : (threads low : ℕ) → low < threads
    → length (low_orders threads low) ≡ factorial (threads - 1)
length-low-orders threads low within =
    let rest = remove (threads_below threads) low in
    length-map (orders rest) (λ order. order ++ low ∷ [])
    ∙ (length-orders_by (length rest) rest refl
    ∙ ap factorial (let e : length rest ≡ threads - 1 =
    omega (arith, low-others threads low within) in e))

-- and each such order is among them
pub low-order-listed : (threads low : ℕ) (order : List ℕ) → low < threads
    → IsLowOrder threads low order → IsListed (low_orders threads low) order
low-order-listed threads low order within is =
    let list = threads_below threads in
    let rest = remove list low in
    let inside : low < length list = omega (arith, length-threads threads) in
    let front = is.last.0 in
    let long : length front ≡ length rest =
    omega (
      arith,
      is.whole,
      ap length is.last.1,
      length-append front (low ∷ []),
      low-others threads low within,
    ) in
    let same = front-same list order front low low inside (thread-at threads low within) is.last.1
    (order-same threads order is.whole is.is_order) in
    let at = order-listed (length rest) rest front refl (record { long = long; same = same }) in
    let P : List ℕ → Type 0 = IsListed (low_orders threads low) in
    subst P (sym is.last.1) (
      at.0,
      omega
          (arith, at.1, length-map (orders rest) (λ order. order ++ low ∷ [])),
      get-map (λ o. o ++ low ∷ []) (orders rest) at.0 front at.2,
    )
