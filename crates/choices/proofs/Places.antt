-- The order at a place of the list, made from its last thread to its first.
use Rattle.std.specs.Prelude.{◌==◌, slice_index, slice_get, remove, map, reverse}
use Rattle.std.specs.List.{range_with_len}
use Rattle.std.proofs.Common.{◌≡◌, true, false, ℕ, zero, suc, ◌+◌, ◌-◌, ◌*◌, ◌/◌, ◌%◌, ◌<◌, ◌≤◌}
use Rattle.std.proofs.Common.{Some, List, [], ◌∷◌, ◌++◌, length, get_or, refl, sym, ap, subst, ◌∙◌}
use Rattle.std.proofs.Common.{arith, append_assoc, append-nil}
use Rattle.std.proofs.lemmas.Bool.Decides.{nat_tests}
use Rattle.std.proofs.Math.Nat.{div-add-mod, div-lt_iff_lt-mul, mod-lt}
use Rattle.std.proofs.lemmas.List.{length-map, reverse-append, get_or_default}
use Rattle.std.proofs.lemmas.List.Edits.{length-remove}
use Rattle.turn_book.specs.Chances.{threads_below}
use Rattle.choices.specs.Orders.{factorial, orders_ending, orders_by, orders, low_orders}
use Rattle.choices.proofs.laws.Factorials.{some-orders}
use Rattle.choices.proofs.laws.OrderLists.{get-left, get-right, get-map, length-orders_by}
use Rattle.choices.proofs.laws.OrderLists.{length-threads}

-- more threads in a row
pub range-more : (from many : ℕ) → range_with_len from (many + 1)
    ≡ range_with_len from many ++ (from + many) ∷ []
range-more from many =
    ap (range_with_len from) (let e : many + 1 ≡ suc many = omega arith in e) ∙ more from many
  where
    more : (from many : ℕ) → range_with_len from (suc many)
        ≡ range_with_len from many ++ (from + many) ∷ []
    more from zero = ap (λ x. x ∷ []) (let e : from ≡ from + 0 = omega arith in e)
    more from (suc many) =
        ap (λ xs. from ∷ xs) (more (from + 1) many
        ∙ ap (λ x. range_with_len (from + 1) many ++ x ∷ [])
        (let e : from + 1 + many ≡ from + suc many = omega arith in e))

-- the threads from the last to the first
abbrev pub back_at : ℕ → List ℕ → ℕ → List ℕ
back_at zero list place = []
back_at (suc n) list place =
    slice_index list (n - place / factorial n)
    ∷ back_at n (remove list (n - place / factorial n)) (place % factorial n)

get-ending : (others : List ℕ → List (List ℕ)) (list : List ℕ) (many : ℕ)
    → ((p : ℕ) → p < length list → length (others (remove list p)) ≡ many)
    → (p i b r : ℕ) (order : List ℕ) → i + b + 1 ≡ p → p ≤ length list → r < many
    → slice_get (others (remove list i)) r ≡ Some order
    → slice_get (orders_ending others list p) (b * many + r)
    ≡ Some (order ++ slice_index list i ∷ [])
get-ending others list many each zero i b r order at within low is = absurd (omega arith)
get-ending others list many each (suc q) i zero r order at within low is =
    let P : ℕ → Type 0 = λ z. slice_get (orders_ending others list (suc z)) (zero * many + r)
    ≡ Some (order ++ slice_index list i ∷ []) in
    let block = map (λ o. o ++ slice_index list i ∷ []) (others (remove list i)) in
    let long : length block ≡ many = length-map (others (remove list i))
    (λ o. o ++ slice_index list i ∷ []) ∙ each i (omega arith) in
    let here : zero * many + r ≡ r = omega arith in
    subst P (let e : i ≡ q = omega arith in e)
    (ap (slice_get (orders_ending others list (suc i))) here
    ∙ (get-left block (orders_ending others list i) r (omega (arith, long))
    ∙ get-map (λ o. o ++ slice_index list i ∷ []) (others (remove list i)) r order is))
get-ending others list many each (suc q) i (suc b) r order at within low is =
    let block = map (λ o. o ++ slice_index list q ∷ []) (others (remove list q)) in
    let long : length block ≡ many = length-map (others (remove list q))
    (λ o. o ++ slice_index list q ∷ []) ∙ each q (omega arith) in
    let product : suc b * many + r ≡ many + (b * many + r) = grind arith in
    let moved : suc b * many + r ≡ length block + (b * many + r) = omega (arith, product, long) in
    ap (slice_get (orders_ending others list (suc q))) moved
    ∙ (get-right block (orders_ending others list q) (b * many + r)
    ∙ get-ending others list many each q i b r order (omega arith) (omega arith) low is)

pub block-low : (n place : ℕ) → place < factorial (suc n) → place / factorial n < suc n
block-low n place within = (div-lt_iff_lt-mul (some-orders n)).1 within

pub get-back : (n : ℕ) (list : List ℕ) (place : ℕ) → length list ≡ n → place < factorial n
    → slice_get (orders_by n list) place ≡ Some (reverse (back_at n list place))
get-back zero list place long within =
    ap (slice_get ([] ∷ [])) (let e : place ≡ 0 = omega arith in e)
get-back (suc n) list place long within =
    let many = factorial n in
    let b = place / many in
    let r = place % many in
    let i = n - b in
    let low : b < suc n = block-low n place within in
    let inside : i < length list = omega arith in
    let shorter : length (remove list i) ≡ n = omega (arith, length-remove list i inside) in
    let rest = get-back n (remove list i) r shorter (mod-lt place (some-orders n)) in
    let whole : place ≡ b * many + r =
    (let parts : many * b + r ≡ place = div-add-mod place many in
    let turned : many * b ≡ b * many = grind arith in omega (arith, parts, turned)) in
    ap (slice_get (orders_by (suc n) list)) whole
    ∙ (get-ending (orders_by n) list many
    (λ p inner. length-orders_by n (remove list p) (omega (arith, length-remove list p inner)))
    (suc n) i b r (reverse (back_at n (remove list i) r)) (omega arith) (omega arith)
    (mod-lt place (some-orders n)) rest
    ∙ ap (λ o. Some o) (sym (reverse-append (slice_index list i ∷ [])
    (back_at n (remove list i) r))))

-- ---- as it is made

-- one thread more
pub back-step : (left : List ℕ) (n place t : ℕ) (order : List ℕ) → length left ≡ suc n
    → slice_index left (n - place / factorial n) ≡ t
    → (order ++ t ∷ []) ++ back_at n (remove left (n - place / factorial n)) (place % factorial n)
    ≡ order ++ back_at (length left) left place
back-step left n place t order long at =
    let P : ℕ → Type 0 = λ m. (order ++ t ∷ [])
    ++ back_at n (remove left (n - place / factorial n)) (place % factorial n)
    ≡ order ++ back_at m left place in
    subst P (sym long)
    (append_assoc order (t ∷ []) (back_at n (remove left (n - place / factorial n))
    (place % factorial n))
    ∙ ap (λ z. order ++ z ∷ back_at n (remove left (n - place / factorial n)) (place % factorial n))
    (sym at))

-- a thread more, at the place that the block tells
pub back-made : (left after order made whole : List ℕ) (n rest block t : ℕ) → length left ≡ suc n
    → rest < factorial (length left) → block ≡ factorial n → t ≡ get_or left (n - rest / block) t
    → after ≡ remove left (n - rest / block) → made ≡ order ++ t ∷ []
    → order ++ back_at (length left) left rest ≡ whole
    → made ++ back_at (length after) after (rest % block) ≡ whole
back-made left after order made whole n rest block t long within is value shorter pushed so_far =
    let F : ℕ → Type 0 = λ b. t ≡ get_or left (n - rest / b) t → after ≡ remove left (n - rest / b)
    → made ++ back_at (length after) after (rest % b) ≡ whole in
    let G : ℕ → Type 0 = λ m. rest < factorial m in
    let low = block-low n rest (subst G long within) in
    let at : n - rest / factorial n < length left = omega arith in
    let by : F (factorial n) = λ v a.
    let same : slice_index left (n - rest / factorial n) ≡ t =
    get_or_default left (n - rest / factorial n) 0 t at ∙ sym v in
    let few : length after ≡ n = omega
    (arith, ap length a, length-remove left (n - rest / factorial n) at) in
    ap (λ m. m ++ back_at (length after) after (rest % factorial n)) pushed
    ∙ ap (λ m. (order ++ t ∷ []) ++ back_at m after (rest % factorial n)) few
    ∙ ap (λ l. (order ++ t ∷ []) ++ back_at n l (rest % factorial n)) a
    ∙ (back-step left n rest t order long same ∙ so_far) in
    subst F (sym is) by value shorter

-- the block of the thread that is next is among those that are left
pub block-within : (left : List ℕ) (n rest block : ℕ) → length left ≡ suc n
    → rest < factorial (length left) → block ≡ factorial n → rest / block ≤ n
block-within left n rest block long within is =
    let G : ℕ → Type 0 = λ m. rest < factorial m in
    let B : ℕ → Type 0 = λ b. rest / b ≤ n in
    subst B (sym is) (let low = block-low n rest (subst G long within) in omega arith)

pub rest-within : (after : List ℕ) (n rest block : ℕ) → length after ≡ n → block ≡ factorial n
    → rest % block < factorial (length after)
rest-within after n rest block few is =
    let B : ℕ → Type 0 = λ b. rest % b < factorial (length after) in
    let L : ℕ → Type 0 = λ m. rest % factorial n < factorial m in
    subst B (sym is) (subst L (sym few) (mod-lt rest (some-orders n)))

-- all threads stand
pub order-there : (list left order turned : List ℕ) (place rest : ℕ)
    → place < factorial (length list) → length left ≡ 0
    → order ++ back_at (length left) left rest ≡ back_at (length list) list place
    → turned ≡ reverse order → slice_get (orders list) place ≡ Some turned
order-there list [] order turned place rest within none made is =
    get-back (length list) list place refl within
    ∙ ap (λ o. Some o) (ap reverse (sym made ∙ append-nil order) ∙ sym is)
order-there list (x ∷ left) order turned place rest within none made is = absurd (omega arith)

pub some-left : (n : ℕ) → (n == 0) ≡ false → 1 ≤ n
some-left n test = grind (arith, nat_tests)

pub none-left : (n : ℕ) → (n == 0) ≡ true → n ≡ 0
none-left n test = grind (arith, nat_tests)

-- ---- the orders that place a thread last

pub others-left : (threads low : ℕ) (all left : List ℕ) → low < threads
    → all ≡ threads_below threads → left ≡ remove all low → length left ≡ threads - 1
others-left threads low all left within is shorter =
    omega (
      arith,
      ap length shorter,
      ap length is,
      length-threads threads,
      length-remove all low (omega (arith, ap length is, length-threads threads)),
    )

pub low-there : (threads low place : ℕ) (all left order pushed : List ℕ)
    → all ≡ threads_below threads → left ≡ remove all low
    → slice_get (orders left) place ≡ Some order → pushed ≡ order ++ low ∷ []
    → slice_get (low_orders threads low) place ≡ Some pushed
low-there threads low place all left order pushed is shorter at made =
    let P : List ℕ → Type 0 = λ l. slice_get (orders l) place ≡ Some order in
    let same : left ≡ remove (threads_below threads) low =
    shorter ∙ ap (λ l. remove l low) is in
    get-map (λ o. o ++ low ∷ []) (orders (remove (threads_below threads) low)) place order
    (subst P same at)
    ∙ ap (λ o. Some o) (sym made)
