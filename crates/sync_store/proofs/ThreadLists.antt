-- Lists of threads: who is on them, and that they never outgrow their room.
use Rattle.std.proofs.Common.{◌≡◌, ℕ, ◌<◌, ◌≤◌, Bool, true, false, not, ◌&&◌, ◌||◌, nat_eq, List}
use Rattle.std.proofs.Common.{[], ◌∷◌, ◌++◌, length, All, slice_index_or, slice_set, replicate}
use Rattle.std.proofs.Common.{refl, sym, ap, subst, ◌∙◌, arith}
use Rattle.std.specs.List.{IsDistinct, range_with_len, AllByRecursion}
use Rattle.std.proofs.lemmas.List.Elements.{All-head, All-tail, All-nil, All-push, All-filter}
use Rattle.std.proofs.lemmas.List.Folds.{list_any-append, list_any_at}
use Rattle.std.proofs.lemmas.Map.Made.{length-le_from_is_member, is_member-filter}
use Rattle.std.proofs.lemmas.Bool.{eqb-true, eq-eqb, and_left, or_parts, cond_both}
use Rattle.std.proofs.lemmas.List.{length_push, get_or-replicate}
use Rattle.std.proofs.lemmas.List.FromFn.{length-range_with_len, get_or-range_with_len}
use Rattle.std.proofs.lemmas.Cmp.{nat_eq_equiv}
use Rattle.std.proofs.lemmas.Bool.Decides.{nat_tests}
use Rattle.std.proofs.lemmas.Grind.{common_steps}
use Rattle.sync_store.specs.Store.{is_on}
use Rattle.sync_store.specs.Effect.{list_without}
use Rattle.sync_store.specs.ThreadList.{IsOnce, IsThreadList}

pub is_on-push : (u t : ℕ) (xs : List ℕ) → is_on u (xs ++ t ∷ []) ≡ (is_on u xs || nat_eq u t)
is_on-push u t xs = grind (arith, list_any-append)

pub once-push : (t : ℕ) (xs : List ℕ) → IsOnce xs → is_on t xs ≡ false → IsOnce (xs ++ t ∷ [])
once-push t [] h e = (refl, tt)
once-push t (x ∷ xs) h e =
    let off : is_on t xs ≡ false = grind arith in
    let other : nat_eq x t ≡ false = grind (arith, nat_tests) in
    let apart : is_on x (xs ++ t ∷ []) ≡ false = is_on-push x t xs ∙ grind arith in
    (apart, once-push t xs h.1 off)

pub is_on-without : (u t : ℕ) (xs : List ℕ)
    → is_on u (list_without t xs) ≡ (is_on u xs && not (nat_eq t u))
is_on-without u t xs =
    is_member-filter nat_eq_equiv (λ v. not (nat_eq t v)) u
    (λ v e. ap (λ w. not (nat_eq t w)) (eqb-true u v e)) xs

pub once-without : (t : ℕ) (xs : List ℕ) → IsOnce xs → IsOnce (list_without t xs)
once-without t [] h = tt
once-without t (x ∷ xs) h =
    let rest = once-without t xs h.1 in
    let apart : is_on x (list_without t xs) ≡ false = is_on-without x t xs ∙ and_left _ _ h.0 in
    cond_both (not (nat_eq t x)) (x ∷ list_without t xs) (list_without t xs) IsOnce
    (λ _. (apart, rest))
    (λ _. rest)

pub below_on : (q : ℕ) (xs : List ℕ) → All (λ t. t < 64) xs → is_on q xs ≡ true → q < 64
below_on q [] h e = grind arith
below_on q (x ∷ xs) h e =
    let k = All-head (λ t. t < 64) x xs h in
    let rest = below_on q xs (All-tail (λ t. t < 64) x xs h) in
    grind (arith, nat_tests)

pub on_range : (q : ℕ) → q < 64 → is_on q (range_with_len 0 64) ≡ true
on_range q h =
    list_any_at (nat_eq q) (range_with_len 0 64) q 0 (rw (length-range_with_len 0 64) h)
    (eq-eqb q (slice_index_or (range_with_len 0 64) q 0)
    (omega (arith, get_or-range_with_len 0 64 q 0 h)))

none_from_off : (x : ℕ) (ys : List ℕ) → is_on x ys ≡ false
    → AllByRecursion (λ y. nat_eq x y ≡ false) ys
none_from_off x [] e = tt
none_from_off x (y ∷ ys) e =
    let parts = or_parts (nat_eq x y) (is_on x ys) e in
    (parts.0, none_from_off x ys parts.1)

distinct_from_once : (xs : List ℕ) → IsOnce xs → IsDistinct nat_eq xs
unfolding IsDistinct
distinct_from_once [] h = tt
distinct_from_once (x ∷ xs) h = (none_from_off x xs h.0, distinct_from_once xs h.1)

-- a list of different threads isn't longer than there may be threads
pub length_few : (xs : List ℕ) → IsOnce xs → All (λ t. t < 64) xs → length xs ≤ 64
length_few xs once below =
    rw (length-range_with_len 0 64) at
    (length-le_from_is_member nat_eq_equiv xs (range_with_len 0 64) (distinct_from_once xs once)
    (λ q e. on_range q (below_on q xs below e)))

-- and has room for one that isn't there
pub length_room : (t : ℕ) (xs : List ℕ) → IsOnce xs → All (λ u. u < 64) xs → is_on t xs ≡ false
    → t < 64 → length xs < 64
length_room t xs once below off fits =
    let more = length_few (xs ++ t ∷ []) (once-push t xs once off)
    (All-push (λ u. u < 64) xs t below fits) in
    omega (arith, length_push xs t)

set_marked : (present : List Bool) (t u : ℕ) → length present ≡ 64 → t < 64 → (on : Bool)
    → slice_index_or present u false ≡ on
    → slice_index_or (slice_set present t true) u false ≡ (on || nat_eq u t)
set_marked present t u l fits on e = grind (arith, nat_tests, common_steps)

pub added : (xs ys : List ℕ) (room room' : ℕ) (present : List Bool) (t : ℕ)
    → IsThreadList xs room present → length present ≡ 64 → t < 64
    → slice_index_or present t false ≡ false → ys ≡ xs ++ t ∷ [] → room' ≡ room
    → IsThreadList ys room' (slice_set present t true)
added xs ys room room' present t h l fits off e r =
    let off' : is_on t xs ≡ false = sym (h.marked t fits) ∙ off in
    let marked_at : (u : ℕ) → u < 64 → slice_index_or (slice_set present t true) u false
    ≡ (is_on u xs || nat_eq u t) = λ u below.
    set_marked present t u l fits _ (h.marked u below) in
    record {
      once = subst IsOnce (sym e) (once-push t xs h.once off');
      below = subst (All (λ u. u < 64)) (sym e) (All-push (λ u. u < 64) xs t h.below fits);
      marked = λ u below. marked_at u below ∙ sym (is_on-push u t xs) ∙ ap (is_on u) (sym e);
      reserved = omega (arith, h.reserved);
    }

pub emptied : (xs : List ℕ) (room : ℕ) → xs ≡ [] → 64 ≤ room
    → IsThreadList xs room (replicate 64 false)
emptied xs room e r = record {
  once = subst IsOnce (sym e) tt;
  below = subst (All (λ u. u < 64)) (sym e) (All-nil (λ u. u < 64));
  marked = λ u below. get_or-replicate 64 u false false below ∙ ap (is_on u) (sym e);
  reserved = r;
}

unset_marked : (present : List Bool) (t u : ℕ) → length present ≡ 64 → t < 64 → (on : Bool)
    → slice_index_or present u false ≡ on
    → slice_index_or (slice_set present t false) u false ≡ (on && not (nat_eq t u))
unset_marked present t u l fits on e = grind (arith, nat_tests, common_steps)

pub departed : (xs ys : List ℕ) (room room' : ℕ) (present : List Bool) (t : ℕ)
    → IsThreadList xs room present → length present ≡ 64 → t < 64 → ys ≡ list_without t xs
    → room' ≡ room
    → IsThreadList ys room' (slice_set present t false)
departed xs ys room room' present t h l fits e r = record {
  once = subst IsOnce (sym e) (once-without t xs h.once);
  below =
      subst (All (λ u. u < 64)) (sym e)
      (All-filter (λ u. not (nat_eq t u)) (λ u. u < 64) xs h.below);
  marked =
      λ u below. unset_marked present t u l fits _ (h.marked u below) ∙ sym (is_on-without u t xs)
      ∙ ap (is_on u) (sym e);
  reserved = omega (arith, h.reserved);
}

-- where a thread leaves that is on the list only once, the rest stays
without_off : (t : ℕ) (xs : List ℕ) → is_on t xs ≡ false → list_without t xs ≡ xs
without_off t [] e = refl
without_off t (x ∷ xs) e =
    let parts = or_parts (nat_eq t x) (is_on t xs) e in
    let rest = without_off t xs parts.1 in
    let here = parts.0 in
    grind arith
