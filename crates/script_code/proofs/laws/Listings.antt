-- What holds of each list of flat code, and of each of its operations.
use Rattle.std.proofs.Common.{◌≡◌, ℕ, zero, suc, ◌^◌, ◌<◌, ◌≤◌, ◌&&◌, Bool, true, List, [], ◌∷◌}
use Rattle.std.proofs.Common.{length, Some, sym, ap, subst, arith}
use Rattle.std.specs.Prelude.{nat_lt, slice_get, slice_index_or}
use Rattle.std.specs.List.{list_all}
use Rattle.std.proofs.lemmas.Bool.{ltb-true}
use Rattle.std.proofs.lemmas.List.{length-map}
use Rattle.script_code.specs.declared.flat.Flat.{Flat}
use Rattle.script_code.specs.Operations.{Operation, operation, operations, listings}
use Rattle.script_code.specs.Placed.{is_placed, is_end, last_place, is_listing, listing_of}
use Rattle.script_tree.proofs.laws.Conjunctions.{left_true, right_true}

pub all_at : {X : Type 0} (p : X → Bool) (xs : List X) (i : ℕ) (d : X) → list_all p xs ≡ true
    → i < length xs → p (slice_index_or xs i d) ≡ true
all_at p [] i d all below = absurd (omega arith)
all_at p (x ∷ xs) zero d all below = left_true (p x) (list_all p xs) all
all_at p (x ∷ xs) (suc i) d all below =
    all_at p xs i d (right_true (p x) (list_all p xs) all) (omega arith)

pub all_got : {X : Type 0} (p : X → Bool) (xs : List X) (i : ℕ) (x : X) → list_all p xs ≡ true
    → slice_get xs i ≡ Some x → p x ≡ true
all_got p [] zero x all e = absurd (cc)
all_got p [] (suc i) x all e = absurd (cc)
all_got p (y ∷ ys) zero x all e = let same : y ≡ x = cc in
    subst (λ z. p z ≡ true) same (left_true (p y) (list_all p ys) all)
all_got p (y ∷ ys) (suc i) x all e = all_got p ys i x (right_true (p y) (list_all p ys) all) e

module _ (code : List Operation) (listing : is_listing code ≡ true) where
  front : (list_all (is_placed (length code)) code && is_end (slice_get code (last_place code)))
      ≡ true
  front =
      left_true (list_all (is_placed (length code)) code
      && is_end (slice_get code (last_place code))) (nat_lt (length code) (2 ^ 32)) listing

  pub all_placed : list_all (is_placed (length code)) code ≡ true
  all_placed =
      left_true (list_all (is_placed (length code)) code)
      (is_end (slice_get code (last_place code))) front

  pub ends : is_end (slice_get code (last_place code)) ≡ true
  ends =
      right_true (list_all (is_placed (length code)) code)
      (is_end (slice_get code (last_place code))) front

  pub short : length code < 2 ^ 32
  short =
      ltb-true (length code) (2 ^ 32) (right_true
      (list_all (is_placed (length code)) code && is_end (slice_get code (last_place code)))
      (nat_lt (length code) (2 ^ 32)) listing)

pub some_operation : (code : List Operation) → is_end (slice_get code (last_place code)) ≡ true
    → 1 ≤ length code
some_operation [] e = absurd (cc)
some_operation (op ∷ ops) e = omega arith

pub listing_at : (code : List (List Operation)) (t : ℕ) → list_all is_listing code ≡ true
    → t < length code → is_listing (listing_of code t) ≡ true
listing_at code t all below = all_at is_listing code t [] all below

-- ---- as the code keeps them

pub listing_is : (threads : List (List Flat)) (t : ℕ) (ops : List Flat) → t < length threads
    → ops ≡ slice_index_or threads t ops → listing_of (listings threads) t ≡ operations ops
listing_is [] t ops below e = absurd (omega arith)
listing_is (x ∷ xs) zero ops below e = ap operations (sym e)
listing_is (x ∷ xs) (suc t) ops below e = listing_is xs t ops (omega arith) e

pub operation_is : (ops : List Flat) (i : ℕ) (flat : Flat) → i < length ops
    → flat ≡ slice_index_or ops i flat → slice_get (operations ops) i ≡ Some (operation flat)
operation_is [] i flat below e = absurd (omega arith)
operation_is (x ∷ xs) zero flat below e = ap (λ f. Some (operation f)) (sym e)
operation_is (x ∷ xs) (suc i) flat below e = operation_is xs i flat (omega arith) e

-- a thread's list in a code whose lists are sound
module _ (threads : List (List Flat)) (placed : list_all is_listing (listings threads) ≡ true)
    (t : ℕ) (ops : List Flat) (below : t < length threads)
    (e : ops ≡ slice_index_or threads t ops) where
  pub is_listing_of : is_listing (operations ops) ≡ true
  is_listing_of =
      let n : length (listings threads) ≡ length threads = length-map threads operations in
      subst (λ l. is_listing l ≡ true) (listing_is threads t ops below e)
      (listing_at (listings threads) t placed (omega arith))

  pub length_short : length ops < 2 ^ 32
  length_short = let n : length (operations ops) ≡ length ops = length-map ops operation in
      let s = short (operations ops) is_listing_of in omega arith

  pub length_some : 1 ≤ length ops
  length_some = let n : length (operations ops) ≡ length ops = length-map ops operation in
      let s = some_operation (operations ops) (ends (operations ops) is_listing_of) in omega arith

  pub placed_at : (i : ℕ) (flat : Flat) → i < length ops → flat ≡ slice_index_or ops i flat
      → is_placed (length (listing_of (listings threads) t)) (operation flat) ≡ true
  placed_at i flat inside f =
      subst (λ l. is_placed (length l) (operation flat) ≡ true)
      (sym (listing_is threads t ops below e))
      (all_got (is_placed (length (operations ops))) (operations ops) i (operation flat)
      (all_placed (operations ops) is_listing_of) (operation_is ops i flat inside f))
