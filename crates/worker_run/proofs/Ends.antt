-- All tests of a batch: their shares before the first post, and what they have seen by the end.
use Rattle.std.proofs.Common.{◌≡◌, ◌<◌, ℕ, Some, List, [], ◌∷◌, ◌++◌, length, take, drop, refl, sym}
use Rattle.std.proofs.Common.{ap, subst, ◌∙◌, arith}
use Rattle.std.proofs.Math.Seq.{take-append_seam}
use Rattle.std.specs.Prelude.{slice_get}
use Rattle.std.proofs.lemmas.List.{length-append}
use Rattle.std.proofs.lemmas.Option.{slice_get_within}
use Rattle.policy_pick.specs.declared.policy.Policy.{Ghosts}
use Rattle.policy_pick.specs.Plan.{Plan}
use Rattle.turn_lock.specs.Calls.{first_book}
use Rattle.turn_lock.specs.Views.{view, HasSeat}
use Rattle.turn_lock.specs.declared.held.TurnLock.{TurnLock}
use Rattle.worker_run.specs.Batch.{Each, IsSeatOf, IsThreadTold}
use Rattle.pct_ask.specs.Bodies.{Pending}
use Rattle.worker_run.specs.Batches.{AreSeats, AreShares, Holds, ToldAt}
use Rattle.worker_run.specs.Tests.{AreTests, AllTold, IsLockOf, IsFirstShare}
use Rattle.worker_run.specs.declared.batch.Test.{Test}
use Rattle.worker_run.specs.declared.batch.Share.{Share}
use Rattle.worker_run.specs.declared.batch.RunningTest.{RunningTest}
use Rattle.worker_run.proofs.Eachs.{get-more-new, get-within, each-more}
use Rattle.worker_run.proofs.Finals.{test-serves, test-bodies, test-share}

pub no-items : {X Y : Type 0} (R : X → Y → Type 0) (xs : List X) (ys : List Y) → xs ≡ [] → ys ≡ []
    → Each R xs ys
no-items R xs ys none nothing = record {
  long = ap length nothing ∙ sym (ap length none);
  each = λ i x y here there. absurd (let both = sym (ap (λ l. slice_get l i) none) ∙ here in cc);
}

-- lists of one item each
pub each-alone : {X Y : Type 0} (R : X → Y → Type 0) (no-xs xs : List X) (no-ys ys : List Y) (x : X)
    (y : Y) → no-xs ≡ [] → xs ≡ no-xs ++ x ∷ [] → no-ys ≡ [] → ys ≡ no-ys ++ y ∷ [] → R x y
    → Each R xs ys
each-alone {X = X} {Y = Y} R no-xs xs no-ys ys x y none are nothing all is =
    let one : xs ≡ x ∷ [] = are ∙ ap (λ l. l ++ x ∷ []) none in
    let other : ys ≡ y ∷ [] = all ∙ ap (λ l. l ++ y ∷ []) nothing in
    let E : List X × List Y → Type 0 = λ p. Each R p.0 p.1 in
    subst E (λ k. (sym one k, sym other k)) (each-more R [] [] x y (no-items R [] [] refl refl) is)

pub alone-first : {X : Type 0} (no-xs xs : List X) (x : X) → no-xs ≡ [] → xs ≡ no-xs ++ x ∷ []
    → slice_get xs 0 ≡ Some x
alone-first no-xs xs x none are = ap (λ l. slice_get l 0) (are ∙ ap (λ l. l ++ x ∷ []) none)

pub alone-long : {X : Type 0} (no-xs xs : List X) (x : X) → no-xs ≡ [] → xs ≡ no-xs ++ x ∷ []
    → length xs ≡ 1
alone-long no-xs xs x none are = ap length (are ∙ ap (λ l. l ++ x ∷ []) none)

pub alone-last : {X : Type 0} (all front : List X) (x : X) → length all ≡ 1 → all ≡ front ++ x ∷ []
    → slice_get all 0 ≡ Some x
alone-last all front x long is =
    let none : length front ≡ 0 = omega (arith, long, ap length is, length-append front (x ∷ [])) in
    ap (λ l. slice_get l 0) is ∙ ap (λ n. slice_get (front ++ x ∷ []) n) (sym none)
    ∙ get-more-new front x

-- what a call wrote into a list through its slice
pub written : {A : Type 0} (k : ℕ) (new old : List A) → length new ≡ k
    → take k (new ++ drop (length new) old) ≡ new
written k new old long =
    ap (λ n. take n (new ++ drop (length new) old)) (sym long)
    ∙ take-append_seam new (drop (length new) old)

-- ---- all tests of a batch, on their locks
module _ {P : Type 0} {policy : Ghosts P} {B : Type 0} (pending : B → Pending) (plan : P → Plan)
    (stands : P → List ℕ → Type 0)
    (tests : List (Test P B)) (locks : List (TurnLock P)) (shares : List (Share P B policy))
    (running : List (RunningTest P B))
    (asked : AreTests pending plan stands tests) (made_for : Each (IsLockOf plan) tests locks)
    (firsts : Each (IsFirstShare plan) tests shares)
    (of : Each (λ lock share. HasSeat lock share.seat) locks shares)
    (on : Each (λ lock one. one.lock.now ≡ lock) locks running)
    (by : Each (λ share one. (one.runners).value ≡ share.runners) shares running) where
  -- what stands at a test's index
  lock-at : (i : ℕ) (test : Test P B) → slice_get tests i ≡ Some test → (lock : TurnLock P)
      × (slice_get locks i ≡ Some lock)
  lock-at i test at = get-within locks i
      (let under = slice_get_within tests i test at in omega (arith, under, made_for.long))

  share-at : (i : ℕ) (test : Test P B) → slice_get tests i ≡ Some test → (share : Share P B policy)
      × (slice_get shares i ≡ Some share)
  share-at i test at = get-within shares i
      (let under = slice_get_within tests i test at in omega (arith, under, firsts.long))

  running-at : (i : ℕ) (test : Test P B) → slice_get tests i ≡ Some test → (one : RunningTest P B)
      × (slice_get running i ≡ Some one)
  running-at i test at = get-within running i
      (let under = slice_get_within tests i test at in omega (arith, under, made_for.long, on.long))

  running-made : (i : ℕ) (test : Test P B) (one : RunningTest P B) → slice_get tests i ≡ Some test
      → slice_get running i ≡ Some one → IsLockOf plan test one.lock.now
  running-made i test one at there =
      let lock = lock-at i test at in
      ap first_book (on.each i lock.0 one lock.1 there) ∙ made_for.each i test lock.0 at lock.1

  running-of : (i : ℕ) (test : Test P B) (one : RunningTest P B) (share : Share P B policy)
      → slice_get tests i ≡ Some test → slice_get running i ≡ Some one
      → slice_get shares i ≡ Some share → HasSeat one.lock.now share.seat
  running-of i test one share at there here =
      let lock = lock-at i test at in
      let O : TurnLock P → Type 0 = λ l. HasSeat l share.seat in
      subst O (sym (on.each i lock.0 one lock.1 there)) (of.each i lock.0 share lock.1 here)

  pub test-shares : AreShares pending running shares
  test-shares = record {
    long = of.long ∙ sym on.long;
    each = λ i one share there here.
        let found =
        get-within tests i (let under = slice_get_within running i one there in
        omega (arith, under, made_for.long, on.long)) in
        test-share pending plan stands found.0 (asked i found.0 found.1) share
        (firsts.each i found.0 share found.1 here)
        one (running-made i found.0 one found.1 there) (by.each i share one here there)
        (running-of i found.0 one share found.1 there here);
  }

  test-holds : (i t : ℕ) (test : Test P B) → slice_get tests i ≡ Some test → t < test.deal.threads
      → Holds shares i t
  test-holds i t test at below =
      let share = share-at i test at in
      record {
        share = share.0;
        at = share.1;
        serves =
            test-serves pending plan stands test (asked i test at) share.0
            (firsts.each i test share.0 at share.1) t below;
      }

  module _ (after : List (Share P B policy)) (seats : AreSeats running after)
      (told : (i t : ℕ) → Holds shares i t → ToldAt pending running after i t) where
    pub test-seats : Each (λ lock share. IsSeatOf lock share.seat) locks after
    test-seats = record {
      long = seats.long ∙ on.long;
      each = λ i lock share here at.
          let one =
          get-within running i (let under = slice_get_within locks i lock here in
          omega (arith, under, on.long)) in
          let S : TurnLock P → Type 0 = λ l. IsSeatOf l share.seat in
          subst S (on.each i lock one.0 here one.1) (seats.each i one.0 share one.1 at);
    }

    pub test-told : AllTold pending plan tests after
    test-told i t test share at here below =
        let one = running-at i test at in
        let first = share-at i test at in
        let T : List Pending → Type 0 = λ bs. IsThreadTold bs t (view share.seat) in
        subst T
        (test-bodies pending plan stands test (asked i test at) first.0
        (firsts.each i test first.0 at first.1) one.0
        (running-made i test one.0 at one.1) (by.each i first.0 one.0 first.1 one.1))
        (told i t (test-holds i t test at below) one.0 share one.1 here)
