-- One test of a batch: a thread's task is taken off its share, and taken in again.
use Rattle.std.proofs.Common.{◌≡◌, ℕ, ◌<◌, Option, Some, None, List, [], ◌∷◌, length, set, sym, ap}
use Rattle.std.proofs.Common.{subst, ◌∙◌, arith, ◌⊎◌, inl, inr}
use Rattle.std.proofs.lemmas.Bool.{cases_eq}
use Rattle.std.proofs.lemmas.List.{length-set}
use Rattle.policy_pick.specs.declared.policy.Policy.{Ghosts}
use Rattle.turn_lock.specs.Rule.{Serves}
use Rattle.turn_lock.specs.Seats.{seat_without, seat_of_one}
use Rattle.turn_lock.specs.Calls.{first_book}
use Rattle.turn_lock.specs.Views.{view, HasSeat}
use Rattle.turn_lock.specs.declared.view.View.{View}
use Rattle.turn_lock.specs.declared.seat.Seat.{Seat}
use Rattle.turn_lock.proofs.laws.Serving.{alone-one, without-had, without-has}
use Rattle.pct_ask.specs.Bodies.{Pending, pending_of}
use Rattle.worker_run.specs.Served.{runner_at, IsShare, AllOwe}
use Rattle.worker_run.specs.Batch.{bodies_on, NoneOutside, IsSeatOf, IsShareOf, IsWaiting}
use Rattle.worker_run.specs.declared.runner.Runner.{Runner}
use Rattle.worker_run.specs.declared.batch.RunningTest.{RunningTest}
use Rattle.worker_run.specs.declared.batch.Share.{Share}
use Rattle.worker_run.proofs.Shares.{runner-within, share-emptied}
use Rattle.worker_run.proofs.SplitSeats.{IsJoin, split-rest, split-own, split-serves}
use Rattle.worker_run.proofs.ServedThreads.{outside-joined, taken-share, taken-owe}

module _ {P : Type 0} {policy : Ghosts P} {B : Type 0} (pending : B → Pending)
    (test : RunningTest P B)
    (share : Share P B policy) (is : IsShareOf pending test share) where
  abbrev start : ℕ → Pending
  start = pending_of (bodies_on pending test)

  -- ---- a thread's task is taken off
  module _ (t : ℕ) (runner : Runner B) (at : runner_at share.runners.items t ≡ Some runner) where
    within : t < length share.runners.items
    within = runner-within share.runners.items t runner at

    pub below : t < 64
    below = let few = (first_book test.lock.now).deal.few_threads in
        let here = within in omega (arith, is.long)

    pub off-serves : Serves (view share.seat) t
    off-serves =
        split-serves pending share.runners.items t runner at below (view share.seat) start is.runs

    pub off-share : (new : Share P B policy) → HasSeat test.lock.now new.seat
        → view new.seat ≡ seat_without (view share.seat) t
        → new.runners.items ≡ set share.runners.items t None → IsShareOf pending test new
    off-share new of left runners =
        let C : List (Option (Runner B)) × View → Type 0 = λ x. IsShare pending start 0 x.0 x.1 in
        let F : View → Type 0 = λ v. NoneOutside v.seen in
        let O : View → Type 0 = λ v. AllOwe v in
        record {
          test_is = is.test_is;
          seat_is = record { of = of; outside = subst F (sym left) (is.seat_is).outside };
          runs =
              subst C (λ i. (sym runners i, sym left i))
              (split-rest pending share.runners.items t runner at below (view share.seat) start
              is.runs);
          owe = subst O (sym left) (λ u here. is.owe u (without-had (view share.seat) t u here));
          long = ap length runners ∙ length-set share.runners.items t None ∙ is.long;
        }

    pub off-task : (own : Seat P policy) → HasSeat test.lock.now own
        → view own ≡ seat_of_one (view share.seat) t → IsWaiting pending test t own runner
    off-task own of right =
        let C : View → Type 0 = λ v. IsShare pending start t (Some runner ∷ []) v in
        let F : View → Type 0 = λ v. NoneOutside v.seen in
        let O : View → Type 0 = λ v. AllOwe v in
        record {
          test_is = is.test_is;
          seat_is = record { of = of; outside = subst F (sym right) (is.seat_is).outside };
          runs =
              subst C (sym right) (split-own pending share.runners.items t runner at below
              (view share.seat) start is.runs);
          owe =
              subst O (sym right) (λ u here.
              is.owe u (subst (Serves (view share.seat))
              (sym (alone-one (view share.seat) t u here))
              off-serves));
          below = (let here = within in omega (arith, is.long));
        }

    pub off-shared : (w : View) → w ≡ seat_without (view share.seat) t → (u : ℕ)
        → Serves (view share.seat) u → Serves w u ⊎ (u ≡ t)
    off-shared w left u here = elim (cases_eq u t) [
      | inl same ↦ inr same
      | inr apart ↦ inl (subst (λ (v : View). Serves v u) (sym left)
          (without-has (view share.seat) t u apart here))
    ]

  -- an index that had no runner was emptied
  pub kept-share : (t : ℕ) (new : Share P B policy) → runner_at share.runners.items t ≡ None
      → new.seat ≡ share.seat → new.runners.items ≡ set share.runners.items t None
      → IsShareOf pending test new
  kept-share t new none same runners =
      let S : Seat P policy → Type 0 = λ s. IsSeatOf test.lock.now s in
      let C : List (Option (Runner B)) × Seat P policy → Type 0 =
      λ x. IsShare pending start 0 x.0 (view x.1) in
      let O : Seat P policy → Type 0 = λ s. AllOwe (view s) in
      record {
        test_is = is.test_is;
        seat_is = subst S (sym same) is.seat_is;
        runs =
            subst C (λ i. (sym runners i, sym same i))
            (share-emptied pending start share.runners.items t (view share.seat) none is.runs);
        owe = subst O (sym same) is.owe;
        long = ap length runners ∙ length-set share.runners.items t None ∙ is.long;
      }

  -- ---- a task is taken in again
  module _ (t : ℕ) (runner : Runner B) (own : Seat P policy)
      (waits : IsWaiting pending test t own runner) (new : Share P B policy)
      (of : HasSeat test.lock.now new.seat)
      (j : IsJoin (view share.seat) (view own) (view new.seat))
      (runners : new.runners.items ≡ set share.runners.items t (Some runner)) where
    taken-within : t < length share.runners.items
    taken-within = let under = waits.below in omega (arith, is.long)

    pub taken-in : IsShareOf pending test new
    taken-in =
        let C : List (Option (Runner B)) → Type 0 =
        λ x. IsShare pending start 0 x (view new.seat) in
        record {
          test_is = is.test_is;
          seat_is =
              record {
                of = of;
                outside = outside-joined (view share.seat) (view own) (view new.seat)
                    (is.seat_is).outside (waits.seat_is).outside j;
              };
          runs =
              subst C (sym runners) (taken-share pending start share.runners.items t runner
              (view share.seat) (view own) (view new.seat) taken-within j is.runs waits.runs);
          owe = taken-owe (view share.seat) (view own) (view new.seat) j is.owe waits.owe;
          long = ap length runners ∙ length-set share.runners.items t (Some runner) ∙ is.long;
        }
