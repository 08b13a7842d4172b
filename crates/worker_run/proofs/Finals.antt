-- One test of a batch: its share before the first post, and its run.
use Rattle.std.proofs.Common.{◌≡◌, ℕ, ◌<◌, Option, Some, List, [], ◌∷◌, length, map, refl, sym, ap}
use Rattle.std.proofs.Common.{subst, ◌∙◌, arith}
use Rattle.std.proofs.lemmas.List.{length-map}
use Rattle.pct_ask.specs.Objects.{sizes_of_deal}
use Rattle.pct_ask.specs.Bodies.{Pending, pending_of, AreInRange}
use Rattle.policy_pick.specs.declared.policy.Policy.{Ghosts}
use Rattle.policy_pick.specs.Plan.{Plan, SpeaksOf}
use Rattle.turn_book.specs.Told.{BookState, new_book}
use Rattle.turn_lock.specs.Rule.{Serves}
use Rattle.turn_lock.specs.Calls.{first_book, ServesAll}
use Rattle.turn_lock.specs.Views.{view, HasSeat}
use Rattle.turn_lock.specs.declared.held.TurnLock.{TurnLock}
use Rattle.worker_run.specs.Played.{IsPlayed, HasPlayed}
use Rattle.worker_run.specs.Served.{IsUnposted, IsShare, first_runners}
use Rattle.worker_run.specs.Batch.{posts_at, bodies_on, IsSeatOf, IsShareOf, IsThreadTold}
use Rattle.worker_run.specs.Tests.{bodies_in, IsTest, IsRunOf, IsLockOf, IsFirstShare}
use Rattle.worker_run.specs.declared.runner.Runner.{Runner}
use Rattle.worker_run.specs.declared.played.Played.{Played}
use Rattle.worker_run.specs.declared.batch.Test.{Test}
use Rattle.worker_run.specs.declared.batch.RunningTest.{RunningTest}
use Rattle.worker_run.specs.declared.batch.Share.{Share}
use Rattle.worker_run.proofs.Follows.{points-run, moments-run}
use Rattle.worker_run.proofs.Plays.{here-range, here-unposted, here-serves, here-within}
use Rattle.worker_run.proofs.Plays.{first-share}
use Rattle.worker_run.proofs.Plays.{first-owe}
use Rattle.worker_run.proofs.ServedThreads.{all-served-threads, all-played}

-- ---- before the first post
-- the first runners post what their bodies do
pub firsts-post : {B : Type 0} (pending : B → Pending) (bodies : List B)
    → map (λ index. posts_at pending index) (first_runners bodies) ≡ map pending bodies
firsts-post pending [] = refl
firsts-post pending (b ∷ bodies) = ap (λ l. pending b ∷ l) (firsts-post pending bodies)

-- the bodies of a running test with the first runners
pub first-bodies : {P : Type 0} {B : Type 0} (pending : B → Pending) (one : RunningTest P B)
    (bodies : List B) → (one.runners).value.items ≡ first_runners bodies
    → bodies_on pending one ≡ map pending bodies
first-bodies {B = B} pending one bodies are =
    ap (λ (l : List (Option (Runner B))). map (λ index. posts_at pending index) l) are
    ∙ firsts-post pending bodies

module _ {P : Type 0} {policy : Ghosts P} {B : Type 0} (pending : B → Pending) (bodies : List B)
    (one : RunningTest P B) (share : Share P B policy)
    (are : (one.runners).value.items ≡ first_runners bodies)
    (of : HasSeat one.lock.now share.seat)
    (unposted : IsUnposted (view share.seat).seen)
    (count : length bodies ≡ (first_book one.lock.now).deal.threads)
    (in_range : AreInRange (sizes_of_deal (first_book one.lock.now).deal) (map pending bodies))
    (runners : share.runners.items ≡ first_runners bodies)
    (serves : (t : ℕ) → t < length bodies → Serves (view share.seat) t)
    (within : (t : ℕ) → Serves (view share.seat) t → t < length bodies) where
  pub first-share-of : IsShareOf pending one share
  first-share-of =
      let on = first-bodies pending one bodies are in
      let R : List Pending → Type 0 =
      λ bs. AreInRange (sizes_of_deal (first_book one.lock.now).deal)
      bs in
      let C : List Pending → Type 0 = λ bs. IsShare pending (pending_of bs) 0 share.runners.items
      (view share.seat) in
      record {
        test_is = record { in_range = subst R (sym on) in_range };
        seat_is = record { of = of; outside = λ t beyond. unposted.posts t };
        runs = subst C (sym on)
            (first-share pending bodies share.runners.items runners (view share.seat) unposted
            serves
            within);
        owe = first-owe (view share.seat) unposted;
        long = ap length runners ∙ length-map bodies
            (λ (b : B). Some (record { body = b; answered = 0 })) ∙ count;
      }

module _ {P : Type 0} {policy : Ghosts P} {B : Type 0} (pending : B → Pending) (plan : P → Plan)
    (stands : P → List ℕ → Type 0) (test : Test P B) (asked : IsTest pending plan stands test)
    (share : Share P B policy)
    (first : IsFirstShare plan test share) where
  abbrev book : BookState
  book = new_book test.deal test.limit (plan test.policy)

  pub test-serves : (t : ℕ) → t < test.deal.threads → Serves (view share.seat) t
  test-serves t below = here-serves pending test.bodies.items test.deal test.limit
      (plan test.policy) book (view share.seat) refl first.view_is asked.bodies t
      (omega (arith, asked.bodies))

  module _ (one : RunningTest P B) (made_is : IsLockOf plan test one.lock.now)
      (are : (one.runners).value ≡ share.runners) where
    pub test-bodies : bodies_on pending one ≡ bodies_in pending plan test
    test-bodies = first-bodies pending one test.bodies.items
        (ap (λ v. v.items) are ∙ first.runners_are)

    pub test-share : HasSeat one.lock.now share.seat → IsShareOf pending one share
    test-share of =
        let bodies = test.bodies.items in
        let v = view share.seat in
        let lock = first_book one.lock.now in
        first-share-of pending bodies one share (ap (λ v. v.items) are ∙ first.runners_are) of
        (here-unposted pending bodies test.deal test.limit (plan test.policy) lock v made_is
        first.view_is asked.bodies)
        (asked.bodies ∙ ap (λ (b : BookState). b.deal.threads) (sym made_is))
        (here-range pending bodies test.deal test.limit (plan test.policy) lock v made_is
        first.view_is asked.bodies asked.in_range)
        first.runners_are
        (here-serves pending bodies test.deal test.limit (plan test.policy) lock v made_is
        first.view_is asked.bodies)
        (here-within pending bodies test.deal test.limit (plan test.policy) lock v made_is
        first.view_is asked.bodies)

-- ---- the run
module _ {P : Type 0} {policy : Ghosts P} {B : Type 0} (pending : B → Pending) (plan : P → Plan)
    (stands : P → List ℕ → Type 0) (test : Test P B) (asked : IsTest pending plan stands test)
    (lock : TurnLock P) (share : Share P B policy)
    (made_is : IsLockOf plan test lock) (seat : IsSeatOf lock share.seat)
    (told : (t : ℕ) → t < test.deal.threads
    → IsThreadTold (bodies_in pending plan test) t (view share.seat)) where
  same : (first_book lock).deal.threads ≡ test.deal.threads
  same = ap (λ (b : BookState). b.deal.threads) made_is

  pub ends-all : ServesAll (view share.seat)
  ends-all =
      all-served-threads (first_book lock) (bodies_in pending plan test) (view share.seat) seat.of.1
      seat.outside (λ t below. told t (omega (arith, same)))

  pub ends-played : HasPlayed (first_book lock) (bodies_in pending plan test) (view share.seat).seen
  ends-played =
      all-played (first_book lock) (bodies_in pending plan test) (view share.seat) seat.of.1
      seat.outside (λ t below. told t (omega (arith, same)))

  pub ends-run : (played : Played) → IsPlayed (first_book lock).plan (first_book lock).deal
      (bodies_in pending plan test) (first_book lock).limit played.events played.outcome
      → IsRunOf pending plan test played
  ends-run played by =
      let bodies = bodies_in pending plan test in
      let M : BookState → Type 0 = λ b. IsPlayed b.plan b.deal bodies b.limit played.events
      played.outcome in
      let whole : IsPlayed (plan test.policy) test.deal bodies test.limit played.events
      played.outcome = subst M made_is by in
      let S : Plan → Type 0 = λ p. SpeaksOf p test.deal.threads in
      let W : Plan → Type 0 = λ p. IsPlayed p test.deal bodies test.limit played.events
      played.outcome in
      record {
        played = whole;
        by_points =
            λ order points e. points-run test.deal bodies order points test.limit played.events
            played.outcome (subst S e asked.speaks) (subst W e whole);
        by_moments =
            λ order moments e. moments-run test.deal bodies order moments test.limit played.events
            played.outcome (subst S e asked.speaks) (subst W e whole);
      }
