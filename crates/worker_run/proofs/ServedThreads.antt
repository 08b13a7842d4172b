-- One test of a batch: what a seat has seen of its threads, after calls of the lock and by the end.
use Rattle.std.proofs.Common.{◌≡◌, ◌≢◌, ℕ, zero, suc, ◌<◌, Option, Some, None, List, [], ◌∷◌, ◌++◌}
use Rattle.std.proofs.Common.{length, set, refl, sym, ap, subst, ◌∙◌, arith, ◌⊎◌, inl, inr}
use Rattle.std.proofs.lemmas.Bool.{cases_eq}
use Rattle.std.proofs.lemmas.List.{get_or-set_same, get_or-set_other}
use Rattle.pct_ask.specs.declared.Deal.{Deal}
use Rattle.pct_ask.specs.declared.event.Standing.TheVariants.{Ended as HasEnded}
use Rattle.pct_ask.specs.Bodies.{Pending, pending_of}
use Rattle.turn_book.specs.Told.{BookState, SameMaking, IsLawful, Within, new_book, standing_of}
use Rattle.turn_lock.specs.Seen.{SameOf, ObeysPlan, posts_seen}
use Rattle.turn_lock.specs.Rule.{Serves, first_view}
use Rattle.turn_lock.specs.Calls.{ServesAll}
use Rattle.turn_lock.specs.declared.view.View.{View}
use Rattle.turn_lock.proofs.laws.Standings.{same-owes}
use Rattle.turn_lock.proofs.laws.FirstThreads.{first-below, first-has}
use Rattle.worker_run.specs.Played.{HasPlayed}
use Rattle.worker_run.specs.declared.runner.Runner.{Runner}
use Rattle.worker_run.specs.Served.{IsRunning, runner_at, IsShare, AllOwe, IsOver, IsServed}
use Rattle.worker_run.specs.Batch.{NoneOutside, IsThreadServed, IsThreadTold}
use Rattle.worker_run.proofs.Running.{follows-same, running-same}
use Rattle.worker_run.proofs.Shares.{same-standing, own-thread}
use Rattle.worker_run.proofs.laws.RunsOver.{speaks-later, over-later}
use Rattle.turn_lock.proofs.laws.Serving.{joined-left, joined-right, joined-either}
use Rattle.worker_run.proofs.SplitSeats.{IsJoin, posts-none}
use Rattle.worker_run.proofs.Plays.{has-played, new-unposted, joined-outcome}

-- ---- threads that there aren't
pub outside-joined : (a b w : View) → NoneOutside a.seen → NoneOutside b.seen → IsJoin a b w
    → NoneOutside w.seen
outside-joined a b w one other j t beyond =
    let first = ap (λ (d : Deal). d.threads) (j.seen.0.making).deal in
    let second = ap (λ (d : Deal). d.threads) (j.seen.1.making).deal in
    ap (λ (u : View). posts_seen u.seen t) j.is
    ∙ posts-none (a.seen).posts (b.seen).posts t
    (one t (omega (arith, first))) (other t (omega (arith, second)))

pub outside-served : (start : ℕ → Pending) (v w : View) → NoneOutside v.seen → IsServed start v w
    → NoneOutside w.seen
outside-served start v w none served t beyond =
    let same = ap (λ (d : Deal). d.threads) ((served.within).making).deal in
    served.outside t beyond (none t (omega (arith, same)))

-- ---- a thread of a seat that was served
module _ (bodies : List Pending) where
  pub served-thread : (t : ℕ) (v w : View) → IsServed (pending_of bodies) v w → Serves v t
      → IsThreadServed bodies t w
  served-thread t v w served here = record {
    serves = served.serves t here;
    follows = served.follows t here;
    speaks = served.speaks t here;
    done = elim served.done [
      | inl over ↦ inl over
      | inr ended ↦ inr (ended t here)
    ];
  }

  -- the seat went on, and the thread did nothing
  pub thread-later : (t : ℕ) (u w : View) → IsThreadServed bodies t u → Within u.seen w.seen
      → SameOf t u.seen w.seen → Serves w t → ObeysPlan w.seen → IsThreadServed bodies t w
  thread-later t u w served within same here obeys = record {
    serves = here;
    follows = follows-same (pending_of bodies t) t u.seen w.seen same served.follows;
    speaks = speaks-later u.seen w.seen within served.speaks;
    done = elim served.done [
      | inl over ↦ inl (over-later u.seen w.seen within obeys over)
      | inr ended ↦ inr (same-standing t u.seen w.seen same ∙ ended)
    ];
  }

  pub told-left : (t : ℕ) (a b w : View) → IsJoin a b w → IsThreadServed bodies t a
      → IsThreadTold bodies t w
  told-left t a b w j served = record {
    served =
        thread-later t a w served j.seen.0 (j.own t served.serves)
        (joined-left a b w t j.is served.serves) j.obeys;
    obeys = j.obeys;
    told = joined-outcome a b w j.is;
  }

  pub told-right : (t : ℕ) (a b w : View) → IsJoin a b w → IsThreadServed bodies t b
      → IsThreadTold bodies t w
  told-right t a b w j served = record {
    served =
        thread-later t b w served j.seen.1 (j.theirs t served.serves)
        (joined-right a b w t j.is served.serves) j.obeys;
    obeys = j.obeys;
    told = joined-outcome a b w j.is;
  }

  pub told-share : (t : ℕ) (v w : View) → IsServed (pending_of bodies) v w → IsLawful w.seen
      → Serves v t → IsThreadTold bodies t w
  told-share t v w served lawful here = record {
    served = served-thread t v w served here;
    obeys = lawful.obeys;
    told = lawful.outcome;
  }

-- ---- a task is taken in again
module _ {B : Type 0} (pending : B → Pending) (start : ℕ → Pending)
    (runners : List (Option (Runner B))) (t : ℕ) (runner : Runner B) (v mine w : View)
    (within : t < length runners) (j : IsJoin v mine w)
    (share : IsShare pending start 0 runners v)
    (own : IsShare pending start t (Some runner ∷ []) mine) where
  abbrev back : List (Option (Runner B))
  back = set runners t (Some runner)

  back-own : runner_at back t ≡ Some runner
  back-own = get_or-set_same runners t (Some runner) None within

  back-other : (q : ℕ) → q ≢ t → runner_at back q ≡ runner_at runners q
  back-other q apart = get_or-set_other runners t q (Some runner) None apart

  pub taken-share : IsShare pending start 0 back w
  taken-share = record {
    index = λ u here. elim (joined-either v mine w u j.is here) [
      | inl left ↦
          let was = share.index u left in
          elim (cases_eq was.0 t) [
            | inl same ↦ (t, runner, (let e = was.2 in omega (arith, e, same)), back-own)
            | inr apart ↦ (was.0, was.1, was.2, back-other was.0 apart ∙ was.3)
          ]
      | inr right ↦ (
        t,
        runner,
        (let e = own-thread pending start t runner mine own u right in
            omega (arith, e)),
        back-own,
      )
    ];
    running = λ u q r of is. elim (cases_eq q t) [
      | inl same ↦
          let x : runner ≡ r = let both = sym back-own ∙ ap (runner_at back) (sym same) ∙ is in
          cc in
          let was = own.running u 0 runner (omega (arith, of, same)) refl in
          let R : Runner B → Type 0 = λ y.
          IsRunning (start u) (pending y.body) y.answered u w.seen in (
            joined-right v mine w u j.is was.0,
            subst R x (running-same (start u) (pending runner.body) runner.answered u mine.seen
                w.seen (j.theirs u was.0) was.1),
          )
      | inr apart ↦
          let was = share.running u q r of (sym (back-other q apart) ∙ is) in (
            joined-left v mine w u j.is was.0,
            running-same (start u) (pending r.body) r.answered u v.seen w.seen (j.own u was.0)
                was.1,
          )
    ];
  }

pub taken-owe : (v mine w : View) → IsJoin v mine w → AllOwe v → AllOwe mine → AllOwe w
taken-owe v mine w j owe owes u here = elim (joined-either v mine w u j.is here) [
  | inl left ↦ same-owes u v.seen w.seen (j.own u left) ∙ owe u left
  | inr right ↦ same-owes u mine.seen w.seen (j.theirs u right) ∙ owes u right
]

-- ---- by the end
all-ended : (seen : BookState) (n : ℕ)
    → ((t : ℕ) → t < n → IsOver seen ⊎ (standing_of seen t ≡ HasEnded))
    → IsOver seen ⊎ ((t : ℕ) → t < n → standing_of seen t ≡ HasEnded)
all-ended seen zero each = inr (λ t below. absurd (omega arith))
all-ended seen (suc n) each = elim (all-ended seen n (λ t below. each t (omega arith))) [
  | inl over ↦ inl over
  | inr ended ↦ elim (each n (omega arith)) [
    | inl over ↦ inl over
    | inr last ↦ inr (λ t below. elim (cases_eq t n) [
      | inl same ↦ ap (standing_of seen) same ∙ last
      | inr apart ↦ ended t (omega (arith, apart))
    ])
  ]
]

-- By what a seat of a lock has seen, each thread of the lock's was served.
module _ (first : BookState) (bodies : List Pending) (w : View) (making : SameMaking first w.seen)
    (none : NoneOutside w.seen)
    (told : (t : ℕ) → t < first.deal.threads → IsThreadTold bodies t w) where
  -- a book that was made with the same, in which nothing has happened
  abbrev blank : BookState
  blank = new_book first.deal first.limit first.plan

  blank-within : Within blank w.seen
  blank-within = record {
    making = record { deal = making.deal; limit = making.limit; plan = making.plan };
    rest = (w.seen).trace;
    trace = refl;
    posts = λ t.
        let no = (new-unposted first.deal first.limit first.plan).posts t in
        (posts_seen w.seen t, ap (λ l. l ++ posts_seen w.seen t) (sym no));
  }

  abbrev one : IsThreadTold bodies 0 w
  one = told 0 (let some = first.deal.some_thread in omega arith)

  same : (w.seen).deal.threads ≡ first.deal.threads
  same = ap (λ (d : Deal). d.threads) making.deal

  all-served : IsServed (pending_of bodies) (first_view blank) w
  all-served = record {
    within = blank-within;
    serves = λ t here. ((told t (first-below first.deal.threads t here)).served).serves;
    follows = λ t here. ((told t (first-below first.deal.threads t here)).served).follows;
    speaks = λ t here. (one.served).speaks;
    outside = λ t beyond no. none t beyond;
    done = elim (all-ended w.seen first.deal.threads (λ t below. ((told t below).served).done)) [
      | inl over ↦ inl over
      | inr ended ↦ inr (λ t here. ended t (first-below first.deal.threads t here))
    ];
  }

  pub all-served-threads : ServesAll w
  all-served-threads t within = ((told t (omega (arith, same))).served).serves

  pub all-played : HasPlayed first bodies w.seen
  all-played =
      has-played first bodies (first_view blank) w making one.obeys
      (new-unposted first.deal first.limit first.plan)
      (λ t within. first-has first.deal.threads t within) all-served one.told

-- The threads of one seat were told of, and it is joined to a seat that served none of them.
module _ (first : BookState) (bodies : List Pending) (left mine w : View)
    (making : SameMaking first w.seen)
    (none : NoneOutside left.seen) (none_too : NoneOutside mine.seen) (j : IsJoin left mine w)
    (told : (t : ℕ) → t < first.deal.threads → IsThreadTold bodies t mine) where
  told-after : (t : ℕ) → t < first.deal.threads → IsThreadTold bodies t w
  told-after t below = told-right bodies t left mine w j (told t below).served

  pub joined-all : ServesAll w
  joined-all =
      all-served-threads first bodies w making (outside-joined left mine w none none_too j)
      told-after

  pub joined-played : HasPlayed first bodies w.seen
  joined-played =
      all-played first bodies w making (outside-joined left mine w none none_too j) told-after
