-- What was served by the end is the run over the bodies, and so is the book of the closed lock.
use Rattle.std.proofs.Common.{◌≡◌, ℕ, zero, suc, ◌<◌, ◌≤◌, eqb, Option, Some, List, [], ◌∷◌, ◌++◌}
use Rattle.std.proofs.Common.{length, get_or, map, take, replicate, refl, sym, ap, subst, ◌∙◌}
use Rattle.std.proofs.Common.{arith, ◌⊎◌, inl, inr}
use Rattle.std.specs.Prelude.{slice_get}
use Rattle.std.proofs.lemmas.Bool.{cases_lt}
use Rattle.std.proofs.lemmas.List.{map-append, length-map}
use Rattle.std.proofs.lemmas.List.Elements.{filter-append}
use Rattle.std.proofs.Math.Seq.{take-append_seam}
use Rattle.pct_ask.specs.declared.Deal.{Deal}
use Rattle.pct_ask.specs.declared.ask.Post.{Post}
use Rattle.pct_ask.specs.declared.event.Event.{Event}
use Rattle.pct_ask.specs.declared.verdict.Outcome.{Outcome}
use Rattle.pct_ask.specs.Objects.{sizes_of_deal}
use Rattle.pct_ask.specs.Bodies.{Pending, pending_of, AreInRange}
use Rattle.sync_store.specs.World.{answers_of}
use Rattle.policy_pick.specs.Plan.{Plan, SpeaksOf}
use Rattle.turn_book.specs.Posts.{own_events, source_of, KeepsPosts}
use Rattle.turn_book.specs.Obeys.{Obeys, outcome_after}
use Rattle.turn_book.specs.Told.{BookState, SameMaking, IsLawful, Within, new_book}
use Rattle.turn_book.proofs.laws.MorePosts.{obeys-more, settled-more}
use Rattle.turn_lock.specs.Seen.{ObeysPlan}
use Rattle.turn_lock.specs.Rule.{Serves, first_view}
use Rattle.turn_lock.specs.Seats.{joined_seat}
use Rattle.turn_lock.specs.declared.view.View.{View}
use Rattle.turn_lock.proofs.laws.FirstThreads.{first-has, first-below}
use Rattle.worker_run.specs.Bodies.{source_of_bodies}
use Rattle.worker_run.specs.declared.runner.Runner.{Runner}
use Rattle.worker_run.specs.Played.{IsPlayed, HasPlayed}
use Rattle.worker_run.specs.Served.{IsUnposted, IsRunning, runner_at, IsShare, AllOwe, IsOver}
use Rattle.worker_run.specs.Served.{IsServed, first_runners}
use Rattle.worker_run.specs.Tests.{IsNew}
use Rattle.worker_run.proofs.laws.RunsOver.{ended-over, same-trace, later-ends}

-- ---- before the first post
none-at : (n : ℕ) (post : Post) → slice_get [] n ≡ Some post → ⊥
none-at zero post e = cc
none-at (suc n) post e = cc

module _ {B : Type 0} (pending : B → Pending) where
  abbrev new_runner : B → Runner B
  new_runner body = record { body = body; answered = 0 }

  -- each body has its runner
  body-at : (bodies : List B) (t : ℕ) → t < length bodies
      → (r : Runner B) × (runner_at (first_runners bodies) t ≡ Some r)
  body-at [] t within = absurd (omega arith)
  body-at (b ∷ bodies) zero within = (new_runner b, refl)
  body-at (b ∷ bodies) (suc t) within = body-at bodies t (omega arith)

  runner-is : (bodies : List B) (t : ℕ) (r : Runner B) → runner_at (first_runners bodies) t ≡ Some r
      → (t < length bodies) × (pending_of (map pending bodies) t ≡ pending r.body)
      × (r.answered ≡ 0)
  runner-is [] t r is = absurd (let none = is in cc)
  runner-is (b ∷ bodies) zero r is =
      let same : new_runner b ≡ r = cc in (
        omega arith,
        ap (λ (x : Runner B). pending x.body) same,
        ap (λ (x : Runner B). x.answered) (sym same),
      )
  runner-is (b ∷ bodies) (suc t) r is = let rest = runner-is bodies t r is in
      (omega (arith, rest.0), rest.1, rest.2)

  module _ (bodies : List B) (runners : List (Option (Runner B)))
      (are : runners ≡ first_runners bodies) (v : View) (unposted : IsUnposted v.seen)
      (serves : (t : ℕ) → t < length bodies → Serves v t)
      (within : (t : ℕ) → Serves v t → t < length bodies) where
    no-answers : (t : ℕ) → answers_of t v.seen.trace ≡ []
    no-answers t = ap (answers_of t) unposted.steps

    first-running : (t : ℕ) (r : Runner B) → pending_of (map pending bodies) t ≡ pending r.body
        → r.answered ≡ 0 → IsRunning (pending_of (map pending bodies) t) (pending r.body) r.answered
        t v.seen
    first-running t r is count = record {
      follows =
          λ n post at. absurd (none-at n post
          (ap (λ l. slice_get l n) (sym (unposted.posts t)) ∙ at));
      next =
          λ answers. ap (λ (p : Pending). p answers) (sym is)
          ∙ ap (λ l. pending_of (map pending bodies) t (l ++ answers)) (sym (no-answers t));
      counted = count ∙ ap length (sym (no-answers t));
      few = omega (arith, ap length (unposted.posts t));
    }

    pub first-share : IsShare pending (pending_of (map pending bodies)) 0 runners v
    first-share = record {
      index = λ t here. let r = body-at bodies t (within t here) in
          (t, r.0, omega arith, ap (λ l. runner_at l t) are ∙ r.1);
      running = λ t index r of at.
          let is = runner-is bodies index r (ap (λ l. runner_at l index) (sym are) ∙ at) in
          let same : index ≡ t = omega (arith, of) in
          let P : ℕ → Type 0 = λ x. Serves v x
          × IsRunning (pending_of (map pending bodies) x) (pending r.body) r.answered x
          v.seen in
          subst P same (serves index is.0, first-running index r is.1 is.2);
    }

pub first-owe : (v : View) → IsUnposted v.seen → AllOwe v
first-owe v unposted t here =
    λ i. eqb (length (unposted.posts t i)) (length (own_events t (unposted.steps i)))

-- ---- by the end
get-replicate : {X : Type 0} (n k : ℕ) (x : X) → get_or (replicate n x) k x ≡ x
get-replicate zero k x = refl
get-replicate (suc n) zero x = refl
get-replicate (suc n) (suc k) x = get-replicate n k x

pub new-unposted : (deal : Deal) (limit : ℕ) (plan : Plan) → IsUnposted (new_book deal limit plan)
new-unposted deal limit plan = record {
  steps = refl;
  posts = λ t. let none : List Post = [] in get-replicate deal.threads t none;
}

-- a thread's answers so far are the first of all that it has had
answers-front : (t : ℕ) (trace before after : List Event) → trace ≡ before ++ after
    → take (length (own_events t before)) (answers_of t trace) ≡ answers_of t before
answers-front t trace before after cut =
    let all = ap (answers_of t) cut ∙ ap (map (λ (e : Event). e.answer))
    (filter-append (λ (e : Event). eqb e.thread t) before after)
    ∙ map-append (λ (e : Event). e.answer) (own_events t before) (own_events t after) in
    ap (take (length (own_events t before))) all
    ∙ ap (λ n. take n (answers_of t before ++ answers_of t after))
    (sym (length-map (own_events t before) (λ (e : Event). e.answer)))
    ∙ take-append_seam (answers_of t before) (answers_of t after)

module _ (made : BookState) (bodies : List Pending) (v w : View) (making : SameMaking made w.seen)
    (obeys : ObeysPlan w.seen) (unposted : IsUnposted v.seen)
    (all : (t : ℕ) → t < made.deal.threads → Serves v t)
    (served : IsServed (pending_of bodies) v w) where
  threads : (w.seen).deal.threads ≡ made.deal.threads
  threads = ap (λ (d : Deal). d.threads) making.deal

  over : IsOver w.seen
  over = elim served.done [
    | inl is ↦ is
    | inr ended ↦ ended-over w.seen obeys
        (served.speaks 0 (all 0 (let some = made.deal.some_thread in omega arith)))
        (λ t within. ended t (all t (omega (arith, threads))))
  ]

  keeps-own : (before after : List Event) (t : ℕ) (post : Post) → (w.seen).trace ≡ before ++ after
      → source_of (w.seen).posts t before ≡ Some post
      → (t < made.deal.threads) ⊎ (made.deal.threads ≤ t)
      → source_of_bodies bodies t before ≡ Some post
  keeps-own before after t post cut at (inl within) =
      ap Some (sym (served.follows t (all t within) (length (own_events t before)) post at
      ∙ ap (pending_of bodies t) (answers-front t (w.seen).trace before after cut)))
  keeps-own before after t post cut at (inr beyond) =
      absurd (none-at (length (own_events t before)) post
      (ap (λ l. slice_get l (length (own_events t before)))
      (sym (served.outside t (omega (arith, threads)) (unposted.posts t))) ∙ at))

  keeps : KeepsPosts (w.seen).trace (source_of (w.seen).posts) (source_of_bodies bodies)
  keeps before after t post cut at =
      keeps-own before after t post cut at (cases_lt t made.deal.threads)

  abbrev Making : Type 0
  Making = Plan × Deal × ℕ

  pub has-played : (w.seen).outcome ≡ outcome_after (w.seen).plan (w.seen).deal
      (source_of (w.seen).posts) (w.seen).limit (w.seen).trace → HasPlayed made bodies w.seen
  has-played told =
      let O : Making → Type 0 = λ m. Obeys m.0 m.1 (source_of (w.seen).posts) m.2 (w.seen).trace in
      let E : Making → Type 0 = λ m. outcome_after m.0 m.1 (source_of (w.seen).posts) m.2
      (w.seen).trace ≡ Some over.outcome in
      let P : Making → Type 0 = λ m. IsPlayed m.0 m.1 bodies m.2 (w.seen).trace over.outcome in
      let same : ((w.seen).plan, (w.seen).deal, (w.seen).limit)
      ≡ (made.plan, made.deal, made.limit) =
      λ i. (making.plan i, making.deal i, making.limit i) in
      record {
        outcome = over.outcome;
        stands = told ∙ over.ends;
        obeys = subst O same over.obeys;
        ends = subst E same over.ends;
        played = subst P same (record {
          obeys =
              obeys-more (w.seen).plan (w.seen).deal (source_of (w.seen).posts)
              (source_of_bodies bodies) (w.seen).limit (w.seen).trace keeps obeys;
          ends =
              settled-more (w.seen).plan (w.seen).deal (source_of (w.seen).posts)
              (source_of_bodies bodies) (w.seen).limit (w.seen).trace over.outcome over.speaks keeps
              obeys over.ends;
        });
      }

-- what a joined seat has seen says what became of the run
pub joined-outcome : (a b w : View) → w ≡ joined_seat a b
    → (w.seen).outcome ≡ outcome_after (w.seen).plan (w.seen).deal (source_of (w.seen).posts)
    (w.seen).limit (w.seen).trace
joined-outcome a b w is =
    subst (λ (x : View). (x.seen).outcome
    ≡ outcome_after (x.seen).plan (x.seen).deal (source_of (x.seen).posts) (x.seen).limit
    (x.seen).trace) (sym is) refl

-- ---- the closed lock's book
module _ (made seen book : BookState) (bodies : List Pending) (played : HasPlayed made bodies seen)
    (making : SameMaking made seen) (within : Within seen book) (lawful : IsLawful book) where
  abbrev seen-over : IsOver seen
  seen-over =
      let O : Plan × Deal × ℕ → Type 0 = λ m. Obeys m.0 m.1 (source_of seen.posts) m.2 seen.trace in
      let E : Plan × Deal × ℕ → Type 0 =
      λ m. outcome_after m.0 m.1 (source_of seen.posts) m.2 seen.trace ≡ Some played.outcome in
      let same : (made.plan, made.deal, made.limit) ≡ (seen.plan, seen.deal, seen.limit) =
      λ i. (sym making.plan i, sym making.deal i, sym making.limit i) in
      record {
        speaks =
            subst (λ (x : Plan × Deal). SpeaksOf x.0 (x.1).threads)
            (λ i. ((within.making).plan i, (within.making).deal i)) lawful.speaks;
        obeys = subst O same played.obeys;
        outcome = played.outcome;
        ends = subst E same played.ends;
      }

  pub closed-trace : book.trace ≡ seen.trace
  closed-trace = same-trace seen book within lawful.obeys seen-over

  pub closed-outcome : book.outcome ≡ Some played.outcome
  closed-outcome = lawful.outcome ∙ later-ends seen book within lawful.obeys seen-over

  pub closed-played : (events : List Event) (outcome : Outcome) → events ≡ book.trace
      → Some outcome ≡ book.outcome → IsPlayed made.plan made.deal bodies made.limit events outcome
  closed-played events outcome are is =
      let same : outcome ≡ played.outcome = let both = is ∙ closed-outcome in cc in
      let E : List Event → Type 0 = λ es.
      IsPlayed made.plan made.deal bodies made.limit es outcome in
      let O : Outcome → Type 0 = λ o. IsPlayed made.plan made.deal bodies made.limit seen.trace o in
      subst E (sym (are ∙ closed-trace)) (subst O (sym same) played.played)

-- ---- on the first seat of a new lock
module _ {B : Type 0} (pending : B → Pending) (bodies : List B) (deal : Deal) (limit : ℕ)
    (plan : Plan) (made : BookState) (v : View)
    (made_is : made ≡ new_book deal limit plan)
    (view_is : v ≡ first_view (new_book deal limit plan))
    (count : length bodies ≡ deal.threads) where
  pub here-range : AreInRange (sizes_of_deal deal) (map pending bodies)
      → AreInRange (sizes_of_deal made.deal) (map pending bodies)
  here-range in_range =
      subst (λ (b : BookState). AreInRange (sizes_of_deal b.deal) (map pending bodies))
      (sym made_is) in_range

  pub here-unposted : IsUnposted v.seen
  here-unposted =
      subst (λ (x : View). IsUnposted x.seen) (sym view_is) (new-unposted deal limit plan)

  pub here-serves : (t : ℕ) → t < length bodies → Serves v t
  here-serves t within =
      subst (λ (x : View). Serves x t) (sym view_is) (first-has deal.threads t (omega arith))

  pub here-within : (t : ℕ) → Serves v t → t < length bodies
  here-within t here =
      let below = first-below deal.threads t (subst (λ (x : View). Serves x t) view_is here) in
      omega arith

  pub here-all : (t : ℕ) → t < made.deal.threads → Serves v t
  here-all t within = here-serves t (omega (arith, ap (λ (b : BookState). b.deal.threads) made_is))

  pub here-share : (runners : List (Option (Runner B))) → runners ≡ first_runners bodies
      → IsShare pending (pending_of (map pending bodies)) 0 runners v
  here-share runners are =
      first-share pending bodies runners are v here-unposted here-serves here-within

  -- what was played by the lock is by what it was made with
  pub here-played : (starts : List Pending) (events : List Event) (outcome : Outcome)
      → IsPlayed made.plan made.deal starts made.limit events outcome
      → IsPlayed plan deal starts limit events outcome
  here-played starts events outcome is =
      subst (λ (b : BookState). IsPlayed b.plan b.deal starts b.limit events outcome) made_is is

-- ---- by the caller, over a book in which nothing has happened
module _ {B : Type 0} (pending : B → Pending) (bodies : List B) (made : BookState)
    (new : IsNew made)
    (count : length bodies ≡ made.deal.threads) where
  abbrev caller : View
  caller = first_view made

  abbrev sees : caller ≡ first_view (new_book made.deal made.limit made.plan)
  sees = ap (λ (b : BookState). first_view b) new.made

  pub caller-share : (runners : List (Option (Runner B))) → runners ≡ first_runners bodies
      → IsShare pending (pending_of (map pending bodies)) 0 runners caller
  caller-share =
      here-share pending bodies made.deal made.limit made.plan made caller new.made sees count

  pub caller-owes : AllOwe caller
  caller-owes =
      first-owe caller
      (here-unposted pending bodies made.deal made.limit made.plan made caller new.made sees count)

  pub caller-played : (book : BookState) → SameMaking made book
      → ((t : ℕ) → Serves caller t → IsLawful book)
      → IsServed (pending_of (map pending bodies)) caller (first_view book)
      → HasPlayed made (map pending bodies) book
  caller-played book making lawful served =
      let all = here-all pending bodies made.deal made.limit made.plan made caller new.made sees
      count in
      let some = made.deal.some_thread in
      let law = lawful 0 (all 0 (omega arith)) in
      has-played made (map pending bodies) caller (first_view book) making law.obeys
      (here-unposted pending bodies made.deal made.limit made.plan made caller new.made sees count)
      all served law.outcome

-- as many bodies as there are new runners
pub as-many-bodies : {B : Type 0} (bodies others : List B) (runners : List (Option (Runner B)))
    → runners ≡ first_runners bodies → runners ≡ first_runners others
    → length bodies ≡ length others
as-many-bodies {B} bodies others runners are same =
    let make : B → Option (Runner B) = λ body. Some (record { body = body; answered = 0 }) in
    omega (arith, length-map bodies make, length-map others make, ap length (sym are ∙ same))
