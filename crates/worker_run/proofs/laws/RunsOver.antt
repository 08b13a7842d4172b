-- When a run is over, by what was posted: where every thread has ended, and later on where it was
-- over before.
use Rattle.std.proofs.Common.{◌≡◌, ℕ, ◌<◌, Bool, true, false, eqb, Option, Some, None, List, []}
use Rattle.std.proofs.Common.{◌∷◌, ◌++◌, length, refl, sym, ap, subst, ◌∙◌, arith}
use Rattle.std.proofs.lemmas.List.{append-nil}
use Rattle.std.proofs.lemmas.List.FromFn.{length-map-range_with_len, get_or-map-range_with_len}
use Rattle.pct_ask.specs.declared.ask.Ask.{Ask}
use Rattle.pct_ask.specs.declared.ask.Post.{Post}
use Rattle.pct_ask.specs.declared.Deal.{Deal}
use Rattle.pct_ask.specs.declared.event.Event.{Event}
use Rattle.pct_ask.specs.declared.event.Standing.TheVariants.{Ended as HasEnded}
use Rattle.pct_ask.specs.declared.verdict.Verdict.{Verdict}
use Rattle.pct_ask.specs.declared.verdict.Outcome.{Outcome}
use Rattle.sync_store.specs.Store.{first_store}
use Rattle.sync_store.specs.World.{Source, World}
use Rattle.policy_pick.specs.declared.chance.Chance.{Chance}
use Rattle.policy_pick.specs.declared.chance.Chance.TheVariants.{Ended}
use Rattle.policy_pick.specs.declared.chance.Pick.{Pick}
use Rattle.policy_pick.specs.declared.chance.Pick.TheVariants.{Thread, Waits, Nobody, Departs}
use Rattle.policy_pick.specs.Plan.{Plan, SpeaksOf}
use Rattle.policy_pick.specs.Choice.{chance_of, is_known}
use Rattle.turn_book.specs.Chances.{is_unknown, is_ended, chance_of_ask, chance_of_post, chance}
use Rattle.turn_book.specs.Chances.{chances, rest_verdict}
use Rattle.turn_book.specs.Posts.{schedule_of, source_of}
use Rattle.turn_book.specs.Obeys.{next_posts_in, choice_in, outcome_by_pick, outcome_by}
use Rattle.turn_book.specs.Obeys.{outcome_after}
use Rattle.turn_book.specs.Told.{BookState, Within, next_post, standing_by_ask, standing_by}
use Rattle.turn_book.specs.Told.{standing_of}
use Rattle.turn_book.proofs.laws.Worlds.{IsMade, made-from}
use Rattle.turn_book.proofs.laws.MorePosts.{chosen-ready, settled-at, settled-more}
use Rattle.turn_book.proofs.laws.Prefixes.{goes-on}
use Rattle.turn_book.proofs.laws.OwnSteps.{more-keeps}
use Rattle.turn_lock.specs.Seen.{ObeysPlan}
use Rattle.worker_run.specs.Served.{IsOver}
use Rattle.worker_run.proofs.laws.KnownPosts.{known-no-wait}

-- ---- every thread has ended
ended-post : (o : Option Post) → standing_by o ≡ HasEnded
    → (post : Post) × (o ≡ Some post) × (post.ask ≡ None)
ended-post None e = absurd cc
ended-post (Some post) e = (post, refl, by post.ask e) where
  by : (ask : Option Ask) → standing_by_ask ask ≡ HasEnded → ask ≡ None
  by None e = refl
  by (Some ask) e = absurd cc

over-by : (rest : Verdict) (full : Bool) (verdict : Option Verdict) (pick : Pick)
    → ((t : ℕ) → pick ≡ Thread t → ⊥) → ((u : ℕ) → pick ≡ Waits u → ⊥)
    → (o : Outcome) × (outcome_by verdict (outcome_by_pick rest full pick) ≡ Some o)
over-by rest full (Some verdict) pick goes waits = (_, refl)
over-by rest full None (Thread t) goes waits = absurd (goes t refl)
over-by rest full None (Waits u) goes waits = absurd (waits u refl)
over-by rest full None Nobody goes waits = (_, refl)
over-by rest true None (Departs u) goes waits = (_, refl)
over-by rest false None (Departs u) goes waits = (_, refl)

module _ (book : BookState) (obeys : ObeysPlan book) (speaks : SpeaksOf book.plan book.deal.threads)
    (ended : (t : ℕ) → t < book.deal.threads → standing_of book t ≡ HasEnded) where
  abbrev source : Source
  source = source_of book.posts

  -- the world after the book's steps
  abbrev made : (world : World) × IsMade (first_store book.deal) source book.trace world
  made = made-from (first_store book.deal) source book.trace obeys.made

  abbrev all : List Chance
  all = chances book.deal.threads (made.0).store (next_posts_in source made.0)

  long : length all ≡ book.deal.threads
  long =
      length-map-range_with_len (chance (made.0).store (next_posts_in source made.0)) 0
      book.deal.threads

  speaks-all : SpeaksOf book.plan (length all)
  speaks-all = let Speaks : ℕ → Type 0 = SpeaksOf book.plan in subst Speaks (sym long) speaks

  ended-chance : (t : ℕ) → t < book.deal.threads → chance_of all t ≡ Ended
  ended-chance t within =
      let next = next_posts_in source made.0 in
      let p = ended-post (next_post book t) (ended t within) in
      get_or-map-range_with_len (chance (made.0).store next) 0 book.deal.threads t t Ended within
      (omega arith)
      ∙ ap (chance_of_post (made.0).store (is_unknown next) (is_ended next) t)
      (ap (source t) (made.1).trace ∙ p.1)
      ∙ ap (chance_of_ask (made.0).store (is_unknown next) (is_ended next) t) p.2

  nobody-goes : (t : ℕ) → choice_in book.plan book.deal.threads source (schedule_of book.trace)
      made.0 ≡ Thread t → ⊥
  nobody-goes t goes =
      let ready = chosen-ready book.plan (schedule_of book.trace) all t speaks-all goes in
      let both = sym (ended-chance t (let there = ready.0 in omega (arith, long))) ∙ ready.1 in
      cc

  nobody-waits : (u : ℕ) → choice_in book.plan book.deal.threads source (schedule_of book.trace)
      made.0 ≡ Waits u → ⊥
  nobody-waits u waits =
      known-no-wait book.plan (schedule_of book.trace) all u speaks-all
      (λ t within. ap is_known (ended-chance t (omega (arith, long)))) waits

  pub ended-over : IsOver book
  ended-over =
      let o = over-by (rest_verdict book.deal.threads (made.0).store (next_posts_in source made.0))
      (eqb (length book.trace) book.limit) (made.0).verdict
      (choice_in book.plan book.deal.threads source (schedule_of book.trace) made.0) nobody-goes
      nobody-waits in
      record {
        speaks = speaks;
        obeys = obeys;
        outcome = o.0;
        ends = settled-at book.plan book.deal source book.limit book.trace made.0 made.1 ∙ o.1;
      }

-- ---- what was over stays so
module _ (one other : BookState) (within : Within one other) where
  pub speaks-later : SpeaksOf one.plan one.deal.threads → SpeaksOf other.plan other.deal.threads
  speaks-later speaks =
      subst (λ (x : Plan × Deal). SpeaksOf x.0 (x.1).threads)
      (λ i. (sym (within.making).plan i, sym (within.making).deal i)) speaks

  module _ (obeys : ObeysPlan other) (over : IsOver one) where
    -- by the later posts
    ends-more : outcome_after other.plan other.deal (source_of other.posts) other.limit one.trace
        ≡ Some over.outcome
    ends-more =
        let is = settled-more one.plan one.deal (source_of one.posts) (source_of other.posts)
        one.limit one.trace over.outcome over.speaks
        (more-keeps one.trace one.posts other.posts within.posts) over.obeys over.ends in
        subst (λ (x : Plan × Deal × ℕ). outcome_after x.0 x.1 (source_of other.posts) x.2 one.trace
        ≡ Some over.outcome) (λ i. (
          sym (within.making).plan i,
          sym (within.making).deal i,
          sym (within.making).limit i,
        )) is

    by : (rest : List Event) → other.trace ≡ one.trace ++ rest → other.trace ≡ one.trace
    by [] cut = cut ∙ append-nil one.trace
    by (e ∷ rest) cut =
        absurd (let none = sym (goes-on other.plan other.deal (source_of other.posts) other.limit
        other.trace one.trace rest e obeys cut) ∙ ends-more in cc)

    pub same-trace : other.trace ≡ one.trace
    same-trace = by within.rest within.trace

    pub later-ends : outcome_after other.plan other.deal (source_of other.posts) other.limit
        other.trace ≡ Some over.outcome
    later-ends =
        ap (outcome_after other.plan other.deal (source_of other.posts) other.limit) same-trace
        ∙ ends-more

    pub over-later : IsOver other
    over-later = record {
      speaks = speaks-later over.speaks;
      obeys = obeys;
      outcome = over.outcome;
      ends = later-ends;
    }
