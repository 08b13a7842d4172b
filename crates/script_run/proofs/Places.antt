-- Tests and runs of places that come one after another.
use Rattle.std.proofs.Common.{◌≡◌, ℕ, ◌+◌, ◌<◌, List, [], ◌∷◌, ◌++◌, Some, Result, Ok, Err}
use Rattle.std.proofs.Common.{Vec, Global, length, get_or, sym, ap, subst, ◌∙◌, arith}
use Rattle.std.specs.Prelude.{IfOk}
use Rattle.std.proofs.lemmas.Option.{slice_get_within, slice_get-get_or}
use Rattle.pct_ask.specs.Bodies.{Pending}
use Rattle.rank_now.specs.declared.moment.Moment.{Moment}
use Rattle.policy_pick.specs.Plan.{Plan, ByPoints, ByMoments}
use Rattle.worker_run.specs.Run.{run, directed_run}
use Rattle.worker_run.specs.Played.{IsPlayed, IsRun}
use Rattle.worker_run.specs.Batch.{Each}
use Rattle.worker_run.specs.Tests.{IsRunOf, bodies_in}
use Rattle.worker_run.specs.declared.batch.Test.{Test}
use Rattle.worker_run.specs.declared.played.Played.{Played}
use Rattle.worker_run.proofs.laws.ItemsByIndex.{items-more, get-within}
use Rattle.script_run.specs.Tests.{Tries}
use Rattle.script_run.specs.Batches.{FromPlace}

module _ {X : Type 0} (At : ℕ → X → Type 0) (first : ℕ) where
  pub no-items : (items : List X) → items ≡ [] → FromPlace At first items
  no-items items none =
      let F : List X → Type 0 = FromPlace At first in subst F (sym none) (λ i item at. absurd cc)

  pub one-more : (place : ℕ) (items new : List X) (item : X) → place ≡ first + length items
      → new ≡ items ++ item ∷ [] → At place item → FromPlace At first items
      → FromPlace At first new
  one-more place items new item at are is all =
      let F : List X → Type 0 = FromPlace At first in
      let A : ℕ → Type 0 = λ p. At p item in
      subst F (sym are) (items-more (λ i. At (first + i)) items item all (subst A at is))

  -- the item of a place
  pub item-at : (i place : ℕ) (items : List X) (item : X) → place ≡ first + i → i < length items
      → item ≡ get_or items i item → FromPlace At first items → At place item
  item-at i place items item at within is all =
      let A : ℕ → Type 0 = λ p. At p item in
      subst A (sym at) (all i item (slice_get-get_or items i item within ∙ ap Some (sym is)))

module _ {P : Type 0} {B : Type 0} {E : Type 0} (pending : B → Pending) (plan : P → Plan)
    (Asked : ℕ → Played → Type 0) where
  -- what is asked of the runs holds of those that were made
  pub all-ran : (first : ℕ) (tests : List (Test P B)) (made : Result (Vec Played Global) E)
      → FromPlace (λ place. Tries pending plan (Asked place)) first tests
      → IfOk made (λ runs. Each (IsRunOf pending plan) tests runs.items)
      → IfOk made (λ runs. FromPlace Asked first runs.items)
  all-ran first tests (Ok runs) try ran = λ i played at.
      let within : i < length tests =
      omega (arith, slice_get_within runs.items i played at, ran.long) in
      let found = get-within tests i within in
      try i found.0 found.1 played (ran.each i found.0 played found.1 at)
  all-ran first tests (Err e) try ran = tt

  pub as-many : (first end : ℕ) (tests : List (Test P B)) (made : Result (Vec Played Global) E)
      → first + length tests ≡ end
      → IfOk made (λ runs. Each (IsRunOf pending plan) tests runs.items)
      → IfOk made (λ runs. first + length runs.items ≡ end)
  as-many first end tests (Ok runs) long ran = omega (arith, ran.long, long)
  as-many first end tests (Err e) long ran = tt

-- what is promised of a run, in one
pub one-ran : {P : Type 0} {B : Type 0} {E : Type 0} (pending : B → Pending) (plan : P → Plan)
    (test : Test P B) (limit : ℕ) (made : Result Played E) → limit ≡ test.limit
    → IfOk made (λ p. IsPlayed (plan test.policy) test.deal (bodies_in pending plan test) limit
    p.events p.outcome)
    → ((order points : List ℕ) → plan test.policy ≡ ByPoints order points → IfOk made (λ p.
    IsRun (run test.deal (bodies_in pending plan test) order points limit) p.events p.outcome))
    → ((order : List ℕ) (moments : List Moment) → plan test.policy ≡ ByMoments order moments
    → IfOk made (λ p. IsRun (directed_run test.deal (bodies_in pending plan test) order moments
    limit) p.events p.outcome)) → IfOk made (IsRunOf pending plan test)
one-ran pending plan test limit (Ok ended) same played by_points by_moments =
    let bodies = bodies_in pending plan test in
    record {
      played = subst (λ (most : ℕ). IsPlayed (plan test.policy) test.deal bodies most ended.events
          ended.outcome) same played;
      by_points =
          λ order points is. subst (λ (most : ℕ). IsRun (run test.deal bodies order points most)
          ended.events ended.outcome) same (by_points order points is);
      by_moments =
          λ order moments is. subst (λ (most : ℕ).
          IsRun (directed_run test.deal bodies order moments most) ended.events ended.outcome) same
          (by_moments order moments is);
    }
one-ran pending plan test limit (Err e) same played by_points by_moments = tt
