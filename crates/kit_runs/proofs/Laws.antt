-- What those who write tests may cite of runs.
use Rattle.std.proofs.Common.{◌≡◌, ℕ, zero, suc, ◌≤◌, List, [], ◌∷◌, ◌++◌, length, Some, refl, sym}
use Rattle.std.proofs.Common.{ap, subst, ◌∙◌, inl, inr, arith}
use Rattle.std.specs.Prelude.{slice_get, ◌⊎◌}
use Rattle.pct_ask.specs.declared.deal.Deal.{Deal}
use Rattle.pct_ask.specs.declared.event.Event.{Event}
use Rattle.pct_ask.specs.declared.verdict.Verdict.{Verdict}
use Rattle.pct_ask.specs.declared.verdict.Outcome.TheVariants.{Verdict as Ends}
use Rattle.pct_ask.specs.Bodies.{Pending}
use Rattle.policy_pick.specs.Plan.{Plan}
use Rattle.turn_book.specs.Told.{BookState, new_book}
use Rattle.turn_book.specs.Posts.{source_of}
use Rattle.turn_book.proofs.laws.MorePosts.{obeys-more, settled-more}
use Rattle.worker_run.specs.Bodies.{source_of_bodies}
use Rattle.worker_run.specs.Played.{IsPlayed}
use Rattle.kit_runs.specs.Runs.{IsRunOfBook}
use Rattle.kit_runs.specs.Laws.{ArePostsOf}

-- a run has no more steps than it may have
pub run-short : (first : BookState) (events : List Event) (verdict : Verdict)
    → IsRunOfBook first events verdict → length events ≤ first.limit
run-short first events verdict run =
    let inside = run.lawful.obeys.within in
    let same = ap length run.trace in
    let limit = run.making.limit in
    omega (arith, inside, same, limit)

-- the run was played over the bodies
pub ports-played : (deal : Deal) (plan : Plan) (limit : ℕ) (events : List Event)
    (verdict : Verdict) (bodies : List Pending)
    (made : IsRunOfBook (new_book deal limit plan) events verdict) → ArePostsOf bodies made.book
    → IsPlayed plan deal bodies limit events (Ends verdict)
ports-played deal plan limit events verdict bodies made posts =
    let book = made.book in
    let later = source_of_bodies bodies in
    let played : IsPlayed book.plan book.deal bodies book.limit book.trace (Ends verdict) = record {
      obeys = obeys-more book.plan book.deal (source_of book.posts) later book.limit book.trace
          posts (made.lawful).obeys;
      ends = settled-more book.plan book.deal (source_of book.posts) later book.limit book.trace
          (Ends verdict) (made.lawful).speaks posts (made.lawful).obeys
          (sym (made.lawful).outcome ∙ made.outcome);
    } in
    subst (λ (x : Plan × Deal × ℕ × List Event). IsPlayed x.0 x.1 bodies x.2 x.3 (Ends verdict))
    (λ i. ((made.making).plan i, (made.making).deal i, (made.making).limit i, made.trace i)) played

-- ---- lists
-- what stands in a list with one more at its end
pub at-end : {X : Type 0} (xs : List X) (x y : X) (k : ℕ) → slice_get (xs ++ x ∷ []) k ≡ Some y
    → (slice_get xs k ≡ Some y) ⊎ ((k ≡ length xs) × (x ≡ y))
at-end [] x y zero is = inr (refl, let same = is in cc)
at-end [] x y (suc k) is = absurd cc
at-end (z ∷ xs) x y zero is = inl is
at-end (z ∷ xs) x y (suc k) is = elim (at-end xs x y k is) [
  | inl before ↦ inl before
  | inr last ↦ inr (ap (λ n. suc n) last.0, last.1)
]
