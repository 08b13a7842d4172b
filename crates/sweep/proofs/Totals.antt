-- Every order and points lead to a run: the next thread is one that may go, so that its step is
-- defined.
use Rattle.std.proofs.Common.{◌≡◌, ℕ, zero, suc, Bool, true, false, ◌&&◌, Option, Some}
use Rattle.std.proofs.Common.{None, List, [], ◌∷◌, ◌++◌, refl, sym, ap, ◌∙◌, inl, inr}
use Rattle.std.specs.Option.{option_map, option_and_then, option_map_or}
use Rattle.pct_ask.specs.declared.ask.Ask.{Ask}
use Rattle.pct_ask.specs.declared.ask.Post.{Post}
use Rattle.pct_ask.specs.declared.Deal.{Deal}
use Rattle.pct_ask.specs.declared.verdict.Verdict.{Verdict}
use Rattle.pct_ask.specs.Bodies.{Pending, pending_of}
use Rattle.rank_now.specs.Rank.{rank}
use Rattle.sync_store.specs.Store.{first_store}
use Rattle.sync_store.specs.Enabled.{enabled}
use Rattle.sync_store.specs.Effect.{effect}
use Rattle.sync_store.specs.World.{Source, World, first_world, has_ended, answers_of, with_effect}
use Rattle.sync_store.specs.World.{world_from, world_after}
use Rattle.policy_pick.specs.Laws.Finds.{found-or-none}
use Rattle.turn_book.proofs.laws.Worlds.{Steps, step-is, world_from-append}
use Rattle.worker_run.specs.Bodies.{source_of_bodies}
use Rattle.worker_run.specs.Run.{Setting, Next, Over, Goes, Run, may_go, goes_first}
use Rattle.worker_run.specs.Run.{next_of, next_thread, next_after, cut_at, go_on, run_from, run}

left-of : (a b : Bool) → a && b ≡ true → a ≡ true
left-of true b e = refl
left-of false b e = absurd cc

-- a thread that may go asks for something, and may have it
goes-by : (allowed : Ask → Bool) (asked : Option Ask) → option_map_or allowed asked false ≡ true
    → (ask : Ask) × (asked ≡ Some ask) × (allowed ask ≡ true)
goes-by allowed None e = absurd cc
goes-by allowed (Some ask) e = (ask, refl, e)

module _ (deal : Deal) (bodies : List Pending) (rank_after : List ℕ → ℕ → ℕ) where
  abbrev setting : Setting
  setting = record { deal = deal; bodies = bodies; rank_after = rank_after }

  abbrev source : Source
  source = source_of_bodies bodies

  next-goes : (world : World) (verdict : Option Verdict) (next : Option ℕ) (t : ℕ)
      → next_of setting world verdict next ≡ Goes t → (verdict ≡ None) × (next ≡ Some t)
  next-goes world (Some verdict) next t e = absurd cc
  next-goes world None None t e = absurd cc
  next-goes world None (Some u) t e = let same : u ≡ t = cc in (refl, ap Some same)

  found-goes : (schedule : List ℕ) (world : World) (t : ℕ)
      → next_thread setting schedule world ≡ Some t → may_go setting world t ≡ true
  found-goes schedule world t is =
      elim (found-or-none (goes_first setting schedule world) deal.threads) [
        | inl found ↦
            let both : Some found.0 ≡ Some t = sym found.1 ∙ is in
            let same : found.0 ≡ t = cc in
            ap (may_go setting world) (sym same) ∙ left-of (may_go setting world found.0) _
            found.2.passes
        | inr none ↦ absurd (let e : None ≡ Some t = sym none.0 ∙ is in cc)
      ]

  steps-on : (schedule : List ℕ) (world : World) (t : ℕ)
      → world_after (first_store deal) source schedule ≡ Some world
      → next_after setting schedule world ≡ Goes t
      → (next : World)
      × (world_after (first_store deal) source (schedule ++ t ∷ []) ≡ Some next)
  steps-on schedule world t at next =
      let parts = next-goes world world.verdict (next_thread setting schedule world) t next in
      let post : Post = pending_of bodies t (answers_of t world.events) in
      let may = goes-by
      (enabled world.store (has_ended (source_of_bodies bodies) world.events) t)
      post.ask (found-goes schedule world t parts.1) in
      let new : World = with_effect world t post.line may.0
      (effect world.store t post.line may.0) in
      let steps : Steps source world t new = record {
        post = post;
        ask = may.0;
        runs = parts.0;
        posted = refl;
        asks = may.1;
        goes = may.2;
        next_is = refl;
      } in (
        new,
        world_from-append source schedule (t ∷ []) (first_world (first_store deal))
            ∙ ap (option_and_then (λ w. world_from source w (t ∷ []))) at
            ∙ ap (option_and_then (λ w. world_from source w [])) (step-is source world t new steps),
      )

  -- a run that may have no more steps ends here
  ends-here : (schedule : List ℕ) (world : World) (next : Next)
      → world_after (first_store deal) source schedule ≡ Some world
      → next_after setting schedule world ≡ next
      → run_from setting zero schedule ≡ Some (cut_at world next)
  ends-here schedule world next at is =
      ap (option_map (λ w. cut_at w (next_after setting schedule w))) at
      ∙ ap (λ n. Some (cut_at world n)) is

  -- any other is over, or goes on
  goes-on : (left : ℕ) (schedule : List ℕ) (world : World) (next : Next)
      → world_after (first_store deal) source schedule ≡ Some world
      → next_after setting schedule world ≡ next
      → run_from setting (suc left) schedule
      ≡ go_on world (λ t. run_from setting left (schedule ++ t ∷ [])) next
  goes-on left schedule world next at is =
      ap (option_and_then (λ w. go_on w (λ t. run_from setting left (schedule ++ t ∷ []))
      (next_after setting schedule w))) at
      ∙ ap (go_on world (λ t. run_from setting left (schedule ++ t ∷ []))) is

  some-run : (world : World) (further : ℕ → Option Run) (next : Next)
      → ((t : ℕ) → next ≡ Goes t → (ran : Run) × (further t ≡ Some ran))
      → (ran : Run) × (go_on world further next ≡ Some ran)
  some-run world further (Over verdict) more = ((world.events, verdict), refl)
  some-run world further (Goes t) more = more t refl

  runs-from : (left : ℕ) (schedule : List ℕ) (world : World)
      → world_after (first_store deal) source schedule ≡ Some world
      → (ran : Run) × (run_from setting left schedule ≡ Some ran)
  runs-from zero schedule world at =
      let next = next_after setting schedule world in
      (cut_at world next, ends-here schedule world next at refl)
  runs-from (suc left) schedule world at =
      let next = next_after setting schedule world in
      let ran = some-run world (λ t. run_from setting left (schedule ++ t ∷ [])) next
      (λ t is.
      let step = steps-on schedule world t at is in
      runs-from left (schedule ++ t ∷ []) step.0 step.1) in
      (ran.0, goes-on left schedule world next at refl ∙ ran.1)

pub runs : (deal : Deal) (bodies : List Pending) (order points : List ℕ) (limit : ℕ)
    → (ran : Run) × (run deal bodies order points limit ≡ Some ran)
runs deal bodies order points limit =
    runs-from deal bodies (rank order points) limit [] (first_world (first_store deal)) refl
