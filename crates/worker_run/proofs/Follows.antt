-- Steps that obey an order over bodies and are settled are its run, whose verdict is the outcome.
use Rattle.std.proofs.Common.{◌≡◌, ℕ, zero, suc, ◌+◌, eqb, Option, Some, None, List, [], ◌∷◌, ◌++◌}
use Rattle.std.proofs.Common.{length, refl, sym, ap, subst, ◌∙◌, arith, eq-eqb, ne_eqb}
use Rattle.std.specs.Option.{option_map, option_and_then}
use Rattle.std.proofs.lemmas.List.{append-nil, append_assoc, map-append, length-append}
use Rattle.pct_ask.specs.declared.Deal.{Deal}
use Rattle.pct_ask.specs.declared.event.Event.{Event}
use Rattle.pct_ask.specs.declared.verdict.Verdict.{Verdict}
use Rattle.pct_ask.specs.declared.verdict.Verdict.TheVariants.{Cut}
use Rattle.pct_ask.specs.declared.verdict.Outcome.{Outcome}
use Rattle.pct_ask.specs.declared.verdict.Outcome.TheVariants.{Verdict as Ends}
use Rattle.pct_ask.specs.Bodies.{Pending}
use Rattle.rank_now.specs.declared.moment.Moment.{Moment}
use Rattle.rank_now.specs.Rank.{rank, rank_by_moments}
use Rattle.sync_store.specs.Store.{first_store}
use Rattle.sync_store.specs.World.{Source, World, world_after}
use Rattle.policy_pick.specs.declared.chance.Pick.TheVariants.{Thread}
use Rattle.policy_pick.specs.Plan.{Plan, ByPoints, ByMoments, SpeaksOf}
use Rattle.turn_book.specs.Posts.{schedule_of}
use Rattle.turn_book.specs.Chances.{rest_verdict}
use Rattle.turn_book.specs.Obeys.{next_posts_in, choice_in, outcome_by_pick, outcome_by}
use Rattle.turn_book.proofs.laws.Worlds.{IsMade, made-from, last-step}
use Rattle.turn_book.proofs.laws.MorePosts.{choice-at, settled-at}
use Rattle.worker_run.specs.Bodies.{source_of_bodies}
use Rattle.worker_run.specs.Run.{Setting, Over, Goes, next_of, next_thread, next_after, cut_at}
use Rattle.worker_run.specs.Run.{go_on, run_from, run, directed_run}
use Rattle.worker_run.specs.Played.{IsPlayed, IsRun}
use Rattle.worker_run.proofs.laws.KnownPosts.{pick_of, pick_of-thread, points-pick, events-pick}

module _ (plan : Plan) (deal : Deal) (bodies : List Pending) (rank_after : List ℕ → ℕ → ℕ) where
  abbrev setting : Setting
  setting = record { deal = deal; bodies = bodies; rank_after = rank_after }

  abbrev source : Source
  source = source_of_bodies bodies

  abbrev rest_of : World → Verdict
  rest_of world = rest_verdict deal.threads world.store (next_posts_in source world)

  -- what comes after some steps settles the run
  over : (left : ℕ) (schedule : List ℕ) (world : World) (verdict : Verdict)
      → world_after (first_store deal) source schedule ≡ Some world
      → next_after setting schedule world ≡ Over verdict
      → run_from setting left schedule ≡ Some (world.events, verdict)
  over zero schedule world verdict at next =
      ap (option_map (λ w. cut_at w (next_after setting schedule w))) at
      ∙ ap (λ n. Some (cut_at world n)) next
  over (suc left) schedule world verdict at next =
      ap (option_and_then (λ w. go_on w (λ t. run_from setting left (schedule ++ t ∷ []))
      (next_after setting schedule w))) at
      ∙ ap (go_on world (λ t. run_from setting left (schedule ++ t ∷ []))) next

  -- or cuts it
  cut : (schedule : List ℕ) (world : World) (t : ℕ)
      → world_after (first_store deal) source schedule ≡ Some world
      → next_after setting schedule world ≡ Goes t
      → run_from setting 0 schedule ≡ Some (world.events, Cut)
  cut schedule world t at next =
      ap (option_map (λ w. cut_at w (next_after setting schedule w))) at
      ∙ ap (λ n. Some (cut_at world n)) next

  -- or it goes on
  goes : (left : ℕ) (schedule : List ℕ) (world : World) (t : ℕ)
      → world_after (first_store deal) source schedule ≡ Some world
      → next_after setting schedule world ≡ Goes t
      → run_from setting (suc left) schedule ≡ run_from setting left (schedule ++ t ∷ [])
  goes left schedule world t at next =
      ap (option_and_then (λ w. go_on w (λ t. run_from setting left (schedule ++ t ∷ []))
      (next_after setting schedule w))) at
      ∙ ap (go_on world (λ t. run_from setting left (schedule ++ t ∷ []))) next

  next-is : (schedule : List ℕ) (world : World) (verdict : Option Verdict) (next : Option ℕ)
      → world.verdict ≡ verdict → next_thread setting schedule world ≡ next
      → next_after setting schedule world ≡ next_of setting world verdict next
  next-is schedule world verdict next ends goes_on = λ j. next_of setting world (ends j) (goes_on j)

  module _ (limit : ℕ) (events : List Event) (outcome : Outcome)
      (played : IsPlayed plan deal bodies limit events outcome)
      (picks : (schedule : List ℕ) (world : World)
      → choice_in plan deal.threads source schedule world
      ≡ pick_of (next_thread setting schedule world)) where
    module _ (world : World) (made : IsMade (first_store deal) source events world) where
      last-by : (left : ℕ) (verdict : Option Verdict) (next : Option ℕ)
          → length events + left ≡ limit → world.verdict ≡ verdict
          → next_thread setting (schedule_of events) world ≡ next
          → outcome_by verdict (outcome_by_pick (rest_of world) (eqb (length events) limit)
          (pick_of next)) ≡ Some outcome
          → IsRun (run_from setting left (schedule_of events)) events outcome
      last-by left (Some verdict) next room ends goes_on e = record {
        verdict = verdict;
        ends = (let same : Ends verdict ≡ outcome = cc in sym same);
        steps =
            over left (schedule_of events) world verdict made.at
            (next-is (schedule_of events) world (Some verdict) next ends goes_on)
            ∙ ap (λ es. Some (es, verdict)) made.trace;
      }
      last-by left None None room ends goes_on e = record {
        verdict = rest_of world;
        ends = (let same : Ends (rest_of world) ≡ outcome = cc in sym same);
        steps =
            over left (schedule_of events) world (rest_of world) made.at
            (next-is (schedule_of events) world None None ends goes_on)
            ∙ ap (λ es. Some (es, rest_of world)) made.trace;
      }
      last-by zero None (Some t) room ends goes_on e = record {
        verdict = Cut;
        ends =
            (let reached = ap (λ b. outcome_by_pick (rest_of world) b (Thread t))
            (eq-eqb (length events) limit (omega arith)) in let both = sym reached ∙ e in
            let same : Ends Cut ≡ outcome = cc in sym same);
        steps =
            cut (schedule_of events) world t made.at
            (next-is (schedule_of events) world None (Some t) ends goes_on)
            ∙ ap (λ es. Some (es, Cut)) made.trace;
      }
      last-by (suc left) None (Some t) room ends goes_on e =
          absurd (let short = ap (λ b. outcome_by_pick (rest_of world) b (Thread t))
          (ne_eqb (length events) limit (λ same. omega arith)) in let both = sym short ∙ e in
          cc)

      last : (left : ℕ) → length events + left ≡ limit
          → IsRun (run_from setting left (schedule_of events)) events outcome
      last left room =
          last-by left world.verdict (next_thread setting (schedule_of events) world) room refl refl
          (ap (λ p. outcome_by world.verdict
          (outcome_by_pick (rest_of world) (eqb (length events) limit) p))
          (sym (picks (schedule_of events) world))
          ∙ sym (settled-at plan deal source limit events world made) ∙ played.ends)

    follow : (left : ℕ) (before after : List Event) → events ≡ before ++ after
        → length before + left ≡ limit → IsRun (run_from setting left (schedule_of before)) events
        outcome
    follow left before [] whole room =
        let same : events ≡ before = whole ∙ append-nil before in
        let w = made-from (first_store deal) source events (played.obeys).made in
        let P : List Event → Type 0 = λ es.
        IsRun (run_from setting left (schedule_of es)) events outcome in
        subst P same (last w.0 w.1 left (ap (λ es. length es + left) same ∙ room))
    follow zero before (e ∷ after) whole room =
        absurd (omega (
          arith,
          (played.obeys).within,
          ap length whole,
          length-append before (e ∷ after),
        ))
    follow (suc left) before (e ∷ after) whole room =
        let w = made-from (first_store deal) source events (played.obeys).made in
        let M : List Event → Type 0 = λ es. IsMade (first_store deal) source es w.0 in
        let p = last-step (first_store deal) source before after e w.0 (subst M whole w.1) in
        let world = p.0 in
        let chosen : choice_in plan deal.threads source (schedule_of before) world
        ≡ Thread e.thread = let both = sym (choice-at plan deal source before world p.1)
        ∙ (played.obeys).chosen before after e whole in cc in
        let next = pick_of-thread (next_thread setting (schedule_of before) world) e.thread
        (sym (picks (schedule_of before) world) ∙ chosen) in
        let rest = follow left (before ++ e ∷ []) after
        (whole ∙ sym (append_assoc before (e ∷ []) after))
        (omega (arith, length-append before (e ∷ []))) in
        let step = goes left (schedule_of before) world e.thread (p.1).at
        (next-is (schedule_of before) world None (Some e.thread) (p.2.1).runs next)
        ∙ ap (run_from setting left) (sym (map-append (λ (x : Event). x.thread) before (e ∷ []))) in
        record { verdict = rest.verdict; ends = rest.ends; steps = step ∙ rest.steps }

    whole-run : IsRun (run_from setting limit []) events outcome
    whole-run = follow limit [] events refl (omega arith)

-- With an order and change points they are the run, and its verdict is the outcome.
pub points-run : (deal : Deal) (bodies : List Pending) (order points : List ℕ) (limit : ℕ)
    (events : List Event) (outcome : Outcome) → SpeaksOf (ByPoints order points) deal.threads
    → IsPlayed (ByPoints order points) deal bodies limit events outcome
    → IsRun (run deal bodies order points limit) events outcome
points-run deal bodies order points limit events outcome speaks played =
    whole-run (ByPoints order points) deal bodies (rank order points) limit events outcome played
    (λ schedule world. points-pick deal bodies schedule world order points speaks)

-- With moments in the place of change points they are the directed run.
pub moments-run : (deal : Deal) (bodies : List Pending) (order : List ℕ) (moments : List Moment)
    (limit : ℕ) (events : List Event) (outcome : Outcome)
    → SpeaksOf (ByMoments order moments) deal.threads
    → IsPlayed (ByMoments order moments) deal bodies limit events outcome
    → IsRun (directed_run deal bodies order moments limit) events outcome
moments-run deal bodies order moments limit events outcome speaks played =
    whole-run (ByMoments order moments) deal bodies (rank_by_moments order moments) limit events
    outcome played (λ schedule world.
    events-pick deal bodies schedule world order moments speaks)
