use Rattle.std.proofs.Common.{◌<◌, map, arith, refl, sym, ap, subst, ◌∙◌}
use Rattle.std.proofs.lemmas.List.{length-map}
use Rattle.std.proofs.lemmas.List.Elements.{All-map}
use Rattle.pct_ask.specs.declared.Deal.{Deal}
use Rattle.pct_ask.specs.declared.event.Event.{Event}
use Rattle.pct_ask.specs.Objects.{sizes_of_deal}
use Rattle.pct_ask.specs.Bodies.{AreInRange}
use Rattle.script_body.specs.BodyPosts.{pending_of_body}
use Rattle.policy_pick.specs.Plan.{Plan, ByList, SpeaksOf}
use Rattle.policy_pick.specs.Kept.{list_plan}
use Rattle.turn_book.specs.Posts.{schedule_of}
use Rattle.worker_run.specs.Bodies.{source_of_bodies}
use Rattle.script_body.specs.Bodies.{bodies_of}
use Rattle.replay_run.proofs.laws.ListedRuns.{listed_short}
use Rattle.replay_run.proofs.Compared.{played_as, run_confirmed}
use Rattle.replay_run.proofs.replaying.replay.Goals as goal

pub run_threads-requires-clause-speaks : goal.run_threads-requires-clause-speaks
run_threads-requires-clause-speaks g c κs within =
    let plan = c.in_ok-policy.ensures.plan
    ∙ ap ByList (c.as_slice-2.ensures.value ∙ c.in_ok-threads.ensures
    ∙ ap schedule_of c.as_slice.ensures) in
    let deal = c.args.deal.now in
    let listed = All-map (λ t. t < deal.threads) (λ (e : Event). e.thread) c.args.file.now.events
    c.requires.threads in
    let S : Plan → Type 0 = λ p. SpeaksOf p deal.threads in
    let D : Deal → Type 0 = λ d. SpeaksOf (list_plan c.in_ok-policy.policy) d.threads in
    subst D (sym c.in_ok-own.ensures) (subst S (sym plan) (deal.few_threads, listed))

pub run_threads-requires-clause-in_range : goal.run_threads-requires-clause-in_range
run_threads-requires-clause-in_range g c κs within =
    let D : Deal → Type 0 = λ d. AreInRange (sizes_of_deal d)
    (map pending_of_body c.in_ok-bodies.bodies.items) in
    subst D (sym c.in_ok-own.ensures)
    (c.in_ok-bodies.ensures.in_range c.requires.script.0 c.args.deal.now c.requires.script.1)

pub compare-requires-clause-no_longer : goal.compare-requires-clause-no_longer
compare-requires-clause-no_longer g c =
    let plan = c.in_ok-policy.ensures.plan
    ∙ ap ByList (c.as_slice-2.ensures.value ∙ c.in_ok-threads.ensures
    ∙ ap schedule_of c.as_slice.ensures) in
    let events = c.args.file.now.events in
    let played = played_as (list_plan c.in_ok-policy.policy) (ByList (schedule_of events))
    c.in_ok-own.own c.in_ok-own.own (map pending_of_body c.in_ok-bodies.bodies.items)
    (map pending_of_body c.in_ok-bodies.bodies.items)
    c.args.file.now.header.limit c.in_ok-played.played.events c.in_ok-played.played.outcome plan
    refl refl c.in_ok-played.ensures.played in
    let short = listed_short (schedule_of events) c.in_ok-own.own
    (source_of_bodies (map pending_of_body c.in_ok-bodies.bodies.items))
    c.args.file.now.header.limit c.in_ok-played.played.events played.obeys in
    omega (arith, short, length-map events (λ (e : Event). e.thread))

pub returns-clause-replay : goal.returns-clause-replay
returns-clause-replay g c = λ script of.
    let plan = c.in_ok-policy.ensures.plan
    ∙ ap ByList (c.as_slice-2.ensures.value ∙ c.in_ok-threads.ensures
    ∙ ap schedule_of c.as_slice.ensures) in
    let bodies = c.in_ok-bodies.ensures.script script of.is_code in
    record {
      made = c.in_ok-played.played.events;
      outcome = c.in_ok-played.played.outcome;
      played =
          played_as (list_plan c.in_ok-policy.policy) (ByList (schedule_of c.args.file.now.events))
          c.in_ok-own.own c.args.deal.now (map pending_of_body c.in_ok-bodies.bodies.items)
          (bodies_of script)
          c.args.file.now.header.limit c.in_ok-played.played.events c.in_ok-played.played.outcome
          plan c.in_ok-own.ensures bodies c.in_ok-played.ensures.played;
      tells = c.compare.ensures;
    }

pub returns-clause-run : goal.returns-clause-run
returns-clause-run g c = λ script order points of threads is.
    let deal = c.args.deal.now in
    let listed = All-map (λ t. t < deal.threads) (λ (e : Event). e.thread) c.args.file.now.events
    c.requires.threads in
    run_confirmed deal (bodies_of script) c.args.file.now c.compare.result order points
    (deal.few_threads, listed) threads is (returns-clause-replay g c script of)
