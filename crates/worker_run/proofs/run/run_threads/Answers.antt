use Rattle.std.proofs.Common.{ℕ, map, ap, subst, ◌∙◌}
use Rattle.policy_pick.specs.Plan.{Plan, SpeaksOf}
use Rattle.turn_book.specs.Told.{new_book}
use Rattle.turn_lock.specs.Rule.{first_view}
use Rattle.turn_lock.specs.Calls.{first_book}
use Rattle.turn_lock.specs.Views.{view}
use Rattle.worker_run.specs.Played.{IsPlayed}
use Rattle.worker_run.proofs.Follows.{points-run, moments-run}
use Rattle.worker_run.proofs.Plays.{here-played}
use Rattle.worker_run.proofs.run.run_threads.Goals as goal

pub returns-clause-played : goal.returns-clause-played
returns-clause-played g c =
    let start = map g.B.Body.pending c.args.bodies.items in
    let plan = g.P.Policy.plan c.args.policy in
    let lock = first_book c.in_ok-lock.lock in
    let v = view c.in_ok-lock.seat in
    here-played g.B.Body.pending c.args.bodies.items c.args.deal c.args.limit plan lock v
    (c.in_ok-lock.ensures.made ∙ ap (λ (most : ℕ). new_book c.args.deal most plan)
    c.new-limit.ensures)
    (c.in_ok-lock.ensures.view ∙ ap (λ (most : ℕ). first_view (new_book c.args.deal most plan))
    c.new-limit.ensures)
    c.requires.bodies start
    c.finish.result.events c.finish.result.outcome
    (c.finish.ensures start c.in_ok-run_on.ensures.played)

pub returns-clause-run : goal.returns-clause-run
returns-clause-run g c = λ order points is.
    let start = map g.B.Body.pending c.args.bodies.items in
    let Speaks : Plan → Type 0 = λ p. SpeaksOf p c.args.deal.threads in
    let P : Plan → Type 0 = λ p. IsPlayed p c.args.deal start c.args.limit c.finish.result.events
    c.finish.result.outcome in
    points-run c.args.deal start order points c.args.limit c.finish.result.events
    c.finish.result.outcome (subst Speaks is c.requires.speaks)
    (subst P is (returns-clause-played g c))

pub returns-clause-directed : goal.returns-clause-directed
returns-clause-directed g c = λ order events is.
    let start = map g.B.Body.pending c.args.bodies.items in
    let Speaks : Plan → Type 0 = λ p. SpeaksOf p c.args.deal.threads in
    let P : Plan → Type 0 = λ p. IsPlayed p c.args.deal start c.args.limit c.finish.result.events
    c.finish.result.outcome in
    moments-run c.args.deal start order events c.args.limit c.finish.result.events
    c.finish.result.outcome (subst Speaks is c.requires.speaks)
    (subst P is (returns-clause-played g c))
