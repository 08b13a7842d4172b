-- What the caller serves by the end is the run over the bodies.
use Rattle.std.proofs.Common.{◌≡◌, Some, None, List, length, map, sym, subst, ◌∙◌, arith}
use Rattle.pct_ask.specs.declared.verdict.Outcome.{Outcome}
use Rattle.pct_ask.specs.Bodies.{pending_of}
use Rattle.policy_pick.specs.Plan.{Plan, SpeaksOf}
use Rattle.worker_run.specs.Played.{IsPlayed}
use Rattle.worker_run.proofs.Follows.{points-run, moments-run}
use Rattle.worker_run.proofs.Plays.{caller-share, caller-owes, caller-played}
use Rattle.worker_run.proofs.Plays.{as-many-bodies}
use Rattle.worker_run.proofs.by_caller.serve_by_caller.Goals as goal

pub serve_alone-requires-clause-share : goal.serve_alone-requires-clause-share
serve_alone-requires-clause-share g c κs within =
    let posts = g.B.Body.pending in
    let made = c.args.book.now in
    let new = c.requires.runners in (
      pending_of (map posts new.bodies),
      new.in_range,
      caller-share posts new.bodies made c.requires.book new.one_each c.args.runners.now new.are,
    )

pub serve_alone-requires-clause-owe : goal.serve_alone-requires-clause-owe
serve_alone-requires-clause-owe g c κs within =
    let new = c.requires.runners in
    caller-owes g.B.Body.pending new.bodies c.args.book.now c.requires.book new.one_each

pub unreachable-requires : goal.unreachable-requires
unreachable-requires g c =
    let posts = g.B.Body.pending in
    let made = c.args.book.now in
    let new = c.requires.runners in
    let share = caller-share posts new.bodies made c.requires.book new.one_each c.args.runners.now
    new.are in
    let served = c.serve_alone.ensures.served (pending_of (map posts new.bodies)) share in
    let played = caller-played posts new.bodies made c.requires.book new.one_each
    c.serve_alone.new.book c.serve_alone.ensures.of c.serve_alone.ensures.lawful served in
    let none : None ≡ Some played.outcome =
    sym c.in-None.is ∙ c.outcome.ensures.outcome ∙ played.stands in
    cc

pub returns-clause-run : goal.returns-clause-run
returns-clause-run g c = λ bodies are.
    let posts = g.B.Body.pending in
    let made = c.args.book.now in
    let new = c.requires.runners in
    let start = map posts bodies in
    let many = as-many-bodies bodies new.bodies c.args.runners.now are new.are in
    let count : length bodies ≡ made.deal.threads = many ∙ new.one_each in
    let share = caller-share posts bodies made c.requires.book count c.args.runners.now are in
    let has = caller-played posts bodies made c.requires.book count c.serve_alone.new.book
    c.serve_alone.ensures.of c.serve_alone.ensures.lawful
    (c.serve_alone.ensures.served (pending_of start) share) in
    let both : Some has.outcome ≡ Some c.in-Some.outcome =
    sym has.stands ∙ sym c.outcome.ensures.outcome ∙ c.in-Some.is in
    let same : has.outcome ≡ c.in-Some.outcome = cc in
    let events = (c.serve_alone.new.book).trace in
    let O : Outcome → Type 0 = λ o. IsPlayed made.plan made.deal start made.limit events o in
    let played = subst O same has.played in
    let Speaks : Plan → Type 0 = λ p. SpeaksOf p made.deal.threads in
    let P : Plan → Type 0 =
    λ p. IsPlayed p made.deal start made.limit events c.in-Some.outcome in
    record {
      played = played;
      by_points =
          λ order points is. points-run made.deal start order points made.limit events
          c.in-Some.outcome (subst Speaks is c.requires.book.speaks) (subst P is played);
      by_moments =
          λ order moments is. moments-run made.deal start order moments made.limit events
          c.in-Some.outcome (subst Speaks is c.requires.book.speaks) (subst P is played);
    }
