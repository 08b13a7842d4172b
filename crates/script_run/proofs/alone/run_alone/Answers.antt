-- The book is set for the place, by the policy that it was made with or began again by.
use Rattle.std.proofs.Common.{◌≡◌, List, sym, subst, arith}
use Rattle.pct_ask.specs.declared.event.Event.{Event}
use Rattle.turn_book.specs.Told.{BookState}
use Rattle.script_code.specs.Listing.{listing}
use Rattle.script_run.specs.Batches.{IsSetFor}
use Rattle.script_run.proofs.Sets.{set-again, set-ran}
use Rattle.script_run.proofs.alone.run_alone.Goals as goal
use Rattle.script_run.proofs.alone.run_alone.Goals.{then-place-start+in_ok-policy, else-place-start}

pub take-requires-clause-run : goal.take-requires-clause-run
take-requires-clause-run g c =
    let common = g.T.Batch.common c.args.batch.now in
    let is_run = g.T.Batch.is_run c.args.batch.now in
    let at = c.loop-place in
    let place = at.place in
    let book : BookState = c.if-place-start.book in
    let set : IsSetFor common (is_run place) book = elim c.if-place-start.branch [
      | then-place-start+in_ok-policy w ↦
          subst (IsSetFor common (is_run place)) (sym w.book-is)
          (set-again common (is_run place) at.book.deal at.book.limit
          (g.T.Policy.Policy.plan w.in_ok-policy.field-0) w.restart.new.self at.invariant.deal
          at.invariant.limit w.in_ok-policy.ensures.plan w.restart.ensures.made)
      | else-place-start w ↦
          let here : place ≡ c.args.start = omega (arith, w.if-place-start.false, at.auto.place) in
          subst (λ p. IsSetFor common (is_run p) book) (sym here)
          (subst (IsSetFor common (is_run c.args.start)) (sym w.book-is) (at.invariant.set here))
    ] in
    let outcome = c.in_ok-outcome.outcome in
    let ran = set-ran common (is_run place) book set (listing c.script-script.result.code.now)
    (record { events = c.play.new.book.trace; outcome = outcome }) c.script-script.ensures.code
    c.in_ok-outcome.ensures.run in
    let E : List Event → Type 0 = λ es. is_run place (record { events = es; outcome = outcome }) in
    subst E (sym c.trace.ensures.trace) ran
