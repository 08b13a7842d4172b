use Rattle.std.proofs.Common.{map, ap, sym, subst, ◌∙◌}
use Rattle.pct_ask.specs.declared.Deal.{Deal}
use Rattle.pct_ask.specs.Objects.{sizes_of_deal}
use Rattle.pct_ask.specs.Bodies.{AreInRange}
use Rattle.turn_book.specs.Told.{BookState}
use Rattle.worker_run.specs.Samples.{sample_pending}
use Rattle.test_runs.specs.declared.samples.Sample.{Sample}
use Rattle.test_runs.proofs.Ranges.{samples-fit}
use Rattle.test_runs.proofs.runs.runs_on_a_lent_lock.Goals as goal

pub run_on-ran-requires-clause-in_range : goal.run_on-ran-requires-clause-in_range
run_on-ran-requires-clause-in_range g c = λ κs.
    let deal = c.in_ok-deal.deal in
    let making = c.in_ok-lock.ensures.made ∙ c.in_ok-book.ensures.made in
    let posts =
    map (λ (s : Sample). sample_pending s.thread s.steps s.seen) c.in_ok-bodies.bodies.items in
    let D : Deal → Type 0 = λ d. AreInRange (sizes_of_deal d) posts in
    let fit = samples-fit deal c.in_ok-deal.ensures.vars c.in_ok-deal.ensures.threads
    (λ (s : Sample). s.thread) (λ (s : Sample). s.steps) (λ (s : Sample). s.seen)
    c.in_ok-bodies.bodies.items in
    subst D (sym (ap (λ (b : BookState). b.deal) making)) fit
