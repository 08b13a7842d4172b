-- A row more for each order, until one decides.
use Rattle.std.proofs.Common.{◌≡◌, ◌+◌, ◌-◌, ◌*◌, ◌^◌, ℕ, List, sym, ap, subst, ◌∙◌, arith}
use Rattle.choices.specs.Orders.{factorial}
use Rattle.directive_run.specs.declared.answers.CertifyRow.{CertifyRow}
use Rattle.kit_directives.specs.Certified.{AreRowsOfOrders}
use Rattle.kit_directives.proofs.Rows.{no-rows, one-row, led-at, first-other, other-answer}
use Rattle.kit_directives.proofs.certifying.certify.Goals as goal

pub loop-place-init : goal.loop-place-init
loop-place-init g c =
    subst (λ (rows : List CertifyRow). AreRowsOfOrders c.args.deal.now c.args.directive.now
    c.args.steps c.args.limit 0 rows) (sym c.new-rows.ensures)
    (no-rows c.args.deal.now c.args.directive.now c.args.steps c.args.limit)

pub loop-place-preserved : goal.loop-place-preserved
loop-place-preserved g c =
    let at = c.loop-place in
    let deal = c.args.deal.now in
    let directive = c.args.directive.now in
    let led = led-at deal directive c.args.steps c.args.limit at.place c.in_ok-row.field-0
    c.in-Led.row c.in-Led.is c.in_ok-row.ensures in
    subst (λ (rows : List CertifyRow). AreRowsOfOrders deal directive c.args.steps c.args.limit
    (at.place + 1) rows) (sym c.in_ok-try_push-in-Led.ensures.ok)
    (one-row deal directive c.args.steps c.args.limit at.rows at.place c.in-Led.row at.invariant
    led)

pub returns-in-Other : goal.returns-in-Other
returns-in-Other g c =
    let at = c.loop-place in
    let deal = c.args.deal.now in
    let directive = c.args.directive.now in
    other-answer deal directive c.args.steps c.args.limit c.in-Other.answer
    (first-other deal directive c.args.steps c.args.limit
    (omega (arith, c.if-threads-gt-MAX_CERTIFIED_THREADS.false)) at.rows at.place
    c.in_ok-row.field-0
    c.in-Other.answer c.in-Other.is at.invariant c.in_ok-row.ensures)

pub returns : goal.returns
returns g c =
    let at = c.loop-place in
    let deal = c.args.deal.now in
    let done : at.place ≡ factorial (deal.threads - 1) =
    omega (arith, c.loop-place-test.false, at.auto.place-end, c.order_count-place-end.ensures) in
    record {
      few = omega (arith, c.if-threads-gt-MAX_CERTIFIED_THREADS.false);
      bound_is = c.bound_of-bound.ensures
          ∙ ap (λ n. deal.threads * c.args.steps ^ n) c.len.ensures;
      rows_are =
          subst (λ (n : ℕ). AreRowsOfOrders deal c.args.directive.now c.args.steps c.args.limit
          n at.rows) done at.invariant;
    }
