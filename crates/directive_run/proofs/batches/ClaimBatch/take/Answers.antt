-- The order at the place is led to the verdict and has a row, or is the answer.
use Rattle.std.proofs.Common.{◌∷◌, [], length, ap, ◌∙◌, arith}
use Rattle.std.specs.Prelude.{slice_get}
use Rattle.std.proofs.lemmas.List.{length-append}
use Rattle.choices.specs.Orders.{low_orders}
use Rattle.directive_run.specs.Tested.{directed_setup}
use Rattle.directive_run.specs.declared.answers.CertifyRow.{CertifyRow}
use Rattle.directive_run.proofs.Certificates.{refuted, too-long-under, next-row}
use Rattle.directive_run.proofs.batches.ClaimBatch.take.Goals as goal

pub test_run-requires : goal.test_run-requires
test_run-requires c =
    let order = c.in_ok-order.order in
    record { run = (order, c.requires.run order c.in_ok-order.ensures) }

pub returns-in-Other : goal.returns-in-Other
returns-in-Other c =
    let claim = c.args.self.now in
    let setup = directed_setup claim in
    let order = c.in_ok-order.order in
    let is = c.in_ok-order.ensures in
    let before = c.requires.stands in
    let all = low_orders setup.deal.threads setup.directive.low in
    refuted setup.deal setup.bodies setup.directive setup.steps setup.limit c.args.rows.now order
    c.in_ok-points.field-0 c.in-Other.verdict claim.low claim.few_threads
    (ap (slice_get all) before.long ∙ is) before.are
    (c.in_ok-points.ensures order (c.requires.run order is)) c.in-Other.is

pub returns-in-TooLong : goal.returns-in-TooLong
returns-in-TooLong c =
    let claim = c.args.self.now in
    let setup = directed_setup claim in
    let order = c.in_ok-order.order in
    let is = c.in_ok-order.ensures in
    let before = c.requires.stands in
    let all = low_orders setup.deal.threads setup.directive.low in
    too-long-under setup.deal setup.bodies setup.directive setup.steps setup.limit c.args.rows.now
    order c.in_ok-points.field-0 c.in-TooLong.steps claim.low claim.few_threads
    (ap (slice_get all) before.long ∙ is) before.are
    (c.in_ok-points.ensures order (c.requires.run order is)) c.in-TooLong.is

pub returns : goal.returns
returns c =
    let setup = directed_setup c.args.self.now in
    let order = c.in_ok-order.order in
    let is = c.in_ok-order.ensures in
    let before = c.requires.stands in
    let row : CertifyRow = record { order = order; points = c.in-Led.points } in
    let more = ap length c.in_ok-try_push-in-Led.ensures.ok in
    let all = low_orders setup.deal.threads setup.directive.low in
    record {
      long = omega (arith, before.long, more, length-append c.args.rows.now (row ∷ []));
      are = next-row setup.deal setup.bodies setup.directive setup.steps setup.limit c.args.rows.now
          c.try_push.new.self order c.in-Led.points c.in_ok-points.field-0
          (ap (slice_get all) before.long ∙ is) before.are
          (c.in_ok-points.ensures order (c.requires.run order is)) c.in-Led.is
          c.in_ok-try_push-in-Led.ensures.ok;
    }
