use Rattle.std.proofs.Common.{sym, ◌∙◌, arith}
use Rattle.pct_ask.specs.declared.names.NameKind.TheVariants.{Thread}
use Rattle.std.proofs.lemmas.Result.{err_from_is_err_and}
use Rattle.rank_now.specs.Order.{IsOrder}
use Rattle.c_values.proofs.laws.Refusals.{refusal}
use Rattle.trace_text.specs.Known.{head_by, IsPlainHead}
use Rattle.c_texts.specs.Traces.{IsHeadOf}
use Rattle.c_texts.proofs.traces.header_of.Goals as goal

pub returns-then-not-is_plain_head : goal.returns-then-not-is_plain_head
returns-then-not-is_plain_head c = λ header is.
    let a = c.args in
    let plain : IsPlainHead c.count-threads.result
    (head_by a.version a.limit a.order.now a.points.now) =
    record {
      version = is.is.version;
      whole = is.is.whole ∙ sym c.count-threads.ensures.count;
      few_points = is.is.few_points;
      points = is.is.points;
      limit = is.is.limit;
    } in
    let right = c.is_plain_head.ensures.1 plain in
    let wrong = c.if-not-is_plain_head.true in absurd cc

pub returns-in_err-check_order : goal.returns-in_err-check_order
returns-in_err-check_order c =
    let a = c.args in
    let p = err_from_is_err_and c.from_residual.result c.from_residual.ensures.1 in
    refusal (λ (u : Unit {0}). IsOrder a.order.now)
    (IsHeadOf a.names.now (head_by a.version a.limit a.order.now a.points.now))
    c.in_err-check_order.field-0.0 p.0 c.from_residual.result p.1 p.2
    c.in_err-check_order.ensures (λ header is. (tt, is.is.order))

pub check_order-requires : goal.check_order-requires
check_order-requires c =
    let plain = c.is_plain_head.ensures.0 c.if-not-is_plain_head.false in
    omega (
      arith,
      plain.whole,
      c.count-threads.ensures.count,
      c.count-threads.ensures.lawful.few Thread,
    )
