use Rattle.std.proofs.Common.{◌≡◌, ℕ, List, Err, refl, sym, subst, ap}
use Rattle.pct_outside.specs.Counter.{Rose}
use Rattle.pct_outside.specs.Puts.{IsPutInPart}
use Rattle.pct_outside.specs.declared.sinks.SinkError.{SinkError}
use Rattle.pct_outside.specs.declared.sinks.SinkError.TheVariants.{Failed, NoMemory}
use Rattle.pct_top.specs.declared.refusal.Refusal.{Refusal}
use Rattle.pct_top.specs.declared.status.Status.{Status}
use Rattle.pct_outside.specs.Told.{StreamTold}
use Rattle.pct_top.specs.Refusing.{IsOfSink, status_of_refusal, refusal_line}
use Rattle.pct_top.specs.Saying.{SaysLine}
use Rattle.pct_main.specs.Own.{IsPut}
use Rattle.pct_main.proofs.put_answer.Goals as goal

module _ (text : List ℕ) (out out' err err' : StreamTold)
    (part : IsPutInPart text out out') where
  abbrev Is : Refusal → Type 0
  Is refusal = SaysLine (refusal_line refusal) err err'
      → IsPut text out out' err err' (status_of_refusal refusal)

  by_error : (error : SinkError) (refusal : Refusal) → IsOfSink error refusal
      → (error ≡ Failed → Rose out.faults out'.faults)
      → (error ≡ NoMemory → Rose out.shorts out'.shorts) → Is refusal
  by_error Failed refusal is failed short = subst Is (sym is) (λ says. (failed refl, part, says))
  by_error NoMemory refusal is failed short = subst Is (sym is) (λ says. (short refl, part, says))

  refused : (error : SinkError) (refusal : Refusal) (status : Status) → IsOfSink error refusal
      → (error ≡ Failed → Rose out.faults out'.faults)
      → (error ≡ NoMemory → Rose out.shorts out'.shorts) → status ≡ status_of_refusal refusal
      → SaysLine (refusal_line refusal) err err'
      → IsPut text out out' err err' status
  refused error refusal status is failed short ends says =
      subst (IsPut text out out' err err') (sym ends) (by_error error refusal is failed short says)

pub returns-in-Err : goal.returns-in-Err
returns-in-Err g c =
    let out : StreamTold = g.O.Sink.told c.args.out.now in
    let out' : StreamTold = g.O.Sink.told c.put_whole.new.sink in
    let err : StreamTold = g.E.Sink.told c.args.err.now in
    let err' : StreamTold = g.E.Sink.told c.refuse.new.err in
    refused c.args.text.now out out' err err'
    (subst (λ piece. IsPutInPart piece out out') c.as_bytes.ensures.value
    c.in-Err.ensures.part) c.in-Err.error c.from.result c.refuse.result c.from.ensures
    (λ failed. c.in-Err.ensures.failed (ap Err failed))
    (λ short. c.in-Err.ensures.short (ap Err short)) c.refuse.ensures.status
    c.refuse.ensures.said
