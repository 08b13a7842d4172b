-- The runs come one after another.
use Rattle.std.proofs.Common.{◌≡◌, ◌+◌, ◌-◌, ◌<◌, List, length, sym, subst, arith}
use Rattle.pct_ask.specs.declared.event.Event.{Event}
use Rattle.script_run.proofs.Places.{item-at}
use Rattle.script_run.proofs.batches.take_runs.Goals as goal

pub take-requires-clause-run : goal.take-requires-clause-run
take-requires-clause-run g c =
    let start = c.args.start in
    let place = c.loop-place.place in
    let here : place ≡ start + (place - start) = omega arith in
    let within : place - start < length c.args.runs.now =
    omega (arith, c.requires.long, c.loop-place-test.true) in
    let is_run = g.T.Batch.is_run c.args.batch.now in
    let played = c.index-runs-place.result in
    let run : is_run place played =
    item-at is_run start (place - start) place c.args.runs.now played here within
    c.index-runs-place.is c.requires.runs in
    let E : List Event → Type 0 =
    λ es. is_run place (record { events = es; outcome = played.outcome }) in
    subst E (sym c.as_slice-events.ensures) run
