-- The next of the choices is counted.
use Rattle.std.proofs.Common.{Some, sym, ap, subst, ◌∙◌, arith}
use Rattle.std.proofs.lemmas.Option.{slice_get-get_or}
use Rattle.sweep.specs.Batches.{setup_of_sweep, HavePointAbove}
use Rattle.sweep.proofs.Aheads.{next-ahead}
use Rattle.sweep.proofs.batches.NextRunsBatch.take.Goals as goal

pub count_run-requires-clause-ahead : goal.count_run-requires-clause-ahead
count_run-requires-clause-ahead c =
    let next = c.args.self.now in
    let before = c.requires.stands in
    let one = next-ahead (setup_of_sweep next.sweep.now) next.before.longest
    c.args.counts.now.reach.place
    next.ahead.now.end c.args.place c.index-at.result.now next.ahead.now.places.items
    c.requires.place c.index-at.ensures before.ahead in
    one.from_here

pub count_run-requires-clause-place : goal.count_run-requires-clause-place
count_run-requires-clause-place c =
    let next = c.args.self.now in
    let before = c.requires.stands in
    let one = next-ahead (setup_of_sweep next.sweep.now) next.before.longest
    c.args.counts.now.reach.place
    next.ahead.now.end c.args.place c.index-at.result.now next.ahead.now.places.items
    c.requires.place c.index-at.ensures before.ahead in
    omega (arith, one.to_there, next.end)

pub count_run-requires-clause-above : goal.count_run-requires-clause-above
count_run-requires-clause-above c =
    let next = c.args.self.now in
    let setup = setup_of_sweep next.sweep.now in
    let before = c.requires.stands in
    let from = c.args.counts.now.reach.place in
    let one = next-ahead setup next.before.longest from next.ahead.now.end c.args.place
    c.index-at.result.now next.ahead.now.places.items c.requires.place c.index-at.ensures
    before.ahead in
    subst (λ n. HavePointAbove setup n from c.index-at.result.now) (sym before.same) one.above

pub count_run-requires-clause-run : goal.count_run-requires-clause-run
count_run-requires-clause-run c =
    let places = c.args.self.now.ahead.now.places.items in
    c.requires.run c.index-at.result.now
    (slice_get-get_or places c.args.place c.index-at.result.now c.requires.place
    ∙ ap Some (sym c.index-at.ensures))

pub count_run-requires-clause-before : goal.count_run-requires-clause-before
count_run-requires-clause-before c = (c.requires.stands).counted
