use Rattle.std.proofs.Common.{◌<◌, ◌≤◌, arith}
use Rattle.pct_ask.specs.Objects.{sizes_of_deal}
use Rattle.body_kit.proofs.Laws.{boxed-in-range}
use Rattle.kit_example.proofs.Workers.{taker-in-range, putter-in-range}
use Rattle.kit_example.proofs.trial.run_seed.Goals as goal

pub run_boxed-requires-clause-in_range : goal.run_boxed-requires-clause-in_range
run_boxed-requires-clause-in_range g c = λ κs p.
    let sizes = sizes_of_deal c.in_ok-deal.deal in
    let is = c.in_ok-deal.ensures in
    let vars : 1 ≤ sizes.vars = omega (arith, is.vars) in
    let mutexes : 1 ≤ sizes.mutexes = omega (arith, is.mutexes) in
    let one : c.args.filled < sizes.conds = omega (arith, is.conds, c.requires.filled) in
    let other : c.args.emptied < sizes.conds = omega (arith, is.conds, c.requires.emptied) in
    boxed-in-range sizes _ c.in_ok-bodies.bodies.items c.args.one c.args.other c.args.last
    c.in_ok-bodies.ensures
    (taker-in-range sizes vars mutexes c.args.filled c.args.emptied one other _ c.requires.one)
    (taker-in-range sizes vars mutexes c.args.filled c.args.emptied one other _ c.requires.other)
    (putter-in-range sizes vars mutexes c.args.filled c.args.emptied one other _ c.requires.last)
