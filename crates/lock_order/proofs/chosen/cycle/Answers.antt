use Rattle.std.proofs.lemmas.Result.{IfOk-weaker}
use Rattle.lock_order.specs.Chosen.{AreNestingsOf}
use Rattle.lock_order.specs.MutexSets.{IsCycleIn}
use Rattle.lock_order.proofs.Reports.{part-is, ring-nested, ring-cycle}
use Rattle.lock_order.proofs.chosen.cycle.Goals as goal

pub nestings_of-requires-clause-nested : goal.nestings_of-requires-clause-nested
nestings_of-requires-clause-nested c =
    ring-nested c.args.events.now c.args.nested.now c.requires.nested c.args.remaining
    c.in_ok-walk.walk.items c.in_ok-walk.back c.in_ok-walk.ensures _ c.turn.new.part
    (part-is c.in_ok-walk.walk.items c.deref_mut.result.now c.in_ok-walk.back
    c.deref_mut.ensures.value) c.turn.ensures

pub returns : goal.returns
returns c =
    IfOk-weaker c.nestings_of.result (AreNestingsOf c.args.events.now c.turn.new.part)
    (IsCycleIn c.args.events.now c.args.nested.now c.args.remaining)
    (ring-cycle c.args.events.now c.args.nested.now c.requires.nested c.args.remaining
    c.in_ok-walk.walk.items c.in_ok-walk.back c.in_ok-walk.ensures _ c.turn.new.part
    (part-is c.in_ok-walk.walk.items c.deref_mut.result.now c.in_ok-walk.back
    c.deref_mut.ensures.value) c.turn.ensures) c.nestings_of.ensures
