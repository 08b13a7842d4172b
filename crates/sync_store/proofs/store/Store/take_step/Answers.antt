use Rattle.std.proofs.Common.{◌∙◌, ap, sym, subst}
use Rattle.sync_store.specs.Store.{StoreState, sizes_of}
use Rattle.sync_store.specs.Touched.{KeepsOthers, touched_of}
use Rattle.sync_store.proofs.AfterStep.{sizes_after, others_after}
use Rattle.sync_store.proofs.store.Store.take_step.Goals as goal

pub returns-clause-sizes : goal.returns-clause-sizes
returns-clause-sizes c =
    ap sizes_of c.step.ensures.store ∙ sizes_after c.args.thread c.args.line c.args.self.now
    c.args.ask.now

pub returns-clause-others : goal.returns-clause-others
returns-clause-others c =
    let P : StoreState → Type 0 = λ after.
    KeepsOthers c.args.thread (touched_of c.args.ask.now) c.args.self.now after in
    subst P (sym c.step.ensures.store)
    (others_after c.args.thread c.args.line c.args.self.now c.args.ask.now)
