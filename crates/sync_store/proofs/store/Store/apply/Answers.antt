use Rattle.std.proofs.Common.{◌∙◌, sym}
use Rattle.sync_store.specs.Effect.{effect}
use Rattle.sync_store.proofs.AfterStep.{unchanged_after}
use Rattle.sync_store.proofs.store.Store.apply.Goals as goal

pub returns-clause-unchanged : goal.returns-clause-unchanged
returns-clause-unchanged c = λ verdict e.
    c.take_step.ensures.store ∙ unchanged_after c.args.self.now
    (effect c.args.self.now c.args.thread c.args.line c.args.ask.now) verdict
    (sym c.take_step.ensures.applied ∙ sym c.applied.ensures ∙ e)
