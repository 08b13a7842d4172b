use Rattle.std.proofs.Common.{ℤ, Result, subst}
use Rattle.pct_ask.specs.declared.ask.Ask.TheVariants.{Arrive, Leave}
use Rattle.turn_lock.specs.Views.{view}
use Rattle.body_kit.specs.Asking.{AskTells, IsAnsweredAsk, asked_of}
use Rattle.body_kit.specs.declared.asked.Over.{Over}
use Rattle.body_kit.proofs.Laws.{same-threads}
use Rattle.body_kit.proofs.Ports.{then-second}
use Rattle.body_kit.proofs.port.Port.meet.Goals as goal

pub returns-clause-row : goal.returns-clause-row
returns-clause-row g c = λ t serves.
    let v = view c.args.self.now in
    let u = view c.ask.new.self in
    let w = view c.ask-2.new.self in
    let first = Arrive c.args.barrier in
    let told : IsAnsweredAsk v t first c.args.line c.in_default.field-0 u =
    subst (λ (r : Result ℤ Over). AskTells v t first c.args.line (asked_of r) u) c.in_default.is
    (c.ask.ensures.row t serves) in
    then-second v u w t first (Leave c.args.barrier) c.args.line c.in_default.field-0 told
    (asked_of c.ask-2.result) (c.ask-2.ensures.row t
    (same-threads c.args.self.now c.ask.new.self t c.ask.ensures.home serves))
