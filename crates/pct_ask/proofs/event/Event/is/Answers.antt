-- `==` is equality.
use Rattle.std.proofs.Common.{sym, ◌∙◌}
use Rattle.pct_ask.proofs.laws.SameEvents.{event-Decides}
use Rattle.pct_ask.proofs.event.Event.is.Goals as goal

pub returns : goal.returns
returns c =
    let decides = event-Decides c.args.self.now c.args.other.now in
    (λ yes. decides.0 (sym c.eq.ensures ∙ yes), λ same. c.eq.ensures ∙ decides.1 same)
