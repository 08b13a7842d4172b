-- `==` is equality.
use Rattle.std.proofs.Common.{sym, ◌∙◌}
use Rattle.pct_ask.proofs.laws.SameVerdicts.{verdict-Decides}
use Rattle.pct_ask.proofs.verdict.Verdict.is.Goals as goal

pub returns : goal.returns
returns c =
    let decides = verdict-Decides c.args.self.now c.args.other.now in
    (λ yes. decides.0 (sym c.eq.ensures ∙ yes), λ same. c.eq.ensures ∙ decides.1 same)
