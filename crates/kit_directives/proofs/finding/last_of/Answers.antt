use Rattle.std.proofs.Common.{sym, ◌∙◌}
use Rattle.kit_directives.proofs.Lasts.{ends-in}
use Rattle.kit_directives.proofs.finding.last_of.Goals as goal

pub returns-in-Some : goal.returns-in-Some
returns-in-Some c =
    ends-in c.args.order.now c.in-Some.low
    (sym c.last.ensures.value ∙ sym c.copied.ensures ∙ c.in-Some.is)
