use Rattle.pct_main.specs.Own.{explanations}
use Rattle.pct_main.proofs.own.explanation_of.Goals as goal

pub returns : goal.returns
unfolding explanations
returns c = c.text_among.ensures
