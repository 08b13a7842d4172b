-- An adder names only the variable that there is.
use Rattle.pct_ask.specs.Objects.{sizes_of_deal}
use Rattle.test_kit.proofs.Adding.{adder-in-range}
use Rattle.test_kit.proofs.adders.AddersBodies.body.Goals as goal

pub returns : goal.returns
returns c = λ deal some answers. adder-in-range (sizes_of_deal deal) some 2 answers
