use Rattle.directive.proofs.Laws.{each-has-one}
use Rattle.directive.proofs.reading.one_answer.Goals as goal

pub returns : goal.returns
returns c = each-has-one
