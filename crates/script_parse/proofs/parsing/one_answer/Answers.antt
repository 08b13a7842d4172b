use Rattle.script_parse.proofs.laws.Scripts.{script_or_fault}
use Rattle.script_parse.proofs.parsing.one_answer.Goals as goal

pub returns : goal.returns
returns c = script_or_fault
