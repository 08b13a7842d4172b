-- What the plain reading gives is the directive or the first fault, and nothing else is.
use Rattle.directive.proofs.Laws.{answer-given, directive-given, fault-given}
use Rattle.directive.proofs.reading.read_directive.Goals as goal

pub returns-clause-answer : goal.returns-clause-answer
returns-clause-answer c =
    answer-given c.args.bytes.now c.args.names.now c.read.result c.read.ensures.lawful
    c.read.ensures.read

pub returns-clause-directive : goal.returns-clause-directive
returns-clause-directive c =
    λ text is. directive-given c.args.bytes.now c.args.names.now c.read.result text
    c.read.ensures.lawful c.read.ensures.read is

pub returns-clause-fault : goal.returns-clause-fault
returns-clause-fault c =
    λ line kind fault. fault-given c.args.bytes.now c.args.names.now c.read.result line kind
    c.read.ensures.lawful c.read.ensures.read fault
