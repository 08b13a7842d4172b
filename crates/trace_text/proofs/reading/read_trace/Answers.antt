-- What the plain reading gives is the trace or the first fault, and nothing else is.
use Rattle.trace_text.proofs.Traces.{answer-given, trace-given, fault-given}
use Rattle.trace_text.proofs.reading.read_trace.Goals as goal

pub returns-clause-answer : goal.returns-clause-answer
returns-clause-answer c =
    answer-given c.args.names.now c.args.bytes.now c.read.result c.read.ensures.lawful
    c.read.ensures.read

pub returns-clause-trace : goal.returns-clause-trace
returns-clause-trace c =
    λ file trace. trace-given c.args.names.now c.args.bytes.now c.read.result file
    c.read.ensures.lawful c.read.ensures.read trace

pub returns-clause-fault : goal.returns-clause-fault
returns-clause-fault c =
    λ line kind fault. fault-given c.args.names.now c.args.bytes.now c.read.result line kind
    c.read.ensures.lawful c.read.ensures.read fault
