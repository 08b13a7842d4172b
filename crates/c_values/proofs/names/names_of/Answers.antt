use Rattle.pct_ask.specs.Lines.{lines_of}
use Rattle.c_values.specs.NamesText.{names_of_text}
use Rattle.c_values.proofs.NameSteps.{begins, goes_on, stops, ends}
use Rattle.c_values.proofs.names.names_of.Goals as goal

pub loop-line-init : goal.loop-line-init
loop-line-init c =
    begins c.args.text.now c.into_iter-line-iterator.result c.split_lines-line-items.result
    c.new-names.result c.new-names.ensures c.into_iter-line-iterator.ensures.into_iter_gives
    c.split_lines-line-items.ensures

pub returns-then-not-branch : goal.returns-then-not-branch
returns-then-not-branch c =
    stops (names_of_text c.args.text.now) c.loop-line.names (lines_of c.loop-line.line-iterator)
    c.in-Some.line.now (lines_of c.next.new.self) c.loop-line.invariant c.in-Some.ensures.steps
    (c.in_ok-join_line.ensures.1 c.if-not-branch.true)

pub loop-line-preserved : goal.loop-line-preserved
loop-line-preserved c =
    goes_on (names_of_text c.args.text.now) c.loop-line.names c.join_line.new.names
    (lines_of c.loop-line.line-iterator) c.in-Some.line.now (lines_of c.next.new.self)
    c.loop-line.invariant c.in-Some.ensures.steps
    (c.in_ok-join_line.ensures.0 c.if-not-branch.false)

pub returns : goal.returns
returns c =
    ends (names_of_text c.args.text.now) c.loop-line.names (lines_of c.loop-line.line-iterator)
    c.loop-line.invariant c.in-None.ensures.steps.0
