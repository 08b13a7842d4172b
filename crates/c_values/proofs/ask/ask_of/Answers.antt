use Rattle.std.proofs.Common.{arith, sym}
use Rattle.std.proofs.lemmas.Option.{slice_get_past}
use Rattle.c_values.specs.Asks.{asks_by}
use Rattle.c_values.proofs.ask.ask_of.Goals as goal

pub returns-then-numbers-gt30 : goal.returns-then-numbers-gt30
returns-then-numbers-gt30 c =
    let n = c.args.numbers.now in
    sym (slice_get_past (asks_by n.a n.b n.x n.y) n.kind (omega (arith, c.if-numbers-gt30.true)))
