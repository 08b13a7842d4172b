use Rattle.std.proofs.Common.{IsTrue}
use Rattle.c_texts.proofs.SaidRows.{known_rows, written_rows}
use Rattle.c_texts.proofs.report.rank_rows.Goals as goal

pub returns-then-not-are_known : goal.returns-then-not-are_known
returns-then-not-are_known c = λ told is.
    let a = c.args in
    let all = written_rows a.names.now a.numbers.now told.rows is.say.say is.known in
    let right = c.are_known.ensures.1 all in
    let wrong = c.if-not-are_known.true in absurd cc

pub returns : goal.returns
returns c =
    let a = c.args in
    let rows = c.in_ok-rows.ensures in
    let test : IsTrue c.are_known.result = let not_false = c.if-not-are_known.false in cc in
    record {
      say = rows;
      known =
          known_rows a.names.now a.numbers.now c.in_ok-rows.rows rows.say
          (c.are_known.ensures.0 test);
      ranking = c.in_ok-groups.ensures.ranking;
    }
