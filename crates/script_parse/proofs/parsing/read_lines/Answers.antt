use Rattle.std.proofs.Common.{length, sym, ap, ◌∙◌, arith}
use Rattle.pct_ask.specs.Lines.{lines_of}
use Rattle.script_parse.specs.Lookahead.{place_ahead}
use Rattle.script_parse.specs.SeenParts.{seen_reader}
use Rattle.script_parse.specs.States.{seen_state, seen_step}
use Rattle.script_parse.proofs.ReadSteps.{bad_read, next_read, all_read, end_fits}
use Rattle.script_parse.proofs.parsing.read_lines.Goals as goal

pub returns-in-Bad : goal.returns-in-Bad
returns-in-Bad c =
    bad_read c.args.bytes.now (place_ahead c.args.ahead.now) (seen_state c.loop-line.state)
    c.loop-line.number c.args.ahead.now.lines c.in-Bad.kind c.in-Some.line.now
    (lines_of c.loop-line.line-iterator) (lines_of c.next.new.self)
    c.requires.small c.requires.says c.requires.seen.has_places.places c.loop-line.invariant.rest
    c.loop-line.invariant.number c.in-Some.ensures.steps
    (sym (ap seen_step c.in-Bad.is) ∙ c.in_ok-kind.ensures)

pub loop-line-preserved : goal.loop-line-preserved
loop-line-preserved c = record {
  number = omega (arith, c.loop-line.invariant.number, ap length c.in-Some.ensures.steps);
  rest =
      next_read (place_ahead c.args.ahead.now) (seen_state c.loop-line.state)
      (seen_state c.in-Next.next) c.loop-line.number c.args.ahead.now.lines c.in-Some.line.now
      (lines_of c.loop-line.line-iterator) (lines_of c.next.new.self) (lines_of c.args.bytes.now)
      c.loop-line.invariant.rest c.loop-line.invariant.number c.in-Some.ensures.steps
      (sym (ap seen_step c.in-Next.is) ∙ c.in_ok-kind.ensures);
}

pub finish-requires : goal.finish-requires
finish-requires c =
    let find = place_ahead c.args.ahead.now in
    let same = c.requires.seen.has_places.places in
    end_fits c.args.bytes.now find (seen_reader c.in-Below.reader) c.requires.small c.requires.says
    same
    (all_read find (seen_state c.loop-line.state) (seen_reader c.in-Below.reader) c.loop-line.number
    (lines_of c.loop-line.line-iterator) (lines_of c.args.bytes.now) c.loop-line.invariant.rest
    c.in-None.ensures.steps.0 (ap seen_state c.in-Below.is))
