use Rattle.std.proofs.Common.{◌++◌, ◌∷◌, [], sym, ap, ◌∙◌, arith, append_assoc}
use Rattle.pct_ask.specs.Lines.{lines_of}
use Rattle.script_parse.proofs.AheadSteps.{front_few, threads_few}
use Rattle.script_parse.proofs.ahead.look_ahead.Goals as goal

pub see-requires-clause-lines : goal.see-requires-clause-lines
see-requires-clause-lines c =
    let kept = c.loop-line.invariant in
    omega (
      arith,
      kept.2.lines,
      front_few c.args.bytes.now kept.0
          (lines_of c.loop-line.line-iterator) kept.1,
    )

pub see-requires-clause-threads : goal.see-requires-clause-threads
see-requires-clause-threads c =
    let kept = c.loop-line.invariant in
    omega (
      arith,
      kept.2.has_places.threads,
      threads_few kept.0,
      front_few c.args.bytes.now kept.0 (lines_of c.loop-line.line-iterator) kept.1,
    )

pub loop-line-preserved : goal.loop-line-preserved
loop-line-preserved c =
    let kept = c.loop-line.invariant in
    let line = c.in-Some.line.now in (
      kept.0 ++ line ∷ [],
      append_assoc kept.0 (line ∷ []) (lines_of c.next.new.self)
          ∙ ap (λ ls. kept.0 ++ ls) (sym c.in-Some.ensures.steps) ∙ kept.1,
      c.in_ok-see.ensures kept.0 kept.2,
    )
