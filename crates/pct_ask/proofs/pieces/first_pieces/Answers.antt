-- The pieces come one after another.
use Rattle.std.specs.Prelude.{◌==◌}
use Rattle.std.proofs.Common.{rules, tests, ap, ◌∙◌}
use Rattle.std.proofs.lemmas.Iterator.{YieldsList-from_take}
use Rattle.std.proofs.lemmas.Iterator.Consumers.{YieldsList-end}
use Rattle.std.proofs.lemmas.Iterator.Splits.{YieldsList-from_slice_split}
use Rattle.pct_ask.specs.Pieces.{seen}
use Rattle.pct_ask.proofs.pieces.first_pieces.Goals as goal

pub returns : goal.returns
returns c =
    let s = rw (← c.into_iter-piece-iterator.ensures.into_iter_gives) at
    c.take-piece-items.ensures in
    let t = YieldsList-end (YieldsList-from_take c.args.most
    (YieldsList-from_slice_split _ (λ b. b == c.args.separator) {f = c.split.result.pred}
    c.args.text.now (search rules) (search rules) (search rules)
    (λ x b q k. search (rules, tests))) (search rules)) c.loop-piece.yielded _
    c.loop-piece.yielded_by _ _ c.in-None.is c.next.ensures.steps in
    ap seen c.loop-piece.invariant ∙ t.0
