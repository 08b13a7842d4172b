use Rattle.std.proofs.Common.{◌∙◌, lit<}
use Rattle.std.proofs.lemmas.Iterator.Consumers.{YieldsList-end}
use Rattle.std.proofs.lemmas.Iterator.Splits.{YieldsList-from_str_split}
use Rattle.pct_top.proofs.values.items_of.Goals as goal

pub returns : goal.returns
returns c =
    let s = rw (← c.into_iter-item-iterator.ensures.into_iter_gives) at
    c.split-item-items.ensures in
    let t = YieldsList-end (YieldsList-from_str_split 44 c.args.value.now (lit< tt) s.text
    s.has_more s.pattern) c.loop-item.yielded _ c.loop-item.yielded_by _ _ c.in-None.is
    c.next.ensures.steps in
    c.loop-item.invariant ∙ t.0
