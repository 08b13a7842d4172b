use Rattle.std.proofs.Common.{ap, set, ◌∙◌}
use Rattle.turn_book.proofs.Boards.{chance-is}
use Rattle.turn_book.proofs.known.look_at.Goals as goal

pub returns : goal.returns
returns c =
    let store = c.args.store.now in
    let posts = c.args.posts.now in
    let r = c.requires in
    let is = chance-is store posts r.threads r.in_range c.args.standings.now r.standings in
    ap (set c.args.known.now c.args.thread) (c.chance_of.ensures ∙ is c.args.thread)
