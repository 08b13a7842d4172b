-- What is fed are the bits and the numbers, which the places give back.
use Rattle.std.specs.Hash.{slice, u32, u64, fed_then, fed_along}
use Rattle.pct_ask.proofs.PlaceLemmas.{fed-known}
use Rattle.pct_ask.proofs.blocked.BlockedHash.hash.Goals as goal

pub returns : goal.returns
returns g c =
    let b = c.self.inside in
    fed_along g.H.Hasher.write c.args.state.now _
    (fed-known b.threads b.lines c.args.self.now c.self.invariant c.self.view_is)
    (fed_then g.H.Hasher.write c.args.state.now _ _ (u64 b.threads) (slice u32 b.lines)
    c.hash.ensures c.hash-2.ensures)
