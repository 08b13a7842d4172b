-- The new place is above all that are there.
use Rattle.pct_ask.proofs.PlaceLemmas.{AreKnown-with, places-with}
use Rattle.pct_ask.proofs.blocked.Blocked.push.Goals as goal

pub invariant_of-self : goal.invariant_of-self
invariant_of-self c =
    AreKnown-with c.self.inside.threads c.args.thread c.args.line c.self.inside.lines
    c.requires.few c.self.invariant

pub returns : goal.returns
returns c =
    places-with c.self.inside.threads c.args.thread c.args.line c.self.inside.lines c.args.self.now
    c.requires.few c.self.invariant c.self.view_is c.requires.above
