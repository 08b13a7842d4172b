use Rattle.std.proofs.Common.{◌≡◌, ◌<◌, length, arith, sym, ◌∙◌, subst}
use Rattle.script_tree.specs.Posts.{pending}
use Rattle.script_tree.specs.Naming.{IsPostOf}
use Rattle.script_tree.proofs.laws.Naming.{pending_named}
use Rattle.script_code.specs.Listing.{listing}
use Rattle.script_code.specs.Placed.{listing_of}
use Rattle.script_code.specs.FlatPosts.{first_spot}
use Rattle.script_body.specs.Spots.{spot_of}
use Rattle.script_body.specs.Waiting.{pending_at}
use Rattle.script_body.proofs.Steps.{settled_pending}
use Rattle.script_body.proofs.body.ScriptBody.new.Goals as goal

pub returns-clause-named : goal.returns-clause-named
returns-clause-named c script deal of sound same answers =
    let code = listing_of (listing c.args.code.now) c.args.thread in
    let here = spot_of c.settle.new.state in
    let below : c.args.thread < length script.threads = omega (arith, of.threads, c.requires) in
    let e : pending_at code here c.settle.new.post answers
    ≡ pending script c.args.thread answers =
    settled_pending code first_spot here c.settle.new.post c.settle.ensures answers
    ∙ of.posts c.args.thread below answers in
    subst (IsPostOf deal) (sym e) (pending_named script deal sound same c.args.thread below answers)
