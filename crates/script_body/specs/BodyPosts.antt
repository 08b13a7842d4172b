-- What the body of a thread posts (this project).
use Rattle.std.specs.Prelude.{ℤ, List}
use Rattle.pct_ask.specs.declared.ask.Post.{Post}
use Rattle.script_code.specs.Operations.{Operation}
use Rattle.script_code.specs.Placed.{listing_of}
use Rattle.script_code.specs.Listing.{listing}
use Rattle.script_body.specs.Spots.{spot_of}
use Rattle.script_body.specs.Waiting.{pending_at}
use Rattle.script_body.specs.declared.body.ScriptBody.{ScriptBody}

-- the code of its thread
abbrev pub code_of_thread : ScriptBody → List Operation
code_of_thread b = listing_of (listing b.code.now) b.thread

-- the post that comes after these further answers
abbrev pub pending_of_body : ScriptBody → List ℤ → Post
pending_of_body b answers = pending_at (code_of_thread b) (spot_of b.state) b.post answers
