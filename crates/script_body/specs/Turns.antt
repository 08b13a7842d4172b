-- What comes first at a spot, without where it leads (this project).
use Rattle.std.specs.Prelude.{ℕ, Bool, true, false, Some, None}
use Rattle.script_tree.specs.Machine.{Act, Moves, Asks, Ends}
use Rattle.pct_ask.specs.declared.ask.Post.{Post}
use Rattle.script_body.specs.declared.turn.Next.{Next}
use Rattle.script_body.specs.declared.turn.Next.TheVariants as nexts

-- a post, or a local move on a line
pub data PostOrMove : Type 0 where
  Posts : Post → PostOrMove
  MovesOn : ℕ → PostOrMove

abbrev pub turn_of : {S : Type 0} → ℕ → Act S → PostOrMove
turn_of line (Moves next) = MovesOn line
turn_of line (Asks ask after) = Posts (record { ask = Some ask; line = line })
turn_of line Ends = Posts (record { ask = None; line = line })

-- the turn of which it is told what comes next, where a post stands beside
abbrev pub told_turn : Next → Post → PostOrMove
told_turn nexts.Post post = Posts post
told_turn (nexts.Move line) post = MovesOn line

abbrev pub is_move : {S : Type 0} → Act S → Bool
is_move (Moves next) = true
is_move (Asks ask after) = false
is_move Ends = false
