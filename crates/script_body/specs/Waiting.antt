-- What the body of a thread posts that stands somewhere in its code (this project).
use Rattle.std.specs.Prelude.{◌≡◌, ◌<◌, ℤ, Bool, true, false, not, if◌then◌else◌, Option, Some}
use Rattle.std.specs.Prelude.{None, List, [], ◌∷◌, length}
use Rattle.pct_ask.specs.declared.ask.Ask.{Ask}
use Rattle.pct_ask.specs.declared.ask.Post.{Post}
use Rattle.script_tree.specs.Machine.{Act, Moves, Asks, Ends, Stand, stand}
use Rattle.script_tree.specs.Posts.{most_moves}
use Rattle.script_code.specs.Operations.{Operation}
use Rattle.script_code.specs.Placed.{last_place}
use Rattle.script_code.specs.FlatPosts.{Spot, spot, last_spot, is_fault, flat_head}
use Rattle.script_code.specs.FlatPosts.{flat_pending_from}

-- a body waits at an ask other than a fault, or at its end
abbrev pub is_waiting : Act Spot → Bool
is_waiting (Asks ask after) = not (is_fault ask)
is_waiting (Moves next) = false
is_waiting Ends = true

-- where a thread goes on after an answer: at its end, where it asks nothing
abbrev pub after_act : Act Spot → (last : Spot) → ℤ → Spot
after_act (Asks ask after) last answer = after answer
after_act (Moves next) last answer = last
after_act Ends last answer = last

-- where a thread that waits at a spot goes on after this answer
abbrev pub spot_after : List Operation → Spot → ℤ → Spot
spot_after code at answer = after_act (flat_head code at).1 (last_spot code) answer

-- the post after these answers of a body that stands here with this post
abbrev pub pending_at : List Operation → Spot → Post → List ℤ → Post
pending_at code at post [] = post
pending_at code at post (answer ∷ answers) =
    flat_pending_from code (spot_after code at answer) answers

-- where a thread stands once it has made its local moves
abbrev pub stand_of : List Operation → Spot → Stand Spot
stand_of code at = stand (flat_head code) (last_spot code) most_moves at

-- a thread that made its local moves from one spot on has this post, and waits at another spot
pub record Settles (code : List Operation) (from at : Spot) (posted : Post) : Type 0 where
  pub post : (stand_of code from).post ≡ posted
  pub after : (answer : ℤ) → (stand_of code from).after answer ≡ spot_after code at answer
  pub waits : is_waiting (flat_head code at).1 ≡ true
  pub inside : at.place < length code

abbrev pub asks_fault : Option Ask → Bool
asks_fault None = false
asks_fault (Some ask) = is_fault ask

-- after a fault a thread stands at its end, and else where it stood
abbrev pub spot_after_fault : List Operation → Option Ask → Spot → Spot
spot_after_fault code ask at = if asks_fault ask then spot (last_place code) at.registers else at
