-- What a thread posts that runs flat code (this project).
use Rattle.std.specs.Prelude.{ℕ, ℤ, pos, Bool, true, false, if◌then◌else◌, List, [], ◌∷◌, replicate}
use Rattle.std.specs.Prelude.{Option, Some, None, Ok, Err, slice_get}
use Rattle.pct_ask.specs.Words.{register_count}
use Rattle.pct_ask.specs.declared.ask.Ask.{Ask}
use Rattle.pct_ask.specs.declared.ask.Ask.TheVariants as asks
use Rattle.pct_ask.specs.declared.ask.Post.{Post}
use Rattle.script_tree.specs.Trees.{Statement, line_of}
use Rattle.script_tree.specs.Values.{Value, is_zero, value_of}
use Rattle.script_tree.specs.Machine.{Act, Moves, Asks, Ends, pending_from}
use Rattle.script_tree.specs.Moves.{State, act}
use Rattle.script_tree.specs.Posts.{most_moves}
use Rattle.script_code.specs.Operations.{Operation, Do, Test, End, Begin}
use Rattle.script_code.specs.Placed.{last_place}

-- where a thread stands in its code, with its numbers, and whether it has had the first answer of a
-- `wait` or `arrive`
pub record Spot : Type 0 where
  pub place : ℕ
  pub registers : List ℤ
  pub halfway : Bool

-- before the operation at this place, with these numbers in the registers
abbrev pub spot : ℕ → List ℤ → Spot
spot place registers = record { place = place; registers = registers; halfway = false }

-- where a thread begins: at the first operation, with 0 in each register
abbrev pub first_spot : Spot
first_spot = spot 0 (replicate register_count (pos 0))

-- at the last operation of the code
abbrev pub last_spot : List Operation → Spot
last_spot code = spot (last_place code) []

-- whether a thread asks for a fault of its own
abbrev pub is_fault : Ask → Bool
is_fault (asks.Fault kind) = true
is_fault ask = false

-- after a statement that stood alone: where nothing of it remains, the next operation's turn comes
abbrev pub spot_after_lone : (place next : ℕ) → List Statement → List ℤ → Bool → Spot
spot_after_lone place next [] registers halfway = spot next registers
spot_after_lone place next (s ∷ rest) registers halfway = record {
  place = place;
  registers = registers;
  halfway = halfway;
}

-- where a thread goes on in its code, by the state in which a statement that stood alone leaves it
abbrev pub after_lone : (place next : ℕ) → State → Spot
after_lone place next state = spot_after_lone place next state.rest state.registers state.halfway

-- what a statement alone does, in the code
abbrev pub lone_move : (State → Spot) → Act State → Spot → Act Spot
lone_move go (Moves (Ok state)) last = Moves (Ok (go state))
lone_move go (Moves (Err kind)) last = Moves (Err kind)
lone_move go (Asks ask after) last =
    Asks ask (λ answer. if is_fault ask then last else go (after answer))
lone_move go Ends last = Ends

-- a test is a local move, or its fault
abbrev pub test_move : Value → (ℤ → Spot) → Act Spot
test_move (Ok n) next = Moves (Ok (next n))
test_move (Err kind) next = Moves (Err kind)

-- what an operation does, with its line
abbrev pub flat_act : Option Operation → List Operation → Spot → ℕ × Act Spot
flat_act None code at = (0, Ends)
flat_act (Some (Do s next)) code at = (
  line_of s,
  lone_move (after_lone at.place next) (act [] at.registers at.halfway s)
      (last_spot code),
)
flat_act (Some (Test line test next otherwise)) code at = (
  line,
  test_move (value_of at.registers test) (λ n.
      spot (if is_zero n then otherwise else next) at.registers),
)
flat_act (Some (End line)) code at = (line, Ends)
flat_act (Some (Begin line next)) code at =
    (line, Asks asks.Begin (λ answer. spot next at.registers))

-- what comes first at a spot of the code, with its line
abbrev pub flat_head : List Operation → Spot → ℕ × Act Spot
flat_head code at = flat_act (slice_get code at.place) code at

-- the post after these answers of a thread at this spot
abbrev pub flat_pending_from : List Operation → Spot → List ℤ → Post
flat_pending_from code at answers =
    pending_from (flat_head code) (last_spot code) most_moves at answers

-- the post after these answers of a thread that runs the code from its first operation
abbrev pub flat_pending : List Operation → List ℤ → Post
flat_pending code answers = flat_pending_from code first_spot answers
