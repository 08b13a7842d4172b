-- Which code is a script's (this project).
use Rattle.std.specs.Prelude.{◌≡◌, ℕ, ◌<◌, ℤ, Bool, true, false, List, ◌∷◌, length}
use Rattle.std.specs.List.{list_all}
use Rattle.script_tree.specs.ScriptText.{ScriptText}
use Rattle.script_tree.specs.Posts.{pending, is_held, thread_of}
use Rattle.script_code.specs.Operations.{Operation, Begin}
use Rattle.script_code.specs.Placed.{listing_of}
use Rattle.script_code.specs.FlatPosts.{flat_pending}

-- an operation other than a beginning
abbrev pub goes_on : Operation → Bool
goes_on (Begin line next) = false
goes_on op = true

-- a beginning stands first where the thread is held, with the thread's line, and nowhere else
abbrev pub BeginsWhereHeld : Bool → (line : ℕ) → List Operation → Type 0
BeginsWhereHeld true line code =
    (rest : List Operation)
    × (next : ℕ)
    × (code ≡ Begin line next ∷ rest)
    × (list_all goes_on rest ≡ true)
BeginsWhereHeld false line code = list_all goes_on code ≡ true

-- the code has a list for each thread of the script, and each posts what the script's thread does
pub record IsCodeOf (script : ScriptText) (code : List (List Operation)) : Type 0 where
  pub threads : length code ≡ length script.threads
  pub posts : (t : ℕ) → t < length script.threads → (answers : List ℤ)
      → flat_pending (listing_of code t) answers ≡ pending script t answers
  pub begins : (t : ℕ) → t < length script.threads
      → BeginsWhereHeld (is_held script t) (thread_of script t).line (listing_of code t)
