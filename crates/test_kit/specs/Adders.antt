-- Threads that add one to a variable (this project).
use Rattle.std.specs.Prelude.{ℕ, zero, suc, ◌-◌, ℤ, pos, List, [], ◌∷◌, Some, None}
use Rattle.pct_ask.specs.declared.ask.Ask.TheVariants as asks
use Rattle.pct_ask.specs.declared.ask.Post.{Post}

-- what a thread posts that adds so many times still
abbrev pub adder_post : ℕ → Post
adder_post zero = record { ask = None; line = 1 }
adder_post (suc left) = record { ask = Some (asks.Add 0 (pos 1)); line = 1 }

-- and after further answers
abbrev pub adder_pending : ℕ → List ℤ → Post
adder_pending left [] = adder_post left
adder_pending left (answer ∷ answers) = adder_pending (left - 1) answers
