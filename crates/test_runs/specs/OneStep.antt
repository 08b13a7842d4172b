-- A thread of one step (this project): it asks, and ends. Tests run such threads.
use Rattle.std.specs.Prelude.{nat_lt, ℕ, ℤ, Bool, true, false, List, [], ◌∷◌}
use Rattle.pct_ask.specs.declared.ask.Ask.{Ask}
use Rattle.pct_ask.specs.declared.ask.Ask.TheVariants.{Add, Down, Check}
use Rattle.pct_ask.specs.declared.ask.Post.{Post}
use Rattle.worker_run.specs.Samples.{asking_post, ending_post}

-- what it posts after further answers, by whether it was answered before
abbrev pub once_pending : Ask → ℕ → Bool → List ℤ → Post
once_pending ask line true answers = ending_post line
once_pending ask line false [] = asking_post ask line
once_pending ask line false (answer ∷ answers) = ending_post line

-- it adds to the one variable, takes from the one semaphore, or checks
abbrev pub is_deed : Ask → Bool
is_deed (Add x value) = nat_lt x 1
is_deed (Down s) = nat_lt s 1
is_deed (Check holds) = true
is_deed ask = false
