-- The threads of a small test (this project): the first two each read a variable and write the next
-- number into it, and the third waits for both and checks that it is 2. Tests and examples run
-- them.
use Rattle.std.specs.Prelude.{ℕ, zero, suc, ◌+◌, ℤ, pos, if◌then◌else◌}
use Rattle.std.specs.Prelude.{List, [], ◌∷◌, Some, None}
use Rattle.std.specs.Ordering.{int_eq}
use Rattle.pct_ask.specs.declared.ask.Ask.{Ask}
use Rattle.pct_ask.specs.declared.ask.Ask.TheVariants.{Read, Write, Join, Check}
use Rattle.pct_ask.specs.declared.ask.Post.{Post}

-- 1 after 0, and else 2
abbrev pub next_number : ℤ → ℤ
next_number seen = if int_eq seen (pos 0) then pos 1 else pos 2

-- a post with this ask, on a line of the test
abbrev pub asking_post : Ask → ℕ → Post
asking_post ask line = record { ask = Some ask; line = line }

-- a post by which the thread has ended, on a line of the test
abbrev pub ending_post : ℕ → Post
ending_post line = record { ask = None; line = line }

-- a thread that reads and writes, from this line on, by how many answers it has had and the last of
-- them
abbrev pub counter_post : ℕ → ℕ → ℤ → Post
counter_post line zero seen = asking_post (Read 0) line
counter_post line (suc zero) seen = asking_post (Write 0 (next_number seen)) (line + 1)
counter_post line (suc (suc steps)) seen = ending_post (line + 2)

-- the thread that checks
abbrev pub checker_post : ℕ → ℤ → Post
checker_post zero seen = asking_post (Join 0) 12
checker_post (suc zero) seen = asking_post (Join 1) 13
checker_post (suc (suc zero)) seen = asking_post (Read 0) 14
checker_post (suc (suc (suc zero))) seen = asking_post (Check (int_eq seen (pos 2))) 15
checker_post (suc (suc (suc (suc steps)))) seen = ending_post 16

-- what each thread of the test posts, by how many answers it has had and the last of them: the
-- first two begin on the lines 4 and 8
abbrev pub sample_post : ℕ → ℕ → ℤ → Post
sample_post zero steps seen = counter_post 4 steps seen
sample_post (suc zero) steps seen = counter_post 8 steps seen
sample_post (suc (suc t)) steps seen = checker_post steps seen

-- what a thread of the test posts after further answers
abbrev pub sample_pending : ℕ → ℕ → ℤ → List ℤ → Post
sample_pending t steps seen [] = sample_post t steps seen
sample_pending t steps seen (answer ∷ answers) = sample_pending t (steps + 1) answer answers

-- the three threads of the test, before any answer
abbrev pub sample_threads : List (List ℤ → Post)
sample_threads =
    sample_pending 0 0 (pos 0) ∷ sample_pending 1 0 (pos 0) ∷ sample_pending 2 0 (pos 0) ∷ []
