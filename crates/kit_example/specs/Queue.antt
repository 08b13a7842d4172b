-- A queue with one place, and the threads that put and take (the monitor's textbook form: a mutex,
-- and conditions to wait on). The variable 0 is 1 where the place is full.
use Rattle.std.specs.Prelude.{ℕ, ◌-◌, ℤ, pos, nat_le, if◌then◌else◌, List, [], ◌∷◌, Option, Some}
use Rattle.std.specs.Prelude.{None}
use Rattle.std.specs.Ordering.{int_eq}
use Rattle.pct_ask.specs.declared.ask.Ask.{Ask}
use Rattle.pct_ask.specs.declared.ask.Ask.TheVariants as asks
use Rattle.pct_ask.specs.declared.ask.Post.{Post}
use Rattle.kit_example.specs.declared.worker.Step.{Step}
use Rattle.kit_example.specs.declared.worker.Step.TheVariants.{Lock, Look, Release, Regain, Change}
use Rattle.kit_example.specs.declared.worker.Step.TheVariants.{Tell, Unlock, End}
use Rattle.kit_example.specs.declared.worker.Worker.{Worker}

-- what a worker asks at a step
abbrev pub ask_at : Worker → Step → Option Ask
ask_at w Lock = Some (asks.Lock 0)
ask_at w Look = Some (asks.Read 0)
ask_at w Release = Some (asks.Release w.waits 0)
ask_at w Regain = Some (asks.Regain w.waits 0)
ask_at w Change = Some (asks.Write 0 w.sets)
ask_at w Tell = Some (asks.Signal w.tells)
ask_at w Unlock = Some (asks.Unlock 0)
ask_at w End = None

-- the line on which a step stands, from 1; the two halves of a wait stand on one
abbrev pub line_of_step : Step → ℕ
line_of_step Lock = 1
line_of_step Look = 2
line_of_step Release = 3
line_of_step Regain = 3
line_of_step Change = 4
line_of_step Tell = 5
line_of_step Unlock = 6
line_of_step End = 7

-- what a worker posts at its step: what it asks, or that it has ended, and the line
abbrev pub post_of : Worker → Post
post_of w = record { ask = ask_at w w.at; line = line_of_step w.at }

-- The next step, once an answer has come. A worker that finds the place as it would set it waits,
-- and looks again.
abbrev pub step_after : Worker → ℤ → Step → Step
step_after w value Lock = Look
step_after w value Look = if int_eq value w.sets then Release else Change
step_after w value Release = Regain
step_after w value Regain = Look
step_after w value Change = Tell
step_after w value Tell = Unlock
step_after w value Unlock = if nat_le w.left 1 then End else Lock
step_after w value End = End

-- how many times it has still to go round
abbrev pub left_after : Worker → Step → ℕ
left_after w Unlock = w.left - 1
left_after w step = w.left

-- a worker once an answer has come: at its next step, and with one round less to go after an unlock
abbrev pub worker_after : Worker → ℤ → Worker
worker_after w value = record {
  sets = w.sets;
  left = left_after w w.at;
  at = step_after w value w.at;
  waits = w.waits;
  tells = w.tells;
}

-- what a worker posts after further answers
abbrev pub worker_pending : Worker → List ℤ → Post
worker_pending w [] = post_of w
worker_pending w (answer ∷ answers) = worker_pending (worker_after w answer) answers

-- it takes one item: it waits on the first condition, and signals the second
abbrev pub taker : ℕ → ℕ → Worker
taker filled emptied = record { sets = pos 0; left = 1; at = Lock; waits = filled; tells = emptied }

-- it puts two items, and waits and signals the other way round
abbrev pub putter : ℕ → ℕ → Worker
putter filled emptied = record {
  sets = pos 1;
  left = 2;
  at = Lock;
  waits = emptied;
  tells = filled;
}
