-- A campaign: a test is run once for each of some seeds, with the order and the change points that
-- the seed gives, and each run makes a row (this project; the runs are those of the PCT
-- scheduler: Burckhardt, Kothari, Musuvathi, Nagarakatte, "A Randomized Scheduler with
-- Probabilistic Guarantees of Finding Bugs", 2010).
use Rattle.std.specs.Prelude.{ℕ, ◌+◌, ◌%◌, ◌^◌, List, length, map, Option}
use Rattle.std.specs.Option.{option_map}
use Rattle.std.specs.List.{range_with_len}
use Rattle.pct_ask.specs.declared.Deal.{Deal}
use Rattle.pct_ask.specs.declared.event.Row.{Row}
use Rattle.pct_ask.specs.Bodies.{Pending}
use Rattle.priority_draw.specs.Drawing.{draw_of_seed}
use Rattle.worker_run.specs.Run.{Run, run}

-- what the runs of a campaign have in common: what the threads share, their bodies, the depth, from
-- how many steps points are drawn, and the limit
pub record CampaignSetup : Type 0 where
  pub deal : Deal
  pub bodies : List Pending
  pub depth : ℕ
  pub steps : ℕ
  pub limit : ℕ

-- the run of the order and the points of a seed
abbrev pub run_of_seed : CampaignSetup → ℕ → Option Run
run_of_seed setup seed =
    let gives = draw_of_seed seed setup.deal.threads setup.steps setup.depth in
    run setup.deal setup.bodies gives.order gives.points setup.limit

-- what a row has of a run: the number of its steps, and its verdict
abbrev pub row_of_run : ℕ → Run → Row
row_of_run seed ended = record { seed = seed; steps = length ended.0; verdict = ended.1 }

-- the row of a seed
abbrev pub row_of_seed : CampaignSetup → ℕ → Option Row
row_of_seed setup seed = option_map (row_of_run seed) (run_of_seed setup seed)

-- the seed of a row, from 0: after the last seed, 2^64 - 1, comes 0
abbrev pub seed_at : ℕ → ℕ → ℕ
seed_at first place = (first + place) % 2 ^ 64

-- the rows of so many seeds from the first one on
abbrev pub rows_of : CampaignSetup → ℕ → ℕ → List (Option Row)
rows_of setup first count =
    map (λ place. row_of_seed setup (seed_at first place)) (range_with_len 0 count)
