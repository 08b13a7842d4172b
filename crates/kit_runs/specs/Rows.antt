-- The runs of seeds, and their rows (this project).
use Rattle.std.specs.Prelude.{◌≡◌, ◌≤◌, ℕ, List, length, slice_get, Some}
use Rattle.pct_ask.specs.declared.deal.Deal.{Deal}
use Rattle.pct_ask.specs.declared.event.Row.{Row}
use Rattle.priority_draw.specs.Drawing.{draw_of_seed}
use Rattle.trace_text.specs.declared.file.TraceFile.{TraceFile}
use Rattle.report_text.specs.declared.frame.Frame.{Frame}
use Rattle.kit_runs.specs.declared.seeds.Seeds.{Seeds}
use Rattle.kit_runs.specs.Seeding.{seed_at}
use Rattle.kit_runs.specs.Runs.{IsFileOf}
use Rattle.pct_ask.specs.declared.limits.TheConstants.{MAX_POINTS, MAX_THREADS}

-- what the seed draws: an order of the threads, and one change point fewer than the depth
pub record IsDrawOf (threads : ℕ) (seeds : Seeds) (seed : ℕ) (order points : List ℕ) : Type 0 where
  pub order_is : order ≡ (draw_of_seed seed threads seeds.steps seeds.depth).order
  pub points_are : points ≡ (draw_of_seed seed threads seeds.steps seeds.depth).points
  pub few : length points ≤ MAX_POINTS
  pub short : length order ≤ MAX_THREADS

-- the run of the order and the points that the seed draws
abbrev pub IsRunOfSeed : Deal → Seeds → ℕ → TraceFile → Type 0
IsRunOfSeed deal seeds seed file =
    let gives = draw_of_seed seed deal.threads seeds.steps seeds.depth in
    IsFileOf deal gives.order gives.points seeds.limit file

-- the row of the seed's run: how many steps it has, and its verdict
pub record IsRowOf (deal : Deal) (seeds : Seeds) (seed : ℕ) (row : Row) : Type 0 where
  pub file : TraceFile
  pub run : IsRunOfSeed deal seeds seed file
  pub seed_is : row.seed ≡ seed
  pub steps : row.steps ≡ length file.events
  pub verdict : row.verdict ≡ file.verdict

-- one row for each of so many seeds, in their order
pub record AreRowsOf (deal : Deal) (seeds : Seeds) (count : ℕ) (rows : List Row) : Type 0 where
  pub all : length rows ≡ count
  pub each : (place : ℕ) (row : Row) → slice_get rows place ≡ Some row
      → IsRowOf deal seeds (seed_at seeds.first place) row

-- what the runs of a campaign have in common
abbrev pub frame_by : Deal → Seeds → Frame
frame_by deal seeds = record {
  threads = deal.threads;
  steps = seeds.steps;
  depth = seeds.depth;
  limit = seeds.limit;
}
