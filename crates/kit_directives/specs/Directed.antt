-- Runs by moments (this project): a run by points that stand for the moments in that very run.
use Rattle.std.specs.Prelude.{◌≡◌, ℕ, List, length}
use Rattle.pct_ask.specs.declared.deal.Deal.{Deal}
use Rattle.pct_ask.specs.declared.verdict.Verdict.{Verdict}
use Rattle.rank_now.specs.declared.moment.Moment.{Moment}
use Rattle.turn_book.specs.Posts.{schedule_of}
use Rattle.trace_text.specs.declared.file.TraceFile.{TraceFile}
use Rattle.choices.specs.Points.{points_of}
use Rattle.kit_runs.specs.Runs.{IsFileOf}

-- The run of the order and some points, each of which is the step at which its moment occurs in
-- this run, or the limit where it doesn't.
pub record IsDirectedFile (deal : Deal) (order : List ℕ) (moments : List Moment) (limit : ℕ)
    (file : TraceFile) : Type 0 where
  pub points : List ℕ
  pub run : IsFileOf deal order points limit file
  pub stand : points ≡ points_of (schedule_of file.events) limit moments

-- a run of the moments has the verdict, and so many steps
pub record LeadsTo (deal : Deal) (order : List ℕ) (limit : ℕ) (verdict : Verdict)
    (moments : List Moment) (steps : ℕ) : Type 0 where
  pub file : TraceFile
  pub directed : IsDirectedFile deal order moments limit file
  pub verdict_is : file.verdict ≡ verdict
  pub number : steps ≡ length file.events
