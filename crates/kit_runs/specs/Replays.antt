-- The replay of a trace (this project).
use Rattle.std.specs.Prelude.{◌≡◌, ◌≢◌, ◌+◌, ◌⊎◌, ℕ, length, take, slice_get}
use Rattle.pct_ask.specs.declared.deal.Deal.{Deal}
use Rattle.trace_text.specs.declared.file.TraceFile.{TraceFile}
use Rattle.kit_runs.specs.declared.replaying.Confirmation.{Confirmation}
use Rattle.kit_runs.specs.declared.replaying.Confirmation.TheVariants.{Confirmed, Departs}
use Rattle.kit_runs.specs.Runs.{IsFileOf}

-- what is told of a run and a trace: they are the same, or they have the same steps up to this one,
-- from 1, at which they differ
abbrev pub TellsReplay : TraceFile → TraceFile → Confirmation → Type 0
TellsReplay made file (Confirmed verdict) =
    (made.events ≡ file.events) × (made.verdict ≡ file.verdict) × (verdict ≡ file.verdict)
TellsReplay made file (Departs step) =
    (many : ℕ) × (step ≡ many + 1) × (take many made.events ≡ take many file.events)
    × ((slice_get made.events many ≢ slice_get file.events many)
    ⊎ ((made.events ≡ file.events) × (many ≡ length file.events)
    × (made.verdict ≢ file.verdict)))

-- the run by the trace's order, points and limit was made, and compared with it
pub record IsReplay (deal : Deal) (file : TraceFile) (confirmation : Confirmation) : Type 0 where
  pub made : TraceFile
  pub run : IsFileOf deal file.header.order file.header.points file.header.limit made
  pub tells : TellsReplay made file confirmation
