-- A run of a program (this project): the steps are those of the scheduler's one run over what the
-- threads posted.
use Rattle.std.specs.Prelude.{◌≡◌, ℕ, nat_lt, if◌then◌else◌, List, Some}
use Rattle.pct_ask.specs.TraceText.{TraceHead}
use Rattle.pct_ask.specs.declared.deal.Deal.{Deal}
use Rattle.pct_ask.specs.declared.event.Event.{Event}
use Rattle.pct_ask.specs.declared.verdict.Verdict.{Verdict}
use Rattle.pct_ask.specs.declared.verdict.Outcome.TheVariants.{Verdict as Ends}
use Rattle.policy_pick.specs.Plan.{ByPoints}
use Rattle.turn_book.specs.Told.{BookState, IsLawful, SameMaking, new_book}
use Rattle.trace_text.specs.Trace.{head_of}
use Rattle.trace_text.specs.declared.file.TraceFile.{TraceFile}

-- A run by a book's deal, limit and plan: there are posts over which they have these steps, and the
-- verdict is what became of them.
pub record IsRunOfBook (first : BookState) (events : List Event) (verdict : Verdict)
    : Type 0 where
  pub book : BookState
  pub making : SameMaking first book
  pub lawful : IsLawful book
  pub trace : book.trace ≡ events
  pub outcome : book.outcome ≡ Some (Ends verdict)

-- the version of a trace that tells of a test: the second one, where it has read-write locks
abbrev pub version_of : Deal → ℕ
version_of deal = if nat_lt 0 deal.rwlocks then 2 else 1

-- a trace's head
abbrev pub head_with : ℕ → List ℕ → List ℕ → ℕ → TraceHead
head_with version order points limit =
    record { version = version; order = order; points = points; limit = limit }

-- a run by an order, change points and a limit, with a header that says so
pub record IsFileOf (deal : Deal) (order points : List ℕ) (limit : ℕ) (file : TraceFile)
    : Type 0 where
  pub run : IsRunOfBook (new_book deal limit (ByPoints order points)) file.events file.verdict
  pub header : head_of file.header ≡ head_with (version_of deal) order points limit
