-- What a run of ports says where the threads' posts are those of bodies (this project).
use Rattle.std.specs.Prelude.{ℕ, List}
use Rattle.pct_ask.specs.declared.deal.Deal.{Deal}
use Rattle.pct_ask.specs.declared.verdict.Outcome.TheVariants.{Verdict as Ends}
use Rattle.pct_ask.specs.Bodies.{Pending}
use Rattle.policy_pick.specs.Plan.{ByPoints}
use Rattle.turn_book.specs.Told.{BookState}
use Rattle.turn_book.specs.Posts.{KeepsPosts, source_of}
use Rattle.trace_text.specs.declared.file.TraceFile.{TraceFile}
use Rattle.worker_run.specs.Bodies.{source_of_bodies}
use Rattle.worker_run.specs.Played.{IsPlayed}
use Rattle.kit_runs.specs.Runs.{IsFileOf}

-- Each thread has posted what its body posts after the answers that the thread has had.
abbrev pub ArePostsOf : List Pending → BookState → Type 0
ArePostsOf bodies book = KeepsPosts book.trace (source_of book.posts) (source_of_bodies bodies)

-- What a thread posts has to follow from its answers. Where it does so by some bodies, a run of the
-- program is the one that is played over these bodies, however its threads were scheduled.
abbrev pub EachRunIsTheirs : Type 0
EachRunIsTheirs =
    (deal : Deal) (order points : List ℕ) (limit : ℕ) (file : TraceFile) (bodies : List Pending)
    (made : IsFileOf deal order points limit file) → ArePostsOf bodies (made.run).book
    → IsPlayed (ByPoints order points) deal bodies limit file.events (Ends file.verdict)
