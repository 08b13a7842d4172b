-- A law on replies (this project).
use Rattle.std.specs.Prelude.{◌≡◌, List}
use Rattle.pct_ask.specs.declared.Deal.{Deal}
use Rattle.pct_ask.specs.Bodies.{Pending}
use Rattle.trace_text.specs.declared.file.TraceFile.{TraceFile}
use Rattle.replay_run.specs.declared.answer.Replayed.{Replayed}
use Rattle.replay_run.specs.Replay.{IsReplay}

-- A trace has one reply.
abbrev pub EachHasOneReply : Type 0
EachHasOneReply =
    (deal : Deal) (bodies : List Pending) (file : TraceFile) (one other : Replayed)
    → IsReplay deal bodies file one → IsReplay deal bodies file other → one ≡ other
