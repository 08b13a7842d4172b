-- `replay`: a trace is confirmed, or it is told where it departs from the run of its threads (this
-- project).
use Rattle.std.specs.Prelude.{◌≡◌, ℕ, Bool, true, false, List, [], ◌∷◌, codes, decimal}
use Rattle.std.specs.List.{flat_map}
use Rattle.pct_ask.specs.declared.Deal.{Deal}
use Rattle.pct_ask.specs.NameLists.{NameLists}
use Rattle.pct_ask.specs.VerdictText.{thread_name, named_verdict, verdict_words}
use Rattle.pct_ask.specs.TraceText.{event_words, verdict_line_words, line_text}
use Rattle.script_tree.specs.ScriptText.{ScriptText}
use Rattle.trace_text.specs.declared.file.TraceFile.{TraceFile}
use Rattle.replay_run.specs.declared.answer.Written.{Written}
use Rattle.replay_run.specs.declared.answer.Written.TheVariants as written
use Rattle.replay_run.specs.declared.answer.Found.{Found}
use Rattle.replay_run.specs.declared.answer.Found.TheVariants as found
use Rattle.replay_run.specs.declared.answer.Replayed.{Replayed}
use Rattle.replay_run.specs.declared.answer.Replayed.TheVariants.{Confirmed, Departs}
use Rattle.script_body.specs.Bodies.{bodies_of}
use Rattle.replay_run.specs.Replay.{IsReplay}
use Rattle.pct_top.specs.Printed.{Printed, printed_text, OfTrace}

-- what the trace has at a step
abbrev pub written_words : NameLists → ℕ → Written → List (List ℕ)
written_words names step (written.Event event) = event_words names step event
written_words names step (written.Verdict verdict) = verdict_line_words names verdict

-- what the run has at a step
abbrev pub found_words : NameLists → ℕ → Found → List (List ℕ)
found_words names step (found.Event event) = event_words names step event
found_words names step (found.NotEnabled thread) =
    codes "notenabled" ∷ thread_name names thread ∷ []
found_words names step (found.Goes thread) = codes "goes" ∷ thread_name names thread ∷ []
found_words names step (found.Over verdict) = verdict_line_words names verdict

-- one line where the trace is confirmed, or the three lines of a departure
abbrev pub reply_lines : NameLists → Replayed → List (List (List ℕ))
reply_lines names (Confirmed verdict) =
    (codes "confirmed" ∷ verdict_words (named_verdict names verdict)) ∷ []
reply_lines names (Departs step found written) =
    (codes "departs" ∷ decimal step ∷ []) ∷ (codes "written" ∷ written_words names step written)
    ∷ (codes "found" ∷ found_words names step found) ∷ []

-- the lines of the reply, each with its LF
abbrev pub reply_text : NameLists → Replayed → List ℕ
reply_text names reply = flat_map line_text (reply_lines names reply)

-- whether the trace is confirmed, and departs nowhere
abbrev pub is_confirmed : Replayed → Bool
is_confirmed (Confirmed verdict) = true
is_confirmed (Departs step found written) = false

-- the reply, whole
abbrev pub printed_reply : ScriptText → Replayed → Printed
printed_reply script reply = printed_text (reply_text script.names reply) (is_confirmed reply)

-- the reply to the trace
abbrev pub PrintsReply : ScriptText → Deal → TraceFile → Printed → Type 0
PrintsReply script deal file printed =
    (reply : Replayed) × IsReplay deal (bodies_of script) file reply
    × (printed ≡ printed_reply script reply)

-- the reply to the trace that these bytes are, or their fault
abbrev pub OfReplay : List ℕ → ScriptText → Deal → Printed → Type 0
OfReplay bytes script deal printed = OfTrace bytes script.names (PrintsReply script deal) printed
