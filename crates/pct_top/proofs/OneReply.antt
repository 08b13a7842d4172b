-- A replay prints one thing.
use Rattle.std.proofs.Common.{◌≡◌, ℕ, List, sym, ap, ◌∙◌}
use Rattle.pct_ask.specs.declared.Deal.{Deal}
use Rattle.pct_ask.specs.NameLists.{AreNames}
use Rattle.script_tree.specs.ScriptText.{ScriptText}
use Rattle.trace_text.specs.declared.file.TraceFile.{TraceFile}
use Rattle.trace_text.specs.Trace.{IsTrace}
use Rattle.script_body.specs.Bodies.{bodies_of}
use Rattle.replay_run.proofs.laws.OneReplay.{one_replay}
use Rattle.pct_top.specs.Printed.{Printed}
use Rattle.pct_top.specs.commands.Replay.{reply_text, is_confirmed, printed_reply, PrintsReply}
use Rattle.pct_top.specs.commands.Replay.{OfReplay}
use Rattle.pct_top.specs.Call.{IsCarriedOut}
use Rattle.pct_top.proofs.Work.{one_of_trace, trace_fits}
use Rattle.pct_top.proofs.OneReport.{answers_as}

module _ (bytes : List ℕ) (script : ScriptText) (deal : Deal) (are : AreNames script.names) where
  pub one_reply : (p q : Printed) → OfReplay bytes script deal p → OfReplay bytes script deal q
      → p ≡ q
  one_reply p q a b =
      one_of_trace bytes script.names are (PrintsReply script deal) (λ file p q one two.
      one.2 ∙ ap (printed_reply script)
      (one_replay deal (bodies_of script) file one.0 two.0 one.1 two.1)
      ∙ sym two.2) p q a b

  pub reply_answers : (p : Printed) → (file : TraceFile) × IsTrace bytes script.names file
      → OfReplay bytes script deal p → IsCarriedOut p.status
  reply_answers p fits a =
      trace_fits bytes script.names are (PrintsReply script deal)
      (λ (q : Printed). IsCarriedOut q.status) (λ file q is.
      answers_as q (reply_text script.names is.0) (is_confirmed is.0) is.2) p fits a
