use Rattle.std.proofs.Common.{sym, ap, subst, ◌∙◌}
use Rattle.std.specs.Prelude.{ℕ, List}
use Rattle.script_tree.specs.ScriptSeen.{plain_script}
use Rattle.pct_top.specs.Printed.{printed_text}
use Rattle.pct_top.specs.commands.KnownReply.{IsKnownReply}
use Rattle.pct_top.specs.commands.Replay.{reply_text}
use Rattle.pct_top.proofs.Replies.{known_reply}
use Rattle.pct_top.proofs.commands.replay.reply_to.Goals as goal

pub write_reply-requires : goal.write_reply-requires
write_reply-requires g c =
    let test = c.args.test.now in
    let ready = test.is_ready in
    subst (λ names. IsKnownReply names c.in_ok-reply.reply) (sym c.names.ensures)
    (known_reply (plain_script test.script) test.deal ready.sound ready.is_deal c.requires.0
    c.args.told.now c.requires.1 c.in_ok-reply.reply
    (c.in_ok-reply.ensures.replay (plain_script test.script) ready))

pub returns : goal.returns
returns g c =
    let test = c.args.test.now in
    let reply = c.in_ok-reply.reply in (
      reply,
      c.in_ok-reply.ensures.replay (plain_script test.script) test.is_ready,
      ap (λ (t : List ℕ). printed_text t c.is_confirmed-done.result)
          (c.in_ok-text.ensures ∙ ap (λ names. reply_text names reply) c.names.ensures)
          ∙ ap (printed_text (reply_text (plain_script test.script).names reply))
          c.is_confirmed-done.ensures,
    )
