use Rattle.std.proofs.Common.{◌≡◌, Some, None, Option, Result, Err, sym, ap, ◌∙◌, subst}
use Rattle.std.specs.Prelude.{◌==◌, IfOk}
use Rattle.pct_ask.specs.Tokens.{tokens_of}
use Rattle.script_tree.specs.declared.fault.ScriptFault.{ScriptFault}
use Rattle.script_parse.specs.Part.{ReadPart}
use Rattle.script_parse.specs.Lookahead.{place_ahead}
use Rattle.script_parse.specs.Seen.{all_seen}
use Rattle.script_parse.specs.States.{seen_state, seen_step}
use Rattle.script_parse.specs.Reading.{bytes_fault}
use Rattle.script_parse.proofs.BelowSteps.{line_taken-said, line_said-uncut}
use Rattle.script_parse.proofs.parsing.read_line.Goals as goal

pub returns-in-None : goal.returns-in-None
returns-in-None c =
    let sound : bytes_fault c.args.number c.args.line.now ≡ None =
    sym c.bytes_fault.ensures ∙ c.in_default.is in
    let cut : tokens_of c.args.line.now ≡ None = sym (rw c.in-None.is at c.in_ok-tokens.ensures) in
    c.bad-in-None.ensures
    ∙ ap (err_of (Option ReadPart)) c.uncut_fault-kind.ensures
    ∙ sym (line_said-uncut (seen_state c.args.state) (place_ahead c.args.ahead.now) c.args.number
    (c.args.number == c.args.ahead.now.lines))
    ∙ sym (line_taken-said (seen_state c.args.state) (place_ahead c.args.ahead.now) c.args.number
    (c.args.number == c.args.ahead.now.lines) c.args.line.now None sound cut)
  where
    err_of : (A : Type 0) → ScriptFault → Result A ScriptFault
    err_of A kind = Err kind

pub returns-in-Some-2 : goal.returns-in-Some-2
returns-in-Some-2 c =
    let sound : bytes_fault c.args.number c.args.line.now ≡ None =
    sym c.bytes_fault.ensures ∙ c.in_default.is in
    let cut = rw c.in-Some-2.is at c.in_ok-tokens.ensures in
    let seen = sym cut ∙ ap (λ ts. Some (all_seen ts)) (sym c.deref.ensures.value) in
    let same = line_taken-said (seen_state c.args.state) (place_ahead c.args.ahead.now)
    c.args.number (c.args.number == c.args.ahead.now.lines) c.args.line.now
    (Some (all_seen c.deref.result.now)) sound seen in
    subst (λ read. IfOk c.read_tokens.result (λ step. seen_step step ≡ read)) (sym same)
    c.read_tokens.ensures
