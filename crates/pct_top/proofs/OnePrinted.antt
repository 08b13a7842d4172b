-- For words and files there is one thing to print.
use Rattle.std.proofs.Common.{◌≡◌, Ok, Err, sym, take, ◌∙◌}
use Rattle.pct_ask.specs.declared.Deal.{Deal}
use Rattle.pct_ask.specs.NameLists.{AreNames}
use Rattle.script_tree.specs.ScriptText.{ScriptText}
use Rattle.pct_top.specs.declared.settings.Settings.{Settings}
use Rattle.pct_top.specs.declared.settings.Settings.TheVariants.{RunOrder, RunSeed, Campaign, Big}
use Rattle.pct_top.specs.declared.settings.Settings.TheVariants.{Replay, Expose, Certify, Sweep}
use Rattle.pct_top.specs.Settings.{SettingsOrWord}
use Rattle.pct_top.specs.Ordered.{OrderFits}
use Rattle.pct_top.specs.Printed.{NamedFiles, Printed, trace_bytes, directive_bytes}
use Rattle.pct_top.specs.Output.{script_text, order_given, SecondFits, OfCommand, OfTaken}
use Rattle.pct_top.specs.Call.{IsCarriedOut, CanRun}
use Rattle.pct_top.proofs.Work.{one_of_script, script_fits}
use Rattle.pct_top.proofs.OneReport.{one_ordered, ordered_answers, one_seed, seed_answers}
use Rattle.pct_top.proofs.OneCampaign.{campaign_once, campaign_answers}
use Rattle.pct_top.proofs.OneBig.{big_once, big_answers}
use Rattle.pct_top.proofs.OneReply.{one_reply, reply_answers}
use Rattle.pct_top.proofs.OneExposed.{expose_once, expose_answers}
use Rattle.pct_top.proofs.OneCertificate.{certify_once, certify_answers}
use Rattle.pct_top.proofs.OneSweep.{sweep_once, sweep_answers}

-- ---- the commands

one_command : (settings : Settings) (files : NamedFiles) (script : ScriptText) (deal : Deal)
    (p q : Printed) → AreNames script.names → OfCommand settings files script deal p
    → OfCommand settings files script deal q → p ≡ q
one_command (RunOrder file order word points limit report) files script deal p q are =
    one_ordered script deal limit order word points report p q
one_command (RunSeed file seed depth steps limit report) files script deal p q are =
    one_seed script deal limit seed depth steps report p q
one_command (Campaign file first count depth steps limit json serve) files script deal p q are =
    campaign_once script deal first count depth steps limit json p q
one_command (Big pieces serve) files script deal p q are = big_once script deal pieces p q
one_command (Replay file trace) files script deal p q are =
    one_reply (take trace_bytes (files trace)) script deal are p q
one_command (Expose file directive order word steps limit) files script deal p q are =
    expose_once script deal limit steps (take directive_bytes (files directive)) order word are p q
one_command (Certify file directive steps limit serve) files script deal p q are =
    certify_once script deal steps limit (take directive_bytes (files directive)) are p q
one_command (Sweep file depth steps limit json serve) files script deal p q are =
    sweep_once script deal depth steps limit json p q

-- what fits is carried out
command_answers : (settings : Settings) (files : NamedFiles) (script : ScriptText) (deal : Deal)
    (p : Printed) → AreNames script.names → OrderFits script.names (order_given settings)
    → SecondFits settings files script → OfCommand settings files script deal p
    → IsCarriedOut p.status
command_answers (RunOrder file order word points limit report) files script deal p are fits second =
    ordered_answers script deal limit order word points report p fits
command_answers (RunSeed file seed depth steps limit report) files script deal p are fits second =
    seed_answers script deal limit seed depth steps report p
command_answers (Campaign file first count depth steps limit json serve) files script deal p are
    fits
    second = campaign_answers script deal first count depth steps limit json p
command_answers (Big pieces serve) files script deal p are fits second =
    big_answers script deal pieces p
command_answers (Replay file trace) files script deal p are fits second =
    reply_answers (take trace_bytes (files trace)) script deal are p second
command_answers (Expose file directive order word steps limit) files script deal p are fits second =
    expose_answers script deal limit steps (take directive_bytes (files directive)) order word are p
    fits second
command_answers (Certify file directive steps limit serve) files script deal p are fits second =
    certify_answers script deal steps limit (take directive_bytes (files directive)) are p second
command_answers (Sweep file depth steps limit json serve) files script deal p are fits second =
    sweep_answers script deal depth steps limit json p

-- ---- a call

pub one_printed : (taken : SettingsOrWord) (files : NamedFiles) (p q : Printed)
    → OfTaken taken files p
    → OfTaken taken files q → p ≡ q
one_printed (Ok settings) files p q a b =
    one_of_script (script_text settings files) (OfCommand settings files)
    (one_command settings files) p q a b
one_printed (Err number) files p q a b = a ∙ sym b

pub printed_answers : (taken : SettingsOrWord) (files : NamedFiles) (p : Printed)
    → CanRun taken files
    → OfTaken taken files p → IsCarriedOut p.status
printed_answers (Ok settings) files p can a =
    script_fits (script_text settings files) (OfCommand settings files)
    (λ (q : Printed). IsCarriedOut q.status) can.0 can.1
    (λ deal q are. command_answers settings files can.0 deal q are can.2 can.3) p a
printed_answers (Err number) files p can a = absurd can
