-- What a call of the program writes, and how it ends (this project).
use Rattle.std.specs.Prelude.{◌≡◌, ℕ, List, take, Option, Some, None, Ok, Err}
use Rattle.pct_ask.specs.declared.Deal.{Deal}
use Rattle.pct_ask.specs.NameLists.{NameLists}
use Rattle.script_tree.specs.ScriptText.{ScriptText}
use Rattle.script_tree.specs.Layout.{layout}
use Rattle.large_script.specs.Large.{large_script}
use Rattle.trace_text.specs.declared.file.TraceFile.{TraceFile}
use Rattle.trace_text.specs.Trace.{IsTrace}
use Rattle.directive.specs.declared.directive.Directive.{Directive}
use Rattle.directive.specs.Directive.{IsDirective}
use Rattle.directive.specs.Answers.{plain_directive as plain}
use Rattle.pct_top.specs.declared.refusal.Refusal.TheVariants.{Usage}
use Rattle.pct_top.specs.declared.settings.Settings.{Settings}
use Rattle.pct_top.specs.declared.settings.Settings.TheVariants.{RunOrder, RunSeed, Campaign, Big}
use Rattle.pct_top.specs.declared.settings.Settings.TheVariants.{Replay, Expose, Certify, Sweep}
use Rattle.pct_top.specs.Settings.{SettingsOrWord, settings}
use Rattle.pct_top.specs.Printed.{NamedFiles, Printed, printed_refusal, script_bytes, trace_bytes}
use Rattle.pct_top.specs.Printed.{directive_bytes, OfScript}
use Rattle.pct_top.specs.Reports.{OfOrdered, OfSeed}
use Rattle.pct_top.specs.commands.Campaign.{OfCampaign}
use Rattle.pct_top.specs.commands.Big.{OfBig}
use Rattle.pct_top.specs.commands.Replay.{OfReplay}
use Rattle.pct_top.specs.commands.Expose.{OfExpose}
use Rattle.pct_top.specs.commands.Certify.{OfCertify}
use Rattle.pct_top.specs.commands.Sweep.{OfSweep}

-- ---- the commands: what each reads and prints

-- the file of the command's script; none where it has a script of its own
abbrev pub script_file : Settings → Option (List ℕ)
script_file (RunOrder file order word points limit report) = Some file
script_file (RunSeed file seed depth steps limit report) = Some file
script_file (Campaign file first count depth steps limit json serve) = Some file
script_file (Big pieces serve) = None
script_file (Replay file trace) = Some file
script_file (Expose file directive order word steps limit) = Some file
script_file (Certify file directive steps limit serve) = Some file
script_file (Sweep file depth steps limit json serve) = Some file

-- the text of the command's script
abbrev pub script_text : Settings → NamedFiles → List ℕ
script_text (RunOrder file order word points limit report) files = take script_bytes (files file)
script_text (RunSeed file seed depth steps limit report) files = take script_bytes (files file)
script_text (Campaign file first count depth steps limit json serve) files =
    take script_bytes (files file)
script_text (Big pieces serve) files = layout (large_script pieces)
script_text (Replay file trace) files = take script_bytes (files file)
script_text (Expose file directive order word steps limit) files =
    take script_bytes (files file)
script_text (Certify file directive steps limit serve) files = take script_bytes (files file)
script_text (Sweep file depth steps limit json serve) files = take script_bytes (files file)

-- the names of an order, where the words give one
abbrev pub order_given : Settings → Option (List (List ℕ))
order_given (RunOrder file order word points limit report) = Some order
order_given (RunSeed file seed depth steps limit report) = None
order_given (Campaign file first count depth steps limit json serve) = None
order_given (Big pieces serve) = None
order_given (Replay file trace) = None
order_given (Expose file directive order word steps limit) = Some order
order_given (Certify file directive steps limit serve) = None
order_given (Sweep file depth steps limit json serve) = None

-- the second file
abbrev pub second_file : Settings → Option (List ℕ)
second_file (RunOrder file order word points limit report) = None
second_file (RunSeed file seed depth steps limit report) = None
second_file (Campaign file first count depth steps limit json serve) = None
second_file (Big pieces serve) = None
second_file (Replay file trace) = Some trace
second_file (Expose file directive order word steps limit) = Some directive
second_file (Certify file directive steps limit serve) = Some directive
second_file (Sweep file depth steps limit json serve) = None

-- the file is a directive's under these names
abbrev pub FitsDirective : NamedFiles → List ℕ → NameLists → Type 0
FitsDirective files file names =
    (directive : Directive)
    × IsDirective (take directive_bytes (files file)) names (plain directive)

-- the second file is in its grammar
abbrev pub SecondFits : Settings → NamedFiles → ScriptText → Type 0
SecondFits (RunOrder file order word points limit report) files script = Unit {0}
SecondFits (RunSeed file seed depth steps limit report) files script = Unit {0}
SecondFits (Campaign file first count depth steps limit json serve) files script = Unit {0}
SecondFits (Big pieces serve) files script = Unit {0}
SecondFits (Replay file trace) files script =
    (told : TraceFile) × IsTrace (take trace_bytes (files trace)) script.names told
SecondFits (Expose file directive order word steps limit) files script =
    FitsDirective files directive script.names
SecondFits (Certify file directive steps limit serve) files script =
    FitsDirective files directive script.names
SecondFits (Sweep file depth steps limit json serve) files script = Unit {0}

-- what is printed of the script
abbrev pub OfCommand : Settings → NamedFiles → ScriptText → Deal → Printed → Type 0
OfCommand (RunOrder file order word points limit report) files =
    OfOrdered order word points limit report
OfCommand (RunSeed file seed depth steps limit report) files = OfSeed seed depth steps limit report
OfCommand (Campaign file first count depth steps limit json serve) files =
    OfCampaign first count depth steps limit json
OfCommand (Big pieces serve) files = OfBig pieces
OfCommand (Replay file trace) files = OfReplay (take trace_bytes (files trace))
OfCommand (Expose file directive order word steps limit) files =
    OfExpose (take directive_bytes (files directive)) order word steps limit
OfCommand (Certify file directive steps limit serve) files =
    OfCertify (take directive_bytes (files directive)) steps limit
OfCommand (Sweep file depth steps limit json serve) files = OfSweep depth steps limit json

-- ---- the call

-- what is printed for the settings, over the script of their command; where a word isn't taken, the
-- refusal that tells its number
abbrev pub OfTaken : SettingsOrWord → NamedFiles → Printed → Type 0
OfTaken (Ok settings) files printed =
    OfScript (script_text settings files) (OfCommand settings files) printed
OfTaken (Err number) files printed = printed ≡ printed_refusal (Usage number)

-- What the program prints for its words, where these are the bytes of the files by their names.
abbrev pub Output : List (List ℕ) → NamedFiles → Printed → Type 0
Output words files printed = OfTaken (settings words) files printed
