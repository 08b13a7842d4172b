-- Replaying a written trace gives its verdict, said of the program: what `run` prints whole,
-- `replay` confirms (this project).
use Rattle.std.specs.Prelude.{◌≡◌, ◌⊎◌, ℕ, true, false, List, [], ◌∷◌, Ok, codes, take}
use Rattle.pct_ask.specs.NameLists.{NameLists}
use Rattle.pct_ask.specs.VerdictText.{named_verdict, verdict_words}
use Rattle.pct_ask.specs.TraceText.{line_text}
use Rattle.pct_ask.specs.declared.verdict.Verdict.{Verdict}
use Rattle.script_tree.specs.ScriptText.{ScriptText}
use Rattle.script_tree.specs.Grammar.{Spells}
use Rattle.trace_text.specs.declared.file.TraceFile.{TraceFile}
use Rattle.trace_text.specs.Trace.{IsTrace}
use Rattle.pct_top.specs.declared.settings.Report.TheVariants.{Trace}
use Rattle.pct_top.specs.declared.settings.Settings.TheVariants.{RunOrder, RunSeed, Expose}
use Rattle.pct_top.specs.Settings.{SettingsOrWord, settings}
use Rattle.pct_top.specs.Printed.{NamedFiles, Printed, script_bytes, printed_text}
use Rattle.pct_top.specs.Output.{Output}
use Rattle.pct_top.specs.commands.Expose.{long_text}
use Rattle.pct_top.specs.Call.{IsCarriedOut}

-- the words ask for the trace of a run of the script in this file
abbrev pub RunsFile : SettingsOrWord → List ℕ → Type 0
RunsFile (Ok (RunOrder file order word points limit Trace)) name = name ≡ file
RunsFile (Ok (RunSeed file seed depth steps limit Trace)) name = name ≡ file
RunsFile taken name = ⊥

-- the text is a trace of the script, whole, with this verdict
abbrev pub TellsVerdict : List ℕ → ScriptText → Verdict → Type 0
TellsVerdict text script verdict =
    (file : TraceFile) × IsTrace text script.names file × (file.verdict ≡ verdict)

-- `confirmed` and the verdict on the output, and Done
abbrev pub printed_confirmation : NameLists → Verdict → Printed
printed_confirmation names verdict =
    printed_text (line_text (codes "confirmed" ∷ verdict_words (named_verdict names verdict))) true

-- the words that ask for the replay of the trace in one file over the script in the other
abbrev pub replay_of : List ℕ → List ℕ → List (List ℕ)
replay_of file trace = codes "replay" ∷ file ∷ trace ∷ []

-- in any files in which the script's name has the same bytes and another name those that were
-- printed, replaying them is confirmed
abbrev pub IsConfirmed : NamedFiles → List ℕ → List ℕ → ScriptText → Verdict → Type 0
IsConfirmed files file text script verdict =
    (later : NamedFiles) (trace : List ℕ) → later file ≡ files file → later trace ≡ text
    → Output (replay_of file trace) later (printed_confirmation script.names verdict)

-- The text is a whole trace of the script in this file with one verdict, and its replay over the
-- script is confirmed with it.
abbrev pub IsConfirmedTrace : NamedFiles → List ℕ → List ℕ → Type 0
IsConfirmedTrace files file text =
    (script : ScriptText) × (verdict : Verdict) × Spells (take script_bytes (files file)) script
    × TellsVerdict text script verdict × IsConfirmed files file text script verdict

-- For all words and files: what `run` may print, unless it is a refusal, is such a trace.
abbrev pub RunsAreConfirmed : Type 0
RunsAreConfirmed =
    (words : List (List ℕ)) (files : NamedFiles) (printed : Printed) (file : List ℕ)
    → RunsFile (settings words) file → Output words files printed → IsCarriedOut printed.status
    → IsConfirmedTrace files file printed.out

-- the words ask for what a directive exposes in the script in this file
abbrev pub ExposesFile : SettingsOrWord → List ℕ → Type 0
ExposesFile (Ok (Expose file directive order word steps limit)) name = name ≡ file
ExposesFile taken name = ⊥

-- the run has more steps than there may be
abbrev pub TellsLong : Printed → Type 0
TellsLong printed = (many : ℕ) × (printed ≡ printed_text (long_text many) false)

-- And so is what `expose` may print, unless it is a refusal or the run has more steps than there
-- may be.
abbrev pub ExposedAreConfirmed : Type 0
ExposedAreConfirmed =
    (words : List (List ℕ)) (files : NamedFiles) (printed : Printed) (file : List ℕ)
    → ExposesFile (settings words) file → Output words files printed → IsCarriedOut printed.status
    → TellsLong printed ⊎ IsConfirmedTrace files file printed.out
