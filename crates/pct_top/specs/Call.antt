-- What a call of the program does to what is outside of it, by its status (this project). No
-- clause here knows a command.
use Rattle.std.specs.Prelude.{◌≡◌, ℕ, Bool, true, false, ◌⊎◌, List, [], ◌∷◌, ◌++◌}
use Rattle.std.specs.Prelude.{Option, Some, None, Result, Ok, Err}
use Rattle.std.specs.List.{Contains}
use Rattle.pct_outside.specs.Counter.{Rose}
use Rattle.pct_outside.specs.Puts.{IsPutWhole, IsPutInPart}
use Rattle.script_tree.specs.ScriptText.{ScriptText}
use Rattle.script_tree.specs.Grammar.{Spells}
use Rattle.pct_top.specs.declared.refusal.Refusal.{Refusal}
use Rattle.pct_top.specs.declared.refusal.Refusal.TheVariants.{Usage, Script, Trace, Directive}
use Rattle.pct_top.specs.declared.refusal.Refusal.TheVariants.{Read, Write, Memory}
use Rattle.pct_top.specs.declared.settings.Settings.{Settings}
use Rattle.pct_top.specs.declared.status.Status.{Status}
use Rattle.pct_top.specs.declared.status.Status.TheVariants as statuses
use Rattle.pct_top.specs.Settings.{SettingsOrWord, settings}
use Rattle.pct_top.specs.Refusing.{refusal_line}
use Rattle.pct_top.specs.Ordered.{OrderFits}
use Rattle.pct_top.specs.Printed.{NamedFiles, Printed, printed_refusal}
use Rattle.pct_top.specs.Output.{script_file, script_text, order_given, second_file, SecondFits}
use Rattle.pct_top.specs.Output.{OfTaken, Output}
use Rattle.pct_top.specs.CommandOutput.{ShowsFiles}
use Rattle.pct_top.specs.Files.{Misses}
use Rattle.pct_top.specs.Reads.{ReadMade, KeepsReads, some_failed}
use Rattle.pct_outside.specs.Told.{ShelfTold, StreamTold}
use Rattle.pct_top.specs.Outside.{Outside}
use Rattle.pct_top.specs.Saying.{SaysLine}

-- ---- reads that failed

-- Names were added to those of the failed reads, and this is one of them.
abbrev pub IsGained : List ℕ → List (List ℕ) → List (List ℕ) → Type 0
IsGained name failed failed' =
    (more : List (List ℕ)) × (failed' ≡ failed ++ more) × Contains more name

-- The words are taken, and this is the file of the script.
abbrev pub ReadsScript : SettingsOrWord → List ℕ → Type 0
ReadsScript (Ok settings) name = script_file settings ≡ Some name
ReadsScript (Err number) name = ⊥

-- and this is the second file
abbrev pub ReadsSecond : SettingsOrWord → List ℕ → Type 0
ReadsSecond (Ok settings) name = second_file settings ≡ Some name
ReadsSecond (Err number) name = ⊥

-- the text spells a script, and the order that the words give, if any, fits
abbrev pub ComesToSecond : Settings → NamedFiles → Type 0
ComesToSecond settings files =
    (script : ScriptText) × Spells (script_text settings files) script
    × OrderFits script.names (order_given settings)

-- The order of work comes to the second file. This is said where the files are told.
abbrev pub IsReached : SettingsOrWord → Option NamedFiles → Type 0
IsReached (Ok settings) told = (files : NamedFiles) → told ≡ Some files
    → ComesToSecond settings files
IsReached (Err number) told = ⊥

-- the name of a file that the call reads was added to those of the failed reads
abbrev pub ReadFailed : SettingsOrWord → ShelfTold → ShelfTold → Type 0
ReadFailed taken before after =
    (name : List ℕ) × IsGained name before.failed after.failed
    × (ReadsScript taken name ⊎ (ReadsSecond taken name × IsReached taken before.files))

-- of a command over its script, the same: its second file is reached, and the read failed
abbrev pub MissesSecond : Settings → ScriptText → List (List ℕ) → List (List ℕ) → Type 0
MissesSecond settings script failed failed' =
    Misses (second_file settings) failed failed' × OrderFits script.names (order_given settings)

-- ---- all reads

-- no file is read: the words aren't taken, or the command has a script of its own
abbrev pub ReadsNone : SettingsOrWord → Type 0
ReadsNone (Ok settings) = script_file settings ≡ None
ReadsNone (Err number) = Unit {0}

-- The reads that a call makes: at most that of the script, and then, where that didn't fail and the
-- order of work comes to it, at most that of the second file.
abbrev pub AreReads : SettingsOrWord → Option NamedFiles → List ReadMade → Type 0
AreReads taken told [] = Unit {0}
AreReads taken told (script ∷ []) = ReadsScript taken script.name
AreReads taken told (script ∷ second ∷ []) =
    ReadsScript taken script.name × (script.failed ≡ false) × ReadsSecond taken second.name
    × IsReached taken told
AreReads taken told (script ∷ second ∷ other ∷ reads) = ⊥

-- What a call leaves of the shelf: the files are as before, and the names of failed reads gained
-- nothing but what its reads add.
pub record LeavesShelf (taken : SettingsOrWord) (unread : Bool) (before after : ShelfTold)
    : Type 0 where
  pub files : after.files ≡ before.files
  pub reads : List ReadMade
  pub made : AreReads taken before.files reads
  pub kept : KeepsReads reads before after
  pub failed : some_failed reads ≡ unread

-- ---- the answer, before anything is said on the error stream

-- a command was carried out
abbrev pub IsCarriedOut : Status → Type 0
IsCarriedOut statuses.Done = Unit {0}
IsCarriedOut statuses.Found = Unit {0}
IsCarriedOut status = ⊥

-- where the files are told, what is printed for the words has this
abbrev pub PrintsOne : SettingsOrWord → Option NamedFiles → (Printed → Type 0) → Type 0
PrintsOne taken told has =
    (files : NamedFiles) → told ≡ Some files
    → (printed : Printed) × OfTaken taken files printed × has printed

-- the output was put whole, and nothing is to be said on the error stream
abbrev pub PutsAll : StreamTold → StreamTold → Status → Printed → Type 0
PutsAll before after status printed =
    IsPutWhole printed.out before after
    × (status ≡ printed.status) × (printed.err ≡ [])

-- a part of the output was put, and nothing was to be said on the error stream
abbrev pub PutsPart : StreamTold → StreamTold → Printed → Type 0
PutsPart before after printed =
    (printed.err ≡ []) × IsPutInPart printed.out before after

-- the output's fault shows
abbrev pub IsRefusing : StreamTold → StreamTold → Type 0
IsRefusing before after = Rose before.faults after.faults

-- This is put, or a part of it where the output's fault shows or there is no memory.
abbrev pub PutsOutput : Printed → StreamTold → StreamTold → Result Status Refusal → Type 0
PutsOutput printed before after (Ok status) = PutsAll before after status printed
PutsOutput printed before after (Err Write) =
    IsRefusing before after × IsPutInPart printed.out before after
PutsOutput printed before after (Err Memory) =
    IsPutInPart printed.out before after
PutsOutput printed before after (Err refusal) = ⊥

-- where the words aren't taken, the answer says which, want of memory aside
abbrev pub RefusedFirst : SettingsOrWord → Result Status Refusal → Type 0
RefusedFirst (Ok settings) answer = Unit {0}
RefusedFirst (Err number) (Err (Usage word)) = word ≡ number
RefusedFirst (Err number) (Err Memory) = Unit {0}
RefusedFirst (Err number) answer = ⊥

-- nothing is put, and this refusal may be printed
abbrev pub ShowsRefusal : SettingsOrWord → Option NamedFiles → StreamTold → StreamTold → Refusal
    → Type 0
ShowsRefusal taken told before after refusal =
    (after ≡ before) × ShowsFiles (OfTaken taken) told (printed_refusal refusal)

-- The answer of a call: what it does to the shelf, and to the output.
abbrev pub AnswersCall :
    SettingsOrWord → ShelfTold → ShelfTold → StreamTold → StreamTold → Result Status Refusal
    → Type 0
AnswersCall taken shelf shelf' before after (Ok status) =
    IsCarriedOut status × PrintsOne taken shelf.files (PutsAll before after status)
AnswersCall taken shelf shelf' before after (Err (Usage n)) =
    ShowsRefusal taken shelf.files before after (Usage n)
AnswersCall taken shelf shelf' before after (Err (Script line kind)) =
    ShowsRefusal taken shelf.files before after (Script line kind)
AnswersCall taken shelf shelf' before after (Err (Trace line kind)) =
    ShowsRefusal taken shelf.files before after (Trace line kind)
AnswersCall taken shelf shelf' before after (Err (Directive line kind)) =
    ShowsRefusal taken shelf.files before after (Directive line kind)
AnswersCall taken shelf shelf' before after (Err Read) =
    (after ≡ before) × ReadFailed taken shelf shelf'
AnswersCall taken shelf shelf' before after (Err Write) =
    IsRefusing before after × PrintsOne taken shelf.files (PutsPart before after)
AnswersCall taken shelf shelf' before after (Err Memory) =
    (after ≡ before) ⊎ PrintsOne taken shelf.files (PutsPart before after)

-- ---- the whole call, by its status

-- the files are in their grammars, and an order fits
abbrev pub CanRun : SettingsOrWord → NamedFiles → Type 0
CanRun (Ok settings) files =
    (script : ScriptText) × Spells (script_text settings files) script
    × OrderFits script.names (order_given settings) × SecondFits settings files script
CanRun (Err number) files = ⊥

-- Words that are taken, files in their grammars, an order that fits, no failed read of these files
-- and no fault of the output give a whole answer, want of memory aside.
abbrev pub Completes : List (List ℕ) → Outside → Outside → Status → Type 0
Completes words found left status =
    (files : NamedFiles) → found.shelf.files ≡ Some files → CanRun (settings words) files
    → ((name : List ℕ) → ReadsScript (settings words) name ⊎ ReadsSecond (settings words) name
    → ¬ IsGained name found.shelf.failed left.shelf.failed)
    → ¬ IsRefusing found.output left.output → IsCarriedOut status ⊎ (status ≡ statuses.NoMemory)

-- Where the words aren't taken, the status says so, want of memory aside. This holds where no files
-- are told.
abbrev pub RefusedWords : SettingsOrWord → Status → Type 0
RefusedWords (Ok settings) status = Unit {0}
RefusedWords (Err number) statuses.Usage = Unit {0}
RefusedWords (Err number) statuses.NoMemory = Unit {0}
RefusedWords (Err number) status = ⊥

-- what is printed is on both streams
abbrev pub PrintsAll : Outside → Outside → Status → Printed → Type 0
PrintsAll found left status printed =
    (status ≡ printed.status) × IsPutWhole printed.out found.output left.output
    × SaysLine printed.err found.errors left.errors

-- By the status, how much of what may be printed is on the streams: all, nothing after a read that
-- failed, or a part of the output after a write that failed and where there was no memory.
abbrev pub Prints : Outside → Outside → Status → Printed → Type 0
Prints found left statuses.ReadFault printed = left.output ≡ found.output
Prints found left statuses.WriteFault printed =
    IsPutInPart printed.out found.output left.output
Prints found left statuses.NoMemory printed =
    IsPutInPart printed.out found.output left.output
Prints found left status printed = PrintsAll found left status printed

-- Whatever *Output* may print for the words and the files, the call has printed it so.
abbrev pub IsExact : List (List ℕ) → Outside → Outside → Status → Type 0
IsExact words found left status =
    (files : NamedFiles) → found.shelf.files ≡ Some files
    → (printed : Printed) → Output words files printed → Prints found left status printed

-- there is something that *Output* may print for the words and the files, and it is put and said
-- whole
abbrev pub PrintsWhole : List (List ℕ) → Outside → Outside → Status → Type 0
PrintsWhole words found left status =
    (files : NamedFiles) → found.shelf.files ≡ Some files
    → (printed : Printed) × Output words files printed × PrintsAll found left status printed

-- the words or a file are refused: nothing is put, and a line says why
abbrev pub Refuses : List (List ℕ) → Outside → Outside → Status → Type 0
Refuses words found left status = (left.output ≡ found.output) × PrintsWhole words found left status

-- A call of the program, by its status.
abbrev pub Ends : List (List ℕ) → Outside → Outside → Status → Type 0
Ends words found left statuses.Done =
    (left.errors ≡ found.errors) × PrintsWhole words found left statuses.Done
Ends words found left statuses.Found =
    (left.errors ≡ found.errors) × PrintsWhole words found left statuses.Found
Ends words found left statuses.Usage = Refuses words found left statuses.Usage
Ends words found left statuses.BadScript = Refuses words found left statuses.BadScript
Ends words found left statuses.BadTrace = Refuses words found left statuses.BadTrace
Ends words found left statuses.BadDirective = Refuses words found left statuses.BadDirective
Ends words found left statuses.ReadFault =
    (left.output ≡ found.output) × ReadFailed (settings words) found.shelf left.shelf
    × SaysLine (refusal_line Read) found.errors left.errors
Ends words found left statuses.WriteFault =
    IsRefusing found.output left.output
    × PrintsOne (settings words) found.shelf.files (PutsPart found.output left.output)
    × SaysLine (refusal_line Write) found.errors left.errors
Ends words found left statuses.NoMemory =
    ((left.output ≡ found.output)
    ⊎ PrintsOne (settings words) found.shelf.files (PutsPart found.output left.output))
    × SaysLine (refusal_line Memory) found.errors left.errors

-- whether the status is that of a failed read
abbrev pub is_read_fault : Status → Bool
is_read_fault statuses.ReadFault = true
is_read_fault status = false

-- the shelf, as if it told these files
abbrev pub with_told : NamedFiles → ShelfTold → ShelfTold
with_told files shelf = record shelf { files = Some files }

-- the same of what is outside
abbrev pub with_files : NamedFiles → Outside → Outside
with_files files outside = record {
  shelf = with_told files outside.shelf;
  output = outside.output;
  errors = outside.errors;
}

-- how the call ends, and that it printed so whatever may be printed
pub record EndsExactly (words : List (List ℕ)) (found left : Outside) (status : Status)
    : Type 0 where
  pub ends : Ends words found left status
  pub exact : IsExact words found left status

-- What is promised of a call, whatever the command is. Where no file is read, it ends so whether
-- the files are told or not.
pub record IsCall (words : List (List ℕ)) (found left : Outside) (status : Status) : Type 0 where
  pub ends : Ends words found left status
  pub refused : RefusedWords (settings words) status
  pub complete : Completes words found left status
  pub exact : IsExact words found left status
  pub shelf : LeavesShelf (settings words) (is_read_fault status) found.shelf left.shelf
  pub unread : ReadsNone (settings words) → (files : NamedFiles)
      → EndsExactly words (with_files files found) left status
