-- What comes of a command, from what the calls below did.
use Rattle.std.proofs.Common.{◌≡◌, ℕ, List, [], ◌∷◌, inl, inr, Option, Some, None, Result, Ok, Err}
use Rattle.std.proofs.Common.{refl, sym, Bool}
use Rattle.std.proofs.Common.{false, subst, ap, take, ◌∙◌, arith}
use Rattle.std.proofs.lemmas.List.{append_assoc}
use Rattle.pct_ask.specs.declared.Deal.{Deal}
use Rattle.pct_ask.specs.NameLists.{NameLists}
use Rattle.pct_outside.specs.Reading.{FirstOf, names_with}
use Rattle.script_tree.specs.ScriptText.{ScriptText}
use Rattle.script_tree.specs.ScriptSeen.{plain_script}
use Rattle.script_tree.specs.Grammar.{Spells}
use Rattle.directive.specs.declared.directive.Directive.{Directive}
use Rattle.trace_text.specs.declared.file.TraceFile.{TraceFile}
use Rattle.pct_top.specs.declared.refusal.Refusal.{Refusal}
use Rattle.pct_top.specs.declared.refusal.Refusal.TheVariants.{Usage, Script, Trace}
use Rattle.pct_top.specs.declared.refusal.Refusal.TheVariants.{Directive as BadDirective, Read}
use Rattle.pct_top.specs.declared.refusal.Refusal.TheVariants.{Write, Memory}
use Rattle.pct_top.specs.declared.command_output.CommandOutput.{CommandOutput}
use Rattle.pct_top.specs.declared.settings.Settings.{Settings}
use Rattle.pct_top.specs.declared.test.ReadyTest.{ReadyTest}
use Rattle.pct_top.specs.Ordered.{NamesAll, GivesOrder}
use Rattle.pct_top.specs.Printed.{NamedFiles, Printed, printed_refusal, trace_bytes}
use Rattle.pct_top.specs.Printed.{directive_bytes}
use Rattle.pct_top.specs.Printed.{OfScript, script_bytes}
use Rattle.pct_top.specs.Printed.{OfOrder, OfTrace, OfDirective}
use Rattle.pct_top.specs.Output.{script_file, script_text, OfTaken}
use Rattle.pct_top.specs.CommandOutput.{printed_of, GivesPrinted, ShowsFiles, Comes}
use Rattle.pct_top.specs.Files.{HasText, Misses, GivesTest, GivesText, GivesTrace, HasTrace}
use Rattle.pct_top.specs.Files.{GivesDirective, HasDirective}
use Rattle.pct_top.specs.Reads.{KeepsFile}
use Rattle.pct_outside.specs.Told.{ShelfTold}
use Rattle.pct_top.specs.Call.{IsGained, MissesSecond, ReadFailed}

-- ---- what was read

-- what holds of the bytes that were read holds of the file's first
pub first_bytes : (told : Option NamedFiles) (file : List ℕ) (most : ℕ) (bytes : List ℕ)
    (P : List ℕ → Type 0) → FirstOf told file most bytes → P bytes → (files : NamedFiles)
    → told ≡ Some files → P (take most (files file))
first_bytes told file most bytes P first p =
    λ files e. let is : FirstOf (Some files) file most bytes =
    subst (λ t. FirstOf t file most bytes) e first in subst P is p

-- the name of a read that failed is a new one
missed_one : (name : List ℕ) (failed failed' : List (List ℕ)) → failed' ≡ names_with failed name
    → IsGained name failed failed'
missed_one name failed failed' is = (name ∷ [], is, (0, omega arith, refl))

missed_after : (name : List ℕ) (before middle : ShelfTold) (failed' : List (List ℕ))
    (file : Option (List ℕ)) → KeepsFile file false before middle
    → failed' ≡ names_with middle.failed name → IsGained name before.failed failed'
missed_after name before middle failed' None keeps is =
    missed_one name before.failed failed'
    (is ∙ ap (λ (s : ShelfTold). names_with s.failed name) keeps.1)
missed_after name before middle failed' (Some one) keeps is =
    elim keeps.failed [
      | inr same ↦
          missed_one name before.failed failed' (is ∙ ap (λ l. names_with l name) same.1)
      | inl more ↦ (
        one ∷ name ∷ [],
        is ∙ ap (λ l. names_with l name) more
            ∙ append_assoc before.failed (one ∷ []) (name ∷ []),
        (1, omega arith, refl),
      )
    ]

-- ---- refusals

-- what a failed read has for a cause has another cause
pub comes_as : (of : NamedFiles → Printed → Type 0) (told : Option NamedFiles)
    (missed other : Type 0)
    → (missed → other) → (r : Result CommandOutput Refusal) → Comes of told missed r
    → Comes of told other r
comes_as of told missed other therefore (Ok output) h = h
comes_as of told missed other therefore (Err (Usage word)) h = h
comes_as of told missed other therefore (Err (Script line kind)) h = h
comes_as of told missed other therefore (Err (Trace line kind)) h = h
comes_as of told missed other therefore (Err (BadDirective line kind)) h = h
comes_as of told missed other therefore (Err Read) h = therefore h
comes_as of told missed other therefore (Err Write) h = h
comes_as of told missed other therefore (Err Memory) h = h

-- what may be printed whatever the files are, where none is read
pub gives_comes : (of : NamedFiles → Printed → Type 0) (told : Option NamedFiles) (missed : Type 0)
    (r : Result CommandOutput Refusal) → ((files : NamedFiles) → GivesPrinted (of files) r)
    → Comes of told missed r
gives_comes of told missed (Ok output) h = λ files e. h files
gives_comes of told missed (Err (Usage word)) h = λ files e. h files
gives_comes of told missed (Err (Script line kind)) h = λ files e. h files
gives_comes of told missed (Err (Trace line kind)) h = λ files e. h files
gives_comes of told missed (Err (BadDirective line kind)) h = λ files e. h files
gives_comes of told missed (Err Read) h = absurd (h (λ name. []))
gives_comes of told missed (Err Write) h = h (λ name. [])
gives_comes of told missed (Err Memory) h = tt

module _ (told : Option NamedFiles) (file : List ℕ) (names : NameLists)
    (of : TraceFile → Printed → Type 0) (missed : Type 0) where
  abbrev OfFile : NamedFiles → Printed → Type 0
  OfFile files printed = OfTrace (take trace_bytes (files file)) names of printed

  -- there is no trace
  pub trace_refused : (refusal : Refusal) → GivesTrace told file names missed (Err refusal)
      → Comes OfFile told missed (Err refusal)
  trace_refused (Usage word) h = absurd h
  trace_refused (Script line kind) h = absurd h
  trace_refused (Trace line kind) h = λ files e. inr (line, kind, h files e, refl)
  trace_refused (BadDirective line kind) h = absurd h
  trace_refused Read h = h
  trace_refused Write h = absurd h
  trace_refused Memory h = tt

  -- what is printed of the trace
  pub trace_shown : (trace : TraceFile) (printed : Printed) → HasTrace told file names trace
      → of trace printed → ShowsFiles OfFile told printed
  trace_shown trace printed has h = λ files e. inl (trace, has.1 files e, h)

module _ (told : Option NamedFiles) (file : List ℕ) (names : NameLists)
    (of : Directive → Printed → Type 0) (missed : Type 0) where
  abbrev OfPlan : NamedFiles → Printed → Type 0
  OfPlan files printed = OfDirective (take directive_bytes (files file)) names of printed

  -- there is no directive
  pub directive_refused : (refusal : Refusal) → GivesDirective told file names missed (Err refusal)
      → Comes OfPlan told missed (Err refusal)
  directive_refused (Usage word) h = absurd h
  directive_refused (Script line kind) h = absurd h
  directive_refused (Trace line kind) h = absurd h
  directive_refused (BadDirective line kind) h = λ files e. inr (line, kind, h files e, refl)
  directive_refused Read h = h
  directive_refused Write h = absurd h
  directive_refused Memory h = tt

  -- what is printed of the directive
  pub directive_shown : (directive : Directive) (printed : Printed)
      → HasDirective told file names directive → of directive printed
      → ShowsFiles OfPlan told printed
  directive_shown directive printed has h = λ files e. inl (directive, has.1 files e, h)

-- ---- an order, and what comes after it

module _ (told : Option NamedFiles) (names : NameLists) (items : List (List ℕ)) (word : ℕ)
    (of : NamedFiles → List ℕ → Printed → Type 0) (missed : Type 0) where
  abbrev OfOrdered : NamedFiles → Printed → Type 0
  OfOrdered files printed = OfOrder names items word (of files) printed

  -- the names give no order
  pub unordered : (refusal : Refusal) → GivesOrder names items word (Err refusal)
      → Comes OfOrdered told missed (Err refusal)
  unordered (Usage n) h = λ files e. inr (h.1, ap (λ w. printed_refusal (Usage w)) h.0)
  unordered (Script line kind) h = absurd h
  unordered (Trace line kind) h = absurd h
  unordered (BadDirective line kind) h = absurd h
  unordered Read h = absurd h
  unordered Write h = absurd h
  unordered Memory h = tt

  module _ (order : List ℕ) (gives : NamesAll names items order) where
    -- this may be printed of the order
    pub ordered_shown : (printed : Printed) → ShowsFiles (λ files. of files order) told printed
        → ShowsFiles OfOrdered told printed
    ordered_shown printed h = λ files e. inl (order, gives, h files e)

    -- what comes of the order
    pub ordered : (missed_second : Type 0) → (missed_second → missed)
        → (r : Result CommandOutput Refusal)
        → Comes (λ files. of files order) told missed_second r → Comes OfOrdered told missed r
    ordered m therefore (Ok output) h = ordered_shown (printed_of output) h
    ordered m therefore (Err (Usage n)) h = ordered_shown (printed_refusal (Usage n)) h
    ordered m therefore (Err (Script line kind)) h =
        ordered_shown (printed_refusal (Script line kind)) h
    ordered m therefore (Err (Trace line kind)) h =
        ordered_shown (printed_refusal (Trace line kind)) h
    ordered m therefore (Err (BadDirective line kind)) h =
        ordered_shown (printed_refusal (BadDirective line kind)) h
    ordered m therefore (Err Read) h = therefore h
    ordered m therefore (Err Write) h = absurd h
    ordered m therefore (Err Memory) h = tt

-- ---- a command over its script

module _ (told : Option NamedFiles) (source : NamedFiles → List ℕ)
    (over : NamedFiles → ScriptText → Deal → Printed → Type 0) (missed : Type 0) where
  abbrev Of : NamedFiles → Printed → Type 0
  Of files printed = OfScript (source files) (over files) printed

  -- there is no test
  pub comes_untested : (missed_script : Type 0) → (missed_script → missed) → (refusal : Refusal)
      → GivesTest told source missed_script (Err refusal) → Comes Of told missed (Err refusal)
  comes_untested m therefore (Usage word) h = absurd h
  comes_untested m therefore (Script line kind) h = λ files e. inr (line, kind, h files e, refl)
  comes_untested m therefore (Trace line kind) h = absurd h
  comes_untested m therefore (BadDirective line kind) h = absurd h
  comes_untested m therefore Read h = therefore h
  comes_untested m therefore Write h = absurd h
  comes_untested m therefore Memory h = tt

  module _ (test : ReadyTest)
      (spells : HasText told source (λ bytes. Spells bytes (plain_script test.script))) where
    shown : (printed : Printed)
        → ShowsFiles (λ files. over files (plain_script test.script) test.deal) told
        printed → ShowsFiles Of told printed
    shown printed h =
        λ files e. inl
        (plain_script test.script, spells files e, (test.deal, test.is_ready.is_deal, h files e))

    pub comes_tested : (missed_second : Type 0) → (missed_second → missed)
        → (r : Result CommandOutput Refusal)
        → Comes (λ files. over files (plain_script test.script) test.deal)
        told missed_second r → Comes Of told missed r
    comes_tested m therefore (Ok output) h = shown (printed_of output) h
    comes_tested m therefore (Err (Usage word)) h = shown (printed_refusal (Usage word)) h
    comes_tested m therefore (Err (Script line kind)) h =
        shown (printed_refusal (Script line kind)) h
    comes_tested m therefore (Err (Trace line kind)) h = shown (printed_refusal (Trace line kind)) h
    comes_tested m therefore (Err (BadDirective line kind)) h =
        shown (printed_refusal (BadDirective line kind)) h
    comes_tested m therefore (Err Read) h = therefore h
    comes_tested m therefore (Err Write) h = absurd h
    comes_tested m therefore (Err Memory) h = tt

-- ---- the same where no file is read

-- what is given for some files comes where these are told
pub told_comes : (of : NamedFiles → Printed → Type 0) (files : NamedFiles) (missed : Type 0)
    (r : Result CommandOutput Refusal) → GivesPrinted (of files) r → Comes of (Some files) missed r
told_comes of files missed (Ok output) h = λ told e. let same : files ≡ told = cc in
    subst (λ (f : NamedFiles). of f (printed_of output)) same h
told_comes of files missed (Err (Usage word)) h = λ told e. let same : files ≡ told = cc in
    subst (λ (f : NamedFiles). of f (printed_refusal (Usage word))) same h
told_comes of files missed (Err (Script line kind)) h = λ told e. let same : files ≡ told = cc in
    subst (λ (f : NamedFiles). of f (printed_refusal (Script line kind))) same h
told_comes of files missed (Err (Trace line kind)) h = λ told e. let same : files ≡ told = cc in
    subst (λ (f : NamedFiles). of f (printed_refusal (Trace line kind))) same h
told_comes of files missed (Err (BadDirective line kind)) h = λ told e.
    let same : files ≡ told = cc in
    subst (λ (f : NamedFiles). of f (printed_refusal (BadDirective line kind))) same h
told_comes of files missed (Err Read) h = absurd h
told_comes of files missed (Err Write) h = h
told_comes of files missed (Err Memory) h = tt

module _ (source : List ℕ) (over : ScriptText → Deal → Printed → Type 0) where
  pub given_untested : (refusal : Refusal) → GivesText source (Err refusal)
      → GivesPrinted (OfScript source over) (Err refusal)
  given_untested (Usage word) h = absurd h
  given_untested (Script line kind) h = inr (line, kind, h, refl)
  given_untested (Trace line kind) h = absurd h
  given_untested (BadDirective line kind) h = absurd h
  given_untested Read h = absurd h
  given_untested Write h = absurd h
  given_untested Memory h = tt

  module _ (test : ReadyTest) (spells : Spells source (plain_script test.script)) where
    given : (printed : Printed) → over (plain_script test.script) test.deal printed
        → OfScript source over printed
    given printed h = inl (plain_script test.script, spells, (test.deal, test.is_ready.is_deal, h))

    pub given_tested : (r : Result CommandOutput Refusal)
        → GivesPrinted (over (plain_script test.script) test.deal) r
        → GivesPrinted (OfScript source over) r
    given_tested (Ok output) h = given (printed_of output) h
    given_tested (Err (Usage word)) h = given (printed_refusal (Usage word)) h
    given_tested (Err (Script line kind)) h = given (printed_refusal (Script line kind)) h
    given_tested (Err (Trace line kind)) h = given (printed_refusal (Trace line kind)) h
    given_tested (Err (BadDirective line kind)) h =
        given (printed_refusal (BadDirective line kind)) h
    given_tested (Err Read) h = absurd h
    given_tested (Err Write) h = h
    given_tested (Err Memory) h = tt

-- ---- the reads that a call is missed by

pub script_missed : (settings : Settings) (before after : ShelfTold)
    → Misses (script_file settings) before.failed after.failed
    → ReadFailed (Ok settings) before after
script_missed settings before after h =
    (h.0, missed_one h.0 before.failed after.failed h.2, inl h.1)

pub second_missed : (settings : Settings) (before after middle : ShelfTold)
    (script : ScriptText) → HasText before.files (script_text settings)
    (λ bytes. Spells bytes script)
    → KeepsFile (script_file settings) false before middle
    → MissesSecond settings script middle.failed after.failed
    → ReadFailed (Ok settings) before after
second_missed settings before after middle script spells keeps h =
    let second = h.0 in (
      second.0,
      missed_after second.0 before middle after.failed (script_file settings) keeps second.2,
      inr (second.1, λ files e. (script, spells files e, h.1)),
    )

-- ---- the script of a file

module _ (settings : Settings) (name : List ℕ) (file_is : script_file settings ≡ Some name) where
  -- what is read is what the settings ask for
  pub file_gives : script_text settings ≡ (λ files. take script_bytes (files name))
      → (told : Option NamedFiles) (failed failed' : List (List ℕ)) (r : Result ReadyTest Refusal)
      → GivesTest told (λ files. take script_bytes (files name))
      (Misses (Some name) failed failed') r
      → GivesTest told (script_text settings) (Misses (script_file settings) failed failed') r
  file_gives text_is told failed failed' r h =
      subst (λ (source : NamedFiles → List ℕ).
      GivesTest told source (Misses (script_file settings) failed failed') r) (sym text_is)
      (subst (λ (file : Option (List ℕ)).
      GivesTest told (λ files. take script_bytes (files name)) (Misses file failed failed') r)
      (sym file_is) h)

  pub file_kept : (unread : Bool) (before after : ShelfTold)
      → KeepsFile (Some name) unread before after
      → KeepsFile (script_file settings) unread before after
  file_kept unread before after h =
      subst (λ (file : Option (List ℕ)). KeepsFile file unread before after) (sym file_is) h

-- what comes of some settings comes of the same
pub comes_of_same : (settings other : Settings) → settings ≡ other → (before after : ShelfTold)
    (r : Result CommandOutput Refusal)
    → Comes (OfTaken (Ok other)) before.files (ReadFailed (Ok other) before after) r
    → Comes (OfTaken (Ok settings)) before.files (ReadFailed (Ok settings) before after) r
comes_of_same settings other same before after r h =
    subst (λ (s : Settings).
    Comes (OfTaken (Ok s)) before.files (ReadFailed (Ok s) before after) r) (sym same) h
