-- What a call does to the streams, from what comes of its words.
use Rattle.std.proofs.Common.{◌≡◌, ℕ, Bool, List, [], inl, inr, Some, Result, Ok, Err, refl, sym}
use Rattle.std.proofs.Common.{subst}
use Rattle.pct_outside.specs.Puts.{IsPutWhole, IsPutInPart}
use Rattle.pct_outside.proofs.laws.Puts.{IsPutWhole-nil, IsPutInPart-nil}
use Rattle.pct_top.specs.declared.refusal.Refusal.{Refusal}
use Rattle.pct_top.specs.declared.refusal.Refusal.TheVariants.{Usage, Script, Trace, Directive}
use Rattle.pct_top.specs.declared.refusal.Refusal.TheVariants.{Read, Write, Memory}
use Rattle.pct_top.specs.declared.command_output.CommandOutput.{CommandOutput}
use Rattle.pct_top.specs.declared.status.Status.{Status}
use Rattle.pct_top.specs.declared.status.Status.TheVariants as statuses
use Rattle.pct_top.specs.Settings.{SettingsOrWord, settings}
use Rattle.pct_top.specs.Refusing.{status_of_refusal, refusal_line}
use Rattle.pct_top.specs.Saying.{SaysLine}
use Rattle.pct_top.specs.Printed.{NamedFiles, Printed, printed_refusal}
use Rattle.pct_top.specs.Output.{OfTaken, Output}
use Rattle.pct_top.specs.CommandOutput.{printed_of, ShowsFiles, Comes}
use Rattle.pct_outside.specs.Told.{ShelfTold, StreamTold}
use Rattle.pct_top.specs.Outside.{Outside}
use Rattle.pct_top.specs.Call.{IsCarriedOut, PrintsOne, PutsAll, PutsOutput, RefusedFirst}
use Rattle.pct_top.specs.Call.{ReadFailed}
use Rattle.pct_top.specs.Call.{AnswersCall, RefusedWords, CanRun, Completes, PrintsAll, IsExact}
use Rattle.pct_top.specs.Call.{PrintsWhole, Refuses, Ends, LeavesShelf, ReadsNone, is_read_fault}
use Rattle.pct_top.specs.Call.{with_told, with_files, EndsExactly, IsCall}
use Rattle.pct_top.specs.Reads.{is_missed}
use Rattle.pct_top.proofs.Shelves.{done_is_read, refusal_is_read}
use Rattle.pct_top.proofs.OneReport.{told_answers}
use Rattle.pct_top.proofs.OnePrinted.{one_printed, printed_answers}

-- ---- what is put

module _ (taken : SettingsOrWord) (shelf shelf' : ShelfTold) where
  pub answers_refused : (stream : StreamTold) (refusal : Refusal)
      → Comes (OfTaken taken) shelf.files (ReadFailed taken shelf shelf') (Err refusal)
      → AnswersCall taken shelf shelf' stream stream (Err refusal)
  answers_refused stream (Usage word) h = (refl, h)
  answers_refused stream (Script line kind) h = (refl, h)
  answers_refused stream (Trace line kind) h = (refl, h)
  answers_refused stream (Directive line kind) h = (refl, h)
  answers_refused stream Read h = (refl, h)
  answers_refused stream Write h = absurd h
  answers_refused stream Memory h = inl refl

  pub answers_put : (before after : StreamTold) (output : CommandOutput) (r : Result Status Refusal)
      → ShowsFiles (OfTaken taken) shelf.files (printed_of output)
      → PutsOutput (printed_of output) before after r
      → AnswersCall taken shelf shelf' before after r
  answers_put before after output (Ok status) h p = (
    subst IsCarriedOut (sym p.1) (told_answers output.text.items output.done),
    λ files e. (printed_of output, h files e, p),
  )
  answers_put before after output (Err (Usage word)) h p = absurd p
  answers_put before after output (Err (Script line kind)) h p = absurd p
  answers_put before after output (Err (Trace line kind)) h p = absurd p
  answers_put before after output (Err (Directive line kind)) h p = absurd p
  answers_put before after output (Err Read) h p = absurd p
  answers_put before after output (Err Write) h p =
      (p.0, λ files e. (printed_of output, h files e, (refl, p.1)))
  answers_put before after output (Err Memory) h p =
      inr (λ files e. (printed_of output, h files e, (refl, p)))

-- ---- words that aren't taken

refused_ran : (taken : SettingsOrWord) (status : Status) → RefusedFirst taken (Ok status)
    → RefusedWords taken status
refused_ran (Ok asked) status h = tt
refused_ran (Err number) status h = absurd h

refused_said : (taken : SettingsOrWord) (refusal : Refusal) → RefusedFirst taken (Err refusal)
    → RefusedWords taken (status_of_refusal refusal)
refused_said (Ok asked) refusal h = tt
refused_said (Err number) (Usage word) h = tt
refused_said (Err number) (Script line kind) h = absurd h
refused_said (Err number) (Trace line kind) h = absurd h
refused_said (Err number) (Directive line kind) h = absurd h
refused_said (Err number) Read h = absurd h
refused_said (Err number) Write h = absurd h
refused_said (Err number) Memory h = tt

-- ---- the whole call

module _ (words : List (List ℕ)) (found left : Outside) where
  abbrev taken : SettingsOrWord
  taken = settings words

  abbrev Is : Result Status Refusal → Type 0
  Is r = AnswersCall taken found.shelf left.shelf found.output left.output r

  says_nothing : (line : List ℕ) → line ≡ [] → left.errors ≡ found.errors
      → SaysLine line found.errors left.errors
  says_nothing line none same =
      let P : StreamTold → Type 0 = λ s. SaysLine line found.errors s in
      subst P (sym same)
      (inl (subst (λ (l : List ℕ). IsPutWhole l found.errors found.errors) (sym none)
      (IsPutWhole-nil found.errors)))

  whole : (status : Status) → left.errors ≡ found.errors
      → PrintsOne taken (found.shelf).files (PutsAll found.output left.output status)
      → PrintsWhole words found left status
  whole status same p = λ files e. let q = p files e in
      (q.0, q.1, (q.2.1, q.2.0, says_nothing (q.0).err q.2.2 same))

  -- a command was carried out, and nothing was said
  ends_ran : (status : Status) → left.errors ≡ found.errors → Is (Ok status)
      → Ends words found left status
  ends_ran statuses.Done same p = (same, whole statuses.Done same p.1)
  ends_ran statuses.Found same p = (same, whole statuses.Found same p.1)
  ends_ran statuses.Usage same p = absurd p.0
  ends_ran statuses.BadScript same p = absurd p.0
  ends_ran statuses.BadTrace same p = absurd p.0
  ends_ran statuses.BadDirective same p = absurd p.0
  ends_ran statuses.ReadFault same p = absurd p.0
  ends_ran statuses.WriteFault same p = absurd p.0
  ends_ran statuses.NoMemory same p = absurd p.0

  put_nothing : left.output ≡ found.output
      → IsPutWhole [] found.output left.output
  put_nothing same =
      subst (λ (s : StreamTold). IsPutWhole [] found.output s) (sym same)
      (IsPutWhole-nil found.output)

  refuses : (refusal : Refusal) → left.output ≡ found.output
      → ShowsFiles (OfTaken taken) (found.shelf).files (printed_refusal refusal)
      → SaysLine (refusal_line refusal) found.errors left.errors
      → Refuses words found left (status_of_refusal refusal)
  refuses refusal same shows says =
      (same, λ files e. (printed_refusal refusal, shows files e, (refl, put_nothing same, says)))

  -- there is no whole output, and this was said
  ends_said : (refusal : Refusal) → Is (Err refusal)
      → SaysLine (refusal_line refusal) found.errors left.errors
      → Ends words found left (status_of_refusal refusal)
  ends_said (Usage word) p says = refuses (Usage word) p.0 p.1 says
  ends_said (Script line kind) p says = refuses (Script line kind) p.0 p.1 says
  ends_said (Trace line kind) p says = refuses (Trace line kind) p.0 p.1 says
  ends_said (Directive line kind) p says = refuses (Directive line kind) p.0 p.1 says
  ends_said Read p says = (p.0, p.1, says)
  ends_said Write p says = (p.0, p.1, says)
  ends_said Memory p says = (p, says)

  -- ---- what is printed is all that may be

  exact_whole : (status : Status) → PrintsWhole words found left status → (files : NamedFiles)
      → (found.shelf).files ≡ Some files → (printed : Printed) → Output words files printed
      → PrintsAll found left status printed
  exact_whole status h files is printed may = let q = h files is in
      subst (PrintsAll found left status) (one_printed taken files q.0 printed q.1 may) q.2

  part : (has : Printed → Type 0) → PrintsOne taken (found.shelf).files has → (files : NamedFiles)
      → (found.shelf).files ≡ Some files → (printed : Printed) → Output words files printed
      → has printed
  part has h files is printed may = let q = h files is in
      subst has (one_printed taken files q.0 printed q.1 may) q.2

  exact : (status : Status) → Ends words found left status → IsExact words found left status
  exact statuses.Done h = exact_whole statuses.Done h.1
  exact statuses.Found h = exact_whole statuses.Found h.1
  exact statuses.Usage h = exact_whole statuses.Usage h.1
  exact statuses.BadScript h = exact_whole statuses.BadScript h.1
  exact statuses.BadTrace h = exact_whole statuses.BadTrace h.1
  exact statuses.BadDirective h = exact_whole statuses.BadDirective h.1
  exact statuses.ReadFault h = λ files is printed may. h.0
  exact statuses.WriteFault h = λ files is printed may. (part _ h.1 files is printed may).1
  exact statuses.NoMemory h = λ files is printed may. elim h.0 [
    | inl same ↦ subst (λ (s : StreamTold).
        IsPutInPart printed.out found.output s) (sym same)
        (IsPutInPart-nil printed.out found.output)
    | inr some ↦ (part _ some files is printed may).1
  ]

  -- ---- what can run does

  made : (status : Status) → PrintsWhole words found left status → (files : NamedFiles)
      → (found.shelf).files ≡ Some files → CanRun taken files → IsCarriedOut status
  made status h files is can = let q = h files is in
      subst IsCarriedOut (sym q.2.0) (printed_answers taken files q.0 can q.1)

  completes : (status : Status) → Ends words found left status → Completes words found left status
  completes statuses.Done h = λ files is can unread unfaulted. inl tt
  completes statuses.Found h = λ files is can unread unfaulted. inl tt
  completes statuses.Usage h =
      λ files is can unread unfaulted. inl (made statuses.Usage h.1 files is can)
  completes statuses.BadScript h =
      λ files is can unread unfaulted. inl (made statuses.BadScript h.1 files is can)
  completes statuses.BadTrace h =
      λ files is can unread unfaulted. inl (made statuses.BadTrace h.1 files is can)
  completes statuses.BadDirective h =
      λ files is can unread unfaulted. inl (made statuses.BadDirective h.1 files is can)
  completes statuses.ReadFault h = λ files is can unread unfaulted. let read = h.1 in
      absurd (elim read.2 [
        | inl script ↦ unread read.0 (inl script) read.1
        | inr second ↦ unread read.0 (inr second.0) read.1
      ])
  completes statuses.WriteFault h = λ files is can unread unfaulted. absurd (unfaulted h.0)
  completes statuses.NoMemory h = λ files is can unread unfaulted. inr refl

  -- ---- all of it

  ends_exactly : (status : Status) → Ends words found left status
      → EndsExactly words found left status
  ends_exactly status ends = record { ends = ends; exact = exact status ends }

  ran_exactly : (status : Status) → left.errors ≡ found.errors → Is (Ok status)
      → EndsExactly words found left status
  ran_exactly status same p = ends_exactly status (ends_ran status same p)

  said_exactly : (refusal : Refusal) → Is (Err refusal)
      → SaysLine (refusal_line refusal) found.errors left.errors
      → EndsExactly words found left (status_of_refusal refusal)
  said_exactly refusal p says =
      ends_exactly (status_of_refusal refusal) (ends_said refusal p says)

  call_of : (status : Status) → EndsExactly words found left status → RefusedWords taken status
      → LeavesShelf taken (is_read_fault status) found.shelf left.shelf
      → (ReadsNone taken → (files : NamedFiles)
      → EndsExactly words (with_files files found) left status)
      → IsCall words found left status
  call_of status ends words_refused leaves unread = record {
    ends = ends.ends;
    refused = words_refused;
    complete = completes status ends.ends;
    exact = ends.exact;
    shelf = leaves;
    unread = unread;
  }

module _ (words : List (List ℕ)) (found left : Outside) where
  abbrev IsOver : NamedFiles → Result Status Refusal → Type 0
  IsOver files r = AnswersCall (settings words)
      (with_told files found.shelf) left.shelf found.output
      left.output r

  abbrev IsAny : Result Status Refusal → Type 0
  IsAny r =
      AnswersCall (settings words) found.shelf left.shelf found.output left.output r
      × (ReadsNone (settings words) → (files : NamedFiles) → IsOver files r)
      × LeavesShelf (settings words) (is_missed r) found.shelf left.shelf

  pub call_ran : (status : Status) → left.errors ≡ found.errors → IsAny (Ok status)
      → RefusedFirst (settings words) (Ok status) → IsCall words found left status
  call_ran status same p first =
      let done : IsCarriedOut status = p.0.0 in
      call_of words found left status (ran_exactly words found left status same p.0)
      (refused_ran (settings words) status first)
      (subst (λ (unread : Bool). LeavesShelf (settings words) unread found.shelf left.shelf)
      (done_is_read status done) p.2)
      (λ none files. ran_exactly words (with_files files found) left status same (p.1 none files))

  pub call_said : (status : Status) (refusal : Refusal) → status ≡ status_of_refusal refusal
      → IsAny (Err refusal) → RefusedFirst (settings words) (Err refusal)
      → SaysLine (refusal_line refusal) found.errors left.errors → IsCall words found left status
  call_said status refusal is p first says =
      subst (IsCall words found left) (sym is)
      (call_of words found left (status_of_refusal refusal)
      (said_exactly words found left refusal p.0 says)
      (refused_said (settings words) refusal first)
      (subst (λ (unread : Bool). LeavesShelf (settings words) unread found.shelf left.shelf)
      (refusal_is_read refusal) p.2)
      (λ none files. said_exactly words (with_files files found) left refusal (p.1 none files)
      says))
