-- Which names the reads of a call add, where only those of failed reads are kept.
use Rattle.std.proofs.Common.{◌≡◌, ℕ, Bool, true, false, List, [], ◌∷◌, Option, ◌∙◌, ap, sym, subst}
use Rattle.std.specs.Prelude.{◌||◌, if◌then◌else◌}
use Rattle.pct_outside.specs.Reading.{names_with}
use Rattle.pct_top.specs.declared.status.Status.{Status}
use Rattle.pct_top.specs.declared.status.Status.TheVariants as statuses
use Rattle.pct_top.specs.Settings.{SettingsOrWord, settings}
use Rattle.pct_top.specs.Printed.{NamedFiles}
use Rattle.pct_top.specs.Outside.{Outside}
use Rattle.pct_outside.specs.Told.{ShelfTold}
use Rattle.pct_top.specs.Reads.{ReadMade, KeepsReads, names_by, some_failed}
use Rattle.pct_top.specs.Call.{AreReads, is_read_fault, IsCall}
use Rattle.pct_top.specs.FailedReads.{AddsByStatus}

-- by whether a read failed
abbrev AddsOne : Bool → List (List ℕ) → List (List ℕ) → Type 0
AddsOne true names names' = (name : List ℕ) × (names' ≡ names_with names name)
AddsOne false names names' = names' ≡ names

adds_script : (failed : Bool) (name : List ℕ) (names names' : List (List ℕ))
    → names' ≡ names_by (record { name = name; failed = failed }) names
    → AddsOne (failed || false) names names'
adds_script true name names names' is = (name, is)
adds_script false name names names' is = is

-- after a read that didn't fail
adds_second : (script : ReadMade) (failed : Bool) (name : List ℕ)
    (names between names' : List (List ℕ)) → script.failed ≡ false
    → between ≡ names_by script names
    → names' ≡ names_by (record { name = name; failed = failed }) between
    → AddsOne (script.failed || (failed || false)) names names'
adds_second script failed name names between names' well first second =
    let same : between ≡ names =
    first ∙ ap (λ (b : Bool). if b then names_with names script.name else names) well in
    subst (λ (b : Bool). AddsOne (b || (failed || false)) names names') (sym well)
    (adds_script failed name names names'
    (second ∙ ap (names_by (record { name = name; failed = failed })) same))

adds : (taken : SettingsOrWord) (told : Option NamedFiles) (reads : List ReadMade)
    (before after : ShelfTold) → AreReads taken told reads → KeepsReads reads before after
    → before.keeps ≡ true → AddsOne (some_failed reads) before.failed after.failed
adds taken told [] before after are kept keeps = ap (λ (s : ShelfTold). s.failed) kept
adds taken told (script ∷ []) before after are (between, first, same) keeps =
    adds_script script.failed script.name before.failed after.failed
    (ap (λ (s : ShelfTold). s.failed) same ∙ first.alone keeps)
adds taken told (script ∷ second ∷ []) before after are (between, first, rest) keeps =
    let (last, other, same) = rest in
    adds_second script second.failed second.name before.failed between.failed after.failed are.1
    (first.alone keeps)
    (ap (λ (s : ShelfTold). s.failed) same ∙ other.alone (first.keeps ∙ keeps))
adds taken told (script ∷ second ∷ other ∷ reads) before after are kept keeps = absurd are

by_status : (status : Status) (names names' : List (List ℕ))
    → AddsOne (is_read_fault status) names names' → AddsByStatus status names names'
by_status statuses.Done names names' h = h
by_status statuses.Found names names' h = h
by_status statuses.Usage names names' h = h
by_status statuses.BadScript names names' h = h
by_status statuses.BadTrace names names' h = h
by_status statuses.BadDirective names names' h = h
by_status statuses.ReadFault names names' h = h
by_status statuses.WriteFault names names' h = h
by_status statuses.NoMemory names names' h = h

pub one_failed : (words : List (List ℕ)) (found left : Outside) (status : Status)
    → IsCall words found left status → (found.shelf).keeps ≡ true
    → AddsByStatus status (found.shelf).failed (left.shelf).failed
one_failed words found left status call keeps =
    let leaves = call.shelf in
    by_status status (found.shelf).failed (left.shelf).failed
    (subst (λ (failed : Bool). AddsOne failed (found.shelf).failed (left.shelf).failed)
    leaves.failed
    (adds (settings words) (found.shelf).files leaves.reads found.shelf left.shelf leaves.made
    leaves.kept keeps))
