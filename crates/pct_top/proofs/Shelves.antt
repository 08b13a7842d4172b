-- What the reads of a call leave of the shelf.
use Rattle.std.proofs.Common.{◌≡◌, ℕ, List, [], ◌∷◌, inl, inr, Option, Some, None, Result, Ok}
use Rattle.std.proofs.Common.{Err, Bool, true, false, refl, sym, ap, ◌∙◌}
use Rattle.std.specs.Prelude.{◌||◌}
use Rattle.script_tree.specs.ScriptText.{ScriptText}
use Rattle.script_tree.specs.Grammar.{Spells}
use Rattle.pct_top.specs.declared.refusal.Refusal.{Refusal}
use Rattle.pct_top.specs.declared.refusal.Refusal.TheVariants.{Usage, Script, Trace, Directive}
use Rattle.pct_top.specs.declared.refusal.Refusal.TheVariants.{Read, Write, Memory}
use Rattle.pct_top.specs.declared.command_output.CommandOutput.{CommandOutput}
use Rattle.pct_top.specs.CommandOutput.{GivesPrinted}
use Rattle.pct_top.specs.declared.settings.Settings.{Settings}
use Rattle.pct_top.specs.declared.settings.Settings.TheVariants.{RunOrder, RunSeed, Campaign, Big}
use Rattle.pct_top.specs.declared.settings.Settings.TheVariants.{Replay, Expose, Certify, Sweep}
use Rattle.pct_top.specs.declared.status.Status.{Status}
use Rattle.pct_top.specs.declared.status.Status.TheVariants as statuses
use Rattle.pct_top.specs.Settings.{SettingsOrWord}
use Rattle.pct_top.specs.Ordered.{OrderFits}
use Rattle.pct_top.specs.Printed.{Printed}
use Rattle.pct_top.specs.Refusing.{status_of_refusal}
use Rattle.pct_top.specs.Output.{script_file, script_text, order_given, second_file}
use Rattle.pct_top.specs.Files.{HasText}
use Rattle.pct_outside.specs.Told.{ShelfTold, StreamTold}
use Rattle.pct_top.specs.Reads.{ReadMade, is_read, is_missed, KeepsFile, KeepsSecond}
use Rattle.pct_top.specs.Call.{LeavesShelf, PutsOutput, RefusedFirst, IsCarriedOut}
use Rattle.pct_top.specs.Call.{is_read_fault}

-- ---- the reads of a call

or_false : (b : Bool) → (b || false) ≡ b
or_false true = refl
or_false false = refl

pub leaves_none : (taken : SettingsOrWord) (unread : Bool) (before after : ShelfTold)
    → unread ≡ false → after ≡ before → LeavesShelf taken unread before after
leaves_none taken unread before after well same = record {
  files = ap (λ (s : ShelfTold). s.files) same;
  reads = [];
  made = tt;
  kept = same;
  failed = sym well;
}

module _ (asked : Settings) (unread : Bool) (before after : ShelfTold)
    (files : after.files ≡ before.files) where
  by_script : (file : Option (List ℕ)) → script_file asked ≡ file
      → KeepsFile file unread before after
      → LeavesShelf (Ok asked) unread before after
  by_script None is keeps =
      leaves_none (Ok asked) unread before after keeps.0 keeps.1
  by_script (Some name) is keeps =
      let read : ReadMade = record { name = name; failed = unread } in
      record {
        files = files;
        reads = read ∷ [];
        made = is;
        kept = (after, keeps, refl);
        failed = or_false unread;
      }

  -- the script was read, and no other file
  pub leaves_script : KeepsFile (script_file asked) unread before after
      → LeavesShelf (Ok asked) unread before after
  leaves_script keeps = by_script (script_file asked) refl keeps

-- where there is a second file there is one of the script
has_script : (asked : Settings) (name : List ℕ) → second_file asked ≡ Some name
    → script_file asked ≡ None → ⊥
has_script (RunOrder file order word points limit report) name is none = cc
has_script (RunSeed file seed depth steps limit report) name is none = cc
has_script (Campaign file first count depth steps limit json serve) name is none = cc
has_script (Big pieces serve) name is none = cc
has_script (Replay file trace) name is none = cc
has_script (Expose file directive order word steps limit) name is none = cc
has_script (Certify file directive steps limit serve) name is none = cc
has_script (Sweep file depth steps limit json serve) name is none = cc

module _ (asked : Settings) (unread : Bool) (before after : ShelfTold)
    (files : after.files ≡ before.files) (middle : ShelfTold) (script : ScriptText)
    (spells : HasText before.files (script_text asked) (λ bytes. Spells bytes script)) where
  abbrev Fits : Type 0
  Fits = OrderFits script.names (order_given asked)

  by_both : (file : Option (List ℕ)) → script_file asked ≡ file
      → KeepsFile file false before middle
      → KeepsSecond (second_file asked) Fits unread middle after
      → LeavesShelf (Ok asked) unread before after
  by_both None none keeps (inl same) =
      leaves_none (Ok asked) unread before after same.0 (same.1 ∙ keeps.1)
  by_both None none keeps (inr read) = absurd (has_script asked read.0 read.1 none)
  by_both (Some name) is keeps (inl same) =
      let first : ReadMade = record { name = name; failed = false } in
      record {
        files = files;
        reads = first ∷ [];
        made = is;
        kept = (middle, keeps, same.1);
        failed = sym same.0;
      }
  by_both (Some name) is keeps (inr read) =
      let first : ReadMade = record { name = name; failed = false } in
      let second : ReadMade = record { name = read.0; failed = unread } in
      record {
        files = files;
        reads = first ∷ second ∷ [];
        made = (is, refl, read.1, λ told e. (script, spells told e, read.2));
        kept = (middle, keeps, (after, read.3, refl));
        failed = or_false unread;
      }

  -- the script was read, and then what the command reads
  pub leaves_both : KeepsFile (script_file asked) false before middle
      → KeepsSecond (second_file asked) Fits unread middle after
      → LeavesShelf (Ok asked) unread before after
  leaves_both keeps second = by_both (script_file asked) refl keeps second

-- ---- by the answer and the status

-- what is put is no read
pub put_is_read : (printed : Printed) (before after : StreamTold) (r : Result Status Refusal)
    → PutsOutput printed before after r → is_missed r ≡ false
put_is_read printed before after (Ok status) h = refl
put_is_read printed before after (Err (Usage word)) h = absurd h
put_is_read printed before after (Err (Script line kind)) h = absurd h
put_is_read printed before after (Err (Trace line kind)) h = absurd h
put_is_read printed before after (Err (Directive line kind)) h = absurd h
put_is_read printed before after (Err Read) h = absurd h
put_is_read printed before after (Err Write) h = refl
put_is_read printed before after (Err Memory) h = refl

-- what is printed is no read
pub given_is_read : (of : Printed → Type 0) (r : Result CommandOutput Refusal) → GivesPrinted of r
    → is_missed r ≡ false
given_is_read of (Ok output) h = refl
given_is_read of (Err (Usage word)) h = refl
given_is_read of (Err (Script line kind)) h = refl
given_is_read of (Err (Trace line kind)) h = refl
given_is_read of (Err (Directive line kind)) h = refl
given_is_read of (Err Read) h = absurd h
given_is_read of (Err Write) h = refl
given_is_read of (Err Memory) h = refl

-- words that are refused are no read
pub words_are_read : (number : ℕ) (r : Result Status Refusal) → RefusedFirst (Err number) r
    → is_missed r ≡ false
words_are_read number (Ok status) h = refl
words_are_read number (Err (Usage word)) h = refl
words_are_read number (Err (Script line kind)) h = absurd h
words_are_read number (Err (Trace line kind)) h = absurd h
words_are_read number (Err (Directive line kind)) h = absurd h
words_are_read number (Err Read) h = absurd h
words_are_read number (Err Write) h = absurd h
words_are_read number (Err Memory) h = refl

pub refusal_is_read : (refusal : Refusal)
    → is_read refusal ≡ is_read_fault (status_of_refusal refusal)
refusal_is_read (Usage word) = refl
refusal_is_read (Script line kind) = refl
refusal_is_read (Trace line kind) = refl
refusal_is_read (Directive line kind) = refl
refusal_is_read Read = refl
refusal_is_read Write = refl
refusal_is_read Memory = refl

pub done_is_read : (status : Status) → IsCarriedOut status → false ≡ is_read_fault status
done_is_read statuses.Done h = refl
done_is_read statuses.Found h = refl
done_is_read statuses.Usage h = absurd h
done_is_read statuses.BadScript h = absurd h
done_is_read statuses.BadTrace h = absurd h
done_is_read statuses.BadDirective h = absurd h
done_is_read statuses.ReadFault h = absurd h
done_is_read statuses.WriteFault h = absurd h
done_is_read statuses.NoMemory h = absurd h
