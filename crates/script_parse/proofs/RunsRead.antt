-- Lines that can be taken one after another are read.
use Rattle.std.proofs.Common.{◌≡◌, ℕ, ◌≤◌, Bool, length, List, [], ◌∷◌, ◌++◌, Some, None, Ok, refl}
use Rattle.std.proofs.Common.{sym, ap, ◌∙◌, subst, append_assoc}
use Rattle.std.proofs.lemmas.Bool.{le-ltb}
use Rattle.pct_ask.specs.Tokens.{Token, tokens_of}
use Rattle.script_tree.specs.Forms.{MeantForm}
use Rattle.script_tree.specs.Lines.{tokens_in, version_of}
use Rattle.script_tree.specs.Grammar.{Says, IsLineText}
use Rattle.script_parse.specs.Part.{ReadPart}
use Rattle.script_parse.specs.Reading.{Finder, with_form, line_taken, bytes_fault}
use Rattle.script_parse.proofs.Standing.{Stands}
use Rattle.script_parse.proofs.Agreeing.{taken_stands}
use Rattle.script_parse.proofs.Runs.{IsFree}
use Rattle.script_parse.proofs.FreeLines.{WholeAfter, said_taken}

pub plain_line : (n : ℕ) (text : List ℕ) → IsLineText text → n ≤ 4096 → bytes_fault n text ≡ None
plain_line n text sound few =
    rw (sound.text, le-ltb 256 (length text) sound.short, le-ltb 4096 n few) refl

-- a line that says a form is read
pub form_step : (part : ReadPart) (find : Finder) (n : ℕ) (last : Bool) (lines : List (List Token))
    → Stands part lines → (text : List ℕ) (meant : MeantForm) → Says part.version text meant
    → IsFree part find meant → WholeAfter last (with_form part find n meant) → IsLineText text
    → n ≤ 4096 → line_taken (Some part) find n last text ≡ Ok (Some (with_form part find n meant))
form_step part find n last lines s text meant says free whole sound few =
    rw (
      plain_line n text sound few,
      said_taken part find n last lines s text meant says free whole
          (tokens_of text) refl,
    ) refl

pub form_after : (part : ReadPart) (find : Finder) (n : ℕ) (lines : List (List Token))
    (text : List ℕ)
    (meant : MeantForm) → Stands part lines → Says part.version text meant → IsFree part find meant
    → Stands (with_form part find n meant) (lines ++ tokens_in text ∷ [])
form_after part find n lines text meant s says free =
    subst (λ (ts : List Token). Stands (with_form part find n meant) (lines ++ ts ∷ []))
    (sym says.1.spelled) (taken_stands part.version part find n lines s says.0 meant
    says.1.means says.1.of free.closes)

pub same_version : (part next : ReadPart) (lines : List (List Token)) (line : List Token)
    → Stands part lines → Stands next (lines ++ line ∷ []) → part.version ≡ next.version
same_version part next lines line s t =
    sym (s.version (line ∷ [])) ∙ sym (ap version_of (append_assoc lines (line ∷ []) []))
    ∙ t.version []
