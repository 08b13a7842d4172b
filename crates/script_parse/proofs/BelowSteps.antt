-- A line below the header by its form.
use Rattle.std.proofs.Common.{◌≡◌, ℕ, Bool, List, [], ◌∷◌, Option, Some, None, Result, Ok, Err}
use Rattle.std.proofs.Common.{refl, subst}
use Rattle.pct_ask.specs.Tokens.{Token, tokens_of}
use Rattle.script_tree.specs.declared.fault.ScriptFault.{ScriptFault}
use Rattle.script_tree.specs.Forms.{MeantForm}
use Rattle.script_parse.specs.Part.{ReadPart}
use Rattle.script_parse.specs.Saying.{form_in}
use Rattle.script_parse.specs.Reading.{Finder, form_fault, with_form, tokens_taken, some_part}
use Rattle.script_parse.specs.Reading.{bytes_fault, uncut_fault, line_said, line_taken}

pub below_fault : (version : ℕ) (part : ReadPart) (find : Finder) (n : ℕ) (last : Bool)
    (tokens : List Token) (meant : MeantForm) (kind : ScriptFault) → version ≡ part.version
    → form_in version tokens ≡ Some meant → form_fault part find last tokens meant ≡ Some kind
    → ◌≡◌ {A = Result (Option ReadPart) ScriptFault} (Err kind)
    (some_part (tokens_taken part find n last (Some tokens)))
below_fault version part find n last [] meant kind v e f = absurd cc
below_fault version part find n last (token ∷ tokens) meant kind v e f =
    let here : form_in part.version (token ∷ tokens) ≡ Some meant =
    subst (λ (w : ℕ). form_in w (token ∷ tokens) ≡ Some meant) v e in
    rw (here, f) refl

pub below_taken : (version : ℕ) (part next : ReadPart) (find : Finder) (n : ℕ) (last : Bool)
    (tokens : List Token) (meant : MeantForm) → version ≡ part.version
    → form_in version tokens ≡ Some meant
    → form_fault part find last tokens meant ≡ None → next ≡ with_form part find n meant
    → ◌≡◌ {A = Result (Option ReadPart) ScriptFault} (Ok (Some next))
    (some_part (tokens_taken part find n last (Some tokens)))
below_taken version part next find n last [] meant v e f g = absurd cc
below_taken version part next find n last (token ∷ tokens) meant v e f g =
    let here : form_in part.version (token ∷ tokens) ≡ Some meant =
    subst (λ (w : ℕ). form_in w (token ∷ tokens) ≡ Some meant) v e in
    rw (here, f, g) refl

-- a line by its tokens, where its bytes and its number have no fault
pub line_taken-said : (state : Option ReadPart) (find : Finder) (n : ℕ) (last : Bool)
    (line : List ℕ) (tokens : Option (List Token)) → bytes_fault n line ≡ None
    → tokens_of line ≡ tokens → line_taken state find n last line
    ≡ line_said state find n last tokens
line_taken-said state find n last line tokens sound cut = rw (sound, cut) refl

-- a line that can't be cut
pub line_said-uncut : (state : Option ReadPart) (find : Finder) (n : ℕ) (last : Bool)
    → line_said state find n last None ≡ Err (uncut_fault state)
line_said-uncut None find n last = refl
line_said-uncut (Some part) find n last = refl
