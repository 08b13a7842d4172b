-- Numbers out of range among the code's tokens.
use Rattle.std.proofs.Common.{◌≡◌, ℕ, Bor, List, [], ◌∷◌, refl, ap}
use Rattle.std.specs.Prelude.{◌||◌, Bool}
use Rattle.std.specs.List.{list_any}
use Rattle.script_parse.specs.declared.token.Token.{Token}
use Rattle.pct_ask.specs.Tokens as language
use Rattle.pct_ask.specs.declared.names.NameKind.{NameKind}
use Rattle.script_parse.specs.declared.form.Form.{Form}
use Rattle.script_parse.specs.declared.form.Form.TheVariants as forms
use Rattle.script_parse.specs.Seen.{seen, all_seen}
use Rattle.script_parse.specs.SeenForms.{seen_form}
use Rattle.script_tree.specs.Ranges.{is_great, has_great, is_out_of_range}

pub great_seen : (tokens : List Token)
    → list_any (λ token. is_great (seen token)) tokens ≡ has_great (all_seen tokens)
great_seen [] = refl
great_seen (token ∷ tokens) = ap (λ (b : Bool). is_great (seen token) || b) (great_seen tokens)

-- a line of another form than a declaration with a value
pub great_other : (tokens : List language.Token) (form : Form)
    → ((kind : NameKind) (name : Bor (List ℕ)) (minus : Bool) (digits : Bor (List ℕ))
    → form ≡ forms.Valued kind name minus digits → ⊥)
    → has_great tokens ≡ is_out_of_range tokens (seen_form form)
great_other tokens (forms.Valued kind name minus digits) h = absurd (h kind name minus digits refl)
great_other tokens form h = refl
