-- How the code's forms stand for those of the language.
use Rattle.std.specs.Prelude.{ℕ, Bool, true, false, List, [], ◌∷◌, codes}
use Rattle.pct_ask.specs.Tokens.{Token, Number, Symbol}
use Rattle.script_tree.specs.Forms as language
use Rattle.script_tree.specs.Forms.{MeantForm}
use Rattle.script_parse.specs.Spellings.{spelled_tree}
use Rattle.script_parse.specs.declared.form.Form.{Form}
use Rattle.script_parse.specs.declared.form.Form.TheVariants as forms

-- the tokens of a first value
abbrev pub seen_value_tokens : Bool → List ℕ → List Token
seen_value_tokens false digits = Number digits ∷ []
seen_value_tokens true digits = Symbol (codes "-") ∷ Number digits ∷ []

-- a form without where its names and expressions lie in memory
abbrev pub seen_form : Form → MeantForm
seen_form (forms.Plain kind name) = language.Plain kind name.now
seen_form (forms.Valued kind name minus digits) =
    language.Valued kind name.now (seen_value_tokens minus digits.now)
seen_form (forms.Thread name) = language.Thread name.now
seen_form (forms.On verb object) = language.On verb object.now
seen_form (forms.Into verb reg object) = language.Into verb reg object.now
seen_form (forms.Write var value) = language.Write var.now (spelled_tree value)
seen_form (forms.Add reg var value) = language.Add reg var.now (spelled_tree value)
seen_form (forms.Cas reg var old new) =
    language.Cas reg var.now (spelled_tree old) (spelled_tree new)
seen_form (forms.Wait cond mutex) = language.Wait cond.now mutex.now
seen_form forms.Yield = language.Yield
seen_form (forms.Assert test) = language.Assert (spelled_tree test)
seen_form (forms.Set reg value) = language.Set reg (spelled_tree value)
seen_form (forms.If test) = language.If (spelled_tree test)
seen_form (forms.While test) = language.While (spelled_tree test)
seen_form forms.End = language.End
seen_form forms.Else = language.Else
