-- A line of a form without a fault is taken.
use Rattle.std.proofs.Common.{◌≡◌, ℕ, Bool, true, false, length, List, [], ◌∷◌, ◌++◌, Option, Some}
use Rattle.std.proofs.Common.{None, Ok, refl, sym, ap, ◌∙◌, subst, arith}
use Rattle.std.specs.Prelude.{◌&&◌, nat_le}
use Rattle.std.specs.Prelude.{unwrap_or}
use Rattle.pct_ask.specs.Tokens.{Token, tokens_of}
use Rattle.pct_ask.specs.declared.names.NameKind.TheVariants as kinds
use Rattle.script_tree.specs.Forms.{TokenForm, MeantForm, tokens_of_form, IsFormOf, Means, IsForm}
use Rattle.script_tree.specs.Lines.{tokens_in}
use Rattle.script_tree.specs.Grammar.{Says}
use Rattle.script_tree.specs.Faults as faults
use Rattle.script_tree.specs.Faults.{SoFar}
use Rattle.script_tree.specs.Ranges as ranges
use Rattle.script_parse.specs.Part.{ReadPart}
use Rattle.script_parse.specs.Reading.{Finder, is_empty, so_far_in, form_fault, with_form}
use Rattle.script_parse.specs.Reading.{tokens_taken}
use Rattle.script_parse.specs.Saying.{form_in}
use Rattle.script_parse.proofs.FormWhole.{form_read}
use Rattle.script_parse.proofs.Standing.{Stands, depth_is}
use Rattle.script_parse.proofs.Agreeing.{taken_stands, same_so_far, leaves_open_same}
use Rattle.script_parse.proofs.Agreeing.{lacks_thread_same}
use Rattle.script_parse.proofs.Runs.{IsFree}

-- what was read is a whole script: no block is open, and there is a thread
pub record IsWhole (part : ReadPart) : Type 0 where
  pub closed : length part.open_blocks ≡ 0
  pub threads : is_empty part.names.threads ≡ false

-- where the line is the last one, what is read with it is whole
abbrev pub WholeAfter : Bool → ReadPart → Type 0
WholeAfter last next = last ≡ true → IsWhole next

last_none : (last found : Bool) → (last ≡ true → found ≡ false) → (last && found) ≡ false
last_none true found f = f refl
last_none false found f = refl

module _ (version : ℕ) (part : ReadPart) (find : Finder) (n : ℕ) (last : Bool)
    (lines : List (List Token)) (s : Stands part lines) (cut : TokenForm) (meant : MeantForm)
    (means : Means cut meant) (of : IsFormOf version cut) (free : IsFree part find meant)
    (whole : WholeAfter last (with_form part find n meant)) where
  next_stands : Stands (with_form part find n meant) (lines ++ tokens_of_form cut ∷ [])
  next_stands = taken_stands version part find n lines s cut meant means of free.closes

  abbrev line : List Token
  line = tokens_of_form cut

  said_same : (test : SoFar → List Token → Bool)
      → test (faults.so_far lines) line ≡ test (so_far_in part) line
  said_same test = ap (λ (read : SoFar). test read line) (same_so_far part lines s)

  none_open : last ≡ true → faults.leaves_open (so_far_in part) line ≡ false
  none_open e =
      sym (leaves_open_same lines line (omega (arith, s.depths))
      ∙ said_same faults.leaves_open)
      ∙ ap (nat_le 1) (depth_is (with_form part find n meant) (lines ++ line ∷ []) next_stands
      ∙ (whole e).closed)

  a_thread : last ≡ true → faults.lacks_thread (so_far_in part) line ≡ false
  a_thread e =
      sym (lacks_thread_same lines line ∙ said_same faults.lacks_thread)
      ∙ ap is_empty (next_stands.names kinds.Thread) ∙ (whole e).threads

  no_fault : ranges.is_out_of_range line meant ≡ false
      → form_fault part find last line meant ≡ None
  no_fault range =
      let closed = last_none last (faults.leaves_open (so_far_in part) line) none_open in
      let some = last_none last (faults.lacks_thread (so_far_in part) line) a_thread in
      rw (free.stands, free.known, free.fresh, range, closed, free.closes, some, free.few) refl

  pub no_form_fault : (tokens : List Token) → tokens ≡ tokens_of_form cut
      → ranges.is_out_of_range tokens meant ≡ false
      → form_fault part find last tokens meant ≡ None
  no_form_fault tokens spelled range =
      let in_range : ranges.is_out_of_range line meant ≡ false =
      subst (λ (ts : List Token). ranges.is_out_of_range ts meant ≡ false) spelled range in
      ap (λ (ts : List Token). form_fault part find last ts meant) spelled ∙ no_fault in_range

module _ (part : ReadPart) (find : Finder) (n : ℕ) (last : Bool) (lines : List (List Token))
    (s : Stands part lines) (text : List ℕ) (meant : MeantForm)
    (says : Says part.version text meant) (free : IsFree part find meant)
    (whole : WholeAfter last (with_form part find n meant)) where
  formed : (tokens : List Token) → tokens_in text ≡ tokens → IsForm part.version tokens says.0 meant
  formed tokens e = subst (λ (ts : List Token). IsForm part.version ts says.0 meant) e says.1

  in_range : (tokens : List Token) → tokens_in text ≡ tokens
      → ranges.is_out_of_range tokens meant ≡ false
  in_range tokens here =
      subst (λ (ts : List Token). ranges.is_out_of_range ts meant ≡ false) here says.2

  read_form : (tokens : List Token) → tokens_in text ≡ tokens
      → form_in part.version tokens ≡ Some meant
  read_form tokens e =
      form_read part.version tokens says.0 meant (formed tokens e)

  none_some : (m : MeantForm) → None ≡ Some m → ⊥
  none_some m e = absurd cc

  pub said_taken : (tokens : Option (List Token)) → tokens_of text ≡ tokens
      → tokens_taken part find n last tokens ≡ Ok (with_form part find n meant)
  said_taken None e =
      absurd (none_some meant (read_form [] (ap (λ (ts : Option (List Token)). unwrap_or ts []) e)))
  said_taken (Some []) e =
      absurd (none_some meant (read_form [] (ap (λ (ts : Option (List Token)). unwrap_or ts []) e)))
  said_taken (Some (token ∷ tokens)) e =
      let here : tokens_in text ≡ token ∷ tokens =
      ap (λ (ts : Option (List Token)). unwrap_or ts []) e in
      let form = formed (token ∷ tokens) here in
      rw (
        read_form (token ∷ tokens) here,
        no_form_fault part.version part find n last lines s
            says.0 meant form.means form.of free whole (token ∷ tokens) form.spelled
            (in_range (token ∷ tokens) here),
      ) refl
