-- A line's own fault is what is found as it is read.
use Rattle.std.proofs.Common.{◌≡◌, ℕ, suc, Bool, true, false, length, List, [], ◌∷◌, refl, sym, ap}
use Rattle.std.proofs.Common.{◌∙◌, arith, subst}
use Rattle.std.specs.Prelude.{not, ◌&&◌, ◌==◌}
use Rattle.std.proofs.lemmas.Bool.Decides.{nat_tests}
use Rattle.std.proofs.lemmas.Bool.{and_parts, not-false, not-true}
use Rattle.pct_ask.specs.Tokens.{Token}
use Rattle.pct_ask.specs.declared.names.NameKind.{NameKind}
use Rattle.script_tree.specs.Forms.{TokenForm, MeantForm, IsForm}
use Rattle.script_tree.specs.Ranges as ranges
use Rattle.script_tree.specs.Lines.{tokens_in, version_of}
use Rattle.script_tree.specs.Faults as faults
use Rattle.script_tree.specs.Faults.{Place, SoFar, tokens_before, is_declared}
use Rattle.script_tree.specs.Faults.{IsBelowHeader}
use Rattle.script_tree.specs.Faults.{HasForm, HasFormWith}
use Rattle.script_parse.specs.Part.{ReadPart}
use Rattle.script_parse.specs.Reading.{is_empty, so_far_in, is_known_name}
use Rattle.script_parse.proofs.Choices.{some_is, clash}
use Rattle.script_parse.proofs.FormWhole.{form_read}
use Rattle.script_parse.proofs.FirstKinds.{Tells}
use Rattle.script_parse.proofs.Standing.{Stands}
use Rattle.script_parse.proofs.Agreeing.{same_so_far, found, known_same}

pub empty_is : {A : Type 0} (xs : List A) → is_empty xs ≡ true → xs ≡ []
empty_is [] e = refl
empty_is (x ∷ xs) e = let some : (suc (length xs) == 0) ≡ false = grind (arith, nat_tests) in
    clash (sym e ∙ some)

pub is_empty_of : {A : Type 0} (xs : List A) → xs ≡ [] → is_empty xs ≡ true
is_empty_of [] e = refl
is_empty_of (x ∷ xs) e = absurd cc

pub both_hold : {P : Type 0} (a b : Bool) → (a && b) ≡ false → a ≡ true → b ≡ true → P
both_hold true b e h k = clash (sym k ∙ e)
both_hold false b e h k = absurd cc

-- ---- a line that may be the last one

tells_last : (place : Place) (test : Bool)
    → Tells (is_empty place.after && test) (faults.is_last place × (test ≡ true))
tells_last place test = (
  λ e. let p = and_parts (is_empty place.after) test e in (empty_is place.after p.0, p.1),
  λ e w. both_hold (is_empty place.after) test e (is_empty_of place.after w.0) w.1,
)

pub tells_end_any : (place : Place)
    → Tells
    (is_empty place.after && faults.leaves_open (faults.so_far_at place) (tokens_in place.line))
    (faults.NoEnd place)
tells_end_any place =
    tells_last place (faults.leaves_open (faults.so_far_at place) (tokens_in place.line))

pub tells_thread_any : (place : Place)
    → Tells
    (is_empty place.after && faults.lacks_thread (faults.so_far_at place) (tokens_in place.line))
    (faults.NoThread place)
tells_thread_any place =
    tells_last place (faults.lacks_thread (faults.so_far_at place) (tokens_in place.line))

-- tests of what was read and of the line's tokens tell so, too
module _ (part : ReadPart) (place : Place) (s : Stands part (tokens_before place))
    (tokens : List Token)
    (here : tokens_in place.line ≡ tokens) where
  last_same : (test : SoFar → List Token → Bool)
      → test (faults.so_far_at place) (tokens_in place.line) ≡ test (so_far_in part) tokens
  last_same test =
      ap (λ (lines : SoFar). test lines (tokens_in place.line))
      (same_so_far part (tokens_before place) s)
      ∙ ap (test (so_far_in part)) here

  pub tells_end :
      Tells (is_empty place.after && faults.leaves_open (so_far_in part) tokens)
      (faults.NoEnd place)
  tells_end =
      subst (λ (b : Bool). Tells (is_empty place.after && b) (faults.NoEnd place))
      (last_same faults.leaves_open) (tells_end_any place)

  pub tells_thread :
      Tells (is_empty place.after && faults.lacks_thread (so_far_in part) tokens)
      (faults.NoThread place)
  tells_thread =
      subst (λ (b : Bool). Tells (is_empty place.after && b) (faults.NoThread place))
      (last_same faults.lacks_thread) (tells_thread_any place)

-- ---- a line below the header, of some form

module _ (part : ReadPart) (place : Place) (s : Stands part (tokens_before place))
    (below : IsBelowHeader place) (cut : TokenForm) (meant : MeantForm)
    (is_form : IsForm part.version (tokens_in place.line) cut meant) where
  here : faults.so_far_at place ≡ so_far_in part
  here = same_so_far part (tokens_before place) s

  spoken_version : version_of (tokens_before place) ≡ part.version
  spoken_version = ap (λ (lines : SoFar). lines.version) here

  has_form : faults.may_stand (faults.so_far_at place) meant ≡ true → HasForm place cut meant
  has_form h = record {
    is_below = below;
    form = subst (λ (v : ℕ). IsForm v (tokens_in place.line) cut meant)
        (sym spoken_version) is_form;
    stands = h;
  }

  -- the line has no other form
  one_meaning : (other : TokenForm) (sense : MeantForm) → HasForm place other sense
      → meant ≡ sense
  one_meaning other sense h =
      let again : IsForm part.version (tokens_in place.line) other sense =
      subst (λ (v : ℕ). IsForm v (tokens_in place.line) other sense) spoken_version h.form in
      some_is _ _
      (sym (form_read part.version (tokens_in place.line) cut meant is_form)
      ∙ form_read part.version (tokens_in place.line) other sense again)

  stands_here : (other : TokenForm) (sense : MeantForm) → HasForm place other sense
      → faults.may_stand (faults.so_far_at place) meant ≡ true
  stands_here other sense h =
      ap (faults.may_stand (faults.so_far_at place)) (one_meaning other sense h) ∙ h.stands

  -- a test tells whether the line has a form of which it holds
  tells : (test : MeantForm → Bool) → Tells
      (faults.may_stand (faults.so_far_at place) meant && test meant) (HasFormWith test place)
  tells test = (
    λ e. let p = and_parts (faults.may_stand (faults.so_far_at place) meant) (test meant) e in
        (cut, meant, has_form p.0, p.1),
    λ e w. both_hold (faults.may_stand (faults.so_far_at place) meant) (test meant) e
        (stands_here w.0 w.1 w.2) (ap test (one_meaning w.0 w.1 w.2) ∙ w.3),
  )

  -- so does a test of what was read
  tells_here : (test : SoFar → MeantForm → Bool)
      → Tells (faults.may_stand (so_far_in part) meant && test (so_far_in part) meant)
      (HasFormWith (test (faults.so_far_at place)) place)
  tells_here test =
      subst (λ (lines : SoFar). Tells (faults.may_stand lines meant && test lines meant)
      (HasFormWith (test (faults.so_far_at place)) place)) here
      (tells (test (faults.so_far_at place)))

  no_statement : Tells (not (faults.may_stand (faults.so_far_at place) meant))
      (faults.BadStatement place)
  no_statement = (
    λ e. (
      below,
      λ other sense h. clash
          (sym (stands_here other sense h)
          ∙ not-true (faults.may_stand (faults.so_far_at place) meant) e),
    ),
    λ e w. w.1 cut meant (has_form (not-false (faults.may_stand (faults.so_far_at place) meant) e)),
  )

  pub tells_statement : Tells (not (faults.may_stand (so_far_in part) meant))
      (faults.BadStatement place)
  tells_statement =
      subst (λ (lines : SoFar). Tells (not (faults.may_stand lines meant))
      (faults.BadStatement place)) here no_statement

  pub tells_unknown : Tells (faults.may_stand (so_far_in part) meant
      && faults.uses_unknown (is_known_name part.names (found part place s)) meant)
      (faults.UnknownName place)
  tells_unknown =
      subst (λ (known : NameKind → List ℕ → Bool).
      Tells (faults.may_stand (so_far_in part) meant && faults.uses_unknown known meant)
      (faults.UnknownName place)) (known_same part place s)
      (tells_here (λ lines. faults.uses_unknown (is_declared place)))

  pub tells_twice : Tells (faults.may_stand (so_far_in part) meant
      && faults.declares_again (so_far_in part) meant) (faults.TwiceNamed place)
  tells_twice = tells_here faults.declares_again

  pub tells_range : Tells (faults.may_stand (so_far_in part) meant
      && ranges.is_out_of_range (tokens_in place.line) meant) (faults.NumberRange place)
  tells_range = tells_here (λ lines. ranges.is_out_of_range (tokens_in place.line))

  pub tells_stray : Tells (faults.may_stand (so_far_in part) meant
      && faults.closes_nothing (so_far_in part) meant) (faults.StrayEnd place)
  tells_stray = tells_here faults.closes_nothing

  pub tells_many : Tells (faults.may_stand (so_far_in part) meant
      && faults.is_too_many (so_far_in part) meant) (faults.TooMany place)
  tells_many = tells_here faults.is_too_many
