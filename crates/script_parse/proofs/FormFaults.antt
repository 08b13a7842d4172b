-- A form in which no fault is found.
use Rattle.std.proofs.Common.{◌≡◌, Bool, true, false, List, None, refl}
use Rattle.std.specs.Prelude.{not, ◌&&◌}
use Rattle.std.proofs.lemmas.Bool.{not-false}
use Rattle.pct_ask.specs.Tokens.{Token}
use Rattle.script_tree.specs.Forms.{MeantForm, Valued}
use Rattle.script_tree.specs.Ranges as ranges
use Rattle.script_tree.specs.Ranges.{value_fits}
use Rattle.script_tree.specs.Faults as faults
use Rattle.script_parse.specs.Part.{ReadPart}
use Rattle.script_parse.specs.Lawful.{value_lawful}
use Rattle.script_parse.specs.Reading.{Finder, so_far_in, is_known_name, form_fault}
use Rattle.script_parse.proofs.Choices.{unchosen}

-- a line of this form has no fault
pub record NoFault (part : ReadPart) (find : Finder) (tokens : List Token)
    (meant : MeantForm) : Type
    0 where
  pub stands : faults.may_stand (so_far_in part) meant ≡ true
  pub known : faults.uses_unknown (is_known_name part.names find) meant ≡ false
  pub fresh : faults.declares_again (so_far_in part) meant ≡ false
  pub in_range : ranges.is_out_of_range tokens meant ≡ false
  pub closes : faults.closes_nothing (so_far_in part) meant ≡ false
  pub few : faults.is_too_many (so_far_in part) meant ≡ false

pub no_fault_parts : (part : ReadPart) (find : Finder) (last : Bool) (tokens : List Token)
    (meant : MeantForm) → form_fault part find last tokens meant ≡ None
    → NoFault part find tokens meant
no_fault_parts part find last tokens meant e =
    let a = unchosen (not (faults.may_stand (so_far_in part) meant)) _ _ e in
    let b = unchosen (faults.uses_unknown (is_known_name part.names find) meant) _ _ a.1 in
    let c = unchosen (faults.declares_again (so_far_in part) meant) _ _ b.1 in
    let d = unchosen (ranges.is_out_of_range tokens meant) _ _ c.1 in
    let f = unchosen (last && faults.leaves_open (so_far_in part) tokens) _ _ d.1 in
    let g = unchosen (faults.closes_nothing (so_far_in part) meant) _ _ f.1 in
    let h = unchosen (last && faults.lacks_thread (so_far_in part) tokens) _ _ g.1 in
    let i = unchosen (faults.is_too_many (so_far_in part) meant) _ _ h.1 in
    record {
      stands = not-false (faults.may_stand (so_far_in part) meant) a.0;
      known = b.0;
      fresh = c.0;
      in_range = d.0;
      closes = g.0;
      few = i.0;
    }

-- a first value of a line without a fault is one that an object may have
pub in_range_lawful : (tokens : List Token) (meant : MeantForm)
    → ranges.is_out_of_range tokens meant ≡ false → value_lawful meant ≡ true
in_range_lawful tokens (Valued kind name value) h = not-false (value_fits kind value) h
in_range_lawful tokens meant h = refl
