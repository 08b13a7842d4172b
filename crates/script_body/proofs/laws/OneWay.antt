-- Code and a deal are those of a script in one way at most, so that a struct may keep it as a fact.
use mathlib.Core.Path.{◌≡◌, refl, sym, ap, ◌∙◌, subst⁻¹, subst⁻¹_refl, path_j'}
use Rattle.std.specs.Prelude.{ℕ, Bool, true, false, List, [], ◌∷◌}
use Rattle.std.specs.List.{list_all}
use Rattle.std.proofs.Props.{props}
use Rattle.pct_ask.specs.declared.deal.Deal.{Deal}
use Rattle.script_tree.specs.ScriptText.{ScriptText}
use Rattle.script_code.specs.Operations.{Operation, Do, Test, End, Begin}
use Rattle.script_code.specs.CodeOf.{goes_on, BeginsWhereHeld}
use Rattle.script_body.specs.Bodies.{AreOf}

module _ (line : ℕ) where
  -- the first operation is a beginning on this line, and no other one is a beginning
  abbrev BeginsOnce : List Operation → Type 0
  BeginsOnce [] = ⊥
  BeginsOnce (Do s next ∷ rest) = ⊥
  BeginsOnce (Test at test next otherwise ∷ rest) = ⊥
  BeginsOnce (End at ∷ rest) = ⊥
  BeginsOnce (Begin at next ∷ rest) = (at ≡ line) × (list_all goes_on rest ≡ true)

  begins_once-prop : (code : List Operation) → IsProp (BeginsOnce code)
  begins_once-prop [] = hlevel
  begins_once-prop (Do s next ∷ rest) = hlevel
  begins_once-prop (Test at test next otherwise ∷ rest) = hlevel
  begins_once-prop (End at ∷ rest) = hlevel
  begins_once-prop (Begin at next ∷ rest) = hlevel props

  -- either is made of the other, and one of the second is again what it was made of
  abbrev to_once : (code : List Operation) → BeginsWhereHeld true line code → BeginsOnce code
  to_once code (rest, next, is, goes) = subst⁻¹ BeginsOnce is (refl, goes)

  abbrev of_once : (code : List Operation) → BeginsOnce code → BeginsWhereHeld true line code
  of_once [] once = absurd once
  of_once (Do s next ∷ rest) once = absurd once
  of_once (Test at test next otherwise ∷ rest) once = absurd once
  of_once (End at ∷ rest) once = absurd once
  of_once (Begin at next ∷ rest) once =
      (rest, next, ap (λ (l : ℕ). Begin l next ∷ rest) once.0, once.1)

  same_held : (code : List Operation) (held : BeginsWhereHeld true line code)
      → of_once code (to_once code held) ≡ held
  same_held code (rest, next, is, goes) =
      path_j' (λ other same. of_once other (to_once other (rest, next, same, goes))
      ≡ (rest, next, same, goes))
      (ap (of_once (Begin line next ∷ rest))
      (subst⁻¹_refl BeginsOnce {x = Begin line next ∷ rest} (refl, goes))) is

  begins-prop : (held : Bool) (code : List Operation) → IsProp (BeginsWhereHeld held line code)
  begins-prop true code = λ one other.
      sym (same_held code one)
      ∙ ap (of_once code) (begins_once-prop code (to_once code one) (to_once code other))
      ∙ same_held code other
  begins-prop false code = hlevel props

pub are_of-prop : {script : ScriptText} {code : List (List Operation)} {deal : Deal}
    → IsProp (AreOf script code deal)
are_of-prop = hlevel (props, begins-prop)
