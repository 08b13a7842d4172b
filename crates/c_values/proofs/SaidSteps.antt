-- A list read from numbers, one after another.
use Rattle.std.proofs.Common.{◌≡◌, Option, Some, None, List, [], ◌∷◌, ◌++◌, refl, ap, sym, ◌∙◌}
use Rattle.std.proofs.Common.{append_assoc, length, suc}
use Rattle.std.specs.Option.{option_map, option_and_then}
use Rattle.c_values.specs.Told.{all_said}

-- what the numbers that are left say, behind what was read
abbrev pub with_rest : {N T : Type 0} → (N → Option T) → List T → List N → Option (List T)
with_rest said before numbers = option_map (λ rest. before ++ rest) (all_said said numbers)

moved : {T : Type 0} (before : List T) (one : T) (rest : Option (List T))
    → option_map (λ later. before ++ later) (option_map (λ later. one ∷ later) rest)
    ≡ option_map (λ later. (before ++ one ∷ []) ++ later) rest
moved before one None = refl
moved before one (Some later) = ap Some (sym (append_assoc before (one ∷ []) later))

pub one_read : {N T : Type 0} (said : N → Option T) (before : List T) (number : N)
    (others : List N) (one : T) → said number ≡ Some one
    → with_rest said before (number ∷ others) ≡ with_rest said (before ++ one ∷ []) others
one_read said before number others one e =
    ap (λ read. option_map (λ later. before ++ later)
    (option_and_then (λ first. option_map (λ later. first ∷ later) (all_said said others)) read)) e
    ∙ moved before one (all_said said others)

longer : {T : Type 0} (one : T) (rest : Option (List T)) (read : List T)
    → option_map (λ later. one ∷ later) rest ≡ Some read
    → (others : List T) × ((rest ≡ Some others) × (read ≡ one ∷ others))
longer one None read e = absurd cc
longer one (Some others) read e = (others, (refl, cc))

first_said : {T : Type 0} (first : Option T) (rest : Option (List T)) (read : List T)
    → option_and_then (λ one. option_map (λ later. one ∷ later) rest) first ≡ Some read
    → (one : T) × ((others : List T) × ((rest ≡ Some others) × (read ≡ one ∷ others)))
first_said None rest read e = absurd cc
first_said (Some one) rest read e =
    let found = longer one rest read e in (one, found)

-- there are as many as numbers
pub length-said : {N T : Type 0} (said : N → Option T) (numbers : List N) (read : List T)
    → all_said said numbers ≡ Some read → length read ≡ length numbers
length-said said [] read e = let f : read ≡ [] = cc in ap length f
length-said said (number ∷ others) read e =
    let found = first_said (said number) (all_said said others) read e in
    ap length found.1.1.1
    ∙ ap (λ n. suc n) (length-said said others found.1.0 found.1.1.0)
