-- One more item of a list that numbers say.
use Rattle.std.proofs.Common.{◌≡◌, Option, Some, None, List, [], ◌∷◌, ◌++◌, refl, ap, ◌∙◌}
use Rattle.std.specs.Option.{option_map, option_and_then}
use Rattle.c_values.specs.Told.{all_said}

with-more : {T : Type 0} (first : Option T) (rest more : Option (List T)) (one : T)
    → ((xs : List T) → rest ≡ Some xs → more ≡ Some (xs ++ one ∷ [])) → (before : List T)
    → option_and_then (λ f. option_map (λ later. f ∷ later) rest) first ≡ Some before
    → option_and_then (λ f. option_map (λ later. f ∷ later) more) first ≡ Some (before ++ one ∷ [])
with-more None rest more one next before e = absurd cc
with-more (Some f) None more one next before e = absurd cc
with-more (Some f) (Some xs) more one next before e =
    ap (λ o. option_map (λ later. f ∷ later) o) (next xs refl)
    ∙ (let same : f ∷ xs ≡ before = cc in ap (λ l. Some (l ++ one ∷ [])) same)

pub one-more : {N T : Type 0} (said : N → Option T) (numbers : List N) (before : List T)
    (number : N) (one : T) → all_said said numbers ≡ Some before → said number ≡ Some one
    → all_said said (numbers ++ number ∷ []) ≡ Some (before ++ one ∷ [])
one-more said [] before number one all e =
    let none : [] ≡ before = cc in
    ap (λ o. option_and_then (λ f. option_map (λ later. f ∷ later) (Some [])) o) e
    ∙ ap (λ (l : List _). Some (l ++ one ∷ [])) none
one-more said (m ∷ ms) before number one all e =
    with-more (said m) (all_said said ms) (all_said said (ms ++ number ∷ [])) one
    (λ xs is. one-more said ms xs number one is e) before all
