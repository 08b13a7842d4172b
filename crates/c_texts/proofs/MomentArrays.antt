-- Moments written into an array, one after another.
use Rattle.std.proofs.Common.{◌≡◌, ◌<◌, ◌+◌, ℕ, List, [], ◌∷◌, ◌++◌, length, take, set, get_or, map}
use Rattle.std.proofs.Common.{ap, sym, ◌∙◌}
use Rattle.std.proofs.lemmas.List.{take_more, take_more_set, map_push}
use Rattle.rank_now.specs.declared.moment.Moment.{Moment}
use Rattle.c_values.specs.declared.moment.PctMoment.{PctMoment}
use Rattle.c_values.specs.Moments.{moment_numbers}

pub one_more : (numbers : List PctMoment) (moments : List Moment) (i : ℕ) (x : PctMoment)
    (none : Moment) → i < length numbers → i < length moments
    → take i numbers ≡ map moment_numbers (take i moments)
    → x ≡ moment_numbers (get_or moments i none)
    → take (i + 1) (set numbers i x) ≡ map moment_numbers (take (i + 1) moments)
one_more numbers moments i x none room within e f =
    let m = get_or moments i none in
    take_more_set numbers i x room
    ∙ (ap (λ ms. ms ++ x ∷ []) e
    ∙ (ap (λ y. map moment_numbers (take i moments) ++ y ∷ []) f
    ∙ (sym (map_push moment_numbers (take i moments) m)
    ∙ ap (λ ms. map moment_numbers ms) (sym (take_more moments i none within)))))
