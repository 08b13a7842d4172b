-- The limit that the head tells is a number of steps.
use Rattle.std.proofs.Common.{◌≡◌, ℕ, ◌≤◌, List, [], ◌∷◌, Option, Some, None, Ok, refl, ap, arith}
use Rattle.pct_ask.specs.Pieces.{pieces_of}
use Rattle.trace_text.specs.reader.Heads.{limit_on_line}
use Rattle.trace_text.specs.reader.Reading.{head_value, head_line}
use Rattle.trace_text.proofs.Heads.{limit-told}
use Rattle.trace_text.proofs.reading.read.Goals as goal

limit-few : (pieces rest : List (List ℕ)) (limit : ℕ)
    → head_line 4 limit_on_line pieces ≡ Ok (limit, rest) → limit ≤ 100000
limit-few [] rest limit h = absurd cc
limit-few (piece ∷ []) rest limit h = absurd cc
limit-few (piece ∷ next ∷ pieces) rest limit h = by (limit_on_line piece) refl h
  where
    by : (read : Option ℕ) → limit_on_line piece ≡ read
        → head_value 4 read (next ∷ pieces) ≡ Ok (limit, rest) → limit ≤ 100000
    by None is h = absurd cc
    by (Some n) is h =
        let pair : ◌≡◌ {A = ℕ × List (List ℕ)} (n, next ∷ pieces) (limit, rest) = cc in
        let same : n ≡ limit = ap (λ p. p.0) pair in
        let fits = (limit-told piece n is).1 in
        omega (arith, same, fits.1)

pub read_body-requires : goal.read_body-requires
read_body-requires c =
    limit-few (pieces_of c.in_ok-points.rest.now) (pieces_of c.in_ok-limit.rest.now)
    c.in_ok-limit.limit c.in_ok-limit.ensures
