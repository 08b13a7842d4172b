-- A test of the words is a test of what they hold.
use Rattle.std.specs.Prelude.{map}
use Rattle.std.specs.List.{list_any}
use Rattle.std.specs.Str.{bytes_eq}
use Rattle.std.proofs.Common.{◌≡◌, ℕ, ◌||◌, List, [], ◌∷◌, Bor, refl, ap, ◌∙◌}
use Rattle.pct_ask.specs.Words.{is_among}
use Rattle.pct_ask.proofs.words.is_among.Goals as goal

any-held : (word : List ℕ) (words : List (Bor (List ℕ)))
    → list_any (λ other. bytes_eq word other.now) words ≡ is_among word
    (map (λ other. other.now) words)
any-held word [] = refl
any-held word (other ∷ others) = ap (λ b. bytes_eq word other.now || b) (any-held word others)

pub returns : goal.returns
returns c =
    c.holds_word.ensures ∙ any-held c.args.word.now c.args.words.now
