-- The first comma of the code's tokens is that of the language's.
use Rattle.std.proofs.Common.{◌≡◌, ℕ, zero, suc, ◌+◌, cond, not, List, [], ◌∷◌, take, drop, Some}
use Rattle.std.proofs.Common.{refl, sym, ap, ◌∙◌, add-one}
use Rattle.std.specs.List.{position, prefix_len}
use Rattle.std.proofs.Math.Seq.{drop-nil}
use Rattle.std.proofs.lemmas.List.{take-map, drop-map, length-map}
use Rattle.pct_ask.specs.Tokens as language
use Rattle.script_parse.specs.declared.token.Token.{Token}
use Rattle.script_parse.specs.Seen.{seen, all_seen}
use Rattle.script_parse.specs.Saying.{is_comma, parts_at}

prefix_seen : (tokens : List Token)
    → prefix_len (λ t. not (is_comma t)) (all_seen tokens)
    ≡ prefix_len (λ t. not (is_comma (seen t))) tokens
prefix_seen [] = refl
prefix_seen (token ∷ tokens) =
    ap (λ (n : ℕ). cond (not (is_comma (seen token))) (1 + n) 0) (prefix_seen tokens)

pub position_seen : (tokens : List Token)
    → position is_comma (all_seen tokens) ≡ position (λ t. is_comma (seen t)) tokens
position_seen tokens = rw (prefix_seen tokens, length-map) refl

nothing_is : (token : Token) (more : List Token) → ◌≡◌ {A = List Token} [] (token ∷ more) → ⊥
nothing_is token more e = cc

some_parts : (place : ℕ) (tokens old new : List language.Token) → take place tokens ≡ old
    → drop (place + 1) tokens ≡ new → parts_at (Some place) tokens ≡ Some (old, new)
some_parts place tokens old new f b = rw (f, b) refl

drop_suc : (tokens : List Token) (place : ℕ) (token : Token) (more : List Token)
    → drop place tokens ≡ token ∷ more → drop (suc place) tokens ≡ more
drop_suc [] place token more e = absurd (let f = rw drop-nil at e in nothing_is token more f)
drop_suc (t ∷ ts) zero token more e = cc
drop_suc (t ∷ ts) (suc n) token more e = drop_suc ts n token more e

drop_more : (tokens : List Token) (place : ℕ) (token : Token) (more : List Token)
    → drop place tokens ≡ token ∷ more → drop (place + 1) tokens ≡ more
drop_more tokens place token more e = rw add-one (drop_suc tokens place token more e)

-- the parts before and behind the first comma
pub parts_seen : (values old new behind : List Token) (comma : Token) (place : ℕ)
    → Some place ≡ position (λ t. is_comma (seen t)) values → old ≡ take place values
    → behind ≡ drop place values → behind ≡ comma ∷ new
    → parts_at (position is_comma (all_seen values)) (all_seen values)
    ≡ Some (all_seen old, all_seen new)
parts_seen values old new behind comma place found front back cut =
    rw (position_seen values, ← found)
    (some_parts place (all_seen values) (all_seen old) (all_seen new)
    (take-map seen place values ∙ ap all_seen (sym front))
    (drop-map seen (place + 1) values
    ∙ ap all_seen (drop_more values place comma new (sym back ∙ cut))))
