-- Words behind spaces, joined to a line.
use Rattle.std.proofs.Common.{◌≡◌, ℕ, List, [], ◌∷◌, ◌++◌, length, ◌≤◌, take, map, sym, ap}
use Rattle.std.proofs.Common.{◌∙◌, append_assoc}
use Rattle.std.proofs.lemmas.List.{take_all}
use Rattle.pct_ask.specs.TraceText.{line_text}
use Rattle.trace_text.specs.Spaced.{behind_spaces}
use Rattle.trace_text.proofs.laws.Spaced.{join-spaced, spaced-append}

pub line-spaced : (old word : List ℕ) (words : List (List ℕ))
    → (old ++ (word ++ behind_spaces words)) ++ 10 ∷ [] ≡ old ++ line_text (word ∷ words)
line-spaced old word words =
    append_assoc old (word ++ behind_spaces words) (10 ∷ [])
    ∙ ap (λ (line : List ℕ). old ++ (line ++ 10 ∷ [])) (sym (join-spaced word words))

pub line-of-four : (old a b c d : List ℕ)
    → (((((old ++ a) ++ 32 ∷ b) ++ 32 ∷ c) ++ 32 ∷ d) ++ 10 ∷ [])
    ≡ old ++ line_text (a ∷ b ∷ c ∷ d ∷ [])
line-of-four old a b c d = simp append_assoc

pub line-of-five : (old a b c d e : List ℕ)
    → ((((((old ++ a) ++ 32 ∷ b) ++ 32 ∷ c) ++ 32 ∷ d) ++ 32 ∷ e) ++ 10 ∷ [])
    ≡ old ++ line_text (a ∷ b ∷ c ∷ d ∷ e ∷ [])
line-of-five old a b c d e =
    ap (λ (line : List ℕ). line ++ 10 ∷ [])
    (append_assoc (((old ++ a) ++ 32 ∷ b) ++ 32 ∷ c) (32 ∷ d) (32 ∷ e))
    ∙ line-of-four old a b c (d ++ 32 ∷ e)

-- a list of words that was gone through to its end
pub line-of-all : {X : Type 0} (f : X → List ℕ) (old word now after : List ℕ) (xs : List X) (i : ℕ)
    → length xs ≤ i → now ≡ old ++ (word ++ behind_spaces (map f (take i xs)))
    → after ≡ now ++ 10 ∷ []
    → after ≡ old ++ line_text (word ∷ map f xs)
line-of-all f old word now after xs i past is ends =
    ends ∙ ap (λ (line : List ℕ). line ++ 10 ∷ [])
    (is ∙ ap (λ (ys : List _). old ++ (word ++ behind_spaces (map f ys))) (take_all i xs past))
    ∙ line-spaced old word (map f xs)

-- the words behind an order's names, joined to its line
five-parts : (old word words head more : List ℕ)
    → (((old ++ word) ++ words) ++ 32 ∷ []) ++ ((head ++ more) ++ 10 ∷ [])
    ≡ (old ++ (word ++ (words ++ ((32 ∷ head) ++ more)))) ++ 10 ∷ []
five-parts old word words head more = simp append_assoc

pub line-of-two : (old word : List ℕ) (words : List (List ℕ)) (head : List ℕ) (more : List (List ℕ))
    → (((old ++ word) ++ behind_spaces words) ++ 32 ∷ []) ++ line_text (head ∷ more)
    ≡ old ++ line_text (word ∷ (words ++ head ∷ more))
line-of-two old word words head more =
    ap (λ (line : List ℕ). (((old ++ word) ++ behind_spaces words) ++ 32 ∷ []) ++ (line ++ 10 ∷ []))
    (join-spaced head more)
    ∙ five-parts old word (behind_spaces words) head (behind_spaces more)
    ∙ ap (λ (rest : List ℕ). (old ++ (word ++ rest)) ++ 10 ∷ [])
    (sym (spaced-append words (head ∷ more)))
    ∙ line-spaced old word (words ++ head ∷ more)

-- the same where two words stand at its head
pub two-words : (old first second rest : List ℕ)
    → (old ++ (first ++ 32 ∷ second)) ++ rest ≡ (old ++ first) ++ ((32 ∷ second) ++ rest)
two-words old first second rest = simp append_assoc

-- a list that was gone through to its end
pub all-spaced : {X : Type 0} (f : X → List ℕ) (old now : List ℕ) (xs : List X) (i : ℕ)
    → length xs ≤ i → now ≡ old ++ behind_spaces (map f (take i xs))
    → now ≡ old ++ behind_spaces (map f xs)
all-spaced f old now xs i past is =
    is ∙ ap (λ (ys : List _). old ++ behind_spaces (map f ys)) (take_all i xs past)
