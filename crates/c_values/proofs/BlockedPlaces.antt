-- Blocked threads read from bits, one after another.
use Rattle.std.proofs.Common.{◌≡◌, ◌≢◌, ◌<◌, ◌≤◌, ◌+◌, ◌/◌, ◌%◌, ◌==◌, ℕ, List, [], ◌∷◌, ◌++◌}
use Rattle.std.proofs.Common.{refl, ap, sym, ◌∙◌, append_assoc, append-nil, drop, get_or, length}
use Rattle.std.proofs.Common.{Bool, true, false, if◌then◌else◌, Some, None, All, arith}
use Rattle.std.proofs.lemmas.Bool.Decides.{eqb_tells}
use Rattle.std.proofs.lemmas.List.{at_drop_more, at_drop_all}
use Rattle.std.proofs.lemmas.List.Elements.{All-nil, All-push, All-same, All-weaker}
use Rattle.pct_ask.specs.Places.{places_from, known_lines}

-- the places that are left from a thread on, behind some that were read
abbrev pub with_rest : List (ℕ × ℕ) → ℕ → ℕ → List ℕ → List (ℕ × ℕ)
with_rest before thread bits lines = before ++ places_from thread (known_lines bits lines)

pub one_set : (before : List (ℕ × ℕ)) (thread bits line : ℕ) (lines : List ℕ) → bits % 2 ≡ 1
    → with_rest before thread bits (line ∷ lines)
    ≡ with_rest (before ++ (thread, line) ∷ []) (thread + 1) (bits / 2) lines
one_set before thread bits line lines h =
    let odd : (bits % 2 == 1) ≡ true = grind (arith, eqb_tells) in
    ap (λ (test : Bool). before ++ places_from thread
    ((if test then Some line else None) ∷ known_lines (bits / 2) lines)) odd
    ∙ sym (append_assoc before ((thread, line) ∷ [])
    (places_from (thread + 1) (known_lines (bits / 2) lines)))

pub one_unset : (before : List (ℕ × ℕ)) (thread bits line : ℕ) (lines : List ℕ) → bits % 2 ≢ 1
    → with_rest before thread bits (line ∷ lines) ≡ with_rest before (thread + 1) (bits / 2) lines
one_unset before thread bits line lines h =
    let even : (bits % 2 == 1) ≡ false = grind (arith, eqb_tells) in
    ap (λ (test : Bool). before ++ places_from thread
    ((if test then Some line else None) ∷ known_lines (bits / 2) lines)) even

-- one place more of a list of lines
pub next_set : (whole before after : List (ℕ × ℕ)) (thread bits : ℕ) (lines : List ℕ)
    → whole ≡ with_rest before thread bits (drop thread lines) → thread < length lines
    → bits % 2 ≡ 1 → after ≡ before ++ (thread, get_or lines thread 0) ∷ []
    → whole ≡ with_rest after (thread + 1) (bits / 2) (drop (thread + 1) lines)
next_set whole before after thread bits lines e here odd f =
    let line = get_or lines thread 0 in
    let later = drop (thread + 1) lines in
    let here_on = at_drop_more (with_rest before thread bits) lines thread 0 here in
    e ∙ (here_on ∙ (one_set before thread bits line later odd
    ∙ ap (λ read. with_rest read (thread + 1) (bits / 2) later) (sym f)))

pub next_unset : (whole before after : List (ℕ × ℕ)) (thread bits : ℕ) (lines : List ℕ)
    → whole ≡ with_rest before thread bits (drop thread lines) → thread < length lines
    → bits % 2 ≢ 1 → after ≡ before
    → whole ≡ with_rest after (thread + 1) (bits / 2) (drop (thread + 1) lines)
next_unset whole before after thread bits lines e here even f =
    let line = get_or lines thread 0 in
    let later = drop (thread + 1) lines in
    let here_on = at_drop_more (with_rest before thread bits) lines thread 0 here in
    e ∙ (here_on ∙ (one_unset before thread bits line later even
    ∙ ap (λ read. with_rest read (thread + 1) (bits / 2) later) (sym f)))

pub all_read : (whole before : List (ℕ × ℕ)) (thread bits : ℕ) (lines : List ℕ)
    → whole ≡ with_rest before thread bits (drop thread lines) → length lines ≤ thread
    → before ≡ whole
all_read whole before thread bits lines e end =
    sym (e ∙ (at_drop_all (with_rest before thread bits) lines thread end ∙ append-nil before))

pub none_below : (places : List (ℕ × ℕ)) (thread : ℕ) → places ≡ []
    → All (λ place. place.0 < thread) places
none_below places thread e =
    let below : ℕ × ℕ → Type 0 = λ place. place.0 < thread in
    All-same below places [] e (All-nil below)

pub below_kept : (before after : List (ℕ × ℕ)) (thread : ℕ)
    → All (λ place. place.0 < thread) before → after ≡ before
    → All (λ place. place.0 < thread + 1) after
below_kept before after thread below e =
    let next : ℕ × ℕ → Type 0 = λ place. place.0 < thread + 1 in
    All-same next after before e
    (All-weaker (λ (place : ℕ × ℕ). place.0 < thread) next (λ place h. omega arith) before below)

pub below_pushed : (before after : List (ℕ × ℕ)) (thread line : ℕ)
    → All (λ place. place.0 < thread) before → after ≡ before ++ (thread, line) ∷ []
    → All (λ place. place.0 < thread + 1) after
below_pushed before after thread line below e =
    let next : ℕ × ℕ → Type 0 = λ place. place.0 < thread + 1 in
    All-same next after (before ++ (thread, line) ∷ []) e
    (All-push next before (thread, line) (below_kept before before thread below refl) (omega arith))
