-- Places of which something holds, read from bits, one after another.
use Rattle.std.proofs.Common.{◌≡◌, ◌≢◌, ◌<◌, ◌≤◌, ◌+◌, ◌/◌, ◌%◌, ◌^◌, ◌==◌, ◌↔◌, ℕ, List, []}
use Rattle.std.proofs.Common.{◌∷◌, refl, ap, sym, subst, ◌∙◌, drop, get_or, length, arith, All}
use Rattle.std.proofs.Common.{Bool, not, true, false, if◌then◌else◌, Some, None}
use Rattle.std.proofs.Math.Nat.{pow-suc}
use Rattle.std.specs.Cmp.{unsigned_Decides}
use Rattle.std.proofs.lemmas.Bool.Decides.{eqb_tells}
use Rattle.std.proofs.lemmas.List.{at_drop_more, at_drop_all}
use Rattle.std.proofs.lemmas.List.Elements.{All-nil, All-cons, All-head, All-tail}
use Rattle.pct_ask.specs.Places.{places_from, known_lines}

-- the places that are left from a thread on
abbrev pub rest_of : ℕ → ℕ → List ℕ → List (ℕ × ℕ)
rest_of thread bits lines = places_from thread (known_lines bits lines)

set_here : (thread bits line : ℕ) (lines : List ℕ) → bits % 2 ≡ 1
    → rest_of thread bits (line ∷ lines) ≡ (thread, line) ∷ rest_of (thread + 1) (bits / 2) lines
set_here thread bits line lines h =
    let odd : (bits % 2 == 1) ≡ true = grind (arith, eqb_tells) in
    ap (λ (test : Bool). places_from thread
    ((if test then Some line else None) ∷ known_lines (bits / 2) lines)) odd

unset_here : (thread bits line : ℕ) (lines : List ℕ) → bits % 2 ≢ 1
    → rest_of thread bits (line ∷ lines) ≡ rest_of (thread + 1) (bits / 2) lines
unset_here thread bits line lines h =
    let even : (bits % 2 == 1) ≡ false = grind (arith, eqb_tells) in
    ap (λ (test : Bool). places_from thread
    ((if test then Some line else None) ∷ known_lines (bits / 2) lines)) even

-- where the bit is set and it holds of the place, the others are left
pub next_set : (P : ℕ × ℕ → Type 0) (thread bits : ℕ) (lines : List ℕ) → thread < length lines
    → bits % 2 ≡ 1 → P (thread, get_or lines thread 0)
    → (All P (rest_of thread bits (drop thread lines))
    ↔ All P (rest_of (thread + 1) (bits / 2) (drop (thread + 1) lines)))
next_set P thread bits lines within odd here =
    let line = get_or lines thread 0 in
    let later = rest_of (thread + 1) (bits / 2) (drop (thread + 1) lines) in
    let e = at_drop_more (rest_of thread bits) lines thread 0 within
    ∙ set_here thread bits line (drop (thread + 1) lines) odd in (
      λ all. All-tail P (thread, line) later (subst (λ places. All P places) e all),
      λ all. subst (λ places. All P places) (sym e) (All-cons P (thread, line) later here all),
    )

-- where it doesn't hold of the place, it doesn't of all
pub not_here : (P : ℕ × ℕ → Type 0) (thread bits : ℕ) (lines : List ℕ) → thread < length lines
    → bits % 2 ≡ 1 → ¬ P (thread, get_or lines thread 0)
    → ¬ All P (rest_of thread bits (drop thread lines))
not_here P thread bits lines within odd wrong all =
    let line = get_or lines thread 0 in
    let later = rest_of (thread + 1) (bits / 2) (drop (thread + 1) lines) in
    let e = at_drop_more (rest_of thread bits) lines thread 0 within
    ∙ set_here thread bits line (drop (thread + 1) lines) odd in
    wrong (All-head P (thread, line) later (subst (λ places. All P places) e all))

pub next_unset : (P : ℕ × ℕ → Type 0) (thread bits : ℕ) (lines : List ℕ) → thread < length lines
    → bits % 2 ≢ 1
    → (All P (rest_of thread bits (drop thread lines))
    ↔ All P (rest_of (thread + 1) (bits / 2) (drop (thread + 1) lines)))
next_unset P thread bits lines within even =
    let line = get_or lines thread 0 in
    let e = at_drop_more (rest_of thread bits) lines thread 0 within
    ∙ unset_here thread bits line (drop (thread + 1) lines) even in (
      λ all. subst (λ places. All P places) e all,
      λ all. subst (λ places. All P places) (sym e) all,
    )

pub none_left : (P : ℕ × ℕ → Type 0) (thread bits : ℕ) (lines : List ℕ) → length lines ≤ thread
    → All P (rest_of thread bits (drop thread lines))
none_left P thread bits lines end =
    let e = at_drop_all (rest_of thread bits) lines thread end in
    subst (λ places. All P places) (sym e) (All-nil P)

pub both : {A B C : Type 0} → (A ↔ B) → (B ↔ C) → (A ↔ C)
both p q = (λ a. q.0 (p.0 a), λ c. p.1 (q.1 c))

-- no place where no bit is set
pub no_bits : (thread : ℕ) (lines : List ℕ) → rest_of thread 0 lines ≡ []
no_bits thread [] = refl
no_bits thread (line ∷ lines) =
    unset_here thread 0 line lines (λ (h : 0 ≡ 1). absurd (omega (arith, h)))
    ∙ no_bits (thread + 1) lines

some_step : (thread bits line : ℕ) (lines : List ℕ) → bits ≢ 0
    → (bits / 2 ≢ 0 → 0 < length (rest_of (thread + 1) (bits / 2) lines)) → (odd : Bool)
    → (bits % 2 == 1) ≡ odd → 0 < length (rest_of thread bits (line ∷ lines))
some_step thread bits line lines some left true e =
    let odd = (unsigned_Decides (bits % 2) 1).0 e in
    omega (arith, ap length (set_here thread bits line lines odd))
some_step thread bits line lines some left false e =
    let even : bits % 2 ≢ 1 = grind (arith, eqb_tells) in
    let more : bits / 2 ≢ 0 = λ h. some (omega (arith, h, even)) in
    omega (arith, left more, ap length (unset_here thread bits line lines even))

-- some place where a bit is set
pub some_bit : (thread bits : ℕ) (lines : List ℕ) → bits < 2 ^ length lines → bits ≢ 0
    → 0 < length (rest_of thread bits lines)
some_bit thread bits [] few some = absurd (some (omega (arith, few)))
some_bit thread bits (line ∷ lines) few some =
    let fewer : bits / 2 < 2 ^ length lines = omega (arith, few, pow-suc 2 (length lines)) in
    some_step thread bits line lines some
    (λ left. some_bit (thread + 1) (bits / 2) lines fewer left)
    (bits % 2 == 1) refl

pub never : false ≡ true → ⊥
never t = cc

pub zero_bits : (bits : ℕ) → bits ≡ 0 → not (bits == 0) ≡ true → ⊥
zero_bits bits e t =
    let zero_is : (bits == 0) ≡ true = grind (arith, eqb_tells) in
    never (subst (λ (b : Bool). not b ≡ true) zero_is t)
