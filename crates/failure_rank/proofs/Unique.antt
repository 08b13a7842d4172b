-- There is one ranking.
use Rattle.std.proofs.Common.{◌≡◌, ℕ, suc, zero, ◌<◌, ◌⊎◌, inl, inr, ⊎_elim, List, [], ◌∷◌, length}
use Rattle.std.proofs.Common.{get_or, refl, sym, subst, ◌∙◌, arith}
use Rattle.std.specs.List.{All, AllPairs, Contains}
use Rattle.std.proofs.lemmas.List.Elements.{All-contains}
use Rattle.pct_ask.specs.declared.event.Row.{Row}
use Rattle.failure_rank.specs.Groups.{RanksBefore, MoreOften, Shorter, Lower, Earlier}
use Rattle.failure_rank.specs.declared.group.Group.{Group}
use Rattle.failure_rank.proofs.Counting.{pair_tail, pair_head}

pub not_both : (rows : List Row) (a b : Group) → RanksBefore rows a b → RanksBefore rows b a → ⊥
not_both rows a b (MoreOften h) (MoreOften k) = omega arith
not_both rows a b (MoreOften h) (Shorter e k) = omega arith
not_both rows a b (MoreOften h) (Lower e f k) = omega arith
not_both rows a b (MoreOften h) (Earlier e f g k) = omega arith
not_both rows a b (Shorter e h) (MoreOften k) = omega arith
not_both rows a b (Shorter e h) (Shorter f k) = omega arith
not_both rows a b (Shorter e h) (Lower f g k) = omega arith
not_both rows a b (Shorter e h) (Earlier f g i k) = omega arith
not_both rows a b (Lower e f h) (MoreOften k) = omega arith
not_both rows a b (Lower e f h) (Shorter g k) = omega arith
not_both rows a b (Lower e f h) (Lower g i k) = omega arith
not_both rows a b (Lower e f h) (Earlier g i j k) = omega arith
not_both rows a b (Earlier e f g h) (MoreOften k) = omega arith
not_both rows a b (Earlier e f g h) (Shorter i k) = omega arith
not_both rows a b (Earlier e f g h) (Lower i j k) = omega arith
not_both rows a b (Earlier e f g h) (Earlier i j l k) = omega arith

here : {X : Type 0} (x : X) (xs : List X) → Contains (x ∷ xs) x
here x xs = (0, omega arith, refl)

later : {X : Type 0} (x : X) (xs : List X) (y : X) → Contains xs y → Contains (x ∷ xs) y
later x xs y h = (suc h.0, omega (arith, h.1), h.2)

cases : {X : Type 0} (x : X) (xs : List X) (y : X) → Contains (x ∷ xs) y → (x ≡ y) ⊎ Contains xs y
cases {X} x xs y h = at h.0 h.1 h.2
  where
    at : (k : ℕ) → k < length (x ∷ xs) → get_or (x ∷ xs) k y ≡ y → (x ≡ y) ⊎ Contains xs y
    at zero below is = inl is
    at (suc k) below is = inr (k, omega arith, is)

none : {X : Type 0} (y : X) → Contains {X = X} [] y → ⊥
none y h = omega (arith, h.1)

module _ {X : Type 0} (R : X → X → Type 0) (one_way : (a b : X) → R a b → R b a → ⊥) where
  -- what stands in two lists, each of which is in order, comes first in both
  same_head : (a : X) (xs : List X) (b : X) (ys : List X) → All (R a) xs → All (R b) ys
      → Contains (b ∷ ys) a → Contains (a ∷ xs) b → a ≡ b
  same_head a xs b ys before_xs before_ys has_a has_b =
      ⊎_elim (λ (e : b ≡ a). sym e)
      (λ in_ys. ⊎_elim (λ (e : a ≡ b). e)
      (λ in_xs. absurd (one_way a b (All-contains (R a) xs b before_xs in_xs)
      (All-contains (R b) ys a before_ys in_ys))) (cases a xs b has_b))
      (cases b ys a has_a)

  rest_has : (a : X) (xs : List X) (b : X) (ys : List X) → a ≡ b → All (R a) xs
      → ((x : X) → Contains (a ∷ xs) x → Contains (b ∷ ys) x) → (x : X) → Contains xs x
      → Contains ys x
  rest_has a xs b ys e before has x in_xs =
      ⊎_elim (λ (is : b ≡ x). let self =
      subst (R a) (sym (e ∙ is)) (All-contains (R a) xs x before in_xs) in
      absurd (one_way a a self self)) (λ in_ys. in_ys)
      (cases b ys x (has x (later a xs x in_xs)))

  pub same_lists : (xs ys : List X) → AllPairs R xs → AllPairs R ys
      → ((x : X) → Contains xs x → Contains ys x) → ((x : X) → Contains ys x → Contains xs x)
      → xs ≡ ys
  same_lists [] [] p q to from = refl
  same_lists [] (b ∷ ys) p q to from = absurd (none b (from b (here b ys)))
  same_lists (a ∷ xs) [] p q to from = absurd (none a (to a (here a xs)))
  same_lists (a ∷ xs) (b ∷ ys) p q to from =
      let e : a ≡ b = same_head a xs b ys (pair_head R a xs p) (pair_head R b ys q)
      (to a (here a xs)) (from b (here b ys)) in
      let rest : xs ≡ ys = same_lists xs ys (pair_tail R a xs p) (pair_tail R b ys q)
      (rest_has a xs b ys e (pair_head R a xs p) to)
      (rest_has b ys a xs (sym e) (pair_head R b ys q) from) in
      cc
