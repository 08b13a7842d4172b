-- The greatest number of which something holds.
use Rattle.std.proofs.Common.{◌≡◌, ◌≢◌, ℕ, ◌+◌, ◌≤◌, max, List, get_or, Option, Some, None, refl}
use Rattle.std.proofs.Common.{sym, subst, arith, inl, inr, ◌⊎◌}
use Rattle.std.proofs.lemmas.Bool.{cases_lt}
use Rattle.std.proofs.Math.Nat.{le-max_left, le-max_right}
use Rattle.hb_race.specs.declared.history.LastAccess.{LastAccess}
use Rattle.hb_race.specs.Lasts.{IsGreatest, IsUntold, IsLatest, later, untold_step}
use Rattle.hb_race.proofs.Numbers.{max-within}

-- the same found number is the greatest of which something else holds, that holds wherever the
-- first does, and nowhere
-- above all of it
pub greatest-like : (P Q : ℕ → Type 0) (o : Option ℕ) → ((k : ℕ) → P k → Q k)
    → ((k : ℕ) → Q k → (m : ℕ) × (k ≤ m) × P m) → IsGreatest P o → IsGreatest Q o
greatest-like P Q None to back none = λ k q. let at = back k q in none at.0 at.2
greatest-like P Q (Some most) to back is = (
  to most is.0,
  λ k q. let at = back k q in let a = at.1 in let b = is.1 at.0 at.2 in omega arith,
)

pub greatest-some : (o : Option ℕ) → IsGreatest (λ k. o ≡ Some k) o
greatest-some None = λ k e. absurd cc
greatest-some (Some most) = (refl, λ k e. let same : most ≡ k = cc in omega arith)

max-is : (m n : ℕ) → (max m n ≡ m) ⊎ (max m n ≡ n)
max-is m n = elim (cases_lt m n) [
  | inl low ↦ let a = max-within n m n (omega arith) (omega arith) in let b = le-max_right m n in
      inr (omega arith)
  | inr high ↦ let a = max-within m m n (omega arith) (omega arith) in let b = le-max_left m n in
      inl (omega arith)
]

pub later-greatest : (P Q : ℕ → Type 0) (a b : Option ℕ) → IsGreatest P a → IsGreatest Q b
    → IsGreatest (λ k. P k ⊎ Q k) (later a b)
later-greatest P Q None None p q = λ k h. elim h [ inl l ↦ p k l | inr r ↦ q k r ]
later-greatest P Q None (Some n) p q =
    (inr q.0, λ k h. elim h [ inl l ↦ absurd (p k l) | inr r ↦ q.1 k r ])
later-greatest P Q (Some m) None p q =
    (inl p.0, λ k h. elim h [ inl l ↦ p.1 k l | inr r ↦ absurd (q k r) ])
later-greatest P Q (Some m) (Some n) p q = (
  elim (max-is m n) [ inl e ↦ inl (subst P (sym e) p.0) | inr e ↦ inr (subst Q (sym e) q.0) ],
  λ k h. let l = le-max_left m n in let r = le-max_right m n in elim h [
    | inl x ↦ let a = p.1 k x in omega arith
    | inr y ↦ let a = q.1 k y in omega arith
  ],
)

-- ---- the search over threads
further : (lasts : List (Option LastAccess)) (thread : ℕ) (clock : List ℕ) (k step : ℕ)
    → IsUntold lasts thread clock k step → IsUntold lasts thread clock (k + 1) step
further lasts thread clock k step at = (at.0, (let low = at.1 in omega arith), at.2, at.3)

-- one more thread's last access
pub latest-next : (lasts : List (Option LastAccess)) (thread : ℕ) (clock : List ℕ) (k : ℕ)
    (latest : Option ℕ) → k ≢ thread → IsLatest lasts thread clock k latest
    → IsLatest lasts thread clock (k + 1)
    (later latest (untold_step (get_or lasts k None) (get_or clock k 0)))
latest-next lasts thread clock k latest apart is =
    let one = untold_step (get_or lasts k None) (get_or clock k 0) in
    let Old : ℕ → Type 0 = IsUntold lasts thread clock k in
    let New : ℕ → Type 0 = λ step. one ≡ Some step in
    greatest-like (λ step. Old step ⊎ New step) (IsUntold lasts thread clock (k + 1))
    (later latest one)
    (λ step h. elim h [
      | inl old ↦ further lasts thread clock k step old
      | inr new ↦ (k, omega arith, apart, new)
    ])
    (λ step at. (
      step,
      omega arith,
      elim (cases_lt at.0 k) [
        | inl low ↦ inl (at.0, low, at.2, at.3)
        | inr high ↦
            let same : at.0 ≡ k = (let low = at.1 in omega arith) in
            inr (subst (λ u. untold_step (get_or lasts u None) (get_or clock u 0) ≡ Some step) same
            at.3)
      ],
    ))
    (later-greatest Old New latest one is (greatest-some one))

-- the thread's own is passed over
pub latest-own : (lasts : List (Option LastAccess)) (thread : ℕ) (clock : List ℕ) (k : ℕ)
    (latest : Option ℕ) → k ≡ thread → IsLatest lasts thread clock k latest
    → IsLatest lasts thread clock (k + 1) latest
latest-own lasts thread clock k latest same is =
    greatest-like (IsUntold lasts thread clock k) (IsUntold lasts thread clock (k + 1)) latest
    (λ step at. further lasts thread clock k step at)
    (λ step at. (
      step,
      omega arith,
      (
        at.0,
        (let low = at.1 in let apart = at.2 in
            elim (cases_lt at.0 k) [ inl h ↦ h | inr h ↦ absurd (apart (omega arith)) ]),
        at.2,
        at.3,
      ),
    ))
    is
