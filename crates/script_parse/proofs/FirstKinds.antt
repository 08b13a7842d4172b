-- The first of several tests that holds.
use Rattle.std.proofs.Common.{◌≡◌, ℕ, zero, suc, ◌+◌, ◌<◌, ◌⊎◌, inl, inr, Bool, true, false, cond}
use Rattle.std.proofs.Common.{List, [], ◌∷◌, Option, Some, None, refl, sym, ap, ◌∙◌, arith}
use Rattle.std.proofs.lemmas.Bool.{cases_lt}
use Rattle.script_tree.specs.declared.fault.ScriptFault.{ScriptFault}
use Rattle.script_tree.specs.declared.fault.ScriptFault.TheVariants as kinds
use Rattle.script_tree.specs.Faults.{Place, IsFaulty, kind_rank}

-- a test that holds for a fault of a kind, and fails for none
abbrev pub Tells : Bool → Type 0 → Type 0
Tells b P = (b ≡ true → P) × (b ≡ false → ¬ P)

abbrev pub first_in : (ScriptFault → Bool) → List ScriptFault → Option ScriptFault
first_in test [] = None
first_in test (k ∷ ks) = cond (test k) (Some k) (first_in test ks)

abbrev pub in_order : List ScriptFault
in_order =
    kinds.NotUtf8 ∷ kinds.LineTooLong ∷ kinds.TooManyLines ∷ kinds.BadHeader ∷ kinds.BadToken
    ∷ kinds.BadStatement ∷ kinds.UnknownName ∷ kinds.TwiceNamed ∷ kinds.NumberRange ∷ kinds.NoEnd
    ∷ kinds.StrayEnd ∷ kinds.NoThread ∷ kinds.TooMany ∷ []

-- the line's own first fault is of this kind
pub record IsFirstKind (place : Place) (kind : ScriptFault) : Type 0 where
  pub faulty : IsFaulty kind place
  pub first : (other : ScriptFault) → kind_rank other < kind_rank kind → ¬ IsFaulty other place

-- none is no fault at all, and some kind is the first that the line has
abbrev pub IsFirst : Option ScriptFault → Place → Type 0
IsFirst None place = (kind : ScriptFault) → ¬ IsFaulty kind place
IsFirst (Some kind) place = IsFirstKind place kind

kind_at : ℕ → ScriptFault
kind_at zero = kinds.NotUtf8
kind_at (suc zero) = kinds.LineTooLong
kind_at (suc (suc zero)) = kinds.TooManyLines
kind_at (suc (suc (suc zero))) = kinds.BadHeader
kind_at (suc (suc (suc (suc zero)))) = kinds.BadToken
kind_at (suc (suc (suc (suc (suc zero))))) = kinds.BadStatement
kind_at (suc (suc (suc (suc (suc (suc zero)))))) = kinds.UnknownName
kind_at (suc (suc (suc (suc (suc (suc (suc zero))))))) = kinds.TwiceNamed
kind_at (suc (suc (suc (suc (suc (suc (suc (suc zero)))))))) = kinds.NumberRange
kind_at (suc (suc (suc (suc (suc (suc (suc (suc (suc zero))))))))) = kinds.NoEnd
kind_at (suc (suc (suc (suc (suc (suc (suc (suc (suc (suc zero)))))))))) = kinds.StrayEnd
kind_at (suc (suc (suc (suc (suc (suc (suc (suc (suc (suc (suc zero))))))))))) = kinds.NoThread
kind_at (suc (suc (suc (suc (suc (suc (suc (suc (suc (suc (suc (suc n)))))))))))) = kinds.TooMany

at_rank : (kind : ScriptFault) → kind_at (kind_rank kind) ≡ kind
unfolding kind_at
at_rank kinds.NotUtf8 = refl
at_rank kind = refl

rank_few : (kind : ScriptFault) → kind_rank kind < 13
rank_few kinds.NotUtf8 = omega arith
rank_few kind = omega arith

pub same_rank_kind : (a b : ScriptFault) → kind_rank a ≡ kind_rank b → a ≡ b
same_rank_kind a b e = sym (at_rank a) ∙ ap kind_at e ∙ at_rank b

-- these are the kinds from a rank on
abbrev AreFrom : ℕ → List ScriptFault → Type 0
AreFrom n [] = n ≡ 13
AreFrom n (k ∷ ks) = (kind_rank k ≡ n) × AreFrom (n + 1) ks

module _ (place : Place) (test : ScriptFault → Bool)
    (tells : (kind : ScriptFault) → Tells (test kind) (IsFaulty kind place)) where
  below_next : (n : ℕ) (k : ScriptFault) → kind_rank k ≡ n → test k ≡ false
      → ((o : ScriptFault) → kind_rank o < n → test o ≡ false) → (o : ScriptFault)
      → kind_rank o < n + 1 → test o ≡ false
  below_next n k e f before o h = elim (split (kind_rank o) n h) [
    | inl low ↦ before o low
    | inr same ↦ ap test (same_rank_kind o k (same ∙ sym e)) ∙ f
  ]
    where
      split : (a b : ℕ) → a < b + 1 → (a < b) ⊎ (a ≡ b)
      split a b l = elim (cases_lt a b) [ inl low ↦ inl low | inr high ↦ inr (omega arith) ]

  by_test : (b : Bool) (k : ScriptFault) (ks : List ScriptFault) (n : ℕ) → kind_rank k ≡ n
      → ((o : ScriptFault) → kind_rank o < n → test o ≡ false) → test k ≡ b
      → (test k ≡ false → IsFirst (first_in test ks) place)
      → IsFirst (cond b (Some k) (first_in test ks)) place
  by_test true k ks n e before h rest = record {
    faulty = (tells k).0 h;
    first = λ other r.
        (tells other).1 (before other (omega (arith, r, e)));
  }
  by_test false k ks n e before h rest = rest h

  first_from : (ks : List ScriptFault) (n : ℕ) → AreFrom n ks
      → ((o : ScriptFault) → kind_rank o < n → test o ≡ false) → IsFirst (first_in test ks) place
  first_from [] n e before = λ kind. (tells kind).1 (before kind (omega (arith, rank_few kind, e)))
  first_from (k ∷ ks) n e before =
      by_test (test k) k ks n e.0 before refl
      (λ h. first_from ks (n + 1) e.1 (below_next n k e.0 h before))

  -- the first test that holds is the line's first fault
  pub is_first : IsFirst (first_in test in_order) place
  is_first =
      first_from in_order 0 (
        refl,
        (
          refl,
          (
            refl,
            (
              refl,
              (
                refl,
                (
                  refl,
                  (
                    refl,
                    (refl, (refl, (refl, (refl, (refl, (refl, refl)))))),
                  ),
                ),
              ),
            ),
          ),
        ),
      )
      (λ o h. absurd (omega (arith, h)))
