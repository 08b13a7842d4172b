-- Which threads a seat serves, after a cut and after a join.
use Rattle.std.proofs.Common.{◌≡◌, ℕ, ◌<◌, Bool, true, false, List, [], sym, refl, ◌∙◌, subst, ◌≢◌}
use Rattle.std.proofs.Common.{zero, suc, ◌⊎◌, ◌∷◌, get_or, set, replicate, ap, inl, inr, arith}
use Rattle.std.proofs.Common.{get_or-set_other}
use Rattle.std.proofs.lemmas.List.{get_or-set_same, length-replicate}
use Rattle.turn_lock.specs.Rule.{HasFlag, Serves}
use Rattle.turn_lock.specs.declared.view.View.{View}
use mathlib.Core.Logic.{dite}
use native.Mathlib.Decide.{ℕ_discrete}
use Rattle.turn_lock.specs.Seats.{seat_without, seat_of_one, flags_of_either, joined_seat}

pub not_both : (b : Bool) → b ≡ true → b ≡ false → ⊥
not_both b p q = let e : true ≡ false = sym p ∙ q in cc

-- no flags have a thread
pub none_has : {X : Type 0} (t : ℕ) → HasFlag [] t → X
none_has t h = absurd (not_both false h refl)

-- a view with the same flags serves the same threads
pub serves-along : (t : ℕ) (u v : View) → u.serves ≡ v.serves → Serves u t → Serves v t
serves-along t u v e h = subst (λ (l : List Bool). HasFlag l t) e h

-- ---- which threads the two parts serve
none-true : (n i : ℕ) → get_or (replicate n false) i false ≡ false
none-true zero i = refl
none-true (suc n) zero = refl
none-true (suc n) (suc i) = none-true n i

-- a seat cut off for a thread serves that thread alone
pub alone-one : (v : View) (t u : ℕ) → Serves (seat_of_one v t) u → u ≡ t
alone-one v t u h =
    dite (ℕ_discrete u t) (λ e. e) (λ ne. let other =
    get_or-set_other (replicate 64 false) t u true false ne in
    absurd (not_both (get_or (seat_of_one v t).serves u false) h (other ∙ none-true 64 u)))

unset : (l : List Bool) (i : ℕ) → get_or (set l i false) i false ≡ false
unset [] i = refl
unset (x ∷ l) zero = refl
unset (x ∷ l) (suc i) = unset l i

-- the rest of the seat serves each thread that it had, but that one
pub without-not : (v : View) (t u : ℕ) → Serves (seat_without v t) u → u ≢ t
without-not v t u h e =
    not_both (get_or (set v.serves t false) u false) h
    (ap (λ (n : ℕ). get_or (set v.serves t false) n false) e ∙ unset v.serves t)

pub without-had : (v : View) (t u : ℕ) → Serves (seat_without v t) u → Serves v u
without-had v t u h = sym (get_or-set_other v.serves t u false false (without-not v t u h)) ∙ h

pub alone-has : (v : View) (t : ℕ) → t < 64 → Serves (seat_of_one v t) t
alone-has v t below =
    get_or-set_same (replicate 64 false) t true false (omega (arith, length-replicate 64 false))

pub without-has : (v : View) (t u : ℕ) → u ≢ t → Serves v u → Serves (seat_without v t) u
without-has v t u apart here = get_or-set_other v.serves t u false false apart ∙ here

-- ---- which threads the joined seat serves
-- flags of both are those of the one and those of the other
pub either-serves : (xs ys : List Bool) (t : ℕ) → HasFlag (flags_of_either xs ys) t → HasFlag xs t
    ⊎ HasFlag ys t
either-serves [] ys t h = inr h
either-serves (x ∷ xs) [] t h = inl h
either-serves (true ∷ xs) (y ∷ ys) zero h = inl refl
either-serves (false ∷ xs) (y ∷ ys) zero h = inr h
either-serves (x ∷ xs) (y ∷ ys) (suc t) h = either-serves xs ys t h

pub serves-left : (xs ys : List Bool) (t : ℕ) → HasFlag xs t → HasFlag (flags_of_either xs ys) t
serves-left [] ys t h = absurd (not_both false h refl)
serves-left (x ∷ xs) [] t h = h
serves-left (true ∷ xs) (y ∷ ys) zero h = refl
serves-left (false ∷ xs) (y ∷ ys) zero h = absurd (not_both false h refl)
serves-left (x ∷ xs) (y ∷ ys) (suc t) h = serves-left xs ys t h

pub serves-right : (xs ys : List Bool) (t : ℕ) → HasFlag ys t → HasFlag (flags_of_either xs ys) t
serves-right [] ys t h = h
serves-right (x ∷ xs) [] t h = absurd (not_both false h refl)
serves-right (true ∷ xs) (y ∷ ys) zero h = refl
serves-right (false ∷ xs) (y ∷ ys) zero h = h
serves-right (x ∷ xs) (y ∷ ys) (suc t) h = serves-right xs ys t h

-- the joined seat serves the threads of both, and no other
pub joined-left : (a b w : View) (t : ℕ) → w ≡ joined_seat a b → Serves a t → Serves w t
joined-left a b w t is here =
    subst (λ (u : View). Serves u t) (sym is) (serves-left a.serves b.serves t here)

pub joined-right : (a b w : View) (t : ℕ) → w ≡ joined_seat a b → Serves b t → Serves w t
joined-right a b w t is here =
    subst (λ (u : View). Serves u t) (sym is) (serves-right a.serves b.serves t here)

pub joined-either : (a b w : View) (t : ℕ) → w ≡ joined_seat a b → Serves w t → Serves a t
    ⊎ Serves b t
joined-either a b w t is here =
    either-serves a.serves b.serves t (subst (λ (u : View). Serves u t) is here)
