-- A step at a meeting keeps the rule.
use Rattle.std.proofs.Common.{◌≡◌, ◌≢◌, ℕ, zero, suc, ◌-◌, ◌<◌, ◌≤◌, ◌==◌, Bool, true, false, List}
use Rattle.std.proofs.Common.{[], ◌∷◌, ◌++◌, length, length-set, length-append, refl, ap, sym}
use Rattle.std.proofs.Common.{subst, ◌∙◌, arith, inl, inr, None, slice_set}
use Rattle.std.proofs.lemmas.Bool.Decides.{nat_tests}
use mathlib.Core.List.{IsPrefix}
use prog.Atomic.{either}
use Rattle.logbook.specs.Pages.{Cell, cell, keeps, no_nib, Goes, Moves, step}
use Rattle.pct_gate.specs.declared.happening.Happening.{Happening}
use Rattle.pct_gate.specs.declared.happening.Happening.TheVariants.{Came, Saw}
use Rattle.pct_gate.specs.Meeting.{HasHappening, MaySee, SawOther, WordTells, IsMeeting}
use Rattle.pct_gate.specs.Meeting.{MarksArrival, looks_of}

has_more : (xs ys : List Happening) (m : Happening) → HasHappening xs m → HasHappening (xs ++ ys) m
has_more [] ys m h = absurd h
has_more (x ∷ xs) ys m (inl e) = inl e
has_more (x ∷ xs) ys m (inr h) = inr (has_more xs ys m h)

has_last : (xs : List Happening) (m : Happening) → HasHappening (xs ++ m ∷ []) m
has_last [] m = inl refl
has_last (x ∷ xs) m = inr (has_last xs m)

-- what is in the longer list was in the shorter, or is new
has_before : (xs : List Happening) (x m : Happening) → (x ≡ m → ⊥) → HasHappening (xs ++ x ∷ []) m
    → HasHappening xs m
has_before [] x m new (inl e) = absurd (new e)
has_before [] x m new (inr h) = h
has_before (y ∷ xs) x m new (inl e) = inl e
has_before (y ∷ xs) x m new (inr h) = inr (has_before xs x m new h)

looks_more : (xs ys : List Happening) → 0 < length xs → looks_of (xs ++ ys) ≡ looks_of xs
looks_more [] ys h = absurd (omega arith)
looks_more (x ∷ xs) ys h = refl

pub has_later : (xs ys : List Happening) (m : Happening) → IsPrefix xs ys → HasHappening xs m
    → HasHappening ys m
has_later xs ys m p h = subst (λ zs. HasHappening zs m) p.1 (has_more xs p.0 m h)

looks_later : (xs ys : List Happening) → IsPrefix xs ys → 0 < length xs → looks_of ys ≡ looks_of xs
looks_later xs ys p h = ap looks_of (sym p.1) ∙ looks_more xs p.0 h

has_some : (xs : List Happening) (m : Happening) → HasHappening xs m → 0 < length xs
has_some [] m h = absurd h
has_some (x ∷ xs) m h = omega arith

may_more : (xs ys : List Happening) (guest : ℕ) → MaySee xs guest → MaySee (xs ++ ys) guest
may_more xs ys guest m =
    record {
      came = has_more xs ys (Came guest) m.came;
      other_came = has_more xs ys (Came (1 - guest)) m.other_came;
      looks = subst (λ n. 0 < n) (sym (looks_more xs ys (has_some xs (Came guest) m.came))) m.looks;
    }

may_later : (xs ys : List Happening) (guest : ℕ) → IsPrefix xs ys → MaySee xs guest
    → MaySee ys guest
may_later xs ys guest p m = subst (λ zs. MaySee zs guest) p.1 (may_more xs p.0 guest m)

saw_more : (xs ys : List Happening) (guest : ℕ) → SawOther xs guest → SawOther (xs ++ ys) guest
saw_more xs ys guest s = record {
  saw = has_more xs ys (Saw guest) s.saw;
  may = may_more xs ys guest s.may;
}

-- what is true of the cell that is set, and of each other one, is true of all
cell_set : (P : ℕ → Cell → Type 0) (cs : List Cell) (k : ℕ) (x : Cell) → k < length cs → P k x
    → ((j : ℕ) → j ≢ k → P j (cell cs j)) → (j : ℕ) → P j (cell (slice_set cs k x) j)
cell_set P [] k x h p q j = absurd (omega arith)
cell_set P (c ∷ cs) zero x h p q zero = p
cell_set P (c ∷ cs) zero x h p q (suc j) = q (suc j) (λ e. absurd (omega (arith, e)))
cell_set P (c ∷ cs) (suc k) x h p q zero = q zero (λ e. absurd (omega (arith, e)))
cell_set P (c ∷ cs) (suc k) x h p q (suc j) =
    cell_set (λ i y. P (suc i) y) cs k x (omega arith) p
    (λ i ne. q (suc i) (λ e. ne (omega (arith, e)))) j

abbrev pub shown : List Happening → List Happening
shown log = []

abbrev pub moved : List Happening → List Happening → ℕ → Type 0
moved xs ys n = Unit {0}

-- what happens to one guest leaves what is told of the other
tells_more : (log : List Happening) (guest n : ℕ) (m : Happening) → (m ≡ Came guest → ⊥)
    → (m ≡ Saw guest → ⊥) → WordTells log guest n → WordTells (log ++ m ∷ []) guest n
tells_more log guest n m not_came not_saw t =
    record {
      came = λ a. has_more log (m ∷ []) (Came guest) (t.came a);
      saw = λ a. saw_more log (m ∷ []) guest (t.saw a);
      only_came = λ h. t.only_came (has_before log m (Came guest) not_came h);
      only_saw = λ h. t.only_saw (has_before log m (Saw guest) not_saw h);
    }

-- whatever the book is, a step of a guest's own may add what happens to that guest
pub marks : (v : List Happening) (k a b : ℕ) (ask : Happening) (f : ℕ → ℕ) (m : Happening) → k < 2
    → 0 < length v
    → ((j : ℕ) → j ≢ k → (m ≡ Came j → ⊥) × (m ≡ Saw j → ⊥))
    → ((n : ℕ) (log : List Happening) → IsPrefix v log → WordTells log k n
    → WordTells (log ++ m ∷ []) k (f n) × HasHappening (log ++ m ∷ []) (Came k))
    → Moves IsMeeting shown moved k (v, (no_nib, None)) f
    (MarksArrival (step k a b ask) (v, (no_nib, None)))
marks v k a b ask f m below some own fits cs log kept pre away =
    let n = (cell cs k).0 in
    let inside : k < length cs = subst (λ (m : ℕ). k < m) (sym kept.words) below in
    let now = fits n log pre (kept.tells k below) in
    let goes : Goes IsMeeting shown moved k (v, (no_nib, None)) f
    (MarksArrival (step k a b ask) (v, (no_nib, None))) cs log = (
      keeps,
      m ∷ [],
      None,
      tt,
      record {
        words = length-set cs k (f n, true) ∙ kept.words;
        home =
            cell_set (λ j c. j < 2 → c.1 ≡ true) cs k (f n, true) inside (λ b. refl)
            (λ j ne b. kept.home j b);
        begun = omega (arith, length-append log (m ∷ []), kept.begun);
        tells =
            cell_set (λ j c. j < 2 → WordTells (log ++ m ∷ []) j c.0) cs k (f n, true) inside
            (λ b. now.0) (λ j ne b. tells_more log j (cell cs j).0 m (own j ne).0 (own j ne).1
            (kept.tells j b));
      },
      inl (refl, refl),
      record {
        came = now.1;
        looks = looks_more log (m ∷ []) kept.begun ∙ looks_later v log pre some;
      },
    ) in
    (inside, kept.home k below, goes)

came_tells : (k n : ℕ) (log : List Happening) → WordTells log k n → (b : Bool) → (n == 0) ≡ b
    → WordTells (log ++ Came k ∷ []) k (either b 1 n)
came_tells k n log t true is =
    let none : n ≡ 0 = grind (arith, nat_tests) in
    record {
      came = λ _. has_last log (Came k);
      saw = λ two. absurd (omega (arith, two));
      only_came = λ _. omega arith;
      only_saw =
          λ h. absurd (omega (
            arith,
            none,
            t.only_saw (has_before log (Came k) (Saw k) (λ e. absurd (cc e)) h),
          ));
    }
came_tells k n log t false is =
    let some : 1 ≤ n = grind (arith, nat_tests) in
    record {
      came = λ _. has_last log (Came k);
      saw = λ a. saw_more log (Came k ∷ []) k (t.saw a);
      only_came = λ _. some;
      only_saw = λ h. t.only_saw (has_before log (Came k) (Saw k) (λ e. absurd (cc e)) h);
    }

-- a guest comes
pub comes : (v : List Happening) (k : ℕ) (ask : Happening) → k < 2 → 0 < length v
    → Moves IsMeeting shown moved k (v, (no_nib, None)) (λ n. either (n == 0) 1 n)
    (MarksArrival (step k 0 1 ask) (v, (no_nib, None)))
comes v k ask below some =
    marks v k 0 1 ask (λ n. either (n == 0) 1 n) (Came k) below some
    (λ j ne. (λ e. ne (sym (cc e)), λ e. absurd (cc e)))
    (λ n log pre t. (came_tells k n log t (n == 0) refl, has_last log (Came k)))

saw_tells : (k n : ℕ) (log : List Happening) → MaySee log k → WordTells log k n → (b : Bool)
    → (n == 1) ≡ b → WordTells (log ++ Saw k ∷ []) k (either b 2 n)
saw_tells k n log may t true is =
    record {
      came = λ _. has_more log (Saw k ∷ []) (Came k) may.came;
      saw = λ _. record { saw = has_last log (Saw k); may = may_more log (Saw k ∷ []) k may };
      only_came = λ _. omega arith;
      only_saw = λ _. omega arith;
    }
saw_tells k n log may t false is =
    let one : 1 ≤ n = t.only_came may.came in
    let two : 2 ≤ n = grind (arith, nat_tests) in
    record {
      came = λ _. has_more log (Saw k ∷ []) (Came k) may.came;
      saw = λ _. record { saw = has_last log (Saw k); may = may_more log (Saw k ∷ []) k may };
      only_came = λ _. one;
      only_saw = λ _. two;
    }

-- a guest that may see the other notes that it has
pub notes : (v : List Happening) (k : ℕ) (ask : Happening) → k < 2 → MaySee v k
    → Moves IsMeeting shown moved k (v, (no_nib, None)) (λ n. either (n == 1) 2 n)
    (MarksArrival (step k 1 2 ask) (v, (no_nib, None)))
notes v k ask below may =
    marks v k 1 2 ask (λ n. either (n == 1) 2 n) (Saw k) below (has_some v (Came k) may.came)
    (λ j ne. (λ e. absurd (cc e), λ e. ne (sym (cc e))))
    (λ n log pre t. let later = may_later v log k pre may in
    (saw_tells k n log later t (n == 1) refl, has_more log (Saw k ∷ []) (Came k) later.came))
