-- The search over the last accesses of all kinds finds the greatest step that races with the next
-- one.
use Rattle.std.proofs.Common.{◌≡◌, ℕ, ◌+◌, ◌<◌, true, cond, ltb, List, get_or, Option, Some, None}
use Rattle.std.proofs.Common.{option_map, refl, sym, ap, subst, ◌∙◌, arith, inl, inr, ◌⊎◌}
use Rattle.std.proofs.lemmas.Bool.{cases_Bool, ltb-true, lt-ltb}
use Rattle.hb_race.specs.declared.access.AccessKind.{AccessKind}
use Rattle.hb_race.specs.declared.access.AccessKind.TheVariants.{PlainRead, PlainWrite, AtomicRead}
use Rattle.hb_race.specs.declared.access.AccessKind.TheVariants.{AtomicWrite}
use Rattle.hb_race.specs.declared.history.History.{History}
use Rattle.hb_race.specs.Order.{Steps, HasLines}
use Rattle.hb_race.specs.Clocks.{own, stamp}
use Rattle.hb_race.specs.Accesses.{conflict}
use Rattle.hb_race.specs.Lasts.{Accesses, last, kept_access, lasts_of, HasLasts, IsGreatest}
use Rattle.hb_race.specs.Lasts.{IsUntold, IsLatest, IsCurrent, IsFlagged, NumbersRace, untold_step}
use Rattle.hb_race.specs.Lasts.{later}
use Rattle.hb_race.proofs.Lasts.{last-is, race-flagged, flagged-race}
use Rattle.hb_race.proofs.Greatest.{greatest-like, later-greatest}

untold-kept : {O : Type 0} (s : Steps O) (o : Option ℕ) (known number : ℕ)
    → untold_step (option_map (kept_access s) o) known ≡ Some number
    → (l : ℕ) × (o ≡ Some l) × (number ≡ l + 1) × (known < own s l)
untold-kept s None known number e = absurd cc
untold-kept s (Some l) known number e = elim (cases_Bool (ltb known (own s l))) [
  | inl holds ↦
      let same : Some (l + 1) ≡ Some number =
      sym (ap (λ b. cond b (Some (l + 1)) None) holds) ∙ e in
      (l, refl, (let numbers : l + 1 ≡ number = cc in sym numbers), ltb-true known (own s l) holds)
  | inr fails ↦ let none : None ≡ Some number =
      sym (ap (λ b. cond b (Some (l + 1)) None) fails) ∙ e in absurd cc
]

kept-untold : {O : Type 0} (s : Steps O) (l known : ℕ) → known < own s l
    → untold_step (Some (kept_access s l)) known ≡ Some (l + 1)
kept-untold s l known low = ap (λ b. cond b (Some (l + 1)) None) (lt-ltb known (own s l) low)

untold-flagged : {O : Type 0} (s : Steps O) (access : Accesses) (n : ℕ) (first second : AccessKind)
    (thread : ℕ) (clock : List ℕ) (history : History) → conflict first second ≡ true
    → IsCurrent s access n second thread clock → HasLasts s access n history
    → (number : ℕ) → IsUntold (lasts_of first history) thread clock 64 number
    → IsFlagged s access n first second number
untold-flagged s access n first second thread clock history conflicts current has number at =
    let u = at.0 in
    let kept_here = untold-kept s (last s access u first n) (get_or clock u 0) number
    (ap (λ o. untold_step o (get_or clock u 0)) (sym (has.lasts first u at.1)) ∙ at.3) in
    let l = kept_here.0 in
    let facts = last-is s access u first n l kept_here.1 in
    record {
      step = l;
      number_is = kept_here.2;
      at_last = subst (λ t. last s access t first n ≡ Some l) (sym facts.1) kept_here.1;
      apart = λ e. at.2 (sym facts.1 ∙ e ∙ current.own_step);
      conflicts = conflicts;
      untold =
          subst (λ t. stamp s n t < own s l) (sym facts.1)
          (subst (λ k. k < own s l) (current.stamped u) kept_here.3);
    }

flagged-untold : {O : Type 0} (s : Steps O) (access : Accesses) (n : ℕ) (first second : AccessKind)
    (thread : ℕ) (clock : List ℕ) (history : History) → IsCurrent s access n second thread clock
    → HasLasts s access n history
    → (number : ℕ) → IsFlagged s access n first second number
    → IsUntold (lasts_of first history) thread clock 64 number
flagged-untold s access n first second thread clock history current has number flagged =
    let u = s.thread flagged.step in
    let known = get_or clock u 0 in
    let low = current.threads flagged.step in (
      u,
      low,
      (λ e. flagged.apart (e ∙ sym current.own_step)),
      ap (λ o. untold_step o known) (has.lasts first u low
          ∙ ap (option_map (kept_access s)) flagged.at_last)
          ∙ kept-untold s flagged.step known
          (subst (λ k. k < own s flagged.step) (sym (current.stamped u)) flagged.untold)
          ∙ ap Some (sym flagged.number_is),
    )

pub latest-flagged : {O : Type 0} (s : Steps O) (access : Accesses) (n : ℕ)
    (first second : AccessKind) (thread : ℕ) (clock : List ℕ) (history : History)
    (latest : Option ℕ) → conflict first second ≡ true → IsCurrent s access n second thread clock
    → HasLasts s access n history
    → IsLatest (lasts_of first history) thread clock 64 latest
    → IsGreatest (IsFlagged s access n first second) latest
latest-flagged s access n first second thread clock history latest conflicts current has is =
    greatest-like (IsUntold (lasts_of first history) thread clock 64)
    (IsFlagged s access n first second) latest
    (λ number at. untold-flagged s access n first second thread clock history conflicts current has
    number at)
    (λ number flagged. (
      number,
      omega arith,
      flagged-untold s access n first second thread clock history current has number flagged,
    ))
    is

-- ---- all kinds
abbrev ByKind : {O : Type 0} → Steps O → Accesses → ℕ → AccessKind → ℕ → Type 0
ByKind s access n second number =
    (IsFlagged s access n PlainRead second number ⊎ IsFlagged s access n PlainWrite second number)
    ⊎ (IsFlagged s access n AtomicRead second number
    ⊎ IsFlagged s access n AtomicWrite second number)

by-kind : {O : Type 0} (s : Steps O) (access : Accesses) (n : ℕ) (first second : AccessKind)
    (number : ℕ) → IsFlagged s access n first second number → ByKind s access n second number
by-kind s access n PlainRead second number flagged = inl (inl flagged)
by-kind s access n PlainWrite second number flagged = inl (inr flagged)
by-kind s access n AtomicRead second number flagged = inr (inl flagged)
by-kind s access n AtomicWrite second number flagged = inr (inr flagged)

kinds-race : {O : Type 0} (s : Steps O) → HasLines s
    → (access : Accesses) (n : ℕ) (second : AccessKind) → access n ≡ Some second → (number : ℕ)
    → ByKind s access n second number → NumbersRace s access n number
kinds-race s lines access n second at number (inl (inl f)) =
    flagged-race s lines access n PlainRead second number at f
kinds-race s lines access n second at number (inl (inr f)) =
    flagged-race s lines access n PlainWrite second number at f
kinds-race s lines access n second at number (inr (inl f)) =
    flagged-race s lines access n AtomicRead second number at f
kinds-race s lines access n second at number (inr (inr f)) =
    flagged-race s lines access n AtomicWrite second number at f

pub latest-race : {O : Type 0} (s : Steps O) → HasLines s
    → (access : Accesses) (n : ℕ) (second : AccessKind) → access n ≡ Some second
    → (a b c d : Option ℕ)
    → IsGreatest (IsFlagged s access n PlainRead second) a
    → IsGreatest (IsFlagged s access n PlainWrite second) b
    → IsGreatest (IsFlagged s access n AtomicRead second) c
    → IsGreatest (IsFlagged s access n AtomicWrite second) d
    → IsGreatest (NumbersRace s access n) (later (later a b) (later c d))
latest-race s lines access n second at a b c d p q r t =
    let Plain : ℕ → Type 0 = λ k. IsFlagged s access n PlainRead second k
    ⊎ IsFlagged s access n PlainWrite second k in
    let Atomic : ℕ → Type 0 = λ k. IsFlagged s access n AtomicRead second k
    ⊎ IsFlagged s access n AtomicWrite second k in
    greatest-like (ByKind s access n second) (NumbersRace s access n)
    (later (later a b) (later c d))
    (λ number kinds. kinds-race s lines access n second at number kinds)
    (λ number race.
    let flagged = race-flagged s lines access race.0 n second at race.2 in (
      flagged.0 + 1,
      (let e = race.1 in let low = flagged.1 in omega arith),
      by-kind s access n race.2.first second (flagged.0 + 1) flagged.2,
    ))
    (later-greatest Plain Atomic (later a b) (later c d)
    (later-greatest (IsFlagged s access n PlainRead second) (IsFlagged s access n PlainWrite second)
    a b p q)
    (later-greatest (IsFlagged s access n AtomicRead second)
    (IsFlagged s access n AtomicWrite second) c d r t))
