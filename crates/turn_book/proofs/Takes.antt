-- When a thread gets which answer.
use Rattle.std.proofs.Common.{◌≡◌, ◌≢◌, ℕ, ℤ, Bool, true, false, cond, eqb, Option, Some, None}
use Rattle.std.proofs.Common.{length, refl, sym, ap, ◌∙◌, inl, inr, eq-eqb, ne_eqb}
use Rattle.std.specs.Prelude.{◌↔◌, is_some}
use Rattle.std.proofs.lemmas.Bool.{cases_eq, false≢true}
use Rattle.pct_ask.specs.declared.verdict.Verdict.{Verdict}
use Rattle.pct_ask.specs.declared.verdict.Outcome.{Outcome}
use Rattle.policy_pick.specs.declared.chance.Pick.{Pick}
use Rattle.policy_pick.specs.declared.chance.Pick.TheVariants.{Thread, Waits, Nobody, Departs}
use Rattle.turn_book.specs.declared.taken.Because.{Because}
use Rattle.turn_book.specs.declared.taken.Because.TheVariants.{Turn, Away}
use Rattle.turn_book.specs.declared.taken.Taken.TheVariants.{Answer, NotYet, Over}
use Rattle.turn_book.specs.declared.taken.Reply.TheVariants as replies
use Rattle.turn_book.specs.Obeys.{outcome_by_pick}
use Rattle.turn_book.specs.Told.{BookState, choice_of, IsAnswered}
use Rattle.turn_book.specs.Answers.{IsAnswerTaken, MayWait, because_of, IsBecause}

-- where no outcome stands, the choice is a thread's or waits
pub may-wait : (rest : Verdict) (full : Bool) (pick : Pick) → outcome_by_pick rest full pick ≡ None
    → MayWait pick
may-wait rest full (Thread t) e = tt
may-wait rest full (Waits t) e = tt
may-wait rest full Nobody e = absurd cc
may-wait rest true (Departs t) e = absurd cc
may-wait rest false (Departs t) e = absurd cc

own-turn-by : (u t : ℕ) → cond (eqb u t) None (Some (Turn u)) ≡ None → u ≡ t
own-turn-by u t e = elim (cases_eq u t) [
  | inl same ↦ same
  | inr apart ↦ absurd (let w = sym (ap (λ b. cond b None (Some (Turn u))) (ne_eqb u t apart))
      ∙ e in cc)
]

-- the turn is the thread's own
pub own-turn : (pick : Pick) (t : ℕ) → MayWait pick → because_of pick t ≡ None → pick ≡ Thread t
own-turn (Thread u) t may e = ap Thread (own-turn-by u t e)
own-turn (Waits u) t may e = absurd cc
own-turn Nobody t may e = absurd may
own-turn (Departs u) t may e = absurd may

pub own-because : (t : ℕ) → because_of (Thread t) t ≡ None
own-because t = ap (λ b. cond b None (Some (Turn t))) (eq-eqb t t refl)

pub other-because : (u t : ℕ) → u ≢ t → because_of (Thread u) t ≡ Some (Turn u)
other-because u t apart = ap (λ b. cond b None (Some (Turn u))) (ne_eqb u t apart)

other-turn-by : (v u t : ℕ) → cond (eqb v t) None (Some (Turn v)) ≡ Some (Turn u)
    → (v ≡ u) × (u ≢ t)
other-turn-by v u t e = elim (cases_eq v t) [
  | inl same ↦ absurd (let w = sym (ap (λ b. cond b None (Some (Turn v))) (eq-eqb v t same)) ∙ e in
      cc)
  | inr apart ↦ let w = sym (ap (λ b. cond b None (Some (Turn v))) (ne_eqb v t apart)) ∙ e in
      let same : v ≡ u = cc in (same, λ f. apart (same ∙ f))
]

-- another thread's turn, and a thread that is waited for
other-turn : (pick : Pick) (u t : ℕ) → because_of pick t ≡ Some (Turn u)
    → (pick ≡ Thread u) × (u ≢ t)
other-turn (Thread v) u t e = let w = other-turn-by v u t e in (ap Thread w.0, w.1)
other-turn (Waits v) u t e = absurd cc
other-turn Nobody u t e = absurd cc
other-turn (Departs v) u t e = absurd cc

waited-by : (v u t : ℕ) → cond (eqb v t) None (Some (Turn v)) ≡ Some (Away u) → ⊥
waited-by v u t e = elim (cases_eq v t) [
  | inl same ↦ let w = sym (ap (λ b. cond b None (Some (Turn v))) (eq-eqb v t same)) ∙ e in cc
  | inr apart ↦ let w = sym (ap (λ b. cond b None (Some (Turn v))) (ne_eqb v t apart)) ∙ e in cc
]

waited : (pick : Pick) (u t : ℕ) → because_of pick t ≡ Some (Away u) → pick ≡ Waits u
waited (Thread v) u t e = absurd (waited-by v u t e)
waited (Waits v) u t e = cc
waited Nobody u t e = absurd cc
waited (Departs v) u t e = absurd cc

-- ---- by the answer
module _ (book : BookState) (t : ℕ) (pick : Pick) (running : book.outcome ≡ None)
    (chosen : choice_of book ≡ Some pick) where
  same-pick : (other : Pick) → choice_of book ≡ Some other → pick ≡ other
  same-pick other e = let w = sym chosen ∙ e in cc

  -- it took its step
  module _ (answer : ℤ) (turn : pick ≡ Thread t) where
    pub answer-answer : IsAnswerTaken (Answer answer)
        ↔ ((book.outcome ≡ None) × (choice_of book ≡ Some (Thread t)))
    answer-answer = (λ _. (running, chosen ∙ ap Some turn), λ _. tt)

    pub answer-turn : (at u : ℕ) → (Answer answer ≡ NotYet at (Turn u))
        ↔ ((book.outcome ≡ None) × (choice_of book ≡ Some (Thread u)) × (u ≢ t)
        × (at ≡ length book.trace))
    answer-turn at u = (
      λ e. absurd cc,
      λ w. absurd (w.2
          (let a = same-pick (Thread u) w.1 in let b : Thread u ≡ Thread t = sym a ∙ turn in cc)),
    )

    pub answer-away : (at u : ℕ) → (Answer answer ≡ NotYet at (Away u))
        ↔ ((book.outcome ≡ None) × (choice_of book ≡ Some (Waits u)) × (at ≡ length book.trace))
    answer-away at u = (
      λ e. absurd cc,
      λ w. absurd (let a = same-pick (Waits u) w.1 in
          let b : Waits u ≡ Thread t = sym a ∙ turn in cc),
    )

    pub answer-over : (outcome : Outcome)
        → (Answer answer ≡ Over outcome) ↔ (book.outcome ≡ Some outcome)
    answer-over outcome = (λ e. absurd cc, λ e. absurd (let w = sym running ∙ e in cc))

  -- it waits
  module _ (n : ℕ) (because : Because) (long : n ≡ length book.trace)
      (is : because_of pick t ≡ Some because) where
    pub not_yet-answer : IsAnswerTaken (NotYet n because)
        ↔ ((book.outcome ≡ None) × (choice_of book ≡ Some (Thread t)))
    not_yet-answer = (
      λ w. absurd w,
      λ w. let a = sym (ap (λ p. because_of p t) (same-pick (Thread t) w.1))
          ∙ is in let b = sym (own-because t) ∙ a in cc,
    )

    pub not_yet-turn : (at u : ℕ) → (NotYet n because ≡ NotYet at (Turn u))
        ↔ ((book.outcome ≡ None) × (choice_of book ≡ Some (Thread u)) × (u ≢ t)
        × (at ≡ length book.trace))
    not_yet-turn at u = (
      (λ e.
          let same : n ≡ at = cc in
          let why : because ≡ Turn u = cc in
          let w = other-turn pick u t (is ∙ ap Some why) in
          (running, chosen ∙ ap Some w.0, w.1, sym same ∙ long)),
      (λ w.
          let why : because ≡ Turn u = (let a = sym (other-because u t w.2)
          ∙ sym (ap (λ p. because_of p t) (same-pick (Thread u) w.1)) ∙ is in cc) in
          ap (λ k. NotYet k because) (long ∙ sym w.3) ∙ ap (NotYet at) why),
    )

    pub not_yet-away : (at u : ℕ) → (NotYet n because ≡ NotYet at (Away u))
        ↔ ((book.outcome ≡ None) × (choice_of book ≡ Some (Waits u)) × (at ≡ length book.trace))
    not_yet-away at u = (
      (λ e.
          let same : n ≡ at = cc in
          let why : because ≡ Away u = cc in
          (running, chosen ∙ ap Some (waited pick u t (is ∙ ap Some why)), sym same ∙ long)),
      (λ w.
          let why : because ≡ Away u = (let a =
          sym (ap (λ p. because_of p t) (same-pick (Waits u) w.1)) ∙ is in cc) in
          ap (λ k. NotYet k because) (long ∙ sym w.2) ∙ ap (NotYet at) why),
    )

    pub not_yet-over : (outcome : Outcome)
        → (NotYet n because ≡ Over outcome) ↔ (book.outcome ≡ Some outcome)
    not_yet-over outcome = (λ e. absurd cc, λ e. absurd (let w = sym running ∙ e in cc))

    pub not_yet-answered : (answer : ℤ) → NotYet n because ≡ Answer answer
        → IsAnswered book t answer book
    not_yet-answered answer e = absurd cc

-- ---- without the outcome
pub none-by : (outcome : Option Outcome) (says : Bool) → says ≡ is_some outcome → says ≡ false
    → outcome ≡ None
none-by None says is not = refl
none-by (Some outcome) says is not = absurd (false≢true (sym not ∙ is))

pub same-answer : (one other : ℤ) → replies.Answer one ≡ replies.Answer other → one ≡ other
same-answer one other e = cc

pub because-is : (book : BookState) (t : ℕ) (pick : Pick) → choice_of book ≡ Some pick
    → (because : Because) → because_of pick t ≡ Some because → IsBecause book t because
because-is book t pick chosen (Turn u) why = let w = other-turn pick u t why in
    (chosen ∙ ap Some w.0, w.1)
because-is book t pick chosen (Away u) why = chosen ∙ ap Some (waited pick u t why)
