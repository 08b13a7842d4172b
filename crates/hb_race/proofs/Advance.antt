-- A table after one more step.
use Rattle.std.proofs.Common.{◌≡◌, ℕ, ℤ, suc, ◌+◌, ◌<◌, max, Bool, true, false, cond, eqb, ◌||◌}
use Rattle.std.proofs.Common.{List, [], ◌∷◌, length, get_or, set, Some, refl, sym, ap, subst, ◌∙◌}
use Rattle.std.proofs.Common.{arith, inl, inr, eq-eqb, ne_eqb}
use Rattle.std.proofs.lemmas.Bool.{cases_eq}
use Rattle.std.proofs.lemmas.List.{get_or-set_other, get_or-set_same}
use Rattle.std.proofs.Math.Nat.{le-max_left, le-max_right}
use Rattle.pct_ask.specs.declared.ask.Ask.{Ask}
use Rattle.pct_ask.specs.declared.ask.Ask.TheVariants.{Add, Cas, Lock, TryLock, Regain, Down}
use Rattle.pct_ask.specs.declared.ask.Ask.TheVariants.{TryDown, Leave, Join, RdLock, WrLock}
use Rattle.pct_ask.specs.declared.ask.Ask.TheVariants.{TryRdLock, TryWrLock}
use Rattle.pct_ask.specs.declared.event.Event.{Event}
use Rattle.pct_ask.specs.Objects.{IsInRange, EventIsInRange}
use Rattle.hb_race.specs.declared.object.Object.{Object}
use Rattle.hb_race.specs.declared.object.Object.TheVariants.{Thread, Mutex, Condition, Semaphore}
use Rattle.hb_race.specs.declared.object.Object.TheVariants.{Barrier, Variable, ReadWriteLock}
use Rattle.hb_race.specs.Order.{Steps, Among}
use Rattle.hb_race.specs.Clocks.{own_count, greatest_of, clocks, stamp}
use Rattle.hb_race.specs.Objects.{place, places_taken, object_given, first_taken, second_taken}
use Rattle.hb_race.specs.Objects.{is_at}
use Rattle.hb_race.specs.Ranges.{most_with}
use Rattle.hb_race.specs.Table.{clock_entry, IsTable, IsStepEvent}
use Rattle.hb_race.proofs.Numbers.{max-within}
use Rattle.hb_race.proofs.Words.{some-same, taken-same}
use Rattle.hb_race.proofs.Edges.{among-two}

max-again : (a b : ℕ) → max (max a b) b ≡ max a b
max-again a b =
    let l = le-max_left (max a b) b in
    let r = le-max_right a b in
    let w = max-within (max a b) (max a b) b (omega arith) r in
    omega arith

twice : (p q : Bool) (a b : ℕ) → cond q (max (cond p (max a b) a) b) (cond p (max a b) a)
    ≡ cond (p || q) (max a b) a
twice true true a b = max-again a b
twice true false a b = refl
twice false true a b = refl
twice false false a b = refl

rows-same : (c d : ℕ → ℕ → ℕ) (u : ℕ) (os : List ℕ) → ((o : ℕ) → Among os o → c o u ≡ d o u)
    → greatest_of c u os ≡ greatest_of d u os
rows-same c d u [] same = refl
rows-same c d u (o ∷ os) same =
    ap (λ x. max x (greatest_of c u os)) (same o (inl refl))
    ∙ ap (max (d o u)) (rows-same c d u os (λ p h. same p (inr h)))

-- ---- every row from which a step takes is there
first-low : (ask : Ask) (answer : ℤ) (o : Object) → IsInRange (most_with 64) ask
    → first_taken ask answer ≡ Some o → place o < 512
first-low (Add x value) answer o range e =
    subst (λ p. place p < 512) (some-same (Variable x) o e) (omega arith)
first-low (Cas x old new) answer o range e =
    subst (λ p. place p < 512) (some-same (Variable x) o e) (omega arith)
first-low (Lock m) answer o range e =
    subst (λ p. place p < 512) (some-same (Mutex m) o e) (omega arith)
first-low (TryLock m) answer o range e =
    subst (λ p. place p < 512) (taken-same answer (Mutex m) o e).1 (omega arith)
first-low (Regain c m) answer o range e =
    subst (λ p. place p < 512) (some-same (Mutex m) o e) (let low = range.1 in omega arith)
first-low (Down x) answer o range e =
    subst (λ p. place p < 512) (some-same (Semaphore x) o e) (omega arith)
first-low (TryDown x) answer o range e =
    subst (λ p. place p < 512) (taken-same answer (Semaphore x) o e).1 (omega arith)
first-low (Leave b) answer o range e =
    subst (λ p. place p < 512) (some-same (Barrier b) o e) (omega arith)
first-low (Join u) answer o range e =
    subst (λ p. place p < 512) (some-same (Thread u) o e) (omega arith)
first-low (RdLock l) answer o range e =
    subst (λ p. place p < 512) (some-same (ReadWriteLock l) o e) (omega arith)
first-low (WrLock l) answer o range e =
    subst (λ p. place p < 512) (some-same (ReadWriteLock l) o e) (omega arith)
first-low (TryRdLock l) answer o range e =
    subst (λ p. place p < 512) (taken-same answer (ReadWriteLock l) o e).1 (omega arith)
first-low (TryWrLock l) answer o range e =
    subst (λ p. place p < 512) (taken-same answer (ReadWriteLock l) o e).1 (omega arith)
first-low _ answer o range e = absurd cc

second-low : (ask : Ask) (o : Object) → IsInRange (most_with 64) ask → second_taken ask ≡ Some o
    → place o < 512
second-low (Regain c m) o range e =
    subst (λ p. place p < 512) (some-same (Condition c) o e) (let low = range.0 in omega arith)
second-low _ o range e = absurd cc

takes-low : (e : Event) → EventIsInRange (most_with 64) e → (row : ℕ) → Among (places_taken e) row
    → row < 512
takes-low e range row (inl same) = let low = range.thread in omega arith
takes-low e range row (inr (inl same)) = let low = range.thread in omega arith
takes-low e range row (inr (inr h)) =
    let at = among-two (first_taken e.ask e.answer) (second_taken e.ask) row h in
    elim at.2 [
      | inl first ↦ subst (λ r. r < 512) at.1 (first-low e.ask e.answer at.0 range.ask first)
      | inr second ↦ subst (λ r. r < 512) at.1 (second-low e.ask at.0 range.ask second)
    ]

-- ---- the clock that is made of the table is the step's
pub stamp-is : (s : Steps ℕ) (n : ℕ) (e : Event) (table : List (List ℕ)) (counts : List ℕ)
    → IsStepEvent s n e → EventIsInRange (most_with 64) e → IsTable s n table counts
    → (u : ℕ) → cond (eqb e.thread u) (suc (get_or counts u 0))
    (greatest_of (clock_entry table) u (places_taken e)) ≡ stamp s n u
stamp-is s n e table counts step range is u =
    ap (λ t. cond (eqb t u) (suc (get_or counts u 0))
    (greatest_of (clock_entry table) u (places_taken e))) (sym step.thread)
    ∙ ap (λ k. cond (eqb (s.thread n) u) (suc k)
    (greatest_of (clock_entry table) u (places_taken e))) (is.counted u)
    ∙ ap (λ k. cond (eqb (s.thread n) u) (suc (own_count s u n)) k)
    (rows-same (clock_entry table) (clocks s n) u (places_taken e)
    (λ o among. is.entries o u (takes-low e range o among))
    ∙ ap (greatest_of (clocks s n) u) (sym step.takes))

-- and the table after it
pub advanced : (s : Steps ℕ) (n : ℕ) (e : Event) (table next last : List (List ℕ))
    (counts after made : List ℕ) → IsStepEvent s n e → IsTable s n table counts
    → ((u : ℕ) → get_or made u 0 ≡ stamp s n u)
    → ((u : ℕ) → get_or after u 0 ≡ cond (eqb e.thread u) (suc (get_or counts u 0))
    (get_or counts u 0))
    → length next ≡ length table → length last ≡ length next
    → ((o u : ℕ) → o < length table → clock_entry next o u
    ≡ cond (eqb (place (Thread e.thread)) o) (max (clock_entry table o u) (get_or made u 0))
    (clock_entry table o u))
    → ((o u : ℕ) → o < length next → clock_entry last o u
    ≡ cond (is_at (object_given e.ask e.answer) o)
    (max (clock_entry next o u) (get_or made u 0)) (clock_entry next o u))
    → IsTable s (suc n) last after
advanced s n e table next last counts after made step is stamped counted long longer once again =
    record {
      rows = longer ∙ long ∙ is.rows;
      counted =
          λ u. counted u ∙ ap (λ k. cond (eqb e.thread u) (suc k) k) (is.counted u)
          ∙ ap (λ t. cond (eqb t u) (suc (own_count s u n)) (own_count s u n)) (sym step.thread);
      entries = λ o u low.
          let there : o < length table = omega (arith, is.rows) in
          let q = is_at (object_given e.ask e.answer) o in
          let p = eqb (place (Thread e.thread)) o in
          again o u (omega (arith, long, is.rows))
          ∙ ap (λ k. cond q (max k (get_or made u 0)) k) (once o u there)
          ∙ twice p q (clock_entry table o u) (get_or made u 0)
          ∙ ap (λ k. cond (p || q) (max k (get_or made u 0)) k) (is.entries o u low)
          ∙ ap (λ k. cond (p || q) (max (clocks s n o u) k) (clocks s n o u)) (stamped u)
          ∙ ap (λ b. cond b (max (clocks s n o u) (stamp s n u)) (clocks s n o u))
          (sym (step.gives o));
    }

pub counted-is : (counts : List ℕ) (t u : ℕ) → t < length counts
    → get_or (set counts t (get_or counts t 0 + 1)) u 0
    ≡ cond (eqb t u) (suc (get_or counts u 0)) (get_or counts u 0)
counted-is counts t u low = elim (cases_eq u t) [
  | inl same ↦
      ap (λ k. get_or (set counts t (get_or counts t 0 + 1)) k 0) same
      ∙ get_or-set_same counts t (get_or counts t 0 + 1) 0 low
      ∙ sym (ap (λ b. cond b (suc (get_or counts u 0)) (get_or counts u 0)) (eq-eqb t u (sym same))
      ∙ ap (λ k. suc (get_or counts k 0)) same ∙ omega arith)
  | inr apart ↦
      get_or-set_other counts t u (get_or counts t 0 + 1) 0 apart
      ∙ sym (ap (λ b. cond b (suc (get_or counts u 0)) (get_or counts u 0))
      (ne_eqb t u (λ e. apart (sym e))))
]
