-- What is known of all variables after one more step of a run.
use Rattle.std.proofs.Common.{◌≡◌, ℕ, zero, suc, ◌+◌, ◌<◌, ◌≤◌, cond, List, length, get_or, set}
use Rattle.std.proofs.Common.{All, Option, Some, None, refl, sym, ap, subst, ◌∙◌, arith, inl, inr}
use Rattle.std.proofs.Common.{eq-eqb, ne_eqb}
use Rattle.std.proofs.lemmas.Bool.{cases_lt, cases_eq}
use Rattle.std.proofs.lemmas.List.{get_or-set_same, get_or-set_other, length-set, get_or_past}
use Rattle.std.specs.Option.{option_and_then}
use Rattle.pct_ask.specs.declared.event.Event.{Event}
use Rattle.pct_ask.specs.Objects.{EventIsInRange}
use Rattle.hb_race.specs.declared.access.Access.{Access}
use Rattle.hb_race.specs.declared.history.History.{History}
use Rattle.hb_race.specs.Order.{Steps}
use Rattle.hb_race.specs.Clocks.{own_count}
use Rattle.hb_race.specs.Ranges.{most_with}
use Rattle.hb_race.specs.Accesses.{access_of, kind_on}
use Rattle.hb_race.specs.Table.{clock_entry, no_event, event_at, steps_of, accesses_of, IsTable}
use Rattle.hb_race.specs.Table.{IsStepEvent}
use Rattle.hb_race.specs.Lasts.{Accesses, IsHistory, IsCurrent, no_history, new_history}
use Rattle.hb_race.specs.Histories.{AreHistories, IsNoted}
use Rattle.hb_race.proofs.Numbers.{number-own, number-other}
use Rattle.hb_race.proofs.Edges.{is-at, lines}
use Rattle.hb_race.proofs.Notes.{history-new, history-other}

-- ---- accesses
access-at : (events : List Event) (x n : ℕ) → n < length events
    → accesses_of events x n ≡ kind_on x (access_of (event_at events n))
access-at events x n low =
    ap (option_and_then (λ event. kind_on x (access_of event))) (is-at events n low)

kind-same : (access : Access) → kind_on access.var (Some access) ≡ Some access.kind
kind-same access = ap (λ b. cond b (Some access.kind) None) (eq-eqb access.var access.var refl)

kind-other : (access : Access) (x : ℕ) → (x ≡ access.var → ⊥) → kind_on x (Some access) ≡ None
kind-other access x apart =
    ap (λ b. cond b (Some access.kind) None) (ne_eqb access.var x (λ e. apart (sym e)))

-- where the step has no access
pub noted-none : (events : List Event) (n : ℕ) (access : Option Access) (step thread : ℕ)
    (clock : List ℕ) (histories : List History) → IsNoted events n access step thread clock
    → access ≡ None → AreHistories events n histories → AreHistories events (suc n) histories
noted-none events n access step thread clock histories noted none are = λ x low.
    history-other (steps_of events) (accesses_of events x) x n (get_or histories x no_history)
    (access-at events x n noted.within ∙ ap (kind_on x) (sym noted.accesses ∙ none))
    (are x low)

-- where it has one
pub noted-some : (events : List Event) (n : ℕ) (access : Option Access) (made : Access)
    (step thread : ℕ) (clock : List ℕ) (histories : List History) (after : History)
    → IsNoted events n access step thread clock → access ≡ Some made → made.var < length histories
    → ((s : Steps ℕ) (kinds : Accesses) (m : ℕ) → step ≡ m + 1
    → IsCurrent s kinds m made.kind thread clock
    → IsHistory s kinds made.var m (get_or histories made.var no_history)
    → IsHistory s kinds made.var (suc m) after)
    → AreHistories events n histories → AreHistories events (suc n) (set histories made.var after)
noted-some events n access made step thread clock histories after noted some there add are =
    λ x low.
    let at : accesses_of events x n ≡ kind_on x (Some made) =
    access-at events x n noted.within ∙ ap (kind_on x) (sym noted.accesses ∙ some) in
    let Known : ℕ → History → Type 0 =
    λ y history. IsHistory (steps_of events) (accesses_of events y) y (suc n) history in
    elim (cases_eq x made.var) [
      | inl same ↦
          let own : accesses_of events made.var n ≡ Some made.kind =
          access-at events made.var n noted.within
          ∙ ap (kind_on made.var) (sym noted.accesses ∙ some) ∙ kind-same made in
          let current : IsCurrent (steps_of events) (accesses_of events made.var) n made.kind thread
          clock = record {
            lines = lines events;
            own_step = noted.own_step;
            threads = noted.threads;
            accesses = own;
            stamped = noted.stamped;
          } in
          let next = add (steps_of events) (accesses_of events made.var) n noted.number current
          (are made.var there) in
          subst (λ y. Known y (get_or (set histories made.var after) y no_history)) (sym same)
          (subst (Known made.var) (sym (get_or-set_same histories made.var after no_history there))
          next)
      | inr apart ↦
          subst (Known x) (sym (get_or-set_other histories made.var x after no_history apart))
          (history-other (steps_of events) (accesses_of events x) x n
          (get_or histories x no_history) (at ∙ kind-other made x apart)
          (are x (let long = length-set histories made.var after in omega arith)))
    ]

-- ---- the loop
pub step-at : (events : List Event) (k : ℕ) → IsStepEvent (steps_of events) k (event_at events k)
step-at events k = record { thread = refl; takes = refl; gives = λ row. refl }

number-few : {O : Type 0} (s : Steps O) (u n : ℕ) → own_count s u n ≤ n
number-few s u zero = omega arith
number-few s u (suc n) = elim (cases_eq (s.thread n) u) [
  | inl same ↦ let e = number-own s u n same in let r = number-few s u n in omega arith
  | inr apart ↦ let e = number-other s u n apart in let r = number-few s u n in omega arith
]

pub counts-few : (s : Steps ℕ) (n : ℕ) (table : List (List ℕ)) (counts : List ℕ)
    → IsTable s n table counts → n < 100000 → (u : ℕ) → get_or counts u 0 < 100000
counts-few s n table counts is low u = let e = is.counted u in let f = number-few s u n in
    omega arith

pub begins : (s : Steps ℕ) (table : List (List ℕ)) (counts : List ℕ) → length table ≡ 512
    → ((row u : ℕ) → clock_entry table row u ≡ 0) → ((u : ℕ) → get_or counts u 0 ≡ 0)
    → IsTable s 0 table counts
begins s table counts rows entries counted = record {
  rows = rows;
  entries = λ row u low. entries row u;
  counted = counted;
}

pub histories-begin : (events : List Event) (histories : List History)
    → ((x : ℕ) → x < length histories → get_or histories x no_history ≡ new_history)
    → AreHistories events 0 histories
histories-begin events histories fresh = λ x low.
    subst (IsHistory (steps_of events) (accesses_of events x) x 0) (sym (fresh x low))
    (history-new (steps_of events) (accesses_of events x) x)

pub thread-low : (events : List Event) (vars : ℕ) → All (EventIsInRange (most_with vars)) events
    → (i : ℕ) → (event_at events i).thread < 64
thread-low events vars range i = elim (cases_lt i (length events)) [
  | inl low ↦ (range i no_event low).thread
  | inr past ↦ subst (λ (e : Event). e.thread < 64) (sym (get_or_past events i no_event past))
      (omega arith)
]
