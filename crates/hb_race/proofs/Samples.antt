-- The definitions, read on two known runs.
use Rattle.std.proofs.Common.{◌≡◌, ℕ, pos, zero, suc, ◌<◌, List, [], ◌∷◌, Some, slice_get, refl}
use Rattle.std.proofs.Common.{sym, subst, arith}
use Rattle.pct_ask.specs.declared.ask.Ask.{Ask}
use Rattle.pct_ask.specs.declared.ask.Ask.TheVariants.{Read, Write, Lock, Unlock, Join}
use Rattle.pct_ask.specs.declared.event.Event.{Event}
use Rattle.hb_race.specs.HappensBefore.{Orders, by_thread, by_mutex, by_condition, by_semaphore}
use Rattle.hb_race.specs.HappensBefore.{by_barrier, by_join, by_start, by_rwlock, by_atomics}
use Rattle.hb_race.specs.HappensBefore.{IsEdge, IsChain, HappensBefore}
use Rattle.hb_race.specs.Races.{IsRace, AreRaces}

abbrev step : ℕ → Ask → Event
step t ask = record { thread = t; line = 1; ask = ask; answer = pos 0 }

-- two threads read and write a variable, and a third joins both and reads it
abbrev read_and_write : List Event
read_and_write =
    step 0 (Read 0) ∷ step 0 (Write 0 (pos 1)) ∷ step 1 (Read 0) ∷ step 1 (Write 0 (pos 2))
    ∷ step 2 (Join 0) ∷ step 2 (Join 1) ∷ step 2 (Read 0) ∷ []

-- the same mutex is held round both writes
abbrev guarded : List Event
guarded =
    step 0 (Lock 0) ∷ step 0 (Write 0 (pos 1)) ∷ step 0 (Unlock 0)
    ∷ step 1 (Lock 0) ∷ step 1 (Write 0 (pos 2)) ∷ step 1 (Unlock 0) ∷ []

edge : (events : List Event) (i j : ℕ) (a b : Event) → i < j → slice_get events i ≡ Some a
    → slice_get events j ≡ Some b → Orders a b → IsEdge events i j
edge events i j a b low first second orders = record {
  earlier = low;
  a = a;
  b = b;
  first = first;
  second = second;
  orders = orders;
}

chain-rises : (events : List Event) (i j n : ℕ) → IsChain events i j n → i < j
chain-rises events i j zero e = e.earlier
chain-rises events i j (suc n) c = let low = chain-rises events i c.0 n c.1 in
    let high = c.2.earlier in omega arith

-- nothing orders the first thread's write before the other's read
apart : Orders (step 0 (Write 0 (pos 1))) (step 1 (Read 0)) → ⊥
apart (by_thread e) = absurd (omega arith)
apart (by_mutex m p q) = absurd cc
apart (by_condition c p q) = absurd cc
apart (by_semaphore s p q) = absurd cc
apart (by_barrier r p q) = absurd cc
apart (by_join q) = absurd cc
apart (by_start p) = absurd cc
apart (by_rwlock l p q) = absurd cc
apart (by_atomics x p q) = absurd cc

unordered : (n : ℕ) → IsChain read_and_write 1 2 n → ⊥
unordered zero e =
    let a : step 0 (Write 0 (pos 1)) ≡ e.a = (let h = e.first in cc) in
    let b : step 1 (Read 0) ≡ e.b = (let h = e.second in cc) in
    apart (subst (λ x. Orders x (step 1 (Read 0))) (sym a) (subst (Orders e.a) (sym b) e.orders))
unordered (suc n) c = let low = chain-rises read_and_write 1 c.0 n c.1 in let high = c.2.earlier in
    omega arith

pub write_and_read_race : IsRace read_and_write 0 1 2
write_and_read_race = record {
  earlier = omega arith;
  a = step 0 (Write 0 (pos 1));
  b = step 1 (Read 0);
  first = refl;
  second = refl;
  apart = λ e. omega arith;
  first_accesses = refl;
  second_accesses = refl;
  plain = refl;
  writes = refl;
  unordered = λ before. unordered before.0 before.1;
}

pub guarded_writes_ordered : HappensBefore guarded 1 4
guarded_writes_ordered = (
  2,
  (
    3,
    (
      2,
      edge guarded 1 2 (step 0 (Write 0 (pos 1))) (step 0 (Unlock 0)) (omega arith) refl refl
          (by_thread refl),
      edge guarded 2 3 (step 0 (Unlock 0)) (step 1 (Lock 0)) (omega arith) refl refl
          (by_mutex 0 refl refl),
    ),
    edge guarded 3 4 (step 1 (Lock 0)) (step 1 (Write 0 (pos 2))) (omega arith) refl refl
        (by_thread refl),
  ),
)

-- so no list without races is an answer there
pub some_race_reported : AreRaces read_and_write [] → ⊥
some_race_reported races = let at = races.every 0 1 2 write_and_read_race in let low = at.1 in
    omega arith
