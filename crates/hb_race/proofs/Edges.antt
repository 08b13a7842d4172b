-- The edges between events are those by objects.
use Rattle.std.proofs.Common.{◌≡◌, ℕ, zero, suc, ◌+◌, ◌*◌, ◌<◌, true, eqb, ◌↔◌, List, [], ◌∷◌, ◌++◌}
use Rattle.std.proofs.Common.{length, Option, Some, None, slice_get, refl, sym, ap, subst, ◌∙◌}
use Rattle.std.proofs.Common.{arith, inl, inr, ◌⊎◌, eq-eqb}
use Rattle.std.proofs.lemmas.Bool.{eqb-true, or_cases, or_left, or_right}
use Rattle.pct_ask.specs.declared.event.Event.{Event}
use Rattle.hb_race.specs.declared.object.Object.{Object}
use Rattle.hb_race.specs.declared.object.Object.TheVariants.{Thread, Beginning, Mutex, Condition}
use Rattle.hb_race.specs.declared.object.Object.TheVariants.{Semaphore, Barrier, Variable}
use Rattle.hb_race.specs.declared.object.Object.TheVariants.{ReadWriteLock}
use Rattle.hb_race.specs.HappensBefore.{Orders, by_thread, by_mutex, by_condition, by_semaphore}
use Rattle.hb_race.specs.HappensBefore.{by_barrier, by_join, by_start, by_rwlock, by_atomics}
use Rattle.hb_race.specs.HappensBefore.{IsEdge, IsChain, HappensBefore}
use Rattle.hb_race.specs.Order.{HasLines, Among, Edge, Chain, Before}
use Rattle.hb_race.specs.Objects.{place, places, places_taken, object_given, first_taken}
use Rattle.hb_race.specs.Objects.{second_taken, is_at, gives_to}
use Rattle.hb_race.specs.Table.{event_at, steps_of}
use Rattle.hb_race.proofs.Words.{Gives, Takes, given-words, words-given, first-words, second-words}
use Rattle.hb_race.proofs.Words.{words-taken}

-- ---- each row is of one object
abbrev kind_of : Object → ℕ
kind_of (Thread id) = 0
kind_of (Beginning id) = 1
kind_of (Mutex id) = 2
kind_of (Condition id) = 3
kind_of (Semaphore id) = 4
kind_of (Barrier id) = 5
kind_of (Variable id) = 6
kind_of (ReadWriteLock id) = 7

abbrev id_of : Object → ℕ
id_of (Thread id) = id
id_of (Beginning id) = id
id_of (Mutex id) = id
id_of (Condition id) = id
id_of (Semaphore id) = id
id_of (Barrier id) = id
id_of (Variable id) = id
id_of (ReadWriteLock id) = id

abbrev object_by : ℕ → ℕ → Object
object_by zero id = Thread id
object_by (suc zero) id = Beginning id
object_by (suc (suc zero)) id = Mutex id
object_by (suc (suc (suc zero))) id = Condition id
object_by (suc (suc (suc (suc zero)))) id = Semaphore id
object_by (suc (suc (suc (suc (suc zero))))) id = Barrier id
object_by (suc (suc (suc (suc (suc (suc zero)))))) id = Variable id
object_by (suc (suc (suc (suc (suc (suc (suc n))))))) id = ReadWriteLock id

object_by-is : (o : Object) → object_by (kind_of o) (id_of o) ≡ o
object_by-is (Thread id) = refl
object_by-is (Beginning id) = refl
object_by-is (Mutex id) = refl
object_by-is (Condition id) = refl
object_by-is (Semaphore id) = refl
object_by-is (Barrier id) = refl
object_by-is (Variable id) = refl
object_by-is (ReadWriteLock id) = refl

place-is : (o : Object) → (place o ≡ 8 * id_of o + kind_of o) × (kind_of o < 8)
place-is (Thread id) = (omega arith, omega arith)
place-is (Beginning id) = (omega arith, omega arith)
place-is (Mutex id) = (omega arith, omega arith)
place-is (Condition id) = (omega arith, omega arith)
place-is (Semaphore id) = (omega arith, omega arith)
place-is (Barrier id) = (omega arith, omega arith)
place-is (Variable id) = (omega arith, omega arith)
place-is (ReadWriteLock id) = (omega arith, omega arith)

place-same : (o p : Object) → place o ≡ place p → o ≡ p
place-same o p e =
    let at = place-is o in
    let other = place-is p in
    let a = at.0 in
    let b = at.1 in
    let c = other.0 in
    let d = other.1 in
    let ids : id_of o ≡ id_of p = omega arith in
    let kinds : kind_of o ≡ kind_of p = omega arith in
    sym (object_by-is o) ∙ ap (λ k. object_by k (id_of o)) kinds ∙ ap (object_by (kind_of p)) ids
    ∙ object_by-is p

-- ---- a step that gives to an object, and one that takes from it
data Gave (a : Event) (o : Object) : Type 0 where
  to_itself : o ≡ Thread a.thread → Gave a o
  given_by : Gives a.ask a.answer o → Gave a o

data Took (b : Event) (o : Object) : Type 0 where
  from_itself : o ≡ Thread b.thread → Took b o
  from_beginning : o ≡ Beginning b.thread → Took b o
  taken_by : Takes b.ask b.answer o → Took b o

meets : (a b : Event) (o : Object) → Gave a o → Took b o → Orders a b
meets a b o (to_itself e) (from_itself f) =
    let same : Thread a.thread ≡ Thread b.thread = sym e ∙ f in by_thread cc
meets a b o (to_itself e) (from_beginning f) =
    let apart : Thread a.thread ≡ Beginning b.thread = sym e ∙ f in absurd cc
meets a b o (to_itself e) (taken_by h) = by_join (subst (Takes b.ask b.answer) e h)
meets a b o (given_by g) (from_itself f) = absurd (subst (Gives a.ask a.answer) f g)
meets a b o (given_by g) (from_beginning f) = by_start (subst (Gives a.ask a.answer) f g)
meets a b (Thread t) (given_by g) (taken_by h) = absurd g
meets a b (Beginning t) (given_by g) (taken_by h) = absurd h
meets a b (Mutex m) (given_by g) (taken_by h) = by_mutex m g h
meets a b (Condition c) (given_by g) (taken_by h) = by_condition c g h
meets a b (Semaphore s) (given_by g) (taken_by h) = by_semaphore s g h
meets a b (Barrier r) (given_by g) (taken_by h) = by_barrier r g h
meets a b (Variable x) (given_by g) (taken_by h) = by_atomics x g h
meets a b (ReadWriteLock l) (given_by g) (taken_by h) = by_rwlock l g h

is_at-true : (p : Option Object) (row : ℕ) → is_at p row ≡ true
    → (o : Object) × (p ≡ Some o) × (place o ≡ row)
is_at-true None row e = absurd cc
is_at-true (Some o) row e = (o, refl, eqb-true (place o) row e)

gave : (a : Event) (row : ℕ) → gives_to a row ≡ true → (o : Object) × (place o ≡ row) × Gave a o
gave a row e = elim (or_cases (eqb (place (Thread a.thread)) row)
    (is_at (object_given a.ask a.answer) row) e) [
      | inl here ↦ (Thread a.thread, eqb-true (place (Thread a.thread)) row here, to_itself refl)
      | inr there ↦
          let at = is_at-true (object_given a.ask a.answer) row there in
          (at.0, at.2, given_by (given-words a.ask a.answer at.0 at.1))
    ]

pub among-two : (p q : Option Object) (row : ℕ) → Among (places p ++ places q) row
    → (o : Object) × (place o ≡ row) × ((p ≡ Some o) ⊎ (q ≡ Some o))
among-two None None row h = absurd h
among-two None (Some y) row (inl e) = (y, e, inr refl)
among-two None (Some y) row (inr e) = absurd e
among-two (Some x) q row (inl e) = (x, e, inl refl)
among-two (Some x) None row (inr h) = absurd h
among-two (Some x) (Some y) row (inr (inl e)) = (y, e, inr refl)
among-two (Some x) (Some y) row (inr (inr e)) = absurd e

two-among : (p q : Option Object) (o : Object) → (p ≡ Some o) ⊎ (q ≡ Some o)
    → Among (places p ++ places q) (place o)
two-among None q o (inl e) = absurd cc
two-among (Some x) q o (inl e) = inl (let same : x ≡ o = cc in ap place same)
two-among p None o (inr e) = absurd cc
two-among None (Some y) o (inr e) = inl (let same : y ≡ o = cc in ap place same)
two-among (Some x) (Some y) o (inr e) = inr (inl (let same : y ≡ o = cc in ap place same))

took : (b : Event) (row : ℕ) → Among (places_taken b) row
    → (o : Object) × (place o ≡ row) × Took b o
took b row (inl e) = (Thread b.thread, e, from_itself refl)
took b row (inr (inl e)) = (Beginning b.thread, e, from_beginning refl)
took b row (inr (inr h)) =
    let at = among-two (first_taken b.ask b.answer) (second_taken b.ask) row h in
    elim at.2 [
      | inl first ↦ (at.0, at.1, taken_by (first-words b.ask b.answer at.0 first))
      | inr second ↦ (at.0, at.1, taken_by (second-words b.ask b.answer at.0 second))
    ]

-- ---- and the other way round
given-gives : (a : Event) (o : Object) → Gives a.ask a.answer o → gives_to a (place o) ≡ true
given-gives a o g =
    or_right (eqb (place (Thread a.thread)) (place o))
    (is_at (object_given a.ask a.answer) (place o))
    (ap (λ p. is_at p (place o)) (words-given a.ask a.answer o g) ∙ eq-eqb (place o) (place o) refl)

line-gives : (a : Event) → gives_to a (place (Thread a.thread)) ≡ true
line-gives a =
    or_left (eqb (place (Thread a.thread)) (place (Thread a.thread)))
    (is_at (object_given a.ask a.answer) (place (Thread a.thread)))
    (eq-eqb (place (Thread a.thread)) (place (Thread a.thread)) refl)

takes-row : (b : Event) (o : Object) → Takes b.ask b.answer o → Among (places_taken b) (place o)
takes-row b o h =
    inr (inr (two-among (first_taken b.ask b.answer) (second_taken b.ask) o
    (words-taken b.ask b.answer o h)))

shares : (a b : Event) → Orders a b
    → (row : ℕ) × Among (places_taken b) row × (gives_to a row ≡ true)
shares a b (by_thread e) = (
  place (Thread b.thread),
  inl refl,
  subst (λ t. gives_to a (place (Thread t)) ≡ true) e (line-gives a),
)
shares a b (by_mutex m g h) = (place (Mutex m), takes-row b (Mutex m) h, given-gives a (Mutex m) g)
shares a b (by_condition c g h) =
    (place (Condition c), takes-row b (Condition c) h, given-gives a (Condition c) g)
shares a b (by_semaphore s g h) =
    (place (Semaphore s), takes-row b (Semaphore s) h, given-gives a (Semaphore s) g)
shares a b (by_barrier r g h) =
    (place (Barrier r), takes-row b (Barrier r) h, given-gives a (Barrier r) g)
shares a b (by_join h) = (place (Thread a.thread), takes-row b (Thread a.thread) h, line-gives a)
shares a b (by_start g) =
    (place (Beginning b.thread), inr (inl refl), given-gives a (Beginning b.thread) g)
shares a b (by_rwlock l g h) =
    (place (ReadWriteLock l), takes-row b (ReadWriteLock l) h, given-gives a (ReadWriteLock l) g)
shares a b (by_atomics x g h) =
    (place (Variable x), takes-row b (Variable x) h, given-gives a (Variable x) g)

ordered : (a b : Event) (row : ℕ) → gives_to a row ≡ true → Among (places_taken b) row → Orders a b
ordered a b row g h =
    let from = gave a row g in
    let to = took b row h in
    let same : to.0 ≡ from.0 = place-same to.0 from.0 (to.1 ∙ sym from.1) in
    meets a b from.0 from.2 (subst (Took b) same to.2)

-- ---- lists of events
pub at-is : (events : List Event) (i : ℕ) (a : Event) → slice_get events i ≡ Some a
    → event_at events i ≡ a
at-is [] i a e = absurd cc
at-is (x ∷ events) zero a e = cc
at-is (x ∷ events) (suc i) a e = at-is events i a e

pub is-at : (events : List Event) (i : ℕ) → i < length events
    → slice_get events i ≡ Some (event_at events i)
is-at [] i low = absurd (omega arith)
is-at (x ∷ events) zero low = refl
is-at (x ∷ events) (suc i) low = is-at events i (omega arith)

edge-by : (events : List Event) (i j : ℕ) → IsEdge events i j → Edge (steps_of events) i j
edge-by events i j e =
    let parts = shares (event_at events i) (event_at events j)
    (subst (λ a. Orders a (event_at events j)) (sym (at-is events i e.a e.first))
    (subst (λ b. Orders e.a b) (sym (at-is events j e.b e.second)) e.orders)) in
    (e.earlier, parts.0, parts.1, parts.2)

edge-of : (events : List Event) (i j : ℕ) → j < length events → Edge (steps_of events) i j
    → IsEdge events i j
edge-of events i j low e = record {
  earlier = e.0;
  a = event_at events i;
  b = event_at events j;
  first = is-at events i (let r = e.0 in omega arith);
  second = is-at events j low;
  orders = ordered (event_at events i) (event_at events j) e.1 e.3 e.2;
}

chain-by : (events : List Event) (i j n : ℕ) → IsChain events i j n → Chain (steps_of events) i j n
chain-by events i j zero e = edge-by events i j e
chain-by events i j (suc n) c = (c.0, chain-by events i c.0 n c.1, edge-by events c.0 j c.2)

chain-of : (events : List Event) (i j n : ℕ) → j < length events → Chain (steps_of events) i j n
    → IsChain events i j n
chain-of events i j zero low e = edge-of events i j low e
chain-of events i j (suc n) low c = (
  c.0,
  chain-of events i c.0 n (let r = (c.2).0 in omega arith) c.1,
  edge-of events c.0 j low c.2,
)

pub before-is : (events : List Event) (i j : ℕ) → j < length events
    → Before (steps_of events) i j ↔ HappensBefore events i j
before-is events i j low =
    ((λ b. (b.0, chain-of events i j b.0 low b.1)), (λ b. (b.0, chain-by events i j b.0 b.1)))

pub lines : (events : List Event) → HasLines (steps_of events)
lines events = record { takes = λ j. inl refl; gives = λ i. line-gives (event_at events i) }
