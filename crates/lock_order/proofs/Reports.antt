-- The chosen report is one, and good; and a cycle is given exactly where no order is good.
use Rattle.std.proofs.Common.{◌≡◌, ℕ, ◌+◌, ◌-◌, ◌<◌, List, length, get_or, take, drop, sym, ap, ◌∙◌}
use Rattle.std.proofs.Common.{subst, inl, inr, ◌↔◌, arith}
use Rattle.std.proofs.lemmas.Bool.{cases_eq}
use Rattle.std.proofs.lemmas.List.{take_rest}
use Rattle.std.proofs.lemmas.Option.{slice_get_within}
use Rattle.pct_ask.specs.declared.event.Event.{Event}
use Rattle.pct_ask.specs.declared.Deal.{Deal}
use Rattle.lock_order.specs.declared.mutex_set.MutexSet.{MutexSet}
use Rattle.lock_order.specs.declared.nesting.Nesting.{Nesting}
use Rattle.lock_order.specs.declared.report.LockReport.{LockReport}
use Rattle.lock_order.specs.declared.report.LockReport.TheVariants.{Order, Cycle}
use Rattle.lock_order.specs.Nestings.{AreEventsInRange}
use Rattle.lock_order.specs.Good.{IsGood, IsGoodOrder, IsGoodCycle, IsCycle}
use Rattle.lock_order.specs.Chosen.{IsChosen, IsChosenOrder, IsChosenCycle, AreNested, AreTakenOut}
use Rattle.lock_order.specs.Chosen.{IsWalk, IsRing, AreNestingsOf, Remains, IsHeldWhere}
use Rattle.lock_order.specs.Chosen.{next_in_ring}
use Rattle.lock_order.specs.MutexSets.{HasMutex, HasThose, AreNestedSets, IsHeldIn, IsCycleIn}
use Rattle.lock_order.proofs.StepNestings.{nesting-small}
use Rattle.lock_order.proofs.Orders.{good-from-turn, turn-from-chosen, set-where-is, held-from-sets}
use Rattle.lock_order.proofs.Orders.{held-to-sets, lowest-same}
use Rattle.lock_order.proofs.Walks.{next_in-inside, next_in-last, length-ring, ring-next, walk-left}
use Rattle.lock_order.proofs.Cycles.{never-both}

pub chosen-cycle-good : (mutexes : ℕ) (events : List Event) (cycle : List Nesting)
    → IsChosenCycle mutexes events cycle → IsGoodCycle events cycle
chosen-cycle-good mutexes events cycle chosen =
    let long = length-ring (drop chosen.back chosen.walk) chosen.ring chosen.turned in
    let inside = chosen.turned.within in
    let whole = chosen.nestings.whole in
    record {
      some = omega arith;
      nested = λ place nesting at. (chosen.nestings.each place nesting at).nested.nested;
      joined = λ place nesting next at at_next.
          let within = slice_get_within cycle (place + 1) next at_next in
          (chosen.nestings.each place nesting at).nested.taken_is
          ∙ next_in-inside chosen.ring place (omega arith)
          ∙ sym (chosen.nestings.each (place + 1) next at_next).nested.held_is;
      closed = λ last first at_last at_first.
          let within = slice_get_within cycle (length cycle - 1) last at_last in
          (chosen.nestings.each (length cycle - 1) last at_last).nested.taken_is
          ∙ next_in-last chosen.ring (length cycle - 1) (omega arith)
          ∙ sym (chosen.nestings.each 0 first at_first).nested.held_is;
    }

module _ (deal : Deal) (events : List Event) (in_range : AreEventsInRange deal events) where
  pub chosen-good : (report : LockReport) → IsChosen deal.mutexes events report
      → IsGood deal.mutexes events report
  chosen-good (Order order) chosen =
      good-from-turn deal.mutexes events order (nesting-small deal events in_range)
      (turn-from-chosen deal.mutexes events order chosen)
  chosen-good (Cycle cycle) chosen = chosen-cycle-good deal.mutexes events cycle chosen

pub cycle-where-none : (mutexes : ℕ) (events : List Event) (report : LockReport)
    → IsGood mutexes events report → IsCycle report
    ↔ ((order : List ℕ) → ¬ IsGoodOrder mutexes events order)
cycle-where-none mutexes events (Order order) good =
    (λ never. absurd never, λ none. none order good)
cycle-where-none mutexes events (Cycle cycle) good =
    (λ _ order good_order. never-both mutexes events order cycle good_order good, λ _. tt)

module _ (mutexes : ℕ) (events : List Event) (nested : List MutexSet)
    (sets : AreNestedSets events nested) (out : List ℕ) (remaining : MutexSet)
    (is : HasThose remaining (Remains mutexes out)) where
  walk-from-sets : (walk : List ℕ) (back : ℕ)
      → IsWalk (HasMutex remaining) (IsHeldIn nested remaining) walk back
      → IsWalk (Remains mutexes out) (IsHeldWhere mutexes events out) walk back
  walk-from-sets walk back walked =
      let inside = walked.within in
      let same : (taken : ℕ) → taken < 64 → (held : ℕ)
      → IsHeldIn nested remaining taken held ↔ IsHeldWhere mutexes events out taken held =
      λ taken small held. (
        held-from-sets mutexes events nested sets out remaining is taken held
            small,
        held-to-sets mutexes events nested sets out remaining is taken held small,
      ) in
      let small : (place : ℕ) → place < length walk → get_or walk place 0 < 64 =
      λ place within. (walk-left nested remaining walk back walked place within).small in
      record {
        begins =
            lowest-same (HasMutex remaining) (Remains mutexes out) is (get_or walk 0 0)
            walked.begins;
        goes =
            λ place within. lowest-same (IsHeldIn nested remaining (get_or walk place 0))
            (IsHeldWhere mutexes events out (get_or walk place 0))
            (same (get_or walk place 0) (small place (omega arith))) (get_or walk (place + 1) 0)
            (walked.goes place within);
        once = walked.once;
        within = inside;
        repeats =
            lowest-same (IsHeldIn nested remaining (get_or walk (length walk - 1) 0))
            (IsHeldWhere mutexes events out (get_or walk (length walk - 1) 0))
            (same (get_or walk (length walk - 1) 0) (small (length walk - 1) (omega arith)))
            (get_or walk back 0) walked.repeats;
      }

  pub chosen-from-sets : (cycle : List Nesting) → AreTakenOut mutexes events out
      → IsCycleIn events nested remaining cycle → IsChosenCycle mutexes events cycle
  chosen-from-sets cycle taken_out cycle_in = record {
    out = out;
    walk = cycle_in.walk;
    back = cycle_in.back;
    ring = cycle_in.ring;
    taken_out = taken_out;
    walked = walk-from-sets cycle_in.walk cycle_in.back cycle_in.walked;
    turned = cycle_in.turned;
    nestings = cycle_in.nestings;
  }

-- ---- the ring in the code
pub part-is : (walk viewed : List ℕ) (back : ℕ) → viewed ≡ walk
    → take (length viewed - back) (drop back viewed) ≡ drop back walk
part-is walk viewed back same = take_rest viewed back ∙ ap (drop back) same

module _ (events : List Event) (nested : List MutexSet) (sets : AreNestedSets events nested)
    (remaining : MutexSet) (walk : List ℕ) (back : ℕ)
    (walked : IsWalk (HasMutex remaining) (IsHeldIn nested remaining) walk back)
    (part ring : List ℕ) (same : part ≡ drop back walk) (turned : IsRing part ring) where
  is-ring : IsRing (drop back walk) ring
  is-ring = let P : List ℕ → Type 0 = λ xs. IsRing xs ring in subst P same turned

  ring-left : (place : ℕ) → place < length ring → HasMutex remaining (get_or ring place 0)
  ring-left place within =
      (ring-next (HasMutex remaining) (IsHeldIn nested remaining) walk back walked ring is-ring
      place within).1

  next-left : (place : ℕ) → place < length ring → HasMutex remaining (next_in_ring ring place)
  next-left place within =
      let P : ℕ → Type 0 = λ n. HasMutex remaining n in
      elim (cases_eq (place + 1) (length ring)) [
        | inl last ↦ subst P (sym (next_in-last ring place last)) (ring-left 0 (omega arith))
        | inr ne ↦ subst P (sym (next_in-inside ring place (omega arith)))
            (ring-left (place + 1) (omega arith))
      ]

  pub ring-nested : (place : ℕ) → place < length ring
      → AreNested events (get_or ring place 0) (next_in_ring ring place)
  ring-nested place within =
      let held = ring-next (HasMutex remaining) (IsHeldIn nested remaining) walk back walked ring
      is-ring place within in
      let after = next-left place within in
      (set-where-is 0 events nested sets (next_in_ring ring place) after.small
      (get_or ring place 0)).0 held.0

  pub ring-cycle : (cycle : List Nesting) → AreNestingsOf events ring cycle
      → IsCycleIn events nested remaining cycle
  ring-cycle cycle nestings = record {
    walk = walk;
    back = back;
    ring = ring;
    walked = walked;
    turned = is-ring;
    nestings = nestings;
  }

-- the order of taking out, where no set is left
pub order-chosen : (mutexes : ℕ) (events : List Event) (out order : List ℕ) (remaining : MutexSet)
    → order ≡ out → HasThose remaining (Remains mutexes out) → AreTakenOut mutexes events out
    → ((mutex : ℕ) → ¬ HasMutex remaining mutex) → IsChosenOrder mutexes events order
order-chosen mutexes events out order remaining same is taken_out none =
    let P : List ℕ → Type 0 = λ xs. IsChosenOrder mutexes events xs in
    subst P (sym same) (record {
      taken_out = taken_out;
      all = λ mutex remains. none mutex ((is mutex).1 remains);
    })
