use Rattle.std.proofs.Common.{refl, arith, get_or, sym, subst, ◌≡◌, List, ℕ, ◌+◌, length}
use Rattle.std.proofs.lemmas.Option.{slice_get-get_or}
use Rattle.lock_order.specs.declared.mutex_set.MutexSet.{MutexSet}
use Rattle.lock_order.proofs.Holding.{no_event, event-at, taken-small}
use Rattle.lock_order.proofs.StepNestings.{NestedSoFar, nested-first, nested-none, nested-some}
use Rattle.lock_order.proofs.StepNestings.{nested-last}
use Rattle.lock_order.proofs.nested.nested_sets.Goals as goal
use Rattle.lock_order.proofs.nested.nested_sets.Goals.{in-Some, in_default}

abbrev none : MutexSet
none = record { bits = 0 }

pub bounds-sets-mutex : goal.bounds-sets-mutex
bounds-sets-mutex c =
    taken-small c.requires.in_range.0 c.args.events.now c.loop-place.place c.requires.in_range.1
    c.loop-place-test.true c.in-Some.mutex ((c.in-Some.ensures c.in-Some.mutex).0 refl)

pub bounds-sets-mutex-in-Some : goal.bounds-sets-mutex-in-Some
bounds-sets-mutex-in-Some c =
    taken-small c.requires.in_range.0 c.args.events.now c.loop-place.place c.requires.in_range.1
    c.loop-place-test.true c.in-Some.mutex ((c.in-Some.ensures c.in-Some.mutex).0 refl)

pub loop-place-init : goal.loop-place-init
loop-place-init c = nested-first c.args.events.now _ refl

pub loop-place-preserved : goal.loop-place-preserved
loop-place-preserved c =
    let events = c.args.events.now in
    let place = c.loop-place.place in
    let event = get_or events place no_event in
    let at = event-at events place c.loop-place-test.true in
    let P : List MutexSet → Type 0 = λ x. NestedSoFar events (place + 1) x in
    elim c.match-taken.branch [
      | in-Some w ↦
          let mutex = w.in-Some.mutex in
          let small = taken-small c.requires.in_range.0 events place c.requires.in_range.1
          c.loop-place-test.true mutex ((w.in-Some.ensures mutex).0 refl) in
          let old = get_or c.loop-place.sets mutex none in
          let held = get_or c.args.held.now place none in
          let at_mutex = slice_get-get_or c.loop-place.sets mutex none
          (let whole = c.loop-place.invariant.whole in omega arith) in
          let at_held = slice_get-get_or c.args.held.now place none
          (let whole = c.requires.held.whole in let within = c.loop-place-test.true in
          omega arith) in
          subst P (sym w.sets-is) (nested-some events place event at c.loop-place.sets mutex old
          held w.union.result c.loop-place.invariant w.in-Some.ensures at_mutex
          (c.requires.held.each place event held at at_held) w.union.ensures)
      | in_default w ↦ subst P (sym w.sets-is)
          (nested-none events place event at c.loop-place.sets c.loop-place.invariant
          (λ mutex takes. w.in_default.not-Some mutex ((c.taken.ensures mutex).1 takes)))
    ]

pub returns : goal.returns
returns c =
    let done : c.loop-place.place ≡ length c.args.events.now = omega arith in
    nested-last c.args.events.now c.loop-place.sets
    (let P : ℕ → Type 0 = λ n. NestedSoFar c.args.events.now n c.loop-place.sets in
    subst P done c.loop-place.invariant)
