-- Nestings, step by step.
use Rattle.std.proofs.Common.{◌≡◌, ℕ, zero, suc, ◌+◌, ◌<◌, ◌≤◌, List, length, set, replicate, Some}
use Rattle.std.proofs.Common.{slice_get, refl, sym, ap, ◌∙◌, subst, ◌⊎◌, inl, inr, ◌↔◌, arith}
use Rattle.std.proofs.Common.{add-one}
use Rattle.std.specs.Int.{bit_at}
use Rattle.std.proofs.lemmas.Bool.{cases_eq}
use Rattle.std.proofs.lemmas.List.{length-set}
use Rattle.std.proofs.lemmas.Option.{slice_get_within, get_or_from_slice_get}
use Rattle.std.proofs.lemmas.Nat.Bits.{bit_at-zero}
use Rattle.pct_ask.specs.declared.event.Event.{Event}
use Rattle.pct_ask.specs.declared.Deal.{Deal}
use Rattle.pct_ask.specs.Objects.{sizes_of_deal, EventIsInRange}
use Rattle.lock_order.specs.declared.mutex_set.MutexSet.{MutexSet}
use Rattle.lock_order.specs.declared.nesting.Nesting.{Nesting}
use Rattle.lock_order.specs.Nestings.{AreEventsInRange, event_at_step, TakesBy, Takes, HoldsMutex}
use Rattle.lock_order.specs.Nestings.{IsNesting}
use Rattle.lock_order.specs.Chosen.{IsOfPair}
use Rattle.lock_order.specs.MutexSets.{HasMutex, HasThose, AreNestedSets}
use Rattle.lock_order.proofs.Places.{slice_get-set, slice_get-replicate}
use Rattle.lock_order.proofs.Holding.{takes-small, takes-here}

step-within : (events : List Event) (step : ℕ) (event : Event)
    → event_at_step events step ≡ Some event → (0 < step) × (step ≤ length events)
step-within events zero event at = absurd cc
step-within events (suc place) event at = let within = slice_get_within events place event at in
    (omega arith, omega arith)

-- the events name only what there is, so the mutexes of nestings are the deal's
module _ (deal : Deal) (events : List Event) (in_range : AreEventsInRange deal events) where
  event-names : (step : ℕ) (event : Event) → event_at_step events step ≡ Some event
      → EventIsInRange (sizes_of_deal deal) event
  event-names zero event at = absurd cc
  event-names (suc place) event at =
      let P : Event → Type 0 = λ x. EventIsInRange (sizes_of_deal deal) x in
      subst P (get_or_from_slice_get events place event event at)
      (in_range place event (slice_get_within events place event at))

  takes-below : (step thread mutex : ℕ) → Takes events step thread mutex → mutex < deal.mutexes
  takes-below step thread mutex takes =
      takes-small (sizes_of_deal deal) takes.event.ask takes.event.answer mutex
      (event-names step takes.event takes.at).ask takes.taken

  pub nesting-small : (nesting : Nesting) → IsNesting events nesting
      → (nesting.held < deal.mutexes) × (nesting.taken < deal.mutexes)
  nesting-small nesting is = (
    takes-below is.holds.since nesting.thread nesting.held is.holds.taken,
    takes-below nesting.step nesting.thread nesting.taken is.takes,
  )

pub nesting-within : (events : List Event) (nesting : Nesting) → IsNesting events nesting
    → (0 < nesting.step) × (nesting.step ≤ length events)
nesting-within events nesting is = step-within events nesting.step is.takes.event is.takes.at

-- a nesting of the pair within so many steps
pub record NestedBy (events : List Event) (held taken steps : ℕ) : Type 0 where
  pub nesting : Nesting
  pub is : IsOfPair events held taken nesting
  pub early : nesting.step ≤ steps

-- the sets of what is held where each mutex is taken, within so many steps
pub record NestedSoFar (events : List Event) (steps : ℕ) (sets : List MutexSet) : Type 0 where
  pub whole : length sets ≡ 64
  pub each : (taken : ℕ) (those : MutexSet) → slice_get sets taken ≡ Some those
      → HasThose those (λ held. NestedBy events held taken steps)

pub nested-first : (events : List Event) (sets : List MutexSet)
    → sets ≡ replicate 64 (record { bits = 0 }) → NestedSoFar events 0 sets
nested-first events sets empty = record {
  whole = ap length empty;
  each = λ taken those there held.
      let same = slice_get-replicate 64 taken (record { bits = 0 }) those
      (sym (ap (λ x. slice_get x taken) empty) ∙ there) in (
        λ has. let bit = ap (λ (x : MutexSet). bit_at x.bits held) same in
            let zero_bit = bit_at-zero held in let one = has.bit in absurd (omega arith),
        λ by. let low = (nesting-within events by.nesting by.is.nested).0 in let early = by.early in
            absurd (omega arith),
      );
}

pub nested-last : (events : List Event) (sets : List MutexSet)
    → NestedSoFar events (length events) sets → AreNestedSets events sets
nested-last events sets so_far = record {
  whole = so_far.whole;
  each = λ taken those there held. (
    λ has. let by = (so_far.each taken those there held).0 has in (by.nesting, by.is),
    λ (nesting, is). (so_far.each taken those there held).1
        (record {
          nesting = nesting;
          is = is;
          early = (nesting-within events nesting is.nested).1;
        }),
  );
}

module _ (events : List Event) (place : ℕ) (event : Event)
    (at : slice_get events place ≡ Some event) where
  pub nesting-here : (nesting : Nesting) → nesting.step ≡ suc place → event.thread ≡ nesting.thread
      → TakesBy event.ask event.answer nesting.taken
      → HoldsMutex events event.thread nesting.held (suc place) → IsNesting events nesting
  nesting-here nesting here own takes holds = record {
    takes = record {
      event = event;
      at = ap (event_at_step events) here ∙ at;
      by = own;
      taken = takes;
    };
    holds =
        let P : ℕ → Type 0 = λ t. HoldsMutex events t nesting.held nesting.step in
        let Q : ℕ → Type 0 = λ j. HoldsMutex events event.thread nesting.held j in
        subst P own (subst Q (sym here) holds);
  }

  pub nesting-there : (nesting : Nesting) → nesting.step ≡ suc place → IsNesting events nesting
      → (event.thread ≡ nesting.thread) × TakesBy event.ask event.answer nesting.taken
      × HoldsMutex events event.thread nesting.held (suc place)
  nesting-there nesting here is =
      let both = takes-here events place event at nesting.step nesting.thread nesting.taken here
      is.takes in
      let P : ℕ → Type 0 = λ t. HoldsMutex events t nesting.held (suc place) in
      let Q : ℕ → Type 0 = λ j. HoldsMutex events nesting.thread nesting.held j in
      (both.0, both.1, subst P (sym both.0) (subst Q here is.holds))

  -- a nesting of the pair at this step
  pub pair-here : (held taken : ℕ) → TakesBy event.ask event.answer taken
      → HoldsMutex events event.thread held (suc place) → (step thread : ℕ) → step ≡ suc place
      → thread ≡ event.thread → IsOfPair events held taken
      (record { step = step; thread = thread; held = held; taken = taken })
  pair-here held taken takes holds step thread here own = record {
    nested =
        nesting-here (record { step = step; thread = thread; held = held; taken = taken }) here
        (sym own) takes holds;
    held_is = refl;
    taken_is = refl;
  }

  pub pair-there : (held taken : ℕ) (nesting : Nesting) → nesting.step ≡ suc place
      → IsOfPair events held taken nesting
      → TakesBy event.ask event.answer taken × HoldsMutex events event.thread held (suc place)
  pair-there held taken nesting here is =
      let found = nesting-there nesting here is.nested in
      let P : ℕ → Type 0 = λ m. TakesBy event.ask event.answer m in
      let Q : ℕ → Type 0 = λ m. HoldsMutex events event.thread m (suc place) in
      (subst P is.taken_is found.1, subst Q is.held_is found.2)

  earlier : (held taken : ℕ) → NestedBy events held taken place
      → NestedBy events held taken (suc place)
  earlier held taken by = record {
    nesting = by.nesting;
    is = by.is;
    early = let early = by.early in omega arith;
  }

  -- a pair's nestings with one more step
  nested-more : (held taken : ℕ) → NestedBy events held taken (suc place)
      ↔ (NestedBy events held taken place
      ⊎ (TakesBy event.ask event.answer taken × HoldsMutex events event.thread held (suc place)))
  nested-more held taken = (
    λ by. let early = by.early in elim (cases_eq by.nesting.step (suc place)) [
      | inl here ↦ inr (pair-there held taken by.nesting here by.is)
      | inr ne ↦ inl (record { nesting = by.nesting; is = by.is; early = omega arith })
    ],
    λ either. elim either [
      | inl by ↦ earlier held taken by
      | inr (takes, holds) ↦ record {
        nesting = record { step = suc place; thread = event.thread; held = held; taken = taken };
        is = pair-here held taken takes holds (suc place) event.thread refl refl;
        early = omega arith;
      }
    ],
  )

  -- where the step takes no mutex
  pub nested-none : (sets : List MutexSet) → NestedSoFar events place sets
      → ((mutex : ℕ) → ¬ TakesBy event.ask event.answer mutex) → NestedSoFar events (place + 1) sets
  nested-none sets so_far none = rw add-one (record {
    whole = so_far.whole;
    each = λ taken those there held. (
      λ has. earlier held taken ((so_far.each taken those there held).0 has),
      λ by. elim ((nested-more held taken).0 by) [
        | inl before ↦ (so_far.each taken those there held).1 before
        | inr (takes, holds) ↦ absurd (none taken takes)
      ],
    );
  })

  -- where the step takes a mutex, what its thread holds is held there too
  pub nested-some : (sets : List MutexSet) (mutex : ℕ) (old held new : MutexSet)
      → NestedSoFar events place sets → ((other : ℕ)
      → (Some mutex ≡ Some other) ↔ TakesBy event.ask event.answer other)
      → slice_get sets mutex ≡ Some old
      → HasThose held (λ p. HoldsMutex events event.thread p (suc place))
      → HasThose new (λ p. HasMutex old p ⊎ HasMutex held p)
      → NestedSoFar events (place + 1) (set sets mutex new)
  nested-some sets mutex old held new so_far takes at_mutex holds is = rw add-one (record {
    whole = length-set sets mutex new ∙ so_far.whole;
    each = λ taken those there p. elim (slice_get-set sets mutex taken new those there) [
      | inl (here, same) ↦
          let P : MutexSet → Type 0 = λ x. HasMutex x p ↔ NestedBy events p taken (suc place) in
          let Q : ℕ → Type 0 = λ q. HasMutex new p ↔ NestedBy events p q (suc place) in
          let own : HasMutex new p ↔ NestedBy events p mutex (suc place) = (
            λ has. elim ((is p).0 has) [
              | inl before ↦ earlier p mutex ((so_far.each mutex old at_mutex p).0 before)
              | inr now ↦ (nested-more p mutex).1 (inr ((takes mutex).0 refl, (holds p).0 now))
            ],
            λ by. (is p).1 (elim ((nested-more p mutex).0 by) [
              | inl before ↦ inl ((so_far.each mutex old at_mutex p).1 before)
              | inr (takes_it, holds_it) ↦ inr ((holds p).1 holds_it)
            ]),
          ) in
          subst P same (subst Q (sym here) own)
      | inr (apart, before) ↦ (
        λ has. earlier p taken ((so_far.each taken those before p).0 has),
        λ by. elim ((nested-more p taken).0 by) [
          | inl earlier_by ↦ (so_far.each taken those before p).1 earlier_by
          | inr (takes_it, holds_it) ↦ let one : Some mutex ≡ Some taken =
              (takes taken).1 takes_it in absurd (apart (let same : mutex ≡ taken = cc in sym same))
        ],
      )
    ];
  })
