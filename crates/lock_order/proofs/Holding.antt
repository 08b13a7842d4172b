-- What a thread holds after one more step.
use Rattle.std.proofs.Common.{◌≡◌, ◌≢◌, ℕ, suc, ◌+◌, ◌<◌, ℤ, pos, List, [], ◌∷◌, ◌++◌, length, set}
use Rattle.std.proofs.Common.{replicate, Some, None, slice_get, get_or, refl, sym, ap, ◌∙◌, subst}
use Rattle.std.proofs.Common.{◌⊎◌, inl, inr, ◌↔◌, arith, add-one}
use Rattle.std.specs.Int.{bit_at}
use Rattle.std.proofs.lemmas.Bool.{cases_eq}
use Rattle.std.proofs.lemmas.List.{length_push, length-set}
use Rattle.std.proofs.lemmas.Option.{slice_get-get_or}
use Rattle.std.proofs.lemmas.Nat.Bits.{bit_at-zero}
use Rattle.pct_ask.specs.declared.ask.Ask.{Ask}
use Rattle.pct_ask.specs.declared.ask.Ask.TheVariants.{Read, Lock, TryLock, Regain}
use Rattle.pct_ask.specs.declared.event.Event.{Event}
use Rattle.pct_ask.specs.declared.Deal.{Deal}
use Rattle.pct_ask.specs.Objects.{Sizes, sizes_of_deal, IsInRange, EventIsInRange}
use Rattle.lock_order.specs.declared.mutex_set.MutexSet.{MutexSet}
use Rattle.lock_order.specs.Nestings.{AreEventsInRange, event_at_step, TakesBy, LetsGoBy, Takes}
use Rattle.lock_order.specs.Nestings.{LetsGo, HoldsMutex}
use Rattle.lock_order.specs.MutexSets.{HasMutex, HasThose}
use Rattle.lock_order.proofs.Places.{slice_get-push, slice_get-set, slice_get-replicate}

pub takes-small : (sizes : Sizes) (ask : Ask) (answer : ℤ) (mutex : ℕ) → IsInRange sizes ask
    → TakesBy ask answer mutex → mutex < sizes.mutexes
takes-small sizes (Lock m) answer mutex range is = omega arith
takes-small sizes (TryLock m) answer mutex range is = omega (arith, is.1)
takes-small sizes (Regain cond m) answer mutex range is = omega (arith, range.1)
takes-small sizes _ answer mutex range is = absurd is

-- the event that reads past the end of a list give
abbrev pub no_event : Event
no_event = record { thread = 0; line = 0; ask = Read 0; answer = pos 0 }

pub event-at : (events : List Event) (place : ℕ) → place < length events
    → slice_get events place ≡ Some (get_or events place no_event)
event-at events place within = slice_get-get_or events place no_event within

module _ (deal : Deal) (events : List Event) (place : ℕ) (in_range : AreEventsInRange deal events)
    (within : place < length events) where
  abbrev event : Event
  event = get_or events place no_event

  names : EventIsInRange (sizes_of_deal deal) event
  names = in_range place no_event within

  pub thread-small : event.thread < 64
  thread-small = let named = names.thread in let few = deal.few_threads in omega arith

  pub taken-small : (mutex : ℕ) → TakesBy event.ask event.answer mutex → mutex < 64
  taken-small mutex takes =
      let small = takes-small (sizes_of_deal deal) event.ask event.answer mutex names.ask takes in
      let few = deal.few_mutexes in omega arith

-- the sets of what each thread holds before the step that follows so many
abbrev pub AreHeldNow : List Event → ℕ → List MutexSet → Type 0
AreHeldNow events steps now = (thread : ℕ) (those : MutexSet) → slice_get now thread ≡ Some those
    → HasThose those (λ mutex. HoldsMutex events thread mutex (suc steps))

-- the set has what the event's thread holds after its step, by what it held before
abbrev pub IsAfter : Event → MutexSet → MutexSet → Type 0
IsAfter event held after =
    HasThose after (λ mutex. TakesBy event.ask event.answer mutex
    ⊎ ((¬ LetsGoBy event.ask mutex) × HasMutex held mutex))

-- the sets of the steps so far, and those of the threads before the next one
pub record HeldSoFar (events : List Event) (steps : ℕ) (sets now : List MutexSet) : Type 0 where
  pub whole : length sets ≡ steps
  pub threads : length now ≡ 64
  pub each : (place : ℕ) (event : Event) (those : MutexSet) → slice_get events place ≡ Some event
      → slice_get sets place ≡ Some those
      → HasThose those (λ mutex. HoldsMutex events event.thread mutex (suc place))
  pub next : AreHeldNow events steps now

-- nothing is held before the first step
pub holds-first : (events : List Event) (thread mutex : ℕ) → ¬ HoldsMutex events thread mutex 1
holds-first events thread mutex holds =
    let earlier = holds.earlier in
    let none : 0 ≡ holds.since = omega arith in
    let both : event_at_step events 0 ≡ Some holds.taken.event =
    ap (event_at_step events) none ∙ holds.taken.at in
    cc

pub so-far-first : (events : List Event) (sets now : List MutexSet) → sets ≡ []
    → now ≡ replicate 64 (record { bits = 0 }) → HeldSoFar events 0 sets now
so-far-first events sets now none empty = record {
  whole = ap length none;
  threads = ap length empty;
  each =
      λ place event those there there_set. let past : None ≡ Some those =
      sym (ap (λ x. slice_get x place) none) ∙ there_set in absurd cc;
  next = λ thread those there mutex.
      let same = slice_get-replicate 64 thread (record { bits = 0 }) those
      (sym (ap (λ x. slice_get x thread) empty) ∙ there) in (
        λ has. let bit = ap (λ (x : MutexSet). bit_at x.bits mutex) same in
            let zero_bit = bit_at-zero mutex in let one = has.bit in absurd (omega arith),
        λ holds. absurd (holds-first events thread mutex holds),
      );
}

module _ (events : List Event) (place : ℕ) (event : Event)
    (at : slice_get events place ≡ Some event) where
  -- the step's one event
  same-event : (step : ℕ) (other : Event) → step ≡ suc place
      → event_at_step events step ≡ Some other → other ≡ event
  same-event step other e there =
      let both : Some other ≡ Some event = sym there ∙ ap (event_at_step events) e ∙ at in cc

  pub takes-here : (step thread mutex : ℕ) → step ≡ suc place → Takes events step thread mutex
      → (event.thread ≡ thread) × TakesBy event.ask event.answer mutex
  takes-here step thread mutex e takes =
      let same = same-event step takes.event e takes.at in
      let P : Event → Type 0 = λ x. TakesBy x.ask x.answer mutex in
      (sym (ap (λ (x : Event). x.thread) same) ∙ takes.by, subst P same takes.taken)

  gone-here : (step thread mutex : ℕ) → step ≡ suc place → LetsGo events step thread mutex
      → (event.thread ≡ thread) × LetsGoBy event.ask mutex
  gone-here step thread mutex e gone =
      let same = same-event step gone.event e gone.at in
      let P : Event → Type 0 = λ x. LetsGoBy x.ask mutex in
      (sym (ap (λ (x : Event). x.thread) same) ∙ gone.by, subst P same gone.gone)

  -- the event's own thread: it holds what it takes, and what it held and doesn't let go
  pub holds-own : (mutex : ℕ) → HoldsMutex events event.thread mutex (suc (suc place))
      ↔ (TakesBy event.ask event.answer mutex
      ⊎ ((¬ LetsGoBy event.ask mutex) × HoldsMutex events event.thread mutex (suc place)))
  holds-own mutex = (
    λ holds. elim (cases_eq holds.since (suc place)) [
      | inl e ↦ inl (takes-here holds.since event.thread mutex e holds.taken).1
      | inr ne ↦ inr (
        λ gone. holds.kept (suc place) (let earlier = holds.earlier in omega arith) (omega arith)
            (record { event = event; at = at; by = refl; gone = gone }),
        record {
          since = holds.since;
          earlier = let earlier = holds.earlier in omega arith;
          taken = holds.taken;
          kept = λ between low high. holds.kept between low (omega arith);
        },
      )
    ],
    λ either. elim either [
      | inl takes ↦ record {
        since = suc place;
        earlier = omega arith;
        taken = record { event = event; at = at; by = refl; taken = takes };
        kept = λ between low high. absurd (omega arith);
      }
      | inr (stays, holds) ↦ record {
        since = holds.since;
        earlier = let earlier = holds.earlier in omega arith;
        taken = holds.taken;
        kept = λ between low high gone. elim (cases_eq between (suc place)) [
          | inl e ↦ stays (gone-here between event.thread mutex e gone).1
          | inr ne ↦ holds.kept between low (omega arith) gone
        ];
      }
    ],
  )

  -- another thread holds what it held
  pub holds-other : (thread mutex : ℕ) → thread ≢ event.thread
      → HoldsMutex events thread mutex (suc (suc place))
      ↔ HoldsMutex events thread mutex (suc place)
  holds-other thread mutex apart = (
    λ holds. record {
      since = holds.since;
      earlier =
          let earlier = holds.earlier in
          elim (cases_eq holds.since (suc place)) [
            | inl e ↦ absurd (apart (sym (takes-here holds.since thread mutex e holds.taken).0))
            | inr ne ↦ omega arith
          ];
      taken = holds.taken;
      kept = λ between low high. holds.kept between low (omega arith);
    },
    λ holds. record {
      since = holds.since;
      earlier = let earlier = holds.earlier in omega arith;
      taken = holds.taken;
      kept = λ between low high gone. elim (cases_eq between (suc place)) [
        | inl e ↦ apart (sym (gone-here between thread mutex e gone).0)
        | inr ne ↦ holds.kept between low (omega arith) gone
      ];
    },
  )

  -- the sets of what each thread holds, after the event's step
  sets-after : (now : List MutexSet) (held after : MutexSet) → AreHeldNow events place now
      → slice_get now event.thread ≡ Some held → IsAfter event held after
      → AreHeldNow events (place + 1) (set now event.thread after)
  sets-after now held after before at_thread is thread those there mutex =
      rw add-one (elim (slice_get-set now event.thread thread after those there) [
        | inl (own, same) ↦
            let P : MutexSet → Type 0 = λ x. HasMutex x mutex
            ↔ HoldsMutex events thread mutex (suc (suc place)) in
            let Q : ℕ → Type 0 =
            λ t. HasMutex after mutex ↔ HoldsMutex events t mutex (suc (suc place)) in
            let own_is : HasMutex after mutex
            ↔ HoldsMutex events event.thread mutex (suc (suc place)) = (
              λ has. (holds-own mutex).1 (elim ((is mutex).0 has) [
                | inl takes ↦ inl takes
                | inr kept ↦ inr (kept.0, (before event.thread held at_thread mutex).0 kept.1)
              ]),
              λ holds. (is mutex).1 (elim ((holds-own mutex).0 holds) [
                | inl takes ↦ inl takes
                | inr kept ↦ inr (kept.0, (before event.thread held at_thread mutex).1 kept.1)
              ]),
            ) in
            subst P same (subst Q (sym own) own_is)
        | inr (apart, there_before) ↦ (
          λ has. (holds-other thread mutex apart).1
              ((before thread those there_before mutex).0 has),
          λ holds. (before thread those there_before mutex).1
              ((holds-other thread mutex apart).0 holds),
        )
      ])

  pub so-far-more : (sets now sets' : List MutexSet) (held after : MutexSet)
      → HeldSoFar events place sets now → slice_get now event.thread ≡ Some held
      → IsAfter event held after → sets' ≡ sets ++ held ∷ []
      → HeldSoFar events (place + 1) sets' (set now event.thread after)
  so-far-more sets now sets' held after so_far at_thread is pushed = record {
    whole = ap length pushed ∙ length_push sets held ∙ ap (λ n. n + 1) so_far.whole;
    threads = length-set now event.thread after ∙ so_far.threads;
    each = λ k other those there there_set mutex.
        elim (slice_get-push sets held those k (sym (ap (λ x. slice_get x k) pushed) ∙ there_set)) [
          | inl earlier ↦ so_far.each k other those there earlier mutex
          | inr (last, same) ↦
              let here : k ≡ place = last ∙ so_far.whole in
              let both : Some other ≡ Some event = sym there ∙ ap (slice_get events) here ∙ at in
              let one : event ≡ other = cc in
              let P : MutexSet → Type 0 =
              λ x. HasMutex x mutex ↔ HoldsMutex events other.thread mutex (suc k) in
              let Q : ℕ → Type 0 =
              λ n. HasMutex held mutex ↔ HoldsMutex events other.thread mutex (suc n) in
              let R : Event → Type 0 =
              λ e. HasMutex held mutex ↔ HoldsMutex events e.thread mutex (suc place) in
              subst P same (subst Q (sym here)
              (subst R one (so_far.next event.thread held at_thread mutex)))
        ];
    next = sets-after now held after so_far.next at_thread is;
  }
