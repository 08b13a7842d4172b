-- How a world grows along a schedule.
use Rattle.std.proofs.Common.{◌≡◌, ℕ, true, cond, Option, Some, None, List, [], ◌∷◌, ◌++◌, length}
use Rattle.std.proofs.Common.{refl, sym, ap, ◌∙◌, arith}
use Rattle.std.specs.Prelude.{is_none}
use Rattle.std.specs.Option.{option_and_then, option_map}
use Rattle.std.proofs.lemmas.List.{append-nil, append_assoc, map-append, length-map}
use Rattle.std.proofs.lemmas.Option.{option_and_then_some, cond_some}
use Rattle.pct_ask.specs.declared.ask.Ask.{Ask}
use Rattle.pct_ask.specs.declared.ask.Post.{Post}
use Rattle.pct_ask.specs.declared.event.Event.{Event}
use Rattle.pct_ask.specs.declared.verdict.Verdict.{Verdict}
use Rattle.sync_store.specs.Store.{StoreState}
use Rattle.sync_store.specs.Enabled.{enabled}
use Rattle.sync_store.specs.Effect.{Effect, Goes, Stops, effect, store_after}
use Rattle.sync_store.specs.World.{Source, World, first_world, has_ended, with_effect, step_on}
use Rattle.sync_store.specs.World.{step_by, world_by_step, world_from, world_after}
use Rattle.turn_book.specs.Posts.{schedule_of}
use Rattle.turn_book.specs.Board.{answer_of, verdict_of}

-- ---- lists
pub cons-same : {A : Type 0} (x y : A) (xs ys : List A) → x ∷ xs ≡ y ∷ ys → (x ≡ y) × (xs ≡ ys)
cons-same x y xs ys e = (cc, cc)

-- equal lists that are cut at one length have equal fronts, and equal rests
pub same-cut : {A : Type 0} (a b c d : List A) → length a ≡ length c → a ++ b ≡ c ++ d
    → (a ≡ c) × (b ≡ d)
same-cut [] b [] d long e = (refl, e)
same-cut [] b (y ∷ c) d long e = absurd (omega arith)
same-cut (x ∷ a) b [] d long e = absurd (omega arith)
same-cut (x ∷ a) b (y ∷ c) d long e =
    let parts = cons-same x y (a ++ b) (c ++ d) e in
    let rest = same-cut a b c d (omega arith) parts.1 in
    (ap (λ z. z ∷ a) parts.0 ∙ ap (λ l. y ∷ l) rest.0, rest.1)

-- what a map of an option gives comes from what the option has
pub map-some : {A B : Type 0} (f : A → B) (o : Option A) (y : B) → option_map f o ≡ Some y
    → (x : A) × (o ≡ Some x) × (f x ≡ y)
map-some f None y e = absurd cc
map-some f (Some x) y e = (x, refl, cc)

-- ---- one step
-- the step as the trace has it
abbrev pub event_of : ℕ → ℕ → Ask → Effect → Event
event_of t line ask step = record { thread = t; line = line; ask = ask; answer = answer_of step }

pub effect-is : (world : World) (t line : ℕ) (ask : Ask) (step : Effect)
    → with_effect world t line ask step ≡ record {
      store = store_after world.store step;
      events = world.events ++ event_of t line ask step ∷ [];
      verdict = verdict_of step;
    }
effect-is world t line ask (Goes after answer) = refl
effect-is world t line ask (Stops verdict) = refl

-- what a step tells of the world before it, and the world after it
pub record Steps (source : Source) (world : World) (t : ℕ) (next : World) : Type 0 where
  pub post : Post
  pub ask : Ask
  pub runs : world.verdict ≡ None
  pub posted : source t world.events ≡ Some post
  pub asks : post.ask ≡ Some ask
  pub goes : enabled world.store (has_ended source world.events) t ask ≡ true
  pub next_is : with_effect world t post.line ask (effect world.store t post.line ask) ≡ next

runs-by : (v : Option Verdict) (o : Option World) (next : World)
    → cond (is_none v) o None ≡ Some next → (v ≡ None) × (o ≡ Some next)
runs-by None o next e = (refl, e)
runs-by (Some verdict) o next e = absurd cc

steps-by-ask : (source : Source) (world next : World) (t : ℕ) (post : Post) (ask : Option Ask)
    → world.verdict ≡ None → source t world.events ≡ Some post → post.ask ≡ ask
    → step_on source world t post.line ask ≡ Some next → Steps source world t next
steps-by-ask source world next t post None runs posted asks e = absurd cc
steps-by-ask source world next t post (Some ask) runs posted asks e =
    let parts = cond_some (enabled world.store (has_ended source world.events) t ask)
    (with_effect world t post.line ask (effect world.store t post.line ask)) next e in
    record {
      post = post;
      ask = ask;
      runs = runs;
      posted = posted;
      asks = asks;
      goes = parts.0;
      next_is = parts.1;
    }

steps-by-post : (source : Source) (world next : World) (t : ℕ) (post : Option Post)
    → world.verdict ≡ None → source t world.events ≡ post → step_by source world t post ≡ Some next
    → Steps source world t next
steps-by-post source world next t None runs posted e = absurd cc
steps-by-post source world next t (Some post) runs posted e =
    steps-by-ask source world next t post post.ask runs posted refl e

pub steps-from : (source : Source) (world : World) (t : ℕ) (next : World)
    → world_by_step source world t ≡ Some next → Steps source world t next
steps-from source world t next e =
    let parts = runs-by world.verdict (step_by source world t (source t world.events)) next e in
    steps-by-post source world next t (source t world.events) parts.0 refl parts.1

pub step-is : (source : Source) (world : World) (t : ℕ) (next : World) → Steps source world t next
    → world_by_step source world t ≡ Some next
step-is source world t next steps =
    ap (λ v. cond (is_none v) (step_by source world t (source t world.events)) None) steps.runs
    ∙ ap (step_by source world t) steps.posted
    ∙ ap (step_on source world t (steps.post).line) steps.asks
    ∙ ap (λ b. cond b (Some (with_effect world t (steps.post).line steps.ask
    (effect world.store t (steps.post).line steps.ask))) None) steps.goes
    ∙ ap Some steps.next_is

-- a step adds one event, by its thread
pub step-event : (source : Source) (world : World) (t : ℕ) (next : World)
    → Steps source world t next → (e : Event) × (next.events ≡ world.events ++ e ∷ [])
    × (e.thread ≡ t)
step-event source world t next steps =
    let step = effect world.store t (steps.post).line steps.ask in (
      event_of t (steps.post).line steps.ask step,
      ap (λ (w : World). w.events) (sym steps.next_is
          ∙ effect-is world t (steps.post).line steps.ask step),
      refl,
    )

-- ---- schedules
append-by : (source : Source) (xs ys : List ℕ)
    → ((next : World) → world_from source next (xs ++ ys)
    ≡ option_and_then (λ w. world_from source w ys) (world_from source next xs))
    → (o : Option World)
    → option_and_then (λ next. world_from source next (xs ++ ys)) o
    ≡ option_and_then (λ w. world_from source w ys)
    (option_and_then (λ next. world_from source next xs) o)
append-by source xs ys rest None = refl
append-by source xs ys rest (Some next) = rest next

pub world_from-append : (source : Source) (xs ys : List ℕ) (world : World)
    → world_from source world (xs ++ ys)
    ≡ option_and_then (λ w. world_from source w ys) (world_from source world xs)
world_from-append source [] ys world = refl
world_from-append source (t ∷ xs) ys world =
    append-by source xs ys (world_from-append source xs ys) (world_by_step source world t)

-- the events after a schedule are those before it and one for each of its threads
pub record Grows (earlier later : World) (schedule : List ℕ) : Type 0 where
  pub more : List Event
  pub events : later.events ≡ earlier.events ++ more
  pub threads : schedule_of more ≡ schedule

pub grows : (source : Source) (schedule : List ℕ) (world later : World)
    → world_from source world schedule ≡ Some later → Grows world later schedule
grows source [] world later e = record {
  more = [];
  events = let same : world ≡ later = cc in
      ap (λ (w : World). w.events) (sym same) ∙ sym (append-nil world.events);
  threads = refl;
}
grows source (t ∷ schedule) world later e =
    option_and_then_some (λ next. world_from source next schedule) (world_by_step source world t)
    later e (λ next first rest.
    let event = step-event source world t next (steps-from source world t next first) in
    let tail = grows source schedule next later rest in
    record {
      more = event.0 ∷ tail.more;
      events =
          tail.events ∙ ap (λ l. l ++ tail.more) event.1
          ∙ append_assoc world.events (event.0 ∷ []) tail.more;
      threads = ap (λ u. u ∷ schedule_of tail.more) event.2 ∙ ap (λ l. t ∷ l) tail.threads;
    })

-- ---- a world whose events are known, and the worlds on the way to it
pub record IsMade (store : StoreState) (source : Source) (events : List Event)
    (world : World) : Type 0 where
  pub at : world_after store source (schedule_of events) ≡ Some world
  pub trace : world.events ≡ events

pub made-from : (store : StoreState) (source : Source) (events : List Event)
    → option_map (λ world. world.events) (world_after store source (schedule_of events))
    ≡ Some events → (world : World) × IsMade store source events world
made-from store source events made =
    let w = map-some (λ (world : World). world.events)
    (world_after store source (schedule_of events)) events made in
    (w.0, record { at = w.1; trace = w.2 })

pub made-events : (store : StoreState) (source : Source) (events : List Event) (world : World)
    → IsMade store source events world
    → option_map (λ world. world.events) (world_after store source (schedule_of events))
    ≡ Some events
made-events store source events world made =
    ap (option_map (λ (world : World). world.events)) made.at ∙ ap Some made.trace

-- the world after the first of the steps
pub record Passes (store : StoreState) (source : Source) (before after : List Event)
    (last : World) : Type 0 where
  pub world : World
  pub made : IsMade store source before world
  pub rest : world_from source world (schedule_of after) ≡ Some last

pub passes : (store : StoreState) (source : Source) (before after : List Event) (last : World)
    → IsMade store source (before ++ after) last → Passes store source before after last
passes store source before after last made =
    let split = sym (world_from-append source (schedule_of before) (schedule_of after)
    (first_world store)) ∙ ap (world_after store source)
    (sym (map-append (λ (e : Event). e.thread) before after)) ∙ made.at in
    option_and_then_some (λ w. world_from source w (schedule_of after))
    (world_from source (first_world store) (schedule_of before)) last split (λ world at rest.
    let front = grows source (schedule_of before) (first_world store) world at in
    let back = grows source (schedule_of after) world last rest in
    let long : length before ≡ length world.events =
    sym (length-map before (λ (e : Event). e.thread)) ∙ ap length (sym front.threads)
    ∙ length-map front.more (λ (e : Event). e.thread) ∙ ap length (sym front.events) in
    let cut = same-cut before after world.events back.more long (sym made.trace ∙ back.events) in
    record { world = world; made = record { at = at; trace = sym cut.0 }; rest = rest })

-- one more step
pub made-push : (store : StoreState) (source : Source) (events : List Event) (world next : World)
    (e : Event) → IsMade store source events world → Steps source world e.thread next
    → next.events ≡ events ++ e ∷ [] → IsMade store source (events ++ e ∷ []) next
made-push store source events world next e made steps is = record {
  at = ap (world_after store source) (map-append (λ (e : Event). e.thread) events (e ∷ []))
      ∙ world_from-append source (schedule_of events) (e.thread ∷ []) (first_world store)
      ∙ ap (option_and_then (λ w. world_from source w (e.thread ∷ []))) made.at
      ∙ ap (option_and_then (λ w. world_from source w []))
      (step-is source world e.thread next steps);
  trace = is;
}

-- the last step
pub last-step : (store : StoreState) (source : Source) (before after : List Event) (e : Event)
    (last : World) → IsMade store source (before ++ e ∷ after) last
    → (world : World) × IsMade store source before world
    × ((next : World) × Steps source world e.thread next)
last-step store source before after e last made =
    let p = passes store source before (e ∷ after) last made in
    option_and_then_some (λ next. world_from source next (schedule_of after))
    (world_by_step source p.world e.thread) last p.rest (λ next first rest.
    (p.world, p.made, (next, steps-from source p.world e.thread next first)))
