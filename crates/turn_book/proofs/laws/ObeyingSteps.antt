-- Steps that obey a plan: the first ones, and one more.
use Rattle.std.proofs.Common.{◌≡◌, ℕ, ◌<◌, Some, List, [], ◌∷◌, ◌++◌, length, refl, sym, ap, subst}
use Rattle.std.proofs.Common.{◌∙◌, arith, ◌⊎◌, inl, inr}
use Rattle.std.specs.Option.{option_map}
use Rattle.std.proofs.lemmas.List.{length-append}
use Rattle.pct_ask.specs.declared.Deal.{Deal}
use Rattle.pct_ask.specs.declared.event.Event.{Event}
use Rattle.sync_store.specs.Store.{first_store}
use Rattle.sync_store.specs.World.{Source, world_after}
use Rattle.policy_pick.specs.declared.chance.Pick.TheVariants.{Thread}
use Rattle.policy_pick.specs.Plan.{Plan, SpeaksOf}
use Rattle.turn_book.specs.Chances.{chances}
use Rattle.turn_book.specs.Posts.{schedule_of}
use Rattle.turn_book.specs.Obeys.{choice_in, choice_after, Obeys}
use Rattle.turn_book.proofs.laws.Worlds.{map-some, cons-same}
use Rattle.turn_book.proofs.laws.MorePosts.{chosen-ready}
use Rattle.turn_book.proofs.Boards.{length-chances}

pub nil-cut : {X : Type 0} (before after : List X) (x : X) → [] ≡ before ++ x ∷ after → ⊥
nil-cut [] after x e = cc
nil-cut (y ∷ before) after x e = cc

-- a list with one more item, cut: behind that item, or before it
snoc-cut : (events : List Event) (e : Event) (before after : List Event) (f : Event)
    → events ++ e ∷ [] ≡ before ++ f ∷ after
    → ((before ≡ events) × (f ≡ e)) ⊎ ((rest : List Event) × (events ≡ before ++ f ∷ rest))
snoc-cut [] e [] after f cut = inl (refl, sym ((cons-same e f [] after cut).0))
snoc-cut [] e (b ∷ before) after f cut =
    absurd (nil-cut before after f ((cons-same e b [] (before ++ f ∷ after) cut).1))
snoc-cut (x ∷ events) e [] after f cut =
    inr (events, ap (λ y. y ∷ events) ((cons-same x f (events ++ e ∷ []) after cut).0))
snoc-cut (x ∷ events) e (b ∷ before) after f cut =
    let parts = cons-same x b (events ++ e ∷ []) (before ++ f ∷ after) cut in
    elim (snoc-cut events e before after f parts.1) [
      | inl w ↦ inl (ap (λ y. y ∷ before) (sym parts.0) ∙ ap (λ l. x ∷ l) w.0, w.1)
      | inr w ↦ inr (w.0, ap (λ y. y ∷ events) parts.0 ∙ ap (λ l. b ∷ l) w.1)
    ]

module _ (plan : Plan) (deal : Deal) (source : Source) (limit : ℕ) where
  -- the thread of each step is one of the deal's
  pub obeys-within : (events : List Event) → SpeaksOf plan deal.threads
      → Obeys plan deal source limit events → (e : Event) (before after : List Event)
      → events ≡ before ++ e ∷ after → e.thread < deal.threads
  obeys-within events speaks obeys e before after cut =
      let w = map-some (choice_in plan deal.threads source (schedule_of before))
      (world_after (first_store deal) source (schedule_of before)) (Thread e.thread)
      (obeys.chosen before after e cut) in
      let all = chances deal.threads (w.0).store (λ t. source t (w.0).events) in
      let long = length-chances deal.threads (w.0).store (λ t. source t (w.0).events) in
      let Speaks : ℕ → Type 0 = SpeaksOf plan in
      omega (
        arith,
        (chosen-ready plan (schedule_of before) all e.thread
            (subst Speaks (sym long) speaks) w.2).0,
      )

  -- one more step obeys, where its thread is chosen and there is room
  pub obeys-push : (events : List Event) (e : Event) → Obeys plan deal source limit events
      → choice_after plan deal source (schedule_of events) ≡ Some (Thread e.thread)
      → option_map (λ world. world.events)
      (world_after (first_store deal) source (schedule_of (events ++ e ∷ [])))
      ≡ Some (events ++ e ∷ []) → length events < limit
      → Obeys plan deal source limit (events ++ e ∷ [])
  obeys-push events e obeys chosen made room = record {
    chosen = λ before after f cut. elim (snoc-cut events e before after f cut) [
      | inl w ↦ ap (λ es. choice_after plan deal source (schedule_of es)) w.0 ∙ chosen
          ∙ ap (λ (x : Event). Some (Thread x.thread)) (sym w.1)
      | inr w ↦ obeys.chosen before w.0 f w.1
    ];
    made = made;
    within = omega (arith, length-append events (e ∷ []));
  }

  -- no steps obey
  pub obeys-none : Obeys plan deal source limit []
  obeys-none = record {
    chosen = λ before after e cut. absurd (nil-cut before after e cut);
    made = refl;
    within = omega arith;
  }
