-- Steps that obey one plan over one source of posts: of two such lists one begins with the other,
-- and what is settled
-- doesn't go on.
use Rattle.std.proofs.Common.{◌≡◌, ℕ, Bool, false, eqb, Option, Some, None, List, [], ◌∷◌, ◌++◌}
use Rattle.std.proofs.Common.{length, refl, sym, ap, subst, ◌∙◌, arith, ne_eqb}
use Rattle.std.proofs.lemmas.List.{append-nil, append_assoc, map-append, length-append}
use Rattle.pct_ask.specs.declared.Deal.{Deal}
use Rattle.pct_ask.specs.declared.event.Event.{Event}
use Rattle.pct_ask.specs.declared.verdict.Verdict.{Verdict}
use Rattle.pct_ask.specs.declared.verdict.Outcome.{Outcome}
use Rattle.sync_store.specs.Store.{first_store}
use Rattle.sync_store.specs.World.{Source, World, world_after}
use Rattle.policy_pick.specs.declared.chance.Pick.{Pick}
use Rattle.policy_pick.specs.declared.chance.Pick.TheVariants.{Thread}
use Rattle.policy_pick.specs.Plan.{Plan, SpeaksOf}
use Rattle.turn_book.specs.Posts.{schedule_of, KeepsPosts}
use Rattle.turn_book.specs.Chances.{rest_verdict}
use Rattle.turn_book.specs.Obeys.{next_posts_in, choice_in, Obeys, outcome_by_pick, outcome_by}
use Rattle.turn_book.specs.Obeys.{outcome_after}
use Rattle.turn_book.proofs.laws.Worlds.{cons-same, same-cut, IsMade, made-from, passes, last-step}
use Rattle.turn_book.proofs.laws.MorePosts.{choice-at, settled-at, obeys-more, settled-more}

-- one list begins with another
abbrev pub IsPrefix : List Event → List Event → Type 0
IsPrefix events whole = (rest : List Event) × (whole ≡ events ++ rest)

module _ (plan : Plan) (deal : Deal) (source : Source) where
  -- the first of the steps that obey are made as they stand
  front-made : (limit : ℕ) (events before after : List Event) → Obeys plan deal source limit events
      → events ≡ before ++ after → (world : World) × IsMade (first_store deal) source before world
  front-made limit events before after obeys cut =
      let w = made-from (first_store deal) source events obeys.made in
      let M : List Event → Type 0 = λ es. IsMade (first_store deal) source es w.0 in
      let p = passes (first_store deal) source before after w.0 (subst M cut w.1) in
      (p.world, p.made)

  -- after the same steps both take the same next one
  same-next : (limit : ℕ) (events other before after after_too : List Event) (e f : Event)
      → Obeys plan deal source limit events → Obeys plan deal source limit other
      → events ≡ before ++ e ∷ after → other ≡ before ++ f ∷ after_too → e ≡ f
  same-next limit events other before after after_too e f obeys obeys_too cut cut_too =
      let thread : e.thread ≡ f.thread =
      let both = sym (obeys.chosen before after e cut)
      ∙ obeys_too.chosen before after_too f cut_too in cc in
      let one = front-made limit events (before ++ e ∷ []) after obeys
      (cut ∙ sym (append_assoc before (e ∷ []) after)) in
      let two = front-made limit other (before ++ f ∷ []) after_too obeys_too
      (cut_too ∙ sym (append_assoc before (f ∷ []) after_too)) in
      let schedules : schedule_of (before ++ e ∷ []) ≡ schedule_of (before ++ f ∷ []) =
      map-append (λ (x : Event). x.thread) before (e ∷ [])
      ∙ ap (λ u. schedule_of before ++ u ∷ []) thread
      ∙ sym (map-append (λ (x : Event). x.thread) before (f ∷ [])) in
      let world : one.0 ≡ two.0 = let both = sym one.1.at
      ∙ ap (world_after (first_store deal) source) schedules ∙ two.1.at in cc in
      let lists : before ++ e ∷ [] ≡ before ++ f ∷ [] =
      sym one.1.trace ∙ ap (λ (w : World). w.events) world ∙ two.1.trace in
      (cons-same e f [] [] ((same-cut before (e ∷ []) before (f ∷ []) refl lists).1)).0

  -- one of them ends within the other, or they are one
  pub data Compared (events other : List Event) : Type 0 where
    Same : events ≡ other → Compared events other
    Shorter : (e : Event) (rest : List Event) → other ≡ events ++ e ∷ rest → Compared events other
    Longer : (e : Event) (rest : List Event) → events ≡ other ++ e ∷ rest → Compared events other

  compare-from : (limit : ℕ) (events other before after after_too : List Event)
      → Obeys plan deal source limit events → Obeys plan deal source limit other
      → events ≡ before ++ after → other ≡ before ++ after_too → Compared events other
  compare-from limit events other before [] [] obeys obeys_too cut cut_too =
      Same (cut ∙ sym cut_too)
  compare-from limit events other before [] (f ∷ after_too) obeys obeys_too cut cut_too =
      Shorter f after_too (cut_too ∙ ap (λ l. l ++ f ∷ after_too)
      (sym (append-nil before) ∙ sym cut))
  compare-from limit events other before (e ∷ after) [] obeys obeys_too cut cut_too =
      Longer e after (cut ∙ ap (λ l. l ++ e ∷ after) (sym (append-nil before) ∙ sym cut_too))
  compare-from limit events other before (e ∷ after) (f ∷ after_too) obeys obeys_too cut cut_too =
      let same = same-next limit events other before after after_too e f obeys obeys_too cut
      cut_too in
      compare-from limit events other (before ++ e ∷ []) after after_too obeys obeys_too
      (cut ∙ sym (append_assoc before (e ∷ []) after))
      (cut_too ∙ ap (λ x. before ++ x ∷ after_too) (sym same)
      ∙ sym (append_assoc before (e ∷ []) after_too))

  pub compare : (limit : ℕ) (events other : List Event) → Obeys plan deal source limit events
      → Obeys plan deal source limit other → Compared events other
  compare limit events other obeys obeys_too =
      compare-from limit events other [] events other obeys obeys_too refl refl

  -- nothing is settled before the last of steps that obey
  goes-on-by : (verdict : Option Verdict) (rest : Verdict) (full : Bool) (pick : Pick) (t : ℕ)
      → verdict ≡ None → full ≡ false → pick ≡ Thread t
      → outcome_by verdict (outcome_by_pick rest full pick) ≡ None
  goes-on-by verdict rest full pick t runs room goes =
      ap (λ v. outcome_by v (outcome_by_pick rest full pick)) runs
      ∙ ap (λ b. outcome_by_pick rest b pick) room
      ∙ ap (outcome_by_pick rest false) goes

  pub goes-on : (limit : ℕ) (events before after : List Event) (e : Event)
      → Obeys plan deal source limit events → events ≡ before ++ e ∷ after
      → outcome_after plan deal source limit before ≡ None
  goes-on limit events before after e obeys cut =
      let w = made-from (first_store deal) source events obeys.made in
      let M : List Event → Type 0 = λ es. IsMade (first_store deal) source es w.0 in
      let p = last-step (first_store deal) source before after e w.0 (subst M cut w.1) in
      let world = p.0 in
      let chosen : choice_in plan deal.threads source (schedule_of before) world ≡ Thread e.thread =
      let both = sym (choice-at plan deal source before world p.1)
      ∙ obeys.chosen before after e cut in cc in
      let room : eqb (length before) limit ≡ false =
      ne_eqb (length before) limit (λ full.
      omega (arith, obeys.within, ap length cut, length-append before (e ∷ after))) in
      settled-at plan deal source limit before world p.1
      ∙ goes-on-by world.verdict (rest_verdict deal.threads world.store
      (next_posts_in source world)) (eqb (length before) limit)
      (choice_in plan deal.threads source (schedule_of before) world) e.thread (p.2.1).runs room
      chosen

-- Steps that obey a plan over some posts are a prefix of steps that obey it over more posts and are
-- settled over these,
-- and equal to them where they are settled themselves.
pub record IsFrontOf (plan : Plan) (deal : Deal) (earlier : Source) (limit : ℕ)
    (events whole : List Event) : Type 0 where
  pub prefix : IsPrefix events whole
  pub equal : (outcome : Outcome) → outcome_after plan deal earlier limit events ≡ Some outcome
      → whole ≡ events

front-by : (plan : Plan) (deal : Deal) (earlier later : Source) (limit : ℕ)
    (events whole : List Event) (last : Outcome) → SpeaksOf plan deal.threads
    → KeepsPosts events earlier later
    → Obeys plan deal earlier limit events → Obeys plan deal later limit whole
    → outcome_after plan deal later limit whole ≡ Some last
    → Compared plan deal later events whole → IsFrontOf plan deal earlier limit events whole
front-by plan deal earlier later limit events whole last speaks keeps obeys obeys_too ends
    (Same same) = record {
      prefix = ([], sym same ∙ sym (append-nil events));
      equal = λ outcome is. sym same;
    }
front-by plan deal earlier later limit events whole last speaks keeps obeys obeys_too ends
    (Shorter e rest cut) = record {
      prefix = (e ∷ rest, cut);
      equal =
          λ outcome is. absurd (let none =
          sym (goes-on plan deal later limit whole events rest e obeys_too cut)
          ∙ settled-more plan deal earlier later limit events outcome speaks keeps obeys is in cc);
    }
front-by plan deal earlier later limit events whole last speaks keeps obeys obeys_too ends
    (Longer e rest cut) =
    absurd (let none = sym (goes-on plan deal later limit events whole rest e
    (obeys-more plan deal earlier later limit events keeps obeys) cut) ∙ ends in cc)

pub front-of : (plan : Plan) (deal : Deal) (earlier later : Source) (limit : ℕ)
    (events whole : List Event) (last : Outcome) → SpeaksOf plan deal.threads
    → KeepsPosts events earlier later
    → Obeys plan deal earlier limit events → Obeys plan deal later limit whole
    → outcome_after plan deal later limit whole ≡ Some last
    → IsFrontOf plan deal earlier limit events whole
front-of plan deal earlier later limit events whole last speaks keeps obeys obeys_too ends =
    front-by plan deal earlier later limit events whole last speaks keeps obeys obeys_too ends
    (compare plan deal later limit events whole
    (obeys-more plan deal earlier later limit events keeps obeys) obeys_too)
