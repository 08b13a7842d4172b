-- The moments of a run have its threads, and numbers from 1 up to its steps.
use Rattle.std.proofs.Common.{◌≡◌, ℕ, zero, suc, ◌-◌, ◌<◌, ◌≤◌, Bool, true, false, not, cond, eqb}
use Rattle.std.proofs.Common.{leb, List, [], ◌∷◌, ◌++◌, length, get_or, take, refl, sym, ap, ◌∙◌}
use Rattle.std.proofs.Common.{arith, eq-eqb, add-one}
use Rattle.std.specs.List.{All, count_by, list_any}
use Rattle.std.proofs.lemmas.List.{take_all}
use Rattle.std.proofs.lemmas.List.Elements.{All-nil, All-cons}
use Rattle.std.proofs.lemmas.List.Sums.{count_by-le-length}
use Rattle.std.proofs.lemmas.Bool.{and_parts}
use Rattle.std.proofs.lemmas.Bool.Decides.{nat_tests}
use Rattle.pct_ask.specs.declared.Deal.{Deal}
use Rattle.pct_ask.specs.declared.event.Event.{Event}
use Rattle.pct_ask.specs.declared.verdict.Outcome.{Outcome}
use Rattle.pct_ask.specs.Bodies.{Pending}
use Rattle.rank_now.specs.Positions.{passes_at}
use Rattle.rank_now.specs.Rank.{own_steps}
use Rattle.rank_now.proofs.laws.Positions.{passes_at-read}
use Rattle.policy_pick.specs.Plan.{ByPoints}
use Rattle.turn_book.specs.Posts.{schedule_of}
use Rattle.turn_book.proofs.laws.ObeyingSteps.{obeys-within}
use Rattle.worker_run.specs.Bodies.{source_of_bodies}
use Rattle.worker_run.specs.Played.{IsPlayed}
use Rattle.worker_run.proofs.laws.Moments.{own-step, own-rises}
use Rattle.choices.specs.Moments.{moment_at, is_kept, moments_of, MomentFits}

module _ (schedule : List ℕ) (threads : ℕ)
    (below : (k : ℕ) → k < length schedule → get_or schedule k 0 < threads) where
  moment-fits : (point : ℕ) → 0 < point → point ≤ length schedule
      → MomentFits threads (length schedule) (moment_at schedule point)
  moment-fits zero some within = absurd (omega arith)
  moment-fits (suc k) some within =
      let m = moment_at schedule (suc k) in
      let place : k ≡ suc k - 1 = omega arith in
      let here : get_or schedule k 0 ≡ m.thread = ap (λ x. get_or schedule x 0) place in
      let took : passes_at (λ other. eqb other m.thread) schedule (suc k) ≡ true =
      ap (passes_at (λ other. eqb other m.thread) schedule) (sym (add-one k))
      ∙ passes_at-read (λ other. eqb other m.thread) schedule k 0 (omega arith)
      ∙ eq-eqb (get_or schedule k 0) m.thread here in
      let more = own-step m.thread schedule k took in
      let rises = own-rises m.thread schedule (suc k) (length schedule) within in
      let all : count_by (λ other. eqb other m.thread) (take (length schedule) schedule)
      ≡ count_by (λ other. eqb other m.thread) schedule =
      ap (count_by (λ other. eqb other m.thread))
      (take_all (length schedule) schedule (omega arith)) in
      let few = count_by-le-length (λ other. eqb other m.thread) schedule in
      let number : m.number ≡ own_steps schedule m.thread (suc k) = refl in
      record {
        thread = (let b = below k (omega arith) in omega (arith, here));
        some = omega arith;
        few = omega arith;
      }

  fit-by : (point : ℕ) (later : List ℕ) → 0 < point → (b : Bool) → is_kept schedule point later ≡ b
      → All (MomentFits threads (length schedule)) (moments_of schedule later)
      → All (MomentFits threads (length schedule))
      (cond b (moment_at schedule point ∷ moments_of schedule later) (moments_of schedule later))
  fit-by point later some true is rest =
      let parts = and_parts (leb point (length schedule))
      (not (list_any (λ other. eqb other point) later)) is in
      let first = parts.0 in
      All-cons (MomentFits threads (length schedule)) (moment_at schedule point)
      (moments_of schedule later) (moment-fits point some (grind (arith, nat_tests))) rest
  fit-by point later some false is rest = rest

  pub moments-fit : (points : List ℕ) → ((k : ℕ) → k < length points → 0 < get_or points k 0)
      → All (MomentFits threads (length schedule)) (moments_of schedule points)
  moments-fit [] some = All-nil (MomentFits threads (length schedule))
  moments-fit (point ∷ later) some =
      fit-by point later (some 0 (omega arith)) (is_kept schedule point later) refl
      (moments-fit later (λ k p. some (suc k) (omega arith)))

-- the threads of a run's steps
below-by : (threads : ℕ) (events : List Event)
    → ((e : Event) (before after : List Event) → events ≡ before ++ e ∷ after → e.thread < threads)
    → (k : ℕ) → k < length (schedule_of events) → get_or (schedule_of events) k 0 < threads
below-by threads [] within k p = absurd (omega arith)
below-by threads (e ∷ es) within zero p = within e [] es refl
below-by threads (e ∷ es) within (suc k) p =
    below-by threads es (λ x before after cut. within x (e ∷ before) after (ap (λ l. e ∷ l) cut)) k
    (omega arith)

pub found-fit : (deal : Deal) (bodies : List Pending) (order points : List ℕ) (limit : ℕ)
    (events : List Event) (outcome : Outcome) → deal.threads ≡ length order
    → ((k : ℕ) → k < length points → 0 < get_or points k 0)
    → IsPlayed (ByPoints order points) deal bodies limit events outcome
    → All (MomentFits deal.threads (length (schedule_of events)))
    (moments_of (schedule_of events) points)
found-fit deal bodies order points limit events outcome threads some played =
    moments-fit (schedule_of events) deal.threads
    (below-by deal.threads events (obeys-within (ByPoints order points) deal
    (source_of_bodies bodies) limit events threads played.obeys)) points some
