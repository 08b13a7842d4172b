-- What is found of a failing run, and that it is one thing.
use Rattle.std.proofs.Common.{◌≡◌, ◌≢◌, ℕ, ◌<◌, ◌≤◌, Some, Option, List, length, sym, ap, subst}
use Rattle.std.proofs.Common.{◌∙◌, arith}
use Rattle.std.specs.List.{All, remove}
use Rattle.std.proofs.lemmas.List.{length-map}
use Rattle.std.proofs.lemmas.List.Elements.{All-get_or, All-weaker}
use Rattle.pct_ask.specs.declared.Deal.{Deal}
use Rattle.pct_ask.specs.declared.event.Event.{Event}
use Rattle.pct_ask.specs.declared.verdict.Verdict.{Verdict}
use Rattle.pct_ask.specs.declared.verdict.Verdict.TheVariants.{Passed}
use Rattle.pct_ask.specs.declared.verdict.Outcome.TheVariants.{Verdict as Ends}
use Rattle.pct_ask.specs.Bodies.{Pending}
use Rattle.rank_now.specs.declared.moment.Moment.{Moment}
use Rattle.rank_now.specs.Order.{IsOrder}
use Rattle.turn_book.specs.Posts.{schedule_of}
use Rattle.worker_run.specs.Run.{Run, run, directed_run}
use Rattle.worker_run.proofs.laws.WholeRuns.{directed-is-there, run-played}
use Rattle.directive_find.specs.declared.short.Short.{Short}
use Rattle.directive_find.specs.declared.finding.FoundOut.{FoundOut}
use Rattle.directive_find.specs.declared.finding.FoundOut.TheVariants.{Events, Passes}
use Rattle.choices.specs.Moments.{moments_of, MomentFits}
use Rattle.directive_find.specs.Reduced.{HasVerdict, NeedsFirst, Reduces, IsReduced}
use Rattle.directive_find.specs.Found.{HasOther, IsFinding, IsPass, Finds}
use Rattle.choices.proofs.laws.FewMoments.{moments-few}
use Rattle.directive_find.proofs.laws.FoundMoments.{found-run}
use Rattle.directive_find.proofs.laws.FittingMoments.{found-fit}
use Rattle.directive_find.proofs.laws.Reducing.{reduced-least, reduced-only, reduced-all}
use Rattle.directive_find.proofs.laws.Reducing.{reduced-few}

-- a run is one list of steps and one verdict
pub same-whole : (events other : List Event) (verdict last : Verdict) (whole : Option Run)
    → whole ≡ Some (events, verdict) → whole ≡ Some (other, last)
    → (events ≡ other) × (verdict ≡ last)
same-whole events other verdict last whole one two =
    let pair : ◌≡◌ {A = Run} (events, verdict) (other, last) =
    let e : ◌≡◌ {A = Option Run} (Some (events, verdict)) (Some (other, last)) = sym one
    ∙ two in cc in
    (ap (λ (r : Run). r.0) pair, ap (λ (r : Run). r.1) pair)

-- A step that there may be is one where there may be more.
pub fits-more : (threads steps more : ℕ) → steps ≤ more → (moments : List Moment)
    → All (MomentFits threads steps) moments → All (MomentFits threads more) moments
fits-more threads steps more within moments all =
    All-weaker (MomentFits threads steps) (MomentFits threads more)
    (λ m f. record { thread = f.thread; some = f.some; few = omega (arith, f.few, within) })
    moments all

module _ (deal : Deal) (bodies : List Pending) (order : List ℕ) (limit : ℕ) where
  -- Without any single moment of the list that is left the directed run has another verdict.
  pub needed-by : (verdict : Verdict) (moments : List Moment) → deal.threads ≡ length order
      → NeedsFirst (HasVerdict deal bodies order limit verdict) moments (length moments)
      → (place : ℕ) → place < length moments
      → HasOther deal bodies order limit verdict (remove moments place)
  needed-by verdict moments threads needs place within =
      let r = directed-is-there deal bodies order (remove moments place) limit threads in
      let P : Verdict → Type 0 = λ v. directed_run deal bodies order (remove moments place) limit
      ≡ Some ((r.0).0, v) in
      record {
        made = (r.0).0;
        other = (r.0).1;
        is_directed = r.1;
        apart = λ same. needs place within ((r.0).0, subst P same r.1);
      }

  module _ (points : List ℕ) where
    -- A run that doesn't pass, and its moments as they were reduced, are what is found.
    pub made-found : (made : List Event) (verdict : Verdict) (moments : List Moment) (short : Short)
        → IsOrder order → length order ≡ deal.threads → All (λ point. 1 ≤ point) points
        → length made ≤ limit
        → run deal bodies order points limit ≡ Some (made, verdict) → verdict ≢ Passed
        → moments ≡ moments_of (schedule_of made) points
        → IsReduced deal bodies order limit verdict moments short
        → IsFinding deal bodies order points limit short.moments verdict short.steps
    made-found made verdict moments short ordered whole some room is fails are reduces =
        let all = moments_of (schedule_of made) points in
        let R : List Moment → Type 0 = λ ms.
        Reduces (HasVerdict deal bodies order limit verdict) ms short.moments in
        let reduced = subst R are reduces.reduced in
        let fit = found-fit deal bodies order points limit made (Ends verdict) (sym whole)
        (λ k p. let one = All-get_or (λ point. 1 ≤ point) points k 0 p some in
        omega (arith, one)) (run-played deal bodies order points limit made verdict (sym whole)
        is) in
        let steps = length-map made (λ (e : Event). e.thread) in
        let near = fits-more deal.threads (length (schedule_of made)) limit
        (omega (arith, steps, room)) all fit in
        record {
          made = made;
          is_run = is;
          fails = fails;
          same_run = found-run deal bodies order points limit made verdict ordered (sym whole) is;
          reduced = reduced;
          leads = reduces.leads;
          needed =
              needed-by verdict short.moments (sym whole)
              (reduced-least (HasVerdict deal bodies order limit verdict) moments short.moments
              reduces.reduced);
          few =
              (let left = reduced-few (HasVerdict deal bodies order limit verdict) all short.moments
              reduced in let kept = moments-few (schedule_of made) points in omega arith);
          fit =
              reduced-all (HasVerdict deal bodies order limit verdict)
              (MomentFits deal.threads limit) (record { thread = 0; number = 0 }) all short.moments
              reduced near;
        }

    -- A run that passes.
    pub made-pass : (made : List Event) (verdict : Verdict) (steps : ℕ) → IsOrder order
        → length order ≡ deal.threads → run deal bodies order points limit ≡ Some (made, verdict)
        → verdict ≡ Passed → steps ≡ length made
        → IsPass deal bodies order points limit steps
    made-pass made verdict steps ordered whole is passed number =
        let V : Verdict → Type 0 = λ v. run deal bodies order points limit ≡ Some (made, v) in
        let run_is = subst V passed is in
        record {
          made = made;
          is_run = run_is;
          same_run =
              found-run deal bodies order points limit made Passed ordered (sym whole) run_is;
          number = number;
        }

    moments-once : (one other : List Moment) (verdict last : Verdict) (steps count : ℕ)
        → IsFinding deal bodies order points limit one verdict steps
        → IsFinding deal bodies order points limit other last count
        → Events one verdict steps ≡ Events other last count
    moments-once one other verdict last steps count a b =
        let same = same-whole b.made a.made last verdict (run deal bodies order points limit)
        b.is_run a.is_run in
        let M : List Event → Type 0 = λ es.
        Reduces (HasVerdict deal bodies order limit last) (moments_of (schedule_of es) points)
        other in
        let V : Verdict → Type 0 = λ v. Reduces (HasVerdict deal bodies order limit v)
        (moments_of (schedule_of a.made) points) other in
        let same_moments = reduced-only (HasVerdict deal bodies order limit verdict)
        (moments_of (schedule_of a.made) points) one other a.reduced
        (subst V same.1 (subst M same.0 b.reduced)) in
        let made = same-whole (b.leads).made (a.leads).made last verdict
        (directed_run deal bodies order other limit) (b.leads).is_directed
        (ap (λ ms. directed_run deal bodies order ms limit) (sym same_moments)
        ∙ (a.leads).is_directed) in
        let number : steps ≡ count = (a.leads).number ∙ ap length (sym made.0)
        ∙ sym (b.leads).number in
        let ends = same.1 in
        cc

    passes-not : (moments : List Moment) (verdict : Verdict) (steps count : ℕ)
        → IsFinding deal bodies order points limit moments verdict steps
        → IsPass deal bodies order points limit count → ⊥
    passes-not moments verdict steps count a b =
        a.fails (same-whole a.made b.made verdict Passed (run deal bodies order points limit)
        a.is_run b.is_run).1

    -- Of a deal, bodies, an order and points one thing is found.
    pub one_finding : (one other : FoundOut) → Finds deal bodies order points limit one
        → Finds deal bodies order points limit other → one ≡ other
    one_finding (Events one verdict steps) (Events other last count) a b =
        moments-once one other verdict last steps count a b
    one_finding (Events one verdict steps) (Passes count) a b =
        absurd (passes-not one verdict steps count a b)
    one_finding (Passes steps) (Events other last count) a b =
        absurd (passes-not other last count steps b a)
    one_finding (Passes steps) (Passes count) a b =
        ap Passes (a.number ∙ ap length (same-whole a.made b.made Passed Passed
        (run deal bodies order points limit) a.is_run b.is_run).0 ∙ sym b.number)
