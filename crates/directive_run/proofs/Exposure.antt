-- The answers of exposing a directive are what is said of them.
use Rattle.std.proofs.Common.{◌≡◌, ℕ, ◌<◌, ◌≤◌, Some, List, length, sym, ap, subst, ◌∙◌, arith}
use Rattle.std.specs.List.{All}
use Rattle.std.proofs.lemmas.List.{length-map}
use Rattle.pct_ask.specs.declared.Deal.{Deal}
use Rattle.pct_ask.specs.declared.event.Event.{Event}
use Rattle.pct_ask.specs.declared.verdict.Verdict.{Verdict}
use Rattle.pct_ask.specs.declared.verdict.Outcome.TheVariants.{Verdict as Ends}
use Rattle.pct_ask.specs.Bodies.{Pending}
use Rattle.rank_now.specs.declared.moment.Moment.{Moment}
use Rattle.turn_book.specs.Posts.{schedule_of}
use Rattle.worker_run.specs.Run.{run, directed_run}
use Rattle.worker_run.specs.declared.played.Played.{Played}
use Rattle.choices.specs.Points.{points_of}
use Rattle.choices.specs.PointLists.{IsWithin}
use Rattle.directive_run.specs.Exposing.{IsExposed, RunsTooLong}
use Rattle.directive_run.proofs.laws.ExposedPoints.{exposed-run, points-within}

pub too-long : (deal : Deal) (bodies : List Pending) (order : List ℕ) (lent moments : List Moment)
    (steps limit many : ℕ) (made : List Event) (verdict : Verdict) → lent ≡ moments
    → directed_run deal bodies order lent limit ≡ Some (made, verdict) → many ≡ length made
    → steps < many → RunsTooLong deal bodies order moments steps limit many
too-long deal bodies order lent moments steps limit many made verdict same is number long =
    record {
      made = made;
      verdict = verdict;
      is_directed =
          ap (λ es. directed_run deal bodies order es limit) (sym same) ∙ is;
      number = number;
      long = long;
    }

-- the points of the directed run's moments, and this run as it was played
pub exposed : (deal : Deal) (bodies : List Pending) (order : List ℕ) (lent moments : List Moment)
    (steps limit : ℕ) (made : List Event) (verdict : Verdict) (points : List ℕ) (played : Played)
    → 1 ≤ steps → lent ≡ moments → directed_run deal bodies order lent limit
    ≡ Some (made, verdict) → length made ≤ steps
    → points ≡ points_of (schedule_of made) steps lent → played.events ≡ made
    → played.outcome ≡ Ends verdict → IsExposed deal bodies order moments steps limit points played
exposed deal bodies order lent moments steps limit made verdict points played some same is short
    pointed of_made ends =
    let room : length (schedule_of made) ≤ steps =
    omega (arith, length-map made (λ (e : Event). e.thread)) in
    let runs = exposed-run deal bodies order lent limit steps made verdict room is in
    let E : List Event → Type 0 = λ es. directed_run deal bodies order moments limit
    ≡ Some (es, verdict) in
    let R : List Event → Type 0 = λ es. run deal bodies order points limit ≡ Some (es, verdict) in
    let S : List Event → Type 0 = λ es. length es ≤ steps in
    let P : List Event → Type 0 = λ es. points ≡ points_of (schedule_of es) steps moments in
    let W : List ℕ → Type 0 = All (IsWithin steps) in
    record {
      verdict = verdict;
      ends = ends;
      is_directed =
          subst E (sym of_made) (ap (λ es. directed_run deal bodies order es limit) (sym same)
          ∙ is);
      short = subst S (sym of_made) short;
      points_are = subst P (sym of_made) (pointed ∙ ap (points_of (schedule_of made) steps) same);
      within = subst W (sym pointed) (points-within (schedule_of made) steps lent room some);
      is_run = subst R (sym of_made) (ap (λ ps. run deal bodies order ps limit) pointed ∙ runs);
    }
