-- Over bodies only one list of steps obeys a plan and is settled, with one outcome.
use Rattle.std.proofs.Common.{◌≡◌, ℕ, List, sym, ap, ◌∙◌}
use Rattle.pct_ask.specs.declared.Deal.{Deal}
use Rattle.pct_ask.specs.declared.event.Event.{Event}
use Rattle.pct_ask.specs.declared.verdict.Outcome.{Outcome}
use Rattle.pct_ask.specs.Bodies.{Pending}
use Rattle.policy_pick.specs.Plan.{Plan}
use Rattle.turn_book.specs.Obeys.{outcome_after}
use Rattle.turn_book.proofs.laws.Prefixes.{Compared, Same, Shorter, Longer, compare, goes-on}
use Rattle.worker_run.specs.Bodies.{source_of_bodies}
use Rattle.worker_run.specs.Played.{IsPlayed}

only-by : (plan : Plan) (deal : Deal) (bodies : List Pending) (limit : ℕ)
    (events other : List Event) (outcome last : Outcome)
    → IsPlayed plan deal bodies limit events outcome → IsPlayed plan deal bodies limit other last
    → Compared plan deal (source_of_bodies bodies) events other
    → (events ≡ other) × (outcome ≡ last)
only-by plan deal bodies limit events other outcome last one two (Same same) = (
  same,
  let both = sym one.ends ∙ ap (outcome_after plan deal (source_of_bodies bodies) limit)
      same ∙ two.ends in cc,
)
only-by plan deal bodies limit events other outcome last one two (Shorter e rest cut) =
    absurd (let both = sym (goes-on plan deal (source_of_bodies bodies) limit other events rest e
    two.obeys cut) ∙ one.ends in cc)
only-by plan deal bodies limit events other outcome last one two (Longer e rest cut) =
    absurd (let both = sym (goes-on plan deal (source_of_bodies bodies) limit events other rest e
    one.obeys cut) ∙ two.ends in cc)

pub only-played : (plan : Plan) (deal : Deal) (bodies : List Pending) (limit : ℕ)
    (events other : List Event) (outcome last : Outcome)
    → IsPlayed plan deal bodies limit events outcome → IsPlayed plan deal bodies limit other last
    → (events ≡ other) × (outcome ≡ last)
only-played plan deal bodies limit events other outcome last one two =
    only-by plan deal bodies limit events other outcome last one two
    (compare plan deal (source_of_bodies bodies) limit events other one.obeys two.obeys)
