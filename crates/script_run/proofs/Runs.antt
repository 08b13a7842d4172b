-- The runs of tests that were made of a script's code, and of the script.
use Rattle.std.proofs.Common.{◌≡◌, ℕ, List, Option, Some, map, sym, ◌∙◌}
use Rattle.std.proofs.Math.Path.{transport}
use Rattle.pct_ask.specs.declared.Deal.{Deal}
use Rattle.pct_ask.specs.declared.event.Event.{Event}
use Rattle.pct_ask.specs.declared.verdict.Verdict.{Verdict}
use Rattle.pct_ask.specs.declared.verdict.Outcome.{Outcome}
use Rattle.pct_ask.specs.declared.verdict.Outcome.TheVariants.{Verdict as Ends}
use Rattle.pct_ask.specs.Bodies.{Pending}
use Rattle.policy_pick.specs.Plan.{Plan}
use Rattle.script_body.specs.BodyPosts.{pending_of_body}
use Rattle.script_body.specs.declared.body.ScriptBody.{ScriptBody}
use Rattle.worker_run.specs.Run.{Run}
use Rattle.worker_run.specs.Played.{IsPlayed, IsRun}
use Rattle.worker_run.specs.Tests.{IsRunBy}
use Rattle.worker_run.specs.declared.played.Played.{Played}

-- ---- tests

-- the run of a test that was made of an equal deal, and of bodies that post the same
pub tried : (plan : Plan) (deal own : Deal) (bodies : List Pending) (given : List ScriptBody)
    (limit : ℕ) (ended : Played) → own ≡ deal → map pending_of_body given ≡ bodies
    → IsRunBy plan own (map pending_of_body given) limit ended
    → IsRunBy plan deal bodies limit ended
tried plan deal own bodies given limit ended same posts ran =
    let is : IsRunBy plan own (map pending_of_body given) limit ended
    ≡ IsRunBy plan deal bodies limit ended =
    λ i. IsRunBy plan (same i) (posts i) limit ended in
    transport is ran

-- ---- whole runs

-- a run that a verdict ended, as a whole one
pub told-run : (of : Option Run) (events told : List Event) (outcome : Outcome) (verdict : Verdict)
    → IsRun of events outcome → told ≡ events → outcome ≡ Ends verdict → of ≡ Some (told, verdict)
told-run of events told outcome verdict is same ends =
    let both : Ends is.verdict ≡ Ends verdict = sym is.ends ∙ ends in
    let one : is.verdict ≡ verdict = cc in
    is.steps ∙ (λ i. Some (sym same i, one i))

pub told-played : (plan : Plan) (deal : Deal) (bodies others : List Pending) (limit : ℕ)
    (events told : List Event) (outcome : Outcome) (verdict : Verdict) → bodies ≡ others
    → told ≡ events → outcome ≡ Ends verdict → IsPlayed plan deal bodies limit events outcome
    → IsPlayed plan deal others limit told (Ends verdict)
told-played plan deal bodies others limit events told outcome verdict posts same ends played =
    let steps : IsPlayed plan deal bodies limit events outcome
    ≡ IsPlayed plan deal others limit told (Ends verdict) =
    λ i. IsPlayed plan deal (posts i) limit (sym same i) (ends i) in
    transport steps played
