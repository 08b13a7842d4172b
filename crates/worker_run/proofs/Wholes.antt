-- Steps that were played until a verdict, told again with that verdict.
use Rattle.std.proofs.Common.{◌≡◌, ℕ, List, Option, Some, sym, ap, subst, ◌∙◌}
use Rattle.pct_ask.specs.declared.Deal.{Deal}
use Rattle.pct_ask.specs.declared.event.Event.{Event}
use Rattle.pct_ask.specs.declared.verdict.Verdict.{Verdict}
use Rattle.pct_ask.specs.declared.verdict.Outcome.{Outcome}
use Rattle.pct_ask.specs.declared.verdict.Outcome.TheVariants.{Verdict as Ends}
use Rattle.pct_ask.specs.Bodies.{Pending}
use Rattle.policy_pick.specs.Plan.{Plan}
use Rattle.worker_run.specs.Run.{Run}
use Rattle.worker_run.specs.Played.{IsPlayed, IsRun}

one-verdict : (outcome : Outcome) (v w : Verdict) → outcome ≡ Ends v → outcome ≡ Ends w → v ≡ w
one-verdict outcome v w a b = let same : Ends v ≡ Ends w = sym a ∙ b in cc

pub told-run : (of : Option Run) (events told : List Event) (outcome : Outcome) (verdict : Verdict)
    → IsRun of events outcome → told ≡ events → outcome ≡ Ends verdict → of ≡ Some (told, verdict)
told-run of events told outcome verdict is same ends =
    is.steps ∙ ap (λ (v : Verdict). Some (events, v))
    (one-verdict outcome is.verdict verdict is.ends ends)
    ∙ ap (λ (es : List Event). Some (es, verdict)) (sym same)

pub told-played : (plan other : Plan) (deal : Deal) (bodies : List Pending) (limit : ℕ)
    (events told : List Event) (outcome : Outcome) (verdict : Verdict) → plan ≡ other
    → told ≡ events → outcome ≡ Ends verdict
    → IsPlayed plan deal bodies limit events outcome
    → IsPlayed other deal bodies limit told (Ends verdict)
told-played plan other deal bodies limit events told outcome verdict plans same ends played =
    let P : Plan → Type 0 = λ p. IsPlayed p deal bodies limit events outcome in
    let E : List Event → Type 0 = λ es. IsPlayed other deal bodies limit es outcome in
    let O : Outcome → Type 0 = λ o. IsPlayed other deal bodies limit told o in
    subst O ends (subst E (sym same) (subst P plans played))
