-- What is printed of a refusal ends as the refusal does, and in no other way.
use Rattle.std.proofs.Common.{◌≡◌, subst}
use Rattle.pct_top.specs.declared.refusal.Refusal.{Refusal}
use Rattle.pct_top.specs.declared.status.Status.{Status}
use Rattle.pct_top.specs.Refusing.{status_of_refusal}
use Rattle.pct_top.specs.Printed.{Printed, printed_refusal}

pub not_refused : (Ends : Status → Type 0) (refusal : Refusal) (printed : Printed)
    → printed ≡ printed_refusal refusal → (Ends (status_of_refusal refusal) → ⊥)
    → Ends printed.status → ⊥
not_refused Ends refusal printed is never holds =
    never (subst (λ (p : Printed). Ends p.status) is holds)
