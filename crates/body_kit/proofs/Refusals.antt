-- The refusals of an order's policy are those of its test.
use Rattle.std.proofs.Common.{◌≡◌, ℕ, List, Result, Ok, Err, sym, ap, ◌∙◌}
use Rattle.std.specs.Result.{IsErrAnd}
use Rattle.policy_pick.specs.declared.pct.Pct.{Pct}
use Rattle.rank_now.specs.Order.{IsFirstWrong}
use Rattle.rank_now.specs.declared.order.RankError.{RankError}
use Rattle.rank_now.specs.declared.order.RankError.TheVariants as ranks
use Rattle.body_kit.specs.declared.error.KitError.{KitError}
use Rattle.body_kit.specs.declared.error.KitError.TheVariants.{NotAnOrder}
use Rattle.body_kit.specs.Refusals.{CountsFit, IsWrongOrder, as_kit_error}

abbrev refused : RankError → Result Pct RankError
refused e = Err e

same-order : (e : RankError) (k : KitError) (at : ℕ) → k ≡ as_kit_error e → k ≡ NotAnOrder at
    → e ≡ ranks.NotAnOrder at
same-order (ranks.NotAnOrder place) k at is e = let same : place ≡ at = let both = sym is ∙ e in
    cc in ap ranks.NotAnOrder same
same-order ranks.NoMemory k at is e = let both = sym is ∙ e in cc

module _ (threads bodies : ℕ) (order : List ℕ) (fits : CountsFit threads bodies order)
    (e : RankError) where
  pub from-policy : (r : Result Pct KitError) → IsErrAnd r (λ k. k ≡ as_kit_error e)
      → ((at : ℕ) → (refused e ≡ refused (ranks.NotAnOrder at) → IsFirstWrong order at)
      × (IsFirstWrong order at → refused e ≡ refused (ranks.NotAnOrder at)))
      → (at : ℕ) → (r ≡ Err (NotAnOrder at) → IsWrongOrder threads bodies order at)
      × (IsWrongOrder threads bodies order at → r ≡ Err (NotAnOrder at))
  from-policy (Ok p) none told at = absurd none
  from-policy (Err k) is told at = (
    (λ was. let here : k ≡ NotAnOrder at = cc in
        record { fits = fits; first = (told at).0 (ap refused (same-order e k at is here)) }),
    (λ w. let there : e ≡ ranks.NotAnOrder at = let both = (told at).1 w.first in cc in
        ap Err (is ∙ ap as_kit_error there)),
  )

abbrev as_result : {X : Type 0} → KitError → Result X KitError
as_result e = Err e

-- an error that is handed on
pub handed-on : {X Y Q : Type 0} (r : Result Y KitError) (e k : KitError) → IsErrAnd r (λ x. x ≡ e)
    → (as_result {X = X} e ≡ as_result k → Q) × (Q → as_result {X = X} e ≡ as_result k)
    → (r ≡ Err k → Q) × (Q → r ≡ Err k)
handed-on (Ok y) e k none told = absurd none
handed-on {X} (Err x) e k is told = (
  (λ was. let here : x ≡ k = cc in told.0 (ap (as_result {X = X}) (sym is ∙ here))),
  (λ q. let there = told.1 q in let same : e ≡ k = cc in ap Err (is ∙ same)),
)
