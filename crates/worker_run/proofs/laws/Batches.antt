-- One more test in a list of tests.
use Rattle.std.proofs.Common.{◌≡◌, ℕ, List, [], ◌∷◌, ◌++◌, sym, subst, inl, inr}
use Rattle.policy_pick.specs.Plan.{Plan}
use Rattle.pct_ask.specs.Bodies.{Pending}
use Rattle.worker_run.specs.Tests.{IsTest, AreTests}
use Rattle.worker_run.specs.declared.batch.Test.{Test}
use Rattle.worker_run.proofs.Eachs.{get-more}

module _ {P : Type 0} {B : Type 0} (pending : B → Pending) (plan : P → Plan)
    (stands : P → List ℕ → Type 0) where
  no-tests : AreTests pending plan stands []
  no-tests i test at = absurd cc

  pub no-tests-in : (tests : List (Test P B)) → tests ≡ [] → AreTests pending plan stands tests
  no-tests-in tests none = let A : List (Test P B) → Type 0 = AreTests pending plan stands in
      subst A (sym none) no-tests

  pub one-more-test : (tests new : List (Test P B)) (test : Test P B) → new ≡ tests ++ test ∷ []
      → IsTest pending plan stands test → AreTests pending plan stands tests
      → AreTests pending plan stands new
  one-more-test tests new test are is all =
      let A : List (Test P B) → Type 0 = AreTests pending plan stands in
      subst A (sym are) (λ i other at. elim (get-more tests test i other at) [
        | inl w ↦ all i other w
        | inr w ↦ let I : Test P B → Type 0 = IsTest pending plan stands in subst I w.1 is
      ])
