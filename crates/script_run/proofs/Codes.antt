-- What is known of some script's code and deal: the bodies of the code are one for each thread of
-- the deal, and name only what it has.
use Rattle.std.specs.Coded.{×_prop, Unit-prop, le_prop}
use Rattle.std.proofs.Common.{◌≡◌, List, [], ◌∷◌, Option, Some, None, length, map}
use Rattle.std.proofs.Math.Logic.{∥∥₁_elim}
use Rattle.std.proofs.Math.Nat.{ℕ_set}
use Rattle.pct_ask.specs.declared.ask.Ask.{Ask}
use Rattle.pct_ask.specs.declared.Deal.{Deal}
use Rattle.pct_ask.specs.Objects.{Sizes, TestObject, AreThere, PostIsInRange, objects_of}
use Rattle.pct_ask.specs.Objects.{sizes_of_deal}
use Rattle.pct_ask.specs.Bodies.{Pending, AreInRange, pending_of}
use Rattle.script_tree.specs.ScriptText.{ScriptText}
use Rattle.script_code.specs.Operations.{Operation}
use Rattle.script_code.specs.FlatPosts.{flat_pending}
use Rattle.script_body.specs.Bodies.{AreOf}
use Rattle.script_body.proofs.laws.ScriptBodies.{one_each, all_in_range}

-- each of these facts has one proof at most
there-prop : (sizes : Sizes) (objects : List TestObject) → IsProp (AreThere sizes objects)
there-prop sizes [] = Unit-prop
there-prop sizes (o ∷ []) = le_prop
there-prop sizes (o ∷ other ∷ others) = ×_prop le_prop (there-prop sizes (other ∷ others))

post-prop : (sizes : Sizes) (ask : Option Ask) → IsProp (PostIsInRange sizes ask)
post-prop sizes None = Unit-prop
post-prop sizes (Some ask) = there-prop sizes (objects_of ask)

range-prop : (sizes : Sizes) (bodies : List Pending) → IsProp (AreInRange sizes bodies)
range-prop sizes bodies = λ one other i t answers.
    post-prop sizes (pending_of bodies t answers).ask (one t answers) (other t answers) i

module _ {X : Type 0} (posts : X → Pending) (bodies : List X) (code : List (List Operation))
    (deal own : Deal) (of : ∥ ((script : ScriptText) × AreOf script code deal) ∥₁)
    (same : own ≡ deal)
    (are : map posts bodies ≡ map flat_pending code) where
  pub one-for-each : length bodies ≡ own.threads
  one-for-each =
      ∥∥₁_elim of (ℕ_set (length bodies) own.threads)
      (λ s. one_each bodies posts s.0 code deal own s.1 same are)

  pub in-range : AreInRange (sizes_of_deal own) (map posts bodies)
  in-range =
      ∥∥₁_elim of (range-prop (sizes_of_deal own) (map posts bodies))
      (λ s. all_in_range bodies posts s.0 code deal own s.1 same are)
