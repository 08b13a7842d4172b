-- Books that are set for the run at a place, and new runners of its threads.
use Rattle.std.proofs.Common.{◌≡◌, ℕ, ℤ, ◌+◌, ◌<◌, List, [], ◌∷◌, ◌++◌, Option, Some, Result, Ok}
use Rattle.std.proofs.Common.{Err}
use Rattle.std.proofs.Common.{length, map, take, refl, sym, ap, subst, ◌∙◌}
use Rattle.std.proofs.Math.Path.{transport}
use Rattle.std.specs.Prelude.{IfOk}
use Rattle.std.proofs.lemmas.List.{map-append}
use Rattle.pct_ask.specs.declared.Deal.{Deal}
use Rattle.policy_pick.specs.Plan.{Plan, SpeaksOf}
use Rattle.turn_book.specs.Told.{BookState, new_book}
use Rattle.script_tree.specs.ScriptText.{ScriptText}
use Rattle.script_code.specs.Operations.{Operation}
use Rattle.script_code.specs.FlatPosts.{flat_pending}
use Rattle.script_code.specs.Placed.{listing_of}
use Rattle.script_body.specs.Bodies.{AreOf}
use Rattle.script_body.specs.BodyPosts.{pending_of_body}
use Rattle.script_body.specs.declared.body.ScriptBody.{ScriptBody}
use Rattle.script_body.proofs.laws.ScriptBodies.{one_more}
use Rattle.worker_run.specs.Served.{first_runners}
use Rattle.worker_run.specs.Tests.{IsRunBy, IsNew, AreNewRunners}
use Rattle.worker_run.specs.declared.played.Played.{Played}
use Rattle.worker_run.specs.declared.runner.Runner.{Runner}
use Rattle.script_run.specs.Ready.{bodies_of_code}
use Rattle.script_run.specs.Batches.{Common, IsPlanOf, IsSetFor, AreRunnersOf}
use Rattle.script_run.proofs.Codes.{one-for-each, in-range}

-- ---- books
module _ (common : Common) (IsSo : Played → Type 0) where
  -- what the plan makes of the script's threads is such a run
  pub planned : (plan : Plan) (deal : Deal) (code : List (List Operation)) (limit : ℕ)
      → deal ≡ common.deal → code ≡ common.code → limit ≡ common.limit
      → IsPlanOf common IsSo plan → (ended : Played)
      → IsRunBy plan deal (bodies_of_code code) limit ended → IsSo ended
  planned plan deal code limit same coded many is ended ran =
      let both : IsRunBy plan deal (bodies_of_code code) limit ended
      ≡ IsRunBy plan common.deal (bodies_of_code common.code) common.limit ended =
      λ i. IsRunBy plan (same i) (bodies_of_code (coded i)) (many i) ended in
      is.run ended (transport both ran)

  pub set-again : (deal : Deal) (limit : ℕ) (plan : Plan) (book : BookState) → deal ≡ common.deal
      → limit ≡ common.limit → IsPlanOf common IsSo plan → book ≡ new_book deal limit plan
      → IsSetFor common IsSo book
  set-again deal limit plan book same many is made =
      let by : book.plan ≡ plan = ap (λ (b : BookState). b.plan) made in
      record {
        made = made ∙ (λ i. new_book (same i) (many i) (sym by i));
        plan = subst (IsPlanOf common IsSo) (sym by) is;
      }

  pub set-first : {E : Type 0} (deal : Deal) (limit : ℕ) (plan : Plan) (made : Result BookState E)
      → deal ≡ common.deal → limit ≡ common.limit → IsPlanOf common IsSo plan
      → IfOk made (λ book. book ≡ new_book deal limit plan) → IfOk made (IsSetFor common IsSo)
  set-first deal limit plan (Ok book) same many is made =
      set-again deal limit plan book same many is made
  set-first deal limit plan (Err e) same many is made = tt

  module _ (book : BookState) (set : IsSetFor common IsSo book) where
    pub set-deal : book.deal ≡ common.deal
    set-deal = ap (λ (b : BookState). b.deal) set.made

    pub set-limit : book.limit ≡ common.limit
    set-limit = ap (λ (b : BookState). b.limit) set.made

    pub set-new : IsNew book
    set-new = record {
      made = set.made ∙ (λ i. new_book (sym set-deal i) (sym set-limit i) book.plan);
      speaks = subst (λ (d : Deal). SpeaksOf book.plan d.threads) (sym set-deal)
          (set.plan).speaks;
    }

    -- what its policy makes of the script's threads is such a run
    pub set-ran : (code : List (List Operation)) (ended : Played) → code ≡ common.code
        → IsRunBy book.plan book.deal (bodies_of_code code) book.limit ended → IsSo ended
    set-ran code ended same ran =
        planned book.plan book.deal code book.limit set-deal same set-limit set.plan ended ran

-- ---- runners
pub no-runners : (code : List (List Operation)) (runners : List (Option (Runner ScriptBody)))
    → runners ≡ [] → AreRunnersOf (take 0 code) runners
no-runners code runners none = record { bodies = []; are = none; posts = refl }

pub one-runner-more : (code : List (List Operation))
    (runners new : List (Option (Runner ScriptBody))) (body : ScriptBody) (t : ℕ)
    → t < length code → AreRunnersOf (take t code) runners
    → new ≡ runners ++ Some (record { body = body; answered = 0 }) ∷ []
    → ((answers : List ℤ) → pending_of_body body answers
    ≡ flat_pending (listing_of code t) answers) → AreRunnersOf (take (t + 1) code) new
one-runner-more code runners new body t within before is same =
    let make : ScriptBody → Option (Runner ScriptBody) =
    λ b. Some (record { body = b; answered = 0 }) in
    record {
      bodies = before.bodies ++ body ∷ [];
      are = is ∙ ap (λ l. l ++ make body ∷ []) before.are
          ∙ sym (map-append make before.bodies (body ∷ []));
      posts = one_more pending_of_body code before.bodies (before.bodies ++ body ∷ []) body t within
          before.posts refl same;
    }

-- they are new for a deal of the code's script
pub runners-new : (code : List (List Operation)) (deal own : Deal)
    (runners : List (Option (Runner ScriptBody)))
    → ∥ ((script : ScriptText) × AreOf script code deal) ∥₁ → own ≡ deal
    → AreRunnersOf code runners → AreNewRunners pending_of_body own runners
runners-new code deal own runners of same are = record {
  bodies = are.bodies;
  are = are.are;
  one_each = one-for-each pending_of_body are.bodies code deal own of same are.posts;
  in_range = in-range pending_of_body are.bodies code deal own of same are.posts;
}

-- the run of the bodies is that of the code
pub runners-ran : (code : List (List Operation)) (runners : List (Option (Runner ScriptBody)))
    (plan : Plan) (deal : Deal) (limit : ℕ) (ended : Played) → AreRunnersOf code runners
    → ((bodies : List ScriptBody) → runners ≡ first_runners bodies
    → IsRunBy plan deal (map pending_of_body bodies) limit ended)
    → IsRunBy plan deal (bodies_of_code code) limit ended
runners-ran code runners plan deal limit ended are ran =
    subst (λ posts. IsRunBy plan deal posts limit ended) are.posts (ran are.bodies are.are)
