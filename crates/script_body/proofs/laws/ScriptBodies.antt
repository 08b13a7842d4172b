-- The bodies of a script's code are those of the script, and name only what its deal has.
use Rattle.std.proofs.Common.{◌≡◌, ℕ, ℤ, suc, ◌+◌, ◌<◌, List, [], ◌∷◌, ◌++◌, length, get_or, map}
use Rattle.std.proofs.Common.{take, sym, ap, subst, ◌∙◌, arith, inl, inr}
use Rattle.std.proofs.lemmas.Bool.{cases_lt}
use Rattle.std.proofs.lemmas.List.{ext_get_or, get_or_past, length-map, map-append}
use Rattle.std.proofs.Math.ListN.{get_or-map}
use Rattle.std.proofs.Math.Seq.{take-suc}
use Rattle.std.proofs.lemmas.List.FromFn.{length-map-range_with_len, get_or-map-range_with_len}
use Rattle.pct_ask.specs.declared.Deal.{Deal}
use Rattle.pct_ask.specs.Objects.{sizes_of_deal, PostIsInRange}
use Rattle.pct_ask.specs.Bodies.{Pending, no_body, AreInRange}
use Rattle.script_tree.specs.ScriptText.{ScriptText}
use Rattle.script_tree.specs.Posts.{pending}
use Rattle.script_tree.proofs.laws.Naming.{pending_named}
use Rattle.script_code.specs.Operations.{Operation}
use Rattle.script_code.specs.Placed.{listing_of}
use Rattle.script_code.specs.FlatPosts.{flat_pending}
use Rattle.script_code.specs.CodeOf.{IsCodeOf}
use Rattle.script_body.specs.Bodies.{bodies_of, AreOf}

same_posts : (f g : Pending) → ((answers : List ℤ) → f answers ≡ g answers) → f ≡ g
same_posts f g same = λ j answers. same answers j

-- one more body, where each posts what `posts` tells of it
pub one_more : {X : Type 0} (posts : X → Pending) (code : List (List Operation))
    (bodies new : List X) (body : X) (t : ℕ) → t < length code
    → map posts bodies ≡ map flat_pending (take t code) → new ≡ bodies ++ body ∷ []
    → ((answers : List ℤ) → posts body answers ≡ flat_pending (listing_of code t) answers)
    → map posts new ≡ map flat_pending (take (t + 1) code)
one_more posts code bodies new body t within before is same =
    let step : t + 1 ≡ suc t = omega arith in
    ap (map posts) is ∙ map-append posts bodies (body ∷ []) ∙ ap (λ l. l ++ posts body ∷ []) before
    ∙ ap (λ p. map flat_pending (take t code) ++ p ∷ [])
    (same_posts (posts body) (flat_pending (listing_of code t)) same)
    ∙ sym (map-append flat_pending (take t code) (listing_of code t ∷ []))
    ∙ ap (map flat_pending) (sym (take-suc code t [] within) ∙ ap (λ n. take n code) (sym step))

-- what the code of each thread posts is what the script's thread does
pub code_bodies : (script : ScriptText) (code : List (List Operation)) → IsCodeOf script code
    → map flat_pending code ≡ bodies_of script
code_bodies script code of =
    let n = length script.threads in
    let long = length-map code flat_pending in
    let long_too = length-map-range_with_len (pending script) 0 n in
    ext_get_or (flat_pending []) (map flat_pending code) (bodies_of script)
    (omega (arith, long, long_too, of.threads)) (λ i within.
    let below : i < n = omega (arith, long, of.threads) in
    get_or-map flat_pending code i []
    ∙ same_posts (flat_pending (get_or code i [])) (pending script i) (of.posts i below)
    ∙ sym (get_or-map-range_with_len (pending script) 0 n i i (flat_pending []) below
    (omega arith)))

bodies_in_range : (script : ScriptText) (code : List (List Operation)) (deal : Deal)
    → AreOf script code deal → AreInRange (sizes_of_deal deal) (bodies_of script)
bodies_in_range script code deal of t answers =
    let n = length script.threads in
    let P : Pending → Type 0 = λ posts. PostIsInRange (sizes_of_deal deal) (posts answers).ask in
    elim (cases_lt t n) [
      | inl below ↦
          let at = get_or-map-range_with_len (pending script) 0 n t t no_body below (omega arith) in
          subst P (sym at) (pending_named script deal of.sound of.is_deal t below answers).ask
      | inr past ↦
          let long = length-map-range_with_len (pending script) 0 n in
          subst P (sym (get_or_past (bodies_of script) t no_body (omega (arith, long, past)))) tt
    ]

-- bodies that post what the code does are one for each thread of a deal like the script's
pub one_each : {X : Type 0} (bodies : List X) (posts : X → Pending) (script : ScriptText)
    (code : List (List Operation)) (deal own : Deal) → AreOf script code deal → own ≡ deal
    → map posts bodies ≡ map flat_pending code → length bodies ≡ own.threads
one_each bodies posts script code deal own of same are =
    sym (length-map bodies posts) ∙ ap length are ∙ length-map code flat_pending
    ∙ (of.is_code).threads ∙ (of.sound).same_threads ∙ sym (of.is_deal).threads
    ∙ ap (λ (d : Deal). d.threads) (sym same)

-- and they name only what it has
pub all_in_range : {X : Type 0} (bodies : List X) (posts : X → Pending) (script : ScriptText)
    (code : List (List Operation)) (deal own : Deal) → AreOf script code deal → own ≡ deal
    → map posts bodies ≡ map flat_pending code → AreInRange (sizes_of_deal own) (map posts bodies)
all_in_range bodies posts script code deal own of same are =
    let B : List Pending → Type 0 = λ bs. AreInRange (sizes_of_deal own) bs in
    let D : Deal → Type 0 = λ d. AreInRange (sizes_of_deal d) (bodies_of script) in
    subst B (sym (are ∙ code_bodies script code of.is_code))
    (subst D (sym same) (bodies_in_range script code deal of))
