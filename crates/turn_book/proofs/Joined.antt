-- The threads that others join, and whom a step concerns that touches no object.
use Rattle.std.proofs.Common.{◌≡◌, ◌≢◌, ◌||◌, ◌&&◌, ◌<◌, ℕ, Bool, true, false, List, Option, Some}
use Rattle.std.proofs.Common.{None, set, get_or, replicate, refl, sym, ap, ◌∙◌, inl, inr, ne_eqb}
use Rattle.std.proofs.Common.{eqb-true, arith}
use Rattle.std.proofs.lemmas.Bool.{cases_Bool, false≢true}
use Rattle.pct_ask.specs.declared.ask.Ask.{Ask}
use Rattle.pct_ask.specs.declared.ask.Ask.TheVariants.{Join, Begin}
use Rattle.pct_ask.specs.declared.ask.Post.{Post}
use Rattle.pct_ask.specs.Objects.{Sizes, PostIsInRange}
use Rattle.sync_store.specs.declared.touched.Touched.TheVariants.{Nothing}
use Rattle.sync_store.specs.Touched.{depends_on}
use Rattle.turn_book.specs.Board.{AreNoted, ask_of_post, concerns, concerns_ask, joins, joins_ask}
use Rattle.turn_book.specs.Board.{next_posts_of, may_wait}
use Rattle.turn_book.proofs.Boards.{nothing-posted, set-listed}

-- no ask depends on nothing
pub depends-on-nothing : (u : ℕ) (ask : Ask) → depends_on u ask Nothing ≡ false
depends-on-nothing u Begin = refl
depends-on-nothing u ask = refl

and-false : (b : Bool) → (b && false) ≡ false
and-false true = refl
and-false false = refl

-- ---- a step that touches no object
alone-concerned : (t u : ℕ) (ask : Option Ask) → joins_ask t ask ≡ false
    → concerns_ask t Nothing u ask ≡ false
alone-concerned t u None e = refl
alone-concerned t u (Some ask) e =
    ap (λ b. may_wait ask && (b || joins t ask)) (depends-on-nothing u ask)
    ∙ ap (λ b. may_wait ask && b) e ∙ and-false (may_wait ask)

-- concerns its own thread and those that join it
pub others-alone : (t u : ℕ) (post : Option Post) → u ≢ t → joins_ask t (ask_of_post post) ≡ false
    → concerns t Nothing u post ≡ false
others-alone t u post apart e =
    ap (λ b. b || concerns_ask t Nothing u (ask_of_post post)) (ne_eqb u t apart)
    ∙ alone-concerned t u (ask_of_post post) e

-- ---- what is noted
pub joined-within : (sizes : Sizes) (t : ℕ) (ask : Option Ask) → PostIsInRange sizes ask
    → joins_ask t ask ≡ true → t < sizes.threads
joined-within sizes t None range e = absurd (false≢true e)
joined-within sizes t (Some (Join u)) range e =
    let same = eqb-true u t e in
    omega (arith, same, range)
joined-within sizes t (Some ask) range e = absurd (false≢true e)

-- what was noted stays, and so is what the new post joins
pub noted-set : (posts : List (Option Post)) (joined after : List Bool) (t : ℕ) (post : Option Post)
    → AreNoted posts joined
    → ((v : ℕ) → get_or joined v false ≡ true → get_or after v false ≡ true)
    → ((v : ℕ) → joins_ask v (ask_of_post post) ≡ true → get_or after v false ≡ true)
    → AreNoted (set posts t post) after
noted-set posts joined after t post noted kept one v u joins = elim (set-listed posts t post u) [
  | inl other ↦ kept v (noted v u (sym (ap (λ p. joins_ask v (ask_of_post p)) other) ∙ joins))
  | inr new ↦ one v (sym (ap (λ p. joins_ask v (ask_of_post p)) new) ∙ joins)
]

pub not-noted : (posts : List (Option Post)) (joined : List Bool) (t : ℕ) → AreNoted posts joined
    → get_or joined t false ≡ false
    → (u : ℕ) → joins_ask t (ask_of_post (next_posts_of posts u)) ≡ false
not-noted posts joined t noted none u =
    elim (cases_Bool (joins_ask t (ask_of_post (next_posts_of posts u)))) [
      | inl here ↦ absurd (false≢true (sym none ∙ noted t u here))
      | inr stays ↦ stays
    ]

-- nobody is joined where nobody has posted
pub nothing-noted : (n : ℕ) (posts : List (Option Post)) (joined : List Bool)
    → posts ≡ replicate n None → AreNoted posts joined
nothing-noted n posts joined none v u joins =
    let unposted : next_posts_of posts u ≡ None =
    ap (λ ps. next_posts_of ps u) none ∙ nothing-posted n u in
    absurd (false≢true (sym (ap (λ p. joins_ask v (ask_of_post p)) unposted) ∙ joins))
