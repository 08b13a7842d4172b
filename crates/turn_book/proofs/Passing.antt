-- A thread that posts and takes its step at once: the board between is not kept.
use Rattle.std.proofs.Common.{◌≡◌, ℕ, ◌<◌, Bool, false, not, eqb, List, Option, None, length, set}
use Rattle.std.proofs.Common.{get_or, refl, sym, ap, ◌∙◌, arith, inl, inr}
use Rattle.std.specs.Prelude.{IsTrue}
use Rattle.std.proofs.lemmas.Bool.{cases_Bool, false≢true}
use Rattle.std.proofs.lemmas.List.{set-set, set-get_or}
use Rattle.pct_ask.specs.declared.ask.Ask.{Ask}
use Rattle.pct_ask.specs.declared.ask.Ask.TheVariants.{Join}
use Rattle.pct_ask.specs.declared.ask.Post.{Post}
use Rattle.sync_store.specs.Store.{StoreState}
use Rattle.sync_store.specs.Enabled.{enabled, others_ended}
use Rattle.policy_pick.specs.declared.chance.Chance.{Chance}
use Rattle.policy_pick.specs.Choice.{is_open, OpensOnly, SameOthers}
use Rattle.turn_book.specs.Board.{AreNoted, ask_of_post, joins, joins_ask, next_posts_of}
use Rattle.turn_book.proofs.Boards.{set-listed}
use Rattle.turn_book.proofs.Joined.{not-noted}

-- no post is taken from a thread that has none
pub unset : (posts : List (Option Post)) (t : ℕ) → next_posts_of posts t ≡ None
    → set posts t None ≡ posts
unset posts t away = ap (set posts t) (sym away) ∙ set-get_or posts t None

-- a post that is taken at once leaves the posts as they were
pub put-back : (posts : List (Option Post)) (t : ℕ) (post : Option Post)
    → next_posts_of posts t ≡ None → set (set posts t post) t None ≡ posts
put-back posts t post away = set-set posts t post None ∙ unset posts t away

-- which others are open after the step, and weren't before the post, weren't after it
pub opens-from : (thread opened : ℕ) (first next last : List Chance) → SameOthers thread first next
    → OpensOnly thread opened first last → OpensOnly thread opened next last
opens-from thread opened first next last same opens = record {
  threads = opens.threads ∙ sym same.threads;
  others = λ other within apart none goes.
      let there : other < length first = omega (arith, same.threads) in
      ap is_open (same.others other there apart) ∙ opens.others other there apart none goes;
}

-- a thread that may go doesn't wait for its own end
pub not-itself : (store : StoreState) (t : ℕ) (ask : Ask)
    → IsTrue (enabled store (others_ended t) t ask) → joins t ask ≡ false
not-itself store t (Join u) goes = elim (cases_Bool (eqb u t)) [
  | inl same ↦ absurd (false≢true (sym (ap not same) ∙ goes))
  | inr apart ↦ apart
]
not-itself store t ask goes = refl

-- nobody joins it after its post
pub nobody-joins : (posts : List (Option Post)) (joined : List Bool) (t : ℕ) (post : Option Post)
    → AreNoted posts joined → get_or joined t false ≡ false
    → joins_ask t (ask_of_post post) ≡ false
    → (u : ℕ) → joins_ask t (ask_of_post (next_posts_of (set posts t post) u)) ≡ false
nobody-joins posts joined t post noted none one u = elim (set-listed posts t post u) [
  | inl other ↦
      ap (λ p. joins_ask t (ask_of_post p)) other ∙ not-noted posts joined t noted none u
  | inr new ↦ ap (λ p. joins_ask t (ask_of_post p)) new ∙ one
]
