-- The book between the post of the thread that it waits for and the step that is taken at once.
use Rattle.std.proofs.Common.{◌≡◌, ℕ, ◌<◌, false, List, Option, None, length, refl, sym, ◌∙◌}
use Rattle.std.proofs.Common.{arith, ne_eqb}
use Rattle.pct_ask.specs.declared.ask.Post.{Post}
use Rattle.pct_ask.specs.declared.Deal.{Deal}
use Rattle.pct_ask.specs.declared.event.Event.{Event}
use Rattle.pct_ask.specs.declared.verdict.Verdict.{Verdict}
use Rattle.pct_ask.specs.declared.verdict.Outcome.{Outcome}
use Rattle.policy_pick.specs.declared.chance.Chance.TheVariants.{Ready}
use Rattle.policy_pick.specs.declared.chance.Pick.{Pick}
use Rattle.policy_pick.specs.declared.chance.Pick.TheVariants.{Thread, Waits}
use Rattle.policy_pick.specs.Plan.{Plan, GoesByRank}
use Rattle.policy_pick.specs.Choice.{chance_of, choice}
use Rattle.policy_pick.proofs.laws.Turns.{choice-post}
use Rattle.turn_book.specs.Posts.{schedule_of}
use Rattle.turn_book.specs.Board.{BoardState, PostsAndSteps, chances_on, next_posts_of, posted_on}
use Rattle.turn_book.specs.Kept.{IsKept}
use Rattle.turn_book.proofs.Boards.{chance-at}
use Rattle.turn_book.proofs.Books.{kept-post, threads-store}
use Rattle.turn_book.proofs.Turning.{chosen-on}

module _ (deal : Deal) (limit : ℕ) (plan : Plan) (board : BoardState) (events : List Event)
    (next : Pick) (last : Option Outcome) (reserved : ℕ)
    (kept : IsKept deal limit plan board events next last reserved) (running : last ≡ None)
    (t : ℕ) (post : Post) (event : Event) (ends : Option Verdict) (after : BoardState)
    (both : PostsAndSteps board t post event ends after) (within : t < deal.threads)
    (away : next_posts_of board.posts t ≡ None) (waits : next ≡ Waits t) (by : GoesByRank plan)
    (short : length events < limit) where
  abbrev pub between : BoardState
  between = posted_on board t post

  ready-between : chance_of (chances_on between) t ≡ Ready
  ready-between =
      let many = threads-store deal limit plan board events next last reserved kept in
      chance-at (board.store).threads board.store (next_posts_of between.posts) t
      (omega (arith, within, many)) ∙ both.ready

  -- it is the thread's turn
  goes-between : Thread t ≡ choice plan (schedule_of events) (chances_on between)
  goes-between = sym (choice-post plan (schedule_of events) t (chances_on board)
      (chances_on between) by both.others both.targets
      (sym (chosen-on deal limit plan board events next last reserved kept running) ∙ waits)
      ready-between)

  pub kept-between : IsKept deal limit plan between events (Thread t) None reserved
  kept-between =
      kept-post deal limit plan board events next last reserved kept running t post between within
      away refl refl false (Thread t) None
      (sym (ne_eqb (length events) limit (λ same. omega (arith, short, same)))) goes-between refl
