-- The choice where it is known without a look at all threads: after a step, and after the post of
-- the thread that the book waited for.
use Rattle.std.proofs.Common.{◌≡◌, ℕ, ◌<◌, List, [], ◌∷◌, ◌++◌, Option, None, ap, sym}
use Rattle.std.proofs.Common.{subst, ◌∙◌, arith, Bool, true}
use Rattle.std.specs.Prelude.{IfSome}
use Rattle.pct_ask.specs.declared.Deal.{Deal}
use Rattle.pct_ask.specs.declared.event.Event.{Event}
use Rattle.pct_ask.specs.declared.verdict.Outcome.{Outcome}
use Rattle.policy_pick.specs.declared.chance.Chance.{Chance}
use Rattle.policy_pick.specs.declared.chance.Chance.TheVariants.{Away, Ready}
use Rattle.policy_pick.specs.declared.chance.Pick.{Pick}
use Rattle.policy_pick.specs.declared.chance.Pick.TheVariants.{Thread}
use Rattle.policy_pick.specs.Plan.{Plan, SpeaksOf}
use Rattle.policy_pick.specs.Choice.{chance_of, choice, KeepsChoices, SameOthers, OpensOnly}
use Rattle.policy_pick.specs.Choice.{TargetsAreAway}
use Rattle.turn_book.specs.Chances.{is_unknown, is_ended, chance_of_post, chances}
use Rattle.turn_book.specs.Posts.{schedule_of}
use Rattle.turn_book.specs.Board.{BoardState, WasChosen, HadTurn, chances_on, next_posts_of}
use Rattle.turn_book.specs.Kept.{IsKept}
use Rattle.turn_book.proofs.Boards.{chance-at, length-chances}
use Rattle.turn_book.proofs.Books.{threads-store, pick_now}

-- a thread whose next post isn't known is away
pub away-now : (board : BoardState) (t : ℕ) → t < (board.store).threads
    → next_posts_of board.posts t ≡ None → chance_of (chances_on board) t ≡ Away
away-now board t within none =
    let next = next_posts_of board.posts in
    chance-at (board.store).threads board.store next t within
    ∙ ap (chance_of_post board.store (is_unknown next) (is_ended next) t) none

-- after a post that changed no other chance, what was known of the choice is right
module _ (deal : Deal) (limit : ℕ) (plan : Plan) (board : BoardState) (events : List Event)
    (next : Pick) (last : Option Outcome) (reserved : ℕ)
    (kept : IsKept deal limit plan board events next last reserved) where
  threads-on : (board.store).threads ≡ deal.threads
  threads-on = threads-store deal limit plan board events next last reserved kept

  pub chosen-on : last ≡ None → next ≡ choice plan (schedule_of events) (chances_on board)
  chosen-on running =
      kept.pick running
      ∙ ap (λ n. choice plan (schedule_of events)
      (chances n board.store (next_posts_of board.posts))) (sym threads-on)

  pub post-known : last ≡ None → (t : ℕ) (alone ready : Bool) (after : BoardState)
      (found : Option Pick)
      → (alone ≡ true → SameOthers t (chances_on board) (chances_on after))
      → TargetsAreAway (chances_on after)
      → (ready ≡ true → chance_of (chances_on after) t ≡ Ready)
      → ((schedule : List ℕ) (later : List Chance) → TargetsAreAway later
      → (ready ≡ true → chance_of later t ≡ Ready)
      → (alone ≡ true → WasChosen plan schedule t next later)
      → IfSome found (λ pick. pick ≡ choice plan schedule later))
      → IfSome found (λ pick. pick ≡ choice plan (schedule_of events) (chances_on after))
  post-known running t alone ready after found same targets goes says =
      says (schedule_of events) (chances_on after) targets goes (λ yes. record {
        earlier = chances_on board;
        others = same yes;
        chosen = chosen-on running;
      })

  -- after a step that keeps the choices
  pub step-known : last ≡ None → (t opened : ℕ) (kept_so : Bool) (after : BoardState)
      (found : Option Pick) → pick_now plan deal board events ≡ Thread t
      → (after.store).threads ≡ deal.threads → t < deal.threads
      → next_posts_of after.posts t ≡ None
      → (kept_so ≡ true → KeepsChoices plan (schedule_of events) t)
      → OpensOnly t opened (chances_on board) (chances_on after)
      → ((later : List Chance)
      → (kept_so ≡ true → HadTurn plan (schedule_of events ++ t ∷ []) t opened later)
      → IfSome found (λ pick. pick ≡ choice plan (schedule_of events ++ t ∷ []) later))
      → IfSome found (λ pick.
      pick ≡ choice plan (schedule_of events ++ t ∷ []) (chances_on after))
  step-known running t opened kept_so after found turn many within none keeps opens says =
      let Speaks : ℕ → Type 0 = SpeaksOf plan in
      let long = length-chances (board.store).threads board.store (next_posts_of board.posts) in
      says (chances_on after) (λ yes. record {
        earlier = chances_on board;
        speaks = subst Speaks (sym (long ∙ threads-on)) kept.speaks;
        opens = opens;
        turn = keeps yes (chances_on board) ∙ sym (chosen-on running) ∙ kept.pick running ∙ turn;
        away = away-now after t (omega (arith, many, within)) none;
      })
