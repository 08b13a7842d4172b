use Rattle.std.proofs.Common.{◌≡◌, ℕ, None, List, [], sym, ap, subst, ◌∙◌, arith}
use Rattle.std.proofs.Common.{vec_capacity}
use Rattle.turn_book.proofs.Books.{lawful-told}
use Rattle.turn_book.specs.Posts.{schedule_of}
use Rattle.turn_book.specs.Board.{BoardState}
use Rattle.turn_book.specs.Kept.{posts_by, IsKept}
use Rattle.turn_book.proofs.PostLists.{posts-none}
use Rattle.turn_book.proofs.FirstBooks.{kept-new}
use Rattle.turn_book.proofs.book.TurnBook.new_in.Goals as goal

pub invariant_of-result : goal.invariant_of-result
invariant_of-result g c =
    let board = c.in_ok-board.board in
    let none = c.in_ok-trace.ensures.items in
    let K : BoardState → Type 0 = λ b. IsKept c.args.deal c.steps-limit.result
    (g.P.Policy.plan c.args.policy) b c.in_ok-trace.trace.items c.pick-next.result None
    (vec_capacity c.in_ok-trace.trace) in
    let Stands : List ℕ → Type 0 = g.P.Policy.stands c.args.policy in (
      subst K (sym c.pick-next.ensures.same)
          (kept-new c.args.deal c.steps-limit.result (g.P.Policy.plan c.args.policy) board
          c.pick-next.result
          c.in_ok-trace.trace.items (vec_capacity c.in_ok-trace.trace) c.in_ok-board.ensures.board
          c.in_ok-board.ensures.sizes c.requires.speaks c.steps-limit.ensures.fits.0
          c.steps-limit.ensures.fits.1
          (omega (arith, c.in_ok-trace.ensures.room)) none
          (c.pick-next.ensures.pick [] c.requires.stands)),
      subst Stands (sym (ap schedule_of none)) c.requires.stands,
    )

pub returns-clause-made : goal.returns-clause-made
returns-clause-made g c =
    let posts : posts_by c.in_ok-trace.trace.items (c.pick-next.new.self).posts ≡ _ =
    ap (λ (b : BoardState). posts_by c.in_ok-trace.trace.items b.posts) c.pick-next.ensures.same
    ∙ ap (λ es. posts_by es (c.in_ok-board.board).posts) c.in_ok-trace.ensures.items
    ∙ ap (λ (b : BoardState). posts_by [] b.posts) c.in_ok-board.ensures.board
    ∙ posts-none 0 (c.args.deal).threads in
    λ j. record {
      deal = c.args.deal;
      limit = c.steps-limit.ensures.number j;
      plan = g.P.Policy.plan c.args.policy;
      posts = posts j;
      trace = c.in_ok-trace.ensures.items j;
      outcome = None;
    }

pub returns-clause-lawful : goal.returns-clause-lawful
returns-clause-lawful g c =
    lawful-told c.args.deal c.steps-limit.result (g.P.Policy.plan c.args.policy)
    c.pick-next.new.self
    c.in_ok-trace.trace.items c.pick-next.result None (vec_capacity c.in_ok-trace.trace)
    (invariant_of-result g c).0
