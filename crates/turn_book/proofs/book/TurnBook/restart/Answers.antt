use Rattle.std.proofs.Common.{◌≡◌, ◌≤◌, ℕ, None, List, [], sym, ap, subst, ◌∙◌, arith, vec_capacity}
use Rattle.policy_pick.specs.Plan.{SpeaksOf}
use Rattle.turn_book.specs.Posts.{schedule_of}
use Rattle.turn_book.specs.Told.{BookState, new_book}
use Rattle.turn_book.specs.Board.{BoardState}
use Rattle.turn_book.specs.Kept.{posts_by, IsKept}
use Rattle.turn_book.proofs.Books.{lawful-told}
use Rattle.turn_book.proofs.PostLists.{posts-none}
use Rattle.turn_book.proofs.FirstBooks.{kept-new}
use Rattle.turn_book.proofs.book.TurnBook.restart.Goals as goal

pub invariant_of-self : goal.invariant_of-self
invariant_of-self g c =
    let was = c.self.inside in
    let kept = c.self.invariant.0 in
    let plan = g.P.Policy.plan in
    let board = c.restart.new.self in
    let trace = c.clear.new.self in
    let next = c.pick-self-inside.result in
    let none = c.clear.ensures.items in
    let Speaks : BookState → Type 0 = λ b. SpeaksOf (plan c.args.policy) b.deal.threads in
    let speaks = subst Speaks (sym c.self.view_is) c.requires.speaks in
    let room : was.limit ≤ vec_capacity trace =
    omega (arith, c.clear.ensures.capacity, kept.room) in
    let K : BoardState → Type 0 = λ b. IsKept was.deal was.limit (plan c.args.policy) b trace.items
    next None (vec_capacity trace) in
    let first : K board =
    kept-new was.deal was.limit (plan c.args.policy) board next trace.items (vec_capacity trace)
    c.restart.ensures.board c.restart.ensures.sizes speaks kept.some_steps kept.few_steps room none
    (c.pick-self-inside.ensures.pick [] c.requires.stands) in
    let Stands : List ℕ → Type 0 = g.P.Policy.stands c.args.policy in
    rw c.replace.ensures.after (
      subst K (sym c.pick-self-inside.ensures.same) first,
      subst Stands (sym (ap schedule_of none)) c.requires.stands,
    )

pub returns-clause-made : goal.returns-clause-made
returns-clause-made g c =
    let was = c.self.inside in
    let plan = g.P.Policy.plan in
    let trace = c.clear.new.self.items in
    let posts : posts_by trace (c.pick-self-inside.new.self).posts ≡ _ =
    ap (λ (b : BoardState). posts_by trace b.posts) c.pick-self-inside.ensures.same
    ∙ ap (λ es. posts_by es (c.restart.new.self).posts) c.clear.ensures.items
    ∙ ap (λ (b : BoardState). posts_by [] b.posts) c.restart.ensures.board
    ∙ posts-none 0 was.deal.threads in
    let made : _ ≡ new_book was.deal was.limit (plan c.args.policy) = λ j. record {
      deal = was.deal;
      limit = was.limit;
      plan = plan (c.replace.ensures.after j);
      posts = posts j;
      trace = c.clear.ensures.items j;
      outcome = None;
    } in
    made
    ∙ ap (λ (b : BookState). new_book b.deal b.limit (plan c.args.policy)) c.self.view_is

pub returns-clause-lawful : goal.returns-clause-lawful
returns-clause-lawful g c =
    lawful-told c.self.inside.deal c.self.inside.limit (g.P.Policy.plan c.replace.new.dest)
    c.pick-self-inside.new.self c.clear.new.self.items c.pick-self-inside.result None
    (vec_capacity c.clear.new.self) (invariant_of-self g c).0
