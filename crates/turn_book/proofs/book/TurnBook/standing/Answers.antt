use Rattle.std.proofs.Common.{sym, ap, ◌∙◌}
use Rattle.std.proofs.Common.{vec_capacity}
use Rattle.turn_book.specs.Told.{BookState, standing_of}
use Rattle.turn_book.proofs.Books.{standing-told}
use Rattle.turn_book.proofs.book.TurnBook.standing.Goals as goal

pub returns : goal.returns
returns g c =
    let f = c.self.inside in
    c.standing.ensures ∙ sym (standing-told f.deal f.limit (g.P.Policy.plan f.policy) f.board
    f.trace.items f.next f.outcome (vec_capacity f.trace) c.self.invariant.0 c.args.thread)
    ∙ ap (λ (b : BookState). standing_of b c.args.thread) c.self.view_is
