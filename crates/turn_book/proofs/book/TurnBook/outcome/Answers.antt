use Rattle.std.proofs.Common.{subst}
use Rattle.std.proofs.Common.{vec_capacity}
use Rattle.turn_book.specs.Told.{BookState, IsLawful}
use Rattle.turn_book.proofs.Books.{lawful-told}
use Rattle.turn_book.proofs.book.TurnBook.outcome.Goals as goal

pub returns-clause-lawful : goal.returns-clause-lawful
returns-clause-lawful g c =
    let f = c.self.inside in
    let P : BookState → Type 0 = IsLawful in
    subst P c.self.view_is (lawful-told f.deal f.limit (g.P.Policy.plan f.policy) f.board
    f.trace.items f.next f.outcome (vec_capacity f.trace) c.self.invariant.0)
