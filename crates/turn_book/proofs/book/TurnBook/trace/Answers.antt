use Rattle.std.proofs.Common.{◌≡◌, ◌++◌, sym, ap, subst, ◌∙◌}
use Rattle.std.proofs.Common.{vec_capacity}
use Rattle.turn_book.specs.Told.{BookState, IsLawful}
use Rattle.turn_book.proofs.Books.{lawful-told}
use Rattle.turn_book.proofs.Fronts.{begins-runs, is-whole}
use Rattle.turn_book.proofs.book.TurnBook.trace.Goals as goal

pub returns-clause-lawful : goal.returns-clause-lawful
returns-clause-lawful g c =
    let f = c.self.inside in
    let P : BookState → Type 0 = IsLawful in
    subst P c.self.view_is (lawful-told f.deal f.limit (g.P.Policy.plan f.policy) f.board
    f.trace.items f.next f.outcome (vec_capacity f.trace) c.self.invariant.0)

pub returns-clause-prefix : goal.returns-clause-prefix
returns-clause-prefix g c = λ posts events run.
    let same : (c.args.self.now).trace ≡ c.as_slice.result.now =
    ap (λ (b : BookState). b.trace) (sym c.self.view_is) ∙ sym c.as_slice.ensures.value in
    let begins = begins-runs c.args.self.now (returns-clause-lawful g c) posts events run in
    (begins.0, begins.1 ∙ ap (λ es. es ++ begins.0) same)

pub returns-clause-whole : goal.returns-clause-whole
returns-clause-whole g c = λ posts events run over.
    let same : (c.args.self.now).trace ≡ c.as_slice.result.now =
    ap (λ (b : BookState). b.trace) (sym c.self.view_is) ∙ sym c.as_slice.ensures.value in
    is-whole c.args.self.now (returns-clause-lawful g c) posts events run over ∙ same
