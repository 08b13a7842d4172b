use Rattle.std.proofs.Common.{◌≡◌, ◌<◌, ℕ, false, None, refl, sym, ap, subst, ◌∙◌}
use Rattle.turn_book.specs.Told.{BookState, IsLawful}
use Rattle.turn_lock.specs.Seen.{owes_of}
use Rattle.turn_lock.specs.Rule.{first_view}
use Rattle.turn_lock.specs.Turns.{TookTurn}
use Rattle.turn_lock.specs.Briefs.{settles}
use Rattle.turn_lock.proofs.laws.FirstThreads.{first-has}
use Rattle.turn_lock.proofs.laws.Standings.{here}
use Rattle.worker_run.proofs.LoneBooks.{lone-took, row-stays, settled-tells}
use Rattle.worker_run.proofs.alone.turn_alone.Goals as goal

pub answer-told-requires-clause-lawful : goal.answer-told-requires-clause-lawful
answer-told-requires-clause-lawful g c = λ κs lives.
    subst IsLawful (sym c.loop.invariant) c.trace-steps.ensures.lawful

pub answer-told-requires-clause-here : goal.answer-told-requires-clause-here
answer-told-requires-clause-here g c = λ κs lives running.
    let t : ℕ = c.next_of-thread.result in
    let book : BookState = c.loop.book in
    let F : BookState → Type 0 = λ b. t < b.deal.threads in
    let O : BookState → Type 0 = λ b. owes_of b t ≡ false in
    let within = subst F c.loop.invariant c.next_of-thread.ensures in
    here book t (subst IsLawful (sym c.loop.invariant) c.trace-steps.ensures.lawful)
    (subst O (sym c.loop.invariant)
    (c.requires.posted t (first-has c.args.book.now.deal.threads t within)))

pub loop-preserved : goal.loop-preserved
loop-preserved g c =
    let row = c.answer-told.ensures.row in
    row-stays c.loop.book c.next_of-thread.result row.turn c.answer-told.new.book row.said
    (ap settles (sym row.brief) ∙ sym c.is_settled.ensures ∙ c.if-is_settled.false)
    ∙ c.loop.invariant

pub returns-then-is_settled-clause-serves : goal.returns-then-is_settled-clause-serves
returns-then-is_settled-clause-serves g c =
    let t : ℕ = c.next_of-thread.result in
    let F : BookState → Type 0 = λ b. t < b.deal.threads in
    first-has c.args.book.now.deal.threads t
    (subst F c.loop.invariant c.next_of-thread.ensures)

pub returns-then-is_settled-clause-turn : goal.returns-then-is_settled-clause-turn
returns-then-is_settled-clause-turn g c =
    let t : ℕ = c.next_of-thread.result in
    let book : BookState = c.loop.book in
    let after : BookState = c.answer-told.new.book in
    let row = c.answer-told.ensures.row in
    let T : BookState → Type 0 = λ b.
    TookTurn (first_view b) t None row.turn (first_view after) in
    let took = lone-took book t None row.turn after
    (subst IsLawful (sym c.loop.invariant) c.trace-steps.ensures.lawful) c.next_of-thread.ensures
    (record {
      asked = book;
      posted = refl;
      row = row.said;
      lawful = c.answer-told.ensures.lawful;
    }) in
    record {
      turn = row.turn;
      brief = row.brief;
      said = (
        subst T c.loop.invariant took,
        settled-tells (first_view c.args.book.now).serves t row.turn after
            (ap settles (sym row.brief) ∙ sym c.is_settled.ensures ∙ c.if-is_settled.true),
      );
    }
