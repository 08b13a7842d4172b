use Rattle.std.proofs.Common.{List, Vec, Global, sym, ap, subst, ◌∙◌}
use Rattle.std.specs.Prelude.{slice_get}
use Rattle.turn_lock.specs.Views.{HasSeat}
use Rattle.turn_lock.specs.declared.held.TurnLock.{TurnLock}
use Rattle.worker_run.specs.Batch.{Each, IsSeatOf}
use Rattle.worker_run.specs.declared.batch.Test.{Test}
use Rattle.worker_run.proofs.many.run_many_by.Goals as goal

pub play_tests-requires-clause-tests : goal.play_tests-requires-clause-tests
play_tests-requires-clause-tests g c = λ κs lives i test at.
    c.requires.tests i test
    (ap (λ (v : Vec (Test g.row.P.Denot g.row.B.Denot) Global). slice_get v.items i)
    (sym c.of-first.ensures) ∙ at)

pub play_tests-requires-clause-of : goal.play_tests-requires-clause-of
play_tests-requires-clause-of g c = λ κs lives.
    let O : List (TurnLock g.row.P.Denot) → Type 0 =
    λ l. Each (λ lock share. HasSeat lock share.seat) l c.in_ok-locks.shares.items in
    subst O (sym c.as_slice.ensures.value) c.in_ok-locks.ensures.of

pub runs_of-requires-clause-tests : goal.runs_of-requires-clause-tests
runs_of-requires-clause-tests g c = λ κs lives i test at.
    c.requires.tests i test
    (ap (λ (v : Vec (Test g.row.P.Denot g.row.B.Denot) Global). slice_get v.items i)
    (sym c.of-first.ensures) ∙ at)

pub runs_of-requires-clause-seats : goal.runs_of-requires-clause-seats
runs_of-requires-clause-seats g c = λ κs lives.
    let S : List (TurnLock g.row.P.Denot) → Type 0 =
    λ l. Each (λ lock share. IsSeatOf lock share.seat) l c.in_ok-shares.shares.items in
    subst S c.as_slice.ensures.value c.in_ok-shares.ensures.seats
