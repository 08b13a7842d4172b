use Rattle.std.proofs.Common.{sym, subst}
use Rattle.turn_lock.specs.Calls.{first_book}
use Rattle.turn_lock.specs.Views.{view}
use Rattle.turn_lock.proofs.Keeps.{IsLast, closed}
use Rattle.turn_lock.proofs.held.TurnLock.close.Goals as goal

pub returns-clause-making : goal.returns-clause-making
returns-clause-making g c =
    (subst (IsLast (first_book c.args.self) (view c.args.seat)) (sym c.into_book.ensures)
    (closed _ _ _ _ _ _ c.args.seat.live c.args.seat.idle c.requires.all
    c.close_with-closed.ensures.values.2 c.take-slot.ensures.value)).making

pub returns-clause-lawful : goal.returns-clause-lawful
returns-clause-lawful g c =
    (subst (IsLast (first_book c.args.self) (view c.args.seat)) (sym c.into_book.ensures)
    (closed _ _ _ _ _ _ c.args.seat.live c.args.seat.idle c.requires.all
    c.close_with-closed.ensures.values.2 c.take-slot.ensures.value)).lawful

pub returns-clause-seen : goal.returns-clause-seen
returns-clause-seen g c =
    (subst (IsLast (first_book c.args.self) (view c.args.seat)) (sym c.into_book.ensures)
    (closed _ _ _ _ _ _ c.args.seat.live c.args.seat.idle c.requires.all
    c.close_with-closed.ensures.values.2 c.take-slot.ensures.value)).seen

pub returns-clause-own : goal.returns-clause-own
returns-clause-own g c =
    (subst (IsLast (first_book c.args.self) (view c.args.seat)) (sym c.into_book.ensures)
    (closed _ _ _ _ _ _ c.args.seat.live c.args.seat.idle c.requires.all
    c.close_with-closed.ensures.values.2 c.take-slot.ensures.value)).own
