-- What may cross threads: a lock is shared and a seat is handed on, where the policy may be.
use denote.RattleType.{RattleType}
use denote.Param.Send.{IsSend, IsSync, sendable}
use Rattle.std.proofs.Crossing.{crosses}
use Rattle.policy_pick.specs.declared.policy.Policy.{Ghosts}
use Rattle.pct_ask.specs.contracts.deal.Deal as deal
use Rattle.pct_ask.specs.contracts.event.Event as event
use Rattle.pct_ask.specs.contracts.verdict.Outcome as outcome
use Rattle.policy_pick.specs.contracts.chance.Pick as pick
use Rattle.sync_store.specs.contracts.store.Store as store
use Rattle.turn_book.specs.contracts.board.Board as board
use Rattle.turn_book.specs.contracts.book.TurnBook as book
use Rattle.turn_lock.specs.contracts.slot.Slot as slot
use Rattle.turn_lock.specs.contracts.held.TurnLock as lock
use Rattle.turn_lock.specs.contracts.seat.Seat as seat
use Rattle.atomic_table.proofs.shared.Shared.TheSendSync as table
use Rattle.atomic_table.proofs.shared.Seat.TheSendSync as place
use Rattle.atomic_table.proofs.send_lease.SendLease.TheSendSync as lease

deal-send : IsSend deal.the_row
deal-send = search (sendable, crosses) depth 40 fits 20000

event-send : IsSend event.the_row
event-send = search (sendable, crosses) depth 40 fits 20000

outcome-send : IsSend outcome.the_row
outcome-send = search (sendable, crosses) depth 40 fits 20000

pick-send : IsSend pick.the_row
pick-send = search (sendable, crosses) depth 40 fits 20000

store-send : IsSend store.the_row
store-send = search (sendable, crosses) depth 60 fits 20000

board-send : IsSend board.the_row
board-send = search (sendable, crosses, store-send) depth 60 fits 20000

module _ (P : RattleType) (policy : Ghosts P.Denot) (p : IsSend P) where
  book-send : IsSend (book.the_row P policy)
  book-send =
      search (sendable, crosses, deal-send, event-send, outcome-send, pick-send, board-send) depth
      40 fits 20000

  slot-send : IsSend (slot.the_row P policy)
  slot-send = search (sendable, crosses, book-send) depth 40 fits 20000

  -- each as a field of another type has it
  pub lock-sync : IsSync (lock.the_field P policy).row
  lock-sync =
      search (sendable, crosses, slot-send, table.the_sync, lease.the_sync) depth 40 fits 20000

  pub seat-send : IsSend (seat.the_field P policy).row
  seat-send = search (sendable, crosses, slot-send, place.the_send) depth 40 fits 20000
