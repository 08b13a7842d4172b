-- A running test may be shared among threads, and a task may go to one.
use Rattle.std.proofs.Common.{List}
use mir.Syntax.{Sym}
use denote.RattleType.{RattleType}
use denote.Ref.{NamedLft}
use denote.Struct.Struct.{Struct}
use denote.Struct.Declared.{shape}
use denote.Struct.Tuple.{TupleAt, type_at}
use denote.Param.Send.{IsSend, IsSync, AllSend, struct_send, recorded_send, sendable}
use Rattle.std.proofs.Crossing.{crosses}
use Rattle.policy_pick.specs.declared.policy.Policy.{Ghosts}
use Rattle.turn_lock.proofs.laws.Crossing.{lock-sync, seat-send}
use Rattle.worker_run.specs.contracts.batch.RunningTest as test
use Rattle.worker_run.specs.contracts.batch.Task as task

module _ (P B : RattleType) (policy : Ghosts P.Denot) (p : IsSend P) (b : IsSend B) where
  pub test-sync : (κ : NamedLft) → IsSync (test.the_row κ P B policy)
  test-sync κ = search (sendable, crosses, lock-sync) depth 40 fits 20000

  pub task-send : IsSend (task.the_row P B policy)
  task-send = search (sendable, crosses, seat-send) depth 40 fits 20000

-- what a closure captures may go to a thread, each by itself
pub captures-send : (name : Sym) (rows : List RattleType)
    → AllSend (shape (type_at name rows)).fields → IsSend (TupleAt name rows)
captures-send name rows all =
    recorded_send (Struct (shape (type_at name rows))) _ _ (type_at name rows).to_one
    (struct_send (shape (type_at name rows)) all)
