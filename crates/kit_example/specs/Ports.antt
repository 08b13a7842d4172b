-- What the queue asks of a deal (this project).
use Rattle.std.specs.Prelude.{◌≤◌, ◌<◌, length}
use Rattle.pct_ask.specs.declared.deal.Deal.{Deal}
use Rattle.kit_example.specs.declared.ports.PortQueue.{PortQueue}

-- there are its variable, its mutex and its conditions
pub record FitsQueue (queue : PortQueue) (deal : Deal) : Type 0 where
  pub vars : 1 ≤ length deal.vars
  pub mutexes : 1 ≤ deal.mutexes
  pub filled : queue.filled < deal.conds
  pub emptied : queue.emptied < deal.conds
