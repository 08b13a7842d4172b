-- What the threads of a script share (this project).
use Rattle.std.specs.Prelude.{◌≡◌, length}
use Rattle.pct_ask.specs.declared.deal.Deal.{Deal}
use Rattle.script_tree.specs.ScriptText.{ScriptText}

-- there are as many threads and objects of each kind as the script names, with the first values
-- that it gives
pub record IsDealOf (script : ScriptText) (deal : Deal) : Type 0 where
  pub threads : deal.threads ≡ length script.names.threads
  pub vars : deal.vars ≡ script.vars
  pub mutexes : deal.mutexes ≡ length script.names.mutexes
  pub conds : deal.conds ≡ length script.names.conds
  pub sems : deal.sems ≡ script.sems
  pub barriers : deal.barriers ≡ script.barriers
  pub rwlocks : deal.rwlocks ≡ length script.names.rwlocks
