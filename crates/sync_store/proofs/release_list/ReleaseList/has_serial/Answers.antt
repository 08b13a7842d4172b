use Rattle.std.proofs.Common.{arith}
use Rattle.sync_store.proofs.ReleaseLists.{is_serial-by}
use Rattle.sync_store.proofs.release_list.ReleaseList.has_serial.Goals as goal

pub returns-then-has : goal.returns-then-has
returns-then-has c =
    let list = c.self.inside in
    let e = is_serial-by list.serial c.args.thread list.threads in
    rw (← c.self.view_is) (grind arith)

pub returns-else-has : goal.returns-else-has
returns-else-has c =
    let list = c.self.inside in
    let e = is_serial-by list.serial c.args.thread list.threads in
    rw (← c.self.view_is) (grind arith)
