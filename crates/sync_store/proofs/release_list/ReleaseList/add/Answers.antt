use Rattle.std.proofs.Common.{◌≡◌, true, false, arith}
use Rattle.sync_store.specs.Store.{is_on}
use Rattle.sync_store.proofs.ReleaseLists.{releases-onto, let_through-again}
use Rattle.sync_store.proofs.release_list.ReleaseList.add.Goals as goal

pub returns-then-not-has : goal.returns-then-not-has
returns-then-not-has c =
    let list = c.self.inside in
    let off : is_on c.args.thread list.threads ≡ false = grind arith in
    rw (← c.self.view_is) (releases-onto list.serial c.args.thread c.args.serial list.threads
    c.add.new.self (omega (arith, c.self.told, c.requires)) off c.add.ensures)

pub returns-else-not-has : goal.returns-else-not-has
returns-else-not-has c =
    let list = c.self.inside in
    let on : is_on c.args.thread list.threads ≡ true = grind arith in
    rw (← c.self.view_is) (let_through-again list.serial c.args.thread c.args.serial list.threads
    on)
