use Rattle.std.proofs.Common.{◌∙◌, ap}
use Rattle.sync_store.specs.ReleaseList.{releases_by}
use Rattle.sync_store.proofs.ReleaseLists.{list_without-by}
use Rattle.sync_store.proofs.release_list.ReleaseList.leave.Goals as goal

pub returns : goal.returns
returns c =
    let list = c.self.inside in
    rw (← c.self.view_is) (ap (releases_by list.serial) c.leave.ensures
    ∙ list_without-by list.serial c.args.thread list.threads)
