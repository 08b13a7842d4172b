use Rattle.std.proofs.Common.{◌∙◌, sym}
use Rattle.sync_store.proofs.ReleaseLists.{is_released-by}
use Rattle.sync_store.proofs.release_list.ReleaseList.has.Goals as goal

pub returns : goal.returns
returns c =
    let list = c.self.inside in
    rw (← c.self.view_is) (c.has.ensures
    ∙ sym (is_released-by list.serial c.args.thread list.threads))
