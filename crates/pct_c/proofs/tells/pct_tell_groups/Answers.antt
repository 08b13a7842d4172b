use Rattle.c_tells.specs.Groups.{AreGroupsOf}
use Rattle.pct_c.proofs.BufferLaws.{puts}
use Rattle.pct_c.proofs.tells.pct_tell_groups.Goals as goal

pub returns : goal.returns
returns c =
    puts (AreGroupsOf c.args.rows.now) c.groups_told.result c.put.result.status c.put.result.count
    c.args.groups.now c.put.new.buffer c.groups_told.ensures c.put.ensures
