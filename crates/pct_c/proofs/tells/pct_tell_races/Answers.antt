use Rattle.c_tells.specs.Races.{AreRacesOf}
use Rattle.pct_c.proofs.BufferLaws.{puts}
use Rattle.pct_c.proofs.tells.pct_tell_races.Goals as goal

pub returns : goal.returns
returns c =
    let a = c.args in
    puts (AreRacesOf a.deal.now a.variables.now a.semaphores.now a.barriers.now a.steps.now)
    c.races_told.result c.put.result.status c.put.result.count a.races.now c.put.new.buffer
    c.races_told.ensures c.put.ensures
