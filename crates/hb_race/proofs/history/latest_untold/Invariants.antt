use Rattle.hb_race.specs.Lasts.{IsLatest}
use Rattle.hb_race.proofs.history.latest_untold.Given as goal

abbrev pub invariant-loop-u : goal.invariant-loop-u
invariant-loop-u l = IsLatest l.lasts l.thread l.clock l.u l.latest
