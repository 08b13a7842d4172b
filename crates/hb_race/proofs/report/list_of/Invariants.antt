use Rattle.std.proofs.Common.{◌≡◌, take}
use Rattle.std.specs.List.{filter_map}
use Rattle.hb_race.proofs.report.list_of.Given as goal

abbrev pub invariant-loop-history : goal.invariant-loop-history
invariant-loop-history l =
    l.races ≡ filter_map (λ history. history.race) (take l.history-index l.histories)
