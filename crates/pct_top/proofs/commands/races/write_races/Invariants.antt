use Rattle.std.proofs.Common.{◌≡◌, take, map}
use Rattle.std.specs.List.{flat_map}
use Rattle.pct_ask.specs.TraceText.{line_text}
use Rattle.pct_top.specs.commands.Races.{race_words}
use Rattle.pct_top.proofs.commands.races.write_races.Given as goal

abbrev pub invariant-loop-race : goal.invariant-loop-race
invariant-loop-race l =
    l.text.items ≡ flat_map line_text (map (race_words l.names) (take l.race-index l.races))
