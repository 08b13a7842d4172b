use Rattle.std.proofs.Common.{◌≡◌, true, take}
use Rattle.std.specs.List.{list_all}
use Rattle.pct_ask.specs.declared.event.Row.{Row}
use Rattle.pct_top.specs.Runs.{is_passed}
use Rattle.pct_top.proofs.commands.campaign_command.all_pass.Given as goal

abbrev pub invariant-loop-row : goal.invariant-loop-row
invariant-loop-row l =
    list_all (λ (row : Row). is_passed row.verdict) (take l.row-index l.rows) ≡ true
