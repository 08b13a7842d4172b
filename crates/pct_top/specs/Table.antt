-- The table of the program's commands: the word of each, and the options that it takes (this
-- project).
use Rattle.std.specs.Prelude.{ℕ, ◌||◌, not, Bool, true, false, if◌then◌else◌, List, Option, Some}
use Rattle.std.specs.Prelude.{None, is_some, codes}
use Rattle.std.specs.Str.{bytes_eq}
use Rattle.pct_top.specs.declared.command.Command.{Command}
use Rattle.pct_top.specs.declared.command.Command.TheVariants.{Run, Campaign, Big, Replay, Expose}
use Rattle.pct_top.specs.declared.command.Command.TheVariants.{Certify, Sweep}
use Rattle.pct_top.specs.declared.options.OptionName.{OptionName}
use Rattle.pct_top.specs.declared.options.OptionName.TheVariants.{Order, Points, Limit, Seed, Depth}
use Rattle.pct_top.specs.declared.options.OptionName.TheVariants.{Steps, From, Count, Form, Serve}
use Rattle.pct_top.specs.declared.options.Options.{Options}
use Rattle.pct_top.specs.declared.settings.Report.TheVariants.{Trace, Races, Locks, Find}

-- the command that a word names
abbrev pub command_named : List ℕ → Option Command
command_named word =
    if bytes_eq word (codes "run") then Some (Run Trace)
    else (if bytes_eq word (codes "races") then Some (Run Races)
    else (if bytes_eq word (codes "locks") then Some (Run Locks)
    else (if bytes_eq word (codes "find") then Some (Run Find)
    else (if bytes_eq word (codes "campaign") then Some Campaign
    else (if bytes_eq word (codes "big") then Some Big
    else (if bytes_eq word (codes "replay") then Some Replay
    else (if bytes_eq word (codes "expose") then Some Expose
    else (if bytes_eq word (codes "certify") then Some Certify
    else (if bytes_eq word (codes "sweep") then Some Sweep else None)))))))))

-- ---- the options of a run, in its two forms

-- an option of the ordered form was given
abbrev pub is_ordered : Options → Bool
is_ordered o = is_some o.order || is_some o.points

-- an option of the seeded form was given
abbrev pub is_seeded : Options → Bool
is_seeded o = is_some o.seed || is_some o.depth || is_some o.steps

-- The option belongs to a run, and none of the other form was given. The limit belongs to both
-- forms.
abbrev pub run_takes : Options → OptionName → Bool
run_takes o Order = not (is_seeded o)
run_takes o Points = not (is_seeded o)
run_takes o Limit = true
run_takes o Seed = not (is_ordered o)
run_takes o Depth = not (is_ordered o)
run_takes o Steps = not (is_ordered o)
run_takes o From = false
run_takes o Count = false
run_takes o Form = false
run_takes o Serve = false

-- the option belongs to a campaign
abbrev pub campaign_takes : OptionName → Bool
campaign_takes From = true
campaign_takes Count = true
campaign_takes Depth = true
campaign_takes Steps = true
campaign_takes Limit = true
campaign_takes Form = true
campaign_takes Serve = true
campaign_takes Order = false
campaign_takes Points = false
campaign_takes Seed = false

-- the option belongs to the campaign of the large script
abbrev pub big_takes : OptionName → Bool
big_takes Serve = true
big_takes name = false

-- the option belongs to the exposing of a directive
abbrev pub expose_takes : OptionName → Bool
expose_takes Order = true
expose_takes Steps = true
expose_takes Limit = true
expose_takes Points = false
expose_takes Seed = false
expose_takes Depth = false
expose_takes From = false
expose_takes Count = false
expose_takes Form = false
expose_takes Serve = false

-- the option belongs to the certifying of a directive
abbrev pub certify_takes : OptionName → Bool
certify_takes Steps = true
certify_takes Limit = true
certify_takes Serve = true
certify_takes Order = false
certify_takes Points = false
certify_takes Seed = false
certify_takes Depth = false
certify_takes From = false
certify_takes Count = false
certify_takes Form = false

-- the option belongs to a sweep
abbrev pub sweep_takes : OptionName → Bool
sweep_takes Depth = true
sweep_takes Steps = true
sweep_takes Limit = true
sweep_takes Form = true
sweep_takes Serve = true
sweep_takes Order = false
sweep_takes Points = false
sweep_takes Seed = false
sweep_takes From = false
sweep_takes Count = false

-- ---- all commands

-- the command takes the option, beside those that were given
abbrev pub takes_option : Command → Options → OptionName → Bool
takes_option (Run report) o name = run_takes o name
takes_option Campaign o name = campaign_takes name
takes_option Big o name = big_takes name
takes_option Replay o name = false
takes_option Expose o name = expose_takes name
takes_option Certify o name = certify_takes name
takes_option Sweep o name = sweep_takes name
