-- What the words of the command line ask for, by cases on their list (this project).
use Rattle.std.specs.Prelude.{◌≡◌, ℕ, ◌+◌, ◌≤◌, List, [], ◌∷◌, length, All, Option, Some}
use Rattle.std.specs.Prelude.{None, IfSome, ok_or, Result, Ok, Err}
use Rattle.std.specs.Option.{option_map, option_and_then, unwrap_or}
use Rattle.pct_ask.specs.Limits.{IsStepCount, IsDepth}
use Rattle.worker_run.specs.declared.serving.Serve.{Serve}
use Rattle.worker_run.specs.declared.serving.Serve.TheVariants.{Threads}
use Rattle.pct_top.specs.declared.command.Command.{Command}
use Rattle.pct_top.specs.declared.command.Command.TheVariants as commands
use Rattle.pct_top.specs.declared.options.Options.{Options}
use Rattle.pct_top.specs.declared.options.NamedOrder.{NamedOrder}
use Rattle.pct_top.specs.declared.settings.Report.{Report}
use Rattle.pct_top.specs.declared.settings.Settings.{Settings}
use Rattle.pct_top.specs.declared.settings.Settings.TheVariants.{RunOrder, RunSeed, Campaign, Big}
use Rattle.pct_top.specs.declared.settings.Settings.TheVariants.{Replay, Expose, Certify, Sweep}
use Rattle.pct_top.specs.declared.settings.WordsError.{WordsError}
use Rattle.pct_top.specs.declared.settings.WordsError.TheVariants.{Word, NoMemory}
use Rattle.pct_top.specs.declared.words.TheConstants.{DEFAULT_LIMIT}
use Rattle.pct_top.specs.Table.{command_named}
use Rattle.pct_top.specs.Values.{pieces_in}
use Rattle.pct_top.specs.Options.{no_options, and_then, options_from, is_json}
use Rattle.pct_ask.specs.declared.limits.TheConstants.{MAX_POINTS}

-- the settings, or the number of the first word that isn't taken
abbrev pub SettingsOrWord : Type 0
SettingsOrWord = Result Settings ℕ

-- What a command makes of the options that words give, of which the first has this number. Where it
-- makes nothing, the word behind them is missing.
abbrev pub made_of : Command → ℕ → (Options → Option Settings) → List (List ℕ) → SettingsOrWord
made_of command first make words =
    and_then (λ o. ok_or (make o) (length words + first))
    (options_from command no_options first words)

-- what a command makes of the name of its script's file and of options; none where an option is
-- missing
abbrev pub MadeOfFile : Type 0
MadeOfFile = List ℕ → Options → Option Settings

-- after the word of a command over one file: the script's file, and then options
abbrev pub settings_with : Command → MadeOfFile → List (List ℕ) → SettingsOrWord
settings_with command make [] = Err 2
settings_with command make (file ∷ words) = made_of command 3 (make file) words

-- ---- a run, whatever is reported of it

-- how many steps a run may have: as many as the options say, or else the default limit
abbrev pub limit_of : Options → ℕ
limit_of o = unwrap_or o.limit DEFAULT_LIMIT

-- the run under an order that was given, with the points that were given, or none
abbrev pub run_by_order : Report → List ℕ → Options → NamedOrder → Settings
run_by_order report file o order =
    RunOrder file order.items order.word (unwrap_or o.points []) (limit_of o) report

-- a seed asks for a depth too
abbrev pub run_by_seed : Report → List ℕ → Options → Option Settings
run_by_seed report file o =
    option_and_then
    (λ seed. option_map (λ depth. RunSeed file seed depth o.steps (limit_of o) report) o.depth)
    o.seed

-- the run under the order, where one was given, and else that of a seed
abbrev pub run_by : Report → List ℕ → Options → Option NamedOrder → Option Settings
run_by report file o (Some order) = Some (run_by_order report file o order)
run_by report file o None = run_by_seed report file o

-- the run that options ask for; none where neither an order is given nor a seed and a depth
abbrev pub run_with : Report → List ℕ → Options → Option Settings
run_with report file o = run_by report file o o.order

-- ---- a campaign

-- who serves the bodies of many runs: threads, where the options don't say
abbrev pub serve_of : Options → Serve
serve_of o = unwrap_or o.serve Threads

-- its first seed, how many seeds and a depth are asked for
abbrev pub campaign_by : List ℕ → Options → ℕ → ℕ → ℕ → Settings
campaign_by file o first count depth =
    Campaign file first count depth o.steps (limit_of o) (is_json o) (serve_of o)

-- the campaign that options ask for; none where a first seed, a count or a depth isn't given
abbrev pub campaign_with : List ℕ → Options → Option Settings
campaign_with file o =
    option_and_then
    (λ first.
    option_and_then (λ count. option_map (campaign_by file o first count) o.depth) o.count)
    o.from

-- ---- a sweep

-- the sweep of all choices to this depth
abbrev pub sweep_by : List ℕ → Options → ℕ → Settings
sweep_by file o depth = Sweep file depth o.steps (limit_of o) (is_json o) (serve_of o)

-- a depth is asked for
abbrev pub sweep_with : List ℕ → Options → Option Settings
sweep_with file o = option_map (sweep_by file o) o.depth

-- ---- the large script

-- the campaign of the large script with so many pieces
abbrev pub big_with : ℕ → Options → Option Settings
big_with pieces o = Some (Big pieces (serve_of o))

-- after `big`: the number of pieces, where it is lawful, and then options
abbrev pub big_settings : List (List ℕ) → SettingsOrWord
big_settings [] = Err 2
big_settings (word ∷ words) =
    and_then (λ pieces. made_of commands.Big 3 (big_with pieces) words) (ok_or (pieces_in word) 2)

-- ---- two files

-- what a command makes of the names of two files and of options; none where an option is missing
abbrev pub MadeOfFiles : Type 0
MadeOfFiles = List ℕ → List ℕ → Options → Option Settings

-- after the word of a command over two files: the script's file, the second one, and then options
abbrev pub settings_over : Command → MadeOfFiles → List (List ℕ) → SettingsOrWord
settings_over command make [] = Err 2
settings_over command make (file ∷ []) = Err 3
settings_over command make (file ∷ second ∷ words) = made_of command 4 (make file second) words

-- the replay of the trace in one file over the script in the other; it takes no option
abbrev pub replay_with : List ℕ → List ℕ → Options → Option Settings
replay_with file trace o = Some (Replay file trace)

-- the exposing of a directive under this order, for runs of at most so many steps
abbrev pub expose_by : List ℕ → List ℕ → Options → NamedOrder → ℕ → Settings
expose_by file directive o order steps =
    Expose file directive order.items order.word steps (limit_of o)

-- an order and a number of steps are asked for
abbrev pub expose_with : List ℕ → List ℕ → Options → Option Settings
expose_with file directive o =
    option_and_then (λ order. option_map (expose_by file directive o order) o.steps) o.order

-- the certificate of a directive, for runs of at most so many steps
abbrev pub certify_by : List ℕ → List ℕ → Options → ℕ → Settings
certify_by file directive o steps = Certify file directive steps (limit_of o) (serve_of o)

-- a number of steps is asked for
abbrev pub certify_with : List ℕ → List ℕ → Options → Option Settings
certify_with file directive o = option_map (certify_by file directive o) o.steps

-- ---- all words

-- after a command's word
abbrev pub settings_of : Command → List (List ℕ) → SettingsOrWord
settings_of (commands.Run report) words =
    settings_with (commands.Run report) (run_with report) words
settings_of commands.Campaign words = settings_with commands.Campaign campaign_with words
settings_of commands.Big words = big_settings words
settings_of commands.Replay words = settings_over commands.Replay replay_with words
settings_of commands.Expose words = settings_over commands.Expose expose_with words
settings_of commands.Certify words = settings_over commands.Certify certify_with words
settings_of commands.Sweep words = settings_with commands.Sweep sweep_with words

-- the words of the program, after its own name: a command's word, and what is behind it
abbrev pub settings : List (List ℕ) → SettingsOrWord
settings [] = Err 1
settings (word ∷ words) =
    and_then (λ command. settings_of command words) (ok_or (command_named word) 1)

-- what a call answers is what the words ask for, want of memory aside
abbrev pub ReadsWordsAs : Result Settings WordsError → SettingsOrWord → Type 0
ReadsWordsAs (Ok answer) taken = taken ≡ Ok answer
ReadsWordsAs (Err (Word number)) taken = taken ≡ Err number
ReadsWordsAs (Err NoMemory) taken = Unit {0}

-- ---- the ranges that the words keep to

-- at most seven change points, each in 1..100000
abbrev pub AreChangePoints : List ℕ → Type 0
AreChangePoints points = (length points ≤ MAX_POINTS) × All IsStepCount points

-- the points, the depth, the numbers of steps, of seeds and of pieces are in their ranges
abbrev pub AreLawful : Settings → Type 0
AreLawful (RunOrder file order word points limit report) =
    AreChangePoints points × IsStepCount limit
AreLawful (RunSeed file seed depth steps limit report) =
    IsDepth depth × IfSome steps IsStepCount × IsStepCount limit
AreLawful (Campaign file first count depth steps limit json serve) =
    IsStepCount count × IsDepth depth × IfSome steps IsStepCount × IsStepCount limit
AreLawful (Big pieces serve) = (1 ≤ pieces) × (pieces ≤ 100)
AreLawful (Replay file trace) = Unit {0}
AreLawful (Expose file directive order word steps limit) = IsStepCount steps × IsStepCount limit
AreLawful (Certify file directive steps limit serve) = IsStepCount steps × IsStepCount limit
AreLawful (Sweep file depth steps limit json serve) =
    IsDepth depth × IfSome steps IsStepCount × IsStepCount limit
