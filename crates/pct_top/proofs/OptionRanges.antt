-- What words ask for keeps to the ranges: what is read as a value is in its range, so are options
-- that take it, and so is what a command makes of these.
use Rattle.std.proofs.Common.{◌≡◌, ℕ, suc, ◌+◌, ◌≤◌, Bool, true, false, cond, List, [], ◌∷◌, length}
use Rattle.std.proofs.Common.{Option, Some, None, refl, ap, arith}
use Rattle.std.specs.Prelude.{All, IfSome, IfOk, nat_le}
use Rattle.std.specs.Option.{unwrap_or}
use Rattle.std.proofs.lemmas.Bool.Decides.{nat_tests}
use Rattle.std.proofs.lemmas.List.Elements.{All-cons, All-nil}
use Rattle.std.proofs.lemmas.Option.{IfSome_then}
use Rattle.pct_ask.specs.Limits.{IsStepCount, IsDepth}
use Rattle.pct_ask.specs.Numbers.{number_in, onto_front, step_count, step_counts}
use Rattle.pct_ask.proofs.laws.Decimals.{number_in-Some}
use Rattle.pct_top.specs.declared.command.Command.{Command}
use Rattle.pct_top.specs.declared.command.Command.TheVariants.{Run, Campaign, Big, Replay, Expose}
use Rattle.pct_top.specs.declared.command.Command.TheVariants.{Certify, Sweep}
use Rattle.pct_top.specs.declared.options.OptionName.{OptionName}
use Rattle.pct_top.specs.declared.options.OptionName.TheVariants.{Points, Limit, Depth, Steps}
use Rattle.pct_top.specs.declared.options.OptionName.TheVariants.{Count}
use Rattle.pct_top.specs.declared.options.Options.{Options}
use Rattle.pct_top.specs.declared.options.NamedOrder.{NamedOrder}
use Rattle.pct_top.specs.declared.settings.Report.{Report}
use Rattle.pct_top.specs.declared.settings.Settings.{Settings}
use Rattle.pct_top.specs.Table.{command_named}
use Rattle.pct_top.specs.Values.{items_of, points_in, pieces_in}
use Rattle.pct_ask.specs.declared.limits.TheConstants.{MAX_POINTS}
use Rattle.pct_top.specs.Options.{no_options, next_option, with_option_value, options_from}
use Rattle.pct_top.specs.Settings as settings
use Rattle.pct_top.specs.Settings.{AreChangePoints, AreLawful}
use Rattle.pct_top.proofs.Followed.{mapped, chained, followed, behind, or_word, any}

-- ---- values

bounded : (low high : ℕ) (word : List ℕ)
    → IfSome (number_in low high word) (λ n. (low ≤ n) × (n ≤ high))
bounded low high word = by (number_in low high word) refl
  where
    by : (o : Option ℕ) → number_in low high word ≡ o → IfSome o (λ n. (low ≤ n) × (n ≤ high))
    by None is = tt
    by (Some n) is = let k = number_in-Some low high n word is in (k.0, k.1)

abbrev AreCounts : List (List ℕ) → List ℕ → Type 0
AreCounts items counts = (length counts ≡ length items) × All IsStepCount counts

counted : (items : List (List ℕ)) → IfSome (step_counts items) (AreCounts items)
counted [] = (refl, All-nil IsStepCount)
counted (item ∷ items) = by (step_count item) (bounded 1 100000 item) (counted items)
  where
    by : (o : Option ℕ) → IfSome o IsStepCount → IfSome (step_counts items) (AreCounts items)
        → IfSome (onto_front o (step_counts items)) (AreCounts (item ∷ items))
    by None fits are = tt
    by (Some n) fits are =
        mapped (AreCounts (item ∷ items)) _ (step_counts items) are
        (λ ns are. (ap suc are.0, All-cons IsStepCount n ns fits are.1))

points_fit : (value : List ℕ) → IfSome (points_in value) AreChangePoints
points_fit value = by (nat_le (length (items_of value)) MAX_POINTS) refl
  where
    by : (few : Bool) → nat_le (length (items_of value)) MAX_POINTS ≡ few
        → IfSome (cond few (step_counts (items_of value)) None) AreChangePoints
    by false test = tt
    by true test = IfSome_then (step_counts (items_of value)) (counted (items_of value))
        (λ ns are. (grind (arith, nat_tests, are.0), are.1))

-- ---- options

-- what has a range is in it: the points, the limit, the depth, the steps and the count
abbrev AreInRange : Options → Type 0
AreInRange o =
    AreChangePoints (unwrap_or o.points []) × IsStepCount (settings.limit_of o)
    × IfSome o.depth IsDepth
    × IfSome o.steps IsStepCount × IfSome o.count IsStepCount

module _ (o : Options) (r : AreInRange o) where
  taken : (name : OptionName) (word : ℕ) (value : List ℕ)
      → IfSome (with_option_value o word name value) AreInRange
  taken Points word v = mapped AreInRange _ _ (points_fit v) (λ n h. (h, r.1, r.2, r.3, r.4))
  taken Limit word v = mapped AreInRange _ _ (bounded 1 100000 v) (λ n h. (r.0, h, r.2, r.3, r.4))
  taken Depth word v = mapped AreInRange _ _ (bounded 1 8 v) (λ n h. (r.0, r.1, h, r.3, r.4))
  taken Steps word v = mapped AreInRange _ _ (bounded 1 100000 v) (λ n h. (r.0, r.1, r.2, h, r.4))
  taken Count word v = mapped AreInRange _ _ (bounded 1 100000 v) (λ n h. (r.0, r.1, r.2, r.3, h))
  taken name word v = mapped AreInRange _ _ (any _) (λ x u. r)

all_taken : (command : Command) (words : List (List ℕ)) (o : Options) (number : ℕ) → AreInRange o
    → IfOk (options_from command o number words) AreInRange
all_taken command [] o number r = r
all_taken command (word ∷ []) o number r =
    followed AreInRange _ (next_option command o word) number (any _) (λ name u. tt {0})
all_taken command (word ∷ value ∷ words) o number r =
    followed AreInRange _ (next_option command o word) number (any _) (λ name u.
    followed AreInRange _ (with_option_value o (number + 1) name value) (number + 1)
    (taken o r name (number + 1) value) (λ more. all_taken command words more (number + 2)))

-- ---- settings

made : (command : Command) (first : ℕ) (make : Options → Option Settings)
    → ((o : Options) → AreInRange o → IfSome (make o) AreLawful) → (words : List (List ℕ))
    → IfOk (settings.made_of command first make words) AreLawful
made command first make makes words =
    behind AreLawful _ (options_from command no_options first words)
    (all_taken command words no_options first
    ((omega arith, All-nil IsStepCount), (omega arith, omega arith), tt, tt, tt))
    (λ o r. or_word _ (make o) (length words + first) (makes o r))

with_file : (command : Command) (make : settings.MadeOfFile)
    → ((file : List ℕ) (o : Options) → AreInRange o → IfSome (make file o) AreLawful)
    → (words : List (List ℕ)) → IfOk (settings.settings_with command make words) AreLawful
with_file command make makes [] = tt
with_file command make makes (file ∷ words) = made command 3 (make file) (makes file) words

over_files : (command : Command) (make : settings.MadeOfFiles)
    → ((file other : List ℕ) (o : Options) → AreInRange o → IfSome (make file other o) AreLawful)
    → (words : List (List ℕ)) → IfOk (settings.settings_over command make words) AreLawful
over_files command make makes [] = tt
over_files command make makes (file ∷ []) = tt
over_files command make makes (file ∷ other ∷ words) =
    made command 4 (make file other) (makes file other) words

run_made : (report : Report) (file : List ℕ) (o : Options) → AreInRange o
    → (order : Option NamedOrder) → IfSome (settings.run_by report file o order) AreLawful
run_made report file o r (Some order) = (r.0, r.1)
run_made report file o r None =
    chained AreLawful _ o.seed (any _) (λ seed u.
    mapped AreLawful _ o.depth r.2 (λ depth fits. (fits, r.3, r.1)))

-- what the words of a command ask for keeps to the ranges
pub command_lawful : (command : Command) (words : List (List ℕ))
    → IfOk (settings.settings_of command words) AreLawful
command_lawful (Run report) words =
    with_file (Run report) (settings.run_with report) (λ file o r.
    run_made report file o r o.order) words
command_lawful Campaign words =
    with_file Campaign settings.campaign_with (λ file o r.
    chained AreLawful _ o.from (any _) (λ first u. chained AreLawful _ o.count r.4 (λ many counts.
    mapped AreLawful _ o.depth r.2 (λ depth deep. (counts, deep, r.3, r.1))))) words
command_lawful Big [] = tt
command_lawful Big (word ∷ words) =
    followed AreLawful _ (pieces_in word) 2 (bounded 1 100 word)
    (λ n fits. made Big 3 (settings.big_with n) (λ o r. fits) words)
command_lawful Replay words = over_files Replay settings.replay_with (λ file trace o r. tt) words
command_lawful Expose words =
    over_files Expose settings.expose_with (λ file directive o r.
    chained AreLawful _ o.order (any _) (λ order u.
    mapped AreLawful _ o.steps r.3 (λ steps fits. (fits, r.1)))) words
command_lawful Certify words =
    over_files Certify settings.certify_with (λ file directive o r.
    mapped AreLawful _ o.steps r.3 (λ steps fits. (fits, r.1))) words
command_lawful Sweep words =
    with_file Sweep settings.sweep_with (λ file o r.
    mapped AreLawful _ o.depth r.2 (λ depth fits. (fits, r.3, r.1))) words

-- what words ask for keeps to the ranges
pub words_lawful : (words : List (List ℕ)) → IfOk (settings.settings words) AreLawful
words_lawful [] = tt
words_lawful (word ∷ words) =
    followed AreLawful _ (command_named word) 1 (any _)
    (λ command u. command_lawful command words)
