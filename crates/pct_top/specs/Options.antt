-- The options of the commands, by cases on the list of their words (this project).
use Rattle.std.specs.Prelude.{◌≡◌, ℕ, ◌+◌, ◌&&◌, Bool, true, false, if◌then◌else◌, List, [], ◌∷◌}
use Rattle.std.specs.Prelude.{Option, Some}
use Rattle.std.specs.Prelude.{None, is_some, is_none, ok_or, Result, Ok, Err, codes}
use Rattle.std.specs.Option.{option_map, option_and_then}
use Rattle.std.specs.Str.{bytes_eq}
use Rattle.pct_top.specs.declared.command.Command.{Command}
use Rattle.pct_top.specs.declared.options.OptionName.{OptionName}
use Rattle.pct_top.specs.declared.options.OptionName.TheVariants.{Order, Points, Limit, Seed, Depth}
use Rattle.pct_top.specs.declared.options.OptionName.TheVariants.{Steps, From, Count, Form, Serve}
use Rattle.pct_top.specs.declared.options.Options.{Options}
use Rattle.pct_top.specs.declared.settings.WordsError.{WordsError}
use Rattle.pct_top.specs.declared.settings.WordsError.TheVariants.{Word, NoMemory}
use Rattle.pct_top.specs.declared.values.ReportForm.{ReportForm}
use Rattle.pct_top.specs.declared.values.ReportForm.TheVariants.{Text, Json}
use Rattle.pct_top.specs.Table.{takes_option}
use Rattle.pct_ask.specs.Numbers.{step_count}
use Rattle.pct_top.specs.Values.{order_in, points_in, seed_in, depth_in, form_in, serve_in}

-- the option that a word begins
abbrev pub option_named : List ℕ → Option OptionName
option_named word =
    if bytes_eq word (codes "--order") then Some Order
    else (if bytes_eq word (codes "--points") then Some Points
    else (if bytes_eq word (codes "--limit") then Some Limit
    else (if bytes_eq word (codes "--seed") then Some Seed
    else (if bytes_eq word (codes "--depth") then Some Depth
    else (if bytes_eq word (codes "--steps") then Some Steps
    else (if bytes_eq word (codes "--from") then Some From
    else (if bytes_eq word (codes "--count") then Some Count
    else (if bytes_eq word (codes "--form") then Some Form
    else (if bytes_eq word (codes "--serve") then Some Serve else None)))))))))

-- before the first option
abbrev pub no_options : Options
no_options = record {
  order = None;
  points = None;
  limit = None;
  seed = None;
  depth = None;
  steps = None;
  from = None;
  count = None;
  form = None;
  serve = None;
}

-- the option wasn't given before
abbrev pub is_new : Options → OptionName → Bool
is_new o Order = is_none o.order
is_new o Points = is_none o.points
is_new o Limit = is_none o.limit
is_new o Seed = is_none o.seed
is_new o Depth = is_none o.depth
is_new o Steps = is_none o.steps
is_new o From = is_none o.from
is_new o Count = is_none o.count
is_new o Form = is_none o.form
is_new o Serve = is_none o.serve

-- the options with one more, whose value is the word of this number; none where the value isn't
-- lawful
abbrev pub with_option_value : Options → ℕ → OptionName → List ℕ → Option Options
with_option_value o word Order value =
    option_map (λ items. record o { order = Some (record { items = items; word = word }) })
    (order_in value)
with_option_value o word Points value =
    option_map (λ points. record o { points = Some points }) (points_in value)
with_option_value o word Limit value =
    option_map (λ limit. record o { limit = Some limit }) (step_count value)
with_option_value o word Seed value =
    option_map (λ seed. record o { seed = Some seed }) (seed_in value)
with_option_value o word Depth value =
    option_map (λ depth. record o { depth = Some depth }) (depth_in value)
with_option_value o word Steps value =
    option_map (λ steps. record o { steps = Some steps }) (step_count value)
with_option_value o word From value =
    option_map (λ from. record o { from = Some from }) (seed_in value)
with_option_value o word Count value =
    option_map (λ count. record o { count = Some count }) (step_count value)
with_option_value o word Form value =
    option_map (λ form. record o { form = Some form }) (form_in value)
with_option_value o word Serve value =
    option_map (λ serve. record o { serve = Some serve }) (serve_in value)

-- whether a form is given and is JSON
abbrev pub is_json_form : Option ReportForm → Bool
is_json_form None = false
is_json_form (Some Text) = false
is_json_form (Some Json) = true

-- whether the report is to be JSON: it is a text where no form is given
abbrev pub is_json : Options → Bool
is_json o = is_json_form o.form

-- the option that a word begins here, where it is new and the command takes it
abbrev pub next_option : Command → Options → List ℕ → Option OptionName
next_option command o word =
    option_and_then
    (λ name. if is_new o name && takes_option command o name then Some name else None)
    (option_named word)

-- options, or the number of the first word that isn't taken
abbrev pub OptionsOrWord : Type 0
OptionsOrWord = Result Options ℕ

-- what follows of what words give; where a word wasn't taken, its number stays
abbrev pub and_then : {A B : Type 0} → (A → Result B ℕ) → Result A ℕ → Result B ℕ
and_then further (Err number) = Err number
and_then further (Ok given) = further given

-- The options that words give a command, after those before them; the first word has this number.
-- A word isn't taken that begins no option here, and neither is a value that isn't lawful, or that
-- is missing.
abbrev pub options_from : Command → Options → ℕ → List (List ℕ) → OptionsOrWord
options_from command o number [] = Ok o
options_from command o number (word ∷ []) =
    and_then (λ name. Err (number + 1)) (ok_or (next_option command o word) number)
options_from command o number (word ∷ value ∷ words) =
    and_then (λ name.
    and_then (λ more. options_from command more (number + 2) words)
    (ok_or (with_option_value o (number + 1) name value) (number + 1)))
    (ok_or (next_option command o word) number)

-- 1 where the test holds, and else 0
abbrev pub one_if : Bool → ℕ
one_if b = if b then 1 else 0

-- how many options were given
abbrev pub option_count : Options → ℕ
option_count o =
    one_if (is_some o.order) + one_if (is_some o.points) + one_if (is_some o.limit)
    + one_if (is_some o.seed) + one_if (is_some o.depth) + one_if (is_some o.steps)
    + one_if (is_some o.from) + one_if (is_some o.count) + one_if (is_some o.form)
    + one_if (is_some o.serve)

-- ---- what calls answer, want of memory aside

-- options are given, or the number of a word
abbrev pub GivesOptions : {A : Type 0} → (A → Options) → Result A WordsError → OptionsOrWord
    → Type 0
GivesOptions options (Ok a) given = given ≡ Ok (options a)
GivesOptions options (Err (Word number)) given = given ≡ Err number
GivesOptions options (Err NoMemory) given = Unit {0}

-- the options have become these
abbrev pub ChangesTo : Result (Unit {0}) WordsError → Options → OptionsOrWord → Type 0
ChangesTo (Ok unit) new given = given ≡ Ok new
ChangesTo (Err (Word number)) new given = given ≡ Err number
ChangesTo (Err NoMemory) new given = Unit {0}

-- what is given is what further words give
abbrev pub LeavesTo : {A : Type 0} → (A → OptionsOrWord) → OptionsOrWord → Result A WordsError
    → Type 0
LeavesTo further given (Ok a) = given ≡ further a
LeavesTo further given (Err (Word number)) = given ≡ Err number
LeavesTo further given (Err NoMemory) = Unit {0}
