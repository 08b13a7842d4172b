-- The values of options (this project).
use Rattle.std.specs.Prelude.{ℕ, ◌==◌, ◌&&◌, nat_le, if◌then◌else◌, List, length, Option, Some}
use Rattle.std.specs.Prelude.{None, codes}
use Rattle.std.specs.List.{slice_split, list_all}
use Rattle.std.specs.Str.{bytes_eq}
use Rattle.pct_ask.specs.Numbers.{number_in, step_counts}
use Rattle.pct_ask.specs.Words.{is_name}
use Rattle.pct_ask.specs.declared.limits.TheConstants.{MAX_DEPTH, MAX_POINTS, MAX_THREADS}
use Rattle.worker_run.specs.declared.serving.Serve.{Serve}
use Rattle.worker_run.specs.declared.serving.Serve.TheVariants.{Threads, Caller}
use Rattle.pct_top.specs.declared.values.ReportForm.{ReportForm}
use Rattle.pct_top.specs.declared.values.ReportForm.TheVariants.{Text, Json}

-- the items of a value, which stand between commas
abbrev pub items_of : List ℕ → List (List ℕ)
items_of value = slice_split (λ b. b == 44) value

-- lawful names, one to as many as there may be threads
abbrev pub order_in : List ℕ → Option (List (List ℕ))
order_in value =
    if nat_le (length (items_of value)) MAX_THREADS && list_all (is_name 1) (items_of value)
    then Some (items_of value) else None

-- numbers of steps, one to as many as there may be points
abbrev pub points_in : List ℕ → Option (List ℕ)
points_in value =
    if nat_le (length (items_of value)) MAX_POINTS then step_counts (items_of value) else None

-- a seed: a number from 0 to 2^64 - 1
abbrev pub seed_in : List ℕ → Option ℕ
seed_in word = number_in 0 18446744073709551615 word

-- a depth, from 1
abbrev pub depth_in : List ℕ → Option ℕ
depth_in word = number_in 1 MAX_DEPTH word

-- a form of reports
abbrev pub form_in : List ℕ → Option ReportForm
form_in word =
    if bytes_eq word (codes "json") then Some Json
    else (if bytes_eq word (codes "text") then Some Text else None)

-- who serves the bodies of many runs
abbrev pub serve_in : List ℕ → Option Serve
serve_in word =
    if bytes_eq word (codes "threads") then Some Threads
    else (if bytes_eq word (codes "caller") then Some Caller else None)

-- how many pieces the threads of the large script have
abbrev pub pieces_in : List ℕ → Option ℕ
pieces_in word = number_in 1 100 word
