-- What a call of the program does, by its words (this project).
use Rattle.std.specs.Prelude.{◌≡◌, ℕ, List, Option, Some, None}
use Rattle.pct_top.specs.declared.status.Status.{Status}
use Rattle.pct_top.specs.Outside.{Outside}
use Rattle.pct_top.specs.Call.{IsCall}
use Rattle.pct_main.specs.Own.{answer_to, IsPut}

-- the program's own text is put, where there is one for the words, and no file is read; else it is
-- a
-- call of `pct`
abbrev pub AnswersBy :
    Option (List ℕ) → List (List ℕ) → Outside → Outside → Status → Type 0
AnswersBy (Some text) words found left status =
    IsPut text found.output left.output found.errors left.errors status
    × (left.shelf ≡ found.shelf)
AnswersBy None words found left status = IsCall words found left status

-- what a call of the program does with its words
abbrev pub IsCallDone : List (List ℕ) → Outside → Outside → Status → Type 0
IsCallDone words found left status = AnswersBy (answer_to words) words found left status
