-- A directive as plain data, and the text of it (this project).
use Rattle.std.specs.Prelude.{ℕ, List, [], ◌∷◌, ◌++◌, map, codes, decimal}
use Rattle.std.specs.List.{join_with_byte}
use Rattle.pct_ask.specs.Lines.{text_of_lines}
use Rattle.pct_ask.specs.NameLists.{NameLists}
use Rattle.pct_ask.specs.VerdictText.{thread_name, verdict_text}
use Rattle.pct_ask.specs.declared.verdict.Verdict.{Verdict}
use Rattle.rank_now.specs.declared.moment.Moment.{Moment}

-- the thread that is lowest, the moments after which a thread is lowered, and the verdict that is
-- to come
pub record DirectiveText : Type 0 where
  pub low : ℕ
  pub events : List Moment
  pub verdict : Verdict

-- low NAME, which names the thread that is lowest; without its LF
abbrev pub low_line : List ℕ → List ℕ
low_line name = join_with_byte 32 (codes "low" ∷ name ∷ [])

-- after NAME NUMBER: a thread, and the number of a step among its own; without its LF
abbrev pub after_line : List ℕ → ℕ → List ℕ
after_line name number = join_with_byte 32 (codes "after" ∷ name ∷ decimal number ∷ [])

-- the `after` line of a moment, with its thread's name
abbrev pub moment_line : NameLists → Moment → List ℕ
moment_line names moment = after_line (thread_name names moment.thread) moment.number

-- the text of a verdict behind its word
abbrev pub verdict_line : List ℕ → List ℕ
verdict_line text = codes "verdict " ++ text

-- directive 1, low NAME, after NAME NUMBER for each moment, verdict VERDICT
abbrev pub directive_lines : NameLists → DirectiveText → List (List ℕ)
directive_lines names told =
    codes "directive 1" ∷ low_line (thread_name names told.low)
    ∷ (map (moment_line names) told.events ++ verdict_line (verdict_text names told.verdict) ∷ [])

-- the text of a directive file: all its lines, each with its LF
abbrev pub directive_text : NameLists → DirectiveText → List ℕ
directive_text names told = text_of_lines (directive_lines names told)
