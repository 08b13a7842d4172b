-- Faults as the reader tests for them, line by line. FaultForms has that they are the faults by
-- form.
use Rattle.std.specs.Prelude.{◌≡◌, ℕ, ◌+◌, ◌-◌, ◌<◌, zero, suc, ◌==◌, ◌&&◌, ◌||◌, Bool, true, false}
use Rattle.std.specs.Prelude.{not, nat_le, nat_lt, if◌then◌else◌, List, Option, Some, None, is_some}
use Rattle.std.specs.Prelude.{is_none}
use Rattle.std.specs.Option.{unwrap_or}
use Rattle.pct_ask.specs.NameLists.{NameLists}
use Rattle.trace_text.specs.Lines.{line_at, text_in, is_whole}
use Rattle.trace_text.specs.reader.Heads.{version_on_line, order_on_line, threads_of_names}
use Rattle.trace_text.specs.reader.Heads.{points_on_line, limit_on_line}
use Rattle.trace_text.specs.reader.StepLines.{row_of}
use Rattle.trace_text.specs.Faults.{has_byte, kind_rank}
use Rattle.trace_text.specs.declared.row.TraceRow.{TraceRow}
use Rattle.trace_text.specs.declared.row.TraceRow.TheVariants.{Step, End}
use Rattle.trace_text.specs.declared.fault.TraceFault.{TraceFault}
use Rattle.trace_text.specs.declared.fault.TraceFault.TheVariants.{TooLong, BadHeader, BadLine}
use Rattle.trace_text.specs.declared.fault.TraceFault.TheVariants.{UnknownName, OutOfOrder}
use Rattle.trace_text.specs.declared.fault.TraceFault.TheVariants.{NoVerdict, MoreAfterVerdict}

-- ---- what the lines say

-- the file's version and limit, by its first and its fourth line
abbrev pub version_of : List (List ℕ) → ℕ
version_of pieces = unwrap_or (version_on_line (text_in (line_at pieces 1))) 1

abbrev pub limit_of : List (List ℕ) → ℕ
limit_of pieces = unwrap_or (limit_on_line (text_in (line_at pieces 4))) 0

abbrev pub row_at : NameLists → List (List ℕ) → ℕ → Option TraceRow
row_at names pieces k = row_of names (version_of pieces) (text_in (line_at pieces k))

abbrev pub is_verdict : Option TraceRow → Bool
is_verdict None = false
is_verdict (Some (Step number event)) = false
is_verdict (Some (End verdict)) = true

-- one of so many lines after the head is a verdict line by form
abbrev pub has_verdict : NameLists → List (List ℕ) → ℕ → Bool
has_verdict names pieces zero = false
has_verdict names pieces (suc n) =
    has_verdict names pieces n || is_verdict (row_at names pieces (n + 5))

-- line k stands after the head, and no verdict line before it
abbrev pub is_in_body : NameLists → List (List ℕ) → ℕ → Bool
is_in_body names pieces k = nat_le 5 k && not (has_verdict names pieces (k - 5))

-- the number of a step line
abbrev pub number_in : Option TraceRow → ℕ
number_in None = 0
number_in (Some (Step number event)) = number
number_in (Some (End verdict)) = 0

-- the number of the step before line k, and 0 where it is the first line after the head
abbrev pub number_before : NameLists → List (List ℕ) → ℕ → ℕ
number_before names pieces k = if nat_le k 5 then 0 else number_in (row_at names pieces (k - 1))

abbrev pub is_past : ℕ → Option TraceRow → Bool
is_past limit None = false
is_past limit (Some (Step number event)) = nat_lt limit number
is_past limit (Some (End verdict)) = false

abbrev pub has_unknown : Option TraceRow → Bool
has_unknown None = false
has_unknown (Some (Step number event)) = is_none event
has_unknown (Some (End verdict)) = is_none verdict

abbrev pub is_other_number : ℕ → Option TraceRow → Bool
is_other_number number None = false
is_other_number number (Some (Step n event)) = not (n == number)
is_other_number number (Some (End verdict)) = false

-- line k of a head is of its form
abbrev pub is_head_line : NameLists → List (List ℕ) → ℕ → Bool
is_head_line names pieces k =
    if k == 1 then is_some (version_on_line (text_in (line_at pieces k)))
    else (if k == 2 then is_some (order_on_line names (text_in (line_at pieces k)))
    else (if k == 3 then is_some (points_on_line (text_in (line_at pieces k)))
    else is_some (limit_on_line (text_in (line_at pieces k)))))

abbrev pub has_unknown_thread : NameLists → Option (List (List ℕ)) → Bool
has_unknown_thread names None = false
has_unknown_thread names (Some words) = is_none (threads_of_names names words)

-- ---- when line k is faulty by a kind

-- The file has more than 16,777,216 bytes, which is said of line 1; or a step line's number is
-- above the limit.
abbrev pub is_too_long : ℕ → NameLists → List (List ℕ) → ℕ → Bool
is_too_long size names pieces k =
    (k == 1) && nat_lt 16777216 size
    || is_in_body names pieces k && is_past (limit_of pieces) (row_at names pieces k)

-- One of the lines 1 to 4 is missing, lacks its LF or isn't of its form.
abbrev pub is_bad_header : NameLists → List (List ℕ) → ℕ → Bool
is_bad_header names pieces k =
    nat_le 1 k && nat_le k 4 && not (is_whole (line_at pieces k) && is_head_line names pieces k)

-- A later line is neither a step line nor a verdict line by form, or lacks its LF.
abbrev pub is_bad_line : NameLists → List (List ℕ) → ℕ → Bool
is_bad_line names pieces k =
    is_in_body names pieces k
    && has_byte pieces k
    && not (is_whole (line_at pieces k) && is_some (row_at names pieces k))

-- A name isn't declared with the kind that its place needs.
abbrev pub is_unknown_name : NameLists → List (List ℕ) → ℕ → Bool
is_unknown_name names pieces k =
    (k == 2) && has_unknown_thread names (order_on_line names (text_in (line_at pieces k)))
    || is_in_body names pieces k && has_unknown (row_at names pieces k)

-- A step line's number isn't one more than that of the step before it, or not 1 for the first step.
abbrev pub is_out_of_order : NameLists → List (List ℕ) → ℕ → Bool
is_out_of_order names pieces k =
    is_in_body names pieces k
    && is_other_number (number_before names pieces k + 1) (row_at names pieces k)

-- The file ends where a line should follow, and no line is the verdict's.
abbrev pub is_no_verdict : NameLists → List (List ℕ) → ℕ → Bool
is_no_verdict names pieces k = is_in_body names pieces k && not (has_byte pieces k)

-- A byte stands after the verdict line, which is the line before.
abbrev pub is_more_after_verdict : NameLists → List (List ℕ) → ℕ → Bool
is_more_after_verdict names pieces k =
    nat_le 6 k && is_verdict (row_at names pieces (k - 1)) && has_byte pieces k

-- a text of so many bytes and of these pieces: whether its line k is faulty by a kind
abbrev pub is_faulty : ℕ → NameLists → List (List ℕ) → ℕ → TraceFault → Bool
is_faulty size names pieces k TooLong = is_too_long size names pieces k
is_faulty size names pieces k BadHeader = is_bad_header names pieces k
is_faulty size names pieces k BadLine = is_bad_line names pieces k
is_faulty size names pieces k UnknownName = is_unknown_name names pieces k
is_faulty size names pieces k OutOfOrder = is_out_of_order names pieces k
is_faulty size names pieces k NoVerdict = is_no_verdict names pieces k
is_faulty size names pieces k MoreAfterVerdict = is_more_after_verdict names pieces k

-- ---- the first of them

-- the line is faulty by the kind and by none before it, and no line before is faulty
pub record IsFirstFound (size : ℕ) (names : NameLists) (pieces : List (List ℕ)) (line : ℕ)
    (kind : TraceFault) : Type 0 where
  pub faulty : is_faulty size names pieces line kind ≡ true
  pub first_kind : (other : TraceFault) → kind_rank other < kind_rank kind
      → is_faulty size names pieces line other ≡ false
  pub first_line : (before : ℕ) (other : TraceFault) → before < line
      → is_faulty size names pieces before other ≡ false
