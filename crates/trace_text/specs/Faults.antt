-- The fault of a text that is no trace: its first faulty line, and the first kind by which that
-- line is faulty, over the forms of lines (this project).
use Rattle.std.specs.Prelude.{◌≡◌, ◌≢◌, ℕ, ℤ, ◌+◌, ◌-◌, ◌<◌, ◌≤◌, ◌⊎◌, ◌||◌, Bool, true, false, not}
use Rattle.std.specs.Prelude.{if◌then◌else◌, List, length, codes}
use Rattle.std.specs.Str.{bytes_eq}
use Rattle.pct_ask.specs.FirstFaults as texts
use Rattle.pct_ask.specs.NameLists.{NameLists}
use Rattle.pct_ask.specs.VerdictText.{NamedVerdict}
use Rattle.pct_ask.specs.VerdictWords.{words_of}
use Rattle.pct_ask.specs.Pieces.{pieces_of}
use Rattle.trace_text.specs.Lines.{is_empty, line_at, text_in, is_whole}
use Rattle.trace_text.specs.Forms.{AskForm, Form, Limit, Step, End, words_of_form, StandsAt}
use Rattle.trace_text.specs.Forms.{IsLineOf}
use Rattle.trace_text.specs.Forms.{HasUnknown}
use Rattle.trace_text.specs.declared.fault.TraceFault.{TraceFault}
use Rattle.trace_text.specs.declared.fault.TraceFault.TheVariants as kinds

-- ---- what the lines say

-- the bytes of line k, from 1, and none where there is no such line
abbrev pub text_at : List (List ℕ) → ℕ → List ℕ
text_at pieces k = text_in (line_at pieces k)

-- there is a byte of line k
abbrev pub has_byte : List (List ℕ) → ℕ → Bool
has_byte pieces k = is_whole (line_at pieces k) || not (is_empty (text_at pieces k))

-- the file's version: the second where its first line is `trace 2`, and otherwise the first
abbrev pub version_of : List (List ℕ) → ℕ
version_of pieces = if bytes_eq (text_at pieces 1) (codes "trace 2") then 2 else 1

-- Line k has this form, whether or not it has its LF: the form stands at line k, the line's words,
-- which single spaces separate, are those of the form, and its operands are what they must be.
pub record HasForm (names : NameLists) (pieces : List (List ℕ)) (k : ℕ) (form : Form) : Type 0 where
  pub stands : StandsAt k form
  pub spelled : words_of (text_at pieces k) ≡ words_of_form form
  pub of : IsLineOf names (version_of pieces) form

-- line k has its LF and some form
abbrev pub IsSoundLine : NameLists → List (List ℕ) → ℕ → Type 0
IsSoundLine names pieces k =
    (is_whole (line_at pieces k) ≡ true) × (form : Form) × HasForm names pieces k form

-- line k is a step line with this number
abbrev pub IsStepLine : NameLists → List (List ℕ) → ℕ → ℕ → Type 0
IsStepLine names pieces k number =
    (thread : List ℕ)
    × (line : ℕ)
    × (ask : AskForm)
    × (answer : ℤ)
    × HasForm names pieces k (Step number thread line ask answer)

-- line k is a verdict line
abbrev pub IsVerdictLine : NameLists → List (List ℕ) → ℕ → Type 0
IsVerdictLine names pieces k = (verdict : NamedVerdict) × HasForm names pieces k (End verdict)

-- no verdict line stands before line k
abbrev pub IsOpen : NameLists → List (List ℕ) → ℕ → Type 0
IsOpen names pieces k = (j : ℕ) → j < k → ¬ IsVerdictLine names pieces j

-- line k stands after the head, and no verdict line before it
abbrev pub IsInBody : NameLists → List (List ℕ) → ℕ → Type 0
IsInBody names pieces k = (5 ≤ k) × IsOpen names pieces k

-- ---- when line k is faulty by a kind

-- The file has more than 16,777,216 bytes, which is said of line 1; or a step line's number is
-- above the limit, which line 4 tells.
abbrev pub TooLong : ℕ → NameLists → List (List ℕ) → ℕ → Type 0
TooLong size names pieces k =
    ((k ≡ 1) × (16777216 < size))
    ⊎ (IsInBody names pieces k
    × (limit : ℕ)
    × (number : ℕ)
    × HasForm names pieces 4 (Limit limit)
    × IsStepLine names pieces k number
    × (limit < number))

-- One of the lines 1 to 4 is missing, lacks its LF or isn't of its form.
abbrev pub BadHeader : NameLists → List (List ℕ) → ℕ → Type 0
BadHeader names pieces k = (1 ≤ k) × (k ≤ 4) × ¬ IsSoundLine names pieces k

-- A later line is neither a step line nor a verdict line by form, or lacks its LF.
abbrev pub BadLine : NameLists → List (List ℕ) → ℕ → Type 0
BadLine names pieces k =
    IsInBody names pieces k × (has_byte pieces k ≡ true) × ¬ IsSoundLine names pieces k

-- A name isn't declared with the kind that its place needs, in the order or in a later line, where
-- no verdict line stands before it.
abbrev pub UnknownName : NameLists → List (List ℕ) → ℕ → Type 0
UnknownName names pieces k =
    IsOpen names pieces k
    × (form : Form)
    × HasForm names pieces k form
    × HasUnknown names form

-- the number that a step line at line k must have: 1 on the first line after the head, and later
-- one more than that of the step before it
abbrev pub IsNextNumber : NameLists → List (List ℕ) → ℕ → ℕ → Type 0
IsNextNumber names pieces k next =
    ((k ≡ 5) × (next ≡ 1))
    ⊎ ((before : ℕ) × IsStepLine names pieces (k - 1) before × (next ≡ before + 1))

-- A step line's number isn't one more than that of the step before it, or not 1 for the first step.
abbrev pub OutOfOrder : NameLists → List (List ℕ) → ℕ → Type 0
OutOfOrder names pieces k =
    IsInBody names pieces k
    × (number : ℕ)
    × (next : ℕ)
    × IsStepLine names pieces k number
    × IsNextNumber names pieces k next
    × (number ≢ next)

-- The file ends where a line should follow, and no line is the verdict's.
abbrev pub NoVerdict : NameLists → List (List ℕ) → ℕ → Type 0
NoVerdict names pieces k = IsInBody names pieces k × (has_byte pieces k ≡ false)

-- A byte stands after the verdict line, which is the line before.
abbrev pub MoreAfterVerdict : NameLists → List (List ℕ) → ℕ → Type 0
MoreAfterVerdict names pieces k =
    IsVerdictLine names pieces (k - 1) × (has_byte pieces k ≡ true)

-- a text of so many bytes and of these pieces: its line k is faulty by a kind
abbrev pub IsFaulty : ℕ → NameLists → List (List ℕ) → ℕ → TraceFault → Type 0
IsFaulty size names pieces k kinds.TooLong = TooLong size names pieces k
IsFaulty size names pieces k kinds.BadHeader = BadHeader names pieces k
IsFaulty size names pieces k kinds.BadLine = BadLine names pieces k
IsFaulty size names pieces k kinds.UnknownName = UnknownName names pieces k
IsFaulty size names pieces k kinds.OutOfOrder = OutOfOrder names pieces k
IsFaulty size names pieces k kinds.NoVerdict = NoVerdict names pieces k
IsFaulty size names pieces k kinds.MoreAfterVerdict = MoreAfterVerdict names pieces k

-- ---- the first of them

-- the kinds in their order: of a line's faults the first of these counts
abbrev pub kind_rank : TraceFault → ℕ
kind_rank kinds.TooLong = 0
kind_rank kinds.BadHeader = 1
kind_rank kinds.BadLine = 2
kind_rank kinds.UnknownName = 3
kind_rank kinds.OutOfOrder = 4
kind_rank kinds.NoVerdict = 5
kind_rank kinds.MoreAfterVerdict = 6

-- the first of its lines that is faulty, and the first kind by which that line is
abbrev pub IsFirstFault : ℕ → NameLists → List (List ℕ) → ℕ → TraceFault → Type 0
IsFirstFault size names pieces line kind =
    texts.IsFirstFault kind_rank (IsFaulty size names pieces) line kind

-- the text's fault
abbrev pub IsTraceFault : List ℕ → NameLists → ℕ → TraceFault → Type 0
IsTraceFault bytes names line kind = IsFirstFault (length bytes) names (pieces_of bytes) line kind
