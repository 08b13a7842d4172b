-- The fault of a text that is no directive: its first faulty line, and the first kind by which that
-- line is faulty (this project).
use Rattle.std.specs.Prelude.{◌≡◌, ℕ, ◌-◌, ◌<◌, ◌≤◌, ◌⊎◌, true, List, length, codes}
use Rattle.pct_ask.specs.FirstFaults as texts
use Rattle.pct_ask.specs.NameLists.{NameLists}
use Rattle.directive.specs.Forms.{IsLowLine, IsAfterText, IsVerdictText, HasUnknownLow}
use Rattle.directive.specs.Forms.{HasUnknownAfter}
use Rattle.directive.specs.Forms.{HasUnknownVerdict}
use Rattle.pct_ask.specs.Pieces.{pieces_of}
use Rattle.directive.specs.Lines.{LineBytes, line_at, HasByte}
use Rattle.directive.specs.declared.fault.DirectiveFault.{DirectiveFault}
use Rattle.directive.specs.declared.fault.DirectiveFault.TheVariants.{TooLong, BadHeader, BadLine}
use Rattle.directive.specs.declared.fault.DirectiveFault.TheVariants.{UnknownName, NoVerdict}
use Rattle.directive.specs.declared.fault.DirectiveFault.TheVariants.{MoreAfterVerdict}

-- directive 1, with its LF
pub record IsTitleLine (line : LineBytes) : Type 0 where
  pub whole : line.whole ≡ true
  pub text : line.text ≡ codes "directive 1"

-- low NAME, with its LF
pub record IsSecondLine (line : LineBytes) : Type 0 where
  pub whole : line.whole ≡ true
  pub name : List ℕ
  pub text : IsLowLine line.text name

-- an `after` line or a verdict line by form, with its LF
pub record IsLaterLine (names : NameLists) (line : LineBytes) : Type 0 where
  pub whole : line.whole ≡ true
  pub text : IsAfterText line.text ⊎ IsVerdictText names line.text

-- Line k stands below the first two, and no verdict line stands between.
pub record IsBelowSecond (names : NameLists) (pieces : List (List ℕ)) (k : ℕ) : Type 0 where
  pub later : 3 ≤ k
  pub unended : (j : ℕ) → 3 ≤ j → j < k → ¬ IsVerdictText names (line_at pieces j).text

-- ---- when line k is faulty by a kind

-- The file has more than 65,536 bytes, which is said of line 1; or the line is an eighth `after`
-- line: the seven that there may be are the lines 3 to 9.
abbrev pub IsTooLong : ℕ → NameLists → List (List ℕ) → ℕ → Type 0
IsTooLong size names pieces k =
    ((k ≡ 1) × (65536 < size))
    ⊎ (IsBelowSecond names pieces k × (9 < k) × IsAfterText (line_at pieces k).text)

-- One of the lines 1 and 2 is missing, lacks its LF or isn't of its form.
abbrev pub IsBadHeader : List (List ℕ) → ℕ → Type 0
IsBadHeader pieces k =
    ((k ≡ 1) × ¬ IsTitleLine (line_at pieces k))
    ⊎ ((k ≡ 2) × ¬ IsSecondLine (line_at pieces k))

-- A later line is neither an `after` line nor a verdict line by form, or lacks its LF.
abbrev pub IsBadLine : NameLists → List (List ℕ) → ℕ → Type 0
IsBadLine names pieces k =
    IsBelowSecond names pieces k × HasByte (line_at pieces k)
    × ¬ IsLaterLine names (line_at pieces k)

-- A name of it is no thread's.
abbrev pub IsUnknownName : NameLists → List (List ℕ) → ℕ → Type 0
IsUnknownName names pieces k =
    ((k ≡ 2) × HasUnknownLow names (line_at pieces k).text)
    ⊎ (IsBelowSecond names pieces k
    × (HasUnknownAfter names (line_at pieces k).text
    ⊎ HasUnknownVerdict names (line_at pieces k).text))

-- The file ends where a line should follow, and no line is the verdict's.
abbrev pub IsNoVerdict : NameLists → List (List ℕ) → ℕ → Type 0
IsNoVerdict names pieces k = IsBelowSecond names pieces k × ¬ HasByte (line_at pieces k)

-- A byte stands after the verdict line, which is the line before.
abbrev pub IsMoreAfterVerdict : NameLists → List (List ℕ) → ℕ → Type 0
IsMoreAfterVerdict names pieces k =
    (4 ≤ k) × IsVerdictText names (line_at pieces (k - 1)).text × HasByte (line_at pieces k)

-- a text of so many bytes and of these pieces: its line k is faulty by a kind
abbrev pub IsFaulty : ℕ → NameLists → List (List ℕ) → ℕ → DirectiveFault → Type 0
IsFaulty size names pieces k TooLong = IsTooLong size names pieces k
IsFaulty size names pieces k BadHeader = IsBadHeader pieces k
IsFaulty size names pieces k BadLine = IsBadLine names pieces k
IsFaulty size names pieces k UnknownName = IsUnknownName names pieces k
IsFaulty size names pieces k NoVerdict = IsNoVerdict names pieces k
IsFaulty size names pieces k MoreAfterVerdict = IsMoreAfterVerdict names pieces k

-- ---- the first of them

-- the kinds in their order
abbrev pub kind_rank : DirectiveFault → ℕ
kind_rank TooLong = 0
kind_rank BadHeader = 1
kind_rank BadLine = 2
kind_rank UnknownName = 3
kind_rank NoVerdict = 4
kind_rank MoreAfterVerdict = 5

-- the first of its lines that is faulty, and the first kind by which that line is
abbrev pub IsFirstFault : ℕ → NameLists → List (List ℕ) → ℕ → DirectiveFault → Type 0
IsFirstFault size names pieces line kind =
    texts.IsFirstFault kind_rank (IsFaulty size names pieces) line kind

-- the text's fault
abbrev pub IsDirectiveFault : List ℕ → NameLists → ℕ → DirectiveFault → Type 0
IsDirectiveFault bytes names line kind =
    IsFirstFault (length bytes) names (pieces_of bytes) line kind
