-- The forms of a directive's lines, by their texts without their LFs (this project).
use Rattle.std.specs.Prelude.{◌≡◌, ℕ, ◌≤◌, true, List}
use Rattle.pct_ask.specs.Words.{is_name}
use Rattle.pct_ask.specs.NameLists.{NameLists}
use Rattle.pct_ask.specs.VerdictText.{NamedVerdict, named_text, IsVerdictForm, IsNobody}
use Rattle.pct_ask.specs.VerdictText.{HasUnknownThread}
use Rattle.directive.specs.DirectiveText.{low_line, after_line, verdict_line}
use Rattle.pct_ask.specs.declared.limits.TheConstants.{MAX_STEPS}

-- the number of a thread's own step
abbrev pub IsNumber : ℕ → Type 0
IsNumber number = (1 ≤ number) × (number ≤ MAX_STEPS)

-- low NAME: a lawful name by the first version's keywords
pub record IsLowLine (text name : List ℕ) : Type 0 where
  pub lawful : is_name 1 name ≡ true
  pub spelled : text ≡ low_line name

-- after NAME NUMBER: a lawful name, and a number in 1..100000
pub record IsAfter (text name : List ℕ) (number : ℕ) : Type 0 where
  pub lawful : is_name 1 name ≡ true
  pub range : IsNumber number
  pub spelled : text ≡ after_line name number

-- verdict VERDICT: a verdict by form
pub record IsVerdict (names : NameLists) (text : List ℕ) (verdict : NamedVerdict) : Type 0 where
  pub form : IsVerdictForm names verdict
  pub spelled : text ≡ verdict_line (named_text verdict)

-- the text is an `after` line by form, with some name and some number
abbrev pub IsAfterText : List ℕ → Type 0
IsAfterText text = (name : List ℕ) × (number : ℕ) × IsAfter text name number

-- the text is a verdict line by form, with some verdict
abbrev pub IsVerdictText : NameLists → List ℕ → Type 0
IsVerdictText names text = (verdict : NamedVerdict) × IsVerdict names text verdict

-- ---- a name of it is no thread's

-- a `low` line by form, and no thread has its name
abbrev pub HasUnknownLow : NameLists → List ℕ → Type 0
HasUnknownLow names text = (name : List ℕ) × IsLowLine text name × IsNobody names name

-- an `after` line by form, and no thread has its name
abbrev pub HasUnknownAfter : NameLists → List ℕ → Type 0
HasUnknownAfter names text =
    (name : List ℕ) × (number : ℕ) × IsAfter text name number × IsNobody names name

-- a verdict line by form, and some name in it is no thread's
abbrev pub HasUnknownVerdict : NameLists → List ℕ → Type 0
HasUnknownVerdict names text =
    (verdict : NamedVerdict) × IsVerdict names text verdict × HasUnknownThread names verdict
