-- An outcome as numbers (this project's coding).
use Rattle.std.specs.Prelude.{ℕ, List, [], ◌∷◌, Option, Some, None, replicate, slice_get}
use Rattle.std.specs.Option.{option_map, option_and_then}
use Rattle.pct_ask.specs.declared.ask.FaultKind.{FaultKind}
use Rattle.pct_ask.specs.declared.ask.FaultKind.TheVariants.{Overflow, ZeroDivisor, Spin}
use Rattle.pct_ask.specs.declared.verdict.MisuseKind.{MisuseKind}
use Rattle.pct_ask.specs.declared.verdict.MisuseKind.TheVariants.{NotOwner, SemFull}
use Rattle.pct_ask.specs.declared.verdict.MisuseKind.TheVariants.{AlreadyStarted, TooManyReads}
use Rattle.pct_ask.specs.declared.verdict.Outcome.{Outcome}
use Rattle.pct_ask.specs.declared.verdict.Outcome.TheVariants.{Verdict as Ends, Departed}
use Rattle.pct_ask.specs.declared.verdict.Verdict.{Verdict}
use Rattle.pct_ask.specs.declared.verdict.Verdict.TheVariants.{Passed, Failed, Stuck, Misuse}
use Rattle.pct_ask.specs.declared.verdict.Verdict.TheVariants.{Fault as VerdictFault, Cut}
use Rattle.pct_ask.specs.Places.{lines_from, line_bits, line_numbers, places_from, known_lines}
use Rattle.pct_ask.specs.declared.limits.TheConstants.{MAX_THREADS}
use Rattle.c_values.specs.declared.outcome.PctOutcome.{PctOutcome}

-- why an object forbids, by its number
abbrev pub misuse_number : MisuseKind → ℕ
misuse_number NotOwner = 1
misuse_number SemFull = 2
misuse_number AlreadyStarted = 3
misuse_number TooManyReads = 4

-- a thread's own fault, by its number
abbrev pub fault_number : FaultKind → ℕ
fault_number Overflow = 1
fault_number ZeroDivisor = 2
fault_number Spin = 3

-- the numbers of a kind with nobody blocked
abbrev pub numbers_by : ℕ → ℕ → ℕ → ℕ → PctOutcome
numbers_by kind reason thread line = record {
  kind = kind;
  reason = reason;
  thread = thread;
  line = line;
  blocked = 0;
  lines = replicate MAX_THREADS 0;
}

-- The numbers of an outcome. Of blocked threads a bit is set for each, the lowest for thread 0, and
-- its line stands at its place; all else is 0.
abbrev pub outcome_numbers : Outcome → PctOutcome
outcome_numbers (Ends Passed) = numbers_by 1 0 0 0
outcome_numbers (Ends (Failed thread line)) = numbers_by 2 0 thread line
outcome_numbers (Ends (Stuck places)) = record {
  kind = 3;
  reason = 0;
  thread = 0;
  line = 0;
  blocked = line_bits (lines_from 0 MAX_THREADS places);
  lines = line_numbers (lines_from 0 MAX_THREADS places);
}
outcome_numbers (Ends (Misuse thread line kind)) = numbers_by 4 (misuse_number kind) thread line
outcome_numbers (Ends (VerdictFault thread line kind)) =
    numbers_by 5 (fault_number kind) thread line
outcome_numbers (Ends Cut) = numbers_by 6 0 0 0
outcome_numbers (Departed thread) = numbers_by 7 0 thread 0

-- back: what a reason says of a misuse
abbrev pub misuse_by : ℕ → Option MisuseKind
misuse_by reason =
    option_and_then (λ kind. kind)
    (slice_get (None ∷ Some NotOwner ∷ Some SemFull ∷ Some AlreadyStarted ∷ Some TooManyReads ∷ [])
    reason)

-- and of a fault
abbrev pub fault_by : ℕ → Option FaultKind
fault_by reason =
    option_and_then (λ kind. kind)
    (slice_get (None ∷ Some Overflow ∷ Some ZeroDivisor ∷ Some Spin ∷ []) reason)

-- what each kind says, with the thread, the line and the blocked; kinds 0 and 7 are no verdict
abbrev pub verdicts_by : PctOutcome → List (Option Verdict)
verdicts_by n =
    None
    ∷ Some Passed
    ∷ Some (Failed n.thread n.line)
    ∷ Some (Stuck (places_from 0 (known_lines n.blocked n.lines)))
    ∷ option_map (λ kind. Misuse n.thread n.line kind) (misuse_by n.reason)
    ∷ option_map (λ kind. VerdictFault n.thread n.line kind) (fault_by n.reason)
    ∷ Some Cut
    ∷ []

-- the verdict that the numbers say; of a kind or a reason that there is not they say nothing
abbrev pub verdict_said : PctOutcome → Option Verdict
verdict_said n = option_and_then (λ verdict. verdict) (slice_get (verdicts_by n) n.kind)
