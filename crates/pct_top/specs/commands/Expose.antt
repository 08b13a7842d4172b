-- `expose`: the run that a directive exposes under an order (this project).
use Rattle.std.specs.Prelude.{◌≡◌, ℕ, false, List, [], ◌∷◌, Some, codes, decimal}
use Rattle.pct_ask.specs.TraceText.{line_text}
use Rattle.pct_ask.specs.declared.Deal.{Deal}
use Rattle.pct_ask.specs.declared.verdict.Verdict.{Verdict}
use Rattle.script_tree.specs.ScriptText.{ScriptText}
use Rattle.script_body.specs.Bodies.{bodies_of}
use Rattle.worker_run.specs.Run.{Run}
use Rattle.directive.specs.declared.directive.Directive.{Directive}
use Rattle.pct_ask.specs.SameVerdict.{same_verdict}
use Rattle.directive_run.specs.Exposing.{Exposes}
use Rattle.directive_run.specs.declared.answers.Exposed.{Exposed}
use Rattle.directive_run.specs.declared.answers.Exposed.TheVariants.{Points, TooLong}
use Rattle.pct_top.specs.Printed.{Printed, printed_text, OfOrder, OfDirective}
use Rattle.pct_top.specs.Runs.{run_of, TellsRun}

-- `toolong` and the number of steps, which are more than there may be
abbrev pub long_text : ℕ → List ℕ
long_text many = line_text (codes "toolong" ∷ decimal many ∷ [])

-- The trace of the run under the order and the points that stand for the directive's moments. It is
-- done where it has the directive's verdict. Or the run has more steps than there may be.
abbrev pub TellsExposed :
    ScriptText → Deal → List ℕ → ℕ → Verdict → Exposed → Printed → Type 0
TellsExposed script deal order limit verdict (Points points played) printed =
    (ended : Run) × (run_of script deal order points limit ≡ Some ended)
    × TellsRun script order points limit ended (same_verdict ended.1 verdict) printed
TellsExposed script deal order limit verdict (TooLong many) printed =
    printed ≡ printed_text (long_text many) false

-- what is exposed of the directive under the order
abbrev pub PrintsExposed :
    ScriptText → Deal → List ℕ → ℕ → ℕ → Directive → Printed → Type 0
PrintsExposed script deal order steps limit directive printed =
    (exposed : Exposed)
    × Exposes deal (bodies_of script) order directive.events steps limit exposed
    × TellsExposed script deal order limit directive.verdict exposed printed

-- The same of the directive that these bytes are, or their fault, under the order that the names
-- give, which stand in the word of this number.
abbrev pub OfExpose :
    List ℕ → List (List ℕ) → ℕ → ℕ → ℕ → ScriptText → Deal → Printed → Type 0
OfExpose bytes items word steps limit script deal printed =
    OfOrder script.names items word
    (λ order. OfDirective bytes script.names (PrintsExposed script deal order steps limit)) printed
