-- `find`: from a script's failing run to a short directive (this project).
use Rattle.std.specs.Prelude.{◌≡◌, ℕ, ◌-◌, Bool, true, false, List, [], ◌∷◌, length, slice_index}
use Rattle.std.specs.Prelude.{codes, decimal}
use Rattle.pct_ask.specs.NameLists.{NameLists}
use Rattle.pct_ask.specs.TraceText.{line_text}
use Rattle.pct_ask.specs.declared.Deal.{Deal}
use Rattle.pct_ask.specs.declared.verdict.Verdict.{Verdict}
use Rattle.rank_now.specs.declared.moment.Moment.{Moment}
use Rattle.script_tree.specs.ScriptText.{ScriptText}
use Rattle.script_body.specs.Bodies.{bodies_of}
use Rattle.directive.specs.DirectiveText.{DirectiveText, directive_text}
use Rattle.directive.specs.Directive.{IsDirective}
use Rattle.directive_find.specs.declared.finding.FoundOut.{FoundOut}
use Rattle.directive_find.specs.declared.finding.FoundOut.TheVariants.{Events, Passes}
use Rattle.directive_find.specs.Found.{Finds}
use Rattle.pct_top.specs.Printed.{Printed, printed_text}

-- the thread of the lowest priority
abbrev pub last_of : List ℕ → ℕ
last_of order = slice_index order (length order - 1)

-- with the order's last thread as the lowest
abbrev pub plan_of : List ℕ → List Moment → Verdict → DirectiveText
plan_of order events verdict =
    record { low = last_of order; events = events; verdict = verdict }

-- the directive of what was found, or how many steps the run has that passes
abbrev pub found_text : NameLists → List ℕ → FoundOut → List ℕ
found_text names order (Events events verdict steps) =
    directive_text names (plan_of order events verdict)
found_text names order (Passes steps) = line_text (codes "passes" ∷ decimal steps ∷ [])

-- whether the run passes, so that there is no directive to find
abbrev pub is_pass : FoundOut → Bool
is_pass (Events events verdict steps) = false
is_pass (Passes steps) = true

-- This is printed of what was found. It is done where the run passes.
abbrev pub printed_finding : NameLists → List ℕ → FoundOut → Printed
printed_finding names order found = printed_text (found_text names order found) (is_pass found)

-- Where it is a directive, it is one by the grammar of directive files.
abbrev pub IsWellFormed : NameLists → List ℕ → FoundOut → Type 0
IsWellFormed names order (Events events verdict steps) =
    IsDirective (directive_text names (plan_of order events verdict)) names
    (plan_of order events verdict)
IsWellFormed names order (Passes steps) = Unit {0}

-- what is found of the run under the order and the points
abbrev pub PrintsFound : ScriptText → Deal → List ℕ → List ℕ → ℕ → Printed → Type 0
PrintsFound script deal order points limit printed =
    (found : FoundOut) × Finds deal (bodies_of script) order points limit found
    × IsWellFormed script.names order found × (printed ≡ printed_finding script.names order found)
