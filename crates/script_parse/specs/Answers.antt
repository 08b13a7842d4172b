-- What a text is by the grammar and by the rules of faults: one script, or one first fault (this
-- project).
use Rattle.std.specs.Prelude.{◌≡◌, ℕ, ◌⊎◌, true, List, All, FitsSigned}
use Rattle.std.specs.Int.{w64}
use Rattle.pct_ask.specs.NameLists.{AreNames}
use Rattle.script_tree.specs.ScriptText.{ScriptText}
use Rattle.script_tree.specs.declared.fault.ScriptFault.{ScriptFault}
use Rattle.script_tree.specs.Faults.{IsFault}
use Rattle.script_tree.specs.Fitting.{IsScript}
use Rattle.script_tree.specs.Grammar.{Spells, all_thread_lines}
use Rattle.script_tree.specs.Layout.{layout}
use Rattle.script_tree.specs.Printing.{are_ranged}
use Rattle.script_tree.specs.Renumbering.{renumbered_script, IsShort}

-- the text spells this script and no other, and has no fault
pub record IsOnlyScript (bytes : List ℕ) (script : ScriptText) : Type 0 where
  pub spells : Spells bytes script
  pub only : (other : ScriptText) → Spells bytes other → script ≡ other
  pub faultless : (n : ℕ) (kind : ScriptFault) → ¬ IsFault bytes n kind

-- the text has this first fault and no other, and spells no script
pub record IsOnlyFault (bytes : List ℕ) (n : ℕ) (kind : ScriptFault) : Type 0 where
  pub fault : IsFault bytes n kind
  pub only : (m : ℕ) (other : ScriptFault) → IsFault bytes m other → (n ≡ m) × (kind ≡ other)
  pub no_script : (script : ScriptText) → ¬ Spells bytes script

-- the text spells just one script, and has no fault
abbrev pub SpellsOne : List ℕ → Type 0
SpellsOne bytes = (script : ScriptText) × IsOnlyScript bytes script

-- the text has just one first fault, and spells no script
abbrev pub FailsOnce : List ℕ → Type 0
FailsOnce bytes = (n : ℕ) × (kind : ScriptFault) × IsOnlyFault bytes n kind

-- Each text spells one script or has one first fault, and never both.
abbrev pub EachHasOneAnswer : Type 0
EachHasOneAnswer = (bytes : List ℕ) → SpellsOne bytes ⊎ FailsOnce bytes

-- A script's values as the code has them: a variable's is an i64, and a number in an expression is
-- below 2^63.
abbrev pub IsOfCode : ScriptText → Type 0
IsOfCode script =
    All (FitsSigned w64) script.vars
    × (are_ranged (all_thread_lines script.names script.names.threads script.threads) ≡ true)

-- The canonical layout of a script, where it is no longer than a script may be, spells the script
-- with the lines of that layout, and nothing else.
abbrev pub PrintIsRead : Type 0
PrintIsRead =
    (script : ScriptText) → IsScript script → AreNames script.names → IsOfCode script
    → IsShort (layout script) → IsOnlyScript (layout script) (renumbered_script script)
