-- Each text spells one script, or has one first fault.
use Rattle.std.proofs.Common.{◌≡◌, ℕ, ◌⊎◌, inl, inr, List, Result, Ok, Err, refl, sym, ◌∙◌}
use Rattle.script_tree.specs.ScriptText.{ScriptText}
use Rattle.script_tree.specs.declared.fault.ScriptFault.{ScriptFault}
use Rattle.script_tree.specs.Faults.{IsFault}
use Rattle.script_tree.specs.Grammar.{Spells}
use Rattle.script_parse.specs.Answers.{SpellsOne, FailsOnce, EachHasOneAnswer}
use Rattle.script_parse.specs.Reading.{read_as_script}
use Rattle.script_parse.proofs.TextFaults.{ok_is}
use Rattle.script_parse.proofs.laws.Faults.{one_fault}
use Rattle.script_parse.proofs.FaultLaws.{fault_found, no_fault}
use Rattle.script_parse.proofs.Spelled.{read_is_spelled}
use Rattle.script_parse.proofs.WholeText.{spelled_is_read}

-- a text spells one script
pub one_script : (bytes : List ℕ) (script other : ScriptText) → Spells bytes script
    → Spells bytes other → script ≡ other
one_script bytes script other s o =
    ok_is (sym (spelled_is_read bytes script s) ∙ spelled_is_read bytes other o)

-- a text that spells a script has no fault
pub spelled_no_fault : (bytes : List ℕ) (script : ScriptText) (n : ℕ) (kind : ScriptFault)
    → Spells bytes script → ¬ IsFault bytes n kind
spelled_no_fault bytes script n kind s =
    no_fault bytes script (spelled_is_read bytes script s) n kind

-- each text does the one or has the other
pub script_or_fault : EachHasOneAnswer
script_or_fault bytes = by_read (read_as_script bytes) refl
  where
    by_read : (found : Result ScriptText (ℕ × ScriptFault)) → read_as_script bytes ≡ found
        → SpellsOne bytes ⊎ FailsOnce bytes
    by_read (Ok script) e =
        let spells = read_is_spelled bytes script e in
        inl (
          script,
          record {
            spells = spells;
            only = λ other o. one_script bytes script other spells o;
            faultless = no_fault bytes script e;
          },
        )
    by_read (Err found) e =
        let fault = fault_found bytes found.0 found.1 e in
        inr (
          found.0,
          found.1,
          record {
            fault = fault;
            only = λ m other f. one_fault bytes found.0 m found.1 other fault f;
            no_script = λ script s. spelled_no_fault bytes script found.0 found.1 s fault;
          },
        )
