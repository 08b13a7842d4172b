use Rattle.std.proofs.Common.{ℕ, List, Result, Ok, Err, IsErrAnd, sym, subst, ◌∙◌}
use Rattle.script_parse.specs.States.{TellsFault}
use Rattle.script_parse.specs.declared.fault.ScriptError.{ScriptError}
use Rattle.script_parse.specs.declared.fault.ScriptError.TheVariants as scripts
use Rattle.pct_top.specs.declared.refusal.Refusal.{Refusal}
use Rattle.pct_top.specs.declared.test.ReadyTest.{ReadyTest}
use Rattle.pct_top.specs.Refusing.{IsOfScript}
use Rattle.pct_top.specs.Files.{GivesText}
use Rattle.pct_top.proofs.files.large_test.Goals as goal

-- the fault of a text is handed on
gives_fault : (bytes : List ℕ) (error : ScriptError) (r : Result ReadyTest Refusal)
    → IsErrAnd r (IsOfScript error) → TellsFault error bytes → GivesText bytes r
gives_fault bytes (scripts.Bad line kind) (Err refusal) is fault =
    subst (λ e. GivesText bytes (Err e)) (sym is) fault
gives_fault bytes scripts.NoMemory (Err refusal) is fault =
    subst (λ e. GivesText bytes (Err e)) (sym is) tt
gives_fault bytes error (Ok test) is fault = absurd is

pub returns-in_err-script : goal.returns-in_err-script
returns-in_err-script c =
    subst (λ bytes. GivesText bytes c.from_residual-in_err-script.result)
    (c.deref.ensures.value ∙ c.in_ok-bytes.ensures.layout)
    (gives_fault c.deref.result.now c.in_err-script.field-0.0 c.from_residual-in_err-script.result
    c.from_residual-in_err-script.ensures.1 c.in_err-script.ensures.fault)
