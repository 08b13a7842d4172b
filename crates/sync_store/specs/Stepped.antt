-- What came of a step, with its verdict (this project).
use Rattle.pct_ask.specs.declared.Verdict.TheVariants as verdicts
use Rattle.sync_store.specs.declared.applied.Applied.{Applied}
use Rattle.sync_store.specs.declared.applied.Applied.TheVariants as applieds
use Rattle.sync_store.specs.declared.applied.Stepped.{Stepped}
use Rattle.sync_store.specs.declared.applied.Stepped.TheVariants.{Answer, Failed, Misuse, Fault}

-- the thread's answer, or the verdict by which the step ends the run
abbrev pub applied_by : Stepped → Applied
applied_by (Answer answer) = applieds.Answer answer
applied_by (Failed t line) = applieds.Ends (verdicts.Failed t line)
applied_by (Misuse t line kind) = applieds.Ends (verdicts.Misuse t line kind)
applied_by (Fault t line kind) = applieds.Ends (verdicts.Fault t line kind)
