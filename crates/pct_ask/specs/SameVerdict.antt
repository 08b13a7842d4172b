-- When two verdicts are the same (this project).
use Rattle.std.specs.Prelude.{Bool}
use Rattle.pct_ask.specs.declared.verdict.Verdict.{Verdict}
use Rattle.pct_ask.specs.contracts.verdict.VerdictPartialEq.TheImpl as verdict_eq

-- `==` of verdicts, which is equality: that of threads, lines and kinds, and of whole lists of
-- blocked threads
abbrev pub same_verdict : Verdict → Verdict → Bool
same_verdict = (verdict_eq.ghosts).eq
