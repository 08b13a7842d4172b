-- The verdict's text is read as it is, and the first version leaves out what comes from read-write
-- locks.
use Rattle.std.proofs.Common.{sym, ◌∙◌}
use Rattle.pct_ask.specs.VerdictWords.{words_of, verdict_of_words}
use Rattle.pct_ask.proofs.laws.VerdictsRead.{ReadsAs-words}
use Rattle.trace_text.proofs.Ends.{end-none, end-left_out, end-other_text, end-other_version}
use Rattle.trace_text.proofs.Ends.{end-misuse, end-other_verdict, end-verdict}
use Rattle.trace_text.proofs.row.read_end.Goals as goal
use Rattle.trace_text.proofs.row.read_end.Goals.{else-version-eq1-via-then-version-eq1+else-tells_reads}
use Rattle.trace_text.proofs.row.read_end.Goals.{else-version-eq1-via-else-version-eq1}
use Rattle.trace_text.proofs.row.read_end.Goals.{else-version-eq1-2-via-then-version-eq1-2+else-is_of_second}
use Rattle.trace_text.proofs.row.read_end.Goals.{else-version-eq1-2-via-else-version-eq1-2}

pub returns-in-NoForm : goal.returns-in-NoForm
returns-in-NoForm c =
    let read = c.read_verdict.ensures.only
    (verdict_of_words c.args.names.now (words_of c.args.text.now))
    (ReadsAs-words c.args.names.now c.args.text.now) in
    end-none c.args.version c.args.text.now _ (sym read ∙ c.in-NoForm.is)

pub returns-then-tells_reads : goal.returns-then-tells_reads
returns-then-tells_reads c =
    let read = c.read_verdict.ensures.only
    (verdict_of_words c.args.names.now (words_of c.args.text.now))
    (ReadsAs-words c.args.names.now c.args.text.now) in
    end-left_out c.args.version c.args.text.now _ (sym read ∙ c.in-UnknownName.is)
    c.if-version-eq1.true (sym c.tells_reads.ensures ∙ c.if-tells_reads.true)

pub returns-else-version-eq1 : goal.returns-else-version-eq1
returns-else-version-eq1 c =
    let read = c.read_verdict.ensures.only
    (verdict_of_words c.args.names.now (words_of c.args.text.now))
    (ReadsAs-words c.args.names.now c.args.text.now) in
    elim c.else-version-eq1.branch [
      | else-version-eq1-via-then-version-eq1+else-tells_reads w ↦
          end-other_text c.args.version c.args.text.now _ (sym read ∙ c.in-UnknownName.is)
          (sym w.tells_reads.ensures ∙ w.if-tells_reads.false)
      | else-version-eq1-via-else-version-eq1 w ↦
          end-other_version c.args.version c.args.text.now _ (sym read ∙ c.in-UnknownName.is)
          w.if-version-eq1.false
    ]

pub returns-then-is_of_second : goal.returns-then-is_of_second
returns-then-is_of_second c =
    let read = c.read_verdict.ensures.only
    (verdict_of_words c.args.names.now (words_of c.args.text.now))
    (ReadsAs-words c.args.names.now c.args.text.now) in
    end-misuse c.args.version c.args.text.now _ c.in-Is.verdict (sym read ∙ c.in-Is.is)
    c.if-version-eq1-2.true (sym c.is_of_second.ensures ∙ c.if-is_of_second.true)

pub returns-else-version-eq1-2 : goal.returns-else-version-eq1-2
returns-else-version-eq1-2 c =
    let read = c.read_verdict.ensures.only
    (verdict_of_words c.args.names.now (words_of c.args.text.now))
    (ReadsAs-words c.args.names.now c.args.text.now) in
    elim c.else-version-eq1-2.branch [
      | else-version-eq1-2-via-then-version-eq1-2+else-is_of_second w ↦
          end-other_verdict c.args.version c.args.text.now _ c.in-Is.verdict (sym read ∙ c.in-Is.is)
          (sym w.is_of_second.ensures ∙ w.if-is_of_second.false)
      | else-version-eq1-2-via-else-version-eq1-2 w ↦
          end-verdict c.args.version c.args.text.now _ c.in-Is.verdict (sym read ∙ c.in-Is.is)
          w.if-version-eq1-2.false
    ]
