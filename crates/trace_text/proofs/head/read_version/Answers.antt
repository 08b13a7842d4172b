-- The first line is the first piece.
use Rattle.trace_text.specs.reader.Heads.{version_on_line}
use Rattle.trace_text.proofs.HeadWords.{head_line-cut}
use Rattle.trace_text.proofs.head.read_version.Goals as goal

pub returns : goal.returns
returns c =
    let cut = head_line-cut 1 version_on_line _ c.cut_line.result.0.now c.cut_line.result.1
    c.cut_line.ensures.pieces in
    rw (cut, ← c.version_on_line.ensures) c.head_value.ensures
