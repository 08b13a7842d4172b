-- A prefix of the first piece is one of both, and so is the first with a prefix of the second.
use Rattle.std.proofs.Common.{ℕ, List, ◌++◌, Option, sym, ap, ◌∙◌, append_assoc}
use Rattle.std.proofs.lemmas.Result.{err_from_is_err_and, on_err_weaker}
use Rattle.std.proofs.KnownBytes.{Appends-trans}
use Rattle.std.specs.Io.KnownBytes.{Appends}
use Rattle.pct_outside.specs.Piece.{AppendsPart}
use Rattle.pct_outside.proofs.host_sinks.write_both.Goals as goal

of_first : (first second : List ℕ) (a b : Option (List ℕ)) → AppendsPart a b first
    → AppendsPart a b (first ++ second)
of_first first second a b (part, rest, split, appended) = (
  part,
  rest ++ second,
  ap (λ (l : List ℕ). l ++ second) split ∙ append_assoc part rest second,
  appended,
)

of_second : (first second : List ℕ) (a b c : Option (List ℕ)) → Appends a b first
    → AppendsPart b c second → AppendsPart a c (first ++ second)
of_second first second a b c whole (part, rest, split, appended) = (
  first ++ part,
  rest,
  ap (λ (l : List ℕ). first ++ l) split ∙ sym (append_assoc first part rest),
  Appends-trans a b c first part whole appended,
)

pub returns-in_err-write_whole-clause-part : goal.returns-in_err-write_whole-clause-part
returns-in_err-write_whole-clause-part g c =
    let p = err_from_is_err_and c.from_residual.result c.from_residual.ensures.1 in
    rw (p.1) (of_first c.args.first.now c.args.second.now
    (g.W.Write.contents c.args.stream.now) (g.W.Write.contents c.write_whole.new.stream)
    c.in_err-write_whole.ensures.part)

pub returns-clause-part : goal.returns-clause-part
returns-clause-part g c =
    on_err_weaker c.write_whole-2.result
    (of_second c.args.first.now c.args.second.now (g.W.Write.contents c.args.stream.now)
    (g.W.Write.contents c.write_whole.new.stream) (g.W.Write.contents c.write_whole-2.new.stream)
    c.in_ok-write_whole.ensures.whole) c.write_whole-2.ensures.part
