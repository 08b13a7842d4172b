use Rattle.std.proofs.Common.{◌≡◌, ◌<◌, length, arith, subst}
use Rattle.std.specs.Prelude.{slice_index_or}
use Rattle.std.proofs.lemmas.List.{length-map}
use Rattle.script_code.specs.Operations.{operations}
use Rattle.script_code.proofs.laws.Listings.{length_short, length_some}
use Rattle.script_code.proofs.code.Code.end.Goals as goal

pub overflow_cast-result : goal.overflow_cast-result
overflow_cast-result c =
    let threads = c.args.self.now.threads in
    let ops = c.index-as_slice-thread.result in
    let below : c.args.thread < length threads =
    omega (arith, length-map threads operations, c.requires) in
    let e : ops ≡ slice_index_or threads c.args.thread ops =
    subst (λ l. ops ≡ slice_index_or l c.args.thread ops) c.as_slice.ensures
    c.index-as_slice-thread.is in
    omega (
      arith,
      length_short threads c.args.self.now.placed c.args.thread ops below e,
      c.len.ensures,
    )

pub overflow_sub-result : goal.overflow_sub-result
overflow_sub-result c =
    let threads = c.args.self.now.threads in
    let ops = c.index-as_slice-thread.result in
    let below : c.args.thread < length threads =
    omega (arith, length-map threads operations, c.requires) in
    let e : ops ≡ slice_index_or threads c.args.thread ops =
    subst (λ l. ops ≡ slice_index_or l c.args.thread ops) c.as_slice.ensures
    c.index-as_slice-thread.is in
    omega (
      arith,
      length_some threads c.args.self.now.placed c.args.thread ops below e,
      c.len.ensures,
    )
