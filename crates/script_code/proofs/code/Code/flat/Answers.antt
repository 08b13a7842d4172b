use Rattle.std.proofs.Common.{◌≡◌, ◌<◌, length, ap, arith, subst}
use Rattle.std.specs.Prelude.{slice_index_or}
use Rattle.std.proofs.lemmas.List.{length-map}
use Rattle.script_code.specs.Operations.{operations, operation}
use Rattle.script_code.proofs.laws.Listings.{listing_is, placed_at}
use Rattle.script_code.proofs.code.Code.flat.Goals as goal

pub returns-clause-placed : goal.returns-clause-placed
returns-clause-placed c =
    let threads = c.args.self.now.threads in
    let ops = c.index-as_slice-thread.result in
    let flat = c.index-as_slice-place.result in
    let below : c.args.thread < length threads =
    omega (arith, length-map threads operations, c.requires.thread) in
    let e : ops ≡ slice_index_or threads c.args.thread ops =
    subst (λ l. ops ≡ slice_index_or l c.args.thread ops) c.as_slice.ensures
    c.index-as_slice-thread.is in
    let inside : c.args.place < length ops =
    omega (
      arith,
      ap length (listing_is threads c.args.thread ops below e),
      length-map ops operation,
      c.requires.place,
    ) in
    placed_at threads c.args.self.now.placed c.args.thread ops below e c.args.place flat inside
    (subst (λ l. flat ≡ slice_index_or l c.args.place flat) c.as_slice-2.ensures
    c.index-as_slice-place.is)
