-- One copy more.
use Rattle.std.proofs.Common.{◌≡◌, ◌+◌, ◌++◌, [], ◌∷◌, replicate, sym, ap, subst, ◌∙◌}
use Rattle.std.proofs.Common.{arith}
use Rattle.std.proofs.lemmas.List.{append-nil, append_assoc, length-append, length-replicate}
use Rattle.std.proofs.lemmas.List.{replicate-append-replicate}
use Rattle.failure_rank.specs.Growing.{IsTally}
use Rattle.sweep.proofs.batches.add_copies.Goals as goal

pub loop-copy-init : goal.loop-copy-init
loop-copy-init c = λ rows counted.
    subst (λ l. IsTally l c.args.tally.now) (sym (append-nil rows)) counted

pub add-requires : goal.add-requires
add-requires c =
    let rows = c.requires.0 in
    let row = c.args.row.now in
    let n = c.loop-copy._copy in (
      rows ++ replicate n row,
      c.loop-copy.invariant rows c.requires.1,
      omega (
        arith,
        length-append rows (replicate n row),
        length-replicate n row,
        c.requires.2,
        c.loop-copy-test.true,
      ),
    )

pub loop-copy-preserved : goal.loop-copy-preserved
loop-copy-preserved c = λ rows counted.
    let row = c.args.row.now in
    let n = c.loop-copy._copy in
    let next : (rows ++ replicate n row) ++ row ∷ [] ≡ rows ++ replicate (n + 1) row =
    append_assoc rows (replicate n row) (row ∷ [])
    ∙ ap (λ l. rows ++ l) (replicate-append-replicate n 1 row) in
    subst (λ l. IsTally l c.add.new.self) next
    (c.in_ok-add.ensures (rows ++ replicate n row) (c.loop-copy.invariant rows counted))

pub returns : goal.returns
returns c = λ rows counted.
    let done : c.loop-copy._copy ≡ c.args.times = omega (arith, c.loop-copy-test.false) in
    subst (λ n. IsTally (rows ++ replicate n c.args.row.now) c.loop-copy.tally) done
    (c.loop-copy.invariant rows counted)
