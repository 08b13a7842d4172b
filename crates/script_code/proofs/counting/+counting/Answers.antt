use Rattle.std.proofs.Common.{◌≡◌, ◌<◌, ◌≤◌, length, get_or, arith, rules, ap, subst}
use Rattle.script_tree.specs.Fitting.{counts_of}
use Rattle.script_code.proofs.Pieces.{from_start, from_next, from_end}
use Rattle.script_tree.specs.declared.stmt.Stmt.{the_lemmas}
use Rattle.script_code.proofs.counting.+counting.Goals as goal

pub counts_of-loop-stmt-init : goal.counts_of-loop-stmt-init
counts_of-loop-stmt-init t c = let e = ap counts_of (from_start c.args.body.now) in omega arith

pub counts_of-count_of-sum-requires : goal.counts_of-count_of-sum-requires
counts_of-count_of-sum-requires t c =
    let items = c.deref-stmt-items.ensures.value in
    let b = c.args.body.now in
    let i = c.loop-stmt.stmt-index in
    let s = c.stmt-item.result in
    let below : i < length b.stmts.items = subst (λ l. i < length l) items c.loop-stmt-test.true in
    let e = ap counts_of (from_next b i s below
    (subst (λ l. s ≡ get_or l i s) items c.stmt-item.is)) in
    (search (rules, the_lemmas), omega (arith, c.loop-stmt.invariant, c.requires))

pub counts_of-overflow_add-sum : goal.counts_of-overflow_add-sum
counts_of-overflow_add-sum t c =
    let items = c.deref-stmt-items.ensures.value in
    let b = c.args.body.now in
    let i = c.loop-stmt.stmt-index in
    let s = c.stmt-item.result in
    let below : i < length b.stmts.items = subst (λ l. i < length l) items c.loop-stmt-test.true in
    let e = ap counts_of (from_next b i s below
    (subst (λ l. s ≡ get_or l i s) items c.stmt-item.is)) in
    omega (arith, c.loop-stmt.invariant, c.requires)

pub counts_of-loop-stmt-preserved : goal.counts_of-loop-stmt-preserved
counts_of-loop-stmt-preserved t c =
    let items = c.deref-stmt-items.ensures.value in
    let b = c.args.body.now in
    let i = c.loop-stmt.stmt-index in
    let s = c.stmt-item.result in
    let below : i < length b.stmts.items = subst (λ l. i < length l) items c.loop-stmt-test.true in
    let e = ap counts_of (from_next b i s below
    (subst (λ l. s ≡ get_or l i s) items c.stmt-item.is)) in
    omega (arith, c.loop-stmt.invariant, c.count_of-sum.ensures)

pub counts_of-returns : goal.counts_of-returns
counts_of-returns t c =
    let b = c.args.body.now in
    let i = c.loop-stmt.stmt-index in
    let past : length b.stmts.items ≤ i =
    subst (λ l. length l ≤ i) c.deref-stmt-items.ensures.value c.loop-stmt-test.false in
    let e = ap counts_of (from_end b i past) in
    omega (arith, c.loop-stmt.invariant)
