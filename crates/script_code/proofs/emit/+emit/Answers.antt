use Rattle.std.proofs.Common.{◌≡◌, ℕ, ◌+◌, ◌<◌, ◌++◌, length, get_or, ap, ap₂, ◌∙◌, subst, arith}
use Rattle.std.proofs.Common.{rules}
use Rattle.script_tree.specs.Seen.{expression, statement, block}
use Rattle.script_tree.specs.Fitting.{count_of, counts_of}
use Rattle.script_tree.specs.declared.stmt.Stmt.{If, the_lemmas}
use Rattle.script_tree.proofs.laws.SeenParts.{statement-If, statement-IfElse, statement-While}
use Rattle.script_code.specs.Operations.{operations}
use Rattle.script_code.specs.Layout.{entry, codes_of}
use Rattle.script_code.specs.Rest.{from}
use Rattle.script_code.proofs.Pieces.{from_start, from_next}
use Rattle.script_code.proofs.EmitLemmas.{emit_if, emit_if_else, emit_while, emit_length}
use Rattle.script_code.proofs.EmitLemmas.{emit_all_length, push_length, emit_next, on_ok}
use Rattle.script_code.proofs.emit.+emit.Goals as goal

pub emit_block-loop-i-preserved : goal.emit_block-loop-i-preserved
emit_block-loop-i-preserved t c =
    let items = c.deref-stmt-items.ensures.value in
    let b = c.args.body.now in
    let i = c.loop-i.i in
    let s = c.stmt-item.result in
    let old = c.loop-i.ops in
    let new = c.emit_stmt.new.ops in
    let below : i < length b.stmts.items = subst (λ l. i < length l) items c.loop-i-test.true in
    let next = from_next b i s below (subst (λ l. s ≡ get_or l i s) items c.stmt-item.is) in
    let more = ap counts_of next in
    let after : c.entry.result ≡ entry (length old.items + count_of (statement s)) c.args.next
    (from b (i + 1)) =
    c.entry.ensures ∙ ap₂ (λ (k n : ℕ). entry (k + n) c.args.next (from b (i + 1)))
    (c.len.ensures ∙ old.ok.0) c.count_of.ensures in
    record {
      emitted =
          emit_next c.args.next old.items new.items (statement s) (from b (i + 1)) (from b i)
          c.entry.result next after c.in_ok-emit_stmt.ensures ∙ c.loop-i.invariant.emitted;
      room =
          omega (
            arith,
            emit_length old.items new.items (statement s) c.entry.result
                c.in_ok-emit_stmt.ensures,
            c.loop-i.invariant.room,
          );
    }

pub emit_stmt-emit_block-requires-in-Some-2 : goal.emit_stmt-emit_block-requires-in-Some-2
emit_stmt-emit_block-requires-in-Some-2 t c =
    let a = c.in-If in
    let b = c.in-Some.otherwise in
    let s : statement c.args.stmt.now ≡ _ =
    ap statement a.is ∙ ap (λ o. statement (If a.line a.test a.then o)) c.in-Some.is
    ∙ statement-IfElse a.line a.test a.then b in
    let more = ap count_of s in
    let one = push_length c.args.ops.now.items c.push-in-Some.new.self.items _
    c.in_ok-push-in-Some.ensures.items in
    let all = emit_all_length c.push-in-Some.new.self.items c.emit_block-in-Some.new.ops.items
    (block a.then) c.args.next c.in_ok-emit_block-in-Some.ensures in
    (search (rules, the_lemmas), omega (arith, c.requires.room))

pub emit_stmt-returns-in_ok-push-in-None : goal.emit_stmt-returns-in_ok-push-in-None
emit_stmt-returns-in_ok-push-in-None t c =
    let a = c.in-If in
    let at : c.len-at.result ≡ length c.args.ops.now.items =
    c.len-at.ensures ∙ c.args.ops.now.ok.0 in
    let s : statement c.args.stmt.now ≡ _ =
    ap statement a.is ∙ ap (λ o. statement (If a.line a.test a.then o)) c.in-None.is
    ∙ statement-If a.line a.test a.then in
    on_ok c.emit_block.result
    (λ m. emit_if c.args.ops.now.items c.push.new.self.items c.emit_block.new.ops.items _ a.line
    c.args.next c.entry-first.result (expression a.test) (block a.then)
    (statement c.args.stmt.now)
    c.in_ok-push-in-None.ensures.items
    c.in_ok-test_of-in-None.ensures
    (c.entry-first.ensures ∙ ap (entry (c.len-at.result + 1) c.args.next) (from_start a.then)
    ∙ ap (λ (k : ℕ). entry (k + 1) c.args.next (block a.then)) at)
    m
    s)
    c.emit_block.ensures

pub emit_stmt-returns-in_ok-emit_block-in-Some : goal.emit_stmt-returns-in_ok-emit_block-in-Some
emit_stmt-returns-in_ok-emit_block-in-Some t c =
    let a = c.in-If in
    let b = c.in-Some.otherwise in
    let at : c.len-at.result ≡ length c.args.ops.now.items =
    c.len-at.ensures ∙ c.args.ops.now.ok.0 in
    let s : statement c.args.stmt.now ≡ _ =
    ap statement a.is ∙ ap (λ o. statement (If a.line a.test a.then o)) c.in-Some.is
    ∙ statement-IfElse a.line a.test a.then b in
    on_ok c.emit_block-in-Some-2.result
    (λ m. emit_if_else c.args.ops.now.items c.push-in-Some.new.self.items
    c.emit_block-in-Some.new.ops.items c.emit_block-in-Some-2.new.ops.items _ a.line c.args.next
    c.entry-first.result c.entry-last.result (expression a.test) (block a.then) (block b)
    (statement c.args.stmt.now)
    c.in_ok-push-in-Some.ensures.items
    c.in_ok-test_of-in-Some.ensures
    (c.entry-first.ensures ∙ ap (entry (c.len-at.result + 1) c.args.next) (from_start a.then)
    ∙ ap (λ (k : ℕ). entry (k + 1) c.args.next (block a.then)) at)
    (c.entry-last.ensures ∙ ap (entry (c.len-at.result + 1 + c.counts_of.result) c.args.next)
    (from_start b) ∙ ap₂ (λ (k n : ℕ). entry (k + 1 + n) c.args.next (block b)) at
    c.counts_of.ensures)
    c.in_ok-emit_block-in-Some.ensures
    m
    s)
    c.emit_block-in-Some-2.ensures

pub emit_stmt-returns-in_ok-push-in-While : goal.emit_stmt-returns-in_ok-push-in-While
emit_stmt-returns-in_ok-push-in-While t c =
    let a = c.in-While in
    let at : c.len-at.result ≡ length c.args.ops.now.items =
    c.len-at.ensures ∙ c.args.ops.now.ok.0 in
    let s : statement c.args.stmt.now ≡ _ =
    ap statement a.is ∙ statement-While a.line a.test a.body in
    on_ok c.emit_block-in-While.result
    (λ m. emit_while c.args.ops.now.items c.push-in-While.new.self.items
    c.emit_block-in-While.new.ops.items _ a.line c.args.next c.entry-first-in-While.result
    (expression a.test) (block a.body) (statement c.args.stmt.now)
    c.in_ok-push-in-While.ensures.items
    c.in_ok-test_of-in-While.ensures
    (c.entry-first-in-While.ensures ∙ ap (entry (c.len-at.result + 1) c.len-at.result)
    (from_start a.body) ∙ ap (λ (k : ℕ). entry (k + 1) k (block a.body)) at)
    (m ∙ ap (λ (k : ℕ). operations c.push-in-While.new.self.items
    ++ codes_of (length c.push-in-While.new.self.items) k (block a.body)) at)
    s)
    c.emit_block-in-While.ensures
