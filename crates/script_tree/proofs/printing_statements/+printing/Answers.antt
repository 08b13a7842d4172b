-- Blocks are printed as their lines.
use Rattle.std.proofs.Common.{◌≡◌, ◌++◌, ◌∷◌, [], refl, sym, ap, ◌∙◌, arith}
use Rattle.std.specs.Prelude.{codes}
use Rattle.std.proofs.lemmas.Bool.{and_from}
use Rattle.std.proofs.lemmas.Result.{on_ok_weaker}
use Rattle.script_tree.specs.Trees as trees
use Rattle.script_tree.specs.Forms as forms
use Rattle.script_tree.specs.Seen.{statement, expression, block}
use Rattle.script_tree.specs.Grammar.{statement_lines, block_lines}
use Rattle.script_tree.specs.Layout.{spaced_words, expression_text}
use Rattle.script_tree.specs.Printing.{printed_lines, are_ranged, is_ranged}
use Rattle.script_tree.specs.declared.stmt.Stmt.TheVariants as stmts
use Rattle.script_tree.proofs.laws.SeenParts.{statement-While, statement-If, statement-IfElse}
use Rattle.script_tree.proofs.PrintLemmas.{one-printed, two-printed, ranged-block}
use Rattle.script_tree.proofs.PrintLemmas.{are_ranged-append, lines_in, more-written, more-ranged}
use Rattle.script_tree.proofs.PrintLemmas.{all-written, all-ranged}
use Rattle.script_tree.proofs.printing_statements.+printing.Goals as goal
use Rattle.script_tree.proofs.printing_statements.+printing.Goals.{push_statement-in-Some+in_ok-push_last-in-If+in_ok-push_statements-in-If-2}
use Rattle.script_tree.proofs.printing_statements.+printing.Goals.{push_statement-in_default-otherwise}

pub push_statement-returns-in_ok-push_statements-in-While-clause-written : goal.push_statement-returns-in_ok-push_statements-in-While-clause-written
push_statement-returns-in_ok-push_statements-in-While-clause-written t c =
    let names = c.args.names.now in
    let test = expression c.in-While.test in
    let body = block c.in-While.body in
    let seen : statement c.args.stmt.now ≡ trees.While c.in-While.line test body =
    ap statement c.in-While.is ∙ statement-While c.in-While.line c.in-While.test
    c.in-While.body in
    on_ok_weaker c.push_last-in-While.result
    (λ e. one-printed names body (spaced_words (codes "while" ∷ expression_text test ∷ [])) _ _ _ _
    c.in_ok-push_test-in-While.ensures.written c.in_ok-push_statements-in-While.ensures.written
    e ∙ ap (λ s. c.args.out.now.items ++ printed_lines (statement_lines names s)) (sym seen))
    c.push_last-in-While.ensures

pub push_statement-returns-in_ok-push_statements-in-While-clause-ranged : goal.push_statement-returns-in_ok-push_statements-in-While-clause-ranged
push_statement-returns-in_ok-push_statements-in-While-clause-ranged t c =
    let names = c.args.names.now in
    let test = expression c.in-While.test in
    let body = block c.in-While.body in
    let seen : statement c.args.stmt.now ≡ trees.While c.in-While.line test body =
    ap statement c.in-While.is ∙ statement-While c.in-While.line c.in-While.test
    c.in-While.body in
    on_ok_weaker c.push_last-in-While.result
    (λ _. ap (λ s. are_ranged (statement_lines names s)) seen
    ∙ and_from (is_ranged test) (are_ranged (block_lines names forms.End body))
    c.in_ok-push_test-in-While.ensures.ranged
    (ranged-block names forms.End body refl c.in_ok-push_statements-in-While.ensures.ranged))
    c.push_last-in-While.ensures

pub push_statement-returns-after-otherwise-clause-written : goal.push_statement-returns-after-otherwise-clause-written
push_statement-returns-after-otherwise-clause-written t c =
    let names = c.args.names.now in
    let test = expression c.in-If.test in
    let first = block c.in-If.then in
    let text = spaced_words (codes "if" ∷ expression_text test ∷ []) in
    on_ok_weaker c.push_last-in-If.result
    (λ e. elim c.match-otherwise.branch [
      | push_statement-in-Some+in_ok-push_last-in-If+in_ok-push_statements-in-If-2 w ↦
          let other = block w.in-Some.otherwise in
          let seen : statement c.args.stmt.now ≡ trees.IfElse c.in-If.line test first other =
          ap statement (c.in-If.is ∙ ap (stmts.If c.in-If.line c.in-If.test c.in-If.then)
          w.in-Some.is) ∙ statement-IfElse c.in-If.line c.in-If.test c.in-If.then
          w.in-Some.otherwise in
          two-printed names first other text _ _ _ _ _ _ c.in_ok-push_test-in-If.ensures.written
          c.in_ok-push_statements-in-If.ensures.written w.in_ok-push_last-in-If.ensures
          w.in_ok-push_statements-in-If-2.ensures.written (rw w.out-is at e)
          ∙ ap (λ s. c.args.out.now.items ++ printed_lines (statement_lines names s)) (sym seen)
      | push_statement-in_default-otherwise w ↦
          let seen : statement c.args.stmt.now ≡ trees.If c.in-If.line test first =
          ap statement (c.in-If.is ∙ ap (stmts.If c.in-If.line c.in-If.test c.in-If.then)
          w.in_default-otherwise.is) ∙ statement-If c.in-If.line c.in-If.test c.in-If.then in
          one-printed names first text _ _ _ _ c.in_ok-push_test-in-If.ensures.written
          c.in_ok-push_statements-in-If.ensures.written (rw w.out-is at e)
          ∙ ap (λ s. c.args.out.now.items ++ printed_lines (statement_lines names s)) (sym seen)
    ])
    c.push_last-in-If.ensures

pub push_statement-returns-after-otherwise-clause-ranged : goal.push_statement-returns-after-otherwise-clause-ranged
push_statement-returns-after-otherwise-clause-ranged t c =
    let names = c.args.names.now in
    let test = expression c.in-If.test in
    let first = block c.in-If.then in
    let tested = c.in_ok-push_test-in-If.ensures.ranged in
    let inner = c.in_ok-push_statements-in-If.ensures.ranged in
    on_ok_weaker c.push_last-in-If.result
    (λ _. elim c.match-otherwise.branch [
      | push_statement-in-Some+in_ok-push_last-in-If+in_ok-push_statements-in-If-2 w ↦
          let other = block w.in-Some.otherwise in
          let seen : statement c.args.stmt.now ≡ trees.IfElse c.in-If.line test first other =
          ap statement (c.in-If.is ∙ ap (stmts.If c.in-If.line c.in-If.test c.in-If.then)
          w.in-Some.is) ∙ statement-IfElse c.in-If.line c.in-If.test c.in-If.then
          w.in-Some.otherwise in
          ap (λ s. are_ranged (statement_lines names s)) seen
          ∙ and_from (is_ranged test) (are_ranged
          (block_lines names forms.Else first ++ block_lines names forms.End other)) tested
          (are_ranged-append (block_lines names forms.Else first)
          (block_lines names forms.End other) (ranged-block names forms.Else first refl inner)
          (ranged-block names forms.End other refl
          w.in_ok-push_statements-in-If-2.ensures.ranged))
      | push_statement-in_default-otherwise w ↦
          let seen : statement c.args.stmt.now ≡ trees.If c.in-If.line test first =
          ap statement (c.in-If.is ∙ ap (stmts.If c.in-If.line c.in-If.test c.in-If.then)
          w.in_default-otherwise.is) ∙ statement-If c.in-If.line c.in-If.test c.in-If.then in
          ap (λ s. are_ranged (statement_lines names s)) seen
          ∙ and_from (is_ranged test) (are_ranged (block_lines names forms.End first)) tested
          (ranged-block names forms.End first refl inner)
    ])
    c.push_last-in-If.ensures

pub push_statements-loop-stmt-preserved : goal.push_statements-loop-stmt-preserved
push_statements-loop-stmt-preserved t c =
    let names = c.args.names.now in
    let items = c.deref-stmt-items.result.now in
    let i = c.loop-stmt.stmt-index in
    record {
      written =
          more-written names items i c.stmt-item.result _ _ _ (omega arith) c.stmt-item.is
          c.loop-stmt.invariant.written c.in_ok-push_statement.ensures.written;
      ranged =
          more-ranged names items i c.stmt-item.result (lines_in names items) (omega arith)
          c.stmt-item.is c.loop-stmt.invariant.ranged c.in_ok-push_statement.ensures.ranged;
    }

pub push_statements-returns-clause-written : goal.push_statements-returns-clause-written
push_statements-returns-clause-written t c =
    all-written c.args.names.now c.deref-stmt-items.result.now c.loop-stmt.stmt-index
    c.args.body.now _ _ (omega arith) c.deref-stmt-items.ensures.value
    c.loop-stmt.invariant.written

pub push_statements-returns-clause-ranged : goal.push_statements-returns-clause-ranged
push_statements-returns-clause-ranged t c =
    all-ranged c.args.names.now c.deref-stmt-items.result.now c.loop-stmt.stmt-index c.args.body.now
    (omega arith) c.deref-stmt-items.ensures.value c.loop-stmt.invariant.ranged
