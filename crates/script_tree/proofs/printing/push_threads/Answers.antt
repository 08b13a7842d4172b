-- Each iteration prints one thread.
use Rattle.std.proofs.Common.{◌++◌, ◌∷◌, [], get_or, ap, ◌∙◌, arith}
use Rattle.script_tree.proofs.DeclarationLemmas.{threads_in, threads-more, threads-ranged}
use Rattle.script_tree.proofs.DeclarationLemmas.{threads-all, threads-all-ranged}
use Rattle.script_tree.proofs.printing.push_threads.Goals as goal

pub loop-place-preserved : goal.loop-place-preserved
loop-place-preserved c =
    let names = c.args.names.now in
    let texts = c.args.threads.now in
    let i = c.loop-place.place in
    record {
      written =
          threads-more names names.threads texts i (get_or texts i c.index-threads-place.result) _ _
          _ _ _ _ (omega arith) (omega arith)
          (ap (λ text. get_or texts i text) c.index-threads-place.is) c.loop-place.invariant.written
          c.in_ok-push_spaced.ensures
          (c.in_ok-push_last.ensures ∙ ap (λ word. c.push_spaced.new.out.items ++ (word ++ 10 ∷ []))
          c.name_at.ensures)
          c.in_ok-push_statements.ensures.written c.in_ok-push_last-2.ensures;
      ranged =
          threads-ranged names names.threads texts i (get_or texts i c.index-threads-place.result)
          (threads_in names names.threads texts) (omega arith) (omega arith)
          (ap (λ text. get_or texts i text) c.index-threads-place.is) c.loop-place.invariant.ranged
          c.in_ok-push_statements.ensures.ranged;
    }

pub returns-clause-written : goal.returns-clause-written
returns-clause-written c =
    threads-all c.args.names.now c.args.names.now.threads c.args.threads.now c.loop-place.place _ _
    (omega arith) c.loop-place.invariant.written

pub returns-clause-ranged : goal.returns-clause-ranged
returns-clause-ranged c =
    threads-all-ranged c.args.names.now c.args.names.now.threads c.args.threads.now
    c.loop-place.place (threads_in c.args.names.now c.args.names.now.threads c.args.threads.now)
    (omega arith) c.loop-place.invariant.ranged
