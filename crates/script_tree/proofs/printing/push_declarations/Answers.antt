-- One kind after another.
use Rattle.std.proofs.lemmas.Result.{on_ok_weaker}
use Rattle.pct_ask.specs.declared.names.NameKind.TheVariants as kinds
use Rattle.script_tree.specs.Layout.{plain_forms, valued_forms}
use Rattle.script_tree.proofs.DeclarationLemmas.{six-printed}
use Rattle.script_tree.proofs.printing.push_declarations.Goals as goal

pub returns-clause-written : goal.returns-clause-written
returns-clause-written c =
    let script = c.args.script.now in
    let names = script.names in
    on_ok_weaker c.push_plain-3.result
    (λ e. six-printed _ (valued_forms kinds.Var names.vars script.vars)
    (plain_forms kinds.Mutex names.mutexes) (plain_forms kinds.Cond names.conds)
    (valued_forms kinds.Sem names.sems script.sems)
    (valued_forms kinds.Barrier names.barriers script.barriers)
    (plain_forms kinds.RwLock names.rwlocks) _ _ _ _ _
    c.in_ok-push_valued.ensures.written c.in_ok-push_plain.ensures c.in_ok-push_plain-2.ensures
    c.in_ok-push_valued-2.ensures.written c.in_ok-push_valued-3.ensures.written _ e)
    c.push_plain-3.ensures
