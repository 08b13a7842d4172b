use Rattle.std.proofs.Common.{◌≡◌, subst}
use Rattle.std.specs.Prelude.{IfOk}
use Rattle.script_tree.specs.ScriptSeen.{plain_script}
use Rattle.script_tree.specs.Layout.{layout}
use Rattle.large_script.proofs.Shortness.{spelled_of}
use Rattle.large_script.proofs.large.print_large.Goals as goal

pub returns-clause-layout : goal.returns-clause-layout
returns-clause-layout c =
    subst (λ script. IfOk c.print_script.result (λ bytes. bytes.items ≡ layout script))
    c.in_ok-large_script.ensures c.print_script.ensures.layout

pub returns-clause-spelled : goal.returns-clause-spelled
returns-clause-spelled c =
    spelled_of c.print_script.result (plain_script c.in_ok-large_script.field-0) c.args.many
    c.requires c.in_ok-large_script.ensures
    c.print_script.ensures.layout c.print_script.ensures.spelled
