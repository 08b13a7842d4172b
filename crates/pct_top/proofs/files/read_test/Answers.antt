use Rattle.std.proofs.Common.{sym, subst}
use Rattle.script_tree.specs.Grammar.{Spells}
use Rattle.script_tree.specs.ScriptSeen.{plain_script}
use Rattle.pct_top.specs.Printed.{script_bytes}
use Rattle.pct_top.proofs.Comes.{first_bytes}
use Rattle.pct_top.proofs.files.read_test.Goals as goal

pub returns-clause-test : goal.returns-clause-test
returns-clause-test g c =
    let script = plain_script c.in_ok-of_script.field-0.script in
    first_bytes (g.H.Shelf.told c.args.shelf.now).files c.args.file.now script_bytes
    c.in_ok-bytes.bytes.items (λ bytes. Spells bytes script) c.in_ok-bytes.ensures.first
    (subst (Spells c.in_ok-bytes.bytes.items) (sym c.in_ok-of_script.ensures)
    (subst (λ bytes. Spells bytes (plain_script c.in_ok-script.script)) c.deref.ensures.value
    c.in_ok-script.ensures.found))
