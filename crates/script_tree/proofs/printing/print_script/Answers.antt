-- The header, the declarations and the threads are the layout, which spells the script.
use Rattle.std.proofs.Common.{◌≡◌, ◌++◌, ◌∷◌, [], List, ℕ, true, map, sym, ap, ◌∙◌, subst, rules}
use Rattle.std.specs.Prelude.{codes}
use Rattle.script_tree.specs.ScriptParts.{thread_text}
use Rattle.script_tree.specs.ScriptSeen.{plain_script}
use Rattle.script_tree.specs.Grammar.{all_thread_lines, Spells}
use Rattle.script_tree.specs.Layout.{layout}
use Rattle.script_tree.specs.Renumbering.{renumbered_script, IsShort}
use Rattle.script_tree.specs.Printing.{printed_lines, are_ranged}
use Rattle.script_tree.proofs.DeclarationLemmas.{layout-printed}
use Rattle.script_tree.proofs.laws.Layouts.{layout_spells}
use Rattle.script_tree.proofs.printing.print_script.Goals as goal

pub returns-clause-layout : goal.returns-clause-layout
returns-clause-layout c =
    let script = c.args.script.now in
    layout-printed (plain_script script) _ _ _ _ _
    (c.in_ok-push_spaced.ensures ∙ ap (λ items. items ++ (codes "script" ++ 32 ∷ []))
    c.new-out.ensures.items) (search rules) c.in_ok-push.ensures.items
    c.in_ok-push_declarations.ensures.written
    (c.in_ok-push_threads.ensures.written
    ∙ ap (λ texts. c.push_declarations.new.out.items
    ++ printed_lines (all_thread_lines script.names script.names.threads
    (map thread_text texts))) c.deref.ensures.value)

pub returns-clause-spelled : goal.returns-clause-spelled
returns-clause-spelled c =
    let script = c.args.script.now in
    let ranged : are_ranged (all_thread_lines script.names script.names.threads
    (map thread_text script.threads.items)) ≡ true =
    ap (λ texts. are_ranged (all_thread_lines script.names script.names.threads
    (map thread_text texts))) (sym c.deref.ensures.value)
    ∙ c.in_ok-push_threads.ensures.ranged in
    let is : c.push_threads.new.out.items ≡ layout (plain_script script) =
    returns-clause-layout c in
    let P : List ℕ → Type 0 =
    λ bytes. IsShort bytes → Spells bytes (renumbered_script (plain_script script)) in
    subst P (sym is) (layout_spells (plain_script script) script.sound c.count.ensures.lawful
    c.in_ok-push_declarations.ensures.ranged ranged)
