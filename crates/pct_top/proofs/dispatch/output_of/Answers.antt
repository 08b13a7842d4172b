use Rattle.std.proofs.Common.{◌≡◌, Ok, Some, None, refl, sym, subst, ap, ◌∙◌}
use Rattle.script_tree.specs.Layout.{layout}
use Rattle.large_script.specs.Large.{large_script}
use Rattle.pct_outside.specs.Told.{ShelfTold}
use Rattle.pct_top.specs.declared.settings.Settings.{Settings}
use Rattle.pct_top.specs.declared.settings.Settings.TheVariants.{Big}
use Rattle.pct_top.specs.Plan.{asked, asked_by}
use Rattle.pct_top.specs.Printed.{OfScript}
use Rattle.pct_top.specs.commands.Big.{OfBig}
use Rattle.pct_top.specs.Output.{script_file, OfTaken}
use Rattle.pct_top.specs.Reads.{is_missed}
use Rattle.pct_top.specs.Call.{LeavesShelf}
use Rattle.pct_top.proofs.Comes.{gives_comes, comes_of_same}
use Rattle.pct_top.proofs.Plans.{asked_file}
use Rattle.pct_top.proofs.Shelves.{leaves_none, given_is_read}
use Rattle.pct_top.proofs.dispatch.output_of.Goals as goal

pub returns-in-Big-clause-comes : goal.returns-in-Big-clause-comes
returns-in-Big-clause-comes g c =
    let plan = c.in-Big in
    rw (c.plan_of.ensures ∙ ap asked_by plan.is)
    (gives_comes (OfTaken (Ok (Big plan.pieces plan.serve))) _ _ c.big_output.result
    (λ files. c.big_output.ensures))

pub returns-in-Big-clause-unread : goal.returns-in-Big-clause-unread
returns-in-Big-clause-unread g c =
    rw (c.plan_of.ensures ∙ ap asked_by c.in-Big.is) (λ none files. c.big_output.ensures)

pub returns-in-Big-clause-shelf : goal.returns-in-Big-clause-shelf
returns-in-Big-clause-shelf g c =
    let pieces = c.in-Big.pieces in
    leaves_none (Ok c.args.settings) _ _ _
    (given_is_read (OfScript (layout (large_script pieces)) (OfBig pieces)) c.big_output.result
    c.big_output.ensures) refl

is_some : {A : Type 0} {a : A} → Some a ≡ None → ⊥
is_some e = cc

pub returns-in-OfFile-clause-comes : goal.returns-in-OfFile-clause-comes
returns-in-OfFile-clause-comes g c =
    let plan = c.in-OfFile in
    let before : ShelfTold = g.H.Shelf.told c.args.shelf.now in
    let after : ShelfTold = g.H.Shelf.told c.over_file.new.shelf in
    comes_of_same c.args.settings (asked c.as_str.result.now plan.job)
    (c.plan_of.ensures ∙ ap asked_by plan.is
    ∙ ap (λ file. asked file plan.job) (sym c.as_str.ensures))
    before after c.over_file.result c.over_file.ensures.comes

pub returns-in-OfFile-clause-unread : goal.returns-in-OfFile-clause-unread
returns-in-OfFile-clause-unread g c = λ none files.
    let plan = c.in-OfFile in
    let some : script_file c.args.settings ≡ Some plan.file =
    ap script_file (c.plan_of.ensures ∙ ap asked_by plan.is) ∙ asked_file plan.file plan.job in
    absurd (is_some (sym some ∙ none))

pub returns-in-OfFile-clause-shelf : goal.returns-in-OfFile-clause-shelf
returns-in-OfFile-clause-shelf g c =
    let plan = c.in-OfFile in
    let before : ShelfTold = g.H.Shelf.told c.args.shelf.now in
    let after : ShelfTold = g.H.Shelf.told c.over_file.new.shelf in
    subst (λ (s : Settings). LeavesShelf (Ok s) (is_missed c.over_file.result) before after)
    (sym (c.plan_of.ensures ∙ ap asked_by plan.is
    ∙ ap (λ file. asked file plan.job) (sym c.as_str.ensures)))
    c.over_file.ensures.shelf
