use Rattle.std.proofs.Common.{Ok, Err, false, subst, ◌∙◌}
use Rattle.std.proofs.lemmas.Result.{err_from_is_err_and}
use Rattle.script_tree.specs.ScriptSeen.{plain_script}
use Rattle.pct_outside.specs.Told.{ShelfTold}
use Rattle.pct_top.specs.Plan.{asked}
use Rattle.pct_top.specs.Output.{script_file, script_text, OfCommand}
use Rattle.pct_top.specs.CommandOutput.{Comes}
use Rattle.pct_top.specs.Files.{Misses}
use Rattle.pct_top.specs.Reads.{is_read, is_missed}
use Rattle.pct_top.specs.Call.{MissesSecond, ReadFailed}
use Rattle.pct_top.proofs.Comes.{comes_untested, comes_tested, script_missed, second_missed}
use Rattle.pct_top.proofs.Plans.{asked_file, asked_text}
use Rattle.pct_top.proofs.Comes.{file_gives, file_kept}
use Rattle.pct_top.proofs.Shelves.{leaves_script, leaves_both}
use Rattle.pct_top.proofs.dispatch.over_file.Goals as goal

pub returns-in_err-test-clause-comes : goal.returns-in_err-test-clause-comes
returns-in_err-test-clause-comes g c =
    let name = c.args.file.now in
    let settings = asked name c.args.job.now in
    let file = asked_file name c.args.job.now in
    let text = asked_text name c.args.job.now in
    let before : ShelfTold = g.H.Shelf.told c.args.shelf.now in
    let after : ShelfTold = g.H.Shelf.told c.read_test.new.shelf in
    let refusal = c.in_err-test.field-0.0 in
    let p = err_from_is_err_and c.from_residual.result c.from_residual.ensures.1 in
    rw (p.1, p.2) (comes_untested before.files (script_text settings) (OfCommand settings)
    (ReadFailed (Ok settings) before after)
    (Misses (script_file settings) before.failed after.failed)
    (script_missed settings before after) refusal
    (file_gives settings name file text before.files before.failed after.failed
    (Err refusal) c.in_err-test.ensures.test))

pub returns-clause-comes : goal.returns-clause-comes
returns-clause-comes g c =
    let name = c.args.file.now in
    let settings = asked name c.args.job.now in
    let file = asked_file name c.args.job.now in
    let text = asked_text name c.args.job.now in
    let test = c.in_ok-test.test in
    let script = plain_script test.script in
    let before : ShelfTold = g.H.Shelf.told c.args.shelf.now in
    let middle : ShelfTold = g.H.Shelf.told c.read_test.new.shelf in
    let after : ShelfTold = g.H.Shelf.told c.output.new.shelf in
    let missed : Type 0 = MissesSecond settings script middle.failed after.failed in
    let spells = file_gives settings name file text before.files before.failed middle.failed (Ok test)
    c.in_ok-test.ensures.test in
    comes_tested before.files (script_text settings) (OfCommand settings)
    (ReadFailed (Ok settings) before after) test spells missed
    (second_missed settings before after middle script spells
    (file_kept settings name file false before middle c.in_ok-test.ensures.keeps))
    c.output.result
    (subst (λ told. Comes (λ files. OfCommand settings files script test.deal) told missed
    c.output.result) c.in_ok-test.ensures.files (c.output.ensures.comes name))

pub returns-in_err-test-clause-shelf : goal.returns-in_err-test-clause-shelf
returns-in_err-test-clause-shelf g c =
    let name = c.args.file.now in
    let settings = asked name c.args.job.now in
    let file = asked_file name c.args.job.now in
    let text = asked_text name c.args.job.now in
    let before : ShelfTold = g.H.Shelf.told c.args.shelf.now in
    let after : ShelfTold = g.H.Shelf.told c.read_test.new.shelf in
    let refusal = c.in_err-test.field-0.0 in
    let p = err_from_is_err_and c.from_residual.result c.from_residual.ensures.1 in
    rw (p.1, p.2) (leaves_script settings (is_read refusal) before after
    c.in_err-test.ensures.files
    (file_kept settings name file (is_read refusal) before after
    c.in_err-test.ensures.keeps))

pub returns-clause-shelf : goal.returns-clause-shelf
returns-clause-shelf g c =
    let name = c.args.file.now in
    let settings = asked name c.args.job.now in
    let file = asked_file name c.args.job.now in
    let text = asked_text name c.args.job.now in
    let test = c.in_ok-test.test in
    let script = plain_script test.script in
    let before : ShelfTold = g.H.Shelf.told c.args.shelf.now in
    let middle : ShelfTold = g.H.Shelf.told c.read_test.new.shelf in
    let after : ShelfTold = g.H.Shelf.told c.output.new.shelf in
    leaves_both settings (is_missed c.output.result) before after
    (c.output.ensures.files ∙ c.in_ok-test.ensures.files) middle script
    (file_gives settings name file text before.files before.failed middle.failed (Ok test)
    c.in_ok-test.ensures.test)
    (file_kept settings name file false before middle c.in_ok-test.ensures.keeps)
    (c.output.ensures.keeps name)
