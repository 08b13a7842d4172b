-- The runners are new, and their run is that of the code.
use Rattle.std.proofs.Common.{List, Option, sym, subst}
use Rattle.script_code.specs.Listing.{listing}
use Rattle.script_body.specs.declared.body.ScriptBody.{ScriptBody}
use Rattle.worker_run.specs.declared.runner.Runner.{Runner}
use Rattle.script_run.specs.Batches.{AreRunnersOf}
use Rattle.script_run.proofs.Sets.{runners-new, runners-ran}
use Rattle.script_run.proofs.alone.play.Goals as goal

pub serve_by_caller-requires-clause-runners : goal.serve_by_caller-requires-clause-runners
serve_by_caller-requires-clause-runners g c κs within =
    let script = c.args.script.now in
    let code = listing script.code.now in
    let A : List (Option (Runner ScriptBody)) → Type 0 = λ rs. AreRunnersOf code rs in
    runners-new code script.deal.now c.args.book.now.deal c.as_mut_slice.result.now script.script
    c.requires.deal (subst A (sym c.as_mut_slice.ensures.value) c.in_ok-renew.ensures)

pub returns-clause-run : goal.returns-clause-run
returns-clause-run g c =
    let script = c.args.script.now in
    let code = listing script.code.now in
    let book = c.args.book.now in
    let A : List (Option (Runner ScriptBody)) → Type 0 = λ rs. AreRunnersOf code rs in
    runners-ran code c.as_mut_slice.result.now book.plan book.deal book.limit
    (record { events = c.serve_by_caller.new.book.trace; outcome = c.serve_by_caller.result })
    (subst A (sym c.as_mut_slice.ensures.value) c.in_ok-renew.ensures)
    c.serve_by_caller.ensures.run
