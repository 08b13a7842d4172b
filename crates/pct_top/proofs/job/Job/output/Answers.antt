use Rattle.std.proofs.Common.{ℕ, List, Some, inl, refl, take, subst}
use Rattle.script_tree.specs.ScriptSeen.{plain_script}
use Rattle.pct_top.specs.Printed.{NamedFiles, Printed, trace_bytes, directive_bytes}
use Rattle.pct_top.specs.Ordered.{OrderFits}
use Rattle.pct_top.specs.Files.{Misses}
use Rattle.pct_top.specs.CommandOutput.{Comes}
use Rattle.pct_top.specs.Reports.{OfOrdered}
use Rattle.pct_top.specs.commands.Replay.{OfReplay}
use Rattle.pct_top.specs.commands.Expose.{OfExpose}
use Rattle.pct_top.specs.commands.Certify.{OfCertify}
use Rattle.pct_top.proofs.Comes.{comes_as, gives_comes}
use Rattle.pct_top.proofs.Shelves.{given_is_read}
use Rattle.pct_top.proofs.job.Job.output.Goals as goal

pub returns-in-Ordered-clause-comes : goal.returns-in-Ordered-clause-comes
returns-in-Ordered-clause-comes g c =
    let test = c.args.test.now in
    let run = c.in-Ordered.run' in
    rw c.in-Ordered.is (λ file. gives_comes (λ files.
    OfOrdered run.order run.word run.points run.limit run.report (plain_script test.script)
    test.deal) _ _ c.report_on.result (λ files. c.report_on.ensures))

pub returns-in-Ordered-clause-keeps : goal.returns-in-Ordered-clause-keeps
returns-in-Ordered-clause-keeps g c =
    let test = c.args.test.now in
    let run = c.in-Ordered.run' in
    rw c.in-Ordered.is (λ file. inl (
      given_is_read (OfOrdered run.order run.word run.points run.limit run.report
          (plain_script test.script) test.deal) c.report_on.result c.report_on.ensures,
      refl,
    ))

pub returns-in_ok-report_on-in-Seeded-clause-comes :
    goal.returns-in_ok-report_on-in-Seeded-clause-comes
returns-in_ok-report_on-in-Seeded-clause-comes g c =
    rw c.in-Seeded.is (λ file files told. c.in_ok-report_on-in-Seeded.ensures)

pub returns-in_ok-report_on-in-Campaign-clause-comes :
    goal.returns-in_ok-report_on-in-Campaign-clause-comes
returns-in_ok-report_on-in-Campaign-clause-comes g c =
    rw c.in-Campaign.is (λ file files told. c.in_ok-report_on-in-Campaign.ensures)

pub returns-in_ok-report_on-in-Sweep-clause-comes :
    goal.returns-in_ok-report_on-in-Sweep-clause-comes
returns-in_ok-report_on-in-Sweep-clause-comes g c =
    rw c.in-Sweep.is (λ file files told. c.in_ok-report_on-in-Sweep.ensures)

pub returns-in-Replay-clause-comes : goal.returns-in-Replay-clause-comes
returns-in-Replay-clause-comes g c =
    let test = c.args.test.now in
    let trace = c.in-Replay.replay.trace in
    let told = (g.H.Shelf.told c.args.shelf.now).files in
    let failed = (g.H.Shelf.told c.args.shelf.now).failed in
    let failed' = (g.H.Shelf.told c.reply_to_file.new.shelf).failed in
    let Of : List ℕ → NamedFiles → Printed → Type 0 = λ name files.
    OfReplay (take trace_bytes (files name)) (plain_script test.script) test.deal in
    let P : List ℕ → Type 0 = λ name.
    Comes (Of name) told (Misses (Some name) failed failed') c.reply_to_file.result in
    let missed : Type 0 = Misses (Some trace) failed failed' in
    rw c.in-Replay.is (λ file. comes_as (Of trace) told missed (missed × Unit {0}) (λ m. (m, tt))
    c.reply_to_file.result (subst P c.as_str.ensures c.reply_to_file.ensures.comes))

pub returns-in-Expose-clause-comes : goal.returns-in-Expose-clause-comes
returns-in-Expose-clause-comes g c =
    let test = c.args.test.now in
    let script = plain_script test.script in
    let told = (g.H.Shelf.told c.args.shelf.now).files in
    let failed = (g.H.Shelf.told c.args.shelf.now).failed in
    let failed' = (g.H.Shelf.told c.expose_file.new.shelf).failed in
    let job = c.in-Expose.expose in
    let P : List ℕ → Type 0 = λ name. Comes
    (λ files. OfExpose (take directive_bytes (files name)) job.order job.word job.steps
    job.limit script test.deal)
    told (Misses (Some name) failed failed' × OrderFits script.names (Some job.order))
    c.expose_file.result in
    rw c.in-Expose.is (λ file. subst P c.as_str-in-Expose.ensures c.expose_file.ensures.comes)

pub returns-in-Certify-clause-comes : goal.returns-in-Certify-clause-comes
returns-in-Certify-clause-comes g c =
    let test = c.args.test.now in
    let script = plain_script test.script in
    let told = (g.H.Shelf.told c.args.shelf.now).files in
    let failed = (g.H.Shelf.told c.args.shelf.now).failed in
    let failed' = (g.H.Shelf.told c.certify_file.new.shelf).failed in
    let job = c.in-Certify.certify in
    let Of : List ℕ → NamedFiles → Printed → Type 0 = λ name files.
    OfCertify (take directive_bytes (files name)) job.steps job.limit script test.deal in
    let P : List ℕ → Type 0 = λ name.
    Comes (Of name) told (Misses (Some name) failed failed') c.certify_file.result in
    let missed : Type 0 = Misses (Some job.directive) failed failed' in
    rw c.in-Certify.is (λ file. comes_as (Of job.directive) told missed (missed × Unit {0})
    (λ m. (m, tt)) c.certify_file.result
    (subst P c.as_str-in-Certify.ensures c.certify_file.ensures.comes))
