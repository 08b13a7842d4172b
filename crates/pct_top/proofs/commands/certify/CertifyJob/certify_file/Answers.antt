use Rattle.std.proofs.Common.{Some, Err, subst}
use Rattle.std.proofs.lemmas.Result.{err_from_is_err_and}
use Rattle.pct_ask.specs.NameLists.{NameLists}
use Rattle.script_tree.specs.ScriptSeen.{plain_script}
use Rattle.pct_top.specs.Files.{Misses, GivesDirective, HasDirective}
use Rattle.pct_top.specs.CommandOutput.{printed_of}
use Rattle.pct_top.specs.commands.Certify.{PrintsCertificate}
use Rattle.pct_top.proofs.Comes.{directive_refused, directive_shown}
use Rattle.pct_top.proofs.commands.certify.CertifyJob.certify_file.Goals as goal

pub returns-in_err-plan-clause-comes : goal.returns-in_err-plan-clause-comes
returns-in_err-plan-clause-comes g c =
    let job = c.args.self.now in
    let test = c.args.test.now in
    let script = plain_script test.script in
    let told = (g.H.Shelf.told c.args.shelf.now).files in
    let file = c.args.directive.now in
    let failed = (g.H.Shelf.told c.args.shelf.now).failed in
    let missed : Type 0 = Misses (Some file) failed (g.H.Shelf.told c.read_directed.new.shelf).failed in
    let refusal = c.in_err-plan.field-0.0 in
    let G : NameLists → Type 0 = λ names.
    GivesDirective told file names missed (Err refusal) in
    let p = err_from_is_err_and c.from_residual.result c.from_residual.ensures.1 in
    rw (p.1, p.2) (directive_refused told file script.names
    (PrintsCertificate script test.deal job.steps job.limit) missed refusal
    (subst G c.names.ensures c.in_err-plan.ensures.told))

pub returns-clause-comes : goal.returns-clause-comes
returns-clause-comes g c =
    let job = c.args.self.now in
    let test = c.args.test.now in
    let script = plain_script test.script in
    let told = (g.H.Shelf.told c.args.shelf.now).files in
    let file = c.args.directive.now in
    let failed = (g.H.Shelf.told c.args.shelf.now).failed in
    let missed : Type 0 = Misses (Some file) failed (g.H.Shelf.told c.read_directed.new.shelf).failed in
    let plan = c.in_ok-plan.plan in
    let H : NameLists → Type 0 = λ names. HasDirective told file names plan in
    directive_shown told file script.names
    (PrintsCertificate script test.deal job.steps job.limit) missed plan
    (printed_of c.in_ok-certificate_of.field-0) (subst H c.names.ensures c.in_ok-plan.ensures.told)
    c.in_ok-certificate_of.ensures
