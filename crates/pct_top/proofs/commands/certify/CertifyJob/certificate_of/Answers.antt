use Rattle.std.proofs.Common.{sym, subst, ap, ◌∙◌}
use Rattle.pct_ask.specs.NameLists.{NameLists}
use Rattle.script_tree.specs.ScriptSeen.{plain_script}
use Rattle.pct_top.specs.Printed.{printed_text}
use Rattle.pct_top.specs.commands.Certify.{certificate_text}
use Rattle.pct_top.specs.commands.KnownCertificate.{IsKnownCertificate}
use Rattle.pct_top.proofs.KnownDirected.{known-certificate}
use Rattle.pct_top.proofs.commands.certify.CertifyJob.certificate_of.Goals as goal

pub write_certificate-requires : goal.write_certificate-requires
write_certificate-requires g c =
    let job = c.args.self.now in
    let test = c.args.test.now in
    let ready = test.is_ready in
    let script = plain_script test.script in
    let certified = c.in_ok-certified.certified in
    subst (λ (names : NameLists). IsKnownCertificate names certified) (sym c.names.ensures)
    (known-certificate script test.deal ready.sound ready.is_deal c.args.directive.now job.steps
    job.limit certified (c.in_ok-certified.ensures script ready))

pub returns : goal.returns
returns g c =
    let job = c.args.self.now in
    let test = c.args.test.now in
    let script = plain_script test.script in
    let certified = c.in_ok-certified.certified in
    let written = c.in_ok-text.ensures
    ∙ ap (λ (names : NameLists). certificate_text names certified) c.names.ensures in
    let done = c.is_certified-done.ensures in (
      certified,
      c.in_ok-certified.ensures script test.is_ready,
      λ i. printed_text (written i) (done i),
    )
