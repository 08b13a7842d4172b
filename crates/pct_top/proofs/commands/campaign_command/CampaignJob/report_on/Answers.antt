use Rattle.std.proofs.Common.{◌≡◌, ◌≤◌, ap, ◌∙◌, arith}
use Rattle.script_tree.specs.ScriptSeen.{plain_script}
use Rattle.campaign.proofs.laws.OneCampaign.{length-rows}
use Rattle.failure_rank.proofs.Laws.{groups_have}
use Rattle.report_text.specs.Report.{IsWritable}
use Rattle.report_text.specs.declared.frame.Frame.{Frame}
use Rattle.pct_top.specs.Printed.{printed_text}
use Rattle.pct_top.specs.commands.Campaign.{setup_of, campaign_text, all_pass}
use Rattle.pct_top.proofs.KnownRows.{rows-known}
use Rattle.pct_top.proofs.commands.campaign_command.CampaignJob.report_on.Goals as goal

pub rank-requires : goal.rank-requires
rank-requires g c =
    let job = c.args.self.now in
    let script = plain_script c.args.test.now.script in
    let most : job.count ≤ 100000 = job.count_fits.1 in
    omega (
      arith,
      length-rows (setup_of script c.args.test.now.deal job.depth c.in_ok-steps.steps
          job.limit) job.first job.count c.in_ok-rows.rows
          (c.in_ok-rows.ensures script c.args.test.now.is_ready),
    )

pub write_report-requires-clause-rows : goal.write_report-requires-clause-rows
write_report-requires-clause-rows g c =
    let job = c.args.self.now in
    let test = c.args.test.now in
    let script = plain_script test.script in
    let ready = test.is_ready in
    rows-known script test.deal ready.sound ready.is_deal job.depth c.in_ok-steps.steps
    job.limit job.first job.count c.in_ok-rows.rows (c.in_ok-rows.ensures script ready)

pub write_report-requires-clause-groups : goal.write_report-requires-clause-groups
write_report-requires-clause-groups g c =
    let job = c.args.self.now in
    let test = c.args.test.now in
    let script = plain_script test.script in
    let ready = test.is_ready in
    groups_have (IsWritable script.names) c.in_ok-rows.rows c.in_ok-groups.groups
    c.in_ok-groups.ensures.ranking
    (rows-known script test.deal ready.sound ready.is_deal job.depth c.in_ok-steps.steps
    job.limit job.first job.count c.in_ok-rows.rows
    (c.in_ok-rows.ensures script ready))

pub returns : goal.returns
returns g c =
    let job = c.args.self.now in
    let script = plain_script c.args.test.now.script in
    let rows = c.in_ok-rows.rows in
    let groups = c.in_ok-groups.groups in
    let written = c.in_ok-text.ensures
    ∙ ap (λ (frame : Frame). campaign_text job.json script frame rows groups)
    c.frame_of-frame.ensures.made in
    let done : c.all_pass-done.result ≡ all_pass rows =
    c.all_pass-done.ensures ∙ ap all_pass c.as_slice.ensures in (
      c.in_ok-steps.steps,
      c.in_ok-steps.ensures,
      (
        rows,
        groups,
        record {
          are = c.in_ok-rows.ensures script c.args.test.now.is_ready;
          ranked = c.in_ok-groups.ensures.ranking;
        },
        λ i. printed_text (written i) (done i),
      ),
    )
