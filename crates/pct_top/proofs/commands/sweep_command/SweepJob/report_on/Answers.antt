-- What the sweep answers is told.
use Rattle.std.specs.Prelude.{All, ◌==◌}
use Rattle.std.proofs.Common.{◌≡◌, ◌<◌, ◌-◌, ℕ, List, sym, ap, subst, ◌∙◌, false}
use Rattle.pct_ask.specs.declared.Deal.{Deal}
use Rattle.script_tree.specs.ScriptText.{ScriptText}
use Rattle.script_tree.specs.ScriptSeen.{plain_script}
use Rattle.failure_rank.specs.declared.group.Group.{Group}
use Rattle.report_text.specs.Report.{IsTellable}
use Rattle.report_text.specs.declared.frame.Frame.{Frame}
use Rattle.sweep.specs.Choices.{choice_count}
use Rattle.sweep.specs.Swept.{Sweeps}
use Rattle.sweep.specs.declared.sweeping.Answer.{Answer}
use Rattle.sweep.specs.declared.sweeping.Answer.TheVariants.{Whole, TooMany}
use Rattle.pct_top.specs.Printed.{printed_text}
use Rattle.pct_top.specs.commands.Campaign.{frame_of}
use Rattle.pct_top.specs.commands.Sweep.{swept_setup, AreGroupsTold, sweep_report}
use Rattle.pct_top.specs.commands.Sweep.{too_many_text}
use Rattle.pct_top.proofs.KnownSwept.{first-choices, told-known}
use Rattle.pct_top.proofs.commands.sweep_command.SweepJob.report_on.Goals as goal

-- what was swept is what the job asks for
swept : (script : ScriptText) (deal : Deal) (depth steps limit : ℕ) (answer other : Answer)
    → answer ≡ other → Sweeps (swept_setup script deal depth steps limit) answer
    → Sweeps (swept_setup script deal depth steps limit) other
swept script deal depth steps limit answer other same is =
    subst (Sweeps (swept_setup script deal depth steps limit)) same is

pub told_groups-requires-clause-few : goal.told_groups-requires-clause-few
told_groups-requires-clause-few g c =
    let job = c.args.self.now in
    let test = c.args.test.now in
    let sweeps = swept (plain_script test.script) test.deal job.depth c.in_ok-steps.steps
    job.limit c.in_ok-swept.field-0 (Whole c.in-Whole.swept) c.in-Whole.is
    (c.in_ok-swept.ensures (plain_script test.script) test.is_ready) in
    sweeps.0

pub told_groups-requires-clause-first : goal.told_groups-requires-clause-first
told_groups-requires-clause-first g c =
    let job = c.args.self.now in
    let test = c.args.test.now in
    let script = plain_script test.script in
    let steps = c.in_ok-steps.steps in
    let sweeps = swept script test.deal job.depth steps job.limit c.in_ok-swept.field-0
    (Whole c.in-Whole.swept) c.in-Whole.is (c.in_ok-swept.ensures script test.is_ready) in
    let many = choice_count test.deal.threads steps (job.depth - 1) in
    subst (All (λ (group : Group). group.first < many)) (sym c.as_slice.ensures)
    (first-choices (swept_setup script test.deal job.depth steps job.limit) c.in-Whole.swept
    sweeps.1)

pub write_report-requires : goal.write_report-requires
write_report-requires g c =
    let job = c.args.self.now in
    let test = c.args.test.now in
    let script = plain_script test.script in
    let ready = test.is_ready in
    let steps = c.in_ok-steps.steps in
    let sweeps = swept script test.deal job.depth steps job.limit c.in_ok-swept.field-0
    (Whole c.in-Whole.swept) c.in-Whole.is (c.in_ok-swept.ensures script ready) in
    let told = c.in_ok-told-in-Whole.told.items in
    let Told : List Group → Type 0 =
    λ groups. AreGroupsTold (frame_of test.deal job.depth steps job.limit) groups told in
    subst (All (IsTellable script.names)) (sym c.as_slice-told.ensures.value)
    (told-known script test.deal ready.sound ready.is_deal job.depth steps job.limit
    c.in-Whole.swept told sweeps.1 (subst Told c.as_slice.ensures c.in_ok-told-in-Whole.ensures))

pub returns-in_ok-text-in-Whole : goal.returns-in_ok-text-in-Whole
returns-in_ok-text-in-Whole g c =
    let job = c.args.self.now in
    let test = c.args.test.now in
    let script = plain_script test.script in
    let steps = c.in_ok-steps.steps in
    let whole = c.in-Whole.swept in
    let frame = c.frame_of-frame.result in
    let made = c.frame_of-frame.ensures.made in
    let told = c.in_ok-told-in-Whole.told.items in
    let Told : List Group → Type 0 =
    λ groups. AreGroupsTold (frame_of test.deal job.depth steps job.limit) groups told in
    let text : Frame → List ℕ = λ frame. sweep_report job.json script frame whole told in
    let written = c.in_ok-text-in-Whole.ensures
    ∙ ap (sweep_report job.json script frame whole) c.as_slice-told.ensures.value
    ∙ ap text made in
    let many = c.len-done.ensures in (
      steps,
      c.in_ok-steps.ensures,
      (
        Whole whole,
        swept script test.deal job.depth steps job.limit c.in_ok-swept.field-0 (Whole whole)
            c.in-Whole.is (c.in_ok-swept.ensures script test.is_ready),
        (
          told,
          subst Told c.as_slice.ensures c.in_ok-told-in-Whole.ensures,
          λ i. printed_text (written i) (many i == 0),
        ),
      ),
    )

pub returns-in_ok-too_many-in-TooMany : goal.returns-in_ok-too_many-in-TooMany
returns-in_ok-too_many-in-TooMany g c =
    let job = c.args.self.now in
    let test = c.args.test.now in
    let script = plain_script test.script in
    let steps = c.in_ok-steps.steps in
    let made = c.frame_of-frame.ensures.made in (
      steps,
      c.in_ok-steps.ensures,
      (
        TooMany,
        swept script test.deal job.depth steps job.limit c.in_ok-swept.field-0 TooMany
            c.in-TooMany.is (c.in_ok-swept.ensures script test.is_ready),
        ap (λ (text : List ℕ). printed_text text false)
            (c.in_ok-too_many-in-TooMany.ensures ∙ ap (λ (frame : Frame).
            too_many_text frame.threads) made),
      ),
    )
