-- The groups of a script's sweep name only what the script has.
use Rattle.std.specs.Prelude.{slice_get}
use Rattle.std.proofs.Common.{◌≡◌, ℕ, ◌<◌, List, [], ◌∷◌, length, Some, refl}
use Rattle.std.proofs.Common.{sym}
use Rattle.std.proofs.Common.{subst, ap, ◌∙◌, arith}
use Rattle.std.specs.Prelude.{All}
use Rattle.std.specs.Option.{option_map}
use Rattle.std.proofs.lemmas.List.Elements.{All-nil, All-cons, All-head, All-tail, All-weaker}
use Rattle.std.proofs.lemmas.List.{get_or_default}
use Rattle.std.proofs.lemmas.Option.{slice_get_within}
use Rattle.pct_ask.specs.declared.Deal.{Deal}
use Rattle.pct_ask.specs.declared.verdict.Outcome.TheVariants.{Verdict as Ends}
use Rattle.script_tree.specs.ScriptText.{ScriptText}
use Rattle.script_tree.specs.Fitting.{IsScript}
use Rattle.script_tree.specs.DealOf.{IsDealOf}
use Rattle.policy_pick.specs.Plan.{ByPoints}
use Rattle.worker_run.proofs.laws.WholeRuns.{run-played}
use Rattle.failure_rank.specs.declared.group.Group.{Group}
use Rattle.report_text.specs.Report.{IsTellable}
use Rattle.report_text.specs.declared.frame.Frame.{Frame}
use Rattle.report_text.specs.declared.swept.SweptGroup.{SweptGroup}
use Rattle.sweep.specs.Choices.{choice_count}
use Rattle.sweep.specs.Rows.{SweepSetup, choices_of}
use Rattle.sweep.specs.Swept.{IsSweep, IsFailure, RunsTo}
use Rattle.sweep.specs.declared.choice.Choice.{Choice}
use Rattle.sweep.specs.declared.sweeping.Swept.{Swept}
use Rattle.sweep.proofs.Laws.{sweeps_counted, listed-choice, length-choices}
use Rattle.pct_top.specs.commands.Campaign.{frame_of}
use Rattle.pct_top.specs.commands.Sweep.{swept_setup, told_as, told_group, AreGroupsTold}
use Rattle.pct_top.proofs.KnownRuns.{known-run}

-- the first choice of a group is one of all
first-listed : (setup : SweepSetup) (group : Group) → IsFailure setup group
    → group.first < choice_count setup.deal.threads setup.steps setup.many
first-listed setup group is =
    let first = is.first in
    omega (
      arith,
      slice_get_within (choices_of setup) group.first first.0 first.2,
      length-choices setup.deal.threads setup.steps setup.many,
    )

pub first-choices : (setup : SweepSetup) (swept : Swept) → IsSweep setup swept
    → All (λ group. group.first < choice_count setup.deal.threads setup.steps setup.many)
    swept.groups
first-choices setup swept is =
    All-weaker (IsFailure setup)
    (λ group. group.first < choice_count setup.deal.threads setup.steps setup.many)
    (first-listed setup) swept.groups (sweeps_counted setup swept is).each

module _ (script : ScriptText) (deal : Deal) (sound : IsScript script) (of : IsDealOf script deal)
    (depth steps limit : ℕ) where
  abbrev setup : SweepSetup
  setup = swept_setup script deal depth steps limit

  abbrev frame : Frame
  frame = frame_of deal depth steps limit

  choice-known : (group : Group) (choice : Choice)
      → slice_get (choices_of setup) group.first ≡ Some choice → (many : ℕ)
      → RunsTo setup choice group.verdict many → IsTellable script.names (told_as group choice)
  choice-known group choice at many runs =
      let listed = (listed-choice deal.threads steps setup.many group.first choice at).0 in
      let played = run-played deal setup.bodies choice.order choice.points limit runs.made
      group.verdict (sym listed.whole) runs.is_run in
      let known = known-run script deal sound of (ByPoints choice.order choice.points) limit
      runs.made group.verdict (Ends group.verdict) refl played in
      let long : length choice.order ≡ length script.names.threads = listed.whole ∙ of.threads in
      record {
        ordered = λ place d inside.
            let below = (listed.is_order).below place inside in
            omega (arith, below, get_or_default choice.order place d 0 inside, long);
        verdict = record { named = (known.end).threads; whole = (known.end).whole };
      }

  group-known : (group : Group) (told : SweptGroup) → IsFailure setup group
      → told_group frame group ≡ Some told → IsTellable script.names told
  group-known group told is at =
      let first = is.first in
      let found : Some (told_as group first.0) ≡ Some told =
      sym (ap (option_map (told_as group)) first.2) ∙ at in
      let same : told_as group first.0 ≡ told = cc in
      subst (IsTellable script.names) same (choice-known group first.0 first.2 first.1 first.3)

  all-known : (groups : List Group) (told : List SweptGroup) → All (IsFailure setup) groups
      → AreGroupsTold frame groups told → All (IsTellable script.names) told
  all-known [] [] each are = All-nil (IsTellable script.names)
  all-known [] (t ∷ told) each are = absurd cc
  all-known (group ∷ groups) [] each are = absurd cc
  all-known (group ∷ groups) (t ∷ told) each are =
      let here : told_group frame group ≡ Some t = cc in
      let rest : AreGroupsTold frame groups told = cc in
      All-cons (IsTellable script.names) t told
      (group-known group t (All-head (IsFailure setup) group groups each) here)
      (all-known groups told (All-tail (IsFailure setup) group groups each) rest)

  pub told-known : (swept : Swept) (told : List SweptGroup) → IsSweep setup swept
      → AreGroupsTold frame swept.groups told → All (IsTellable script.names) told
  told-known swept told is are =
      all-known swept.groups told (sweeps_counted setup swept is).each are
