-- The head of the trace is that of the plan.
use Rattle.std.proofs.Common.{◌≡◌, ℕ, Bool, true, false, length, nat_le, sym, ap, ◌∙◌, inl, inr}
use Rattle.std.specs.Prelude.{◌⊎◌, if◌then◌else◌}
use Rattle.pct_ask.specs.NameLists.{NameLists}
use Rattle.rank_now.proofs.laws.KnownOrders.{known_order}
use Rattle.script_tree.specs.ScriptSeen.{plain_script}
use Rattle.pct_top.proofs.traces.told_trace.Goals as goal

one-or-two : (newer : Bool) (version : ℕ) → version ≡ (if newer then 2 else 1)
    → (version ≡ 1) ⊎ (version ≡ 2)
one-or-two true version is = inr is
one-or-two false version is = inl is

pub write_trace-requires-clause-head : goal.write_trace-requires-clause-head
write_trace-requires-clause-head c =
    let plan = c.args.plan in
    record {
      version = one-or-two (nat_le 3 (plain_script c.args.script.now).version)
          c.trace_version.result c.trace_version.ensures;
      order = known_order plan.order plan.is_order;
      whole = c.requires.whole ∙ ap (λ (n : NameLists). length n.threads) (sym c.names.ensures);
      few_points = plan.points_fit.0;
      points = plan.points_fit.1;
      limit = c.steps.ensures.fits;
    }
