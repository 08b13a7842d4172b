use Rattle.std.proofs.Common.{◌≡◌, ℕ, List, Some, length, max, sym, subst, ap, ◌∙◌}
use Rattle.std.specs.List.{range_with_len}
use Rattle.std.proofs.lemmas.List.FromFn.{length-range_with_len}
use Rattle.rank_now.specs.Order.{IsOrder}
use Rattle.script_tree.specs.ScriptSeen.{plain_script}
use Rattle.worker_run.specs.Run.{Run}
use Rattle.worker_run.proofs.laws.Orders.{declared_is_order}
use Rattle.pct_top.specs.Runs.{run_of}
use Rattle.pct_top.proofs.run_plan.declared_length.Goals as goal

pub invariant_of-plan-clause-is_order : goal.invariant_of-plan-clause-is_order
invariant_of-plan-clause-is_order g c =
    let order = c.from_vec-order.ensures ∙ c.in_ok-declared_order.ensures in
    ∣ subst IsOrder (sym order) (declared_is_order c.args.test.now.deal.threads) ∣₁

pub play-requires : goal.play-requires
play-requires g c =
    let whole = ap length (c.from_vec-order.ensures ∙ c.in_ok-declared_order.ensures)
    ∙ length-range_with_len 0 c.args.test.now.deal.threads in
    (c.type_bounds.sync-R, (c.type_bounds.sync-G, whole))

pub returns : goal.returns
returns g c =
    let test = c.args.test.now in
    let script = plain_script test.script in
    let ended : Run = (c.in_ok-run.run'.events, c.in_ok-run.run'.verdict) in
    let order = c.from_vec-order.ensures ∙ c.in_ok-declared_order.ensures
    ∙ ap (range_with_len 0) (test.is_ready.is_deal).threads in
    let O : List ℕ → Type 0 = λ o.
    run_of script test.deal o c.new-points.result c.args.limit ≡ Some ended in
    let P : List ℕ → Type 0 = λ p.
    run_of script test.deal (range_with_len 0 (length script.names.threads)) p c.args.limit
    ≡ Some ended in (
      ended,
      subst P c.new-points.ensures (subst O order c.in_ok-run.ensures.run),
      c.new.ensures ∙ c.max.ensures ∙ ap (λ n. max n 1) c.len.ensures,
    )
