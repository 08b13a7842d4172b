-- A row more for each seed.
use Rattle.std.proofs.Common.{◌≡◌, ◌+◌, ℕ, List, sym, subst, ◌∙◌, arith}
use Rattle.pct_ask.specs.declared.event.Row.{Row}
use Rattle.kit_runs.specs.Rows.{AreRowsOf, IsRowOf}
use Rattle.kit_runs.proofs.Rows.{no-rows, one-more}
use Rattle.kit_runs.proofs.campaigning.campaign.Goals as goal

pub loop-place-init : goal.loop-place-init
loop-place-init g c = record {
  rows = subst (AreRowsOf c.args.deal.now c.args.seeds.now 0) (sym c.in_ok-rows.ensures.items)
      (no-rows c.args.deal.now c.args.seeds.now);
  long = omega (arith, c.in_ok-rows.ensures.len);
  room = omega (arith, c.in_ok-rows.ensures.exact);
}

pub loop-place-preserved : goal.loop-place-preserved
loop-place-preserved g c =
    let at = c.loop-place in
    let deal = c.args.deal.now in
    let seeds = c.args.seeds.now in
    let row = c.in_ok-row.row in
    let is = subst (λ s. IsRowOf deal seeds s row) c.at.ensures c.in_ok-row.ensures in
    record {
      rows = subst (AreRowsOf deal seeds (at.place + 1)) (sym c.push_reserved.ensures.items)
          (one-more deal seeds at.rows.items at.place row at.invariant.rows is);
      long = omega (arith, c.push_reserved.ensures.len, at.invariant.long);
      room = c.push_reserved.ensures.capacity ∙ at.invariant.room;
    }

pub returns-clause-rows : goal.returns-clause-rows
returns-clause-rows g c =
    let at = c.loop-place in
    let done : at.place ≡ c.args.seeds.now.count =
    omega (arith, c.loop-place-test.false, at.auto.place-end) in
    let P : ℕ × List Row → Type 0 = λ x. AreRowsOf c.args.deal.now c.args.seeds.now x.0 x.1 in
    subst P (λ i. (done i, sym c.from_vec-rows.ensures i)) at.invariant.rows
