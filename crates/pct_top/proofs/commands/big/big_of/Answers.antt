use Rattle.std.proofs.Common.{◌≡◌, ℕ, List, Bool, None, Some, map, ap, sym, subst, ◌∙◌, arith}
use Rattle.std.specs.List.{flat_map}
use Rattle.pct_ask.specs.TraceText.{line_text}
use Rattle.pct_ask.specs.declared.event.Row.{Row}
use Rattle.script_tree.specs.ScriptSeen.{plain_script}
use Rattle.campaign.specs.Rows.{rows_of}
use Rattle.campaign.proofs.laws.OneCampaign.{length-rows}
use Rattle.failure_rank.specs.declared.group.Group.{Group}
use Rattle.pct_top.specs.Printed.{printed_text}
use Rattle.pct_top.specs.commands.Campaign.{setup_of, all_pass}
use Rattle.pct_top.specs.commands.Big.{big_lines, script_lines, printed_counts}
use Rattle.pct_top.specs.Runs.{DrawsFrom}
use Rattle.pct_top.proofs.commands.big.big_of.Goals as goal

-- the counts are those of these lines, rows and groups
told_as : (written : List ℕ) (done : Bool) (pieces lines k : ℕ) (rows others : List Row)
    (groups more : List Group) → written ≡ flat_map line_text (big_lines lines k others more)
    → done ≡ all_pass others → lines ≡ script_lines pieces → others ≡ rows → more ≡ groups
    → printed_text written done ≡ printed_counts pieces k rows groups
told_as written done pieces lines k rows others groups more are passes counted same alike =
    ap (λ w. printed_text w done) are ∙ ap
    (printed_text (flat_map line_text (big_lines lines k others more)))
    passes
    ∙ ap (λ n. printed_text (flat_map line_text (big_lines n k others more)) (all_pass others))
    counted
    ∙ ap (λ rs. printed_text (flat_map line_text (big_lines (script_lines pieces) k rs more))
    (all_pass rs))
    same
    ∙ ap (printed_counts pieces k rows) alike

pub rank-requires : goal.rank-requires
rank-requires g c =
    let script = plain_script c.args.test.now.script in
    omega (
      arith,
      length-rows (setup_of script c.args.test.now.deal c.new-depth.result c.in_ok-steps.steps
          c.new-limit.result) 1 20 c.in_ok-rows.rows
          (c.in_ok-rows.ensures script c.args.test.now.is_ready),
    )

pub returns : goal.returns
returns g c =
    let test = c.args.test.now in
    let script = plain_script test.script in
    let steps = c.in_ok-steps.steps in
    let rows = c.in_ok-rows.rows in
    let groups = c.in_ok-groups.groups in
    let Are : ℕ → ℕ → Type 0 = λ depth limit. map Some rows
    ≡ rows_of (setup_of script test.deal depth steps limit) 1 20 in (
      steps,
      subst (λ l. DrawsFrom script test.deal l None steps) c.new-limit.ensures
          c.in_ok-steps.ensures,
      (
        rows,
        groups,
        record {
          are = subst (Are 3) c.new-limit.ensures (subst (λ depth. Are depth c.new-limit.result)
              c.new-depth.ensures (c.in_ok-rows.ensures script test.is_ready));
          ranked = c.in_ok-groups.ensures.ranking;
        },
        told_as c.in_ok-text.text.items c.all_pass-done.result c.args.pieces
            c.line_count-lines.result steps rows c.as_slice.result.now groups
            c.as_slice-2.result.now
            (c.in_ok-text.ensures ∙ ap (λ (k : ℕ). flat_map line_text (big_lines
            c.line_count-lines.result k c.as_slice.result.now c.as_slice-2.result.now))
            c.steps.ensures.number) (c.all_pass-done.ensures
            ∙ ap all_pass (c.as_slice-3.ensures ∙ sym c.as_slice.ensures))
            c.line_count-lines.ensures c.as_slice.ensures c.as_slice-2.ensures,
      ),
    )
