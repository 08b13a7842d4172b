-- The rows of all seeds.
use Rattle.std.proofs.Common.{◌≡◌, List, Some, length, map, ap, ◌∙◌}
use Rattle.std.proofs.Common.{arith}
use Rattle.pct_ask.specs.Bodies.{Pending}
use Rattle.script_code.specs.Listing.{listing}
use Rattle.script_body.proofs.laws.ScriptBodies.{code_bodies}
use Rattle.script_run.specs.Ready.{bodies_of_code}
use Rattle.campaign.specs.Rows.{CampaignSetup, rows_of}
use Rattle.campaign.proofs.Rows.{no-rows, goes-on}
use Rattle.campaign.proofs.seeds.campaign_by.Goals as goal

pub run_batches-requires-clause-stands : goal.run_batches-requires-clause-stands
run_batches-requires-clause-stands g c κs lives =
    let setup : CampaignSetup = record {
      deal = c.args.deal.now;
      bodies = bodies_of_code (listing c.args.code.now);
      depth = c.args.depth;
      steps = c.args.steps;
      limit = c.args.limit;
    } in
    record {
      long = ap length c.in_ok-rows.ensures.items;
      room = omega (arith, c.in_ok-rows.ensures.exact);
      are = no-rows setup c.args.first c.in_ok-rows.rows.items c.in_ok-rows.ensures.items;
    }

pub returns : goal.returns
returns g c = λ script of.
    let code = listing c.args.code.now in
    let setup : List Pending → CampaignSetup = λ bodies. record {
      deal = c.args.deal.now;
      bodies = bodies;
      depth = c.args.depth;
      steps = c.args.steps;
      limit = c.args.limit;
    } in
    let first = c.args.first in
    let rows = c.run_batches.new.kept in
    let has = goes-on (setup (bodies_of_code code)) first c.args.count rows c.args.count _
    c.in_ok-run_batches.ensures in
    let long : length rows.items ≡ c.args.count = has.long in
    ap (map Some) c.from_vec.ensures ∙ has.are
    ∙ ap (rows_of (setup (bodies_of_code code)) first) long
    ∙ ap (λ bodies. rows_of (setup bodies) first c.args.count) (code_bodies script code of.is_code)
