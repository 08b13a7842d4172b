-- The row of the next seed, by its run.
use Rattle.std.proofs.Common.{◌≡◌, length, refl, sym, ap, subst, ◌∙◌, arith}
use Rattle.pct_ask.specs.declared.event.Row.{Row}
use Rattle.worker_run.specs.declared.played.Played.{Played}
use Rattle.campaign.specs.Rows.{seed_at}
use Rattle.campaign.specs.Batches.{setup_of_campaign, IsSeedRun}
use Rattle.campaign.proofs.Rows.{next-row}
use Rattle.campaign.proofs.Runs.{run-row}
use Rattle.campaign.proofs.batches.CampaignBatch.take.Goals as goal

pub verdict_of-requires : goal.verdict_of-requires
verdict_of-requires c = let run = (c.requires.run).run in (run.verdict, run.ends)

pub returns : goal.returns
returns c =
    let campaign = c.args.self.now in
    let setup = setup_of_campaign campaign in
    let played : Played = record { events = c.args.events.now; outcome = c.args.outcome.now } in
    let rows = c.args.rows.now in
    let before = c.requires.stands in
    let pushed = c.push_reserved.ensures in
    let seed = c.seed_at.result in
    let row : Row = record {
      seed = seed;
      steps = c.count_steps.result;
      verdict = c.verdict_of.result;
    } in
    let is = subst (λ s. IsSeedRun setup s played) (sym c.seed_at.ensures)
    c.requires.run in
    let here : seed ≡ seed_at campaign.first (length rows.items) =
    c.seed_at.ensures ∙ ap (seed_at campaign.first) (sym before.long) in
    record {
      long = omega (arith, pushed.len, before.long);
      room = pushed.capacity ∙ before.room;
      are = next-row setup campaign.first seed rows.items c.push_reserved.new.self.items row here
          before.are pushed.items
          (run-row setup seed played row is refl c.count_steps.ensures c.verdict_of.ensures);
    }
