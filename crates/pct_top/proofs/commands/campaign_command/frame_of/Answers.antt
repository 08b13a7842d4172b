use Rattle.pct_top.proofs.commands.campaign_command.frame_of.Goals as goal

pub returns-clause-made : goal.returns-clause-made
returns-clause-made c = λ i. record {
  threads = c.args.test.now.deal.threads;
  steps = c.steps.ensures.number i;
  depth = c.number.ensures.number i;
  limit = c.steps-2.ensures.number i;
}
