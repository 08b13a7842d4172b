use Rattle.replay_run.proofs.laws.OneReplay.{one_replay}
use Rattle.replay_run.proofs.reply.one_reply.Goals as goal

pub returns : goal.returns
returns c = one_replay
