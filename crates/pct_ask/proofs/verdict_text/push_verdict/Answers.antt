-- The pieces of a list of blocked threads are its text.
use Rattle.pct_ask.proofs.PieceLemmas.{stuck-written}
use Rattle.pct_ask.proofs.verdict_text.push_verdict.Goals as goal

pub returns-in-Stuck-clause-written : goal.returns-in-Stuck-clause-written
returns-in-Stuck-clause-written c =
    stuck-written c.args.names.now c.args.verdict.now c.in-Stuck.blocked c.args.out.now.items
    c.push_stuck.new.out.items c.push_stuck.result c.in-Stuck.is c.push_stuck.ensures.written
