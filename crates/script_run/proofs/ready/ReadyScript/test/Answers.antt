-- The bodies are those of some script's code, with a copy of its deal.
use Rattle.std.proofs.Common.{sym, subst}
use Rattle.pct_ask.specs.declared.Deal.{Deal}
use Rattle.policy_pick.specs.Plan.{SpeaksOf}
use Rattle.script_code.specs.Listing.{listing}
use Rattle.script_body.specs.BodyPosts.{pending_of_body}
use Rattle.script_run.specs.Ready.{bodies_of_code}
use Rattle.script_run.proofs.Codes.{one-for-each, in-range}
use Rattle.script_run.proofs.Runs.{tried}
use Rattle.script_run.proofs.ready.ReadyScript.test.Goals as goal

pub returns-clause-asked : goal.returns-clause-asked
returns-clause-asked g c =
    let ready = c.args.self.now in
    let code = listing ready.code.now in
    let bodies = c.in_ok-bodies.bodies.items in
    let own = c.in_ok-deal.deal in
    let posts = c.in_ok-bodies.ensures.code in
    record {
      stands = c.requires.stands;
      speaks = subst (λ (d : Deal). SpeaksOf (g.P.Policy.plan c.args.policy) d.threads)
          (sym c.in_ok-deal.ensures) c.requires.speaks;
      bodies = one-for-each pending_of_body bodies code ready.deal.now own ready.script
          c.in_ok-deal.ensures posts;
      in_range = in-range pending_of_body bodies code ready.deal.now own ready.script
          c.in_ok-deal.ensures posts;
    }

pub returns-clause-run : goal.returns-clause-run
returns-clause-run g c = λ played ran.
    let ready = c.args.self.now in
    tried (g.P.Policy.plan c.args.policy) ready.deal.now c.in_ok-deal.deal
    (bodies_of_code (listing ready.code.now)) c.in_ok-bodies.bodies.items c.args.limit played
    c.in_ok-deal.ensures c.in_ok-bodies.ensures.code ran
