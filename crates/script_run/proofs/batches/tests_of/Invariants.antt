use Rattle.std.proofs.Common.{◌≡◌, ◌+◌, vec_len}
use Rattle.std.specs.Prelude.{vec_capacity}
use Rattle.script_body.specs.BodyPosts.{pending_of_body}
use Rattle.worker_run.specs.Tests.{AreTests}
use Rattle.script_run.specs.Tests.{Tries}
use Rattle.script_run.specs.Batches.{FromPlace}
use Rattle.script_run.proofs.batches.tests_of.Given as goal

-- the tests so far are those before the place, and there is room for the others
abbrev pub invariant-loop-place : goal.invariant-loop-place
invariant-loop-place g l =
    let plan = g.T.Policy.Policy.plan in
    record {
      long : l.start + vec_len l.tests ≡ l.place;
      room : l.start + vec_capacity l.tests ≡ l.end;
      asked : AreTests pending_of_body plan g.T.Policy.Policy.stands l.tests.items;
      tests : FromPlace (λ place. Tries pending_of_body plan (g.T.Batch.is_run l.batch place))
          l.start
          l.tests.items;
    }
