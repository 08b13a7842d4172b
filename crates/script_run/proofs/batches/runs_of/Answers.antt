-- The runs of the places' tests are the places' runs.
use Rattle.script_body.specs.BodyPosts.{pending_of_body}
use Rattle.script_run.proofs.Places.{all-ran, as-many}
use Rattle.script_run.proofs.batches.runs_of.Goals as goal

pub returns-clause-long : goal.returns-clause-long
returns-clause-long g c =
    as-many pending_of_body g.T.Policy.Policy.plan (g.T.Batch.is_run c.args.batch.now)
    c.args.start c.args.end c.in_ok-tests.tests.items c.run_many_by.result
    c.in_ok-tests.ensures.long
    c.run_many_by.ensures.runs

pub returns-clause-runs : goal.returns-clause-runs
returns-clause-runs g c =
    all-ran pending_of_body g.T.Policy.Policy.plan (g.T.Batch.is_run c.args.batch.now)
    c.args.start c.in_ok-tests.tests.items c.run_many_by.result c.in_ok-tests.ensures.tests
    c.run_many_by.ensures.runs
