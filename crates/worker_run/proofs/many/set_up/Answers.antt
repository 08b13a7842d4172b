use Rattle.worker_run.proofs.many.set_up.Goals as goal

pub returns-clause-share : goal.returns-clause-share
returns-clause-share g c = record {
  view_is = c.in_ok-lock.ensures.view;
  runners_are = c.in_ok-runners.ensures;
}
