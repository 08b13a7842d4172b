use Rattle.std.proofs.Common.{List, length, rules, sym, ap, subst, arith}
use mir.Syntax.{named}
use denote.Exit.{no}
use denote.Ref.{NamedLft}
use denote.Param.{param}
use denote.Param.Send.{IsSend, IsSync, sendable, param_send, param_sync, arg_send, shr_send}
use Rattle.std.proofs.Crossing.{crosses, Vec-send, Vec-sync}
use Rattle.std.specs.contracts.vec.Vec as vec
use Rattle.std.specs.contracts.alloc.Global as heap
use Rattle.std.specs.contracts.impls.GlobalAllocator.TheImpl.{ghosts}
use Rattle.worker_run.specs.contracts.batch.RunningTest as test
use Rattle.worker_run.specs.contracts.batch.Task as task
use Rattle.std.proofs.lemmas.Option.{slice_get_within}
use Rattle.worker_run.specs.Batches.{AreBack, AreSeats, Holds}
use Rattle.worker_run.specs.Batches.{ToldAt}
use Rattle.worker_run.specs.declared.batch.RunningTest.{RunningTest}
use Rattle.worker_run.specs.declared.batch.Share.{Share}
use Rattle.worker_run.proofs.Crossing.{test-sync, task-send, captures-send}
use Rattle.worker_run.proofs.Backs.{back-tasks, back-all-there}
use Rattle.worker_run.proofs.Ends.{written}
use Rattle.worker_run.proofs.Joins.{told-last, told-joined, beside-same}
use Rattle.worker_run.proofs.workers.+workers.Lts-fn-start_worker-scope as scope
use Rattle.worker_run.proofs.workers.+workers.Goals as goal

pub start_worker-scope-start-requires-send-F
    : goal.start_worker-scope-start-requires-send-F
start_worker-scope-start-requires-send-F g t c = λ κs lives.
    let P = param 1 g.row.P in
    let B = param 2 g.row.B in
    let policy : IsSend P = search (rules, sendable) in
    let body : IsSend B = search (rules, sendable) in
    let handle : IsSync (param 0 g.row.R) = param_sync 0 g.row.R (search rules) in
    let gate : IsSync (param 3 g.row.G) = param_sync 3 g.row.G (search rules) in
    let rt_lft : NamedLft = record { mir = named 6; lft = κs.1.1.1.1.1.1.0 } in
    let tests_lft : NamedLft = record { mir = named 7; lft = κs.1.1.1.1.1.1.1.0 } in
    let lock_lft : NamedLft = record { mir = named 8; lft = κs.1.1.1.1.1.1.1.1.0 } in
    let goes_lft : NamedLft = record { mir = named 9; lft = κs.1.1.1.1.1.1.1.1.1.0 } in
    let gate_lft : NamedLft = record { mir = named 10; lft = κs.1.1.1.1.1.1.1.1.1.1.0 } in
    let tests : IsSync (vec.the_row (test.the_row lock_lft P B g.P.Policy) heap.the_row ghosts) =
    Vec-sync _ (test-sync P B g.P.Policy policy body lock_lft) in
    let tasks : IsSend (vec.the_row (task.the_row P B g.P.Policy) heap.the_row ghosts) =
    Vec-send _ (task-send P B g.P.Policy policy body) in
    param_send 2 (scope.arg-1-2 g.row.R g.row.P g.row.B g.row.G g.R.laws g.P.laws g.B.laws g.G.laws
    g.R.Threads g.R.Threads-dict g.R.Wait g.R.Wait-dict g.P.Policy g.P.Policy-dict g.B.Body
    g.B.Body-dict g.G.Gate g.G.Gate-dict g.P.Destruct-dict g.B.Destruct-dict κs)
    (arg_send _ no
    (scope.of-22 g.row.R g.row.P g.row.B g.row.G g.R.laws g.P.laws g.B.laws g.G.laws g.R.Threads
    g.R.Threads-dict g.R.Wait g.R.Wait-dict g.P.Policy g.P.Policy-dict g.B.Body g.B.Body-dict
    g.G.Gate g.G.Gate-dict g.P.Destruct-dict g.B.Destruct-dict rt_lft tests_lft lock_lft
    goes_lft gate_lft)
    (captures-send _
    (scope.of-20 g.row.R g.row.P g.row.B g.row.G g.R.laws g.P.laws g.B.laws g.G.laws g.R.Threads
    g.R.Threads-dict g.R.Wait g.R.Wait-dict g.P.Policy g.P.Policy-dict g.B.Body g.B.Body-dict
    g.G.Gate g.G.Gate-dict g.P.Destruct-dict g.B.Destruct-dict rt_lft tests_lft lock_lft
    goes_lft gate_lft) (
      shr_send rt_lft.mir rt_lft.lft (param 0 g.row.R) handle,
      (
        search (sendable, crosses, tests) depth 40,
        (
          search (sendable, crosses) depth 40,
          (
            tasks,
            (
              search (sendable, crosses) depth 40,
              (shr_send gate_lft.mir gate_lft.lft (param 3 g.row.G) gate, tt),
            ),
          ),
        ),
      ),
    )))

pub start_worker-scope-go_on-requires-clause-tasks :
    goal.start_worker-scope-go_on-requires-clause-tasks
start_worker-scope-go_on-requires-clause-tasks g t c = λ κs lives.
    let f = g.B.Body.pending in
    let back : AreBack f c.captures.thread c.captures.tasks.items c.join.result.items =
    search rules in
    back-tasks f c.captures.thread c.captures.tests.now.items c.captures.tasks.items
    c.join.result.items c.requires.3 back

pub start_worker-scope-go_without-requires-clause-tasks :
    goal.start_worker-scope-go_without-requires-clause-tasks
start_worker-scope-go_without-requires-clause-tasks g t c = λ κs lives.
    let f = g.B.Body.pending in
    let back : AreBack f c.captures.thread c.captures.tasks.items c.work.result.items =
    search rules in
    back-tasks f c.captures.thread c.captures.tests.now.items c.captures.tasks.items
    c.work.result.items c.requires.3 back

pub start_worker-scope-returns-in-Ok : goal.start_worker-scope-returns-in-Ok
start_worker-scope-returns-in-Ok g t c =
    let f = g.B.Body.pending in
    let u = c.captures.thread in
    let tasks = c.captures.tasks.items in
    let back : AreBack f u tasks c.join.result.items = search rules in
    told-joined f c.captures.tests.now.items c.captures.shares.items c.captures.lists.items u tasks
    c.join.result.items
    c.start_workers-shares.result.items c.go_on.result.items
    (back-all-there f u tasks c.join.result.items back)
    c.start_workers-shares.ensures c.go_on.ensures.seats c.go_on.ensures.kept c.go_on.ensures.joined

pub start_worker-scope-returns-in-Err : goal.start_worker-scope-returns-in-Err
start_worker-scope-returns-in-Err g t c =
    let f = g.B.Body.pending in
    let u = c.captures.thread in
    let tasks = c.captures.tasks.items in
    let back : AreBack f u tasks c.work.result.items = search rules in
    beside-same f c.captures.tests.now.items c.captures.shares.items c.captures.lists.items u tasks
    c.work.result.items
    c.go_without.result.items (back-all-there f u tasks c.work.result.items back)
    c.go_without.ensures

pub start_workers-returns-in-None : goal.start_workers-returns-in-None
start_workers-returns-in-None g t c =
    let f = g.B.Body.pending in
    let new = c.serve_shares.new.shares in
    let w = written c.args.shares.len new c.args.shares.items
    (omega (
      arith,
      c.serve_shares.ensures.seats.long,
      ap length c.as_slice.ensures.value,
      c.requires.shares.long,
      c.args.shares.ok.0,
    )) in
    let S : List (RunningTest g.row.P.Denot g.row.B.Denot)
    × List (Share g.row.P.Denot g.row.B.Denot g.P.Policy) → Type 0 = λ p. AreSeats p.0 p.1 in
    record {
      seats = subst S (λ j. (c.as_slice.ensures.value j, sym w j)) c.serve_shares.ensures.seats;
      held = λ i u h.
          let T : List (RunningTest g.row.P.Denot g.row.B.Denot)
          × List (Share g.row.P.Denot g.row.B.Denot g.P.Policy) → Type 0 =
          λ p. ToldAt f p.0 p.1 i u in
          let H : List (Share g.row.P.Denot g.row.B.Denot g.P.Policy) → Type 0 = λ l. Holds l i u in
          subst T (λ j. (c.as_slice.ensures.value j, sym w j))
          (c.serve_shares.ensures.told i u (subst H (sym c.as_mut_slice.ensures.value) h));
      listed =
          λ i u p. absurd (let under = slice_get_within c.args.lists.items u p.tasks p.at in
          omega (arith, under, c.in-None.ensures.cases.0, c.args.lists.ok.0));
    }

pub start_workers-returns-in-Some : goal.start_workers-returns-in-Some
start_workers-returns-in-Some g t c =
    told-last g.B.Body.pending c.args.tests.now.items c.args.shares.items c.pop.new.self.items
    c.in-Some.tasks c.args.lists.items c.start_worker.result.items _
    (omega (arith, c.len-thread.ensures, c.pop.new.self.ok.0)) c.in-Some.ensures.items
    c.start_worker.ensures
