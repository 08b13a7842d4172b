use Rattle.std.proofs.Common.{◌≡◌, ℕ, List, length, sym, subst, arith}
use Rattle.worker_run.specs.Batch.{Each}
use Rattle.worker_run.specs.Batches.{AreShares, AreEmptyLists}
use Rattle.worker_run.specs.declared.batch.RunningTest.{RunningTest}
use Rattle.worker_run.specs.declared.batch.Share.{Share}
use Rattle.worker_run.proofs.Ends.{test-shares, test-seats, test-told}
use Rattle.worker_run.proofs.many.play_tests.Goals as goal

pub most_threads-most-requires-clause-shares : goal.most_threads-most-requires-clause-shares
most_threads-most-requires-clause-shares g c = λ κs lives.
    let running = c.in_ok-running.running.items in
    let on = c.in_ok-running.ensures in
    let Y : List (Share g.row.P.Denot g.row.B.Denot g.P.Policy) → Type 0 =
    λ l. Each (λ share test. (test.runners).value ≡ share.runners) l running in
    let A : List (RunningTest g.row.P.Denot g.row.B.Denot)
    × List (Share g.row.P.Denot g.row.B.Denot g.P.Policy) → Type 0 =
    λ p. AreShares g.B.Body.pending p.0 p.1 in
    subst A (λ j. (sym c.as_slice-2.ensures.value j, sym c.as_slice-3.ensures.value j))
    (test-shares g.B.Body.pending g.P.Policy.plan g.P.Policy.stands c.args.tests.now.value.items
    c.args.locks.now c.args.shares.items running
    c.requires.tests c.requires.locks c.requires.shares c.requires.of on.locks
    (subst Y c.as_slice.ensures.value on.shares))

pub serve_tests-requires-clause-shares : goal.serve_tests-requires-clause-shares
serve_tests-requires-clause-shares g c = λ κs lives.
    let running = c.in_ok-running.running.items in
    let on = c.in_ok-running.ensures in
    let Y : List (Share g.row.P.Denot g.row.B.Denot g.P.Policy) → Type 0 =
    λ l. Each (λ share test. (test.runners).value ≡ share.runners) l running in
    test-shares g.B.Body.pending g.P.Policy.plan g.P.Policy.stands c.args.tests.now.value.items
    c.args.locks.now c.args.shares.items running
    c.requires.tests c.requires.locks c.requires.shares c.requires.of on.locks
    (subst Y c.as_slice.ensures.value on.shares)

pub returns-clause-seats : goal.returns-clause-seats
returns-clause-seats g c =
    let running = c.in_ok-running.running.items in
    let on = c.in_ok-running.ensures in
    let Y : List (Share g.row.P.Denot g.row.B.Denot g.P.Policy) → Type 0 =
    λ l. Each (λ share test. (test.runners).value ≡ share.runners) l running in
    test-seats g.B.Body.pending g.P.Policy.plan g.P.Policy.stands c.args.tests.now.value.items
    c.args.locks.now c.args.shares.items running
    c.requires.tests c.requires.locks c.requires.shares c.requires.of on.locks
    (subst Y c.as_slice.ensures.value on.shares)
    c.serve_tests.result.items c.serve_tests.ensures.seats c.serve_tests.ensures.told

pub returns-clause-told : goal.returns-clause-told
returns-clause-told g c =
    let running = c.in_ok-running.running.items in
    let on = c.in_ok-running.ensures in
    let Y : List (Share g.row.P.Denot g.row.B.Denot g.P.Policy) → Type 0 =
    λ l. Each (λ share test. (test.runners).value ≡ share.runners) l running in
    test-told g.B.Body.pending g.P.Policy.plan g.P.Policy.stands c.args.tests.now.value.items
    c.args.locks.now c.args.shares.items running
    c.requires.tests c.requires.locks c.requires.shares c.requires.of on.locks
    (subst Y c.as_slice.ensures.value on.shares)
    c.serve_tests.result.items c.serve_tests.ensures.seats c.serve_tests.ensures.told

pub serve_tests-requires-clause-empty : goal.serve_tests-requires-clause-empty
serve_tests-requires-clause-empty g c = λ κs lives.
    let R : ℕ → Type 0 = λ n. AreEmptyLists n c.in_ok-lists.lists.items in
    let long : c.len.result ≡ length c.in_ok-running.running.items =
    omega (arith, c.len.ensures, c.in_ok-running.running.ok.0) in
    subst R long c.in_ok-lists.ensures.empty
