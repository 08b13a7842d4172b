-- The batches come one after another, until all runs are taken or one comes to an answer.
use Rattle.std.proofs.Common.{◌≡◌, ℕ, ◌+◌, ◌-◌, ◌*◌, ◌≤◌, min, subst, arith}
use Rattle.std.proofs.Math.Nat.{le-min, min-le_left, min-le_right}
use Rattle.script_run.proofs.Laws.{decided, undecided}
use Rattle.script_run.proofs.batches.run_batches.Goals as goal

pub batches-init : goal.batches-init
batches-init g c =
    let most : ℕ = 64 in
    let first = c.args.first in
    let size : c.min-first.result ≡ min most first = c.min-first.ensures in
    let some : 1 ≤ min most first = le-min (omega arith) c.requires.some in
    record {
      within = omega arith;
      some = omega (arith, size, some);
      few = omega (arith, size, min-le_left most first);
      stands = c.requires.stands;
    }

pub batches-preserved : goal.batches-preserved
batches-preserved g c =
    let batch = c.args.batch.now in
    let at = c.batches.invariant in
    let left = c.args.total - c.batches.start in
    let most : ℕ = 64 in
    let twice = 2 * c.batches.size in
    let step : c.min.result ≡ min c.batches.size left = c.min.ensures in
    let next : c.min-size.result ≡ min most twice = c.min-size.ensures in
    let double : 1 ≤ twice = omega (arith, at.some) in
    let some : 1 ≤ min most twice = le-min (omega arith) double in
    record {
      within = omega (arith, at.within, step, min-le_right c.batches.size left);
      some = omega (arith, next, some);
      few = omega (arith, next, min-le_left most twice);
      stands = undecided (g.T.Batch.stands batch) (g.T.Batch.answers batch) c.run_batch.new.kept
          (c.batches.start + c.min.result) c.in_ok-answer.field-0 c.in_ok-answer.ensures
          c.in_default.is;
    }

pub returns-in-Some : goal.returns-in-Some
returns-in-Some g c =
    let batch = c.args.batch.now in
    decided (g.T.Batch.stands batch) (g.T.Batch.answers batch) c.run_batch.new.kept
    (c.batches.start + c.min.result) c.in_ok-answer.field-0 c.in_ok-answer.ensures
    c.in-Some.answer c.in-Some.is

pub returns : goal.returns
returns g c =
    let at = c.batches.invariant in
    let all : c.batches.start ≡ c.args.total = omega (arith, at.within, c.batches-test.false) in
    subst (g.T.Batch.stands c.args.batch.now c.batches.kept) all at.stands
