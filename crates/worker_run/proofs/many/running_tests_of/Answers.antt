use Rattle.std.proofs.Common.{◌≡◌, ◌<◌, ◌+◌, List, length, get_or, refl, sym, ap, subst, ◌∙◌, arith}
use Rattle.std.specs.Prelude.{slice_get}
use Rattle.std.proofs.lemmas.Option.{slice_get-get_or, slice_get_read}
use Rattle.worker_run.specs.declared.batch.RunningTest.{RunningTest}
use Rattle.worker_run.proofs.Loops.{Along, along-none, along-more}
use Rattle.worker_run.proofs.many.running_tests_of.Goals as goal

pub loop-index-init : goal.loop-index-init
loop-index-init g c = record {
  long = c.in_ok-running.ensures.len;
  room = c.in_ok-running.ensures.exact;
  locks = along-none (λ lock test. test.lock.now ≡ lock) c.args.locks.now _
      c.in_ok-running.ensures.items;
  shares = along-none (λ share test. (test.runners).value ≡ share.runners) c.args.shares.now _
      c.in_ok-running.ensures.items;
}

pub loop-index-preserved : goal.loop-index-preserved
loop-index-preserved g c =
    let k = c.loop-index.index in
    let i = c.loop-index.invariant in
    let locks = c.args.locks.now in
    let shares = c.args.shares.now in
    let running = c.loop-index.running.items in
    let lock = c.index-locks-index.result in
    let share = get_or shares k c.index-shares-index.result in
    let under : k < length locks = c.loop-index-test.true in
    let within : k < length shares = omega (arith, under, c.requires) in
    let at_lock = slice_get_read locks (length locks) k lock refl under c.index-locks-index.is in
    let at_share = slice_get-get_or shares k c.index-shares-index.result within in
    let long : k ≡ length running = omega (arith, i.long, c.loop-index.running.ok.0) in
    let more = sym c.push_reserved.ensures.items in
    let L : List (RunningTest g.row.P.Denot g.row.B.Denot) → Type 0 =
    λ l. Along (λ lock test. test.lock.now ≡ lock) locks l in
    let C : List (RunningTest g.row.P.Denot g.row.B.Denot) → Type 0 =
    λ l. Along (λ share test. (test.runners).value ≡ share.runners) shares l in
    record {
      long = c.push_reserved.ensures.len ∙ ap (λ n. n + 1) i.long;
      room = c.push_reserved.ensures.capacity ∙ i.room;
      locks = subst L more
          (along-more (λ lock test. test.lock.now ≡ lock) locks running lock _
          (ap (λ n. slice_get locks n) (sym long) ∙ at_lock) refl i.locks);
      shares = subst C more
          (along-more (λ share test. (test.runners).value ≡ share.runners) shares running share _
          (ap (λ n. slice_get shares n) (sym long) ∙ at_share) c.of-runners.ensures i.shares);
    }
