use Rattle.std.proofs.Common.{◌<◌, length, get_or, arith}
use Rattle.std.proofs.lemmas.Option.{slice_get-get_or}
use Rattle.turn_lock.specs.Calls.{first_book}
use Rattle.worker_run.proofs.Eachs.{get-within}
use Rattle.worker_run.proofs.many.most_threads.Goals as goal

pub loop-index-preserved : goal.loop-index-preserved
loop-index-preserved g c =
    let k = c.loop-index.index in
    let shares = c.args.shares.now in
    let share = get_or shares k c.index-shares-index.result in
    let found = get-within c.args.running.now k c.loop-index-test.true in
    let within : k < length shares = omega
    (arith, c.loop-index-test.true, c.requires.shares.long) in
    let at = slice_get-get_or shares k c.index-shares-index.result within in
    let long = (c.requires.shares.each k found.0 share found.1 at).long in
    let few = (first_book found.0.lock.now).deal.few_threads in
    let most = c.loop-index.invariant in
    omega (arith, c.max-most.ensures, c.len.ensures, share.runners.ok.0, long)
