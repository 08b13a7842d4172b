use Rattle.std.proofs.Common.{◌≡◌, ◌∙◌, ap, ℕ, length, get_or, arith}
use Rattle.std.proofs.lemmas.List.{length-replicate}
use Rattle.std.proofs.lemmas.List.Elements.{All-get_or, All-set}
use Rattle.std.proofs.lemmas.Grind.{common_steps}
use Rattle.sync_store.specs.Store.{RwLockState, new_rwlock}
use Rattle.sync_store.proofs.rwlocks.ReadWriteLock.restart_all.Goals as goal

pub loop-rwlock-preserved : goal.loop-rwlock-preserved
loop-rwlock-preserved c threads each =
    let was = c.loop-rwlock.invariant threads each in
    let place = c.loop-rwlock.rwlock-index in
    let rwlocks = c.loop-rwlock.rwlocks in
    let Counts : RwLockState → Type 0 = λ rwlock. length rwlock.reads ≡ threads in
    let counts : Counts (get_or rwlocks place c.rwlock-item.result) =
    All-get_or Counts rwlocks place c.rwlock-item.result (omega arith) was.0 in
    let fresh : c.restart.new.self ≡ new_rwlock threads =
    c.restart.ensures ∙ ap new_rwlock counts in
    let none : ℕ = 0 in
    let fits : Counts c.restart.new.self =
    ap (λ (l : RwLockState). length l.reads) fresh ∙ length-replicate threads none in
    let first = was.1 in
    (All-set Counts rwlocks place c.restart.new.self fits was.0, grind (arith, common_steps))
