use Rattle.std.proofs.Common.{◌≡◌, ℕ, All, List, length, sym, subst}
use Rattle.std.proofs.lemmas.List.{length-replicate}
use Rattle.std.proofs.lemmas.List.Elements.{All-append, All-drop, All-replicate, All-take}
use Rattle.sync_store.specs.Store.{RwLockState, new_rwlock}
use Rattle.sync_store.proofs.store.Store.restart.Goals as goal

pub invariant_of-self : goal.invariant_of-self
invariant_of-self c =
    let was = c.self.inside in
    let Counts : RwLockState → Type 0 = λ rwlock. length rwlock.reads ≡ was.threads in
    let none : ℕ = 0 in
    let each : All Counts was.rwlocks.items = c.self.invariant.reads in
    let Each : List RwLockState → Type 0 = λ rwlocks. All Counts rwlocks in
    let before = subst Each (sym c.as_mut_slice-3.ensures.value) each in
    let fresh = subst Each (sym (c.restart_all-3.ensures was.threads before))
    (All-replicate Counts _ (new_rwlock was.threads) (length-replicate was.threads none)) in
    record {
      few = c.self.invariant.few;
      reads = All-take Counts _ _ (All-append Counts _ _ fresh (All-drop Counts _ _ each));
    }
