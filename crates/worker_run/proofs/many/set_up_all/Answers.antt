use Rattle.std.proofs.Common.{◌≡◌, ◌++◌, ◌∷◌, [], List, length, refl, sym, ap, subst, ◌∙◌}
use Rattle.std.proofs.Common.{append_assoc, append-nil, arith}
use Rattle.std.specs.Prelude.{slice_get}
use Rattle.std.specs.Vec.Iter.{into_iter_items}
use Rattle.turn_lock.specs.Views.{HasSeat}
use Rattle.turn_lock.specs.declared.held.TurnLock.{TurnLock}
use Rattle.worker_run.specs.Batch.{Each}
use Rattle.worker_run.specs.Tests.{IsLockOf, IsFirstShare}
use Rattle.worker_run.specs.declared.batch.Test.{Test}
use Rattle.worker_run.specs.declared.batch.Share.{Share}
use Rattle.worker_run.proofs.Eachs.{each-more, get-middle, nothing-left}
use Rattle.worker_run.proofs.Ends.{no-items}
use Rattle.worker_run.proofs.many.set_up_all.Goals as goal

pub loop-test-init : goal.loop-test-init
loop-test-init g c = record {
  tests = refl;
  long = omega (
    arith,
    c.into_iter-test-iterator.ensures.into_iter_gives.1,
    ap length c.into_iter-test-iterator.ensures.into_iter_gives.0,
    c.args.tests.ok.0,
  );
  locks = no-items (IsLockOf g.P.Policy.plan) [] _ refl c.in_ok-locks.ensures.items;
  shares = no-items (IsFirstShare g.P.Policy.plan) [] _ refl c.in_ok-shares.ensures.items;
  of = no-items (λ lock share. HasSeat lock share.seat) _ _ c.in_ok-locks.ensures.items
      c.in_ok-shares.ensures.items;
  by = refl;
}

pub set_up-requires-clause-test : goal.set_up-requires-clause-test
set_up-requires-clause-test g c = λ κs lives.
    let at = c.loop-test in
    let x = c.in-Some.test in
    let steps : into_iter_items at.test-iterator ≡ x ∷ into_iter_items c.next.new.self =
    c.in-Some.ensures.steps.0 in
    let whole = ap (λ l. at.yielded ++ l) (sym steps) ∙ at.invariant.tests
    ∙ c.into_iter-test-iterator.ensures.into_iter_gives.0 in
    c.requires.tests (length at.yielded) x
    (ap (λ l. slice_get l (length at.yielded)) (sym whole)
    ∙ get-middle at.yielded x (into_iter_items c.next.new.self))

pub loop-test-preserved : goal.loop-test-preserved
loop-test-preserved g c =
    let plan = g.P.Policy.plan in
    let at = c.loop-test in
    let x = c.in-Some.test in
    let steps : into_iter_items at.test-iterator ≡ x ∷ into_iter_items c.next.new.self =
    c.in-Some.ensures.steps.0 in
    let L : List (TurnLock g.row.P.Denot) → Type 0 =
    λ l. Each (IsLockOf plan) (at.yielded ++ x ∷ []) l in
    let C : List (Share g.row.P.Denot g.row.B.Denot g.P.Policy) → Type 0 =
    λ l. Each (IsFirstShare plan) (at.yielded ++ x ∷ []) l in
    let O : List (TurnLock g.row.P.Denot) × List (Share g.row.P.Denot g.row.B.Denot g.P.Policy)
    → Type 0 = λ p. Each (λ lock share. HasSeat lock share.seat) p.0 p.1 in
    let locks = sym c.in_ok-push.ensures.items in
    let shares = sym c.in_ok-push-2.ensures.items in
    record {
      tests = append_assoc at.yielded (x ∷ []) (into_iter_items c.next.new.self)
          ∙ ap (λ l. at.yielded ++ l) (sym steps) ∙ at.invariant.tests;
      long = (let was = at.invariant.long in let gone = c.in-Some.ensures.steps.1 in
          let short = ap length steps in omega arith);
      locks = subst L locks
          (each-more (IsLockOf plan) at.yielded at.locks.items x c.in_ok-lock.lock
          at.invariant.locks c.in_ok-lock.ensures.lock);
      shares = subst C shares
          (each-more (IsFirstShare plan) at.yielded at.shares.items x c.in_ok-lock.share
          at.invariant.shares c.in_ok-lock.ensures.share);
      of = subst O (λ i. (locks i, shares i))
          (each-more (λ lock share. HasSeat lock share.seat) at.locks.items at.shares.items
          c.in_ok-lock.lock c.in_ok-lock.share at.invariant.of c.in_ok-lock.ensures.of);
      by = c.next_trace.ensures ∙ at.invariant.by;
    }

pub returns : goal.returns
returns g c =
    let plan = g.P.Policy.plan in
    let at = c.loop-test in
    let none = c.in-None.ensures.steps in
    let empty : into_iter_items at.test-iterator ≡ [] =
    nothing-left _ (sym at.invariant.long ∙ none.0) in
    let all = sym (append-nil at.yielded) ∙ ap (λ l. at.yielded ++ l) (sym empty)
    ∙ at.invariant.tests ∙ c.into_iter-test-iterator.ensures.into_iter_gives.0 in
    let L : List (Test g.row.P.Denot g.row.B.Denot) → Type 0 =
    λ l. Each (IsLockOf plan) l at.locks.items in
    let C : List (Test g.row.P.Denot g.row.B.Denot) → Type 0 =
    λ l. Each (IsFirstShare plan) l at.shares.items in
    record {
      locks = subst L all at.invariant.locks;
      shares = subst C all at.invariant.shares;
      of = at.invariant.of;
      by = at.invariant.by;
    }
