use Rattle.std.proofs.Common.{◌+◌, ap, sym, subst, ◌∙◌, arith}
use Rattle.turn_book.specs.Told.{BookState}
use Rattle.turn_lock.specs.Rule.{Serves}
use Rattle.turn_lock.specs.Seats.{seat_of_one}
use Rattle.turn_lock.specs.Views.{view}
use Rattle.turn_lock.specs.declared.view.View.{View}
use Rattle.worker_run.specs.Served.{IsUnposted, IsWhole}
use Rattle.turn_lock.proofs.laws.Serving.{without-has}
use Rattle.worker_run.proofs.SplitSeats.{IsJoin, whole-first, whole-more}
use Rattle.worker_run.proofs.lent.split_all.Goals as goal

pub loop-thread-init : goal.loop-thread-init
loop-thread-init g c =
    let v = view c.args.seat.now in
    let s = c.split-all.ensures in
    record {
      of = s.of;
      left = ap (λ (x : View). x.seen) s.left;
      rest =
          λ t from below. subst (λ (x : View). Serves x t) (sym s.left)
          (without-has v 0 t (λ e. omega arith) (c.requires.all t below));
      right =
          subst (λ (x : View). IsWhole 1 v.seen x) (sym s.right)
          (whole-first v c.requires.unposted);
    }

pub loop-thread-preserved : goal.loop-thread-preserved
loop-thread-preserved g c =
    let v = view c.args.seat.now in
    let i = c.loop-thread.invariant in
    let k = c.loop-thread.thread in
    let u = view c.loop-thread.seat in
    let all = view c.loop-thread.all in
    let w = view c.join.new.seat in
    let s = c.split-one.ensures in
    let below = c.loop-thread-test.true in
    let J : View → Type 0 = λ x. IsJoin all x w in
    let j : IsJoin all (seat_of_one u k) w =
    subst J s.right (record {
      is = c.join.ensures.view;
      seen = c.join.ensures.seen;
      own = c.join.ensures.own;
      theirs = c.join.ensures.theirs;
      obeys = c.join.ensures.obeys;
    }) in
    let U : BookState → Type 0 = λ x. IsUnposted x in
    let W : BookState → Type 0 = λ x. IsWhole k x all in
    let R : BookState → Type 0 = λ x. IsWhole (k + 1) x w in
    record {
      of = (s.of.0, c.join.ensures.of);
      left = ap (λ (x : View). x.seen) s.left ∙ i.left;
      rest =
          λ t from under. subst (λ (x : View). Serves x t) (sym s.left)
          (without-has u k t (λ e. omega (arith, e)) (i.rest t (omega arith) under));
      right =
          subst R i.left (whole-more k u all w (omega (arith, c.requires.few))
          (subst U (sym i.left) c.requires.unposted) (subst W (sym i.left) i.right) j);
    }
