use Rattle.std.proofs.Common.{ℕ, sym, ap, subst}
use Rattle.turn_lock.specs.Rule.{Serves}
use Rattle.turn_lock.specs.Views.{view}
use Rattle.turn_lock.specs.declared.view.View.{View}
use Rattle.body_kit.specs.Asking.{IsEnded}
use Rattle.body_kit.proofs.Ports.{ended-late, back-self, goes-back, some-of, home-stays}
use Rattle.body_kit.proofs.port.Port.end.Goals as goal

pub returns-then-is_none-clause-ended : goal.returns-then-is_none-clause-ended
returns-then-is_none-clause-ended g c = λ t serves.
    let w = view c.end_once.new.seat in
    let here = ap view c.self.view_is in
    let mine : Serves (view c.self.inside.seat) t =
    subst (λ (v : View). Serves v t) (sym here) serves in
    let same = c.self.invariant.1.only.alone t mine in
    subst (λ (x : View × ℕ). IsEnded x.0 x.1 c.args.line w) (λ i. (here i, sym same i))
    c.end_once.ensures.ended

pub returns-else-is_none-clause-ended : goal.returns-else-is_none-clause-ended
returns-else-is_none-clause-ended g c = λ t serves.
    let v = view c.self.inside.seat in
    let o = some-of c.self.inside.over c.if-is_none.ensures in
    let told = c.self.invariant.1.told o.0 o.1 in
    subst (λ (x : View). IsEnded x t c.args.line v) (ap view c.self.view_is)
    (ended-late v t o.0 told.0 c.args.line)

pub returns-else-is_none-clause-back : goal.returns-else-is_none-clause-back
returns-else-is_none-clause-back g c =
    let o = some-of c.self.inside.over c.if-is_none.ensures in
    let told = c.self.invariant.1.told o.0 o.1 in
    rw (sym c.self.view_is) (back-self c.self.inside.seat told.1)

pub returns-then-is_none-clause-back : goal.returns-then-is_none-clause-back
returns-then-is_none-clause-back g c =
    rw (sym c.self.view_is) (goes-back c.self.inside.lock.now c.self.inside.seat c.end_once.new.seat
    c.self.invariant.0 c.end_once.ensures.of c.end_once.ensures.on)

pub returns-then-is_none-clause-home : goal.returns-then-is_none-clause-home
returns-then-is_none-clause-home g c =
    rw (sym c.self.view_is) (home-stays c.self.inside.lock.now c.self.inside.seat
    c.end_once.new.seat c.self.invariant.0 c.end_once.ensures.of c.end_once.ensures.on)
