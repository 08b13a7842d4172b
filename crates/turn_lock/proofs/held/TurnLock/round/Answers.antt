use Rattle.std.proofs.Common.{◌≡◌, ℕ, Bool, List, Option, ap, sym, ◌∙◌, subst, arith, length-set}
use Rattle.turn_lock.specs.Plays.{SeatWithSlots}
use Rattle.turn_lock.specs.Turns.{TellsEnd}
use Rattle.turn_lock.specs.Hands.{IsSwept}
use Rattle.turn_lock.specs.declared.work.Work.{Work}
use Rattle.turn_lock.specs.declared.brief.Brief.TheVariants.{Over}
use Rattle.std.specs.Prelude.{IfSome}
use Rattle.turn_lock.proofs.laws.SeenBooks.{making-along}
use Rattle.turn_lock.proofs.Hands.{swept-goes, turned, stays, owes-after, threads-after, owed-after}
use Rattle.turn_lock.proofs.laws.SeatedThreads.{inside}
use Rattle.turn_lock.proofs.Seating.{from-flag}
use Rattle.turn_lock.proofs.Waiting.{stays-owes}
use Rattle.turn_lock.proofs.held.TurnLock.round.Goals as goal

pub unlock-requires-clause-goes : goal.unlock-requires-clause-goes
unlock-requires-clause-goes g c κs within =
    let old = c.args.seat.now in
    let got = c.grab-found.ensures.grabs.0 c.if-found-ne0.false in
    let k = c.sweep-swept.ensures.swept in (
      k.0,
      k.1,
      swept-goes old.seat.me c.grab-found.new.seat.me c.sweep-swept.new.seat.me _ got.1
          c.sweep-swept.ensures.same.1 got.2 old.serves c.sweep-swept.result k.0
          (λ t h. from-flag old t h) old.threads k.2,
    )

pub invariant_of-seat-in-Some : goal.invariant_of-seat-in-Some
invariant_of-seat-in-Some g c =
    let old = c.args.seat.now in
    let got = c.grab-found.ensures.grabs.0 c.if-found-ne0.false in
    let k = c.sweep-swept.ensures.swept in
    let found = subst (λ (o : Option (ℕ × Work)).
    IsSwept old.serves c.grab-found.new.seat.me.0.base o k.0) c.in-Some.is k.2 in
    let serves = from-flag old _ found.serves in
    let opened = c.wake.ensures.view ∙ c.unlock.ensures.freed k.0 k.1 in
    let t = turned old.seat.me c.grab-found.new.seat.me c.sweep-swept.new.seat.me _ got.1
    c.sweep-swept.ensures.same.1 got.2 _ _ _ _ serves (inside old _ serves) found.work
    c.wake.new.seat.me opened in
    let owes = owes-after old.seat.me c.grab-found.new.seat.me c.sweep-swept.new.seat.me _ got.1
    c.sweep-swept.ensures.same.1 got.2 _ _ _ _ serves (inside old _ serves) found.work
    c.wake.new.seat.me opened in
    record {
      flags = length-set old.owes c.in-Some.thread c.in-Some.work.owes ∙ old.flags;
      live = ap (λ (x : SeatWithSlots). x.0.live) opened ∙ k.1.live;
      idle = ap (λ (x : SeatWithSlots). x.0.held) opened;
      none = ap (λ (x : SeatWithSlots). x.1) opened;
      served = old.served ∙ sym t.took.serves;
      threads = threads-after old.serves _ _ t.took.grown old.threads;
      owed =
          owed-after old.serves old.owes _ _ c.in-Some.thread _
          (let few = old.seat.me.0.seen.deal.few_threads in
          omega (arith, old.flags, few, inside old _ serves)) old.owed
          (λ u h ne. t.took.others u (from-flag old u h) ne) owes;
    }

pub returns-in-Some-clause-of : goal.returns-in-Some-clause-of
returns-in-Some-clause-of g c =
    let old = c.args.seat.now in
    let got = c.grab-found.ensures.grabs.0 c.if-found-ne0.false in
    let k = c.sweep-swept.ensures.swept in
    let found = subst (λ (o : Option (ℕ × Work)).
    IsSwept old.serves c.grab-found.new.seat.me.0.base o k.0) c.in-Some.is k.2 in
    let serves = from-flag old _ found.serves in
    let opened = c.wake.ensures.view ∙ c.unlock.ensures.freed k.0 k.1 in
    let t = turned old.seat.me c.grab-found.new.seat.me c.sweep-swept.new.seat.me _ got.1
    c.sweep-swept.ensures.same.1 got.2 _ _ _ _ serves (inside old _ serves) found.work
    c.wake.new.seat.me opened in (
      c.wake.ensures.same.table ∙ c.unlock.ensures.same.table
          ∙ c.sweep-swept.ensures.same.0.table
          ∙ c.grab-found.ensures.same.table ∙ c.requires.of.0,
      making-along _ _ _ c.requires.of.1 t.took.grown.making,
    )

pub returns-in-Some-clause-round : goal.returns-in-Some-clause-round
returns-in-Some-clause-round g c =
    let old = c.args.seat.now in
    let got = c.grab-found.ensures.grabs.0 c.if-found-ne0.false in
    let k = c.sweep-swept.ensures.swept in
    let found = subst (λ (o : Option (ℕ × Work)).
    IsSwept old.serves c.grab-found.new.seat.me.0.base o k.0) c.in-Some.is k.2 in
    let serves = from-flag old _ found.serves in
    let opened = c.wake.ensures.view ∙ c.unlock.ensures.freed k.0 k.1 in
    let t = turned old.seat.me c.grab-found.new.seat.me c.sweep-swept.new.seat.me _ got.1
    c.sweep-swept.ensures.same.1 got.2 _ _ _ _ serves (inside old _ serves) found.work
    c.wake.new.seat.me opened in
    record {
      turn = found.work.turn;
      brief = found.work.brief;
      said = record {
        serves = serves;
        took = t;
        tells =
            subst (λ (l : List Bool). TellsEnd l c.in-Some.thread found.work.turn
            c.wake.new.seat.me.0.seen) old.served
            (subst (λ (x : SeatWithSlots).
            TellsEnd old.serves c.in-Some.thread found.work.turn x.0.seen) (sym opened)
            found.tells);
      };
    }

pub returns-in-Some-clause-kept : goal.returns-in-Some-clause-kept
returns-in-Some-clause-kept g c = λ thread is.
    let k = c.sweep-swept.ensures.swept in
    let kept = subst (λ (o : Option (ℕ × Work)).
    IfSome o (λ found. found.1.brief ≡ Over
    → g.K.Keep.kept k.0.book.outcome c.sweep-swept.new.place)) c.in-Some.is k.3 in
    let opened = c.wake.ensures.view ∙ c.unlock.ensures.freed k.0 k.1 in
    let over : c.in-Some.work.brief ≡ Over = cc in
    subst (λ (x : SeatWithSlots). g.K.Keep.kept x.0.seen.outcome c.sweep-swept.new.place)
    (sym opened) (kept over)

pub returns-in-Some-clause-obeys : goal.returns-in-Some-clause-obeys
returns-in-Some-clause-obeys g c =
    (returns-in-Some-clause-round g c).said.took.took.turn.lawful.obeys

pub invariant_of-seat-in-None : goal.invariant_of-seat-in-None
invariant_of-seat-in-None g c =
    let old = c.args.seat.now in
    let got = c.grab-found.ensures.grabs.0 c.if-found-ne0.false in
    let k = c.sweep-swept.ensures.swept in
    let passed = subst (λ (o : Option (ℕ × Work)).
    IsSwept old.serves c.grab-found.new.seat.me.0.base o k.0) c.in-None.is k.2 in
    let opened = c.unlock.ensures.freed k.0 k.1 in
    let s = stays old.seat.me c.grab-found.new.seat.me c.sweep-swept.new.seat.me _ got.1
    c.sweep-swept.ensures.same.1 got.2 k.0 passed c.unlock.new.seat.me opened in
    record {
      flags = old.flags;
      live = ap (λ (x : SeatWithSlots). x.0.live) opened ∙ k.1.live;
      idle = ap (λ (x : SeatWithSlots). x.0.held) opened;
      none = ap (λ (x : SeatWithSlots). x.1) opened;
      served = old.served ∙ sym s.serves;
      threads =
          threads-after old.serves old.seat.me.0.seen c.unlock.new.seat.me.0.seen s.seen
          old.threads;
      owed =
          λ u h. old.owed u h ∙ sym (stays-owes old.seat.me.0 c.unlock.new.seat.me.0 u
          (from-flag old u h) s);
    }

pub returns-in-None-clause-round : goal.returns-in-None-clause-round
returns-in-None-clause-round g c =
    let old = c.args.seat.now in
    let got = c.grab-found.ensures.grabs.0 c.if-found-ne0.false in
    let k = c.sweep-swept.ensures.swept in
    let passed = subst (λ (o : Option (ℕ × Work)).
    IsSwept old.serves c.grab-found.new.seat.me.0.base o k.0) c.in-None.is k.2 in
    stays old.seat.me c.grab-found.new.seat.me c.sweep-swept.new.seat.me _ got.1
    c.sweep-swept.ensures.same.1 got.2 k.0 passed c.unlock.new.seat.me
    (c.unlock.ensures.freed k.0 k.1)
