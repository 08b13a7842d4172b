use Rattle.std.proofs.Common.{ap, sym, refl, ◌∙◌, subst, arith, length-set}
use Rattle.turn_lock.specs.Plays.{SeatWithSlots}
use Rattle.turn_lock.proofs.laws.SeenBooks.{making-along}
use Rattle.turn_lock.proofs.Hands.{work-goes, turned, owes-after, gives, busy, threads-after}
use Rattle.turn_lock.proofs.Hands.{owed-after}
use Rattle.turn_lock.proofs.laws.SeatedThreads.{inside}
use Rattle.turn_lock.proofs.Seating.{from-flag}
use Rattle.turn_lock.specs.declared.turn.Turn.TheVariants.{Busy}
use Rattle.turn_lock.proofs.held.TurnLock.try_in_brief.Goals as goal

pub unlock-requires-clause-goes : goal.unlock-requires-clause-goes
unlock-requires-clause-goes g c κs within =
    let got = c.grab-found.ensures.grabs.0 c.if-found-ne0.false in
    let k = c.work-work.ensures.work in (
      k.0,
      k.1,
      work-goes c.args.seat.now.seat.me c.grab-found.new.seat.me c.work-work.new.seat.me _
          got.1 c.work-work.ensures.same.1 got.2 _ _ _ _ c.requires.serves
          (inside c.args.seat.now _ c.requires.serves) k.2,
    )

pub invariant_of-seat-2 : goal.invariant_of-seat-2
invariant_of-seat-2 g c =
    let got = c.grab-found.ensures.grabs.0 c.if-found-ne0.false in
    let k = c.work-work.ensures.work in
    let opened = c.wake.ensures.view ∙ c.unlock.ensures.freed k.0 k.1 in
    let t = turned c.args.seat.now.seat.me c.grab-found.new.seat.me c.work-work.new.seat.me _ got.1
    c.work-work.ensures.same.1 got.2 _ _ _ _ c.requires.serves
    (inside c.args.seat.now _ c.requires.serves) k.2 c.wake.new.seat.me opened in
    let owes = owes-after c.args.seat.now.seat.me c.grab-found.new.seat.me c.work-work.new.seat.me _
    got.1 c.work-work.ensures.same.1 got.2 _ _ _ _ c.requires.serves
    (inside c.args.seat.now _ c.requires.serves) k.2 c.wake.new.seat.me opened in
    let old = c.args.seat.now in
    record {
      flags = length-set old.owes c.args.thread c.work-work.result.owes ∙ old.flags;
      live = ap (λ (x : SeatWithSlots). x.0.live) opened ∙ k.1.live;
      idle = ap (λ (x : SeatWithSlots). x.0.held) opened;
      none = ap (λ (x : SeatWithSlots). x.1) opened;
      served = old.served ∙ sym t.took.serves;
      threads = threads-after old.serves _ _ t.took.grown old.threads;
      owed =
          owed-after old.serves old.owes _ _ c.args.thread _
          (omega (arith, old.flags, inside old _ c.requires.serves)) old.owed
          (λ u h ne. t.took.others u (from-flag old u h) ne) owes;
    }

pub returns-clause-of : goal.returns-clause-of
returns-clause-of g c =
    let got = c.grab-found.ensures.grabs.0 c.if-found-ne0.false in
    let k = c.work-work.ensures.work in
    let opened = c.wake.ensures.view ∙ c.unlock.ensures.freed k.0 k.1 in
    let t = turned c.args.seat.now.seat.me c.grab-found.new.seat.me c.work-work.new.seat.me _ got.1
    c.work-work.ensures.same.1 got.2 _ _ _ _ c.requires.serves
    (inside c.args.seat.now _ c.requires.serves) k.2 c.wake.new.seat.me opened in (
      c.wake.ensures.same.table ∙ c.unlock.ensures.same.table ∙ c.work-work.ensures.same.0.table
          ∙ c.grab-found.ensures.same.table ∙ c.requires.of.0,
      making-along _ _ _ c.requires.of.1 t.took.grown.making,
    )

pub returns-clause-gives : goal.returns-clause-gives
returns-clause-gives g c =
    let got = c.grab-found.ensures.grabs.0 c.if-found-ne0.false in
    let k = c.work-work.ensures.work in
    let opened = c.wake.ensures.view ∙ c.unlock.ensures.freed k.0 k.1 in
    let t = turned c.args.seat.now.seat.me c.grab-found.new.seat.me c.work-work.new.seat.me _ got.1
    c.work-work.ensures.same.1 got.2 _ _ _ _ c.requires.serves
    (inside c.args.seat.now _ c.requires.serves) k.2 c.wake.new.seat.me opened in
    record { turn = k.2.turn; brief = k.2.brief; said = gives _ _ _ k.2.turn _ t }

pub returns-then-found-ne0-clause-gives : goal.returns-then-found-ne0-clause-gives
returns-then-found-ne0-clause-gives g c = record {
  turn = Busy _;
  brief = refl;
  said =
      busy _ _ _ (c.grab-found.ensures.grabs.1 c.if-found-ne0.true);
}

pub returns-clause-kept : goal.returns-clause-kept
returns-clause-kept g c = λ over.
    let k = c.work-work.ensures.work in
    let opened = c.wake.ensures.view ∙ c.unlock.ensures.freed k.0 k.1 in
    subst (λ (x : SeatWithSlots). g.K.Keep.kept x.0.seen.outcome c.work-work.new.place) (sym opened)
    (k.3 over)

pub returns-clause-obeys : goal.returns-clause-obeys
returns-clause-obeys g c =
    let got = c.grab-found.ensures.grabs.0 c.if-found-ne0.false in
    let k = c.work-work.ensures.work in
    let opened = c.wake.ensures.view ∙ c.unlock.ensures.freed k.0 k.1 in
    (turned c.args.seat.now.seat.me c.grab-found.new.seat.me c.work-work.new.seat.me _ got.1
    c.work-work.ensures.same.1 got.2 _ _ _ _ c.requires.serves
    (inside c.args.seat.now _ c.requires.serves) k.2 c.wake.new.seat.me
    opened).took.turn.lawful.obeys
