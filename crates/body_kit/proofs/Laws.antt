-- What those who write tests may cite: bodies in boxes that name only what there is, and seats that
-- ports give back.
use Rattle.std.proofs.Common.{◌≡◌, ℕ, zero, suc, Bool, List, [], ◌∷◌, map, sym, ap, subst, ◌∙◌}
use Rattle.std.proofs.Common.{arith}
use Rattle.pct_ask.specs.declared.Deal.{Deal}
use Rattle.pct_ask.specs.declared.event.Event.{Event}
use Rattle.pct_ask.specs.declared.verdict.Outcome.{Outcome}
use Rattle.pct_ask.specs.Objects.{Sizes}
use Rattle.pct_ask.specs.Bodies.{Pending, IsInRangeBody, AreInRange}
use Rattle.policy_pick.specs.Plan.{Plan}
use Rattle.policy_pick.specs.declared.policy.Policy.{Ghosts}
use Rattle.turn_lock.specs.Calls.{ServesAll}
use Rattle.turn_lock.specs.Rule.{HasFlag, Serves}
use Rattle.turn_lock.specs.Views.{view, HasSeat}
use Rattle.turn_lock.specs.declared.held.TurnLock.{TurnLock}
use Rattle.turn_lock.specs.declared.seat.Seat.{Seat}
use Rattle.turn_lock.specs.declared.view.View.{View}
use Rattle.turn_lock.proofs.laws.SeenBooks.{within-along}
use Rattle.worker_run.specs.Played.{IsPlayed}
use Rattle.body_kit.specs.Asking.{SeatGoesOn}
use Rattle.body_kit.specs.Ports.{IsBack, Home, home_of}

-- ---- bodies
three-in-range : (sizes : Sizes) (one other last : Pending) → IsInRangeBody sizes one
    → IsInRangeBody sizes other → IsInRangeBody sizes last
    → AreInRange sizes (one ∷ other ∷ last ∷ [])
three-in-range sizes one other last a b c zero = a
three-in-range sizes one other last a b c (suc zero) = b
three-in-range sizes one other last a b c (suc (suc zero)) = c
three-in-range sizes one other last a b c (suc (suc (suc t))) = λ answers. tt

pub boxed-in-range : {X : Type 0} (sizes : Sizes) (pending : X → Pending) (items : List X)
    (one other last : X) → items ≡ one ∷ other ∷ last ∷ []
    → IsInRangeBody sizes (pending one) → IsInRangeBody sizes (pending other)
    → IsInRangeBody sizes (pending last) → AreInRange sizes (map pending items)
boxed-in-range sizes pending items one other last is a b c =
    subst (AreInRange sizes) (sym (ap (map pending) is))
    (three-in-range sizes (pending one) (pending other) (pending last) a b c)

-- what was played, by its parts
pub boxed-played : {plan other : Plan} {bodies : List Pending} {events steps : List Event}
    {outcome end : Outcome} (deal : Deal) (limit : ℕ) → plan ≡ other → events ≡ steps
    → outcome ≡ end → IsPlayed plan deal bodies limit events outcome
    → IsPlayed other deal bodies limit steps end
boxed-played {bodies = bodies} deal limit p e o played =
    subst (λ (x : Plan × List Event × Outcome). IsPlayed x.0 deal bodies limit x.1 x.2)
    (λ i. (p i, e i, o i)) played

-- ---- seats
-- a seat that went on serves what it served
pub still-serves : (v w : View) (t : ℕ) → SeatGoesOn v w → Serves v t → Serves w t
still-serves v w t on here = subst (λ (l : List Bool). HasFlag l t) (sym on.serves) here

pub goes-along : (u v w : View) → SeatGoesOn u v → SeatGoesOn v w → SeatGoesOn u w
goes-along u v w one other = record {
  within = within-along u.seen v.seen w.seen one.within other.within;
  lawful = other.lawful;
  serves = other.serves ∙ one.serves;
}

-- what came of a port, and what came of that
pub back-along : {P : Type 0} {policy : Ghosts P} (first second third : Seat P policy)
    → IsBack first second → IsBack second third → IsBack first third
back-along first second third one other = record {
  of = λ lock its. other.of lock (one.of lock its);
  on = goes-along (view first) (view second) (view third) one.on other.on;
}

-- a port is of the same locks and serves the same threads, whatever was asked by it
pub same-locks : {P : Type 0} {policy : Ghosts P} (lock : TurnLock P) (old new : Seat P policy)
    → home_of new ≡ home_of old → HasSeat lock old → HasSeat lock new
same-locks lock old new same has = (
  ap (λ (h : Home). h.table) same ∙ has.0,
  record {
    deal = ap (λ (h : Home). h.deal) same ∙ (has.1).deal;
    limit = ap (λ (h : Home). h.limit) same ∙ (has.1).limit;
    plan = ap (λ (h : Home). h.plan) same ∙ (has.1).plan;
  },
)

pub same-threads : {P : Type 0} {policy : Ghosts P} (old new : Seat P policy) (t : ℕ)
    → home_of new ≡ home_of old → Serves (view old) t → Serves (view new) t
same-threads old new t same here =
    subst (λ (l : List Bool). HasFlag l t) (sym (ap (λ (h : Home). h.serves) same)) here

-- the threads of a test with three
pub three-served : (v : View) → (v.seen).deal.threads ≡ 3 → Serves v 0 → Serves v 1 → Serves v 2
    → ServesAll v
three-served v three zeroth first second zero below = zeroth
three-served v three zeroth first second (suc zero) below = first
three-served v three zeroth first second (suc (suc zero)) below = second
three-served v three zeroth first second (suc (suc (suc t))) below = absurd (omega (arith, three))
