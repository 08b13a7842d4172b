use Rattle.std.proofs.Common.{◌≡◌, ℕ, ◌+◌, ◌-◌, ◌<◌, suc, length, false, refl, sym, ap, ◌∙◌}
use Rattle.std.proofs.Common.{arith}
use Rattle.std.proofs.lemmas.List.{get_or_default}
use Rattle.rank_now.specs.Ranking.{HasValue}
use Rattle.policy_pick.specs.declared.chance.Pick.TheVariants.{Thread}
use Rattle.policy_pick.specs.declared.chance.Chance.TheVariants.{Away, Ended}
use Rattle.policy_pick.specs.Choice.{is_open, pick_at}
use Rattle.policy_pick.specs.Laws.Walks.{open_at}
use Rattle.policy_pick.proofs.Walks.{passed-none, passed-more, passed-all, passed-stops}
use Rattle.policy_pick.proofs.walk.pick_by_rank.Goals as goal
use Rattle.policy_pick.proofs.walk.pick_by_rank.Goals.{in-Some+else-is_open, in_default}

pub returns-then-is_open : goal.returns-then-is_open
returns-then-is_open c =
    let thread = c.in-Some.thread in
    let has = c.in-Some.ensures.some in
    let within : thread < length c.args.chances.now =
    omega (arith, has.within, c.requires.threads) in
    let read = get_or_default c.args.chances.now thread Away Ended within in
    c.pick_at.ensures ∙ ap (pick_at (Thread thread) thread) read
    ∙ sym (passed-stops c.args.ranks.now.values c.args.chances.now c.requires.threads
    (c.greatest-greatest.result - c.loop-below.below) thread has c.holder.ensures.distinct
    c.loop-below.invariant (sym (ap is_open read) ∙ sym c.is_open.ensures ∙ c.if-is_open.true))

pub returns : goal.returns
returns c =
    sym (passed-all c.args.ranks.now.values c.args.chances.now c.requires.threads
    (c.greatest-greatest.result - c.loop-below.below) (omega (arith, c.loop-below-test.false))
    c.greatest-greatest.ensures.positive c.loop-below.invariant)

pub loop-below-init : goal.loop-below-init
loop-below-init c =
    passed-none c.args.ranks.now.values c.args.chances.now c.requires.threads
    (c.greatest-greatest.result - 0) (λ other within.
    omega (arith, c.greatest-greatest.ensures.bound other within))

pub loop-below-preserved : goal.loop-below-preserved
loop-below-preserved c =
    let values = c.args.ranks.now.values in
    let chances = c.args.chances.now in
    let value = c.greatest-greatest.result - c.loop-below.below in
    let next = c.greatest-greatest.result - (c.loop-below.below + 1) in
    let down : value ≡ suc next = omega (arith, c.loop-below-test.true) in
    let closed : (other : ℕ) → HasValue values value other → open_at chances other ≡ false =
    λ other has. elim c.match-holder.branch [
      | in-Some+else-is_open w ↦
          let thread = w.in-Some.thread in
          let holds = w.in-Some.ensures.some in
          let within : thread < length chances =
          omega (arith, holds.within, c.requires.threads) in
          let read = get_or_default chances thread Away Ended within in
          let same = c.holder.ensures.distinct other thread has.within holds.within
          (has.has ∙ sym holds.has) in
          ap (open_at chances) same ∙ sym (ap is_open read) ∙ sym w.is_open.ensures
          ∙ w.if-is_open.false
      | in_default w ↦ absurd (w.in_default.ensures.none refl other has)
    ] in
    passed-more values chances c.requires.threads value next down closed c.loop-below.invariant
