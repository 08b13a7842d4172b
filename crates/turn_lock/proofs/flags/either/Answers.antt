use Rattle.std.proofs.Common.{◌≡◌, sym, ap, ◌∙◌, subst, ℕ, suc, ◌+◌, arith, List, Bool, false, ◌||◌}
use Rattle.std.proofs.Common.{set, get_or}
use Rattle.turn_lock.proofs.FlagLists.{mixed, mixed-step, mixed-all}
use Rattle.turn_lock.proofs.flags.either.Goals as goal

pub loop-i-preserved : goal.loop-i-preserved
loop-i-preserved c =
    let x : ℕ = c.loop-i.i in
    let o : List Bool = c.args.one.now in
    let t : List Bool = c.args.other.now in
    let e : suc x ≡ x + 1 = omega arith in
    subst (λ (l : List Bool). set l x (get_or l x false || get_or t x false) ≡ mixed (x + 1) o t)
    (sym c.loop-i.invariant)
    (mixed-step x o t false false (omega (arith, c.told-one, c.loop-i-test.true))
    (omega (arith, c.told-other, c.loop-i-test.true)) ∙ ap (λ (n : ℕ). mixed n o t) e)

pub returns : goal.returns
returns c =
    let e : c.loop-i.i ≡ 64 = omega (arith, c.loop-i-test.false, c.loop-i.auto.i-end) in
    c.loop-i.invariant ∙ ap (λ (n : ℕ). mixed n c.args.one.now c.args.other.now) e
    ∙ mixed-all 64 _ _ c.told-one c.told-other
