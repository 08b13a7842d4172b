-- What a chance tells of a pick.
use Rattle.std.proofs.Common.{◌≡◌, ℕ, ◌<◌, Bool, true, false, List, length, refl, ap, sym, ◌∙◌}
use Rattle.policy_pick.specs.declared.chance.Chance.{Chance}
use Rattle.policy_pick.specs.declared.chance.Chance.TheVariants.{Away, Ready, Blocked, Unknown}
use Rattle.policy_pick.specs.declared.chance.Chance.TheVariants.{Ended}
use Rattle.policy_pick.specs.declared.chance.Pick.{Pick}
use Rattle.policy_pick.specs.Plan.{Plan}
use Rattle.policy_pick.specs.Choice.{MayDepart, chance_of, is_open, is_known, pick_at}
use Rattle.policy_pick.specs.Choice.{HasAwayTarget, IsSoundPick, IsWaits, KeepsKnown}

-- a thread that a walk passes over is known
pub closed-known : (c : Chance) → is_open c ≡ false → is_known c ≡ true
closed-known Away e = cc
closed-known Ready e = cc
closed-known Blocked e = refl
closed-known (Unknown target) e = cc
closed-known Ended e = refl

-- a walk that stops without waiting stops at a Ready thread
pub open-ready : (ready : Pick) (thread : ℕ) (c : Chance) → is_open c ≡ true
    → ¬ IsWaits (pick_at ready thread c) → c ≡ Ready
open-ready ready thread Away e h = absurd (h tt)
open-ready ready thread Ready e h = refl
open-ready ready thread Blocked e h = cc
open-ready ready thread (Unknown target) e h = absurd (h tt)
open-ready ready thread Ended e h = cc

-- a pick that waits for nobody is made at a thread that is known
pub pick-known : (ready : Pick) (thread : ℕ) (c : Chance) → ¬ IsWaits (pick_at ready thread c)
    → is_known c ≡ true
pick-known ready thread Away h = absurd (h tt)
pick-known ready thread Ready h = refl
pick-known ready thread Blocked h = refl
pick-known ready thread (Unknown target) h = absurd (h tt)
pick-known ready thread Ended h = refl

sound-by : (plan : Plan) (chances : List Chance) (ready : Pick) (thread : ℕ) (c : Chance)
    → thread < length chances → chance_of chances thread ≡ c
    → (c ≡ Ready → IsSoundPick plan chances ready) → (is_open c ≡ false → MayDepart plan)
    → HasAwayTarget chances c → IsSoundPick plan chances (pick_at ready thread c)
sound-by plan chances ready thread Away within is sound departs target = (within, is)
sound-by plan chances ready thread Ready within is sound departs target = sound refl
sound-by plan chances ready thread Blocked within is sound departs target = (departs refl, within)
sound-by plan chances ready thread (Unknown other) within is sound departs target = target
sound-by plan chances ready thread Ended within is sound departs target = (departs refl, within)

-- the pick at a thread is sound
pub sound-at : (plan : Plan) (chances : List Chance) (ready : Pick) (thread : ℕ)
    → thread < length chances → (chance_of chances thread ≡ Ready → IsSoundPick plan chances ready)
    → (is_open (chance_of chances thread) ≡ false → MayDepart plan)
    → HasAwayTarget chances (chance_of chances thread)
    → IsSoundPick plan chances (pick_at ready thread (chance_of chances thread))
sound-at plan chances ready thread within sound departs target =
    sound-by plan chances ready thread (chance_of chances thread) within refl sound departs target

open-by : (earlier later : Chance) (b : Bool) → is_open earlier ≡ b
    → (is_known earlier ≡ true → later ≡ earlier) → is_open later ≡ true → is_open earlier ≡ true
open-by earlier later true is keeps goes = is
open-by earlier later false is keeps goes =
    sym (ap is_open (keeps (closed-known earlier is))) ∙ goes

-- a thread that is open in the later chances was open in the earlier ones
pub open-before : (earlier later : List Chance) (thread : ℕ) → KeepsKnown earlier later
    → thread < length earlier → is_open (chance_of later thread) ≡ true
    → is_open (chance_of earlier thread) ≡ true
open-before earlier later thread keeps within goes =
    open-by (chance_of earlier thread) (chance_of later thread) (is_open (chance_of earlier thread))
    refl (keeps.known thread within) goes

-- one that was closed stays closed
pub closed-after : (earlier later : List Chance) (thread : ℕ) → KeepsKnown earlier later
    → thread < length earlier → is_open (chance_of earlier thread) ≡ false
    → is_open (chance_of later thread) ≡ false
closed-after earlier later thread keeps within closed =
    ap is_open (keeps.known thread within (closed-known (chance_of earlier thread) closed)) ∙ closed
