-- The laws that every choice keeps, as each policy states them. Nothing here is needed to read a
-- contract.
pub mod Chances
pub mod Finds
pub mod Walks
use Rattle.std.proofs.Common.{◌≡◌, ℕ, zero, suc, ◌<◌, List, [], ◌∷◌, length, Option, Some}
use Rattle.std.proofs.Common.{None, slice_get, refl, sym, ap, subst, ◌∙◌, arith, inl, inr}
use Rattle.std.specs.List.{All}
use Rattle.std.proofs.lemmas.Bool.{cases_lt}
use Rattle.std.proofs.lemmas.List.{get_or_past}
use Rattle.std.proofs.lemmas.List.Elements.{All-head, All-tail}
use Rattle.rank_now.specs.Rank.{ranks, ranks_by_moments}
use Rattle.policy_pick.specs.declared.chance.Chance.{Chance}
use Rattle.policy_pick.specs.declared.chance.Chance.TheVariants.{Ended}
use Rattle.policy_pick.specs.declared.chance.Pick.TheVariants.{Thread}
use Rattle.policy_pick.specs.Plan.{Plan, ByPoints, ByMoments, ByList, SpeaksOf}
use Rattle.policy_pick.specs.Choice.{MayDepart, chance_of, pick_at, choice_by_list, choice}
use Rattle.policy_pick.specs.Choice.{TargetsAreAway, IsSoundPick, KeepsKnown, IsWaits}
use Rattle.policy_pick.specs.Laws.Chances.{pick-known, sound-at}
use Rattle.policy_pick.specs.Laws.Walks.{rank-keeps, rank-sound, number-keeps, number-sound}

listed-keeps : (next : Option ℕ) (earlier later : List Chance) → KeepsKnown earlier later
    → ¬ IsWaits (choice_by_list next earlier)
    → choice_by_list next later ≡ choice_by_list next earlier
listed-keeps None earlier later keeps waits = number-keeps earlier later keeps waits
listed-keeps (Some thread) earlier later keeps waits =
    elim (cases_lt thread (length earlier)) [
      | inl within ↦
          ap (pick_at (Thread thread) thread)
          (keeps.known thread within
          (pick-known (Thread thread) thread (chance_of earlier thread) waits))
      | inr past ↦
          ap (pick_at (Thread thread) thread)
          (get_or_past later thread Ended (omega (arith, keeps.threads))
          ∙ sym (get_or_past earlier thread Ended past))
    ]

-- A choice that waits for nobody stays, as what was not known becomes known.
pub choice-keeps : (plan : Plan) (schedule : List ℕ) (earlier later : List Chance)
    → KeepsKnown earlier later → ¬ IsWaits (choice plan schedule earlier)
    → choice plan schedule later ≡ choice plan schedule earlier
choice-keeps (ByPoints order points) schedule earlier later keeps waits =
    rank-keeps (ranks order points schedule) earlier later keeps waits
choice-keeps (ByMoments order moments) schedule earlier later keeps waits =
    rank-keeps (ranks_by_moments order moments schedule) earlier later keeps waits
choice-keeps (ByList listed) schedule earlier later keeps waits =
    listed-keeps (slice_get listed (length schedule)) earlier later keeps waits

holds-at : (P : ℕ → Type 0) (xs : List ℕ) (k x : ℕ) → All P xs → slice_get xs k ≡ Some x → P x
holds-at P [] k x all e = cc
holds-at P (y ∷ xs) zero x all e = let same : y ≡ x = cc in subst P same (All-head P y xs all)
holds-at P (y ∷ xs) (suc k) x all e = holds-at P xs k x (All-tail P y xs all) e

listed-sound : (plan : Plan) (next : Option ℕ) (chances : List Chance) → MayDepart plan
    → ((thread : ℕ) → next ≡ Some thread → thread < length chances) → TargetsAreAway chances
    → IsSoundPick plan chances (choice_by_list next chances)
listed-sound plan None chances departs within targets = number-sound plan chances departs targets
listed-sound plan (Some thread) chances departs within targets =
    sound-at plan chances (Thread thread) thread (within thread refl)
    (λ ready. (within thread refl, ready)) (λ closed. departs) (targets thread (within thread refl))

-- Each choice is sound.
pub choice-sound : (plan : Plan) (schedule : List ℕ) (chances : List Chance)
    → SpeaksOf plan (length chances) → TargetsAreAway chances
    → IsSoundPick plan chances (choice plan schedule chances)
choice-sound (ByPoints order points) schedule chances speaks targets =
    rank-sound (ByPoints order points) (ranks order points schedule) chances targets
choice-sound (ByMoments order moments) schedule chances speaks targets =
    rank-sound (ByMoments order moments) (ranks_by_moments order moments schedule) chances targets
choice-sound (ByList listed) schedule chances speaks targets =
    listed-sound (ByList listed) (slice_get listed (length schedule)) chances tt
    (λ thread e. holds-at (λ t. t < length chances) listed (length schedule) thread speaks.1 e)
    targets
