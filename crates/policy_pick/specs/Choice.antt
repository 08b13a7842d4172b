-- Who goes next: the choice that a policy's parameters make after a schedule, a list of threads,
-- from what is known of each thread. (The threads of a run by PCT go by falling rank; lists, and
-- what is known of a thread, are this project's.)
use Rattle.std.specs.Prelude.{◌≡◌, ◌≢◌, ℕ, ◌<◌, Bool, true, false, ◌&&◌, ◌||◌, not, nat_le, List}
use Rattle.std.specs.Prelude.{[], ◌∷◌, ◌++◌, length}
use Rattle.std.specs.Prelude.{slice_get, slice_index, slice_index_or, Option, Some, None}
use Rattle.std.specs.Int.{bit_at}
use Rattle.std.specs.List.{find, list_all, range_with_len}
use Rattle.rank_now.specs.Rank.{ranks, ranks_by_moments}
use Rattle.policy_pick.specs.declared.chance.Chance.{Chance}
use Rattle.policy_pick.specs.declared.chance.Chance.TheVariants.{Away, Ready, Blocked, Unknown}
use Rattle.policy_pick.specs.declared.chance.Chance.TheVariants.{Ended}
use Rattle.policy_pick.specs.declared.chance.Pick.{Pick}
use Rattle.policy_pick.specs.declared.chance.Pick.TheVariants.{Thread, Waits, Nobody, Departs}
use Rattle.policy_pick.specs.Plan.{Plan, ByPoints, ByMoments, ByList}

-- the thread's chance; a thread that there isn't has ended
abbrev pub chance_of : List Chance → ℕ → Chance
chance_of chances thread = slice_index_or chances thread Ended

-- whether a walk stops at the thread: it passes over the Blocked and the Ended ones
abbrev pub is_open : Chance → Bool
is_open Away = true
is_open Ready = true
is_open Blocked = false
is_open (Unknown target) = true
is_open Ended = false

-- what is picked at a thread, and `ready` where the thread is Ready
abbrev pub pick_at : Pick → ℕ → Chance → Pick
pick_at ready thread Away = Waits thread
pick_at ready thread Ready = ready
pick_at ready thread Blocked = Departs thread
pick_at ready thread (Unknown target) = Waits target
pick_at ready thread Ended = Departs thread

-- what is picked where a walk over the threads stops, or at its end
abbrev pub pick_of_walk : (ℕ → Pick) → List Chance → Option ℕ → Pick
pick_of_walk ready chances None = Nobody
pick_of_walk ready chances (Some thread) = pick_at (ready thread) thread (chance_of chances thread)

-- the threads by rising number
abbrev pub threads_of_chances : List Chance → List ℕ
threads_of_chances chances = range_with_len 0 (length chances)

-- whether the thread is open, and no open thread has a greater rank
abbrev pub is_highest : List ℕ → List Chance → ℕ → Bool
is_highest ranks chances thread =
    is_open (chance_of chances thread)
    && list_all
    (λ other.
    not (is_open (chance_of chances other))
    || nat_le (slice_index ranks other) (slice_index ranks thread)) (threads_of_chances chances)

-- The walk by falling rank stops at the open thread of greatest rank.
unfoldable pub choice_by_rank : List ℕ → List Chance → Pick
choice_by_rank ranks chances =
    pick_of_walk Thread chances (find (is_highest ranks chances) (threads_of_chances chances))

-- The walk by rising number stops at the first open thread. Who goes there was not listed.
unfoldable pub choice_by_number : List Chance → Pick
choice_by_number chances =
    pick_of_walk Departs chances
    (find (λ thread. is_open (chance_of chances thread)) (threads_of_chances chances))

-- The listed thread goes, and after the list nobody may (this project).
abbrev pub choice_by_list : Option ℕ → List Chance → Pick
choice_by_list None chances = choice_by_number chances
choice_by_list (Some thread) chances = pick_at (Thread thread) thread (chance_of chances thread)

-- the choice after a schedule
abbrev pub choice : Plan → List ℕ → List Chance → Pick
choice (ByPoints order points) schedule chances =
    choice_by_rank (ranks order points schedule) chances
choice (ByMoments order moments) schedule chances =
    choice_by_rank (ranks_by_moments order moments schedule) chances
choice (ByList listed) schedule chances =
    choice_by_list (slice_get listed (length schedule)) chances

-- The thread's step changes no choice: whatever is known of the threads, who goes next is as before
-- it.
abbrev pub KeepsChoices : Plan → List ℕ → ℕ → Type 0
KeepsChoices plan schedule thread =
    (chances : List Chance)
    → choice plan (schedule ++ thread ∷ []) chances ≡ choice plan schedule chances

-- Each other thread of the bits has a lower rank than the thread.
abbrev pub OutranksBy : List ℕ → ℕ → ℕ → Type 0
OutranksBy ranks thread others =
    (other : ℕ) → other < length ranks → bit_at others other ≡ 1 → other ≢ thread
    → slice_index ranks other < slice_index ranks thread

-- The same of a plan that goes by rank. A list has no ranks.
abbrev pub Outranks : Plan → List ℕ → ℕ → ℕ → Type 0
Outranks (ByPoints order points) schedule thread others =
    OutranksBy (ranks order points schedule) thread others
Outranks (ByMoments order moments) schedule thread others =
    OutranksBy (ranks_by_moments order moments schedule) thread others
Outranks (ByList listed) schedule thread others = ⊥

-- the later chances say the same of each thread but one
pub record SameOthers (thread : ℕ) (earlier later : List Chance) : Type 0 where
  pub threads : length later ≡ length earlier
  pub others : (other : ℕ) → other < length earlier → other ≢ thread
      → chance_of later other ≡ chance_of earlier other

-- each thread but one that is open in the later chances, and wasn't in the earlier ones, is one of
-- the bits
pub record OpensOnly (thread opened : ℕ) (earlier later : List Chance) : Type 0 where
  pub threads : length later ≡ length earlier
  pub others : (other : ℕ) → other < length earlier → other ≢ thread → bit_at opened other ≡ 0
      → is_open (chance_of later other) ≡ true → is_open (chance_of earlier other) ≡ true

-- the target of an Unknown is Away
abbrev pub HasAwayTarget : List Chance → Chance → Type 0
HasAwayTarget chances (Unknown target) =
    (target < length chances) × (chance_of chances target ≡ Away)
HasAwayTarget chances Away = Unit {0}
HasAwayTarget chances Ready = Unit {0}
HasAwayTarget chances Blocked = Unit {0}
HasAwayTarget chances Ended = Unit {0}

-- the target of every Unknown is
abbrev pub TargetsAreAway : List Chance → Type 0
TargetsAreAway chances =
    (thread : ℕ) → thread < length chances → HasAwayTarget chances (chance_of chances thread)

-- only a list of threads can be departed from
abbrev pub MayDepart : Plan → Type 0
MayDepart (ByPoints order points) = ⊥
MayDepart (ByMoments order moments) = ⊥
MayDepart (ByList listed) = Unit {0}

-- A picked thread is Ready, one that is waited for is Away, and where nobody is picked every thread
-- is Blocked or Ended.
abbrev pub IsSoundPick : Plan → List Chance → Pick → Type 0
IsSoundPick plan chances (Thread thread) =
    (thread < length chances) × (chance_of chances thread ≡ Ready)
IsSoundPick plan chances (Waits thread) =
    (thread < length chances) × (chance_of chances thread ≡ Away)
IsSoundPick plan chances Nobody =
    (thread : ℕ) → thread < length chances → is_open (chance_of chances thread) ≡ false
IsSoundPick plan chances (Departs thread) = MayDepart plan × (thread < length chances)

-- whether a thread's next step is known: neither Away nor Unknown
abbrev pub is_known : Chance → Bool
is_known Away = false
is_known Ready = true
is_known Blocked = true
is_known (Unknown target) = false
is_known Ended = true

-- the later chances say the same of each thread that is known in the earlier ones
pub record KeepsKnown (earlier later : List Chance) : Type 0 where
  pub threads : length later ≡ length earlier
  pub known : (thread : ℕ) → thread < length earlier → is_known (chance_of earlier thread) ≡ true
      → chance_of later thread ≡ chance_of earlier thread

-- the pick waits for a thread
abbrev pub IsWaits : Pick → Type 0
IsWaits (Waits thread) = Unit {0}
IsWaits (Thread thread) = ⊥
IsWaits Nobody = ⊥
IsWaits (Departs thread) = ⊥
