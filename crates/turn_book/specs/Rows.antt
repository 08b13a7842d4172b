-- The definitions at worked values.
use Rattle.std.specs.Prelude.{◌≡◌, ℕ, pos, List, [], ◌∷◌, Option, Some, None, true, refl}
use Rattle.std.specs.Prelude.{slice_index_or}
use Rattle.pct_ask.specs.declared.ask.Ask.TheVariants.{Read, Join, Yield, Begin, Lock}
use Rattle.pct_ask.specs.declared.ask.Post.{Post}
use Rattle.pct_ask.specs.declared.event.Event.{Event}
use Rattle.pct_ask.specs.declared.verdict.Verdict.TheVariants.{Passed, Stuck, Cut}
use Rattle.pct_ask.specs.declared.verdict.Outcome.TheVariants.{Verdict as Ends}
use Rattle.policy_pick.specs.declared.chance.Chance.TheVariants.{Away, Ready, Blocked, Unknown}
use Rattle.policy_pick.specs.declared.chance.Chance.TheVariants.{Ended}
use Rattle.policy_pick.specs.declared.chance.Pick.TheVariants.{Waits, Nobody, Departs}
use Rattle.sync_store.specs.Store.{StoreState}
use Rattle.turn_book.specs.Chances.{NextPosts, chances, rest_verdict}
use Rattle.turn_book.specs.Posts.{source_of}
use Rattle.turn_book.specs.Obeys.{outcome_by_pick}

-- one variable and one mutex, which the second of three threads owns
abbrev store : StoreState
store = record {
  threads = 3;
  values = pos 0 ∷ [];
  owners = Some 1 ∷ [];
  conditions = [];
  numbers = [];
  barriers = [];
  started = [];
  rwlocks = [];
}

abbrev next_of : List (Option Post) → NextPosts
next_of posts t = slice_index_or posts t None

abbrev read_post : Option Post
read_post = Some (record { ask = Some (Read 0); line = 4 })

abbrev join_first : Option Post
join_first = Some (record { ask = Some (Join 0); line = 12 })

abbrev lock : Option Post
lock = Some (record { ask = Some (Lock 0); line = 6 })

abbrev begin : Option Post
begin = Some (record { ask = Some Begin; line = 8 })

abbrev end_post : Option Post
end_post = Some (record { ask = None; line = 9 })

-- a join of a thread that hasn't posted is unknown; of one that asks it is blocked, and of one that
-- has ended ready
pub join_of_away : chances 3 store (next_of (None ∷ read_post ∷ join_first ∷ []))
    ≡ Away ∷ Ready ∷ Unknown 0 ∷ []
join_of_away = refl

pub join_of_asking : chances 3 store (next_of (lock ∷ read_post ∷ join_first ∷ []))
    ≡ Blocked ∷ Ready ∷ Blocked ∷ []
join_of_asking = refl

pub join_of_ended : chances 3 store (next_of (end_post ∷ read_post ∷ join_first ∷ []))
    ≡ Ended ∷ Ready ∷ Ready ∷ []
join_of_ended = refl

-- an idle thread doesn't keep a run from passing, but one that joins it is stuck
pub idle_passes : rest_verdict 3 store (next_of (end_post ∷ begin ∷ end_post ∷ [])) ≡ Passed
idle_passes = refl

pub joined_idle_is_stuck : rest_verdict 3 store (next_of (lock ∷ begin ∷ join_first ∷ []))
    ≡ Stuck ((0, 6) ∷ (2, 12) ∷ [])
joined_idle_is_stuck = refl

-- at the limit a run in which nobody may go on isn't cut, and one that would depart is
pub stuck_at_the_limit : outcome_by_pick Passed true Nobody ≡ Some (Ends Passed)
stuck_at_the_limit = refl

pub departs_at_the_limit : outcome_by_pick Passed true (Departs 1) ≡ Some (Ends Cut)
departs_at_the_limit = refl

pub waits_at_the_limit : outcome_by_pick Passed true (Waits 1) ≡ None
waits_at_the_limit = refl

-- a thread's next post stands behind as many as it has steps
abbrev step : ℕ → Event
step t = record { thread = t; line = 4; ask = Read 0; answer = pos 0 }

abbrev posts : List (List Post)
posts =
    (record { ask = Some (Read 0); line = 4 } ∷ record { ask = Some Yield; line = 5 } ∷ [])
    ∷ [] ∷ []

pub first_post : source_of posts 0 (step 1 ∷ []) ≡ Some (record { ask = Some (Read 0); line = 4 })
first_post = refl

pub second_post : source_of posts 0 (step 1 ∷ step 0 ∷ [])
    ≡ Some (record { ask = Some Yield; line = 5 })
second_post = refl

pub no_third_post : source_of posts 0 (step 0 ∷ step 0 ∷ []) ≡ None
no_third_post = refl
