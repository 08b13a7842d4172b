-- What is known of each thread's next step, from the store and the next posts that are known, and
-- how a run ends where nobody may go on (this project; an idle thread is one that nobody has
-- started).
use Rattle.std.specs.Prelude.{ℕ, Bool, true, false, ◌&&◌, not, if◌then◌else◌, List, [], ◌∷◌, map}
use Rattle.std.specs.Prelude.{Option, Some, None, is_none}
use Rattle.std.specs.Option.{option_map_or}
use Rattle.std.specs.List.{filter_map, range_with_len}
use Rattle.pct_ask.specs.declared.ask.Ask.{Ask}
use Rattle.pct_ask.specs.declared.ask.Ask.TheVariants.{Begin}
use Rattle.pct_ask.specs.declared.ask.Post.{Post}
use Rattle.pct_ask.specs.declared.verdict.Verdict.{Verdict}
use Rattle.pct_ask.specs.declared.verdict.Verdict.TheVariants.{Passed, Stuck}
use Rattle.sync_store.specs.declared.ready.Ready.{Ready}
use Rattle.sync_store.specs.declared.ready.Ready.TheVariants.{Yes, No, Unknown as UnknownYet}
use Rattle.sync_store.specs.Store.{StoreState, is_on}
use Rattle.sync_store.specs.Ready.{readiness}
use Rattle.policy_pick.specs.declared.chance.Chance.{Chance}
use Rattle.policy_pick.specs.declared.chance.Chance.TheVariants.{Away, Ready as Goes, Blocked}
use Rattle.policy_pick.specs.declared.chance.Chance.TheVariants.{Unknown, Ended}

-- each thread's next post, where it is known
abbrev pub NextPosts : Type 0
NextPosts = ℕ → Option Post

-- whether a thread's next post isn't known
abbrev pub is_unknown : NextPosts → ℕ → Bool
is_unknown next t = is_none (next t)

-- whether a thread is known to have ended
abbrev pub is_ended : NextPosts → ℕ → Bool
is_ended next t = option_map_or (λ post. is_none post.ask) (next t) false

-- the chance of a thread that asks, by what is known of its ask
abbrev pub chance_by : Ready → Chance
chance_by Yes = Goes
chance_by No = Blocked
chance_by (UnknownYet target) = Unknown target

-- the chance of a thread by the ask of its next post; it has ended where there is none
abbrev pub chance_of_ask : StoreState → (ℕ → Bool) → (ℕ → Bool) → ℕ → Option Ask → Chance
chance_of_ask store away ended t None = Ended
chance_of_ask store away ended t (Some ask) = chance_by (readiness store away ended t ask)

-- the chance of a thread by its next post; it is away where that isn't known
abbrev pub chance_of_post : StoreState → (ℕ → Bool) → (ℕ → Bool) → ℕ → Option Post → Chance
chance_of_post store away ended t None = Away
chance_of_post store away ended t (Some post) = chance_of_ask store away ended t post.ask

-- A thread's chance: Away where its next post isn't known, Ended where that has no ask, Unknown
-- where it joins a thread whose next post isn't known, and else Ready or Blocked by whether the ask
-- is enabled.
abbrev pub chance : StoreState → NextPosts → ℕ → Chance
chance store next t = chance_of_post store (is_unknown next) (is_ended next) t (next t)

-- the threads by rising number
abbrev pub threads_below : ℕ → List ℕ
threads_below threads = range_with_len 0 threads

-- the chances of so many threads
abbrev pub chances : ℕ → StoreState → NextPosts → List Chance
chances threads store next = map (chance store next) (threads_below threads)

-- an ask that waits for the thread to be started
abbrev pub is_begin : Ask → Bool
is_begin Begin = true
is_begin ask = false

-- a thread with this ask waits to be started and hasn't been
abbrev pub is_idle : StoreState → ℕ → Ask → Bool
is_idle store t ask = is_begin ask && not (is_on t store.started)

-- a thread and its line, by its ask: None where it has ended or is idle
abbrev pub blocked_by_ask : StoreState → ℕ → ℕ → Option Ask → Option (ℕ × ℕ)
blocked_by_ask store t line None = None
blocked_by_ask store t line (Some ask) = if is_idle store t ask then None else Some (t, line)

-- the same by its next post: None where that isn't known, too
abbrev pub blocked_by_post : StoreState → ℕ → Option Post → Option (ℕ × ℕ)
blocked_by_post store t None = None
blocked_by_post store t (Some post) = blocked_by_ask store t post.line post.ask

-- a thread that asks and isn't idle, with its line
abbrev pub blocked_at : StoreState → NextPosts → ℕ → Option (ℕ × ℕ)
blocked_at store next t = blocked_by_post store t (next t)

-- stuck with these threads at their lines, and passed where there are none
abbrev pub verdict_of_blocked : List (ℕ × ℕ) → Verdict
verdict_of_blocked [] = Passed
verdict_of_blocked (place ∷ places) = Stuck (place ∷ places)

-- How a run ends where nobody may go on: it has passed where every thread has ended or is idle, and
-- else it is stuck, with all other threads.
abbrev pub rest_verdict : ℕ → StoreState → NextPosts → Verdict
rest_verdict threads store next =
    verdict_of_blocked (filter_map (blocked_at store next) (threads_below threads))
