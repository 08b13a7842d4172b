-- The board of a book: the store, and each thread's next post. Nothing here is needed to read a
-- public contract.
use Rattle.std.specs.Prelude.{◌≡◌, ◌≢◌, ◌<◌, ◌≤◌, ℕ, ℤ, pos, Bool, true, false, ◌==◌, ◌||◌, ◌&&◌}
use Rattle.std.specs.Prelude.{List}
use Rattle.std.specs.Prelude.{length, if◌then◌else◌}
use Rattle.std.specs.Prelude.{map, Option, Some, None, slice_index_or, slice_set}
use Rattle.pct_ask.specs.declared.ask.Ask.{Ask}
use Rattle.std.specs.Int.{bit_at}
use Rattle.pct_ask.specs.declared.ask.Ask.TheVariants.{Lock, Regain, Down, Leave, Join, Begin}
use Rattle.pct_ask.specs.declared.ask.Ask.TheVariants.{RdLock, WrLock}
use Rattle.pct_ask.specs.declared.ask.Post.{Post}
use Rattle.pct_ask.specs.declared.event.Event.{Event}
use Rattle.pct_ask.specs.declared.event.Standing.{Standing}
use Rattle.pct_ask.specs.declared.verdict.Verdict.{Verdict}
use Rattle.pct_ask.specs.Objects.{PostIsInRange}
use Rattle.sync_store.specs.declared.touched.Touched.{Touched}
use Rattle.sync_store.specs.declared.touched.Touched.TheVariants.{Mutex}
use Rattle.sync_store.specs.Store.{StoreState, sizes_of}
use Rattle.sync_store.specs.Effect.{Effect, Goes, Stops, effect, store_after}
use Rattle.sync_store.specs.Touched.{depends_on}
use Rattle.policy_pick.specs.declared.chance.Chance.{Chance}
use Rattle.policy_pick.specs.declared.chance.Pick.{Pick}
use Rattle.policy_pick.specs.Plan.{Plan, SpeaksOf}
use Rattle.policy_pick.specs.declared.chance.Chance.TheVariants.{Away, Ready}
use Rattle.policy_pick.specs.declared.chance.Pick.TheVariants.{Thread}
use Rattle.policy_pick.specs.Choice.{SameOthers, OpensOnly, TargetsAreAway, chance_of, choice}
use Rattle.turn_book.specs.Chances.{NextPosts, chance, chances}
use Rattle.turn_book.specs.Told.{standing_by}
use Rattle.pct_ask.specs.declared.limits.TheConstants.{MAX_THREADS, MAX_OBJECTS}

pub record BoardState : Type 0 where
  pub store : StoreState
  pub posts : List (Option Post)

-- each thread's next post, from the list of them
abbrev pub next_posts_of : List (Option Post) → NextPosts
next_posts_of posts t = slice_index_or posts t None

abbrev pub ask_of_post : Option Post → Option Ask
ask_of_post None = None
ask_of_post (Some post) = post.ask

-- the ids of every post are in range
abbrev pub ArePostsInRange : StoreState → List (Option Post) → Type 0
ArePostsInRange store posts =
    (t : ℕ) → PostIsInRange (sizes_of store) (ask_of_post (next_posts_of posts t))

-- what the thread is told by a step, and how the run ends
abbrev pub answer_of : Effect → ℤ
answer_of (Goes after answer) = answer
answer_of (Stops verdict) = pos 0

abbrev pub verdict_of : Effect → Option Verdict
verdict_of (Goes after answer) = None
verdict_of (Stops verdict) = Some verdict

-- a thread takes the step that it asks, and its next post isn't known any more
pub record TakesStep (old : BoardState) (t : ℕ) (event : Event) (ends : Option Verdict)
    (new : BoardState) : Type 0 where
  pub thread : event.thread ≡ t
  pub asked : next_posts_of old.posts t ≡ Some (record { ask = Some event.ask; line = event.line })
  pub answer : event.answer ≡ answer_of (effect old.store t event.line event.ask)
  pub verdict : ends ≡ verdict_of (effect old.store t event.line event.ask)
  pub store : new.store ≡ store_after old.store (effect old.store t event.line event.ask)
  pub posts : new.posts ≡ slice_set old.posts t None

-- the chances of all threads of a board
abbrev pub chances_on : BoardState → List Chance
chances_on board = chances board.store.threads board.store (next_posts_of board.posts)

-- the board after a thread's post
abbrev pub posted_on : BoardState → ℕ → Post → BoardState
posted_on board t post = record {
  store = board.store;
  posts = slice_set board.posts t (Some post);
}

-- a thread posts what it may do now, which changes no other thread's chance, and takes that step
pub record PostsAndSteps (old : BoardState) (t : ℕ) (post : Post) (event : Event)
    (ends : Option Verdict) (new : BoardState) : Type 0 where
  pub ready : chance old.store (next_posts_of (posted_on old t post).posts) t ≡ Ready
  pub others : SameOthers t (chances_on old) (chances_on (posted_on old t post))
  pub targets : TargetsAreAway (chances_on (posted_on old t post))
  pub step : TakesStep (posted_on old t post) t event ends new

-- whether an ask joins a thread
abbrev pub joins : ℕ → Ask → Bool
joins t (Join u) = u == t
joins t ask = false

-- the same of an ask, where there is one
abbrev pub joins_ask : ℕ → Option Ask → Bool
joins_ask t None = false
joins_ask t (Some ask) = joins t ask

-- each thread that a next post joins is noted
abbrev pub AreNoted : List (Option Post) → List Bool → Type 0
AreNoted posts joined =
    (t u : ℕ) → joins_ask t (ask_of_post (next_posts_of posts u)) ≡ true
    → slice_index_or joined t false ≡ true

-- whether an ask may have to wait: for an object, for the end of a thread or for its own start
abbrev pub may_wait : Ask → Bool
may_wait (Lock m) = true
may_wait (Regain c m) = true
may_wait (Down s) = true
may_wait (Leave b) = true
may_wait (Join u) = true
may_wait Begin = true
may_wait (RdLock l) = true
may_wait (WrLock l) = true
may_wait ask = false

-- whether an ask locks the mutex m
abbrev pub locks : ℕ → Ask → Bool
locks m (Lock n) = n == m
locks m ask = false

-- the same of an ask, where there is one
abbrev pub locks_ask : ℕ → Option Ask → Bool
locks_ask m None = false
locks_ask m (Some ask) = locks m ask

-- whether an ask may have to wait, and doesn't lock a mutex
abbrev pub waits_otherwise : Ask → Bool
waits_otherwise (Lock m) = false
waits_otherwise ask = may_wait ask

-- the same of an ask, where there is one
abbrev pub waits_otherwise_ask : Option Ask → Bool
waits_otherwise_ask None = false
waits_otherwise_ask (Some ask) = waits_otherwise ask

-- The bits of a word name threads that there are, among them each one whose next post may have to
-- wait otherwise than for a mutex that it locks, and none whose next post locks one.
pub record AreWaiters (threads : ℕ) (posts : List (Option Post)) (waiters : ℕ) : Type 0 where
  pub each : (u : ℕ) → u < MAX_THREADS
      → waits_otherwise_ask (ask_of_post (next_posts_of posts u)) ≡ true
      → bit_at waiters u ≡ 1
  pub below : (u : ℕ) → u < MAX_THREADS → bit_at waiters u ≡ 1 → u < threads
  pub unlocking : (m u : ℕ) → u < MAX_THREADS → bit_at waiters u ≡ 1
      → locks_ask m (ask_of_post (next_posts_of posts u)) ≡ false

-- Of each mutex there is a word whose bits name the threads whose next post locks it.
abbrev pub AreLockers : List (Option Post) → List ℕ → Type 0
AreLockers posts lockers =
    (m u : ℕ) → u < MAX_THREADS
    → bit_at (slice_index_or lockers m 0) u
    ≡ (if locks_ask m (ask_of_post (next_posts_of posts u)) then 1 else 0)

-- the threads that lock an object, as bits: none where it is no mutex
abbrev pub lockers_at : List ℕ → Touched → ℕ
lockers_at lockers (Mutex m) = slice_index_or lockers m 0
lockers_at lockers object = 0

-- the next posts of the threads of the bits all lock one mutex
abbrev pub LockOne : List (Option Post) → ℕ → Type 0
LockOne posts alike =
    (m : ℕ)
    × ((u : ℕ) → u < MAX_THREADS → bit_at alike u ≡ 1
    → locks_ask m (ask_of_post (next_posts_of posts u)) ≡ true)

-- an ask locks none of the stale mutexes: those that a step touched since their lockers were looked
-- at
abbrev pub IsFresh : ℕ → Option Ask → Type 0
IsFresh stale ask = (m : ℕ) → m < MAX_OBJECTS → bit_at stale m ≡ 1 → locks_ask m ask ≡ false

-- the chance that is kept of a thread is its chance, unless its next post locks a stale mutex
abbrev pub AreKnownChances : StoreState → List (Option Post) → ℕ → List Chance → Type 0
AreKnownChances store posts stale known =
    (u : ℕ) → u < store.threads → IsFresh stale (ask_of_post (next_posts_of posts u))
    → chance_of known u ≡ chance store (next_posts_of posts) u

-- the object that is touched is a stale mutex, or none
abbrev pub IsStale : ℕ → Touched → Type 0
IsStale stale object = (m : ℕ) → object ≡ Mutex m → (m < MAX_OBJECTS) × (bit_at stale m ≡ 1)

-- what is kept beside the store and the posts is what they give
pub record IsBoard (store : StoreState) (posts : List (Option Post)) (stands : List Standing)
    (known : List Chance) (stale : ℕ) : Type 0 where
  pub threads : length posts ≡ store.threads
  pub few : store.threads ≤ MAX_THREADS
  pub in_range : ArePostsInRange store posts
  pub standings : stands ≡ map standing_by posts
  pub as_many : length known ≡ store.threads
  pub chances : AreKnownChances store posts stale known

-- a board that keeps these beside the store and the posts
pub record IsNotedBoard (store : StoreState) (posts : List (Option Post)) (stands : List Standing)
    (known : List Chance) (joined : List Bool) (waiters : ℕ) (lockers : List ℕ) (stale : ℕ)
    : Type 0 where
  pub board : IsBoard store posts stands known stale
  pub noted : AreNoted posts joined
  pub waiting : AreWaiters store.threads posts waiters
  pub mutexes : length lockers ≡ (sizes_of store).mutexes
  pub few_mutexes : length lockers ≤ MAX_OBJECTS
  pub locking : AreLockers posts lockers

abbrev pub concerns_ask : ℕ → Touched → ℕ → Option Ask → Bool
concerns_ask t object u None = false
concerns_ask t object u (Some ask) = may_wait ask && (depends_on u ask object || joins t ask)

-- whether the chance of a thread u with this post may change where the thread t posts or takes a
-- step that touches an object
abbrev pub concerns : ℕ → Touched → ℕ → Option Post → Bool
concerns t object u post = u == t || concerns_ask t object u (ask_of_post post)

-- The chances before a thread's step or post: those of the threads that it doesn't concern have
-- stayed, and those of the waiters are known.
pub record WereChances (store : StoreState) (posts : List (Option Post)) (t : ℕ) (object : Touched)
    (waiters : ℕ) (known earlier : List Chance) : Type 0 where
  pub threads : length earlier ≡ store.threads
  pub stayed : (u : ℕ) → u < store.threads
      → concerns t object u (next_posts_of posts u) ≡ false
      → chance_of earlier u ≡ chance store (next_posts_of posts) u
  pub waiting : (u : ℕ) → u < store.threads → u ≢ t → bit_at waiters u ≡ 1
      → chance_of known u ≡ chance_of earlier u

-- It was the choice before some chances, of the thread alone, became these.
pub record WasChosen (plan : Plan) (schedule : List ℕ) (t : ℕ) (next : Pick) (later : List Chance)
    : Type 0 where
  pub earlier : List Chance
  pub others : SameOthers t earlier later
  pub chosen : next ≡ choice plan schedule earlier

-- It was the turn of the thread before some chances became these. It is away in them, and each
-- other thread that is open, and wasn't, is one of the bits.
pub record HadTurn (plan : Plan) (schedule : List ℕ) (t opened : ℕ) (later : List Chance)
    : Type 0 where
  pub earlier : List Chance
  pub speaks : SpeaksOf plan (length earlier)
  pub opens : OpensOnly t opened earlier later
  pub turn : choice plan schedule earlier ≡ Thread t
  pub away : chance_of later t ≡ Away
