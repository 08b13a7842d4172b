-- Lists of the posts of each thread (this project).
use Rattle.std.specs.Prelude.{◌≡◌, ℕ, ◌==◌, List, [], ◌++◌, length, filter, map, Some, slice_get}
use Rattle.std.specs.Prelude.{slice_index_or}
use Rattle.pct_ask.specs.declared.ask.Post.{Post}
use Rattle.pct_ask.specs.declared.event.Event.{Event}
use Rattle.sync_store.specs.World.{Source}

-- the threads of some steps, in their order
abbrev pub schedule_of : List Event → List ℕ
schedule_of events = map (λ e. e.thread) events

-- a thread's own steps
abbrev pub own_events : ℕ → List Event → List Event
own_events t events = filter (λ e. e.thread == t) events

-- a thread's list; a thread that there isn't has posted nothing
abbrev pub posts_of : List (List Post) → ℕ → List Post
posts_of posts t = slice_index_or posts t []

-- After some steps a thread's next post is the item behind as many as it has steps, and unknown
-- where there is none.
abbrev pub source_of : List (List Post) → Source
source_of posts t events = slice_get (posts_of posts t) (length (own_events t events))

-- each thread has posted the same, and perhaps more
abbrev pub HasMore : List (List Post) → List (List Post) → Type 0
HasMore earlier later =
    (t : ℕ) → (rest : List Post) × (posts_of later t ≡ posts_of earlier t ++ rest)

-- what one source knows after any of the first of these steps, another knows too
abbrev pub KeepsPosts : List Event → Source → Source → Type 0
KeepsPosts events earlier later =
    (before after : List Event) (t : ℕ) (post : Post) → events ≡ before ++ after
    → earlier t before ≡ Some post → later t before ≡ Some post
