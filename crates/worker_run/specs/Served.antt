-- Bodies that are served over a lock, by what their seats have seen (this project).
use Rattle.std.specs.Prelude.{◌≡◌, ◌≢◌, ◌<◌, ◌≤◌, ◌+◌, ◌⊎◌, ℕ, ℤ, Bool, true, false, List, []}
use Rattle.std.specs.Prelude.{◌++◌, length, map, take, Option, Some, None, slice_get}
use Rattle.std.specs.Prelude.{slice_index_or}
use Rattle.pct_ask.specs.declared.ask.Post.{Post}
use Rattle.pct_ask.specs.declared.event.Standing.TheVariants.{Ended}
use Rattle.pct_ask.specs.declared.verdict.Outcome.{Outcome}
use Rattle.pct_ask.specs.Objects.{Sizes}
use Rattle.pct_ask.specs.Bodies.{Pending, IsInRangeBody}
use Rattle.sync_store.specs.World.{answers_of}
use Rattle.policy_pick.specs.Plan.{SpeaksOf}
use Rattle.turn_book.specs.Posts.{source_of}
use Rattle.turn_book.specs.Obeys.{outcome_after}
use Rattle.turn_book.specs.Told.{BookState, Within, standing_of}
use Rattle.turn_lock.specs.Seen.{SameOf, ObeysPlan, pairs_of, posts_seen, owes_of}
use Rattle.turn_lock.specs.Rule.{Serves}
use Rattle.turn_lock.specs.declared.turn.Turn.{Turn}
use Rattle.turn_lock.specs.declared.turn.Turn.TheVariants.{Over}
use Rattle.turn_lock.specs.declared.view.View.{View}
use Rattle.worker_run.specs.declared.runner.Runner.{Runner}

-- nothing was posted, and no step was taken
pub record IsUnposted (seen : BookState) : Type 0 where
  pub steps : seen.trace ≡ []
  pub posts : (t : ℕ) → posts_seen seen t ≡ []

-- ---- What follows is for this crate's own use.

-- each post of the thread is what its body posts after the answers before it
abbrev pub Follows : Pending → ℕ → BookState → Type 0
Follows start t seen = (n : ℕ) (post : Post) → slice_get (posts_seen seen t) n ≡ Some post
    → post ≡ start (take n (answers_of t seen.trace))

-- A body that was `start` at first runs as the thread: the thread's posts were its own, and it has
-- been told the thread's answers.
pub record IsRunning (start now : Pending) (answered t : ℕ) (seen : BookState) : Type 0 where
  pub follows : Follows start t seen
  pub next : (answers : List ℤ) → now answers ≡ start (answers_of t seen.trace ++ answers)
  pub counted : answered ≡ length (answers_of t seen.trace)
  pub few : length (posts_seen seen t) ≤ length (pairs_of seen t) + 1

-- the runner at an index, if there is one
abbrev pub runner_at : {B : Type 0} → List (Option (Runner B)) → ℕ → Option (Runner B)
runner_at runners index = slice_index_or runners index None

-- The runners are a share with the seat: its threads are those that have a runner. The first index
-- is that of the thread `base`.
pub record IsShare {B : Type 0} (pending : B → Pending) (start : ℕ → Pending) (base : ℕ)
    (runners : List (Option (Runner B))) (v : View) : Type 0 where
  pub index : (t : ℕ) → Serves v t
      → (index : ℕ) × (runner : Runner B) × (t ≡ base + index)
      × (runner_at runners index ≡ Some runner)
  pub running : (t index : ℕ) (runner : Runner B)
      → t ≡ base + index → runner_at runners index ≡ Some runner
      → Serves v t × IsRunning (start t) (pending runner.body) runner.answered t v.seen

-- the same of bodies that name only what there is
abbrev pub HasShare : {B : Type 0}
    → Sizes → (B → Pending) → ℕ → List (Option (Runner B)) → View → Type 0
HasShare sizes pending base runners v =
    (start : ℕ → Pending) × ((t : ℕ) → IsInRangeBody sizes (start t))
    × IsShare pending start base runners v

abbrev pub AllOwe : View → Type 0
AllOwe v = (t : ℕ) → Serves v t → owes_of v.seen t ≡ true

abbrev pub NoneOwes : View → Type 0
NoneOwes v = (t : ℕ) → Serves v t → owes_of v.seen t ≡ false

-- the run is over, by what was posted
pub record IsOver (seen : BookState) : Type 0 where
  pub speaks : SpeaksOf seen.plan seen.deal.threads
  pub obeys : ObeysPlan seen
  pub outcome : Outcome
  pub ends : outcome_after seen.plan seen.deal (source_of seen.posts) seen.limit seen.trace
      ≡ Some outcome

-- an answer that says so
abbrev pub is_over : Turn → Bool
is_over (Over outcome) = true
is_over turn = false

-- the seat went on
pub record GoesOn (v w : View) : Type 0 where
  pub within : Within v.seen w.seen
  pub serves : w.serves ≡ v.serves

-- by its thread alone
pub record Moves (t : ℕ) (v w : View) : Type 0 where
  pub on : GoesOn v w
  pub others : (u : ℕ) → Serves v u → u ≢ t → SameOf u v.seen w.seen

-- What stands of a thread that there isn't: it still has no posts.
abbrev pub StaysOutside : BookState → BookState → Type 0
StaysOutside earlier later =
    (t : ℕ) → later.deal.threads ≤ t → posts_seen earlier t ≡ [] → posts_seen later t ≡ []

-- The threads of the seat were served by their bodies until the run was over or all of them had
-- ended.
pub record IsServed (start : ℕ → Pending) (v w : View) : Type 0 where
  pub within : Within v.seen w.seen
  pub serves : (t : ℕ) → Serves v t → Serves w t
  pub follows : (t : ℕ) → Serves v t → Follows (start t) t w.seen
  pub speaks : (t : ℕ) → Serves v t → SpeaksOf w.seen.plan w.seen.deal.threads
  pub outside : StaysOutside v.seen w.seen
  pub done : IsOver w.seen ⊎ ((t : ℕ) → Serves v t → standing_of w.seen t ≡ Ended)

-- a runner that has had no answers for each body
abbrev pub first_runners : {B : Type 0} → List B → List (Option (Runner B))
first_runners bodies = map (λ body. Some (record { body = body; answered = 0 })) bodies

-- A seat that serves the first so many threads, and has seen no more than that nothing was posted.
pub record IsWhole (threads : ℕ) (seen : BookState) (v : View) : Type 0 where
  pub serves : (t : ℕ) → t < threads → Serves v t
  pub within : (t : ℕ) → Serves v t → t < threads
  pub unposted : IsUnposted v.seen
  pub later : Within seen v.seen
