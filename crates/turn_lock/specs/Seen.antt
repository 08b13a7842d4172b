-- How what two have seen of one book stands to each other (this project). It names no view, so that
-- the view's own file may import it.
use Rattle.std.specs.Prelude.{◌≡◌, ℕ, ◌==◌, Bool, List, ◌++◌, length}
use Rattle.pct_ask.specs.declared.ask.Post.{Post}
use Rattle.pct_ask.specs.declared.event.Event.{Event}
use Rattle.turn_book.specs.Posts.{own_events, posts_of, source_of}
use Rattle.turn_book.specs.Obeys.{Obeys}
use Rattle.turn_book.specs.Told.{BookState}

-- the first list is how the second begins
abbrev pub Begins : {A : Type 0} → List A → List A → Type 0
Begins {A} before after = (rest : List A) × (after ≡ before ++ rest)

-- what a thread was told: its steps, each with its ask and its answer
abbrev pub pairs_of : BookState → ℕ → List Event
pairs_of seen t = own_events t seen.trace

-- a thread's posts
abbrev pub posts_seen : BookState → ℕ → List Post
posts_seen seen t = posts_of seen.posts t

-- the thread has the same pairs and posts in both
pub record SameOf (t : ℕ) (one other : BookState) : Type 0 where
  pub pairs : pairs_of other t ≡ pairs_of one t
  pub posts : posts_seen other t ≡ posts_seen one t

-- the next post of the thread was not taken yet: it has as many pairs as posts
abbrev pub owes_of : BookState → ℕ → Bool
owes_of seen t = length (posts_seen seen t) == length (pairs_of seen t)

-- the steps obey the plan over the posts
abbrev pub ObeysPlan : BookState → Type 0
ObeysPlan seen = Obeys seen.plan seen.deal (source_of seen.posts) seen.limit seen.trace
