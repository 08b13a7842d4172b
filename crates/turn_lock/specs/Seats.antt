-- How a seat is cut in two, and how two seats are made one (this project).
use Rattle.std.specs.Prelude.{ℕ, Bool, true, false, ◌||◌, nat_lt, if◌then◌else◌, List, [], ◌∷◌}
use Rattle.std.specs.Prelude.{length, replicate, slice_set}
use Rattle.pct_ask.specs.declared.ask.Post.{Post}
use Rattle.turn_book.specs.Posts.{source_of}
use Rattle.turn_book.specs.Obeys.{outcome_after}
use Rattle.turn_book.specs.Told.{BookState}
use Rattle.turn_lock.specs.declared.view.View.{View}
use Rattle.pct_ask.specs.declared.limits.TheConstants.{MAX_THREADS}

-- the seat without one of its threads
abbrev pub seat_without : View → ℕ → View
seat_without v t = record {
  live = v.live;
  serves = slice_set v.serves t false;
  seen = v.seen;
  turned = v.turned;
  takes = v.takes;
  held = v.held;
  base = v.base;
  left = v.left;
  right = v.right;
  left_had = v.left_had;
  right_had = v.right_had;
}

-- a new seat that serves the thread alone
abbrev pub seat_of_one : View → ℕ → View
seat_of_one v t = record {
  live = true;
  serves = slice_set (replicate MAX_THREADS false) t true;
  seen = v.seen;
  turned = [];
  takes = 0;
  held = false;
  base = record { book = v.seen; board = [] };
  left = v.seen;
  right = v.seen;
  left_had = [];
  right_had = [];
}

-- the longer one of two lists, and the first where they have the same length
abbrev pub longer_list : {A : Type 0} → List A → List A → List A
longer_list one other = if nat_lt (length one) (length other) then other else one

-- the longer list of posts of each thread
abbrev pub longer_posts : List (List Post) → List (List Post) → List (List Post)
longer_posts [] others = others
longer_posts (one ∷ ones) [] = one ∷ ones
longer_posts (one ∷ ones) (other ∷ others) = longer_list one other ∷ longer_posts ones others

-- What two seats have seen together: the longer trace, and each thread's longer list of posts, with
-- what became of the run by these.
abbrev pub seen_together : BookState → BookState → BookState
seen_together one other = record {
  deal = one.deal;
  limit = one.limit;
  plan = one.plan;
  posts = longer_posts one.posts other.posts;
  trace = longer_list one.trace other.trace;
  outcome =
      outcome_after one.plan one.deal (source_of (longer_posts one.posts other.posts)) one.limit
      (longer_list one.trace other.trace);
}

-- the threads of both
abbrev pub flags_of_either : List Bool → List Bool → List Bool
flags_of_either [] others = others
flags_of_either (one ∷ ones) [] = one ∷ ones
flags_of_either (one ∷ ones) (other ∷ others) = (one || other) ∷ flags_of_either ones others

-- the seat with the threads of the other
abbrev pub joined_seat : View → View → View
joined_seat v w = record {
  live = true;
  serves = flags_of_either v.serves w.serves;
  seen = seen_together v.seen w.seen;
  turned = v.turned;
  takes = v.takes;
  held = v.held;
  base = v.base;
  left = v.seen;
  right = w.seen;
  left_had = v.serves;
  right_had = w.serves;
}
