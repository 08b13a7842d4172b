-- The priorities of the PCT scheduler (Burckhardt, Kothari, Musuvathi, Nagarakatte: "A Randomized
-- Scheduler with Probabilistic Guarantees of Finding Bugs", 2010), of a whole schedule: a list of
-- threads, one a step.
use Rattle.std.specs.Prelude.{ℕ, Bool, ◌+◌, ◌-◌, ◌==◌, ◌&&◌, nat_lt, if◌then◌else◌, List, length}
use Rattle.std.specs.Prelude.{map, take}
use Rattle.std.specs.List.{count_by, position_or_len, range_with_len}
use Rattle.rank_now.specs.Positions.{greatest_where, passes_at, last_position}
use Rattle.rank_now.specs.declared.moment.Moment.{Moment}

-- the thread's place in the order, from 0
abbrev pub place_in_order : List ℕ → ℕ → ℕ
place_in_order order thread = position_or_len (λ other. other == thread) order

-- The thread's last step at which some index is given, and 0 where there is none. `given step` is
-- the index that is given at a step, and 0 where none is.
abbrev pub last_change : (ℕ → ℕ) → List ℕ → ℕ → ℕ
last_change given schedule thread =
    greatest_where
    (λ step. passes_at (λ other. other == thread) schedule step && nat_lt 0 (given step))
    (length schedule)

-- The thread's rank after the schedule, with `count` change points: the index that it was given
-- last (PCT). Before that the first of n threads has the rank count + n, and each next one less by
-- one.
unfoldable pub rank_by : (ℕ → ℕ) → ℕ → List ℕ → List ℕ → ℕ → ℕ
rank_by given count order schedule thread =
    let step = last_change given schedule thread in
    if step == 0 then count + length order - place_in_order order thread else given step

-- the index that a step gives by change points (PCT): the greatest index of a point that is this
-- step
abbrev pub index_of_point : List ℕ → ℕ → ℕ
index_of_point points step = last_position (λ point. point == step) points

-- a thread's rank after a schedule, by an order and change points (PCT)
abbrev pub rank : List ℕ → List ℕ → List ℕ → ℕ → ℕ
rank order points schedule thread =
    rank_by (index_of_point points) (length points) order schedule thread

-- how many of the first steps, up to this one, the thread took
abbrev pub own_steps : List ℕ → ℕ → ℕ → ℕ
own_steps schedule thread step = count_by (λ other. other == thread) (take step schedule)

-- Whether the moment is this step: its thread took the step, as its own step of the moment's
-- number. (PCT's directed scheduler; the moments are this project's.)
abbrev pub is_moment : List ℕ → ℕ → Moment → Bool
is_moment schedule step moment =
    passes_at (λ other. other == moment.thread) schedule step
    && (own_steps schedule moment.thread step == moment.number)

-- the index that a step gives by moments: the greatest index of one that is this step
abbrev pub index_of_moment : List Moment → List ℕ → ℕ → ℕ
index_of_moment moments schedule step = last_position (is_moment schedule step) moments

-- a thread's rank after a schedule, by an order and moments in the place of change points
abbrev pub rank_by_moments : List ℕ → List Moment → List ℕ → ℕ → ℕ
rank_by_moments order moments schedule thread =
    rank_by (index_of_moment moments schedule) (length moments) order schedule thread

-- the threads of an order, by number
abbrev pub threads_of : List ℕ → List ℕ
threads_of order = range_with_len 0 (length order)

-- the ranks of all threads, each at its thread's number
abbrev pub ranks : List ℕ → List ℕ → List ℕ → List ℕ
ranks order points schedule = map (rank order points schedule) (threads_of order)

-- the same by moments
abbrev pub ranks_by_moments : List ℕ → List Moment → List ℕ → List ℕ
ranks_by_moments order moments schedule =
    map (rank_by_moments order moments schedule) (threads_of order)
