-- The run of a priority order and change points (the scheduler of PCT: Burckhardt, Kothari,
-- Musuvathi, Nagarakatte, "A Randomized Scheduler with Probabilistic Guarantees of Finding Bugs",
-- 2010) and its directed run, where moments stand in the place of change points. Each step is by
-- the enabled thread of the greatest rank; every thread's post is known. (The limit, and how a run
-- ends where nobody may go on, are this project's.)
use Rattle.std.specs.Prelude.{ℕ, zero, suc, Bool, false, ◌&&◌, ◌||◌, not, nat_le, List, [], ◌∷◌}
use Rattle.std.specs.Prelude.{◌++◌, Option, Some, None}
use Rattle.std.specs.Option.{option_map, option_and_then, option_map_or}
use Rattle.std.specs.List.{find, list_all}
use Rattle.pct_ask.specs.declared.ask.Ask.{Ask}
use Rattle.pct_ask.specs.declared.Deal.{Deal}
use Rattle.pct_ask.specs.declared.event.Event.{Event}
use Rattle.pct_ask.specs.declared.verdict.Verdict.{Verdict}
use Rattle.pct_ask.specs.declared.verdict.Verdict.TheVariants.{Cut}
use Rattle.pct_ask.specs.Bodies.{Pending, pending_of}
use Rattle.sync_store.specs.Store.{first_store}
use Rattle.sync_store.specs.Enabled.{enabled}
use Rattle.sync_store.specs.World.{World, has_ended, answers_of, world_after}
use Rattle.rank_now.specs.declared.moment.Moment.{Moment}
use Rattle.rank_now.specs.Rank.{rank, rank_by_moments}
use Rattle.turn_book.specs.Chances.{threads_below, rest_verdict}
use Rattle.turn_book.specs.Obeys.{next_posts_in}
use Rattle.worker_run.specs.Bodies.{source_of_bodies}

-- what a run is made of: what the threads share, their bodies, and each thread's rank after a
-- schedule
pub record Setting : Type 0 where
  pub deal : Deal
  pub bodies : List Pending
  pub rank_after : List ℕ → ℕ → ℕ

-- what the thread asks next, unless it has ended
abbrev pub ask_in : Setting → World → ℕ → Option Ask
ask_in setting world t = (pending_of setting.bodies t (answers_of t world.events)).ask

-- whether a thread may take its next step
abbrev pub may_go : Setting → World → ℕ → Bool
may_go setting world t =
    option_map_or
    (enabled world.store (has_ended (source_of_bodies setting.bodies) world.events) t)
    (ask_in setting world t) false

-- whether a thread may go, and none of a greater rank may
abbrev pub goes_first : Setting → List ℕ → World → ℕ → Bool
goes_first setting schedule world t =
    may_go setting world t
    && list_all
    (λ other.
    not (may_go setting world other)
    || nat_le (setting.rank_after schedule other) (setting.rank_after schedule t))
    (threads_below setting.deal.threads)

-- the enabled thread of the greatest rank
abbrev pub next_thread : Setting → List ℕ → World → Option ℕ
next_thread setting schedule world =
    find (goes_first setting schedule world) (threads_below setting.deal.threads)

-- what comes after a schedule
pub data Next : Type 0 where
  Over : (verdict : Verdict) → Next
  Goes : (thread : ℕ) → Next

-- The verdict of the last step; else, where no thread is enabled, that the run has passed or is
-- stuck; else the next thread.
abbrev pub next_of : Setting → World → Option Verdict → Option ℕ → Next
next_of setting world (Some verdict) t = Over verdict
next_of setting world None None =
    Over
    (rest_verdict setting.deal.threads world.store
    (next_posts_in (source_of_bodies setting.bodies) world))
next_of setting world None (Some t) = Goes t

-- what comes after a schedule, in the world that it led to
abbrev pub next_after : Setting → List ℕ → World → Next
next_after setting schedule world =
    next_of setting world world.verdict (next_thread setting schedule world)

-- a run's steps and its verdict
abbrev pub Run : Type 0
Run = List Event × Verdict

-- a run that may have no more steps: it is over, or cut where a thread would go on
abbrev pub cut_at : World → Next → Run
cut_at world (Over verdict) = (world.events, verdict)
cut_at world (Goes t) = (world.events, Cut)

-- a run that may have more steps: it is over, or goes `further` with the next thread
abbrev pub go_on : World → (ℕ → Option Run) → Next → Option Run
go_on world further (Over verdict) = Some (world.events, verdict)
go_on world further (Goes t) = further t

-- the run from a schedule on, with so many steps left
abbrev pub run_from : Setting → ℕ → List ℕ → Option Run
run_from setting zero schedule =
    option_map (λ world. cut_at world (next_after setting schedule world))
    (world_after (first_store setting.deal) (source_of_bodies setting.bodies) schedule)
run_from setting (suc left) schedule =
    option_and_then
    (λ world.
    go_on world (λ t. run_from setting left (schedule ++ t ∷ []))
    (next_after setting schedule world))
    (world_after (first_store setting.deal) (source_of_bodies setting.bodies) schedule)

-- The run of an order and change points, of at most `limit` steps. It is cut where it would be
-- longer.
abbrev pub run : Deal → List Pending → List ℕ → List ℕ → ℕ → Option Run
run deal bodies order points limit =
    run_from (record { deal = deal; bodies = bodies; rank_after = rank order points }) limit []

-- the same with moments in the place of change points
abbrev pub directed_run : Deal → List Pending → List ℕ → List Moment → ℕ → Option Run
directed_run deal bodies order moments limit =
    run_from (record { deal = deal; bodies = bodies; rank_after = rank_by_moments order moments })
    limit []
