use Rattle.std.proofs.Common.{◌≡◌, take}
use Rattle.turn_book.specs.Posts.{schedule_of}
use Rattle.replay_run.proofs.replaying.threads_of.Given as goal

-- the threads so far are those of the first steps
abbrev pub invariant-loop-event : goal.invariant-loop-event
invariant-loop-event l = l.threads.items ≡ schedule_of (take l.event-index l.events)
