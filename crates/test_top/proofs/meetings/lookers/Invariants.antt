use Rattle.std.proofs.Common.{◌≡◌, map, take}
use Rattle.script_code.specs.Listing.{listing}
use Rattle.script_code.specs.FlatPosts.{flat_pending}
use Rattle.script_body.specs.BodyPosts.{pending_of_body}
use Rattle.test_top.proofs.meetings.lookers.Given as goal

-- the bodies so far are those of the first threads
abbrev pub invariant-loop-thread : goal.invariant-loop-thread
invariant-loop-thread l =
    map (λ b. pending_of_body b.body) l.lookers.items
    ≡ map flat_pending (take l.thread (listing l.code))
