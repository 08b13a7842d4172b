use Rattle.std.proofs.Common.{◌≡◌, ◌<◌, ◌-◌, length}
use Rattle.script_tree.specs.Machine.{stand}
use Rattle.script_tree.specs.Posts.{most_moves}
use Rattle.script_code.specs.Listing.{listing}
use Rattle.script_code.specs.Placed.{listing_of}
use Rattle.script_code.specs.FlatPosts.{last_spot, flat_head}
use Rattle.script_body.specs.Spots.{spot_of}
use Rattle.script_body.specs.Waiting.{stand_of}
use Rattle.script_body.proofs.settling.settle.Given as goal

-- the moves that are made, and those that may still be
abbrev pub invariant-loop : goal.invariant-loop
invariant-loop l = record {
  inside : l.state.place < length (listing_of (listing l.code) l.thread);
  same : stand_of (listing_of (listing l.code) l.thread) (spot_of l.initial.state)
      ≡ stand (flat_head (listing_of (listing l.code) l.thread))
      (last_spot (listing_of (listing l.code) l.thread)) (most_moves - l.counter) (spot_of l.state);
}
