use Rattle.std.proofs.Common.{◌≡◌, map, length, take, vec_len}
use Rattle.std.specs.Prelude.{vec_capacity}
use Rattle.script_code.specs.Listing.{listing}
use Rattle.script_code.specs.FlatPosts.{flat_pending}
use Rattle.script_body.specs.BodyPosts.{pending_of_body}
use Rattle.script_body.proofs.bodies.bodies_of.Given as goal

-- the bodies so far are those of the first threads, and there is room for the others
abbrev pub invariant-loop-thread : goal.invariant-loop-thread
invariant-loop-thread l = record {
  long : vec_len l.bodies ≡ l.thread;
  room : vec_capacity l.bodies ≡ length (listing l.code);
  posts : map pending_of_body l.bodies.items ≡ map flat_pending (take l.thread (listing l.code));
}
