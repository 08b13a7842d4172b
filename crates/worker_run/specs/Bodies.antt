-- The posts of a run over bodies (this project).
use Rattle.std.specs.Prelude.{List}
use Rattle.pct_ask.specs.Bodies.{Pending, pending_of}
use Rattle.sync_store.specs.World.{Source, posts_of_bodies}

-- After some steps each thread's next post is what its body posts after the answers that the thread
-- has had.
abbrev pub source_of_bodies : List Pending → Source
source_of_bodies bodies = posts_of_bodies (pending_of bodies)
