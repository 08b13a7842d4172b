-- What is said on the error stream (this project).
use Rattle.std.specs.Prelude.{ℕ, List, ◌⊎◌}
use Rattle.pct_outside.specs.Puts.{IsPutWhole, IsPutInPart}
use Rattle.pct_outside.specs.Told.{StreamTold, StreamFails}

-- The line was said whole. It may be a prefix of it only where the stream fails.
abbrev pub SaysLine : List ℕ → StreamTold → StreamTold → Type 0
SaysLine line before after =
    IsPutWhole line before after ⊎ (IsPutInPart line before after × StreamFails before after)
