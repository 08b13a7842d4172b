-- What a shelf and a sink tell of themselves (this project).
use Rattle.std.specs.Prelude.{ℕ, ◌⊎◌, Bool, List, Option}
use Rattle.pct_outside.specs.Counter.{Rose}

-- a shelf: its files by their names, where it tells them, the names of the reads that failed, and
-- whether it keeps the name of each of these and no other
pub record ShelfTold : Type 0 where
  pub files : Option (List ℕ → List ℕ)
  pub failed : List (List ℕ)
  pub keeps : Bool

-- a stream: the bytes that are written on it, where it tells them, those that are gathered, and how
-- often it refused to be written on and there was no memory
pub record StreamTold : Type 0 where
  pub written : Option (List ℕ)
  pub gathered : List ℕ
  pub faults : ℕ
  pub shorts : ℕ

-- one of the stream's counts rose
abbrev pub StreamFails : StreamTold → StreamTold → Type 0
StreamFails before after = Rose before.faults after.faults ⊎ Rose before.shorts after.shorts
