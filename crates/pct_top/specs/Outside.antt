-- What is outside of a call, as far as it is told: the shelf of files, the output and the error
-- stream (this project).
use Rattle.pct_outside.specs.Told.{ShelfTold, StreamTold}

-- all of them, as a call finds or leaves them
pub record Outside : Type 0 where
  pub shelf : ShelfTold
  pub output : StreamTold
  pub errors : StreamTold
