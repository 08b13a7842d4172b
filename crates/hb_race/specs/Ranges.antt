-- The most that a test may have of each kind, but for variables (this project).
use Rattle.std.specs.Prelude.{ℕ}
use Rattle.pct_ask.specs.Objects.{Sizes}
use Rattle.pct_ask.specs.declared.limits.TheConstants.{MAX_OBJECTS, MAX_THREADS}

-- so many variables, and the most threads and other objects that a test may have
abbrev pub most_with : ℕ → Sizes
most_with vars = record {
  threads = MAX_THREADS;
  vars = vars;
  mutexes = MAX_OBJECTS;
  conds = MAX_OBJECTS;
  sems = MAX_OBJECTS;
  barriers = MAX_OBJECTS;
  rwlocks = MAX_OBJECTS;
}
