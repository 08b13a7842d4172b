-- The pieces of a verdict's text, as they are written one after another.
use Rattle.std.specs.Prelude.{◌≡◌, ℕ, ◌<◌, List, ◌∷◌, ◌++◌, length, take, decimal, ⊤}
use Rattle.pct_ask.specs.NameLists.{NameLists}
use Rattle.pct_ask.specs.Places.{AreRising}
use Rattle.pct_ask.specs.VerdictText.{thread_name}
use Rattle.pct_ask.specs.declared.verdict.Verdict.{Verdict}
use Rattle.pct_ask.specs.declared.verdict.Verdict.TheVariants.{Passed, Failed, Stuck, Misuse, Fault}
use Rattle.pct_ask.specs.declared.verdict.Verdict.TheVariants.{Cut}

-- the second list begins with the first
abbrev pub IsStartOf : List ℕ → List ℕ → Type 0
IsStartOf before after = take (length before) after ≡ before

-- a thread's name and a line, with a space before each
abbrev pub place_piece : NameLists → ℕ × ℕ → List ℕ
place_piece names place = 32 ∷ (thread_name names place.0 ++ 32 ∷ decimal place.1)

-- the threads of a list of blocked threads rise
abbrev pub Rises : Verdict → Type 0
Rises Passed = ⊤
Rises (Failed thread line) = ⊤
Rises (Stuck places) = AreRising places
Rises (Misuse thread line kind) = ⊤
Rises (Fault thread line kind) = ⊤
Rises Cut = ⊤

-- whether a thread has a name
abbrev pub HasName : NameLists → ℕ → Type 0
HasName names thread = thread < length names.threads
