-- A law on what is found (this project).
use Rattle.std.specs.Prelude.{◌≡◌, ℕ, List}
use Rattle.pct_ask.specs.declared.Deal.{Deal}
use Rattle.pct_ask.specs.Bodies.{Pending}
use Rattle.directive_find.specs.declared.finding.FoundOut.{FoundOut}
use Rattle.directive_find.specs.Found.{Finds}

-- Of a deal, bodies, an order, points and a limit one thing is found.
abbrev pub EachHasOneFinding : Type 0
EachHasOneFinding =
    (deal : Deal) (bodies : List Pending) (order points : List ℕ) (limit : ℕ)
    (one other : FoundOut)
    → Finds deal bodies order points limit one → Finds deal bodies order points limit other
    → one ≡ other
