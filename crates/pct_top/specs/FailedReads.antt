-- Which names a call adds to those of the failed reads, over a shelf that keeps no others (this
-- project).
use Rattle.std.specs.Prelude.{◌≡◌, ℕ, List, true}
use Rattle.pct_outside.specs.Reading.{names_with}
use Rattle.pct_top.specs.declared.status.Status.{Status}
use Rattle.pct_top.specs.declared.status.Status.TheVariants.{ReadFault}
use Rattle.pct_top.specs.Outside.{Outside}
use Rattle.pct_top.specs.Call.{IsCall}

-- by the status: one name was added after a failed read, and else none
abbrev pub AddsByStatus : Status → List (List ℕ) → List (List ℕ) → Type 0
AddsByStatus ReadFault names names' = (name : List ℕ) × (names' ≡ names_with names name)
AddsByStatus status names names' = names' ≡ names

-- Where the shelf keeps the names of the failed reads and no others, a call adds exactly one where
-- its status is ReadFault, and none with any other status.
abbrev pub OneFailedRead : Type 0
OneFailedRead =
    (words : List (List ℕ)) (found left : Outside) (status : Status)
    → IsCall words found left status → (found.shelf).keeps ≡ true
    → AddsByStatus status (found.shelf).failed (left.shelf).failed
