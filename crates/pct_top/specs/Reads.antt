-- What the reads of a call do to the shelf (this project).
use Rattle.std.specs.Prelude.{◌≡◌, ℕ, Bool, true, false, ◌||◌, ◌⊎◌, List, [], ◌∷◌}
use Rattle.std.specs.Prelude.{if◌then◌else◌, Option, Some, None, Result, Ok, Err}
use Rattle.pct_outside.specs.Reading.{names_with}
use Rattle.pct_outside.specs.Told.{ShelfTold}
use Rattle.pct_top.specs.declared.refusal.Refusal.{Refusal}
use Rattle.pct_top.specs.declared.refusal.Refusal.TheVariants.{Read}

-- a read of a file: its name, and whether it failed
pub record ReadMade : Type 0 where
  pub name : List ℕ
  pub failed : Bool

-- the names of the failed reads after a read, where those of no other reads are kept
abbrev pub names_by : ReadMade → List (List ℕ) → List (List ℕ)
names_by read names = if read.failed then names_with names read.name else names

-- What a read leaves of the names of the failed reads: its file's name is added, or none is. That
-- of a failed read is, and where the shelf keeps the names of these alone, that of no other.
pub record KeepsRead (read : ReadMade) (before after : ShelfTold) : Type 0 where
  pub failed : (after.failed ≡ names_with before.failed read.name)
      ⊎ ((read.failed ≡ false) × (after.failed ≡ before.failed))
  pub alone : before.keeps ≡ true → after.failed ≡ names_by read before.failed
  pub keeps : after.keeps ≡ before.keeps

-- the same of reads, one after another
abbrev pub KeepsReads : List ReadMade → ShelfTold → ShelfTold → Type 0
KeepsReads [] before after = after ≡ before
KeepsReads (read ∷ reads) before after =
    (between : ShelfTold) × KeepsRead read before between × KeepsReads reads between after

-- whether one of them failed
abbrev pub some_failed : List ReadMade → Bool
some_failed [] = false
some_failed (read ∷ reads) = read.failed || some_failed reads

-- whether a refusal says that a file can't be read
abbrev pub is_read : Refusal → Bool
is_read Read = true
is_read refusal = false

-- whether an answer is that a file can't be read
abbrev pub is_missed : {T : Type 0} → Result T Refusal → Bool
is_missed (Ok given) = false
is_missed (Err refusal) = is_read refusal

-- A file was read, if there is one, and this says whether that failed.
abbrev pub KeepsFile : Option (List ℕ) → Bool → ShelfTold → ShelfTold → Type 0
KeepsFile None failed before after = (failed ≡ false) × (after ≡ before)
KeepsFile (Some name) failed before after =
    KeepsRead (record { name = name; failed = failed }) before after

-- No file was read, or this one was, and then this holds.
abbrev pub KeepsSecond : Option (List ℕ) → Type 0 → Bool → ShelfTold → ShelfTold → Type 0
KeepsSecond file reached failed before after =
    ((failed ≡ false) × (after ≡ before))
    ⊎ ((name : List ℕ) × (file ≡ Some name) × reached
    × KeepsRead (record { name = name; failed = failed }) before after)
