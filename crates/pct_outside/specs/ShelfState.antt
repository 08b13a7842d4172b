-- A shelf in memory (this project).
use Rattle.std.specs.Prelude.{◌≡◌, ℕ, List, Bool, true, false, ◌||◌, is_none, refl, Result, Ok, Err}
use Rattle.std.specs.FinMap.{get}
use Rattle.std.specs.Coded.{Coded, code_by, coded×, coded_ℕ, coded_list}
use Rattle.pct_outside.specs.Counter.{one_more, is_next}
use Rattle.pct_outside.specs.Files.{Files, coded_files}
use Rattle.pct_outside.specs.Reading.{names_with}
use Rattle.pct_outside.specs.declared.shelves.ShelfError.{ShelfError}
use Rattle.pct_outside.specs.declared.shelves.ShelfError.TheVariants.{Failed, NoMemory}

-- its files, the names of the reads that failed, the numbers of the calls that fail, and how many
-- calls there were
pub record ShelfState : Type 0 where
  pub files : Files
  pub failed : List (List ℕ)
  pub fails : List ℕ
  pub calls : ℕ

-- it is stored as the tuple of these
abbrev pub coded_shelf : Coded ShelfState
coded_shelf =
    code_by (Files × (List (List ℕ) × (List ℕ × ℕ)))
    (coded× coded_files
    (coded× (coded_list (coded_list coded_ℕ)) (coded× (coded_list coded_ℕ) coded_ℕ)))
    (λ s. (s.files, (s.failed, (s.fails, s.calls))))
    (λ p. record { files = p.0; failed = p.1.0; fails = p.1.1.0; calls = p.1.1.1 }) (λ _. refl)

-- whether the next read, of this name, fails: by its number, or since no file has the name
abbrev pub is_refused : ShelfState → List ℕ → Bool
is_refused shelf name = is_next shelf.fails shelf.calls || is_none (get shelf.files name)

-- the names of the reads that failed, after a read of this name with this answer
abbrev pub names_after : {T : Type 0} → List (List ℕ) → List ℕ → Result T ShelfError → List (List ℕ)
names_after names name (Ok _) = names
names_after names name (Err Failed) = names_with names name
names_after names name (Err NoMemory) = names

-- the shelf in memory, after a read of this name with this answer
abbrev pub after_read : {T : Type 0} → ShelfState → List ℕ → Result T ShelfError → ShelfState
after_read shelf name result =
    record {
      files = shelf.files;
      failed = names_after shelf.failed name result;
      fails = shelf.fails;
      calls = one_more shelf.calls;
    }

-- a read that is refused gives no bytes, and no other read is Failed
abbrev pub FailsOnly : {T : Type 0} → Bool → Result T ShelfError → Type 0
FailsOnly refused (Ok _) = refused ≡ false
FailsOnly refused (Err Failed) = refused ≡ true
FailsOnly refused (Err NoMemory) = Unit {0}
