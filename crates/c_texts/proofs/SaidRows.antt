-- What is known of the verdicts that numbers say is known of the runs.
use Rattle.std.proofs.Common.{◌≡◌, List, [], ◌∷◌, Option, Some, None, subst}
use Rattle.std.specs.Prelude.{All}
use Rattle.std.specs.Option.{option_map, option_and_then}
use Rattle.std.proofs.lemmas.List.Elements.{All-nil, All-cons, All-head, All-tail}
use Rattle.pct_ask.specs.NameLists.{NameLists}
use Rattle.pct_ask.specs.declared.event.Row.{Row}
use Rattle.pct_ask.specs.declared.verdict.Verdict.{Verdict}
use Rattle.report_text.specs.Report.{IsWritable}
use Rattle.c_values.specs.declared.row.PctRow.{PctRow}
use Rattle.c_values.specs.Outcomes.{verdict_said}
use Rattle.c_values.specs.Rows.{row_said}
use Rattle.c_values.specs.Told.{all_said}
use Rattle.c_texts.specs.Known.{IsKnown}

-- the first run is what the first numbers say, and the others are what the others say
parted : (one : Option Row) (later : Option (List Row)) (row : Row) (rows : List Row)
    → option_and_then (λ first. option_map (λ others. first ∷ others) later) one ≡ Some (row ∷ rows)
    → (one ≡ Some row) × (later ≡ Some rows)
parted None later row rows e = absurd cc
parted (Some one) None row rows e = absurd cc
parted (Some one) (Some later) row rows e = (cc, cc)

-- numbers that say something say a first run
no_first : (one : Option Row) (later : Option (List Row))
    → option_and_then (λ first. option_map (λ others. first ∷ others) later) one ≡ Some [] → ⊥
no_first None later e = cc
no_first (Some one) None e = cc
no_first (Some one) (Some later) e = cc

-- a run's verdict is what its numbers say
ends_with : (numbers : PctRow) (said : Option Verdict) (row : Row)
    → option_map (λ v. record { seed = numbers.seed; steps = numbers.steps; verdict = v }) said
    ≡ Some row → said ≡ Some row.verdict
ends_with numbers None row e = absurd cc
ends_with numbers (Some verdict) row e = cc

module _ (names : NameLists) where
  abbrev Writable : Row → Type 0
  Writable row = IsWritable names row.verdict

  abbrev Known : PctRow → Type 0
  Known row = IsKnown names row.verdict

  known_run : (numbers : PctRow) (row : Row) → row_said numbers ≡ Some row → Known numbers
      → Writable row
  known_run numbers row e known =
      let one = ends_with numbers (verdict_said numbers.verdict) row e in
      let same : known.verdict ≡ row.verdict = let also = known.says.says in cc in
      subst (IsWritable names) same known.says.known

  known_numbers : (numbers : PctRow) (row : Row) → row_said numbers ≡ Some row → Writable row
      → Known numbers
  known_numbers numbers row e written =
      let one = ends_with numbers (verdict_said numbers.verdict) row e in
      record { verdict = row.verdict; says = record { says = one; known = written } }

  -- where all numbers are known, all runs may be written
  pub known_rows : (numbers : List PctRow) (rows : List Row)
      → all_said row_said numbers ≡ Some rows → All Known numbers → All Writable rows
  known_rows [] [] e known = All-nil Writable
  known_rows [] (row ∷ rows) e known = absurd cc
  known_rows (one ∷ others) [] e known =
      absurd (no_first (row_said one) (all_said row_said others) e)
  known_rows (one ∷ others) (row ∷ rows) e known =
      let parts = parted (row_said one) (all_said row_said others) row rows e in
      All-cons Writable row rows (known_run one row parts.0 (All-head Known one others known))
      (known_rows others rows parts.1 (All-tail Known one others known))

  -- where all runs may be written, all numbers are known
  pub written_rows : (numbers : List PctRow) (rows : List Row)
      → all_said row_said numbers ≡ Some rows → All Writable rows → All Known numbers
  written_rows [] [] e written = All-nil Known
  written_rows [] (row ∷ rows) e written = absurd cc
  written_rows (one ∷ others) [] e written =
      absurd (no_first (row_said one) (all_said row_said others) e)
  written_rows (one ∷ others) (row ∷ rows) e written =
      let parts = parted (row_said one) (all_said row_said others) row rows e in
      All-cons Known one others
      (known_numbers one row parts.0 (All-head Writable row rows written))
      (written_rows others rows parts.1 (All-tail Writable row rows written))
