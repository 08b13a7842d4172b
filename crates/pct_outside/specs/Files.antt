-- Files in memory, by their names (this project).
use Rattle.std.specs.Prelude.{ℕ, List, [], unwrap_or, String, Vec, string_bytes}
use Rattle.std.specs.Ordering.{nat_cmp}
use Rattle.std.specs.Cmp.Lexicographic.{slice_cmp}
use Rattle.std.specs.FinMap.{FinMap, get, code}
use Rattle.std.specs.Coded.{Coded, coded_ℕ, coded_list}

-- the bytes of each file under its name
abbrev pub Files : Type 0
Files = FinMap (slice_cmp nat_cmp) (List ℕ)

-- files are stored by the codes of their names and bytes
abbrev pub coded_files : Coded Files
coded_files = code (coded_list coded_ℕ) (coded_list coded_ℕ)

-- the bytes under a name, of which there are none where no file has it
abbrev pub bytes_of : Files → List ℕ → List ℕ
bytes_of files name = unwrap_or (get files name) []

-- a file as a name and its bytes, without where they lie in memory
abbrev pub name_and_bytes : {A B : Type 0} → String A × Vec ℕ B → List ℕ × List ℕ
name_and_bytes file = (string_bytes file.0, file.1.items)
