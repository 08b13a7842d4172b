-- The names of a test as a text (this project): a line for each, its kind's word and the name.
-- Those of one kind stand in the order of their places.
use Rattle.std.specs.Prelude.{ℕ, Bool, ◌&&◌, not, nat_lt, if◌then◌else◌}
use Rattle.std.specs.Prelude.{List, [], ◌∷◌, length, Option, Some, None}
use Rattle.std.specs.Option.{option_and_then}
use Rattle.pct_ask.specs.NameLists.{NameLists, kind_in, no_names, with_name, list_of}
use Rattle.pct_ask.specs.NameLists.{all_names}
use Rattle.pct_ask.specs.Words.{is_name, is_among}
use Rattle.pct_ask.specs.Lines.{lines_of}
use Rattle.pct_ask.specs.VerdictWords.{words_of}
use Rattle.pct_ask.specs.declared.names.NameKind.{NameKind}
use Rattle.pct_ask.specs.declared.limits.TheConstants.{MAX_OBJECTS}

-- Whether a name may join those of a kind: it is a lawful name, stands for nothing yet, and there
-- is room.
abbrev pub may_join : NameLists → NameKind → List ℕ → Bool
may_join names kind name =
    is_name 1 name
    && (not (is_among name (all_names names)) && nat_lt (length (list_of kind names)) MAX_OBJECTS)

-- the names with one more, of a kind where there is that kind
abbrev pub joined_by : NameLists → List ℕ → Option NameKind → Option NameLists
joined_by names name None = None
joined_by names name (Some kind) =
    if may_join names kind name then Some (with_name kind name names) else None

-- the names with that of a line, of its words
abbrev pub with_words : NameLists → List (List ℕ) → Option NameLists
with_words names [] = None
with_words names (word ∷ []) = None
with_words names (word ∷ name ∷ []) = joined_by names name (kind_in word)
with_words names (word ∷ name ∷ other ∷ words) = None

-- the names with those of some lines
abbrev pub with_lines : NameLists → List (List ℕ) → Option NameLists
with_lines names [] = Some names
with_lines names (line ∷ lines) =
    option_and_then (λ more. with_lines more lines) (with_words names (words_of line))

-- the names that a text says, if each of its lines says one
abbrev pub names_of_text : List ℕ → Option NameLists
names_of_text text = with_lines no_names (lines_of text)
