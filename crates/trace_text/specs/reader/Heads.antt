-- How the four lines of a head are read (this project).
use Rattle.std.specs.Prelude.{ℕ, ◌==◌, ◌&&◌, Bool, true, not, nat_le, if◌then◌else◌, List, [], ◌∷◌}
use Rattle.std.specs.Prelude.{length, Option, Some, None, codes}
use Rattle.std.specs.List.{list_all}
use Rattle.std.specs.Str.{bytes_eq}
use Rattle.pct_ask.specs.Numbers.{all_of, step_count, step_counts}
use Rattle.pct_ask.specs.Words.{is_name, is_among}
use Rattle.pct_ask.specs.NameLists.{NameLists, place_of}
use Rattle.pct_ask.specs.VerdictWords.{words_of}
use Rattle.pct_ask.specs.declared.limits.TheConstants.{MAX_POINTS}

-- trace 1, trace 2
abbrev pub version_on_line : List ℕ → Option ℕ
version_on_line text =
    if bytes_eq text (codes "trace 1") then Some 1
    else (if bytes_eq text (codes "trace 2") then Some 2 else None)

-- no word stands twice
abbrev pub are_different : List (List ℕ) → Bool
are_different [] = true
are_different (word ∷ words) = not (is_among word words) && are_different words

-- as many different lawful names as there are threads
abbrev pub are_order_names : NameLists → List (List ℕ) → Bool
are_order_names names words =
    (length words == length names.threads) && list_all (is_name 1) words && are_different words

-- the names behind the word `order`
abbrev pub names_after_order : NameLists → List (List ℕ) → Option (List (List ℕ))
names_after_order names [] = None
names_after_order names (head ∷ words) =
    if bytes_eq head (codes "order") && are_order_names names words then Some words else None

-- order NAME NAME ..: as many different lawful names as there are threads
abbrev pub order_on_line : NameLists → List ℕ → Option (List (List ℕ))
order_on_line names text = names_after_order names (words_of text)

-- the threads of these names, where each is one's
abbrev pub threads_of_names : NameLists → List (List ℕ) → Option (List ℕ)
threads_of_names names words = all_of (λ word. place_of word names.threads) words

-- the numbers behind the word `points`
abbrev pub point_words : List (List ℕ) → Option (List ℕ)
point_words [] = None
point_words (head ∷ words) =
    if bytes_eq head (codes "points") && nat_le (length words) MAX_POINTS then step_counts words
    else None

-- points NUMBER NUMBER ..: none to 7 numbers in 1..100000
abbrev pub points_on_line : List ℕ → Option (List ℕ)
points_on_line text = point_words (words_of text)

-- the number behind the word `limit`
abbrev pub limit_words : List (List ℕ) → Option ℕ
limit_words (head ∷ number ∷ []) =
    if bytes_eq head (codes "limit") then step_count number else None
limit_words words = None

-- limit NUMBER: a number in 1..100000
abbrev pub limit_on_line : List ℕ → Option ℕ
limit_on_line text = limit_words (words_of text)
