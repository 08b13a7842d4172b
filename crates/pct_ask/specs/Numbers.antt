-- Numbers as texts (this project).
use Rattle.std.specs.Prelude.{ℕ, ℤ, pos, negsuc, ◌&&◌, nat_le, if◌then◌else◌, List, [], ◌∷◌, Option}
use Rattle.std.specs.Prelude.{Some, None, decimal}
use Rattle.std.specs.Fmt.{signed_decimal}
use Rattle.std.specs.Option.{option_map}
use Rattle.std.specs.Str.{bytes_eq}
use Rattle.std.specs.Str.Parse.{digits_value}
use Rattle.pct_ask.specs.declared.limits.TheConstants.{MAX_STEPS}

-- The canonical decimal of a number: `0`, or digits with no leading zero, with a `-` before them
-- where it is negative (this project).
abbrev pub number_text : ℤ → List ℕ
number_text n = signed_decimal n

-- the number, where it is at least `low` and at most `high`
abbrev pub within : ℕ → ℕ → ℕ → Option ℕ
within low high n = if nat_le low n && nat_le n high then Some n else None

-- an integer in that range
abbrev pub in_range : ℕ → ℕ → ℤ → Option ℕ
in_range low high (pos n) = within low high n
in_range low high (negsuc n) = None

-- the number from `low` to `high` of which the word is the canonical decimal
unfoldable pub number_in : (low high : ℕ) → List ℕ → Option ℕ
number_in low high word =
    if bytes_eq (decimal (digits_value 10 word)) word then within low high (digits_value 10 word)
    else None

-- a list with one more in front, where there are both
abbrev pub onto_front : {A : Type 0} → Option A → Option (List A) → Option (List A)
onto_front None others = None
onto_front (Some x) others = option_map (λ xs. x ∷ xs) others

-- what each word is, in their order, where each is something
abbrev pub all_of : (List ℕ → Option ℕ) → List (List ℕ) → Option (List ℕ)
all_of says [] = Some []
all_of says (word ∷ words) = onto_front (says word) (all_of says words)

-- a number of steps, 1 to 100000: a limit, a count, or the step of a change point or of a moment
abbrev pub step_count : List ℕ → Option ℕ
step_count word = number_in 1 MAX_STEPS word

-- what each word is, where each is a number of steps
abbrev pub step_counts : List (List ℕ) → Option (List ℕ)
step_counts words = all_of step_count words
