-- The words of the script language: those with a meaning of their own, and those that may be names
-- (this project).
use Rattle.std.specs.Prelude.{ℕ, ◌==◌, ◌&&◌, if◌then◌else◌, Bool, false, not, nat_le, List, [], ◌∷◌}
use Rattle.std.specs.Prelude.{◌++◌, Option, length, codes, position}
use Rattle.std.specs.List.{list_all, list_any, slice_index_or}
use Rattle.std.specs.Str.{bytes_eq}
use Rattle.pct_ask.specs.Characters.{is_letter, is_word_byte}

-- a letter or `_`, followed by letters, digits and `_`, at most 32 characters
abbrev pub is_word : List ℕ → Bool
is_word [] = false
is_word (b ∷ bs) = is_letter b && list_all is_word_byte bs && nat_le (length bs) 31

-- whether a list of words has this one
abbrev pub is_among : List ℕ → List (List ℕ) → Bool
is_among word words = list_any (bytes_eq word) words

-- the keywords of the language's version 1
abbrev pub first_keywords : List (List ℕ)
first_keywords =
    codes "script" ∷ codes "var" ∷ codes "mutex" ∷ codes "cond" ∷ codes "sem" ∷ codes "barrier"
    ∷ codes "thread" ∷ codes "end" ∷ codes "read" ∷ codes "write" ∷ codes "add" ∷ codes "cas"
    ∷ codes "lock" ∷ codes "trylock" ∷ codes "unlock" ∷ codes "wait" ∷ codes "signal"
    ∷ codes "broadcast" ∷ codes "down" ∷ codes "trydown" ∷ codes "up" ∷ codes "arrive"
    ∷ codes "join" ∷ codes "yield" ∷ codes "assert" ∷ codes "set" ∷ codes "if" ∷ codes "else"
    ∷ codes "while" ∷ []

-- the keywords of a version of the language: 2 adds one, and 3 adds those of read-write locks
abbrev pub keywords : ℕ → List (List ℕ)
keywords version =
    if nat_le version 1 then first_keywords
    else (if version == 2 then first_keywords ++ codes "start" ∷ []
    else first_keywords ++ codes "start" ∷ codes "rwlock" ∷ codes "rdlock" ∷ codes "wrlock"
    ∷ codes "tryrdlock" ∷ codes "trywrlock" ∷ codes "rwunlock" ∷ [])

-- the registers of a thread, in their order
abbrev pub registers : List (List ℕ)
registers =
    codes "r0" ∷ codes "r1" ∷ codes "r2" ∷ codes "r3" ∷ codes "r4" ∷ codes "r5" ∷ codes "r6"
    ∷ codes "r7" ∷ codes "r8" ∷ codes "r9" ∷ codes "r10" ∷ codes "r11" ∷ codes "r12" ∷ codes "r13"
    ∷ codes "r14" ∷ codes "r15" ∷ []

-- how many those are
abbrev pub register_count : ℕ
register_count = 16

-- the word of a register, r0 to r15
abbrev pub register_word : ℕ → List ℕ
register_word register = slice_index_or registers register []

-- the register that a word is
abbrev pub register_in : List ℕ → Option ℕ
register_in word = position (bytes_eq word) registers

-- a word that is no keyword of the version and no register
abbrev pub is_name : ℕ → List ℕ → Bool
is_name version word =
    is_word word && not (is_among word (keywords version)) && not (is_among word registers)
