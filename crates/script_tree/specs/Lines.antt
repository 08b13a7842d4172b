-- What the lines of a script say, by their tokens (this project).
use Rattle.std.specs.Prelude.{ℕ, ℤ, ◌+◌, ◌-◌, ◌==◌, ◌&&◌, ◌||◌, nat_le, if◌then◌else◌, Bool, true}
use Rattle.std.specs.Prelude.{false, List, [], ◌∷◌, count_by, Option, Some, None, codes, unwrap_or}
use Rattle.std.specs.List.{filter_map}
use Rattle.std.specs.Str.{bytes_eq, is_utf8}
use Rattle.pct_ask.specs.Tokens.{Token, Word, Number, Symbol, tokens_of}
use Rattle.pct_ask.specs.declared.names.NameKind.{NameKind}
use Rattle.script_tree.specs.Forms.{kind_word, value_in}

-- the tokens of a line, and none where it can't be cut into tokens
abbrev pub tokens_in : List ℕ → List Token
tokens_in line = unwrap_or (tokens_of line) []

-- a line that was cut into tokens, of which there are none
abbrev pub is_nothing : Option (List Token) → Bool
is_nothing None = false
is_nothing (Some []) = true
is_nothing (Some (token ∷ tokens)) = false

-- only space, tab and CR stand in the line before a `#` or its end
abbrev pub is_blank_line : List ℕ → Bool
is_blank_line line = is_nothing (tokens_of line)

-- The version of the language that the tokens of a header tell, and none where they are no header.
abbrev pub version_in : List Token → Option ℕ
version_in (Word word ∷ Number (digit ∷ []) ∷ []) =
    if bytes_eq word (codes "script") && nat_le 49 digit && nat_le digit 51 then Some (digit - 48)
    else None
version_in tokens = None

-- the version of a script, as the first line with tokens tells it
abbrev pub version_of : List (List Token) → ℕ
version_of [] = 0
version_of ([] ∷ lines) = version_of lines
version_of ((token ∷ tokens) ∷ lines) = unwrap_or (version_in (token ∷ tokens)) 0

-- the line begins with this word
abbrev pub begins_with : List ℕ → List Token → Bool
begins_with word (Word first ∷ tokens) = bytes_eq first word
begins_with word tokens = false

-- the name that a line declares, where it declares one of this kind
abbrev pub declared_name : NameKind → List Token → Option (List ℕ)
declared_name kind (Word word ∷ Word name ∷ tokens) =
    if bytes_eq word (kind_word kind) then Some name else None
declared_name kind tokens = None

-- the names of a kind, in the order of their lines
abbrev pub names_of : NameKind → List (List Token) → List (List ℕ)
names_of kind lines = filter_map (declared_name kind) lines

-- the first value that a line declares for an object of this kind
abbrev pub declared_value : NameKind → List Token → Option ℤ
declared_value kind (Word word ∷ Word name ∷ Symbol signs ∷ value) =
    if bytes_eq word (kind_word kind) then value_in kind value else None
declared_value kind tokens = None

-- the first values of a kind's objects, in the order of their lines
abbrev pub values_of : NameKind → List (List Token) → List ℤ
values_of kind lines = filter_map (declared_value kind) lines

-- a block begins: a thread, an `if` or a `while`
abbrev pub opens : List Token → Bool
opens tokens =
    begins_with (codes "thread") tokens || begins_with (codes "if") tokens
    || begins_with (codes "while") tokens

-- how many blocks are open after these lines, the thread among them: those that began and didn't
-- end
abbrev pub depth : List (List Token) → ℕ
depth lines = count_by opens lines - count_by (begins_with (codes "end")) lines

-- The line that a block which is open after these lines begins with, or its `else`. The lines go
-- backwards, from the last one on, and so many blocks within that block are passed over. Each `end`
-- closes one block more.
abbrev pub opener : ℕ → List (List Token) → List Token
opener inner [] = []
opener inner (line ∷ before) =
    if begins_with (codes "end") line then opener (inner + 1) before
    else (if opens line then (if inner == 0 then line else opener (inner - 1) before)
    else (if begins_with (codes "else") line && inner == 0 then line else opener inner before))

-- the name in `thread NAME`, where the tokens are these two words and no more
abbrev pub just_thread : List Token → Option (List ℕ)
just_thread (Word word ∷ Word name ∷ []) =
    if bytes_eq word (codes "thread") then Some name else None
just_thread tokens = None

-- the thread that a line begins, where it is text that has just the tokens for that
abbrev pub thread_in : List ℕ → Option (List ℕ)
thread_in line = if is_utf8 line then just_thread (tokens_in line) else None

-- the threads that the lines of a file begin, sound or not
abbrev pub threads_begun : List (List ℕ) → List (List ℕ)
threads_begun lines = filter_map thread_in lines
