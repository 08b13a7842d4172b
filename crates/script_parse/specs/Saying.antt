-- What the tokens of a line say, read from the first word on.
use Rattle.std.specs.Prelude.{ℕ, ◌+◌, ◌&&◌, Bool, false, nat_le, if◌then◌else◌, List, [], ◌∷◌}
use Rattle.std.specs.Prelude.{Option, Some, None, take, drop, codes}
use Rattle.std.specs.List.{position}
use Rattle.std.specs.Option.{option_map, option_and_then}
use Rattle.std.specs.Str.{bytes_eq}
use Rattle.pct_ask.specs.Words.{is_name}
use Rattle.pct_ask.specs.Tokens.{Token, Word, Number, Symbol}
use Rattle.pct_ask.specs.declared.names.NameKind.{NameKind}
use Rattle.pct_ask.specs.declared.names.NameKind.TheVariants as kinds
use Rattle.pct_ask.specs.declared.statement_verbs.OnVerb.{OnVerb}
use Rattle.pct_ask.specs.declared.statement_verbs.IntoVerb.{IntoVerb}
use Rattle.pct_ask.specs.Words.{register_in}
use Rattle.pct_ask.specs.StatementVerbs.{on_verb_in, into_verb_in, on_since, into_since}
use Rattle.script_tree.specs.Forms.{MeantForm, Plain, Valued, Thread, On, Into, Write, Add, Cas}
use Rattle.script_tree.specs.Forms.{Wait, Yield, Assert, Set, If, While, End, Else, is_plain}
use Rattle.script_tree.specs.Forms.{has_value, kind_since}
use Rattle.script_parse.specs.Machine.{expression_in}
use Rattle.pct_ask.specs.NameLists.{kind_in}

abbrev pub plain_form : ℕ → NameKind → List ℕ → Option MeantForm
plain_form version kind name =
    if is_plain kind && nat_le (kind_since kind) version && is_name version name
    then Some (Plain kind name)
    else None

abbrev pub lone_form : ℕ → NameKind → List ℕ → Option MeantForm
lone_form version kinds.Thread name = if is_name version name then Some (Thread name) else None
lone_form version kind name = plain_form version kind name

-- these signs stand before the digits of a first value that is negative
abbrev pub is_minus : NameKind → List ℕ → Bool
is_minus kinds.Var signs = bytes_eq signs (codes "-")
is_minus kind signs = false

abbrev pub minus_value : NameKind → List ℕ → List ℕ → Option (List Token)
minus_value kind signs digits =
    if is_minus kind signs then Some (Symbol signs ∷ Number digits ∷ []) else None

-- the tokens of a first value
abbrev pub value_parts : NameKind → List Token → Option (List Token)
value_parts kind (Number digits ∷ []) = Some (Number digits ∷ [])
value_parts kind (Symbol signs ∷ Number digits ∷ []) = minus_value kind signs digits
value_parts kind tokens = None

abbrev pub valued_form : ℕ → NameKind → List ℕ → List ℕ → List Token → Option MeantForm
valued_form version kind name signs value =
    if has_value kind && bytes_eq signs (codes "=") && is_name version name
    then option_map (Valued kind name) (value_parts kind value)
    else None

abbrev pub declared_form : ℕ → NameKind → List Token → Option MeantForm
declared_form version kind (Word name ∷ []) = lone_form version kind name
declared_form version kind (Word name ∷ Symbol signs ∷ value) =
    valued_form version kind name signs value
declared_form version kind tokens = None

abbrev pub on_form : ℕ → OnVerb → List Token → Option MeantForm
on_form version verb (Word object ∷ []) =
    if nat_le (on_since verb) version && is_name version object then Some (On verb object) else None
on_form version verb tokens = None

-- a word that stands alone
abbrev pub lone_word : List Token → Option (List ℕ)
lone_word (Word word ∷ []) = Some word
lone_word tokens = None

abbrev pub into_object : ℕ → IntoVerb → List ℕ → List ℕ → Option MeantForm
into_object version verb register object =
    if nat_le (into_since verb) version && is_name version object
    then option_map (λ r. Into verb r object) (register_in register)
    else None

abbrev pub into_form : ℕ → IntoVerb → List Token → Option MeantForm
into_form version verb (Word register ∷ tokens) =
    option_and_then (into_object version verb register) (lone_word tokens)
into_form version verb tokens = None

abbrev pub wait_mutex : ℕ → List ℕ → List ℕ → Option MeantForm
wait_mutex version cond mutex =
    if is_name version cond && is_name version mutex then Some (Wait cond mutex) else None

abbrev pub wait_form : ℕ → List Token → Option MeantForm
wait_form version (Word cond ∷ tokens) =
    option_and_then (wait_mutex version cond) (lone_word tokens)
wait_form version tokens = None

-- a form that is its word alone
abbrev pub bare_form : MeantForm → List Token → Option MeantForm
bare_form form [] = Some form
bare_form form (token ∷ tokens) = None

abbrev pub is_comma : Token → Bool
is_comma (Symbol signs) = bytes_eq signs (codes ",")
is_comma token = false

-- what stands before the first comma, and behind it
abbrev pub parts_at : Option ℕ → List Token → Option (List Token × List Token)
parts_at None tokens = None
parts_at (Some place) tokens = Some (take place tokens, drop (place + 1) tokens)

-- the forms that remain, which hold no expression
abbrev pub quiet_form : ℕ → List ℕ → List Token → Option MeantForm
quiet_form version word tokens =
    if bytes_eq word (codes "wait") then wait_form version tokens
    else (if bytes_eq word (codes "yield") then bare_form Yield tokens
    else (if bytes_eq word (codes "end") then bare_form End tokens
    else (if bytes_eq word (codes "else") then bare_form Else tokens
    else None)))

abbrev pub by_on : Option OnVerb → ℕ → List Token → Option MeantForm → Option MeantForm
by_on None version tokens others = others
by_on (Some verb) version tokens others = on_form version verb tokens

abbrev pub by_into : Option IntoVerb → ℕ → List Token → Option MeantForm → Option MeantForm
by_into None version tokens others = others
by_into (Some verb) version tokens others = into_form version verb tokens

abbrev pub by_kind : Option NameKind → ℕ → List Token → Option MeantForm → Option MeantForm
by_kind None version tokens others = others
by_kind (Some kind) version tokens others = declared_form version kind tokens

abbrev pub write_form : ℕ → List Token → Option MeantForm
write_form version (Word var ∷ value) =
    if is_name version var then option_map (Write var) (expression_in value) else None
write_form version tokens = None

abbrev pub add_form : ℕ → List Token → Option MeantForm
add_form version (Word register ∷ Word var ∷ value) =
    if is_name version var
    then option_and_then (λ r. option_map (Add r var) (expression_in value)) (register_in register)
    else None
add_form version tokens = None

abbrev pub cas_pair : ℕ → List ℕ → List Token → List Token → Option MeantForm
cas_pair register var old new =
    option_and_then (λ a. option_map (Cas register var a) (expression_in new)) (expression_in old)

abbrev pub cas_parts : ℕ → List ℕ → Option (List Token × List Token) → Option MeantForm
cas_parts register var None = None
cas_parts register var (Some parts) = cas_pair register var parts.0 parts.1

abbrev pub cas_form : ℕ → List Token → Option MeantForm
cas_form version (Word register ∷ Word var ∷ values) =
    if is_name version var
    then option_and_then (λ r. cas_parts r var (parts_at (position is_comma values) values))
    (register_in register)
    else None
cas_form version tokens = None

abbrev pub set_form : List Token → Option MeantForm
set_form (Word register ∷ value) =
    option_and_then (λ r. option_map (Set r) (expression_in value)) (register_in register)
set_form tokens = None

-- the forms with an expression, and those that remain
abbrev pub other_form : ℕ → List ℕ → List Token → Option MeantForm
other_form version word tokens =
    if bytes_eq word (codes "write") then write_form version tokens
    else (if bytes_eq word (codes "add") then add_form version tokens
    else (if bytes_eq word (codes "cas") then cas_form version tokens
    else (if bytes_eq word (codes "set") then set_form tokens
    else (if bytes_eq word (codes "assert") then option_map Assert (expression_in tokens)
    else (if bytes_eq word (codes "if") then option_map If (expression_in tokens)
    else (if bytes_eq word (codes "while") then option_map While (expression_in tokens)
    else quiet_form version word tokens))))))

abbrev pub form_at : ℕ → List ℕ → List Token → Option MeantForm
form_at version word tokens =
    by_on (on_verb_in word) version tokens
    (by_into (into_verb_in word) version tokens
    (by_kind (kind_in word) version tokens (other_form version word tokens)))

-- the form of a line, by the version of the language
abbrev pub form_in : ℕ → List Token → Option MeantForm
form_in version (Word word ∷ tokens) = form_at version word tokens
form_in version tokens = None
