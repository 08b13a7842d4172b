-- The canonical layout of a script: each script has just one (this project).
use Rattle.std.specs.Prelude.{ℕ, ℤ, pos, negsuc, suc, List, [], ◌∷◌, ◌++◌, map, codes, decimal}
use Rattle.std.specs.List.{flat_map, join_with_byte}
use Rattle.pct_ask.specs.Numbers.{number_text}
use Rattle.pct_ask.specs.Tokens.{Token, Word, Number, Symbol}
use Rattle.pct_ask.specs.declared.names.NameKind.{NameKind}
use Rattle.pct_ask.specs.declared.names.NameKind.TheVariants as kinds
use Rattle.pct_ask.specs.Lines.{text_of_lines}
use Rattle.pct_ask.specs.Words.{register_word}
use Rattle.pct_ask.specs.StatementVerbs.{on_word, into_word}
use Rattle.script_tree.specs.Trees.{Expression}
use Rattle.script_tree.specs.Trees as trees
use Rattle.script_tree.specs.Expressions.{signs_of}
use Rattle.script_tree.specs.Forms.{MeantForm, kind_word}
use Rattle.script_tree.specs.Forms as forms
use Rattle.script_tree.specs.Grammar.{Line, all_thread_lines}
use Rattle.script_tree.specs.ScriptText.{ScriptText}

-- words with one space between them
abbrev pub spaced_words : List (List ℕ) → List ℕ
spaced_words words = join_with_byte 32 words

-- Each operation between two parts stands in parentheses, the outermost too, and `!` and `-`
-- directly before their part.
abbrev pub expression_text : Expression → List ℕ
expression_text (trees.Number n) = number_text n
expression_text (trees.Reg reg) = register_word reg
expression_text (trees.Not a) = codes "!" ++ expression_text a
expression_text (trees.Minus a) = codes "-" ++ expression_text a
expression_text (trees.Two op a b) =
    codes "("
    ++ (spaced_words (expression_text a ∷ signs_of op ∷ expression_text b ∷ []) ++ codes ")")

-- a token as it is written
abbrev pub token_text : Token → List ℕ
token_text (Word letters) = letters
token_text (Number digits) = digits
token_text (Symbol signs) = signs

-- The text of a line: its tokens with one space between them, but none before the comma of `cas`,
-- and none between the `-` and the digits of a first value.
abbrev pub form_text : MeantForm → List ℕ
form_text (forms.Plain kind name) = spaced_words (kind_word kind ∷ name ∷ [])
form_text (forms.Valued kind name value) =
    spaced_words (kind_word kind ∷ name ∷ codes "=" ∷ flat_map token_text value ∷ [])
form_text (forms.Thread name) = spaced_words (codes "thread" ∷ name ∷ [])
form_text (forms.On verb object) = spaced_words (on_word verb ∷ object ∷ [])
form_text (forms.Into verb register object) =
    spaced_words (into_word verb ∷ register_word register ∷ object ∷ [])
form_text (forms.Write var value) = spaced_words (codes "write" ∷ var ∷ expression_text value ∷ [])
form_text (forms.Add register var value) =
    spaced_words (codes "add" ∷ register_word register ∷ var ∷ expression_text value ∷ [])
form_text (forms.Cas register var old new) =
    spaced_words
    (codes "cas" ∷ register_word register ∷ var ∷ (expression_text old ++ codes ",")
    ∷ expression_text new ∷ [])
form_text (forms.Wait cond mutex) = spaced_words (codes "wait" ∷ cond ∷ mutex ∷ [])
form_text forms.Yield = codes "yield"
form_text (forms.Assert test) = spaced_words (codes "assert" ∷ expression_text test ∷ [])
form_text (forms.Set register value) =
    spaced_words (codes "set" ∷ register_word register ∷ expression_text value ∷ [])
form_text (forms.If test) = spaced_words (codes "if" ∷ expression_text test ∷ [])
form_text (forms.While test) = spaced_words (codes "while" ∷ expression_text test ∷ [])
form_text forms.End = codes "end"
form_text forms.Else = codes "else"

-- the tokens of an object's first value
abbrev pub value_tokens : ℤ → List Token
value_tokens (pos n) = Number (decimal n) ∷ []
value_tokens (negsuc n) = Symbol (codes "-") ∷ Number (decimal (suc n)) ∷ []

-- declarations of these names, without first values
abbrev pub plain_forms : NameKind → List (List ℕ) → List MeantForm
plain_forms kind names = map (forms.Plain kind) names

-- declarations of these names, each with its first value
abbrev pub valued_forms : NameKind → List (List ℕ) → List ℤ → List MeantForm
valued_forms kind [] values = []
valued_forms kind (name ∷ names) [] = []
valued_forms kind (name ∷ names) (value ∷ values) =
    forms.Valued kind name (value_tokens value) ∷ valued_forms kind names values

-- the declarations of objects, by kinds in this order
abbrev pub declared_forms : ScriptText → List MeantForm
declared_forms script =
    valued_forms kinds.Var script.names.vars script.vars
    ++ (plain_forms kinds.Mutex script.names.mutexes
    ++ (plain_forms kinds.Cond script.names.conds
    ++ (valued_forms kinds.Sem script.names.sems script.sems
    ++ (valued_forms kinds.Barrier script.names.barriers script.barriers
    ++ plain_forms kinds.RwLock script.names.rwlocks))))

-- what lines mean, without their numbers
abbrev pub meanings : List Line → List MeantForm
meanings lines = map (λ line. line.1) lines

-- what the lines below the header mean: the declarations, and then the threads
abbrev pub forms_of : ScriptText → List MeantForm
forms_of script =
    declared_forms script
    ++ meanings (all_thread_lines script.names script.names.threads script.threads)

-- the first line: `script` and the version of the language
abbrev pub header_text : ℕ → List ℕ
header_text version = spaced_words (codes "script" ∷ decimal version ∷ [])

-- the canonical layout: the header, and then a line for each declaration, statement, `else` and
-- `end`
abbrev pub layout : ScriptText → List ℕ
layout script = text_of_lines (header_text script.version ∷ map form_text (forms_of script))
