-- The grammar of scripts, as a relation between a text and the script that it spells (this
-- project).
use Rattle.std.specs.Prelude.{◌≡◌, ℕ, ◌+◌, ◌≤◌, ◌⊎◌, Bool, true, false, All, List, [], ◌∷◌, ◌++◌}
use Rattle.std.specs.Prelude.{length, map, Some}
use Rattle.std.specs.Str.{is_utf8}
use Rattle.pct_ask.specs.Lines.{lines_of}
use Rattle.pct_ask.specs.NameLists.{NameLists, AreNames, list_of}
use Rattle.pct_ask.specs.TraceText.{name_at}
use Rattle.pct_ask.specs.declared.names.NameKind.{NameKind}
use Rattle.pct_ask.specs.declared.names.NameKind.TheVariants as kinds
use Rattle.pct_ask.specs.declared.limits.TheConstants.{MAX_LINES}
use Rattle.pct_ask.specs.declared.statement_verbs.OnVerb.TheVariants as on_verbs
use Rattle.pct_ask.specs.declared.statement_verbs.IntoVerb.TheVariants as into_verbs
use Rattle.script_tree.specs.Trees.{Statement, Statements, Closed, Then}
use Rattle.script_tree.specs.Trees as trees
use Rattle.script_tree.specs.ScriptText.{ScriptText, Thread}
use Rattle.script_tree.specs.Fitting.{IsScript}
use Rattle.script_tree.specs.Ranges.{is_out_of_range}
use Rattle.script_tree.specs.Forms as forms
use Rattle.script_tree.specs.Forms.{TokenForm, MeantForm, On, Into, IsForm}
use Rattle.script_tree.specs.Lines.{tokens_in, is_blank_line, version_in, names_of, values_of}

-- a line that says something: its number, and what it means
abbrev pub Line : Type 0
Line = ℕ × MeantForm

abbrev mutual
  -- the lines of a statement; those of an `if` or a `while` are its first one and those of its
  -- blocks
  pub statement_lines : NameLists → Statement → List Line
  statement_lines names (trees.Read line reg var) =
      (line, Into into_verbs.Read reg (name_at names.vars var)) ∷ []
  statement_lines names (trees.Write line var value) =
      (line, forms.Write (name_at names.vars var) value) ∷ []
  statement_lines names (trees.Add line reg var value) =
      (line, forms.Add reg (name_at names.vars var) value) ∷ []
  statement_lines names (trees.Cas line reg var old new) =
      (line, forms.Cas reg (name_at names.vars var) old new) ∷ []
  statement_lines names (trees.Lock line mutex) =
      (line, On on_verbs.Lock (name_at names.mutexes mutex)) ∷ []
  statement_lines names (trees.TryLock line reg mutex) =
      (line, Into into_verbs.TryLock reg (name_at names.mutexes mutex)) ∷ []
  statement_lines names (trees.Unlock line mutex) =
      (line, On on_verbs.Unlock (name_at names.mutexes mutex)) ∷ []
  statement_lines names (trees.Wait line cond mutex) =
      (line, forms.Wait (name_at names.conds cond) (name_at names.mutexes mutex)) ∷ []
  statement_lines names (trees.Signal line cond) =
      (line, On on_verbs.Signal (name_at names.conds cond)) ∷ []
  statement_lines names (trees.Broadcast line cond) =
      (line, On on_verbs.Broadcast (name_at names.conds cond)) ∷ []
  statement_lines names (trees.Down line sem) =
      (line, On on_verbs.Down (name_at names.sems sem)) ∷ []
  statement_lines names (trees.TryDown line reg sem) =
      (line, Into into_verbs.TryDown reg (name_at names.sems sem)) ∷ []
  statement_lines names (trees.Up line sem) = (line, On on_verbs.Up (name_at names.sems sem)) ∷ []
  statement_lines names (trees.Arrive line reg barrier) =
      (line, Into into_verbs.Arrive reg (name_at names.barriers barrier)) ∷ []
  statement_lines names (trees.Join line thread) =
      (line, On on_verbs.Join (name_at names.threads thread)) ∷ []
  statement_lines names (trees.Yield line) = (line, forms.Yield) ∷ []
  statement_lines names (trees.Assert line test) = (line, forms.Assert test) ∷ []
  statement_lines names (trees.Set line reg value) = (line, forms.Set reg value) ∷ []
  statement_lines names (trees.If line test then) =
      (line, forms.If test) ∷ block_lines names forms.End then
  statement_lines names (trees.IfElse line test then otherwise) =
      (line, forms.If test)
      ∷ (block_lines names forms.Else then ++ block_lines names forms.End otherwise)
  statement_lines names (trees.While line test body) =
      (line, forms.While test) ∷ block_lines names forms.End body
  statement_lines names (trees.Start line thread) =
      (line, On on_verbs.Start (name_at names.threads thread)) ∷ []
  statement_lines names (trees.RdLock line rwlock) =
      (line, On on_verbs.RdLock (name_at names.rwlocks rwlock)) ∷ []
  statement_lines names (trees.WrLock line rwlock) =
      (line, On on_verbs.WrLock (name_at names.rwlocks rwlock)) ∷ []
  statement_lines names (trees.TryRdLock line reg rwlock) =
      (line, Into into_verbs.TryRdLock reg (name_at names.rwlocks rwlock)) ∷ []
  statement_lines names (trees.TryWrLock line reg rwlock) =
      (line, Into into_verbs.TryWrLock reg (name_at names.rwlocks rwlock)) ∷ []
  statement_lines names (trees.RwUnlock line rwlock) =
      (line, On on_verbs.RwUnlock (name_at names.rwlocks rwlock)) ∷ []

  -- the lines of statements, and the line that closes them
  pub block_lines : NameLists → MeantForm → Statements → List Line
  block_lines names closing (Closed line) = (line, closing) ∷ []
  block_lines names closing (Then statement rest) =
      statement_lines names statement ++ block_lines names closing rest

-- the lines of a thread, from its name to its `end`
abbrev pub thread_lines : NameLists → List ℕ → Thread → List Line
thread_lines names name thread =
    (thread.line, forms.Thread name) ∷ block_lines names forms.End thread.body

-- the lines of threads, one thread after another, by their names
abbrev pub all_thread_lines : NameLists → List (List ℕ) → List Thread → List Line
all_thread_lines names [] threads = []
all_thread_lines names (name ∷ more) [] = []
all_thread_lines names (name ∷ more) (thread ∷ threads) =
    thread_lines names name thread ++ all_thread_lines names more threads

-- a declaration of an object
abbrev pub declares : MeantForm → Bool
declares (forms.Plain kind name) = true
declares (forms.Valued kind name value) = true
declares form = false

-- the line has this meaning in a version of the language, and its numbers are in range
abbrev pub Says : ℕ → List ℕ → MeantForm → Type 0
Says version line meant =
    (cut : TokenForm)
    × IsForm version (tokens_in line) cut meant
    × (is_out_of_range (tokens_in line) meant ≡ false)

-- These texts, of which the first is the line of this number, are the lines, and blank ones between
-- them.
abbrev pub AreLines : ℕ → ℕ → List (List ℕ) → List Line → Type 0
AreLines version number [] lines = lines ≡ []
AreLines version number (text ∷ texts) lines =
    ((is_blank_line text ≡ true) × AreLines version (number + 1) texts lines)
    ⊎ ((meant : MeantForm)
    × (others : List Line)
    × (lines ≡ (number, meant) ∷ others)
    × Says version text meant
    × AreLines version (number + 1) texts others)

-- a line is text, of at most 256 bytes
pub record IsLineText (line : List ℕ) : Type 0 where
  pub text : is_utf8 line ≡ true
  pub short : length line ≤ 256

-- The text spells the script: its lines are blank ones, the header, the declarations and the lines
-- of each thread.
pub record Spells (bytes : List ℕ) (script : ScriptText) : Type 0 where
  pub small : length bytes ≤ 1048576
  pub few_lines : length (lines_of bytes) ≤ MAX_LINES
  pub sound : All IsLineText (lines_of bytes)
  pub above : List (List ℕ)
  pub header : List ℕ
  pub below : List (List ℕ)
  pub split : lines_of bytes ≡ above ++ header ∷ below
  pub blank : All (λ line. is_blank_line line ≡ true) above
  pub version : version_in (tokens_in header) ≡ Some script.version
  pub top : List Line
  pub above_threads : All (λ line. declares line.1 ≡ true) top
  pub lines : AreLines script.version (length above + 2) below
      (top ++ all_thread_lines script.names script.names.threads script.threads)
  pub names_are : (kind : NameKind)
      → names_of kind (map tokens_in below) ≡ list_of kind script.names
  pub vars : values_of kinds.Var (map tokens_in below) ≡ script.vars
  pub sems : values_of kinds.Sem (map tokens_in below) ≡ script.sems
  pub barriers : values_of kinds.Barrier (map tokens_in below) ≡ script.barriers
  pub names : AreNames script.names
  pub fits : IsScript script
