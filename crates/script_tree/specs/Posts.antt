-- What a thread of a script posts after the answers that it has had (this project).
use Rattle.std.specs.Prelude.{ℕ, ◌==◌, ◌||◌, ℤ, Bool, true, false, List, [], ◌∷◌, Some}
use Rattle.std.specs.Prelude.{slice_index_or}
use Rattle.std.specs.List.{list_any}
use Rattle.pct_ask.specs.declared.ask.Ask.TheVariants.{Begin}
use Rattle.pct_ask.specs.declared.ask.Post.{Post}
use Rattle.script_tree.specs.Trees.{Statement, Statements, Closed, Then, Start, If, IfElse, While}
use Rattle.script_tree.specs.Trees.{end_line}
use Rattle.script_tree.specs.ScriptText.{Thread, ScriptText}
use Rattle.script_tree.specs.Machine.{pending_from}
use Rattle.script_tree.specs.Moves.{head, end_state, at_start}

-- the post of a thread that begins with these statements
abbrev pub body_pending : (limit : ℕ) → Statements → List ℤ → Post
body_pending limit body answers =
    pending_from (head (end_line body)) end_state limit (at_start body) answers

-- a thread that is held asks first to begin, on its first line
abbrev pub held_pending : Bool → (limit : ℕ) → Thread → List ℤ → Post
held_pending false limit t answers = body_pending limit t.body answers
held_pending true limit t [] = record { ask = Some Begin; line = t.line }
held_pending true limit t (answer ∷ answers) = body_pending limit t.body answers

-- whether a `start` names the thread t
abbrev mutual
  pub starts : ℕ → Statement → Bool
  starts t (Start line thread) = thread == t
  starts t (If line test first) = any_starts t first
  starts t (IfElse line test first otherwise) = any_starts t first || any_starts t otherwise
  starts t (While line test body) = any_starts t body
  starts t s = false

  pub any_starts : ℕ → Statements → Bool
  any_starts t (Closed line) = false
  any_starts t (Then s rest) = starts t s || any_starts t rest

-- whether some `start` of the script names the thread t, which waits for it before it begins
abbrev pub is_held : ScriptText → ℕ → Bool
is_held script t = list_any (λ thread. any_starts t thread.body) script.threads

-- a thread without statements, in the place of one that there isn't
abbrev pub no_thread : Thread
no_thread = record { line = 0; body = Closed 0 }

-- the thread t of the script, and one without statements where there is none
abbrev pub thread_of : ScriptText → ℕ → Thread
thread_of script t = slice_index_or script.threads t no_thread

-- where a thread makes at most `limit` local moves between two asks
abbrev pub pending_within : (limit : ℕ) → ScriptText → ℕ → List ℤ → Post
pending_within limit script t answers =
    held_pending (is_held script t) limit (thread_of script t) answers

-- how many local moves a thread makes between two asks at most
unfoldable pub most_moves : ℕ
most_moves = 10000

-- the post of thread t of the script after these answers
abbrev pub pending : ScriptText → ℕ → List ℤ → Post
pending script t answers = pending_within most_moves script t answers
