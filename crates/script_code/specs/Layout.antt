-- The flat code of a thread's statements, each by one operation (this project).
use Rattle.std.specs.Prelude.{ℕ, ◌+◌, Bool, true, false, List, [], ◌∷◌, ◌++◌}
use Rattle.script_tree.specs.Trees.{Statement, Statements, Closed, Then, If, IfElse, While}
use Rattle.script_tree.specs.Trees.{end_line}
use Rattle.script_tree.specs.ScriptText.{Thread, ScriptText}
use Rattle.script_tree.specs.Fitting.{count_of, counts_of}
use Rattle.script_tree.specs.Posts.{is_held}
use Rattle.script_code.specs.Operations.{Operation, Do, Test, End, Begin}

-- where statements that are laid at a place begin: where there are none, what comes next does
abbrev pub entry : (at next : ℕ) → Statements → ℕ
entry at next (Closed line) = next
entry at next (Then s rest) = at

-- The operations of a statement that is laid at a place, with the place of what comes next. A test
-- comes first, and then the operations of its blocks.
abbrev mutual
  pub code_of : (at next : ℕ) → Statement → List Operation
  code_of at next (If line test first) =
      Test line test (entry (at + 1) next first) next ∷ codes_of (at + 1) next first
  code_of at next (IfElse line test first otherwise) =
      Test line test (entry (at + 1) next first) (entry (at + 1 + counts_of first) next otherwise)
      ∷ (codes_of (at + 1) next first ++ codes_of (at + 1 + counts_of first) next otherwise)
  code_of at next (While line test body) =
      Test line test (entry (at + 1) at body) next ∷ codes_of (at + 1) at body
  code_of at next s = Do s next ∷ []

  pub codes_of : (at next : ℕ) → Statements → List Operation
  codes_of at next (Closed line) = []
  codes_of at next (Then s rest) =
      code_of at (entry (at + count_of s) next rest) s ++ codes_of (at + count_of s) next rest

-- the operations of statements from a place on, and then their end
abbrev pub body_code : (at : ℕ) → Statements → List Operation
body_code at body = codes_of at (at + counts_of body) body ++ End (end_line body) ∷ []

-- what stands before the statements of a thread: one that is held begins
abbrev pub begin_operations : Bool → (line : ℕ) → List Operation
begin_operations false line = []
begin_operations true line = Begin line 1 ∷ []

-- the operations of a thread
abbrev pub thread_code : Bool → Thread → List Operation
thread_code false t = body_code 0 t.body
thread_code true t = Begin t.line 1 ∷ body_code 1 t.body

-- the operations of threads, the first of which has this place
abbrev pub code_from : ScriptText → ℕ → List Thread → List (List Operation)
code_from script t [] = []
code_from script t (thread ∷ threads) =
    thread_code (is_held script t) thread ∷ code_from script (t + 1) threads

abbrev pub script_code : ScriptText → List (List Operation)
script_code script = code_from script 0 script.threads
