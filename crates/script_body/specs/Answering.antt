-- What an answer does to a thread that waits at a statement (this project).
use Rattle.std.specs.Prelude.{ℕ, ℤ, Bool, true, false, not, ◌&&◌, if◌then◌else◌, List, Option, Some}
use Rattle.std.specs.Prelude.{None, slice_set}
use Rattle.script_tree.specs.Trees.{Statement, Read, Add, Cas, TryLock, Wait, TryDown, Arrive}
use Rattle.script_tree.specs.Trees.{TryRdLock, TryWrLock}
use Rattle.script_code.specs.FlatPosts.{Spot, spot}

-- the register that has the answer to a statement
abbrev pub answer_reg : Statement → Option ℕ
answer_reg (Read line reg var) = Some reg
answer_reg (Add line reg var value) = Some reg
answer_reg (Cas line reg var old new) = Some reg
answer_reg (TryLock line reg mutex) = Some reg
answer_reg (TryDown line reg sem) = Some reg
answer_reg (Arrive line reg barrier) = Some reg
answer_reg (TryRdLock line reg rwlock) = Some reg
answer_reg (TryWrLock line reg rwlock) = Some reg
answer_reg s = None

-- whether a statement asks twice
abbrev pub asks_twice : Statement → Bool
asks_twice (Wait line cond mutex) = true
asks_twice (Arrive line reg barrier) = true
asks_twice s = false

abbrev pub with_answer : Option ℕ → ℤ → List ℤ → List ℤ
with_answer None answer registers = registers
with_answer (Some reg) answer registers = slice_set registers reg answer

-- after the answer to a statement: between its two asks, or at the next operation
abbrev pub spot_after_answer : Statement → (next : ℕ) → Spot → ℤ → Spot
spot_after_answer s next at answer =
    if asks_twice s && not at.halfway
    then record { place = at.place; registers = at.registers; halfway = true }
    else spot next (with_answer (answer_reg s) answer at.registers)
