-- What holds of all flat code (this project).
use Rattle.std.specs.Prelude.{ℕ, ◌-◌, ◌^◌, ◌&&◌, Bool, true, false, nat_lt, List, [], length}
use Rattle.std.specs.Prelude.{Option, Some, slice_get, slice_index_or}
use Rattle.std.specs.List.{list_all}
use Rattle.script_tree.specs.Trees.{Statement, Read, Write, Add, Cas, TryLock, TryDown, Arrive}
use Rattle.script_tree.specs.Trees.{Assert, Set, If, IfElse, While, TryRdLock, TryWrLock}
use Rattle.script_tree.specs.Fitting.{reg_fits, expression_fits}
use Rattle.script_code.specs.Operations.{Operation, Do, Test, End, Begin}

-- a statement that holds neither others nor an expression
abbrev pub has_no_expression : Statement → Bool
has_no_expression (Write line var value) = false
has_no_expression (Add line reg var value) = false
has_no_expression (Cas line reg var old new) = false
has_no_expression (Assert line test) = false
has_no_expression (Set line reg value) = false
has_no_expression (If line test first) = false
has_no_expression (IfElse line test first otherwise) = false
has_no_expression (While line test body) = false
has_no_expression s = true

-- a statement with no blocks, which names registers that there are
abbrev pub is_lone : Statement → Bool
is_lone (Read line reg var) = reg_fits reg
is_lone (Write line var value) = expression_fits value
is_lone (Add line reg var value) = reg_fits reg && expression_fits value
is_lone (Cas line reg var old new) = reg_fits reg && expression_fits old && expression_fits new
is_lone (TryLock line reg mutex) = reg_fits reg
is_lone (TryDown line reg sem) = reg_fits reg
is_lone (Arrive line reg barrier) = reg_fits reg
is_lone (Assert line test) = expression_fits test
is_lone (Set line reg value) = reg_fits reg && expression_fits value
is_lone (If line test first) = false
is_lone (IfElse line test first otherwise) = false
is_lone (While line test body) = false
is_lone (TryRdLock line reg rwlock) = reg_fits reg
is_lone (TryWrLock line reg rwlock) = reg_fits reg
is_lone s = true

-- an operation of a list of this length: each place that it names is in the list
abbrev pub is_placed : (length : ℕ) → Operation → Bool
is_placed n (Do s next) = is_lone s && nat_lt next n
is_placed n (Test line test next otherwise) =
    expression_fits test && nat_lt next n && nat_lt otherwise n
is_placed n (End line) = true
is_placed n (Begin line next) = nat_lt next n

-- an operation with which its thread ends
abbrev pub is_end : Option Operation → Bool
is_end (Some (End line)) = true
is_end op = false

-- the place of a list's last operation
abbrev pub last_place : List Operation → ℕ
last_place code = length code - 1

-- a thread's list: its last operation is its end
abbrev pub is_listing : List Operation → Bool
is_listing code =
    list_all (is_placed (length code)) code
    && is_end (slice_get code (last_place code))
    && nat_lt (length code) (2 ^ 32)

-- the list of a thread
abbrev pub listing_of : List (List Operation) → ℕ → List Operation
listing_of code t = slice_index_or code t []
