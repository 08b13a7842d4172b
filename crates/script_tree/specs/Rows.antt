-- Small theorems that read the definitions on known scripts.
use Rattle.std.specs.Prelude.{◌≡◌, ℕ, zero, suc, pos, negsuc, [], ◌∷◌, Ok, Err, Some, None, codes}
use Rattle.std.specs.Prelude.{true, refl}
use Rattle.std.specs.List.{list_all}
use Rattle.pct_ask.specs.declared.ask.Ask.TheVariants as asks
use Rattle.pct_ask.specs.declared.ask.FaultKind.TheVariants.{Overflow, ZeroDivisor, Spin}
use Rattle.script_tree.specs.declared.expr.Op.TheVariants as ops
use Rattle.script_tree.specs.Trees.{Number, Reg, Minus, Two, Closed, Then, Read, Write, Join}
use Rattle.script_tree.specs.Trees.{Assert, Yield, While, If, Start}
use Rattle.script_tree.specs.ScriptText.{Thread, ScriptText}
use Rattle.script_tree.specs.Fitting.{thread_fits}
use Rattle.script_tree.specs.Values.{value_of}
use Rattle.script_tree.specs.Posts.{pending, pending_within, most_moves}

-- two threads add 1 to a variable, not in one step, and a third one joins them and asserts the sum
abbrev pub adder : ℕ → Thread
adder line = record {
  line = line;
  body =
      Then (Read (suc line) 0 0)
      (Then (Write (suc (suc line)) 0 (Two ops.Plus (Reg 0) (Number (pos 1))))
      (Closed (suc (suc (suc line)))));
}

abbrev pub two_adders : ScriptText
two_adders = record {
  version = 1;
  names =
      record {
        threads = codes "A" ∷ codes "B" ∷ codes "C" ∷ [];
        vars = codes "x" ∷ [];
        mutexes = [];
        conds = [];
        sems = [];
        barriers = [];
        rwlocks = [];
      };
  vars = pos 0 ∷ [];
  sems = [];
  barriers = [];
  threads =
      adder 3 ∷ adder 7
      ∷ record {
        line = 11;
        body =
            Then (Join 12 0)
            (Then (Join 13 1)
            (Then (Read 14 0 0)
            (Then (Assert 15 (Two ops.Eq (Reg 0) (Number (pos 2)))) (Closed 16))));
      }
      ∷ [];
}

pub adders_fit : list_all (thread_fits 1 two_adders.names) two_adders.threads ≡ true
adders_fit = refl

-- the first adder's three posts: its read, its write of the sum, and its end
pub first_post : pending two_adders 0 [] ≡ record { ask = Some (asks.Read 0); line = 4 }
unfolding most_moves
first_post = refl

pub second_post : pending two_adders 0 (pos 0 ∷ [])
    ≡ record { ask = Some (asks.Write 0 (pos 1)); line = 5 }
unfolding most_moves
second_post = refl

pub third_post : pending two_adders 0 (pos 0 ∷ pos 0 ∷ []) ≡ record { ask = None; line = 6 }
unfolding most_moves
third_post = refl

-- the second adder reads what the first one wrote
pub later_write : pending two_adders 1 (pos 1 ∷ [])
    ≡ record { ask = Some (asks.Write 0 (pos 2)); line = 9 }
unfolding most_moves
later_write = refl

pub check_holds : pending two_adders 2 (pos 0 ∷ pos 0 ∷ pos 2 ∷ [])
    ≡ record { ask = Some (asks.Check true); line = 15 }
unfolding most_moves
check_holds = refl

-- a loop without end and without an ask
abbrev pub spinner : ScriptText
spinner = record {
  version = 1;
  names =
      record {
        threads = codes "A" ∷ [];
        vars = [];
        mutexes = [];
        conds = [];
        sems = [];
        barriers = [];
        rwlocks = [];
      };
  vars = [];
  sems = [];
  barriers = [];
  threads = record { line = 2; body = Then (While 3 (Number (pos 1)) (Closed 4)) (Closed 5) } ∷ [];
}

-- it spins, however many moves it may make
pub spins_within : (limit : ℕ)
    → pending_within limit spinner 0 [] ≡ record { ask = Some (asks.Fault Spin); line = 3 }
spins_within zero = refl
spins_within (suc limit) = spins_within limit

pub spins : pending spinner 0 [] ≡ record { ask = Some (asks.Fault Spin); line = 3 }
unfolding most_moves
spins = spins_within 10000

-- a thread that the first one starts asks first to begin
abbrev pub starter : ScriptText
starter = record {
  version = 2;
  names =
      record {
        threads = codes "A" ∷ codes "B" ∷ [];
        vars = [];
        mutexes = [];
        conds = [];
        sems = [];
        barriers = [];
        rwlocks = [];
      };
  vars = [];
  sems = [];
  barriers = [];
  threads =
      record {
        line = 2;
        body = Then (If 3 (Number (pos 0)) (Then (Start 4 1) (Closed 5))) (Closed 6);
      }
      ∷ record { line = 7; body = Then (Yield 8) (Closed 9) } ∷ [];
}

pub first_thread_ends : pending starter 0 [] ≡ record { ask = None; line = 6 }
unfolding most_moves
first_thread_ends = refl

pub held_thread_begins : pending starter 1 [] ≡ record { ask = Some asks.Begin; line = 7 }
unfolding most_moves
held_thread_begins = refl

pub held_thread_yields : pending starter 1 (pos 0 ∷ []) ≡ record { ask = Some asks.Yield; line = 8 }
unfolding most_moves
held_thread_yields = refl

-- a quotient is truncated toward zero, and the remainder has the sign of the dividend
pub quotient_of_minus_seven : value_of [] (Two ops.Over (Minus (Number (pos 7))) (Number (pos 2)))
    ≡ Ok (negsuc 2)
quotient_of_minus_seven = refl

pub remainder_of_minus_seven : value_of [] (Two ops.Rest (Minus (Number (pos 7))) (Number (pos 2)))
    ≡ Ok (negsuc 0)
remainder_of_minus_seven = refl

pub least_by_minus_one : value_of (negsuc 9223372036854775807 ∷ [])
    (Two ops.Over (Reg 0) (Minus (Number (pos 1))))
    ≡ Err Overflow
least_by_minus_one = refl

pub least_rest_minus_one : value_of (negsuc 9223372036854775807 ∷ [])
    (Two ops.Rest (Reg 0) (Minus (Number (pos 1))))
    ≡ Err Overflow
least_rest_minus_one = refl

-- the left part's fault is the fault, and a part that doesn't count has none
pub left_fault : value_of []
    (Two ops.Plus (Two ops.Over (Number (pos 1)) (Number (pos 0)))
    (Two ops.Plus (Number (pos 9223372036854775807)) (Number (pos 1))))
    ≡ Err ZeroDivisor
left_fault = refl

pub unread_part : value_of []
    (Two ops.And (Number (pos 0)) (Two ops.Over (Number (pos 1)) (Number (pos 0))))
    ≡ Ok (pos 0)
unread_part = refl
