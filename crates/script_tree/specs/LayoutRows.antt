-- Small theorems that read the canonical layout.
use Rattle.std.specs.Prelude.{◌≡◌, ℕ, pos, [], ◌∷◌, ◌++◌, codes, refl}
use Rattle.std.specs.Fmt.{digits}
use Rattle.pct_ask.specs.NameLists.{NameLists}
use Rattle.script_tree.specs.declared.expr.Op.TheVariants as ops
use Rattle.script_tree.specs.Trees.{Expression, Closed, Then, Read, Write, Join, Assert}
use Rattle.script_tree.specs.Trees as trees
use Rattle.script_tree.specs.ScriptText.{ScriptText, Thread}
use Rattle.script_tree.specs.Layout.{expression_text, layout}
use Rattle.script_tree.specs.Renumbering.{renumbered_script}

-- two threads each add one to x, and the third, which waits for both, wants 2
abbrev pub lost_update_names : NameLists
lost_update_names = record {
  threads = codes "A" ∷ codes "B" ∷ codes "C" ∷ [];
  vars = codes "x" ∷ [];
  mutexes = [];
  conds = [];
  sems = [];
  barriers = [];
  rwlocks = [];
}

abbrev pub register_0 : Expression
register_0 = trees.Reg 0

abbrev pub plus_one : Expression
plus_one = trees.Two ops.Plus register_0 (trees.Number (pos 1))

abbrev pub is_two : Expression
is_two = trees.Two ops.Eq register_0 (trees.Number (pos 2))

-- its threads, where these are the lines of their names
abbrev pub adder : ℕ → ℕ → ℕ → ℕ → Thread
adder name read write end = record {
  line = name;
  body = Then (Read read 0 0) (Then (Write write 0 plus_one) (Closed end));
}

abbrev pub lost_update : Thread → Thread → Thread → ScriptText
lost_update a b c = record {
  version = 1;
  names = lost_update_names;
  vars = pos 0 ∷ [];
  sems = [];
  barriers = [];
  threads = a ∷ b ∷ c ∷ [];
}

abbrev pub checker : Thread
checker = record {
  line = 11;
  body =
      Then (Join 12 0)
      (Then (Join 13 1) (Then (Read 14 0 0) (Then (Assert 15 is_two) (Closed 16))));
}

abbrev other_checker : Thread
other_checker = record {
  line = 31;
  body =
      Then (Join 31 0) (Then (Join 40 1) (Then (Read 14 0 0) (Then (Assert 1 is_two) (Closed 2))));
}

pub lost_update_text : layout (lost_update (adder 3 4 5 6) (adder 7 8 9 10) checker) ≡
    codes "script 1\nvar x = 0\n"
    ++ codes "thread A\nread r0 x\nwrite x (r0 + 1)\nend\n"
    ++ codes "thread B\nread r0 x\nwrite x (r0 + 1)\nend\n"
    ++ codes "thread C\njoin A\njoin B\nread r0 x\nassert (r0 == 2)\nend\n"
unfolding digits
lost_update_text = refl

-- whatever its lines were, they are those of the layout
pub lost_update_lines : renumbered_script
    (lost_update (adder 9 9 1 2) (adder 7 30 9 10) other_checker)
    ≡ lost_update (adder 3 4 5 6) (adder 7 8 9 10) checker
lost_update_lines = refl

-- !(-r0 * 3) has its inner parentheses alone
pub signs_stand_before_their_part : expression_text
    (trees.Not (trees.Two ops.Times (trees.Minus register_0) (trees.Number (pos 3))))
    ≡ codes "!(-r0 * 3)"
unfolding digits
signs_stand_before_their_part = refl
