-- A script that has every declaration, statement and operator, and its canonical layout.
use Rattle.std.specs.Prelude.{◌≡◌, ℕ, pos, negsuc, List, [], ◌∷◌, ◌++◌, codes, refl}
use Rattle.std.specs.Fmt.{digits}
use Rattle.pct_ask.specs.NameLists.{NameLists}
use Rattle.script_tree.specs.declared.expr.Op.TheVariants as ops
use Rattle.script_tree.specs.Trees.{Expression, Statement, Closed, Then, closed_at, Reg, Number}
use Rattle.script_tree.specs.Trees.{Not, Minus, Two, Read, Write, Add, Cas, Lock, TryLock, Unlock}
use Rattle.script_tree.specs.Trees.{Wait, Signal, Broadcast, Down, TryDown, Up, Arrive, Join, Yield}
use Rattle.script_tree.specs.Trees.{Assert, Set, If, IfElse, While, Start, RdLock, WrLock}
use Rattle.script_tree.specs.Trees.{TryRdLock, TryWrLock, RwUnlock}
use Rattle.script_tree.specs.ScriptText.{ScriptText}
use Rattle.script_tree.specs.Layout.{layout}

abbrev pub every_name : NameLists
every_name = record {
  threads = codes "A" ∷ codes "B" ∷ [];
  vars = codes "low" ∷ codes "high" ∷ [];
  mutexes = codes "m" ∷ [];
  conds = codes "c" ∷ [];
  sems = codes "s" ∷ [];
  barriers = codes "b" ∷ [];
  rwlocks = codes "l" ∷ [];
}

abbrev pub n : ℕ → Expression
n value = Number (pos value)

-- each operator between two parts
abbrev pub operations : List Statement
operations =
    Set 1 0 (Two ops.Or (n 1) (Two ops.And (n 2) (n 3)))
    ∷ Set 2 1 (Two ops.Ne (Two ops.Eq (Reg 0) (n 1)) (Two ops.Lt (Reg 2) (n 3)))
    ∷ Set 3 2 (Two ops.Gt (Two ops.Le (n 4) (Reg 3)) (Two ops.Ge (n 5) (Reg 15)))
    ∷ Set 4 3
    (Two ops.Less (Two ops.Plus (n 6) (n 7))
    (Two ops.Over (Two ops.Times (n 8) (n 9)) (Two ops.Rest (n 10) (n 11))))
    ∷ Set 5 4 (Not (Minus (Reg 5))) ∷ []

abbrev pub accesses : List Statement
accesses =
    Read 6 0 0 ∷ Write 7 1 (Reg 0) ∷ Add 8 6 1 (Minus (n 1)) ∷ Cas 9 7 0 (n 1) (Not (Reg 8))
    ∷ Assert 10 (Two ops.Eq (Reg 0) (n 2)) ∷ []

abbrev pub waits : List Statement
waits = Lock 11 0 ∷ TryLock 12 9 0 ∷ Unlock 13 0 ∷ Wait 14 0 0 ∷ Signal 15 0 ∷ Broadcast 16 0 ∷ []

abbrev pub meetings : List Statement
meetings = Down 17 0 ∷ TryDown 18 10 0 ∷ Up 19 0 ∷ Arrive 20 11 0 ∷ Join 21 1 ∷ Start 22 1 ∷ []

abbrev pub shares : List Statement
shares = RdLock 23 0 ∷ WrLock 24 0 ∷ TryRdLock 25 12 0 ∷ TryWrLock 26 13 0 ∷ RwUnlock 27 0 ∷ []

abbrev pub one_block : Statement
one_block = If 28 (Reg 0) (Then (Yield 29) (Closed 30))

abbrev pub two_blocks : Statement
two_blocks = IfElse 31 (n 0) (Closed 32) (Then (Yield 33) (Closed 34))

abbrev pub inner_block : Statement
inner_block = If 36 (n 1) (Closed 37)

abbrev pub nested_blocks : Statement
nested_blocks = While 35 (n 0) (Then inner_block (Closed 38))

abbrev pub blocks : List Statement
blocks = one_block ∷ two_blocks ∷ nested_blocks ∷ []

abbrev pub every_statement : List Statement
every_statement = operations ++ (accesses ++ (waits ++ (meetings ++ (shares ++ blocks))))

abbrev pub every_form : ScriptText
every_form = record {
  version = 3;
  names = every_name;
  vars = negsuc 9223372036854775807 ∷ pos 9223372036854775807 ∷ [];
  sems = pos 2147483647 ∷ [];
  barriers = pos 1000 ∷ [];
  threads =
      record { line = 40; body = closed_at 41 every_statement }
      ∷ record { line = 42; body = Closed 43 } ∷ [];
}

pub every_form_text : layout every_form ≡
    codes "script 3\nvar low = -9223372036854775808\nvar high = 9223372036854775807\n"
    ++ codes "mutex m\ncond c\nsem s = 2147483647\nbarrier b = 1000\nrwlock l\nthread A\n"
    ++ codes "set r0 (1 || (2 && 3))\nset r1 ((r0 == 1) != (r2 < 3))\n"
    ++ codes "set r2 ((4 <= r3) > (5 >= r15))\nset r3 ((6 + 7) - ((8 * 9) / (10 % 11)))\n"
    ++ codes "set r4 !-r5\nread r0 low\nwrite high r0\nadd r6 high -1\ncas r7 low 1, !r8\n"
    ++ codes "assert (r0 == 2)\nlock m\ntrylock r9 m\nunlock m\nwait c m\nsignal c\n"
    ++ codes "broadcast c\ndown s\ntrydown r10 s\nup s\narrive r11 b\njoin B\nstart B\n"
    ++ codes "rdlock l\nwrlock l\ntryrdlock r12 l\ntrywrlock r13 l\nrwunlock l\nif r0\n"
    ++ codes "yield\nend\nif 0\nelse\nyield\nend\nwhile 0\nif 1\nend\nend\nend\nthread B\n"
    ++ codes "end\n"
unfolding digits
every_form_text = refl
