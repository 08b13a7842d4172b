-- Texts with the scripts that they spell, and one faulty text for each kind of fault.
use Rattle.std.specs.Prelude.{◌≡◌, ℕ, pos, List, [], ◌∷◌, ◌++◌, Ok, Err, codes, replicate, refl}
use Rattle.std.specs.Str.{is_utf8, chars}
use lib.Utf8.{encode}
use Rattle.script_tree.specs.declared.expr.Op.TheVariants as ops
use Rattle.script_tree.specs.Trees.{Number, Reg, Two, Closed, Then, Read, Write, Join, Assert}
use Rattle.script_tree.specs.ScriptText.{ScriptText}
use Rattle.script_tree.specs.declared.fault.ScriptFault.TheVariants as fault
use Rattle.script_tree.specs.Grammar.{Spells}
use Rattle.script_tree.specs.Faults.{IsFault}
use Rattle.script_parse.specs.Reading.{read_as_script}
use Rattle.script_parse.proofs.FaultLaws.{fault_found}
use Rattle.script_parse.proofs.Spelled.{read_is_spelled}

-- two threads that add 1 to a variable, not in one step, and a third one that joins them and
-- asserts the sum
abbrev pub lost_update_text : List ℕ
lost_update_text =
    codes
    "script 1\nvar x = 0\nthread A\n  read r0 x\n  write x r0 + 1\nend\nthread B\n  read r0 x\n  write x r0 + 1\nend\nthread C\n  join A\n  join B\n  read r0 x\n  assert r0 == 2\nend\n"

abbrev pub lost_update : ScriptText
lost_update = record {
  version = 1;
  names = record {
    threads = codes "A" ∷ codes "B" ∷ codes "C" ∷ [];
    vars = codes "x" ∷ [];
    mutexes = [];
    conds = [];
    sems = [];
    barriers = [];
    rwlocks = [];
  };
  vars = pos 0 ∷ [];
  sems = [];
  barriers = [];
  threads =
      record {
        line = 3;
        body = Then (Read 4 0 0)
            (Then (Write 5 0 (Two ops.Plus (Reg 0) (Number (pos 1)))) (Closed 6));
      }
      ∷ record {
        line = 7;
        body = Then (Read 8 0 0)
            (Then (Write 9 0 (Two ops.Plus (Reg 0) (Number (pos 1)))) (Closed 10));
      }
      ∷ record {
        line = 11;
        body = Then (Join 12 0)
            (Then (Join 13 1) (Then (Read 14 0 0)
            (Then (Assert 15 (Two ops.Eq (Reg 0) (Number (pos 2)))) (Closed 16))));
      }
      ∷ [];
}

lost_update_read : read_as_script lost_update_text ≡ Ok lost_update
unfolding is_utf8 chars encode
lost_update_read = refl

pub lost_update_spelled : Spells lost_update_text lost_update
lost_update_spelled = read_is_spelled lost_update_text lost_update lost_update_read

not_utf8_read : read_as_script (codes "script 1\n" ++ 128 ∷ []) ≡ Err (2, fault.NotUtf8)
unfolding is_utf8 chars encode
not_utf8_read = refl

pub not_utf8 : IsFault (codes "script 1\n" ++ 128 ∷ []) 2 fault.NotUtf8
not_utf8 = fault_found (codes "script 1\n" ++ 128 ∷ []) 2 fault.NotUtf8 not_utf8_read

bad_header_read : read_as_script (codes "script 4\nthread A\nend\n") ≡ Err (1, fault.BadHeader)
unfolding is_utf8 chars encode
bad_header_read = refl

pub bad_header : IsFault (codes "script 4\nthread A\nend\n") 1 fault.BadHeader
bad_header = fault_found (codes "script 4\nthread A\nend\n") 1 fault.BadHeader bad_header_read

bad_token_read : read_as_script (codes "script 1\nthread A\nset r0 1 ; 2\nend\n")
    ≡ Err (3, fault.BadToken)
unfolding is_utf8 chars encode
bad_token_read = refl

pub bad_token : IsFault (codes "script 1\nthread A\nset r0 1 ; 2\nend\n") 3 fault.BadToken
bad_token =
    fault_found (codes "script 1\nthread A\nset r0 1 ; 2\nend\n") 3 fault.BadToken bad_token_read

bad_statement_read : read_as_script (codes "script 1\nthread A\nset r0\nend\n")
    ≡ Err (3, fault.BadStatement)
unfolding is_utf8 chars encode
bad_statement_read = refl

pub bad_statement : IsFault (codes "script 1\nthread A\nset r0\nend\n") 3 fault.BadStatement
bad_statement =
    fault_found (codes "script 1\nthread A\nset r0\nend\n") 3 fault.BadStatement bad_statement_read

unknown_name_read : read_as_script (codes "script 1\nthread A\nread r0 x\nend\n")
    ≡ Err (3, fault.UnknownName)
unfolding is_utf8 chars encode
unknown_name_read = refl

pub unknown_name : IsFault (codes "script 1\nthread A\nread r0 x\nend\n") 3 fault.UnknownName
unknown_name =
    fault_found (codes "script 1\nthread A\nread r0 x\nend\n") 3 fault.UnknownName unknown_name_read

twice_named_read : read_as_script (codes "script 1\nvar A = 0\nthread A\nend\n")
    ≡ Err (3, fault.TwiceNamed)
unfolding is_utf8 chars encode
twice_named_read = refl

pub twice_named : IsFault (codes "script 1\nvar A = 0\nthread A\nend\n") 3 fault.TwiceNamed
twice_named =
    fault_found (codes "script 1\nvar A = 0\nthread A\nend\n") 3 fault.TwiceNamed twice_named_read

number_range_read : read_as_script
    (codes "script 1\nvar x = 9223372036854775808\nthread A\nend\n") ≡ Err (2, fault.NumberRange)
unfolding is_utf8 chars encode
number_range_read = refl

pub number_range : IsFault (codes "script 1\nvar x = 9223372036854775808\nthread A\nend\n") 2
    fault.NumberRange
number_range =
    fault_found (codes "script 1\nvar x = 9223372036854775808\nthread A\nend\n") 2 fault.NumberRange
    number_range_read

no_end_read : read_as_script (codes "script 1\nthread A\nyield\n") ≡ Err (3, fault.NoEnd)
unfolding is_utf8 chars encode
no_end_read = refl

pub no_end : IsFault (codes "script 1\nthread A\nyield\n") 3 fault.NoEnd
no_end = fault_found (codes "script 1\nthread A\nyield\n") 3 fault.NoEnd no_end_read

stray_end_read : read_as_script (codes "script 1\nthread A\nend\nend\n") ≡ Err (4, fault.StrayEnd)
unfolding is_utf8 chars encode
stray_end_read = refl

pub stray_end : IsFault (codes "script 1\nthread A\nend\nend\n") 4 fault.StrayEnd
stray_end = fault_found (codes "script 1\nthread A\nend\nend\n") 4 fault.StrayEnd stray_end_read

no_thread_read : read_as_script (codes "script 1\nvar x = 0\n") ≡ Err (2, fault.NoThread)
unfolding is_utf8 chars encode
no_thread_read = refl

pub no_thread : IsFault (codes "script 1\nvar x = 0\n") 2 fault.NoThread
no_thread = fault_found (codes "script 1\nvar x = 0\n") 2 fault.NoThread no_thread_read

abbrev line_too_long_text : List ℕ
line_too_long_text =
    codes
    "script 1\n#xxxxxxxxxxxxxxxxxxxxxxxxxxxxxxxxxxxxxxxxxxxxxxxxxxxxxxxxxxxxxxxxxxxxxxxxxxxxxxxxxxxxxxxxxxxxxxxxxxxxxxxxxxxxxxxxxxxxxxxxxxxxxxxxxxxxxxxxxxxxxxxxxxxxxxxxxxxxxxxxxxxxxxxxxxxxxxxxxxxxxxxxxxxxxxxxxxxxxxxxxxxxxxxxxxxxxxxxxxxxxxxxxxxxxxxxxxxxxxxxxxxxxxxxxxxxxxxx\nthread A\nend\n"

line_too_long_read : read_as_script line_too_long_text ≡ Err (2, fault.LineTooLong)
unfolding is_utf8 chars encode
line_too_long_read = refl

pub line_too_long : IsFault line_too_long_text 2 fault.LineTooLong
line_too_long = fault_found line_too_long_text 2 fault.LineTooLong line_too_long_read

abbrev too_many_text : List ℕ
too_many_text =
    codes
    "script 1\nthread A\nend\nthread B\nend\nthread C\nend\nthread D\nend\nthread E\nend\nthread F\nend\nthread G\nend\nthread H\nend\nthread I\nend\nthread J\nend\nthread K\nend\nthread L\nend\nthread M\nend\nthread N\nend\nthread O\nend\nthread P\nend\nthread Q\nend\n"

too_many_read : read_as_script too_many_text ≡ Err (34, fault.TooMany)
unfolding is_utf8 chars encode
too_many_read = refl

pub too_many : IsFault too_many_text 34 fault.TooMany
too_many = fault_found too_many_text 34 fault.TooMany too_many_read

-- 4,096 blank lines, and a header
abbrev too_many_lines_text : List ℕ
too_many_lines_text = replicate 4096 10 ++ codes "script 1\n"

too_many_lines_read : read_as_script too_many_lines_text ≡ Err (4097, fault.TooManyLines)
unfolding is_utf8 chars encode
too_many_lines_read = refl

pub too_many_lines : IsFault too_many_lines_text 4097 fault.TooManyLines
too_many_lines = fault_found too_many_lines_text 4097 fault.TooManyLines too_many_lines_read
