-- Small theorems that read the definitions on known texts.
use Rattle.std.specs.Prelude.{◌≡◌, pos, negsuc, [], ◌∷◌, Some, None, codes, refl}
use Rattle.std.specs.Fmt.{digits}
use Rattle.pct_ask.specs.NameLists.{NameLists}
use Rattle.pct_ask.specs.TraceText.{trace_text}
use Rattle.pct_ask.specs.VerdictText.{NamedStuck}
use Rattle.pct_ask.specs.VerdictWords.{words_of}
use Rattle.pct_ask.specs.declared.ask.Ask.TheVariants.{Read, Add, RdLock}
use Rattle.pct_ask.specs.declared.verdict.Verdict.TheVariants.{Stuck, Cut}
use Rattle.pct_ask.specs.Numbers.{number_in}
use Rattle.pct_ask.specs.declared.trace_verbs.Verb.TheVariants as verbs
use Rattle.pct_ask.specs.declared.trace_verbs.Operands.TheVariants.{One, Two, Three}
use Rattle.pct_ask.specs.Pieces.{pieces_of}
use Rattle.pct_ask.specs.TraceVerbs.{verb_in}
use Rattle.trace_text.specs.reader.Numbers.{i64_in}
use Rattle.trace_text.specs.reader.StepLines.{row_of, step_in_words}
use Rattle.trace_text.specs.reader.Asks.{ask_of_words}
use Rattle.trace_text.specs.Faults.{version_of}
use Rattle.trace_text.specs.Forms as forms
use Rattle.trace_text.specs.Forms.{Order, Points, Limit, End, Name, Value, ask_form, words_of_form}
use Rattle.trace_text.specs.declared.row.TraceRow.TheVariants.{Step}

-- two threads, a variable and a read-write lock
abbrev pub some_names : NameLists
some_names = record {
  threads = codes "A" ∷ codes "B" ∷ [];
  vars = codes "x" ∷ [];
  mutexes = [];
  conds = [];
  sems = [];
  barriers = [];
  rwlocks = codes "l" ∷ [];
}

pub a_read : row_of some_names 1 (codes "1 A 4 read x = 0")
    ≡ Some (Step 1 (Some (record { thread = 0; line = 4; ask = Read 0; answer = pos 0 })))
unfolding row_of step_in_words ask_of_words verb_in i64_in number_in digits
a_read = refl

pub unknown_name : row_of some_names 1 (codes "1 A 4 read y = 0") ≡ Some (Step 1 None)
unfolding row_of step_in_words ask_of_words verb_in i64_in number_in digits
unknown_name = refl

pub leading_zero : row_of some_names 1 (codes "01 A 4 read x = 0") ≡ None
unfolding row_of step_in_words ask_of_words verb_in i64_in number_in digits
leading_zero = refl

pub rdlock_in_second : row_of some_names 2 (codes "1 A 4 rdlock l = 0")
    ≡ Some (Step 1 (Some (record { thread = 0; line = 4; ask = RdLock 0; answer = pos 0 })))
unfolding row_of step_in_words ask_of_words verb_in i64_in number_in digits
rdlock_in_second = refl

pub second_version_in_first : row_of some_names 1 (codes "1 A 4 rdlock l = 0") ≡ None
unfolding row_of step_in_words ask_of_words verb_in i64_in number_in digits
second_version_in_first = refl

-- two steps of a trace of the second version
pub two_steps : trace_text (record { version = 2; order = 0 ∷ 1 ∷ []; points = 1 ∷ []; limit = 2 })
    some_names
    (record { thread = 0; line = 5; ask = RdLock 0; answer = pos 0 }
    ∷ record { thread = 1; line = 11; ask = Add 0 (negsuc 2); answer = pos 9 } ∷ []) Cut
    ≡ codes
    "trace 2\norder A B\npoints 1\nlimit 2\n1 A 5 rdlock l = 0\n2 B 11 add x -3 = 9\nverdict cut\n"
unfolding digits
two_steps = refl

-- a run that ends at once
pub no_steps : trace_text (record { version = 1; order = 1 ∷ 0 ∷ []; points = []; limit = 100000 })
    some_names [] (Stuck ((0, 6) ∷ (1, 12) ∷ []))
    ≡ codes "trace 1\norder B A\npoints\nlimit 100000\nverdict stuck A 6 B 12\n"
unfolding digits
no_steps = refl

-- ---- forms

pub a_head : words_of (codes "order A B") ≡ words_of_form (Order (codes "A" ∷ codes "B" ∷ []))
a_head = refl

pub no_points : words_of (codes "points") ≡ words_of_form (Points [])
no_points = refl

pub a_limit : words_of (codes "limit 10000") ≡ words_of_form (Limit 10000)
unfolding digits
a_limit = refl

pub a_step : words_of (codes "3 B 8 read x = 7")
    ≡ words_of_form (forms.Step 3 (codes "B") 8 (ask_form verbs.Read (One (Name (codes "x"))))
    (pos 7))
unfolding digits
a_step = refl

pub a_wait : words_of (codes "12 A 9 release c m = 0")
    ≡ words_of_form (forms.Step 12 (codes "A") 9
    (ask_form verbs.Release (Two (Name (codes "c")) (Name (codes "m")))) (pos 0))
unfolding digits
a_wait = refl

pub an_exchange : words_of (codes "2 A 5 cas x -1 20 = 1")
    ≡ words_of_form (forms.Step 2 (codes "A") 5
    (ask_form verbs.Cas (Three (Name (codes "x")) (Value (negsuc 0)) (Value (pos 20)))) (pos 1))
unfolding digits
an_exchange = refl

pub a_stuck_run : words_of (codes "verdict stuck A 6 B 12")
    ≡ words_of_form (End (NamedStuck ((codes "A", 6) ∷ (codes "B", 12) ∷ [])))
unfolding digits
a_stuck_run = refl

-- two spaces cut a line elsewhere
pub two_spaces : words_of (codes "limit  9") ≡ codes "limit" ∷ [] ∷ codes "9" ∷ []
two_spaces = refl

pub second_version : version_of (pieces_of (codes "trace 2\norder A B\n")) ≡ 2
second_version = refl

pub no_version : version_of (pieces_of (codes "trace 3\norder A B\n")) ≡ 1
no_version = refl
