-- The test that the program shows, and what is written of its run (this project).
use Rattle.std.specs.Prelude.{◌≡◌, ◌≢◌, ◌⊎◌, ℕ, ℤ, pos, List, [], ◌∷◌, Some, codes}
use Rattle.pct_ask.specs.NameLists.{NameLists}
use Rattle.pct_ask.specs.TraceText.{TraceHead, trace_text}
use Rattle.pct_ask.specs.VerdictText.{IsLine}
use Rattle.pct_ask.specs.declared.Deal.{Deal}
use Rattle.pct_ask.specs.declared.verdict.Verdict.TheVariants.{Passed}
use Rattle.pct_ask.specs.Objects.{Sizes}
use Rattle.pct_ask.specs.Bodies.{Pending, IsInRangeBody}
use Rattle.pct_outside.specs.Puts.{IsPutWhole, IsPutInPart}
use Rattle.pct_outside.specs.Told.{StreamTold}
use Rattle.worker_run.specs.Run.{Run, run}
use Rattle.kit_main.specs.declared.shown.Shown.{Shown}
use Rattle.kit_main.specs.declared.shown.Shown.TheVariants.{Done, Found, WriteFault, NoMemory}

-- the threads A, B and C, and the variable x
abbrev pub test_names : NameLists
test_names = record {
  threads = codes "A" ∷ codes "B" ∷ codes "C" ∷ [];
  vars = codes "x" ∷ [];
  mutexes = [];
  conds = [];
  sems = [];
  barriers = [];
  rwlocks = [];
}

-- they are all there is, and the variable is 0 at first
pub record IsTestDeal (deal : Deal) : Type 0 where
  pub threads : deal.threads ≡ 3
  pub vars : deal.vars ≡ pos 0 ∷ []
  pub mutexes : deal.mutexes ≡ 0
  pub conds : deal.conds ≡ 0
  pub sems : deal.sems ≡ []
  pub barriers : deal.barriers ≡ []
  pub rwlocks : deal.rwlocks ≡ 0

-- how many there are of each kind: three threads, one variable, and no other object
abbrev pub test_sizes : Sizes
test_sizes = record {
  threads = 3;
  vars = 1;
  mutexes = 0;
  conds = 0;
  sems = 0;
  barriers = 0;
  rwlocks = 0;
}

-- the order A B C
abbrev pub test_order : List ℕ
test_order = 0 ∷ 1 ∷ 2 ∷ []

-- one change point, after the first step
abbrev pub test_points : List ℕ
test_points = 1 ∷ []

-- the order and the point stand at the head of a trace of the first version, with room for 10000
-- steps
abbrev pub test_head : TraceHead
test_head = record { version = 1; order = test_order; points = test_points; limit = 10000 }

-- whatever it is answered, a body names only what there is, and its lines are a test's
pub record IsShowableBody (pending : Pending) : Type 0 where
  pub in_range : IsInRangeBody test_sizes pending
  pub lines : (answers : List ℤ) → IsLine (pending answers).line

-- the run of the bodies, of at most so many steps
pub record IsRunOfBodies (bodies : List Pending) (limit : ℕ) (r : Run) : Type 0 where
  pub deal : Deal
  pub is_deal : IsTestDeal deal
  pub is : run deal bodies test_order test_points limit ≡ Some r

-- the run that is shown: that of the bodies, of at most as many steps as the head says
abbrev pub IsShownRun : List Pending → Run → Type 0
IsShownRun bodies r = IsRunOfBodies bodies test_head.limit r

-- its trace
abbrev pub text_of_run : Run → List ℕ
text_of_run r = trace_text test_head test_names r.0 r.1

-- the trace of the run was put whole
abbrev pub PutsTrace : List Pending → StreamTold → StreamTold → Run → Type 0
PutsTrace bodies before after r = IsShownRun bodies r × IsPutWhole (text_of_run r) before after

-- a beginning of it was put, or nothing was
abbrev pub PutsPartOfTrace : List Pending → StreamTold → StreamTold → Type 0
PutsPartOfTrace bodies before after =
    ((r : Run) × IsShownRun bodies r × IsPutInPart (text_of_run r) before after)
    ⊎ (after ≡ before)

-- what is put with each answer
abbrev pub Shows : List Pending → StreamTold → StreamTold → Shown → Type 0
Shows bodies before after Done = (r : Run) × PutsTrace bodies before after r × (r.1 ≡ Passed)
Shows bodies before after Found = (r : Run) × PutsTrace bodies before after r × (r.1 ≢ Passed)
Shows bodies before after WriteFault = PutsPartOfTrace bodies before after
Shows bodies before after NoMemory = PutsPartOfTrace bodies before after
