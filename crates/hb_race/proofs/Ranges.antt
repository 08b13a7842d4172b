-- What there is in a test is within the most that a test may have.
use Rattle.std.proofs.Common.{◌≡◌, ℕ, ◌<◌, ◌≤◌, List, [], ◌∷◌, length, get_or, All, arith}
use Rattle.pct_ask.specs.declared.names.NameKind.{NameKind}
use Rattle.pct_ask.specs.declared.names.NameKind.TheVariants.{Thread, Var, Mutex, Cond, Sem}
use Rattle.pct_ask.specs.declared.names.NameKind.TheVariants.{Barrier, RwLock}
use Rattle.pct_ask.specs.declared.deal.Deal.{Deal}
use Rattle.pct_ask.specs.declared.event.Event.{Event}
use Rattle.pct_ask.specs.Objects.{Sizes, TestObject, count_of, sizes_of_deal, objects_of, AreThere}
use Rattle.pct_ask.specs.Objects.{EventIsInRange}
use Rattle.hb_race.specs.Ranges.{most_with}

record IsWithin (a b : Sizes) : Type 0 where
  threads : a.threads ≤ b.threads
  vars : a.vars ≤ b.vars
  mutexes : a.mutexes ≤ b.mutexes
  conds : a.conds ≤ b.conds
  sems : a.sems ≤ b.sems
  barriers : a.barriers ≤ b.barriers
  rwlocks : a.rwlocks ≤ b.rwlocks

kind-within : (kind : NameKind) (a b : Sizes) → IsWithin a b → count_of kind a ≤ count_of kind b
kind-within Thread a b within = within.threads
kind-within Var a b within = within.vars
kind-within Mutex a b within = within.mutexes
kind-within Cond a b within = within.conds
kind-within Sem a b within = within.sems
kind-within Barrier a b within = within.barriers
kind-within RwLock a b within = within.rwlocks

one-wider : (a b : Sizes) (o : TestObject) → IsWithin a b → o.place < count_of o.kind a
    → o.place < count_of o.kind b
one-wider a b o within low = omega (arith, kind-within o.kind a b within, low)

wider : (a b : Sizes) (objects : List TestObject) → IsWithin a b → AreThere a objects
    → AreThere b objects
wider a b [] within low = tt
wider a b (o ∷ []) within low = one-wider a b o within low
wider a b (o ∷ p ∷ others) within low =
    (one-wider a b o within low.0, wider a b (p ∷ others) within low.1)

pub all-wider : (deal : Deal) (vars : ℕ) (events : List Event) → vars ≡ length deal.vars
    → All (EventIsInRange (sizes_of_deal deal)) events
    → All (EventIsInRange (most_with vars)) events
all-wider deal vars events same range = λ k d low.
    let within : IsWithin (sizes_of_deal deal) (most_with vars) = record {
      threads = deal.few_threads;
      vars = omega arith;
      mutexes = deal.few_mutexes;
      conds = deal.few_conds;
      sems = deal.few_sems;
      barriers = deal.few_barriers;
      rwlocks = deal.few_rwlocks;
    } in
    let at = range k d low in
    record {
      thread = let few = deal.few_threads in let thread = at.thread in omega arith;
      ask =
          wider (sizes_of_deal deal) (most_with vars) (objects_of (get_or events k d).ask) within
          at.ask;
    }
