-- The threads and objects that an ask names, and how many of each kind a test has (this project).
use Rattle.std.specs.Prelude.{ℕ, ◌<◌, List, [], ◌∷◌, length, Option, Some, None}
use Rattle.pct_ask.specs.NameLists.{NameLists}
use Rattle.pct_ask.specs.declared.names.NameKind.{NameKind}
use Rattle.pct_ask.specs.declared.names.NameKind.TheVariants.{Thread, Var, Mutex, Cond, Sem}
use Rattle.pct_ask.specs.declared.names.NameKind.TheVariants.{Barrier, RwLock}
use Rattle.pct_ask.specs.declared.deal.Deal.{Deal}
use Rattle.pct_ask.specs.declared.event.Event.{Event}
use Rattle.pct_ask.specs.declared.ask.Ask.{Ask}
use Rattle.pct_ask.specs.declared.ask.Ask.TheVariants.{Read, Write, Add, Cas, Lock, TryLock, Unlock}
use Rattle.pct_ask.specs.declared.ask.Ask.TheVariants.{Release, Regain, Signal, Broadcast, Down}
use Rattle.pct_ask.specs.declared.ask.Ask.TheVariants.{TryDown, Up, Arrive, Leave, Join, Yield}
use Rattle.pct_ask.specs.declared.ask.Ask.TheVariants.{Check, Fault, Start, Begin, RdLock, WrLock}
use Rattle.pct_ask.specs.declared.ask.Ask.TheVariants.{TryRdLock, TryWrLock, RwUnlock}

-- an object of a test, for which its threads count here too: its kind, and its place among those of
-- its kind
pub record TestObject : Type 0 where
  pub kind : NameKind
  pub place : ℕ

-- the thread or object of this kind at this place
abbrev pub object : NameKind → ℕ → TestObject
object kind place = record { kind = kind; place = place }

-- the threads and objects that an ask names
abbrev pub objects_of : Ask → List TestObject
objects_of (Read x) = object Var x ∷ []
objects_of (Write x value) = object Var x ∷ []
objects_of (Add x value) = object Var x ∷ []
objects_of (Cas x old new) = object Var x ∷ []
objects_of (Lock m) = object Mutex m ∷ []
objects_of (TryLock m) = object Mutex m ∷ []
objects_of (Unlock m) = object Mutex m ∷ []
objects_of (Release c m) = object Cond c ∷ object Mutex m ∷ []
objects_of (Regain c m) = object Cond c ∷ object Mutex m ∷ []
objects_of (Signal c) = object Cond c ∷ []
objects_of (Broadcast c) = object Cond c ∷ []
objects_of (Down s) = object Sem s ∷ []
objects_of (TryDown s) = object Sem s ∷ []
objects_of (Up s) = object Sem s ∷ []
objects_of (Arrive b) = object Barrier b ∷ []
objects_of (Leave b) = object Barrier b ∷ []
objects_of (Join t) = object Thread t ∷ []
objects_of Yield = []
objects_of (Check holds) = []
objects_of (Fault kind) = []
objects_of (Start t) = object Thread t ∷ []
objects_of Begin = []
objects_of (RdLock l) = object RwLock l ∷ []
objects_of (WrLock l) = object RwLock l ∷ []
objects_of (TryRdLock l) = object RwLock l ∷ []
objects_of (TryWrLock l) = object RwLock l ∷ []
objects_of (RwUnlock l) = object RwLock l ∷ []

-- how many threads and objects of each kind there are
pub record Sizes : Type 0 where
  pub threads : ℕ
  pub vars : ℕ
  pub mutexes : ℕ
  pub conds : ℕ
  pub sems : ℕ
  pub barriers : ℕ
  pub rwlocks : ℕ

-- how many there are of a kind
abbrev pub count_of : NameKind → Sizes → ℕ
count_of Thread sizes = sizes.threads
count_of Var sizes = sizes.vars
count_of Mutex sizes = sizes.mutexes
count_of Cond sizes = sizes.conds
count_of Sem sizes = sizes.sems
count_of Barrier sizes = sizes.barriers
count_of RwLock sizes = sizes.rwlocks

-- how many threads and objects of each kind a deal declares
abbrev pub sizes_of_deal : Deal → Sizes
sizes_of_deal deal = record {
  threads = deal.threads;
  vars = length deal.vars;
  mutexes = deal.mutexes;
  conds = deal.conds;
  sems = length deal.sems;
  barriers = length deal.barriers;
  rwlocks = deal.rwlocks;
}

-- how many threads and objects of each kind have names
abbrev pub sizes_of_names : NameLists → Sizes
sizes_of_names names = record {
  threads = length names.threads;
  vars = length names.vars;
  mutexes = length names.mutexes;
  conds = length names.conds;
  sems = length names.sems;
  barriers = length names.barriers;
  rwlocks = length names.rwlocks;
}

-- the threads and objects are there
abbrev pub AreThere : Sizes → List TestObject → Type 0
AreThere sizes [] = Unit {0}
AreThere sizes (o ∷ []) = o.place < count_of o.kind sizes
AreThere sizes (o ∷ others) = (o.place < count_of o.kind sizes) × AreThere sizes others

-- an ask names only threads and objects that there are
abbrev pub IsInRange : Sizes → Ask → Type 0
IsInRange sizes ask = AreThere sizes (objects_of ask)

-- the ask of a post, where it has one, names only threads and objects that there are
abbrev pub PostIsInRange : Sizes → Option Ask → Type 0
PostIsInRange sizes None = Unit {0}
PostIsInRange sizes (Some ask) = IsInRange sizes ask

-- a step is of a thread that there is, and names only threads and objects that there are
pub record EventIsInRange (sizes : Sizes) (event : Event) : Type 0 where
  pub thread : event.thread < sizes.threads
  pub ask : IsInRange sizes event.ask
