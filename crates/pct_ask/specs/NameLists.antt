-- The names of a test's threads and objects (this project).
use Rattle.std.specs.Prelude.{◌≡◌, ℕ, ◌≤◌, true, false, if◌then◌else◌, codes}
use Rattle.std.specs.Prelude.{Option, Some, None, List, [], ◌∷◌, ◌++◌, length, All}
use Rattle.std.specs.List.{position}
use Rattle.std.specs.Str.{bytes_eq}
use Rattle.pct_ask.specs.Words.{is_name, is_among}
use Rattle.pct_ask.specs.declared.names.NameKind.{NameKind}
use Rattle.pct_ask.specs.declared.names.NameKind.TheVariants.{Thread, Var, Mutex, Cond, Sem}
use Rattle.pct_ask.specs.declared.names.NameKind.TheVariants.{Barrier, RwLock}
use Rattle.pct_ask.specs.declared.limits.TheConstants.{MAX_OBJECTS}

-- the kind that a word declares
abbrev pub kind_in : List ℕ → Option NameKind
kind_in word =
    if bytes_eq word (codes "thread") then Some Thread
    else (if bytes_eq word (codes "var") then Some Var
    else (if bytes_eq word (codes "mutex") then Some Mutex
    else (if bytes_eq word (codes "cond") then Some Cond
    else (if bytes_eq word (codes "sem") then Some Sem
    else (if bytes_eq word (codes "barrier") then Some Barrier
    else (if bytes_eq word (codes "rwlock") then Some RwLock
    else None))))))

-- the names of each kind, in the order of their places
pub record NameLists : Type 0 where
  pub threads : List (List ℕ)
  pub vars : List (List ℕ)
  pub mutexes : List (List ℕ)
  pub conds : List (List ℕ)
  pub sems : List (List ℕ)
  pub barriers : List (List ℕ)
  pub rwlocks : List (List ℕ)

-- the lists before anything is declared: all of them are empty
abbrev pub no_names : NameLists
no_names = record {
  threads = [];
  vars = [];
  mutexes = [];
  conds = [];
  sems = [];
  barriers = [];
  rwlocks = [];
}

-- the names of one kind
abbrev pub list_of : NameKind → NameLists → List (List ℕ)
list_of Thread names = names.threads
list_of Var names = names.vars
list_of Mutex names = names.mutexes
list_of Cond names = names.conds
list_of Sem names = names.sems
list_of Barrier names = names.barriers
list_of RwLock names = names.rwlocks

-- one more name at the end of the list of its kind
abbrev pub with_name : NameKind → List ℕ → NameLists → NameLists
with_name Thread name names = record names { threads = names.threads ++ name ∷ [] }
with_name Var name names = record names { vars = names.vars ++ name ∷ [] }
with_name Mutex name names = record names { mutexes = names.mutexes ++ name ∷ [] }
with_name Cond name names = record names { conds = names.conds ++ name ∷ [] }
with_name Sem name names = record names { sems = names.sems ++ name ∷ [] }
with_name Barrier name names = record names { barriers = names.barriers ++ name ∷ [] }
with_name RwLock name names = record names { rwlocks = names.rwlocks ++ name ∷ [] }

-- the names of all kinds, which share one space
abbrev pub all_names : NameLists → List (List ℕ)
all_names names =
    names.threads
    ++ (names.vars
    ++ (names.mutexes ++ (names.conds ++ (names.sems ++ (names.barriers ++ names.rwlocks)))))

-- where a name stands in a list
abbrev pub place_of : List ℕ → List (List ℕ) → Option ℕ
place_of name names = position (bytes_eq name) names

-- no name stands twice
abbrev pub AreDistinct : List (List ℕ) → Type 0
AreDistinct [] = Unit {0}
AreDistinct (name ∷ names) = (is_among name names ≡ false) × AreDistinct names

-- What holds of the names of every test: each is a lawful name by the first version's keywords,
-- none stands twice, also not under two kinds, and there are no more of one kind, also of threads,
-- than a test has objects of one kind.
pub record AreNames (names : NameLists) : Type 0 where
  pub lawful : All (λ name. is_name 1 name ≡ true) (all_names names)
  pub distinct : AreDistinct (all_names names)
  pub few : (kind : NameKind) → length (list_of kind names) ≤ MAX_OBJECTS
