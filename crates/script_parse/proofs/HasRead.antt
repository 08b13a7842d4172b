-- What holds of what was read of a script below its header.
use Rattle.std.proofs.Common.{◌≡◌, ℕ, ◌<◌, ◌≤◌, true, false, length, List, [], ◌∷◌, ◌++◌, refl, ◌∙◌}
use Rattle.std.proofs.Common.{arith}
use Rattle.std.specs.Prelude.{ℤ, All}
use Rattle.std.specs.List.{list_all}
use Rattle.std.proofs.lemmas.List.{length_push}
use Rattle.std.proofs.lemmas.List.Elements.{All-push}
use Rattle.std.proofs.lemmas.List.Folds.{list_all-append}
use Rattle.std.proofs.lemmas.Bool.{le-leb}
use Rattle.pct_ask.specs.Ranges.{IsSemValue, IsBarrierCount}
use Rattle.pct_ask.specs.Words.{is_name, is_among}
use Rattle.pct_ask.specs.NameLists.{NameLists, AreNames, list_of, with_name, all_names}
use Rattle.pct_ask.specs.declared.names.NameKind.{NameKind}
use Rattle.pct_ask.specs.declared.names.NameKind.TheVariants as kinds
use Rattle.pct_ask.proofs.laws.Names.{AreNames-push, is_name-first}
use Rattle.script_tree.specs.Forms.{is_plain, has_value, kind_since}
use Rattle.script_tree.specs.Fitting.{most_threads, rwlocks_fit, thread_fits}
use Rattle.script_tree.specs.Grammar.{Line, declares, all_thread_lines}
use Rattle.script_parse.specs.Part.{Open, ReadPart}
use Rattle.script_parse.specs.Reading.{with_first_value, with_declared}
use Rattle.script_parse.proofs.StatementFits.{with_threads}
use Rattle.script_parse.proofs.OpenBlocks.{IsOpen}

-- the thread that is open, by its name
abbrev pub open_names : List Open → List ℕ → List (List ℕ)
open_names [] name = []
open_names (block ∷ blocks) name = name ∷ []

-- the values of the declarations, one for each
pub record HaveValues (part : ReadPart) : Type 0 where
  pub same_vars : length part.vars ≡ length part.names.vars
  pub same_sems : length part.sems ≡ length part.names.sems
  pub same_barriers : length part.barriers ≡ length part.names.barriers
  pub sem_values : All IsSemValue part.sems
  pub barrier_counts : All IsBarrierCount part.barriers

-- the names are a script's
pub record HaveNames (part : ReadPart) : Type 0 where
  pub are_names : AreNames part.names
  pub lawful : (kind : NameKind) → list_all (is_name part.version) (list_of kind part.names) ≡ true
  pub few_threads : length part.names.threads ≤ most_threads part.version
  pub known_rwlocks : rwlocks_fit part.version part.names.rwlocks ≡ true

-- the lines that say something are those of what was read; the threads of the whole text are these
pub record HasRead (threads : List (List ℕ)) (part : ReadPart) (lines : List Line) (n : ℕ) : Type
    0 where
  pub first_version : 1 ≤ part.version
  pub last_version : part.version ≤ 3
  pub names : HaveNames part
  pub values : HaveValues part
  pub top : List Line
  pub above : All (λ line. declares line.1 ≡ true) top
  pub closed : List (List ℕ)
  pub current : List ℕ
  pub names_are : part.names.threads ≡ closed ++ open_names part.open_blocks current
  pub same_threads : length part.threads ≡ length closed
  pub threads_fit : list_all (thread_fits part.version (with_threads threads part.names))
      part.threads ≡ true
  pub body : List Line
  pub is_open : IsOpen part.version (with_threads threads part.names) part.open_blocks current body
      n
  pub lines_are : lines ≡ top ++ (all_thread_lines (with_threads threads part.names) closed
      part.threads ++ body)

-- ---- names

with_name_push : (kind : NameKind) (names : NameLists) (name : List ℕ) → AreNames names
    → is_name 1 name ≡ true → is_among name (all_names names) ≡ false
    → length (list_of kind names) < 64 → AreNames (with_name kind name names)
with_name_push kinds.Thread names name h l f r =
    AreNames-push kinds.Thread kinds.Thread names names name name (names.threads ++ name ∷ []) refl
    refl h l f r refl refl
with_name_push kind names name h l f r =
    AreNames-push kind kind names names name name (list_of kind names ++ name ∷ []) refl refl h l f
    r refl refl

lawful_more : (version : ℕ) (names : List (List ℕ)) (name : List ℕ)
    → list_all (is_name version) names ≡ true → is_name version name ≡ true
    → list_all (is_name version) (names ++ name ∷ []) ≡ true
lawful_more version names name h l =
    list_all-append (is_name version) names (name ∷ []) ∙ rw (h, l) refl

lawful_push : (version : ℕ) (kind k : NameKind) (names : NameLists) (name : List ℕ)
    → ((k : NameKind) → list_all (is_name version) (list_of k names) ≡ true)
    → is_name version name ≡ true → list_all (is_name version)
    (list_of k (with_name kind name names)) ≡ true
lawful_push version kinds.Thread kinds.Thread names name h l =
    lawful_more version names.threads name (h kinds.Thread) l
lawful_push version kinds.Var kinds.Var names name h l =
    lawful_more version names.vars name (h kinds.Var) l
lawful_push version kinds.Mutex kinds.Mutex names name h l =
    lawful_more version names.mutexes name (h kinds.Mutex) l
lawful_push version kinds.Cond kinds.Cond names name h l =
    lawful_more version names.conds name (h kinds.Cond) l
lawful_push version kinds.Sem kinds.Sem names name h l =
    lawful_more version names.sems name (h kinds.Sem) l
lawful_push version kinds.Barrier kinds.Barrier names name h l =
    lawful_more version names.barriers name (h kinds.Barrier) l
lawful_push version kinds.RwLock kinds.RwLock names name h l =
    lawful_more version names.rwlocks name (h kinds.RwLock) l
lawful_push version kind k names name h l = h k

rwlock_known : (version : ℕ) (rwlocks : List (List ℕ)) → 3 ≤ version
    → rwlocks_fit version rwlocks ≡ true
rwlock_known version rwlocks h = rw (le-leb 3 version h) refl

-- one more name
pub names_more : (part : ReadPart) (kind : NameKind) (name : List ℕ) → HaveNames part
    → is_name part.version name ≡ true → is_among name (all_names part.names) ≡ false
    → length (list_of kind part.names) < 64 → kind_since kind ≤ part.version
    → (kind ≡ kinds.Thread → length part.names.threads < most_threads part.version)
    → HaveNames (with_declared part kind name)
names_more part kind name h l f r v t = record {
  are_names =
      with_name_push kind part.names name h.are_names (is_name-first part.version name l) f r;
  lawful = λ k. lawful_push part.version kind k part.names name h.lawful l;
  few_threads = few kind t;
  known_rwlocks = known kind v;
}
  where
    few : (kind : NameKind) → (kind ≡ kinds.Thread
        → length part.names.threads < most_threads part.version)
        → length (with_name kind name part.names).threads ≤ most_threads part.version
    few kinds.Thread t =
        let room : length part.names.threads < most_threads part.version = t refl in
        omega (arith, room, length_push part.names.threads name)
    few kinds.Var t = h.few_threads
    few kind t = h.few_threads

    known : (kind : NameKind) → kind_since kind ≤ part.version
        → rwlocks_fit part.version (with_name kind name part.names).rwlocks ≡ true
    known kinds.RwLock v = rwlock_known part.version (part.names.rwlocks ++ name ∷ []) v
    known kind v = h.known_rwlocks

-- ---- values

pub plain_values : (part : ReadPart) (kind : NameKind) (name : List ℕ) → is_plain kind ≡ true
    → HaveValues part → HaveValues (with_declared part kind name)
plain_values part kinds.Mutex name p h = record {
  same_vars = h.same_vars;
  same_sems = h.same_sems;
  same_barriers = h.same_barriers;
  sem_values = h.sem_values;
  barrier_counts = h.barrier_counts;
}
plain_values part kinds.Cond name p h = record {
  same_vars = h.same_vars;
  same_sems = h.same_sems;
  same_barriers = h.same_barriers;
  sem_values = h.sem_values;
  barrier_counts = h.barrier_counts;
}
plain_values part kinds.RwLock name p h = record {
  same_vars = h.same_vars;
  same_sems = h.same_sems;
  same_barriers = h.same_barriers;
  sem_values = h.sem_values;
  barrier_counts = h.barrier_counts;
}
plain_values part kind name p h = absurd cc

pub thread_values : (part : ReadPart) (name : List ℕ) → HaveValues part
    → HaveValues (with_declared part kinds.Thread name)
thread_values part name h = record {
  same_vars = h.same_vars;
  same_sems = h.same_sems;
  same_barriers = h.same_barriers;
  sem_values = h.sem_values;
  barrier_counts = h.barrier_counts;
}

pub valued_values : (part : ReadPart) (kind : NameKind) (name : List ℕ) (value : ℤ)
    → has_value kind ≡ true → (kind ≡ kinds.Sem → IsSemValue value)
    → (kind ≡ kinds.Barrier → IsBarrierCount value) → HaveValues part
    → HaveValues (with_first_value kind value (with_declared part kind name))
valued_values part kinds.Var name value p s b h = record {
  same_vars = omega (
    arith,
    h.same_vars,
    length_push part.vars value,
    length_push part.names.vars name,
  );
  same_sems = h.same_sems;
  same_barriers = h.same_barriers;
  sem_values = h.sem_values;
  barrier_counts = h.barrier_counts;
}
valued_values part kinds.Sem name value p s b h = record {
  same_vars = h.same_vars;
  same_sems =
      omega (arith, h.same_sems, length_push part.sems value, length_push part.names.sems name);
  same_barriers = h.same_barriers;
  sem_values =
      All-push IsSemValue part.sems value h.sem_values (s refl);
  barrier_counts = h.barrier_counts;
}
valued_values part kinds.Barrier name value p s b h = record {
  same_vars = h.same_vars;
  same_sems = h.same_sems;
  same_barriers = omega (
    arith,
    h.same_barriers,
    length_push part.barriers value,
    length_push part.names.barriers name,
  );
  sem_values = h.sem_values;
  barrier_counts = All-push IsBarrierCount part.barriers value h.barrier_counts (b refl);
}
valued_values part kind name value p s b h = absurd cc
