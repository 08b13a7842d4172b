-- The lines of statements that fit are lines that fit.
use Rattle.std.proofs.Common.{◌≡◌, ℕ, zero, suc, ◌-◌, ◌<◌, ◌≤◌, Bool, true, false, List, [], ◌∷◌}
use Rattle.std.proofs.Common.{◌++◌, length, get_or, refl, sym, ap, ◌∙◌, subst, arith}
use Rattle.std.specs.Prelude.{◌&&◌, nat_le, nat_lt}
use Rattle.std.specs.List.{list_all}
use Rattle.std.proofs.lemmas.List.{map-append}
use Rattle.std.proofs.lemmas.Bool.{and_parts, and_from, lt-ltb, ltb-true, leb-true}
use Rattle.pct_ask.specs.Words.{is_name}
use Rattle.pct_ask.specs.NameLists.{NameLists, all_names, list_of}
use Rattle.pct_ask.specs.declared.names.NameKind.{NameKind}
use Rattle.pct_ask.specs.declared.names.NameKind.TheVariants as kinds
use Rattle.script_tree.specs.Trees.{Expression, Statement, Statements, Closed, Then}
use Rattle.script_tree.specs.Trees as trees
use Rattle.script_tree.specs.ScriptText.{Thread}
use Rattle.script_tree.specs.Forms.{MeantForm, IsNameIn}
use Rattle.script_tree.specs.Forms as forms
use Rattle.script_tree.specs.Fitting.{line_fits, reg_fits, place_fits, expression_fits, counts_of}
use Rattle.script_tree.specs.Fitting.{statement_fits, statements_fit, thread_fits}
use Rattle.pct_ask.specs.TraceText.{name_at}
use Rattle.script_tree.specs.Grammar.{Line, statement_lines, block_lines, thread_lines}
use Rattle.script_tree.specs.Grammar.{all_thread_lines}
use Rattle.script_tree.specs.Layout.{meanings}
use Rattle.script_tree.specs.Printing.{is_ranged, is_ranged_form, are_ranged}
use Rattle.script_tree.proofs.ExpressionCuts.{IsGood}
use Rattle.script_tree.proofs.FormCuts.{Fits}
use Rattle.script_tree.proofs.PrintedLines.{AreFit, AreFit-append}

-- a line inside a thread
abbrev pub is_inner : MeantForm → Bool
is_inner (forms.Plain kind name) = false
is_inner (forms.Valued kind name value) = false
is_inner (forms.Thread name) = false
is_inner form = true

abbrev pub AreInner : ℕ → List MeantForm → Type 0
AreInner version [] = Unit {0}
AreInner version (m ∷ ms) = (Fits version m × (is_inner m ≡ true)) × AreInner version ms

pub inner_fit : (version : ℕ) (ms : List MeantForm) → AreInner version ms → AreFit version ms
inner_fit version [] inner = tt
inner_fit version (m ∷ ms) inner = (inner.0.0, inner_fit version ms inner.1)

AreInner-append : (version : ℕ) (a b : List MeantForm) → AreInner version a → AreInner version b
    → AreInner version (a ++ b)
AreInner-append version [] b in_a in_b = in_b
AreInner-append version (m ∷ a) b in_a in_b = (in_a.0, AreInner-append version a b in_a.1 in_b)

pub all-parts : {X : Type 0} (test : X → Bool) (a b : List X) → list_all test (a ++ b) ≡ true
    → (list_all test a ≡ true) × (list_all test b ≡ true)
all-parts test [] b h = (refl, h)
all-parts test (x ∷ a) b h =
    let both = and_parts (test x) (list_all test (a ++ b)) h in
    let rest = all-parts test a b both.1 in
    (and_from (test x) (list_all test a) both.0 rest.0, rest.1)

pub are_ranged-parts : (a b : List Line) → are_ranged (a ++ b) ≡ true
    → (are_ranged a ≡ true) × (are_ranged b ≡ true)
are_ranged-parts a b h =
    all-parts is_ranged_form (meanings a) (meanings b)
    (ap (list_all is_ranged_form) (sym (map-append (λ (line : Line). line.1) a b)) ∙ h)

all-at : (test : List ℕ → Bool) (names : List (List ℕ)) (i : ℕ) → list_all test names ≡ true
    → nat_lt i (length names) ≡ true → test (get_or names i []) ≡ true
all-at test [] i h within = absurd (omega (arith, ltb-true i 0 within))
all-at test (n ∷ ns) zero h within = (and_parts (test n) (list_all test ns) h).0
all-at test (n ∷ ns) (suc i) h within =
    let lt : i < length ns = omega (arith, ltb-true (suc i) (length (n ∷ ns)) within) in
    all-at test ns i (and_parts (test n) (list_all test ns) h).1 (lt-ltb i (length ns) lt)

pub good : (e : Expression) → expression_fits e ≡ true → is_ranged e ≡ true → IsGood e
good e fits ranged = record { fits = fits; ranged = ranged }

-- the names of each kind are lawful
pub lawful_kind : (test : List ℕ → Bool) (names : NameLists) (kind : NameKind)
    → list_all test (all_names names) ≡ true → list_all test (list_of kind names) ≡ true
lawful_kind test names kind lawful =
    let rw0 : List (List ℕ) = names.rwlocks in
    let b0 : List (List ℕ) = names.barriers ++ rw0 in
    let s0 : List (List ℕ) = names.sems ++ b0 in
    let c0 : List (List ℕ) = names.conds ++ s0 in
    let m0 : List (List ℕ) = names.mutexes ++ c0 in
    let v0 : List (List ℕ) = names.vars ++ m0 in
    let t = all-parts test names.threads v0 lawful in
    let v = all-parts test names.vars m0 t.1 in
    let m = all-parts test names.mutexes c0 v.1 in
    let c = all-parts test names.conds s0 m.1 in
    let s = all-parts test names.sems b0 c.1 in
    let b = all-parts test names.barriers rw0 s.1 in
    elim kind as (λ k. list_all test (list_of k names) ≡ true) [
      | kinds.Thread ↦ t.0
      | kinds.Var ↦ v.0
      | kinds.Mutex ↦ m.0
      | kinds.Cond ↦ c.0
      | kinds.Sem ↦ s.0
      | kinds.Barrier ↦ b.0
      | kinds.RwLock ↦ b.1
    ]

module _ (version : ℕ) (names : NameLists) (first : 1 ≤ version)
    (lawful : list_all (is_name version) (all_names names) ≡ true) where
  name_fits : (kind : NameKind) (place : ℕ) → place_fits (list_of kind names) place ≡ true
      → IsNameIn version (name_at (list_of kind names) place)
  name_fits kind place within =
      all-at (is_name version) (list_of kind names) place
      (lawful_kind (is_name version) names kind lawful) within

  inner-append : (a b : List Line) → AreInner version (meanings a) → AreInner version (meanings b)
      → AreInner version (meanings (a ++ b))
  inner-append a b in_a in_b =
      subst (AreInner version) (sym (map-append (λ (line : Line). line.1) a b))
      (AreInner-append version (meanings a) (meanings b) in_a in_b)

  mutual
    pub statement_inner : (room : ℕ) (s : Statement) → statement_fits version names room s ≡ true
        → are_ranged (statement_lines names s) ≡ true
        → AreInner version (meanings (statement_lines names s))
    statement_inner room (trees.Read line reg var) fits ranged =
        let p2 = and_parts (line_fits line && reg_fits reg) (place_fits names.vars var) fits in
        let p1 = and_parts (line_fits line) (reg_fits reg) p2.0 in
        (((first, ltb-true reg 16 p1.1, name_fits kinds.Var var p2.1), refl), tt)
    statement_inner room (trees.Write line var value) fits ranged =
        let p2 = and_parts (line_fits line && place_fits names.vars var) (expression_fits value)
        fits in
        let p1 = and_parts (line_fits line) (place_fits names.vars var) p2.0 in (
          (
            (
              name_fits kinds.Var var p1.1,
              good value p2.1 (and_parts (is_ranged value) true ranged).0,
            ),
            refl,
          ),
          tt,
        )
    statement_inner room (trees.Add line reg var value) fits ranged =
        let p3 = and_parts (line_fits line && reg_fits reg && place_fits names.vars var)
        (expression_fits value) fits in
        let p2 = and_parts (line_fits line && reg_fits reg) (place_fits names.vars var) p3.0 in
        let p1 = and_parts (line_fits line) (reg_fits reg) p2.0 in (
          (
            (
              ltb-true reg 16 p1.1,
              name_fits kinds.Var var p2.1,
              good value p3.1 (and_parts (is_ranged value) true ranged).0,
            ),
            refl,
          ),
          tt,
        )
    statement_inner room (trees.Cas line reg var old new) fits ranged =
        let p4 = and_parts (line_fits line && reg_fits reg && place_fits names.vars var
        && expression_fits old) (expression_fits new) fits in
        let p3 = and_parts (line_fits line && reg_fits reg && place_fits names.vars var)
        (expression_fits old) p4.0 in
        let p2 = and_parts (line_fits line && reg_fits reg) (place_fits names.vars var) p3.0 in
        let p1 = and_parts (line_fits line) (reg_fits reg) p2.0 in
        let r = and_parts (is_ranged old) (is_ranged new)
        (and_parts (is_ranged old && is_ranged new) true ranged).0 in (
          (
            (
              ltb-true reg 16 p1.1,
              name_fits kinds.Var var p2.1,
              good old p3.1 r.0,
              good new p4.1 r.1,
            ),
            refl,
          ),
          tt,
        )
    statement_inner room (trees.Lock line mutex) fits ranged =
        let p1 = and_parts (line_fits line) (place_fits names.mutexes mutex) fits in
        (((first, name_fits kinds.Mutex mutex p1.1), refl), tt)
    statement_inner room (trees.TryLock line reg mutex) fits ranged =
        let p2 = and_parts (line_fits line && reg_fits reg) (place_fits names.mutexes mutex) fits in
        let p1 = and_parts (line_fits line) (reg_fits reg) p2.0 in
        (((first, ltb-true reg 16 p1.1, name_fits kinds.Mutex mutex p2.1), refl), tt)
    statement_inner room (trees.Unlock line mutex) fits ranged =
        let p1 = and_parts (line_fits line) (place_fits names.mutexes mutex) fits in
        (((first, name_fits kinds.Mutex mutex p1.1), refl), tt)
    statement_inner room (trees.Wait line cond mutex) fits ranged =
        let p2 = and_parts (line_fits line && place_fits names.conds cond)
        (place_fits names.mutexes mutex) fits in
        let p1 = and_parts (line_fits line) (place_fits names.conds cond) p2.0 in
        (((name_fits kinds.Cond cond p1.1, name_fits kinds.Mutex mutex p2.1), refl), tt)
    statement_inner room (trees.Signal line cond) fits ranged =
        let p1 = and_parts (line_fits line) (place_fits names.conds cond) fits in
        (((first, name_fits kinds.Cond cond p1.1), refl), tt)
    statement_inner room (trees.Broadcast line cond) fits ranged =
        let p1 = and_parts (line_fits line) (place_fits names.conds cond) fits in
        (((first, name_fits kinds.Cond cond p1.1), refl), tt)
    statement_inner room (trees.Down line sem) fits ranged =
        let p1 = and_parts (line_fits line) (place_fits names.sems sem) fits in
        (((first, name_fits kinds.Sem sem p1.1), refl), tt)
    statement_inner room (trees.TryDown line reg sem) fits ranged =
        let p2 = and_parts (line_fits line && reg_fits reg) (place_fits names.sems sem) fits in
        let p1 = and_parts (line_fits line) (reg_fits reg) p2.0 in
        (((first, ltb-true reg 16 p1.1, name_fits kinds.Sem sem p2.1), refl), tt)
    statement_inner room (trees.Up line sem) fits ranged =
        let p1 = and_parts (line_fits line) (place_fits names.sems sem) fits in
        (((first, name_fits kinds.Sem sem p1.1), refl), tt)
    statement_inner room (trees.Arrive line reg barrier) fits ranged =
        let p2 = and_parts (line_fits line && reg_fits reg) (place_fits names.barriers barrier)
        fits in
        let p1 = and_parts (line_fits line) (reg_fits reg) p2.0 in
        (((first, ltb-true reg 16 p1.1, name_fits kinds.Barrier barrier p2.1), refl), tt)
    statement_inner room (trees.Join line thread) fits ranged =
        let p1 = and_parts (line_fits line) (place_fits names.threads thread) fits in
        (((first, name_fits kinds.Thread thread p1.1), refl), tt)
    statement_inner room (trees.Yield line) fits ranged =
        ((tt, refl), tt)
    statement_inner room (trees.Assert line test) fits ranged =
        let p1 = and_parts (line_fits line) (expression_fits test) fits in
        ((good test p1.1 (and_parts (is_ranged test) true ranged).0, refl), tt)
    statement_inner room (trees.Set line reg value) fits ranged =
        let p2 = and_parts (line_fits line && reg_fits reg) (expression_fits value) fits in
        let p1 = and_parts (line_fits line) (reg_fits reg) p2.0 in (
          (
            (ltb-true reg 16 p1.1, good value p2.1 (and_parts (is_ranged value) true ranged).0),
            refl,
          ),
          tt,
        )
    statement_inner room (trees.If line test first) fits ranged =
        let p3 = and_parts (line_fits line && expression_fits test && nat_lt 0 room)
        (statements_fit version names (room - 1) first) fits in
        let p2 = and_parts (line_fits line && expression_fits test) (nat_lt 0 room) p3.0 in
        let p1 = and_parts (line_fits line) (expression_fits test) p2.0 in
        let r = and_parts (is_ranged test) (are_ranged (block_lines names forms.End first))
        ranged in
        ((good test p1.1 r.0, refl), block_inner (room - 1) forms.End first tt refl p3.1 r.1)
    statement_inner room (trees.IfElse line test first otherwise) fits ranged =
        let p4 = and_parts (line_fits line && expression_fits test && nat_lt 0 room
        && statements_fit version names (room - 1) first)
        (statements_fit version names (room - 1) otherwise) fits in
        let p3 = and_parts (line_fits line && expression_fits test && nat_lt 0 room)
        (statements_fit version names (room - 1) first) p4.0 in
        let p2 = and_parts (line_fits line && expression_fits test) (nat_lt 0 room) p3.0 in
        let p1 = and_parts (line_fits line) (expression_fits test) p2.0 in
        let A : List Line = block_lines names forms.Else first in
        let B : List Line = block_lines names forms.End otherwise in
        let r = and_parts (is_ranged test) (are_ranged (A ++ B)) ranged in
        let both = are_ranged-parts A B r.1 in (
          (good test p1.1 r.0, refl),
          inner-append A B
              (block_inner (room - 1) forms.Else first tt refl p3.1 both.0)
              (block_inner (room - 1) forms.End otherwise tt refl p4.1 both.1),
        )
    statement_inner room (trees.While line test body) fits ranged =
        let p3 = and_parts (line_fits line && expression_fits test && nat_lt 0 room)
        (statements_fit version names (room - 1) body) fits in
        let p2 = and_parts (line_fits line && expression_fits test) (nat_lt 0 room) p3.0 in
        let p1 = and_parts (line_fits line) (expression_fits test) p2.0 in
        let r = and_parts (is_ranged test) (are_ranged (block_lines names forms.End body)) ranged in
        ((good test p1.1 r.0, refl), block_inner (room - 1) forms.End body tt refl p3.1 r.1)
    statement_inner room (trees.Start line thread) fits ranged =
        let p2 = and_parts (line_fits line && nat_le 2 version) (place_fits names.threads thread)
        fits in
        let p1 = and_parts (line_fits line) (nat_le 2 version) p2.0 in
        (((leb-true 2 version p1.1, name_fits kinds.Thread thread p2.1), refl), tt)
    statement_inner room (trees.RdLock line rwlock) fits ranged =
        let p2 = and_parts (line_fits line && nat_le 3 version) (place_fits names.rwlocks rwlock)
        fits in
        let p1 = and_parts (line_fits line) (nat_le 3 version) p2.0 in
        (((leb-true 3 version p1.1, name_fits kinds.RwLock rwlock p2.1), refl), tt)
    statement_inner room (trees.WrLock line rwlock) fits ranged =
        let p2 = and_parts (line_fits line && nat_le 3 version) (place_fits names.rwlocks rwlock)
        fits in
        let p1 = and_parts (line_fits line) (nat_le 3 version) p2.0 in
        (((leb-true 3 version p1.1, name_fits kinds.RwLock rwlock p2.1), refl), tt)
    statement_inner room (trees.TryRdLock line reg rwlock) fits ranged =
        let p3 = and_parts (line_fits line && nat_le 3 version && reg_fits reg)
        (place_fits names.rwlocks rwlock) fits in
        let p2 = and_parts (line_fits line && nat_le 3 version) (reg_fits reg) p3.0 in
        let p1 = and_parts (line_fits line) (nat_le 3 version) p2.0 in (
          (
            (leb-true 3 version p1.1, ltb-true reg 16 p2.1, name_fits kinds.RwLock rwlock p3.1),
            refl,
          ),
          tt,
        )
    statement_inner room (trees.TryWrLock line reg rwlock) fits ranged =
        let p3 = and_parts (line_fits line && nat_le 3 version && reg_fits reg)
        (place_fits names.rwlocks rwlock) fits in
        let p2 = and_parts (line_fits line && nat_le 3 version) (reg_fits reg) p3.0 in
        let p1 = and_parts (line_fits line) (nat_le 3 version) p2.0 in (
          (
            (leb-true 3 version p1.1, ltb-true reg 16 p2.1, name_fits kinds.RwLock rwlock p3.1),
            refl,
          ),
          tt,
        )
    statement_inner room (trees.RwUnlock line rwlock) fits ranged =
        let p2 = and_parts (line_fits line && nat_le 3 version) (place_fits names.rwlocks rwlock)
        fits in
        let p1 = and_parts (line_fits line) (nat_le 3 version) p2.0 in
        (((leb-true 3 version p1.1, name_fits kinds.RwLock rwlock p2.1), refl), tt)

    pub block_inner : (room : ℕ) (closing : MeantForm) (body : Statements) → Fits version closing
        → is_inner closing ≡ true → statements_fit version names room body ≡ true
        → are_ranged (block_lines names closing body) ≡ true
        → AreInner version (meanings (block_lines names closing body))
    block_inner room closing (Closed line) closing_fits inner fits ranged =
        ((closing_fits, inner), tt)
    block_inner room closing (Then s rest) closing_fits inner fits ranged =
        let both = and_parts (statement_fits version names room s)
        (statements_fit version names room rest) fits in
        let A : List Line = statement_lines names s in
        let B : List Line = block_lines names closing rest in
        let in_range = are_ranged-parts A B ranged in
        inner-append A B (statement_inner room s both.0 in_range.0)
        (block_inner room closing rest closing_fits inner both.1 in_range.1)

  -- the lines of a thread below its first
  pub thread_inner : (t : Thread) → thread_fits version names t ≡ true
      → are_ranged (block_lines names forms.End t.body) ≡ true
      → AreInner version (meanings (block_lines names forms.End t.body))
  thread_inner t fits ranged =
      let p2 = and_parts (line_fits t.line && statements_fit version names 32 t.body)
      (nat_le (counts_of t.body) 4096) fits in
      let p1 = and_parts (line_fits t.line) (statements_fit version names 32 t.body) p2.0 in
      block_inner 32 forms.End t.body tt refl p1.1 ranged

  pub threads_fit : (ns : List (List ℕ)) (ts : List Thread) → list_all (is_name version) ns ≡ true
      → list_all (thread_fits version names) ts ≡ true
      → are_ranged (all_thread_lines names ns ts) ≡ true
      → AreFit version (meanings (all_thread_lines names ns ts))
  threads_fit [] ts lawful_names fit ranged = tt
  threads_fit (n ∷ ns) [] lawful_names fit ranged = tt
  threads_fit (n ∷ ns) (t ∷ ts) lawful_names fit ranged =
      let both_names = and_parts (is_name version n) (list_all (is_name version) ns) lawful_names in
      let both = and_parts (thread_fits version names t) (list_all (thread_fits version names) ts)
      fit in
      let A : List Line = thread_lines names n t in
      let B : List Line = all_thread_lines names ns ts in
      let in_range = are_ranged-parts A B ranged in
      subst (AreFit version) (sym (map-append (λ (line : Line). line.1) A B))
      (AreFit-append version (meanings A) (meanings B) (
        both_names.0,
        inner_fit version (meanings (block_lines names forms.End t.body))
            (thread_inner t both.0 in_range.0),
      )
      (threads_fit ns ts both_names.1 both.1 in_range.1))
