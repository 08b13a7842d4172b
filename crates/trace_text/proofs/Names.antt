-- Facts on the names of a test, of whatever kind.
use Rattle.std.specs.Prelude.{if◌then◌else◌}
use Rattle.std.specs.List.{All}
use Rattle.std.specs.Str.{bytes_eq}
use Rattle.std.proofs.Common.{◌≡◌, ℕ, ◌+◌, ◌<◌, Bool, true, false, List, [], ◌∷◌, ◌++◌, length}
use Rattle.std.proofs.Common.{get_or, Option, Some, None, refl, ap, ◌∙◌, arith}
use Rattle.std.proofs.lemmas.Iterator.Adapters.{position_from-zero}
use Rattle.std.proofs.lemmas.List.Elements.{All-nil, All-cons, All-head, All-tail}
use Rattle.pct_ask.specs.Words.{is_name}
use Rattle.pct_ask.specs.NameLists.{NameLists, list_of, all_names, place_of, AreDistinct, AreNames}
use Rattle.pct_ask.specs.declared.names.NameKind.{NameKind}
use Rattle.pct_ask.specs.declared.names.NameKind.TheVariants.{Thread, Var, Mutex, Cond, Sem}
use Rattle.pct_ask.specs.declared.names.NameKind.TheVariants.{Barrier, RwLock}
use Rattle.pct_ask.proofs.laws.Names.{place_of-Some, AreDistinct-left, found-at}
use Rattle.trace_text.specs.reader.Asks.{object_at, object}
use Rattle.trace_text.specs.declared.asks.WordsRead.{WordsRead}
use Rattle.trace_text.specs.declared.asks.WordsRead.TheVariants.{Is, NoForm}

distinct-right : (front back : List (List ℕ)) → AreDistinct (front ++ back) → AreDistinct back
distinct-right [] back distinct = distinct
distinct-right (name ∷ names) back distinct = distinct-right names back distinct.1

abbrev Lawful : List ℕ → Type 0
Lawful name = is_name 1 name ≡ true

lawful-left : (front back : List (List ℕ)) → All Lawful (front ++ back) → All Lawful front
lawful-left [] back all = All-nil Lawful
lawful-left (name ∷ names) back all =
    All-cons Lawful name names (All-head Lawful name (names ++ back) all)
    (lawful-left names back (All-tail Lawful name (names ++ back) all))

lawful-right : (front back : List (List ℕ)) → All Lawful (front ++ back) → All Lawful back
lawful-right [] back all = all
lawful-right (name ∷ names) back all =
    lawful-right names back (All-tail Lawful name (names ++ back) all)

abbrev after_threads : NameLists → List (List ℕ)
after_threads n = n.vars ++ (n.mutexes ++ (n.conds ++ (n.sems ++ (n.barriers ++ n.rwlocks))))

abbrev after_vars : NameLists → List (List ℕ)
after_vars n = n.mutexes ++ (n.conds ++ (n.sems ++ (n.barriers ++ n.rwlocks)))

abbrev after_mutexes : NameLists → List (List ℕ)
after_mutexes n = n.conds ++ (n.sems ++ (n.barriers ++ n.rwlocks))

abbrev after_conds : NameLists → List (List ℕ)
after_conds n = n.sems ++ (n.barriers ++ n.rwlocks)

kind-distinct : (kind : NameKind) (n : NameLists) → AreDistinct (all_names n)
    → AreDistinct (list_of kind n)
kind-distinct Thread n d = AreDistinct-left n.threads (after_threads n) d
kind-distinct Var n d =
    AreDistinct-left n.vars (after_vars n) (distinct-right n.threads (after_threads n) d)
kind-distinct Mutex n d =
    AreDistinct-left n.mutexes (after_mutexes n)
    (distinct-right n.vars (after_vars n) (distinct-right n.threads (after_threads n) d))
kind-distinct Cond n d =
    AreDistinct-left n.conds (after_conds n)
    (distinct-right n.mutexes (after_mutexes n)
    (distinct-right n.vars (after_vars n) (distinct-right n.threads (after_threads n) d)))
kind-distinct Sem n d =
    AreDistinct-left n.sems (n.barriers ++ n.rwlocks)
    (distinct-right n.conds (after_conds n)
    (distinct-right n.mutexes (after_mutexes n)
    (distinct-right n.vars (after_vars n) (distinct-right n.threads (after_threads n) d))))
kind-distinct Barrier n d =
    AreDistinct-left n.barriers n.rwlocks
    (distinct-right n.sems (n.barriers ++ n.rwlocks)
    (distinct-right n.conds (after_conds n)
    (distinct-right n.mutexes (after_mutexes n)
    (distinct-right n.vars (after_vars n) (distinct-right n.threads (after_threads n) d)))))
kind-distinct RwLock n d =
    distinct-right n.barriers n.rwlocks
    (distinct-right n.sems (n.barriers ++ n.rwlocks)
    (distinct-right n.conds (after_conds n)
    (distinct-right n.mutexes (after_mutexes n)
    (distinct-right n.vars (after_vars n) (distinct-right n.threads (after_threads n) d)))))

kind-lawful : (kind : NameKind) (n : NameLists) → All Lawful (all_names n)
    → All Lawful (list_of kind n)
kind-lawful Thread n d = lawful-left n.threads (after_threads n) d
kind-lawful Var n d = lawful-left n.vars (after_vars n) (lawful-right n.threads (after_threads n) d)
kind-lawful Mutex n d =
    lawful-left n.mutexes (after_mutexes n)
    (lawful-right n.vars (after_vars n) (lawful-right n.threads (after_threads n) d))
kind-lawful Cond n d =
    lawful-left n.conds (after_conds n)
    (lawful-right n.mutexes (after_mutexes n)
    (lawful-right n.vars (after_vars n) (lawful-right n.threads (after_threads n) d)))
kind-lawful Sem n d =
    lawful-left n.sems (n.barriers ++ n.rwlocks)
    (lawful-right n.conds (after_conds n)
    (lawful-right n.mutexes (after_mutexes n)
    (lawful-right n.vars (after_vars n) (lawful-right n.threads (after_threads n) d))))
kind-lawful Barrier n d =
    lawful-left n.barriers n.rwlocks (lawful-right n.sems (n.barriers ++ n.rwlocks)
    (lawful-right n.conds (after_conds n)
    (lawful-right n.mutexes (after_mutexes n)
    (lawful-right n.vars (after_vars n) (lawful-right n.threads (after_threads n) d)))))
kind-lawful RwLock n d =
    lawful-right n.barriers n.rwlocks
    (lawful-right n.sems (n.barriers ++ n.rwlocks)
    (lawful-right n.conds (after_conds n)
    (lawful-right n.mutexes (after_mutexes n)
    (lawful-right n.vars (after_vars n) (lawful-right n.threads (after_threads n) d)))))

-- the name at a place is found there
pub place_of-kind : (names : NameLists) (kind : NameKind) (id : ℕ) → AreNames names
    → id < length (list_of kind names)
    → place_of (get_or (list_of kind names) id []) (list_of kind names) ≡ Some id
place_of-kind names kind id sound h =
    let zero_more : 0 + id ≡ id = omega arith in
    position_from-zero (bytes_eq (get_or (list_of kind names) id [])) (list_of kind names)
    ∙ found-at (list_of kind names) id 0 h (kind-distinct kind names sound.distinct)
    ∙ ap (λ n. Some n) zero_more

-- and is lawful
pub name-lawful : (names : NameLists) (kind : NameKind) (id : ℕ) → AreNames names
    → id < length (list_of kind names) → is_name 1 (get_or (list_of kind names) id []) ≡ true
name-lawful names kind id sound h = kind-lawful kind names sound.lawful id [] h

-- so it is an object
pub object-known : (names : NameLists) (kind : NameKind) (id : ℕ) → AreNames names
    → id < length (list_of kind names) → object names kind (get_or (list_of kind names) id []) ≡ Is
    id
object-known names kind id sound h =
    let lawful = name-lawful names kind id sound h in
    let at = place_of-kind names kind id sound h in
    rw (lawful, at)

object-by : (lawful : Bool) (place : Option ℕ) (id : ℕ)
    → (if◌then◌else◌ {A = WordsRead ℕ} lawful (object_at place) NoForm) ≡ Is id
    → (lawful ≡ true) × (place ≡ Some id)
object-by true None id h = absurd cc
object-by true (Some found) id h = (refl, cc)
object-by false place id h = absurd cc

-- and an object that is known is the name at its place
pub known-object : (names : NameLists) (kind : NameKind) (word : List ℕ) (id : ℕ)
    → object names kind word ≡ Is id → (id < length (list_of kind names)) × (get_or
    (list_of kind names) id [] ≡ word)
known-object names kind word id h =
    let by = object-by (is_name 1 word) (place_of word (list_of kind names)) id h in
    place_of-Some word (list_of kind names) id by.1
