-- Facts on the names of a test.
use Rattle.std.specs.Prelude.{codes, ◌==◌, ◌&&◌, not, nat_le, if◌then◌else◌}
use Rattle.std.proofs.Common.{◌≡◌, ℕ, ◌<◌, ◌≤◌, Bool, true, false, ◌||◌, List, [], ◌∷◌, ◌++◌}
use Rattle.std.proofs.Common.{length, get_or, zero, suc, Some, refl, sym, ap, ◌∙◌, ◌+◌, add-zero}
use Rattle.std.proofs.Common.{arith, append_assoc, append-nil, length-append}
use Rattle.std.specs.List.{All, list_any, position_from}
use Rattle.std.proofs.lemmas.List.{take_at}
use Rattle.std.proofs.lemmas.List.Quantifiers.{position-Some}
use Rattle.std.proofs.lemmas.Iterator.Adapters.{position_from-zero}
use Rattle.std.specs.Str.{bytes_eq}
use Rattle.std.proofs.lemmas.List.Elements.{All-cons, All-head, All-tail, All-take}
use Rattle.std.proofs.lemmas.List.Folds.{list_any-append}
use Rattle.std.proofs.lemmas.Slice.Eq.{bytes_eq-Decides}
use Rattle.std.proofs.lemmas.Bool.{or_parts, or_from}
use Rattle.pct_ask.specs.Words.{is_word, is_name, is_among, first_keywords, registers}
use Rattle.pct_ask.specs.NameLists.{NameLists, list_of, all_names, place_of, AreDistinct, AreNames}
use Rattle.pct_ask.specs.declared.names.NameKind.{NameKind}
use Rattle.pct_ask.specs.declared.names.NameKind.TheVariants.{Thread, Var, Mutex, Cond, Sem}
use Rattle.pct_ask.specs.declared.names.NameKind.TheVariants.{Barrier, RwLock}
use Rattle.pct_ask.proofs.laws.SameWords.{bytes_eq-sym}

All-insert : (P : List ℕ → Type 0) (front back : List (List ℕ)) (name : List ℕ)
    → All P (front ++ back) → P name → All P (front ++ name ∷ back)
All-insert P [] back name all p = All-cons P name back p all
All-insert P (f ∷ fs) back name all p =
    All-cons P f (fs ++ name ∷ back) (All-head P f (fs ++ back) all)
    (All-insert P fs back name (All-tail P f (fs ++ back) all) p)

AreDistinct-insert : (front back : List (List ℕ)) (name : List ℕ) → AreDistinct (front ++ back)
    → is_among name (front ++ back) ≡ false → AreDistinct (front ++ name ∷ back)
AreDistinct-insert [] back name distinct fresh = (fresh, distinct)
AreDistinct-insert (f ∷ fs) back name distinct fresh =
    let apart : bytes_eq f name ≡ false =
    bytes_eq-sym f name ∙ (or_parts (bytes_eq name f) (is_among name (fs ++ back)) fresh).0 in
    let others : (is_among f fs || is_among f back) ≡ false =
    sym (list_any-append (bytes_eq f) fs back) ∙ distinct.0 in
    let at_back : is_among f (name ∷ back) ≡ false =
    or_from (bytes_eq f name) (is_among f back) apart
    (or_parts (is_among f fs) (is_among f back) others).1 in (
      list_any-append (bytes_eq f) fs (name ∷ back)
          ∙ or_from (is_among f fs) (is_among f (name ∷ back))
          (or_parts (is_among f fs) (is_among f back) others).0 at_back,
      AreDistinct-insert fs back name distinct.1
          (or_parts (bytes_eq name f) (is_among name (fs ++ back)) fresh).1,
    )

-- the names with another list for one kind
abbrev pub with_list : NameKind → List (List ℕ) → NameLists → NameLists
with_list Thread list names = record names { threads = list }
with_list Var list names = record names { vars = list }
with_list Mutex list names = record names { mutexes = list }
with_list Cond list names = record names { conds = list }
with_list Sem list names = record names { sems = list }
with_list Barrier list names = record names { barriers = list }
with_list RwLock list names = record names { rwlocks = list }

-- the names before the end of a kind's list, and those after it
abbrev front_of : NameKind → NameLists → List (List ℕ)
front_of Thread n = n.threads
front_of Var n = n.threads ++ n.vars
front_of Mutex n = n.threads ++ (n.vars ++ n.mutexes)
front_of Cond n = n.threads ++ (n.vars ++ (n.mutexes ++ n.conds))
front_of Sem n = n.threads ++ (n.vars ++ (n.mutexes ++ (n.conds ++ n.sems)))
front_of Barrier n = n.threads ++ (n.vars ++ (n.mutexes ++ (n.conds ++ (n.sems ++ n.barriers))))
front_of RwLock n =
    n.threads ++ (n.vars ++ (n.mutexes ++ (n.conds ++ (n.sems ++ (n.barriers ++ n.rwlocks)))))

abbrev back_of : NameKind → NameLists → List (List ℕ)
back_of Thread n = n.vars ++ (n.mutexes ++ (n.conds ++ (n.sems ++ (n.barriers ++ n.rwlocks))))
back_of Var n = n.mutexes ++ (n.conds ++ (n.sems ++ (n.barriers ++ n.rwlocks)))
back_of Mutex n = n.conds ++ (n.sems ++ (n.barriers ++ n.rwlocks))
back_of Cond n = n.sems ++ (n.barriers ++ n.rwlocks)
back_of Sem n = n.barriers ++ n.rwlocks
back_of Barrier n = n.rwlocks
back_of RwLock n = []

all_names-cut : (kind : NameKind) (n : NameLists) → front_of kind n ++ back_of kind n ≡ all_names n
all_names-cut Thread n = refl
all_names-cut Var n = simp append_assoc
all_names-cut Mutex n = simp append_assoc
all_names-cut Cond n = simp append_assoc
all_names-cut Sem n = simp append_assoc
all_names-cut Barrier n = simp append_assoc
all_names-cut RwLock n = append-nil _

all_names-push : (kind : NameKind) (n : NameLists) (name : List ℕ)
    → front_of kind n ++ name ∷ back_of kind n
    ≡ all_names (with_list kind (list_of kind n ++ name ∷ []) n)
all_names-push Thread n name = simp append_assoc
all_names-push Var n name = simp append_assoc
all_names-push Mutex n name = simp append_assoc
all_names-push Cond n name = simp append_assoc
all_names-push Sem n name = simp append_assoc
all_names-push Barrier n name = simp append_assoc
all_names-push RwLock n name = simp append_assoc

few-push : (kind : NameKind) (n : NameLists) (name : List ℕ)
    → ((k : NameKind) → length (list_of k n) ≤ 64) → length (list_of kind n) < 64 → (k : NameKind)
    → length (list_of k (with_list kind (list_of kind n ++ name ∷ []) n)) ≤ 64
few-push Thread n name few room Thread = omega (arith, length-append n.threads (name ∷ []))
few-push Thread n name few room k = few k
few-push Var n name few room Var = omega (arith, length-append n.vars (name ∷ []))
few-push Var n name few room k = few k
few-push Mutex n name few room Mutex = omega (arith, length-append n.mutexes (name ∷ []))
few-push Mutex n name few room k = few k
few-push Cond n name few room Cond = omega (arith, length-append n.conds (name ∷ []))
few-push Cond n name few room k = few k
few-push Sem n name few room Sem = omega (arith, length-append n.sems (name ∷ []))
few-push Sem n name few room k = few k
few-push Barrier n name few room Barrier = omega (arith, length-append n.barriers (name ∷ []))
few-push Barrier n name few room k = few k
few-push RwLock n name few room RwLock = omega (arith, length-append n.rwlocks (name ∷ []))
few-push RwLock n name few room k = few k

AreNames-with : (kind : NameKind) (n : NameLists) (name : List ℕ) → AreNames n
    → is_name 1 name ≡ true → is_among name (all_names n) ≡ false → length (list_of kind n) < 64
    → AreNames (with_list kind (list_of kind n ++ name ∷ []) n)
AreNames-with kind n name sound lawful fresh room =
    let IsLawful = λ (word : List ℕ). is_name 1 word ≡ true in
    let now = all_names-cut kind n in
    record {
      lawful =
          rw (← all_names-push kind n name)
          (All-insert IsLawful (front_of kind n) (back_of kind n) name (rw now sound.lawful)
          lawful);
      distinct =
          rw (← all_names-push kind n name)
          (AreDistinct-insert (front_of kind n) (back_of kind n) name (rw now sound.distinct)
          (rw now fresh));
      few = few-push kind n name sound.few room;
    }

-- what `add` leaves, where the old names, the kind and the list that was pushed to are known by
-- equations
pub AreNames-push : (kind asked : NameKind) (n old : NameLists) (name own : List ℕ)
    (list : List (List ℕ)) → asked ≡ kind → n ≡ old → AreNames n → is_name 1 name ≡ true
    → is_among name (all_names old) ≡ false → length (list_of asked old) < 64 → own ≡ name
    → list ≡ list_of kind n ++ own ∷ [] → AreNames (with_list kind list n)
AreNames-push kind asked n old name own list same view sound lawful fresh room e pushed =
    let fresh_here : is_among name (all_names n) ≡ false = rw view fresh in
    let room_here : length (list_of kind n) < 64 = rw (← same, view) room in
    rw (pushed, e) (AreNames-with kind n name sound lawful fresh_here room_here)

-- the keywords that the third version adds
abbrev later_keywords : List (List ℕ)
later_keywords =
    codes "start" ∷ codes "rwlock" ∷ codes "rdlock" ∷ codes "wrlock" ∷ codes "tryrdlock"
    ∷ codes "trywrlock" ∷ codes "rwunlock" ∷ []

fewer-words : (a b x y : Bool) → (a && not (x || y) && b) ≡ true → (a && not x && b) ≡ true
fewer-words true b true y h = h
fewer-words true b false true h = cc
fewer-words true b false false h = h
fewer-words false b x y h = cc

among-fewer : (p : List ℕ → Bool) (a b : Bool) (xs ys : List (List ℕ))
    → (a && not (list_any p (xs ++ ys)) && b) ≡ true → (a && not (list_any p xs) && b) ≡ true
among-fewer p a b xs ys h =
    fewer-words a b (list_any p xs) (list_any p ys) (rw list_any-append at h)

by_version : (first second : Bool) (word : List ℕ)
    → (is_word word && not (is_among word
    (if first then first_keywords else
    (if second then first_keywords ++ codes "start" ∷ [] else first_keywords ++ later_keywords)))
    && not (is_among word registers)) ≡ true → is_name 1 word ≡ true
by_version true second word h = h
by_version false true word h =
    among-fewer (bytes_eq word) (is_word word) (not (is_among word registers)) first_keywords
    (codes "start" ∷ []) h
by_version false false word h =
    among-fewer (bytes_eq word) (is_word word) (not (is_among word registers)) first_keywords
    later_keywords h

-- a name that is lawful by a later version's keywords is lawful by the first version's
pub is_name-first : (version : ℕ) (word : List ℕ) → is_name version word ≡ true
    → is_name 1 word ≡ true
is_name-first version word h = by_version (nat_le version 1) (version == 2) word h

-- a name that is found stands at its place
pub place_of-Some : (name : List ℕ) (names : List (List ℕ)) (place : ℕ)
    → place_of name names ≡ Some place → (place < length names) × (get_or names place [] ≡ name)
place_of-Some name names place found =
    let at = position-Some (bytes_eq name) names place [] found in
    (at.0, sym ((bytes_eq-Decides name (get_or names place [])).0 at.1))

-- the front of names that differ
pub AreDistinct-left : (front back : List (List ℕ)) → AreDistinct (front ++ back)
    → AreDistinct front
AreDistinct-left [] back distinct = tt
AreDistinct-left (name ∷ names) back distinct = (
  (or_parts (is_among name names) (is_among name back)
      (sym (list_any-append (bytes_eq name) names back) ∙ distinct.0)).0,
  AreDistinct-left names back distinct.1,
)

-- a name that is not among others is at no place of theirs
pub not-at : (name : List ℕ) (names : List (List ℕ)) (k : ℕ) → is_among name names ≡ false
    → k < length names → bytes_eq name (get_or names k []) ≡ false
not-at name [] k fresh h = absurd (omega arith)
not-at name (other ∷ others) zero fresh h =
    (or_parts (bytes_eq name other) (is_among name others) fresh).0
not-at name (other ∷ others) (suc k) fresh h =
    not-at name others k (or_parts (bytes_eq name other) (is_among name others) fresh).1
    (omega arith)

-- and the name at a place is found there
pub found-at : (names : List (List ℕ)) (k i : ℕ) → k < length names → AreDistinct names
    → position_from (bytes_eq (get_or names k [])) i names ≡ Some (i + k)
found-at [] k i h distinct = absurd (omega arith)
found-at (name ∷ names) zero i h distinct =
    let same : bytes_eq name name ≡ true = (bytes_eq-Decides name name).1 refl in
    rw (same, add-zero)
found-at (name ∷ names) (suc k) i h distinct =
    let other : bytes_eq (get_or names k []) name ≡ false =
    bytes_eq-sym (get_or names k []) name ∙ not-at name names k distinct.0 (omega arith) in
    let later : i + 1 + k ≡ i + suc k = omega arith in
    rw other (found-at names k (i + 1) (omega arith) distinct.1 ∙ ap (λ n. Some n) later)

-- the name at a thread's place is found there
pub place_of-thread : (names : NameLists) (thread : ℕ) → AreNames names
    → thread < length names.threads → place_of (get_or names.threads thread []) names.threads
    ≡ Some thread
place_of-thread names thread sound h =
    let zero_more : 0 + thread ≡ thread = omega arith in
    position_from-zero (bytes_eq (get_or names.threads thread [])) names.threads
    ∙ found-at names.threads thread 0 h
    (AreDistinct-left names.threads (back_of Thread names) sound.distinct)
    ∙ ap (λ n. Some n) zero_more

-- each thread's name is lawful
pub thread-lawful : (names : NameLists) (thread : ℕ) → AreNames names
    → thread < length names.threads → is_name 1 (get_or names.threads thread []) ≡ true
thread-lawful names thread sound h =
    let IsLawful = λ (word : List ℕ). is_name 1 word ≡ true in
    let all : All IsLawful names.threads =
    rw take_at at (All-take IsLawful (length names.threads) (all_names names) sound.lawful) in
    all thread [] h
