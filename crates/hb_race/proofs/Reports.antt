-- The races of the histories are the races of the run.
use Rattle.std.proofs.Common.{◌≡◌, ℕ, ℤ, pos, zero, suc, ◌+◌, ◌<◌, ◌≤◌, Bool, true, false, cond}
use Rattle.std.proofs.Common.{eqb, ◌||◌, List, [], ◌∷◌, length, map, get_or, slice_get, All}
use Rattle.std.proofs.Common.{Contains, Option, Some, None, option_to_list, ◌++◌, take, drop}
use Rattle.std.proofs.Common.{MatchOption, refl, sym, ap, subst, ◌∙◌, arith, inl, inr, ◌⊎◌, eq-eqb}
use Rattle.std.specs.Prelude.{slice_index}
use Rattle.std.specs.List.{filter_map, cons_option}
use Rattle.std.specs.List.Sorted.{IsStrictlyIncreasing}
use Rattle.std.specs.Option.{option_and_then}
use Rattle.std.specs.Ordering.{int_eq}
use Rattle.std.proofs.lemmas.List.{take_more, take_all, take-append-le}
use Rattle.std.proofs.lemmas.List.Elements.{filter_map-append}
use Rattle.std.proofs.lemmas.Bool.{cases_Bool, eqb-true, and_from, and_parts}
use Rattle.pct_ask.specs.declared.ask.Ask.{Ask}
use Rattle.pct_ask.specs.declared.ask.Ask.TheVariants.{Read, Write, Add, Cas}
use Rattle.pct_ask.specs.declared.event.Event.{Event}
use Rattle.pct_ask.specs.Objects.{IsInRange, EventIsInRange}
use Rattle.hb_race.specs.declared.access.AccessKind.{AccessKind}
use Rattle.hb_race.specs.declared.access.AccessKind.TheVariants.{PlainRead, PlainWrite, AtomicRead}
use Rattle.hb_race.specs.declared.access.AccessKind.TheVariants.{AtomicWrite}
use Rattle.hb_race.specs.declared.history.History.{History}
use Rattle.hb_race.specs.declared.race.Race.{Race}
use Rattle.hb_race.specs.Races.{variable_accessed, is_plain_access, is_writing, IsRace, IsReported}
use Rattle.hb_race.specs.Races.{AreRaces}
use Rattle.hb_race.specs.Ranges.{most_with}
use Rattle.hb_race.specs.Accesses.{access_by, access_of, exchange_kind, kind_on, is_plain_kind}
use Rattle.hb_race.specs.Accesses.{is_write_kind}
use Rattle.hb_race.specs.Table.{steps_of, accesses_of, no_event}
use Rattle.hb_race.specs.Lasts.{StepsRace, HasLasts, NoneRaces, IsFirstRace, no_history}
use Rattle.hb_race.specs.Histories.{AreHistories}
use Rattle.hb_race.proofs.Edges.{at-is, before-is}

-- ---- accesses in words, and by kind
hit : (y x : ℕ) (kind : AccessKind) → Some y ≡ Some x
    → kind_on x (Some (record { var = y; kind = kind })) ≡ Some kind
hit y x kind e = let same : y ≡ x = cc in ap (λ b. cond b (Some kind) None) (eq-eqb y x same)

hit-back : (y x : ℕ) (kind found : AccessKind)
    → kind_on x (Some (record { var = y; kind = kind })) ≡ Some found → (y ≡ x) × (kind ≡ found)
hit-back y x kind found e = elim (cases_Bool (eqb y x)) [
  | inl holds ↦ let same : Some kind ≡ Some found =
      sym (ap (λ b. cond b (Some kind) None) holds) ∙ e in (eqb-true y x holds, cc)
  | inr fails ↦ let none : None ≡ Some found = sym (ap (λ b. cond b (Some kind) None) fails) ∙ e in
      absurd cc
]

exchange-plain : (b : Bool) → is_plain_kind (cond b AtomicWrite AtomicRead) ≡ false
exchange-plain true = refl
exchange-plain false = refl

exchange-write : (b : Bool) → is_write_kind (cond b AtomicWrite AtomicRead) ≡ b
exchange-write true = refl
exchange-write false = refl

record Agrees (ask : Ask) (answer : ℤ) (kind : AccessKind) : Type 0 where
  plain : is_plain_kind kind ≡ is_plain_access ask
  writes : is_write_kind kind ≡ is_writing ask answer

kind-by : (ask : Ask) (answer : ℤ) (x : ℕ) → variable_accessed ask ≡ Some x
    → (kind : AccessKind) × (kind_on x (access_by ask answer) ≡ Some kind) × Agrees ask answer kind
kind-by (Read y) answer x e =
    (PlainRead, hit y x PlainRead e, record { plain = refl; writes = refl })
kind-by (Write y value) answer x e =
    (PlainWrite, hit y x PlainWrite e, record { plain = refl; writes = refl })
kind-by (Add y value) answer x e =
    (AtomicWrite, hit y x AtomicWrite e, record { plain = refl; writes = refl })
kind-by (Cas y old new) answer x e = (
  exchange_kind answer,
  hit y x (exchange_kind answer) e,
  record {
    plain = exchange-plain (int_eq answer (pos 1));
    writes = exchange-write (int_eq answer (pos 1));
  },
)
kind-by _ answer x e = absurd cc

by-kind : (ask : Ask) (answer : ℤ) (y x : ℕ) (kind found : AccessKind)
    → variable_accessed ask ≡ Some y → Agrees ask answer kind
    → kind_on x (Some (record { var = y; kind = kind })) ≡ Some found
    → (variable_accessed ask ≡ Some x) × Agrees ask answer found
by-kind ask answer y x kind found e agrees at = let back = hit-back y x kind found at in
    (e ∙ ap Some back.0, subst (Agrees ask answer) back.1 agrees)

kind-is : (ask : Ask) (answer : ℤ) (x : ℕ) (kind : AccessKind)
    → kind_on x (access_by ask answer) ≡ Some kind
    → (variable_accessed ask ≡ Some x) × Agrees ask answer kind
kind-is (Read y) answer x kind at =
    by-kind (Read y) answer y x PlainRead kind refl (record { plain = refl; writes = refl }) at
kind-is (Write y value) answer x kind at =
    by-kind (Write y value) answer y x PlainWrite kind refl (record { plain = refl; writes = refl })
    at
kind-is (Add y value) answer x kind at =
    by-kind (Add y value) answer y x AtomicWrite kind refl (record { plain = refl; writes = refl })
    at
kind-is (Cas y old new) answer x kind at =
    by-kind (Cas y old new) answer y x (exchange_kind answer) kind refl
    (record {
      plain = exchange-plain (int_eq answer (pos 1));
      writes = exchange-write (int_eq answer (pos 1));
    }) at
kind-is _ answer x kind at = absurd cc

-- ---- races in words, and by steps
some-at : {B : Type 0} (f : Event → Option B) (o : Option Event) (y : B)
    → option_and_then f o ≡ Some y → (e : Event) × (o ≡ Some e) × (f e ≡ Some y)
some-at f None y h = absurd cc
some-at f (Some e) y h = (e, refl, h)

within : (events : List Event) (i : ℕ) (e : Event) → slice_get events i ≡ Some e → i < length events
within [] i e h = absurd cc
within (x ∷ events) zero e h = omega arith
within (x ∷ events) (suc i) e h = let low = within events i e h in omega arith

race-by : (events : List Event) (x i j : ℕ) → IsRace events x i j
    → StepsRace (steps_of events) (accesses_of events x) i j
race-by events x i j race =
    let find = λ (e : Event). kind_on x (access_of e) in
    let first = kind-by race.a.ask race.a.answer x race.first_accesses in
    let second = kind-by race.b.ask race.b.answer x race.second_accesses in
    let a = at-is events i race.a race.first in
    let b = at-is events j race.b race.second in
    record {
      earlier = race.earlier;
      apart =
          λ e. race.apart (ap (λ (e : Event). e.thread) (sym a) ∙ e
          ∙ ap (λ (e : Event). e.thread) b);
      first = first.0;
      second = second.0;
      at_first = ap (option_and_then find) race.first ∙ first.1;
      at_second = ap (option_and_then find) race.second ∙ second.1;
      conflicts =
          and_from (is_plain_kind first.0 || is_plain_kind second.0)
          (is_write_kind first.0 || is_write_kind second.0)
          (ap (λ p. p || is_plain_kind second.0) first.2.plain
          ∙ ap (λ p. is_plain_access race.a.ask || p) second.2.plain ∙ race.plain)
          (ap (λ p. p || is_write_kind second.0) first.2.writes
          ∙ ap (λ p. is_writing race.a.ask race.a.answer || p) second.2.writes ∙ race.writes);
      unordered =
          λ before. race.unordered ((before-is events i j (within events j race.b race.second)).0
          before);
    }

race-of : (events : List Event) (x i j : ℕ) → StepsRace (steps_of events) (accesses_of events x) i j
    → IsRace events x i j
race-of events x i j race =
    let find = λ (e : Event). kind_on x (access_of e) in
    let first = some-at find (slice_get events i) race.first race.at_first in
    let second = some-at find (slice_get events j) race.second race.at_second in
    let a = first.0 in
    let b = second.0 in
    let one = kind-is a.ask a.answer x race.first first.2 in
    let two = kind-is b.ask b.answer x race.second second.2 in
    let parts = and_parts (is_plain_kind race.first || is_plain_kind race.second)
    (is_write_kind race.first || is_write_kind race.second) race.conflicts in
    record {
      earlier = race.earlier;
      a = a;
      b = b;
      first = first.1;
      second = second.1;
      apart =
          λ e. race.apart (ap (λ (e : Event). e.thread) (at-is events i a first.1) ∙ e
          ∙ ap (λ (e : Event). e.thread) (sym (at-is events j b second.1)));
      first_accesses = one.0;
      second_accesses = two.0;
      plain =
          ap (λ p. p || is_plain_access b.ask) (sym one.1.plain)
          ∙ ap (λ p. is_plain_kind race.first || p) (sym two.1.plain) ∙ parts.0;
      writes =
          ap (λ p. p || is_writing b.ask b.answer) (sym one.1.writes)
          ∙ ap (λ p. is_write_kind race.first || p) (sym two.1.writes) ∙ parts.1;
      unordered =
          λ before. race.unordered ((before-is events i j (within events j b second.1)).1 before);
    }

report : (events : List Event) (x : ℕ) (race : Race)
    → IsFirstRace (steps_of events) (accesses_of events x) x race → IsReported events race
report events x race is = record {
  first = is.first;
  second = is.second;
  first_number = is.first_number;
  second_number = is.second_number;
  races =
      subst (λ y. IsRace events y is.first is.second) (sym is.var)
      (race-of events x is.first is.second is.races);
  least =
      λ i j other. is.least i j (race-by events x i j
      (subst (λ y. IsRace events y i j) is.var other));
  greatest =
      λ i other. is.greatest i (race-by events x i is.second
      (subst (λ y. IsRace events y i is.second) is.var other));
}

-- ---- the list of races
abbrev pub race_of : History → Option Race
race_of history = history.race

cons_option-nil : (o : Option Race) → cons_option o [] ≡ option_to_list o
cons_option-nil None = refl
cons_option-nil (Some race) = refl

-- one more history adds its race, if it has one
pub filter_map-more : (histories : List History) (i : ℕ) → i < length histories
    → filter_map race_of (take (i + 1) histories)
    ≡ filter_map race_of (take i histories) ++ option_to_list (get_or histories i no_history).race
filter_map-more histories i low =
    ap (filter_map race_of) (take_more histories i no_history low)
    ∙ filter_map-append race_of (take i histories) (get_or histories i no_history ∷ [])
    ∙ ap (λ races. filter_map race_of (take i histories) ++ races)
    (cons_option-nil (get_or histories i no_history).race)

-- what a slice over a whole vector has after it was written
pub whole-slice : (histories items : List History) (len : ℕ) → length histories ≡ length items
    → len ≡ length items → take len (histories ++ drop (length histories) items) ≡ histories
whole-slice histories items len long full =
    take-append-le len histories (drop (length histories) items) (omega arith)
    ∙ take_all len histories (omega arith)

abbrev vars_of : List Race → List ℕ
vars_of races = map (λ race. race.var) races

abbrev AreAbove : ℕ → List ℕ → Type 0
AreAbove base xs = (k : ℕ) → k < length xs → base ≤ slice_index xs k

increasing-cons : (x : ℕ) (xs : List ℕ) → AreAbove (suc x) xs → IsStrictlyIncreasing xs
    → IsStrictlyIncreasing (x ∷ xs)
increasing-cons x xs above rising zero low = let first = above 0 (omega arith) in omega arith
increasing-cons x xs above rising (suc k) low =
    let next : k + 1 ≡ suc k = omega arith in
    let step : suc k + 1 ≡ suc (suc k) = omega arith in
    subst (λ m. slice_index xs k < slice_index (x ∷ xs) m) (sym step)
    (subst (λ m. slice_index xs k < slice_index xs m) next (rising k (omega arith)))

rising-option : (base : ℕ) (o : Option Race) (races : List Race)
    → ((race : Race) → o ≡ Some race → race.var ≡ base) → IsStrictlyIncreasing (vars_of races)
    → AreAbove (suc base) (vars_of races)
    → IsStrictlyIncreasing (vars_of (cons_option o races))
    × AreAbove base (vars_of (cons_option o races))
rising-option base None races at rising above =
    (rising, λ k low. let a = above k low in omega arith)
rising-option base (Some race) races at rising above =
    let same = at race refl in (
      increasing-cons race.var (vars_of races) (λ k low. let a = above k low in omega arith) rising,
      λ k low. above-cons k low same,
    )
  where
    above-cons : (k : ℕ) → k < length (vars_of (race ∷ races)) → race.var ≡ base
        → base ≤ slice_index (vars_of (race ∷ races)) k
    above-cons zero low same = omega arith
    above-cons (suc k) low same = let a = above k (omega arith) in omega arith

rising-list : (base : ℕ) (histories : List History)
    → ((k : ℕ) (race : Race) → k < length histories
    → (get_or histories k no_history).race ≡ Some race → race.var ≡ base + k)
    → IsStrictlyIncreasing (vars_of (filter_map race_of histories))
    × AreAbove base (vars_of (filter_map race_of histories))
rising-list base [] at = ((λ k low. absurd (omega arith)), λ k low. absurd (omega arith))
rising-list base (history ∷ histories) at =
    let rest = rising-list (suc base) histories
    (λ k race low e. let same = at (suc k) race (omega arith) e in omega arith) in
    rising-option base history.race (filter_map race_of histories)
    (λ race e. let same = at 0 race (omega arith) e in omega arith) rest.0 rest.1

all-option : (P : Race → Type 0) (o : Option Race) (races : List Race)
    → ((race : Race) → o ≡ Some race → P race) → All P races → All P (cons_option o races)
all-option P None races here rest = rest
all-option P (Some race) races here rest = all-cons
  where
    all-cons : (k : ℕ) (d : Race) → k < length (race ∷ races) → P (get_or (race ∷ races) k d)
    all-cons zero d low = here race refl
    all-cons (suc k) d low = rest k d (omega arith)

all-list : (P : Race → Type 0) (histories : List History)
    → ((k : ℕ) (race : Race) → k < length histories
    → (get_or histories k no_history).race ≡ Some race → P race)
    → All P (filter_map race_of histories)
all-list P [] at = λ k d low. absurd (omega arith)
all-list P (history ∷ histories) at =
    all-option P history.race (filter_map race_of histories) (λ race e. at 0 race (omega arith) e)
    (all-list P histories (λ k race low e. at (suc k) race (omega arith) e))

contains-option : (o : Option Race) (races : List Race) (x : ℕ) → Contains (vars_of races) x
    → Contains (vars_of (cons_option o races)) x
contains-option None races x has = has
contains-option (Some race) races x has = (suc has.0, (let low = has.1 in omega arith), has.2)

contains-here : (o : Option Race) (races : List Race) (race : Race) → o ≡ Some race
    → Contains (vars_of (cons_option o races)) race.var
contains-here None races race e = absurd cc
contains-here (Some other) races race e =
    (0, omega arith, (let same : other ≡ race = cc in ap (λ (r : Race). r.var) same))

contains-list : (histories : List History) (k : ℕ) (race : Race) → k < length histories
    → (get_or histories k no_history).race ≡ Some race
    → Contains (vars_of (filter_map race_of histories)) race.var
contains-list [] k race low e = absurd (omega arith)
contains-list (history ∷ histories) zero race low e =
    contains-here history.race (filter_map race_of histories) race e
contains-list (history ∷ histories) (suc k) race low e =
    contains-option history.race (filter_map race_of histories) race.var
    (contains-list histories k race (omega arith) e)

-- ---- the races of a run
match-some : (o : Option Race) (A : Type 0) (B : Race → Type 0) (race : Race) → o ≡ Some race
    → MatchOption o A B → B race
match-some None A B race e m = absurd cc
match-some (Some other) A B race e m = let same : other ≡ race = cc in subst B same m

match-cases : (o : Option Race) (A : Type 0) (B : Race → Type 0) → MatchOption o A B
    → A ⊎ ((race : Race) × (o ≡ Some race) × B race)
match-cases None A B m = inl m
match-cases (Some race) A B m = inr (race, refl, m)

accessed-low : (vars : ℕ) (ask : Ask) (x : ℕ) → IsInRange (most_with vars) ask
    → variable_accessed ask ≡ Some x → x < vars
accessed-low vars (Read y) x range e = let same : y ≡ x = cc in omega arith
accessed-low vars (Write y value) x range e = let same : y ≡ x = cc in omega arith
accessed-low vars (Add y value) x range e = let same : y ≡ x = cc in omega arith
accessed-low vars (Cas y old new) x range e = let same : y ≡ x = cc in omega arith
accessed-low vars _ x range e = absurd cc

race-low : (vars : ℕ) (events : List Event) (x i j : ℕ)
    → All (EventIsInRange (most_with vars)) events → IsRace events x i j → x < vars
race-low vars events x i j range race =
    let there = within events j race.b race.second in
    let at = subst (EventIsInRange (most_with vars)) (at-is events j race.b race.second)
    (range j no_event there) in
    accessed-low vars race.b.ask x at.ask race.second_accesses

found-var : (events : List Event) (histories : List History)
    → AreHistories events (length events) histories → (x : ℕ) (race : Race) → x < length histories
    → (get_or histories x no_history).race ≡ Some race
    → IsFirstRace (steps_of events) (accesses_of events x) x race
found-var events histories are x race low e =
    let n = length events in
    let history = get_or histories x no_history in
    match-some history.race (HasLasts (steps_of events) (accesses_of events x) n history
    × NoneRaces (steps_of events) (accesses_of events x) n)
    (IsFirstRace (steps_of events) (accesses_of events x) x) race e (are x low)

every-race : (events : List Event) (histories : List History)
    → All (EventIsInRange (most_with (length histories))) events
    → AreHistories events (length events) histories
    → (x i j : ℕ) → IsRace events x i j → Contains (vars_of (filter_map race_of histories)) x
every-race events histories range are x i j race =
    let n = length events in
    let history = get_or histories x no_history in
    let low = race-low (length histories) events x i j range race in
    elim (match-cases history.race (HasLasts (steps_of events) (accesses_of events x) n history
    × NoneRaces (steps_of events) (accesses_of events x) n)
    (IsFirstRace (steps_of events) (accesses_of events x) x) (are x low)) [
      | inl none ↦ absurd (none.1 i j (within events j race.b race.second)
          (race-by events x i j race))
      | inr found ↦ subst (Contains (vars_of (filter_map race_of histories))) found.2.var
          (contains-list histories x found.0 low found.1)
    ]

pub reported : (events : List Event) (histories : List History) (races : List Race)
    → All (EventIsInRange (most_with (length histories))) events
    → AreHistories events (length events) histories → races ≡ filter_map race_of histories
    → AreRaces events races
reported events histories races range are made = subst (AreRaces events) (sym made) (record {
  ordered =
      (rising-list 0 histories (λ x race low e. let first =
      found-var events histories are x race low e in let same = first.var in omega arith)).0;
  each =
      all-list (IsReported events) histories
      (λ x race low e. report events x race (found-var events histories are x race low e));
  every = every-race events histories range are;
})
