-- What is known of a variable after one more step.
use Rattle.std.proofs.Common.{◌≡◌, ℕ, zero, suc, ◌+◌, ◌<◌, true, false, eqb, ◌&&◌, List, length}
use Rattle.std.proofs.Common.{get_or, set, replicate, Option, Some, None, option_map, is_some}
use Rattle.std.proofs.Common.{MatchOption, refl, sym, ap, subst, ◌∙◌, arith, inl, inr, ◌⊎◌, eq-eqb}
use Rattle.std.proofs.Common.{ne_eqb}
use Rattle.std.proofs.lemmas.Bool.{cases_lt, cases_eq}
use Rattle.std.proofs.lemmas.List.{get_or-set_same, get_or-set_other, length-set}
use Rattle.std.proofs.Math.Bool.{and-false}
use Rattle.hb_race.specs.declared.access.AccessKind.{AccessKind}
use Rattle.hb_race.specs.declared.access.AccessKind.TheVariants.{PlainRead, PlainWrite, AtomicRead}
use Rattle.hb_race.specs.declared.access.AccessKind.TheVariants.{AtomicWrite}
use Rattle.hb_race.specs.declared.history.LastAccess.{LastAccess}
use Rattle.hb_race.specs.declared.history.History.{History}
use Rattle.hb_race.specs.declared.race.Race.{Race}
use Rattle.hb_race.specs.Order.{Steps}
use Rattle.hb_race.specs.Clocks.{own, stamp}
use Rattle.hb_race.specs.Accesses.{same_kind}
use Rattle.hb_race.specs.Lasts.{Accesses, StepsRace, is_of, last, kept_access, AreLasts, lasts_of}
use Rattle.hb_race.specs.Lasts.{with_last, new_history, HasLasts, NoneRaces, IsFirstRace, IsHistory}
use Rattle.hb_race.specs.Lasts.{IsGreatest, IsCurrent, NumbersRace}
use Rattle.hb_race.proofs.Meaning.{stamp-own}
use Rattle.hb_race.proofs.Lasts.{last-now, same_kind-refl}

-- ---- cases of a race that may be
match-none : (o : Option Race) (A : Type 0) (B : Race → Type 0) → is_some o ≡ false
    → MatchOption o A B → A
match-none None A B e m = m
match-none (Some race) A B e m = absurd cc

none-match : (o : Option Race) (A : Type 0) (B : Race → Type 0) → is_some o ≡ false → A
    → MatchOption o A B
none-match None A B e a = a
none-match (Some race) A B e a = absurd cc

match-map : (o : Option Race) (A C : Type 0) (B : Race → Type 0) → (A → C) → MatchOption o A B
    → MatchOption o C B
match-map None A C B f m = f m
match-map (Some race) A C B f m = m

-- ---- before the first step
nones : (n u : ℕ) → get_or (replicate n (let none : Option LastAccess = None in none)) u None ≡ None
nones zero u = refl
nones (suc n) zero = refl
nones (suc n) (suc u) = nones n u

new-lasts : (kind : AccessKind) → lasts_of kind new_history ≡ replicate 64 None
new-lasts PlainRead = refl
new-lasts PlainWrite = refl
new-lasts AtomicRead = refl
new-lasts AtomicWrite = refl

pub history-new : {O : Type 0} (s : Steps O) (access : Accesses) (x : ℕ)
    → IsHistory s access x 0 new_history
history-new s access x = (
  record {
    lasts = λ kind u low. ap (λ lasts. get_or lasts u None) (new-lasts kind) ∙ nones 64 u;
    long = λ kind. ap length (new-lasts kind);
  },
  λ i j low race. omega arith,
)

-- ---- a step that doesn't access the variable
below_or : (j n : ℕ) → j < suc n → (j < n) ⊎ (j ≡ n)
below_or j n low = elim (cases_lt j n) [ inl h ↦ inl h | inr h ↦ inr (omega arith) ]

last-other : {O : Type 0} (s : Steps O) (access : Accesses) (u : ℕ) (kind : AccessKind) (n : ℕ)
    → is_of (access n) kind ≡ false → last s access u kind (suc n) ≡ last s access u kind n
last-other s access u kind n other =
    last-now s access u kind n false (ap (λ b. eqb (s.thread n) u && b) other
    ∙ and-false (eqb (s.thread n) u))

lasts-other : {O : Type 0} (s : Steps O) (access : Accesses) (n : ℕ) (history : History)
    → access n ≡ None → HasLasts s access n history → HasLasts s access (suc n) history
lasts-other s access n history none has = record {
  lasts =
      λ kind u low. has.lasts kind u low
      ∙ ap (option_map (kept_access s))
      (sym (last-other s access u kind n (ap (λ o. is_of o kind) none)));
  long = has.long;
}

pub history-other : {O : Type 0} (s : Steps O) (access : Accesses) (x n : ℕ) (history : History)
    → access n ≡ None → IsHistory s access x n history → IsHistory s access x (suc n) history
history-other s access x n history none =
    match-map history.race (HasLasts s access n history × NoneRaces s access n)
    (HasLasts s access (suc n) history × NoneRaces s access (suc n)) (IsFirstRace s access x)
    (λ known. (
      lasts-other s access n history none known.0,
      λ i j low race. elim (below_or j n low) [
        | inl old ↦ known.1 i j old race
        | inr new ↦
            let at : access n ≡ Some race.second =
            subst (λ k. access k ≡ Some race.second) new race.at_second in
            let apart : None ≡ Some race.second = sym none ∙ at in
            absurd cc
      ],
    ))

-- ---- the first step that races
pub history-found : {O : Type 0} (s : Steps O) (access : Accesses) (x n step first : ℕ)
    (history : History) → is_some history.race ≡ false → step ≡ n + 1
    → IsHistory s access x n history
    → (HasLasts s access n history → IsGreatest (NumbersRace s access n) (Some first))
    → IsFirstRace s access x (record { var = x; first = first; second = step })
history-found s access x n step first history none number known search =
    let parts = match-none history.race (HasLasts s access n history × NoneRaces s access n)
    (IsFirstRace s access x) none known in
    let found = search parts.0 in
    let race = found.0 in
    record {
      first = race.0;
      second = n;
      var = refl;
      first_number = race.1;
      second_number = number;
      races = race.2;
      least = λ i j other. elim (cases_lt j n) [
        | inl low ↦ absurd (parts.1 i j low other)
        | inr high ↦ high
      ];
      greatest = λ i other. let top = found.1 (i + 1) (i, refl, other) in let e = race.1 in
          omega arith;
    }

-- ---- a step that doesn't race is the last access of its thread and kind
of-with : (kind other : AccessKind) (u : ℕ) (l : LastAccess) (history : History)
    → ((kind ≡ other) × (lasts_of other (with_last kind u l history)
    ≡ set (lasts_of other history) u (Some l)))
    ⊎ ((same_kind kind other ≡ false)
    × (lasts_of other (with_last kind u l history) ≡ lasts_of other history))
of-with PlainRead PlainRead u l history = inl (refl, refl)
of-with PlainRead PlainWrite u l history = inr (refl, refl)
of-with PlainRead AtomicRead u l history = inr (refl, refl)
of-with PlainRead AtomicWrite u l history = inr (refl, refl)
of-with PlainWrite PlainRead u l history = inr (refl, refl)
of-with PlainWrite PlainWrite u l history = inl (refl, refl)
of-with PlainWrite AtomicRead u l history = inr (refl, refl)
of-with PlainWrite AtomicWrite u l history = inr (refl, refl)
of-with AtomicRead PlainRead u l history = inr (refl, refl)
of-with AtomicRead PlainWrite u l history = inr (refl, refl)
of-with AtomicRead AtomicRead u l history = inl (refl, refl)
of-with AtomicRead AtomicWrite u l history = inr (refl, refl)
of-with AtomicWrite PlainRead u l history = inr (refl, refl)
of-with AtomicWrite PlainWrite u l history = inr (refl, refl)
of-with AtomicWrite AtomicRead u l history = inr (refl, refl)
of-with AtomicWrite AtomicWrite u l history = inl (refl, refl)

race-with : (kind : AccessKind) (u : ℕ) (l : LastAccess) (history : History)
    → (with_last kind u l history).race ≡ history.race
race-with PlainRead u l history = refl
race-with PlainWrite u l history = refl
race-with AtomicRead u l history = refl
race-with AtomicWrite u l history = refl

-- the lists of one kind, where the step n is the last one
lasts-set : {O : Type 0} (s : Steps O) (access : Accesses) (n thread : ℕ) (kind : AccessKind)
    (lasts : List (Option LastAccess)) → s.thread n ≡ thread → access n ≡ Some kind
    → length lasts ≡ 64
    → AreLasts s access kind n lasts → AreLasts s access kind (suc n)
    (set lasts thread (Some (kept_access s n)))
lasts-set s access n thread kind lasts own at long are = λ u low. elim (cases_eq u thread) [
  | inl same ↦
      let there : thread < length lasts = omega arith in
      let here : (eqb (s.thread n) u && is_of (access n) kind) ≡ true =
      ap (λ b. b && is_of (access n) kind) (eq-eqb (s.thread n) u (own ∙ sym same))
      ∙ ap (λ o. is_of o kind) at ∙ same_kind-refl kind in
      ap (λ k. get_or (set lasts thread (Some (kept_access s n))) k None) same
      ∙ get_or-set_same lasts thread (Some (kept_access s n)) None there
      ∙ ap (option_map (kept_access s)) (sym (last-now s access u kind n true here))
  | inr apart ↦
      let there : (eqb (s.thread n) u && is_of (access n) kind) ≡ false =
      ap (λ b. b && is_of (access n) kind) (ne_eqb (s.thread n) u (λ e. apart (sym e ∙ own))) in
      get_or-set_other lasts thread u (Some (kept_access s n)) None apart
      ∙ are u low
      ∙ ap (option_map (kept_access s)) (sym (last-now s access u kind n false there))
]

lasts-kept : {O : Type 0} (s : Steps O) (access : Accesses) (n thread : ℕ) (kind : AccessKind)
    (history : History) → s.thread n ≡ thread → access n ≡ Some kind
    → HasLasts s access n history → HasLasts s access (suc n)
    (with_last kind thread (kept_access s n) history)
lasts-kept s access n thread kind history own at has = record {
  lasts = λ other. elim (of-with kind other thread (kept_access s n) history) [
    | inl same ↦
        subst (AreLasts s access other (suc n)) (sym same.1)
        (lasts-set s access n thread other (lasts_of other history) own (at ∙ ap Some same.0)
        (has.long other) (has.lasts other))
    | inr apart ↦
        subst (AreLasts s access other (suc n)) (sym apart.1)
        (λ u low. has.lasts other u low ∙ ap (option_map (kept_access s))
        (sym (last-other s access u other n (ap (λ o. is_of o other) at ∙ apart.0))))
  ];
  long = λ other. elim (of-with kind other thread (kept_access s n) history) [
    | inl same ↦ ap length same.1 ∙ length-set (lasts_of other history) thread
        (Some (kept_access s n)) ∙ has.long other
    | inr apart ↦ ap length apart.1 ∙ has.long other
  ];
}

pub history-kept : {O : Type 0} (s : Steps O) (access : Accesses) (x n step thread : ℕ)
    (kind : AccessKind) (clock : List ℕ) (history after : History) → is_some history.race ≡ false
    → step ≡ n + 1 → IsCurrent s access n kind thread clock
    → IsHistory s access x n history → (HasLasts s access n history
    → IsGreatest (NumbersRace s access n) None)
    → after ≡ with_last kind thread (record { step = step; own = get_or clock thread 0 }) history
    → IsHistory s access x (suc n) after
history-kept s access x n step thread kind clock history after none number current known search
    made =
    let parts = match-none history.race (HasLasts s access n history × NoneRaces s access n)
    (IsFirstRace s access x) none known in
    let owned : get_or clock thread 0 ≡ own s n =
    current.stamped thread ∙ ap (stamp s n) (sym current.own_step)
    ∙ stamp-own s n (s.thread n) refl in
    let is_kept : record { step = step; own = get_or clock thread 0 } ≡ kept_access s n = cc in
    let next = with_last kind thread (kept_access s n) history in
    let is_next : after ≡ next = made ∙ ap (λ l. with_last kind thread l history) is_kept in
    subst (IsHistory s access x (suc n)) (sym is_next)
    (none-match next.race (HasLasts s access (suc n) next × NoneRaces s access (suc n))
    (IsFirstRace s access x)
    (ap is_some (race-with kind thread (kept_access s n) history) ∙ none) (
      lasts-kept s access n thread kind history current.own_step current.accesses parts.0,
      λ i j low race. elim (below_or j n low) [
        | inl old ↦ parts.1 i j old race
        | inr new ↦ search parts.0 (i + 1) (i, refl, subst (StepsRace s access i) new race)
      ],
    ))
