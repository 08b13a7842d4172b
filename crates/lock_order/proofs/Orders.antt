-- Orders in which mutexes are taken out, and that they are good.
use Rattle.std.proofs.Common.{◌≡◌, ◌≢◌, ℕ, zero, suc, ◌+◌, ◌<◌, ◌≤◌, List, [], ◌∷◌, ◌++◌, length}
use Rattle.std.proofs.Common.{get_or, take, Option, Some, None, is_some, Bool, true, false, not}
use Rattle.std.proofs.Common.{MatchOption, refl, sym, ◌∙◌, subst, ◌⊎◌, inl, inr, ◌↔◌, arith}
use Rattle.std.specs.List.{Contains}
use Rattle.std.proofs.lemmas.Bool.{cases_eq, cases_lt}
use Rattle.std.proofs.lemmas.List.{length-take, get_or-take, get_or_default, take_all, take_more}
use Rattle.std.proofs.lemmas.List.{take_at, take-append-le, get_or_append_left, get_or_push}
use Rattle.std.proofs.lemmas.List.{length_push}
use Rattle.std.proofs.lemmas.List.Elements.{Contains-push, Contains-push_cases}
use Rattle.std.proofs.lemmas.List.Elements.{Contains-append_left}
use Rattle.std.proofs.lemmas.Option.{slice_get-get_or}
use Rattle.pct_ask.specs.declared.event.Event.{Event}
use Rattle.lock_order.specs.declared.mutex_set.MutexSet.{MutexSet}
use Rattle.lock_order.specs.declared.nesting.Nesting.{Nesting}
use Rattle.lock_order.specs.Nestings.{IsNesting}
use Rattle.lock_order.specs.Good.{ListsEachOnce, IsGoodOrder}
use Rattle.lock_order.specs.Chosen.{AreNested, IsLowest, Remains, IsFree, IsHeldWhere, AreTakenOut}
use Rattle.lock_order.specs.Chosen.{IsChosenOrder}
use Rattle.lock_order.specs.MutexSets.{HasMutex, HasThose, AreNestedSets, set_where, IsFreeIn}
use Rattle.lock_order.specs.MutexSets.{IsHeldIn}
use Rattle.lock_order.proofs.Places.{not-true}

no-cons : (a : ℕ) (xs : List ℕ) (x : ℕ) → a ≢ x → ¬ Contains xs x → ¬ Contains (a ∷ xs) x
no-cons a xs x ne absent (zero, within, is) = ne is
no-cons a xs x ne absent (suc k, within, is) = absent (k, omega arith, is)

pub contains-or : (xs : List ℕ) (x : ℕ) → Contains xs x ⊎ (¬ Contains xs x)
contains-or [] x = inr (λ (k, within, is). omega arith)
contains-or (a ∷ xs) x = elim (cases_eq a x) [
  | inl e ↦ inl (0, omega arith, e)
  | inr ne ↦ elim (contains-or xs x) [
    | inl (k, within, is) ↦ inl (suc k, omega arith, is)
    | inr absent ↦ inr (λ has. no-cons a xs x ne absent has)
  ]
]

-- an earlier item is one of the first
pub contains-take : (xs : List ℕ) (k n : ℕ) → k < n → n ≤ length xs → (x : ℕ) → get_or xs k 0 ≡ x
    → Contains (take n xs) x
contains-take xs k n lt within x is =
    let long = length-take n xs in
    let there : k < length (take n xs) = omega arith in
    (k, there, get_or_default (take n xs) k x 0 there ∙ get_or-take n xs k 0 lt ∙ is)

-- and one of the first is an earlier item
pub place-in-take : (xs : List ℕ) (n x : ℕ) → Contains (take n xs) x
    → (k : ℕ) × (k < n) × (k < length xs) × (get_or xs k 0 ≡ x)
place-in-take xs n x (k, within, is) =
    let long = length-take n xs in
    let lt : k < n = omega arith in (
      k,
      lt,
      omega arith,
      sym (get_or-take n xs k 0 lt)
          ∙ sym (get_or_default (take n xs) k x 0 within) ∙ is,
    )

module _ (mutexes : ℕ) (events : List Event) (order : List ℕ) where
  -- each mutex of the order is free after those before it, and none remains
  pub record AreFreeInTurn : Type 0 where
    pub free : (place : ℕ) → place < length order
        → IsFree mutexes events (take place order) (get_or order place 0)
    pub all : (mutex : ℕ) → ¬ Remains mutexes order mutex

  each-once : AreFreeInTurn → ListsEachOnce mutexes order
  each-once turn = record {
    below = λ place within. (turn.free place within).remains.below;
    once =
        λ first second lt within same. (turn.free second within).remains.left
        (contains-take order first second lt (omega arith) (get_or order second 0) same);
    all = λ mutex below. elim (contains-or order mutex) [
      | inl has ↦ has
      | inr absent ↦ absurd (turn.all mutex (record { below = below; left = absent }))
    ];
  }

  pub good-from-turn : ((nesting : Nesting) → IsNesting events nesting
      → (nesting.held < mutexes) × (nesting.taken < mutexes)) → AreFreeInTurn
      → IsGoodOrder mutexes events order
  good-from-turn small turn = record {
    each = each-once turn;
    kept = λ nesting is.
        let below = small nesting is in
        let there = (each-once turn).all nesting.taken below.1 in
        let second = there.0 in
        let there_at : get_or order second 0 ≡ nesting.taken =
        sym (get_or_default order second nesting.taken 0 there.1) ∙ there.2 in
        elim (contains-or (take second order) nesting.held) [
          | inl has ↦
              let before = place-in-take order second nesting.held has in
              record {
                first = before.0;
                second = second;
                rising = before.1;
                within = there.1;
                held_there = before.3;
                taken_there = there_at;
              }
          | inr absent ↦ absurd ((turn.free second there.1).free nesting.held
              (record { below = below.0; left = absent })
              (nesting, record { nested = is; held_is = refl; taken_is = sym there_at }))
        ];
  }

  same-place : ListsEachOnce mutexes order → (first second : ℕ) → first < length order
      → second < length order → get_or order first 0 ≡ get_or order second 0 → first ≡ second
  same-place each first second p q e = elim (cases_eq first second) [
    | inl same ↦ same
    | inr ne ↦ elim (cases_lt first second) [
      | inl lt ↦ absurd (each.once first second lt q e)
      | inr ge ↦ absurd (each.once second first (omega arith) p (sym e))
    ]
  ]

  pub turn-from-good : IsGoodOrder mutexes events order → AreFreeInTurn
  turn-from-good good = record {
    free = λ place within. record {
      remains = record {
        below = good.each.below place within;
        left = λ has. let before = place-in-take order place (get_or order place 0) has in
            good.each.once before.0 place before.1 within before.3;
      };
      free = λ held remains (nesting, is).
          let before = good.kept nesting is.nested in
          let rising = before.rising in
          let inside = before.within in
          let here : before.second ≡ place =
          same-place good.each before.second place inside within
          (before.taken_there ∙ is.taken_is) in
          remains.left (contains-take order before.first place (omega arith) (omega arith) held
          (before.held_there ∙ is.held_is));
    };
    all = λ mutex remains. remains.left (good.each.all mutex remains.below);
  }

-- and after one more
pub remains-more : (mutexes : ℕ) (out : List ℕ) (mutex : ℕ) (those fewer : MutexSet)
    → HasThose those (Remains mutexes out)
    → HasThose fewer (λ other. (other ≢ mutex) × HasMutex those other)
    → HasThose fewer (Remains mutexes (out ++ mutex ∷ []))
remains-more mutexes out mutex those fewer is without other = (
  λ has.
      let kept = (without other).0 has in
      let remains = (is other).0 kept.1 in
      record {
        below = remains.below;
        left = λ contained. elim (Contains-push_cases out mutex other contained) [
          | inl before ↦ remains.left before
          | inr now ↦ kept.0 (sym now)
        ];
      },
  λ remains. (without other).1 (
    λ same. remains.left (let P : ℕ → Type 0 = λ x. Contains (out ++ mutex ∷ []) x in
        subst P (sym same) (Contains-push out mutex)),
    (is other).1 (record {
      below = remains.below;
      left = λ before.
          remains.left (Contains-append_left out (mutex ∷ []) other before);
    }),
  ),
)

module _ (mutexes : ℕ) (events : List Event) (nested : List MutexSet)
    (sets : AreNestedSets events nested) where
  -- the set of what is held where a mutex is taken
  pub set-where-is : (taken : ℕ) → taken < 64
      → HasThose (set_where nested taken) (λ held. AreNested events held taken)
  set-where-is taken small =
      sets.each taken (set_where nested taken)
      (slice_get-get_or nested taken (record { bits = 0 }) (let whole = sets.whole in omega arith))

  module _ (out : List ℕ) (remaining : MutexSet)
      (is : HasThose remaining (Remains mutexes out)) where
    -- what is free by the sets is free
    pub free-from-sets : (mutex : ℕ) → IsFreeIn nested remaining mutex
        → IsFree mutexes events out mutex
    free-from-sets mutex free = record {
      remains = (is mutex).0 free.remains;
      free =
          λ held remains pair. free.free held ((set-where-is mutex free.remains.small held).1 pair)
          ((is held).1 remains);
    }

    pub free-to-sets : (mutex : ℕ) → IsFree mutexes events out mutex
        → IsFreeIn nested remaining mutex
    free-to-sets mutex free =
        let has = (is mutex).1 free.remains in
        record {
          remains = has;
          free =
              λ held in_set left. free.free held ((is held).0 left)
              ((set-where-is mutex has.small held).0 in_set);
        }

    pub held-from-sets : (taken held : ℕ) → taken < 64 → IsHeldIn nested remaining taken held
        → IsHeldWhere mutexes events out taken held
    held-from-sets taken held small (in_set, left) = record {
      remains = (is held).0 left;
      nested = (set-where-is taken small held).0 in_set;
    }

    pub held-to-sets : (taken held : ℕ) → taken < 64 → IsHeldWhere mutexes events out taken held
        → IsHeldIn nested remaining taken held
    held-to-sets taken held small where_is =
        ((set-where-is taken small held).1 where_is.nested, (is held).1 where_is.remains)

-- the lowest of one thing is the lowest of another that holds of the same numbers
pub lowest-same : (P Q : ℕ → Type 0) → ((n : ℕ) → P n ↔ Q n) → (n : ℕ) → IsLowest P n → IsLowest Q n
lowest-same P Q same n is = record {
  holds = (same n).0 is.holds;
  lowest = λ lower below q. is.lowest lower below ((same lower).1 q);
}

-- ---- a chosen order
pub turn-from-chosen : (mutexes : ℕ) (events : List Event) (order : List ℕ)
    → IsChosenOrder mutexes events order → AreFreeInTurn mutexes events order
turn-from-chosen mutexes events order chosen = record {
  free = λ place within. (chosen.taken_out.each place within).holds;
  all = chosen.all;
}

-- ---- a list that is read from its begin
pub record OrderSoFar (mutexes : ℕ) (events : List Event) (order : List ℕ) (steps : ℕ)
    (left : MutexSet) : Type 0 where
  pub left_is : HasThose left (Remains mutexes (take steps order))
  pub free : (place : ℕ) → place < steps
      → IsFree mutexes events (take place order) (get_or order place 0)

module _ (mutexes : ℕ) (events : List Event) (nested : List MutexSet)
    (sets : AreNestedSets events nested) (order : List ℕ) (place : ℕ)
    (within : place < length order) (left : MutexSet)
    (so_far : OrderSoFar mutexes events order place left) where
  abbrev mutex : ℕ
  mutex = get_or order place 0

  pub order-more : (fewer : MutexSet) → IsFreeIn nested left mutex
      → HasThose fewer (λ other. (other ≢ mutex) × HasMutex left other)
      → OrderSoFar mutexes events order (place + 1) fewer
  order-more fewer free without = record {
    left_is =
        let P : List ℕ → Type 0 = λ xs. HasThose fewer (Remains mutexes xs) in
        subst P (sym (take_more order place 0 within))
        (remains-more mutexes (take place order) mutex left fewer so_far.left_is without);
    free = λ earlier low. elim (cases_eq earlier place) [
      | inl same ↦
          let P : ℕ → Type 0 = λ k. IsFree mutexes events (take k order) (get_or order k 0) in
          subst P (sym same) (free-from-sets mutexes events nested sets (take place order) left
          so_far.left_is mutex free)
      | inr ne ↦ so_far.free earlier (omega arith)
    ];
  }

  pub order-broken : ¬ IsFreeIn nested left mutex → ¬ IsGoodOrder mutexes events order
  order-broken broken good =
      broken (free-to-sets mutexes events nested sets (take place order) left so_far.left_is mutex
      ((turn-from-good mutexes events order good).free place within))

module _ (mutexes : ℕ) (events : List Event) (order : List ℕ) (left : MutexSet)
    (so_far : OrderSoFar mutexes events order (length order) left) where
  all-read : HasThose left (Remains mutexes order)
  all-read = let P : List ℕ → Type 0 = λ xs. HasThose left (Remains mutexes xs) in
      subst P (take_all (length order) order (omega arith)) so_far.left_is

  order-whole : ((mutex : ℕ) → ¬ HasMutex left mutex) → AreFreeInTurn mutexes events order
  order-whole none = record {
    free = so_far.free;
    all = λ mutex remains. none mutex ((all-read mutex).1 remains);
  }

  order-short : (mutex : ℕ) → HasMutex left mutex → ¬ IsGoodOrder mutexes events order
  order-short mutex has good =
      (turn-from-good mutexes events order good).all mutex ((all-read mutex).0 has)

  -- what the lowest of those that are left says at the end
  pub order-read : ((nesting : Nesting) → IsNesting events nesting
      → (nesting.held < mutexes) × (nesting.taken < mutexes)) → (low : Option ℕ) (none : Bool)
      → MatchOption low ((mutex : ℕ) → ¬ HasMutex left mutex) (IsLowest (HasMutex left))
      → is_some low ≡ not none → (none ≡ true) ↔ IsGoodOrder mutexes events order
  order-read small None true absent is =
      (λ yes. good-from-turn mutexes events order small (order-whole absent), λ good. refl)
  order-read small None false absent is = absurd (not-true is)
  order-read small (Some lowest) true low is = absurd (not-true (sym is))
  order-read small (Some lowest) false low is =
      (λ yes. absurd (not-true yes), λ good. absurd (order-short lowest low.holds good))

-- ---- mutexes that are taken out one by one
pub record TakingOut (mutexes : ℕ) (nested : List MutexSet) (out : List ℕ)
    (remaining : MutexSet) : Type 0 where
  pub left_is : HasThose remaining (Remains mutexes out)
  pub each : (events : List Event) → AreNestedSets events nested → (place : ℕ) → place < length out
      → IsLowest (IsFree mutexes events (take place out)) (get_or out place 0)

module _ (mutexes : ℕ) (nested : List MutexSet) (out : List ℕ) (remaining : MutexSet)
    (so_far : TakingOut mutexes nested out remaining) where
  pub taking-below : (mutex : ℕ) → HasMutex remaining mutex → mutex < mutexes
  taking-below mutex has = ((so_far.left_is mutex).0 has).below

  lowest-free-is : (events : List Event) → AreNestedSets events nested → (mutex : ℕ)
      → IsLowest (IsFreeIn nested remaining) mutex → IsLowest (IsFree mutexes events out) mutex
  lowest-free-is events sets mutex low =
      lowest-same (IsFreeIn nested remaining) (IsFree mutexes events out)
      (λ n. (
        free-from-sets mutexes events nested sets out remaining so_far.left_is n,
        free-to-sets mutexes events nested sets out remaining so_far.left_is n,
      )) mutex low

  taking-longer : (mutex : ℕ) (fewer : MutexSet) → IsLowest (IsFreeIn nested remaining) mutex
      → HasThose fewer (λ other. (other ≢ mutex) × HasMutex remaining other)
      → TakingOut mutexes nested (out ++ mutex ∷ []) fewer
  taking-longer mutex fewer low without =
      let long = length_push out mutex in
      record {
        left_is = remains-more mutexes out mutex remaining fewer so_far.left_is without;
        each = λ events sets place within. elim (cases_eq place (length out)) [
          | inl last ↦
              let P : List ℕ → Type 0 = λ xs.
              IsLowest (IsFree mutexes events xs) (get_or (out ++ mutex ∷ []) place 0) in
              let Q : ℕ → Type 0 = λ n. IsLowest (IsFree mutexes events out) n in
              subst P (sym (take_at out (mutex ∷ []) place (sym last)))
              (subst Q (sym (get_or_push out mutex 0 place (sym last)))
              (lowest-free-is events sets mutex low))
          | inr ne ↦
              let P : List ℕ → Type 0 = λ xs.
              IsLowest (IsFree mutexes events xs) (get_or (out ++ mutex ∷ []) place 0) in
              let Q : ℕ → Type 0 = λ n. IsLowest (IsFree mutexes events (take place out)) n in
              subst P (sym (take-append-le place out (mutex ∷ []) (omega arith)))
              (subst Q (sym (get_or_append_left out (mutex ∷ []) 0 place (omega arith)))
              (so_far.each events sets place (omega arith)))
        ];
      }

  pub taking-more : (mutex : ℕ) (out' : List ℕ) (fewer : MutexSet) → out' ≡ out ++ mutex ∷ []
      → IsLowest (IsFreeIn nested remaining) mutex
      → HasThose fewer (λ other. (other ≢ mutex) × HasMutex remaining other)
      → TakingOut mutexes nested out' fewer
  taking-more mutex out' fewer same low without =
      let P : List ℕ → Type 0 = λ xs. TakingOut mutexes nested xs fewer in
      subst P (sym same) (taking-longer mutex fewer low without)

  pub taking-last : ((mutex : ℕ) → ¬ IsFreeIn nested remaining mutex) → (events : List Event)
      → AreNestedSets events nested → AreTakenOut mutexes events out
  taking-last stuck events sets = record {
    each = so_far.each events sets;
    end =
        λ mutex free. stuck mutex (free-to-sets mutexes events nested sets out remaining
        so_far.left_is mutex free);
  }
