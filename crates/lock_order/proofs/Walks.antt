-- The walk through the mutexes that remain, and the ring that it ends in.
use Rattle.std.proofs.Common.{◌≡◌, ◌≢◌, ℕ, zero, suc, ◌+◌, ◌-◌, ◌<◌, ◌≤◌, List, [], ◌∷◌, ◌++◌}
use Rattle.std.proofs.Common.{length, get_or, take, drop, reverse, Option, Some, MatchOption, refl}
use Rattle.std.proofs.Common.{sym, ap, ◌∙◌, subst, inl, inr, arith, add-one, cond, eq-eqb, ne_eqb}
use Rattle.std.specs.List.{Contains}
use Rattle.std.proofs.lemmas.Bool.{cases_eq, cases_lt}
use Rattle.std.proofs.lemmas.List.{length-take, length-drop, length-append, length-reverse}
use Rattle.std.proofs.lemmas.List.{length_push, get_or-take, get_or-drop, get_or_append_left}
use Rattle.std.proofs.lemmas.List.{get_or-append_right, get_or_push, get_or-reverse, get_or_default}
use Rattle.std.proofs.lemmas.List.Elements.{Contains-push, Contains-push_cases}
use Rattle.std.proofs.lemmas.List.Elements.{Contains-append_left}
use Rattle.lock_order.specs.declared.mutex_set.MutexSet.{MutexSet}
use Rattle.lock_order.specs.Chosen.{IsLowest, IsWalk, IsRing, next_in_ring}
use Rattle.lock_order.specs.MutexSets.{HasMutex, HasThose, set_where, IsHeldIn}
use Rattle.lock_order.proofs.Orders.{contains-or}

pub held-is : (nested : List MutexSet) (remaining : MutexSet) (mutex : ℕ) (low : Option ℕ)
    (held : ℕ) → low ≡ Some held → MatchOption low
    ((held : ℕ) → HasMutex (set_where nested mutex) held → ¬ HasMutex remaining held)
    (IsLowest (IsHeldIn nested remaining mutex)) → IsLowest (IsHeldIn nested remaining mutex) held
held-is nested remaining mutex low held e is =
    let P : Option ℕ → Type 0 = λ x. MatchOption x
    ((held : ℕ) → HasMutex (set_where nested mutex) held → ¬ HasMutex remaining held)
    (IsLowest (IsHeldIn nested remaining mutex)) in
    subst P e is

-- the walk so far, the mutexes that it hasn't come to, and the one that it comes to next
pub record Walking (nested : List MutexSet) (remaining : MutexSet) (first : ℕ) (walk : List ℕ)
    (fresh : MutexSet) (mutex : ℕ) : Type 0 where
  pub fresh_is : HasThose fresh (λ other. HasMutex remaining other × (¬ Contains walk other))
  pub here : HasMutex remaining mutex
  pub begins : 0 < length walk → get_or walk 0 0 ≡ first
  pub arrives_first : length walk ≡ 0 → mutex ≡ first
  pub arrives : 0 < length walk → IsLowest
      (IsHeldIn nested remaining (get_or walk (length walk - 1) 0)) mutex
  pub goes : (place : ℕ) → place + 1 < length walk
      → IsLowest (IsHeldIn nested remaining (get_or walk place 0)) (get_or walk (place + 1) 0)
  pub once : (one other : ℕ) → one < other → other < length walk
      → get_or walk one 0 ≢ get_or walk other 0

module _ (nested : List MutexSet) (remaining : MutexSet) (first : ℕ) (walk : List ℕ)
    (fresh : MutexSet) (mutex : ℕ) (so_far : Walking nested remaining first walk fresh mutex) where
  abbrev longer : List ℕ
  longer = walk ++ mutex ∷ []

  long : length longer ≡ length walk + 1
  long = length_push walk mutex

  old : (place : ℕ) → place < length walk → get_or longer place 0 ≡ get_or walk place 0
  old place within = get_or_append_left walk (mutex ∷ []) 0 place within

  new : (place : ℕ) → length walk ≡ place → get_or longer place 0 ≡ mutex
  new place last = get_or_push walk mutex 0 place last

  more-begins : get_or longer 0 0 ≡ first
  more-begins = elim (cases_eq (length walk) 0) [
    | inl none ↦ new 0 none ∙ so_far.arrives_first none
    | inr some ↦ old 0 (omega arith) ∙ so_far.begins (omega arith)
  ]

  more-goes : (place : ℕ) → place + 1 < length longer
      → IsLowest (IsHeldIn nested remaining (get_or longer place 0)) (get_or longer (place + 1) 0)
  more-goes place within =
      let longer_by = long in
      let P : ℕ → Type 0 = λ from. IsLowest (IsHeldIn nested remaining from)
      (get_or longer (place + 1) 0) in
      let Q : ℕ → Type 0 = λ to. IsLowest (IsHeldIn nested remaining (get_or walk place 0)) to in
      elim (cases_eq (place + 1) (length walk)) [
        | inl last ↦
            let e : length walk - 1 ≡ place = omega arith in
            let R : ℕ → Type 0 = λ k. IsLowest (IsHeldIn nested remaining (get_or walk k 0))
            mutex in
            subst P (sym (old place (omega arith)))
            (subst Q (sym (new (place + 1) (sym last)))
            (subst R e (so_far.arrives (omega arith))))
        | inr ne ↦ subst P (sym (old place (omega arith)))
            (subst Q (sym (old (place + 1) (omega arith))) (so_far.goes place (omega arith)))
      ]

  more-once : HasMutex fresh mutex → (one other : ℕ) → one < other → other < length longer
      → get_or longer one 0 ≢ get_or longer other 0
  more-once has one other lt within same =
      let longer_by = long in
      let at_one = old one (omega arith) in
      elim (cases_eq other (length walk)) [
        | inl last ↦
            let there : get_or walk one 0 ≡ mutex = sym at_one ∙ same ∙ new other (sym last) in
            ((so_far.fresh_is mutex).0 has).1
            (one, omega arith, get_or_default walk one mutex 0 (omega arith) ∙ there)
        | inr ne ↦ so_far.once one other lt (omega arith)
            (sym at_one ∙ same ∙ old other (omega arith))
      ]

  more-fresh : (fewer : MutexSet) → HasThose fewer (λ other. (other ≢ mutex) × HasMutex fresh other)
      → HasThose fewer (λ other. HasMutex remaining other × (¬ Contains longer other))
  more-fresh fewer without other = (
    λ has.
        let kept = (without other).0 has in
        let before = (so_far.fresh_is other).0 kept.1 in (
          before.0,
          λ contained. elim (Contains-push_cases walk mutex other contained) [
            | inl earlier ↦ before.1 earlier
            | inr now ↦ kept.0 (sym now)
          ],
        ),
    λ (left, absent). (without other).1 (
      λ same. absent (let P : ℕ → Type 0 = λ x. Contains longer x in
          subst P (sym same) (Contains-push walk mutex)),
      (so_far.fresh_is other).1 (
        left,
        λ earlier. absent (Contains-append_left walk (mutex ∷ []) other earlier),
      ),
    ),
  )

  walk-longer : (fewer : MutexSet) (next : ℕ) → HasMutex fresh mutex
      → HasThose fewer (λ other. (other ≢ mutex) × HasMutex fresh other)
      → IsLowest (IsHeldIn nested remaining mutex) next
      → Walking nested remaining first longer fewer next
  walk-longer fewer next has without is =
      let longer_by = long in
      record {
        fresh_is = more-fresh fewer without;
        here = is.holds.1;
        begins = λ some. more-begins;
        arrives_first = λ none. absurd (omega arith);
        arrives = λ some.
            let P : ℕ → Type 0 = λ from. IsLowest (IsHeldIn nested remaining from) next in
            subst P (sym (new (length longer - 1) (omega arith))) is;
        goes = more-goes;
        once = more-once has;
      }

  -- one mutex further
  pub walk-more : (walk' : List ℕ) (fewer : MutexSet) (next : ℕ) → walk' ≡ longer
      → HasMutex fresh mutex → HasThose fewer (λ other. (other ≢ mutex) × HasMutex fresh other)
      → IsLowest (IsHeldIn nested remaining mutex) next
      → Walking nested remaining first walk' fewer next
  walk-more walk' fewer next same has without is =
      let P : List ℕ → Type 0 = λ xs. Walking nested remaining first xs fewer next in
      subst P (sym same) (walk-longer fewer next has without is)

  -- the mutex that it comes to next is one that it has been at
  pub walk-repeats : ¬ HasMutex fresh mutex → Contains walk mutex
  walk-repeats stale = elim (contains-or walk mutex) [
    | inl has ↦ has
    | inr absent ↦ absurd (stale ((so_far.fresh_is mutex).1 (so_far.here, absent)))
  ]

  pub walk-ends : IsLowest (HasMutex remaining) first → (back : ℕ) → back < length walk
      → get_or walk back 0 ≡ mutex → IsWalk (HasMutex remaining) (IsHeldIn nested remaining) walk
      back
  walk-ends lowest back within there =
      let some : 0 < length walk = omega arith in
      let P : ℕ → Type 0 = λ n. IsLowest (HasMutex remaining) n in
      let Q : ℕ → Type 0 = λ n. IsLowest
      (IsHeldIn nested remaining (get_or walk (length walk - 1) 0)) n in
      record {
        begins = subst P (sym (so_far.begins some)) lowest;
        goes = so_far.goes;
        once = so_far.once;
        within = within;
        repeats = subst Q (sym there) (so_far.arrives some);
      }

-- ---- lists in which each item, and the last with the first, are in a relation
pub record IsLoop (R : ℕ → ℕ → Type 0) (xs : List ℕ) : Type 0 where
  pub joined : (place : ℕ) → place + 1 < length xs → R (get_or xs place 0) (get_or xs (place + 1) 0)
  pub closed : 0 < length xs → R (get_or xs (length xs - 1) 0) (get_or xs 0 0)

pub next_in-inside : (xs : List ℕ) (place : ℕ) → place + 1 < length xs
    → next_in_ring xs place ≡ get_or xs (place + 1) 0
next_in-inside xs place within =
    ap (λ b. get_or xs (cond b 0 (place + 1)) 0) (ne_eqb (place + 1) (length xs) (λ e. omega arith))

pub next_in-last : (xs : List ℕ) (place : ℕ) → place + 1 ≡ length xs
    → next_in_ring xs place ≡ get_or xs 0 0
next_in-last xs place last =
    ap (λ b. get_or xs (cond b 0 (place + 1)) 0) (eq-eqb (place + 1) (length xs) last)

loop-next : (R : ℕ → ℕ → Type 0) (xs : List ℕ) → IsLoop R xs → (place : ℕ) → place < length xs
    → R (get_or xs place 0) (next_in_ring xs place)
loop-next R xs loop place within =
    let P : ℕ → Type 0 = λ n. R (get_or xs place 0) n in
    elim (cases_eq (place + 1) (length xs)) [
      | inl last ↦
          let at : length xs - 1 ≡ place = omega arith in
          let Q : ℕ → Type 0 = λ k. R (get_or xs k 0) (get_or xs 0 0) in
          subst P (sym (next_in-last xs place last)) (subst Q at (loop.closed (omega arith)))
      | inr ne ↦ subst P (sym (next_in-inside xs place (omega arith)))
          (loop.joined place (omega arith))
    ]

two : (R : ℕ → ℕ → Type 0) (a b x y : ℕ) → a ≡ x → b ≡ y → R x y → R a b
two R a b x y p q r =
    let P : ℕ → Type 0 = λ n. R n b in
    let Q : ℕ → Type 0 = λ n. R x n in
    subst P (sym p) (subst Q (sym q) r)

-- read backwards
loop-reverse : (R : ℕ → ℕ → Type 0) (xs : List ℕ) → IsLoop R xs → IsLoop (λ a b. R b a) (reverse xs)
loop-reverse R xs loop =
    let long = length-reverse xs in
    record {
      joined = λ place within.
          let k : ℕ = length xs - 1 - (place + 1) in
          let e : length xs - 1 - place ≡ k + 1 = omega arith in
          two R (get_or (reverse xs) (place + 1) 0) (get_or (reverse xs) place 0) (get_or xs k 0)
          (get_or xs (k + 1) 0)
          (get_or-reverse xs (place + 1) 0 (omega arith))
          (get_or-reverse xs place 0 (omega arith) ∙ ap (λ n. get_or xs n 0) e)
          (loop.joined k (omega arith));
      closed = λ some.
          let e : length xs - 1 - (length (reverse xs) - 1) ≡ 0 = omega arith in
          let f : length xs - 1 - 0 ≡ length xs - 1 = omega arith in
          two R (get_or (reverse xs) 0 0) (get_or (reverse xs) (length (reverse xs) - 1) 0)
          (get_or xs (length xs - 1) 0) (get_or xs 0 0)
          (get_or-reverse xs 0 0 (omega arith) ∙ ap (λ n. get_or xs n 0) f)
          (get_or-reverse xs (length (reverse xs) - 1) 0 (omega arith) ∙ ap (λ n. get_or xs n 0) e)
          (loop.closed (omega arith));
    }

-- begun at another place
module _ (xs : List ℕ) (turn : ℕ) (within : turn < length xs) where
  abbrev pub turned : List ℕ
  turned = drop turn xs ++ take turn xs

  front : length (drop turn xs) ≡ length xs - turn
  front = length-drop turn xs

  pub length-turned : length turned ≡ length xs
  length-turned =
      let whole = length-append (drop turn xs) (take turn xs) in
      let one = front in
      let other = length-take turn xs in
      omega arith

  turned-front : (k place : ℕ) → turn + k ≡ place → place < length xs
      → get_or turned k 0 ≡ get_or xs place 0
  turned-front k place e low =
      let one = front in
      get_or_append_left (drop turn xs) (take turn xs) 0 k (omega arith) ∙ get_or-drop turn xs k 0
      ∙ ap (λ n. get_or xs n 0) e

  turned-back : (k place : ℕ) → place + (length xs - turn) ≡ k → place < turn
      → get_or turned k 0 ≡ get_or xs place 0
  turned-back k place e low =
      let one = front in
      let f : k - (length xs - turn) ≡ place = omega arith in
      get_or-append_right (drop turn xs) (take turn xs) (length xs - turn) k 0 one (omega arith)
      ∙ ap (λ n. get_or (take turn xs) n 0) f ∙ get_or-take turn xs place 0 low

  loop-turn : (R : ℕ → ℕ → Type 0) → IsLoop R xs → IsLoop R turned
  loop-turn R loop =
      let whole = length-turned in
      record {
        joined = λ place low. elim (cases_lt (turn + place + 1) (length xs)) [
          | inl inside ↦ two R (get_or turned place 0) (get_or turned (place + 1) 0)
              (get_or xs (turn + place) 0) (get_or xs (turn + place + 1) 0)
              (turned-front place (turn + place) refl (omega arith))
              (turned-front (place + 1) (turn + place + 1) (omega arith) inside)
              (loop.joined (turn + place) inside)
          | inr past ↦ elim (cases_eq (turn + place + 1) (length xs)) [
            | inl last ↦ two R (get_or turned place 0) (get_or turned (place + 1) 0)
                (get_or xs (length xs - 1) 0) (get_or xs 0 0)
                (turned-front place (length xs - 1) (omega arith) (omega arith))
                (turned-back (place + 1) 0 (omega arith) (omega arith))
                (loop.closed (omega arith))
            | inr ne ↦
                let k : ℕ = turn + place - length xs in
                two R (get_or turned place 0) (get_or turned (place + 1) 0) (get_or xs k 0)
                (get_or xs (k + 1) 0)
                (turned-back place k (omega arith) (omega arith))
                (turned-back (place + 1) (k + 1) (omega arith) (omega arith))
                (loop.joined k (omega arith))
          ]
        ];
        closed = λ some. elim (cases_eq turn 0) [
          | inl none ↦ two R (get_or turned (length turned - 1) 0) (get_or turned 0 0)
              (get_or xs (length xs - 1) 0) (get_or xs 0 0)
              (turned-front (length turned - 1) (length xs - 1) (omega arith) (omega arith))
              (turned-front 0 0 (omega arith) (omega arith))
              (loop.closed (omega arith))
          | inr ne ↦
              let k : ℕ = turn - 1 in
              let e : k + 1 ≡ turn = omega arith in
              two R (get_or turned (length turned - 1) 0) (get_or turned 0 0) (get_or xs k 0)
              (get_or xs (k + 1) 0)
              (turned-back (length turned - 1) k (omega arith) (omega arith))
              (turned-front 0 (k + 1) (omega arith) (omega arith))
              (loop.joined k (omega arith))
        ];
      }

  -- what stands at a place, and where it stands now
  pub turned-place : (place : ℕ) → place < length xs
      → (k : ℕ) × (k < length turned) × (get_or turned k 0 ≡ get_or xs place 0)
  turned-place place low =
      let whole = length-turned in
      elim (cases_lt place turn) [
        | inl lt ↦ (
          place + (length xs - turn),
          omega arith,
          turned-back (place + (length xs - turn)) place refl lt,
        )
        | inr ge ↦ (place - turn, omega arith, turned-front (place - turn) place (omega arith) low)
      ]

  pub turned-begin : get_or turned 0 0 ≡ get_or xs turn 0
  turned-begin = turned-front 0 turn (omega arith) within

  turned-lowest : ((place : ℕ) → place < length xs → get_or xs turn 0 ≤ get_or xs place 0)
      → (place : ℕ) → place < length turned → get_or turned 0 0 ≤ get_or turned place 0
  turned-lowest lowest place low =
      let whole = length-turned in
      let first = turned-front 0 turn (omega arith) within in
      elim (cases_lt (turn + place) (length xs)) [
        | inl inside ↦
            let there = turned-front place (turn + place) refl inside in
            let least = lowest (turn + place) inside in
            omega arith
        | inr past ↦
            let k : ℕ = turn + place - length xs in
            let there = turned-back place k (omega arith) (omega arith) in
            let least = lowest k (omega arith) in
            omega arith
      ]

pub ring-is : (part backwards ring : List ℕ) (turn : ℕ) → backwards ≡ reverse part
    → ring ≡ drop turn backwards ++ take turn backwards → turn < length backwards
    → ((place : ℕ) → place < length backwards → get_or backwards turn 0 ≤ get_or backwards place 0)
    → IsRing part ring
ring-is part backwards ring turn is turned_is within lowest =
    let long : length backwards ≡ length part = ap length is ∙ length-reverse part in
    let P : List ℕ → Type 0 = λ xs. (place : ℕ) → place < length xs
    → get_or xs 0 0 ≤ get_or xs place 0 in
    record {
      turn = turn;
      within = omega arith;
      turned = turned_is ∙ ap (λ xs. drop turn xs ++ take turn xs) is;
      lowest = subst P (sym turned_is) (turned-lowest backwards turn within lowest);
    }

pub length-ring : (part ring : List ℕ) → IsRing part ring → length ring ≡ length part
length-ring part ring is =
    let long = length-reverse part in
    let inside = is.within in
    ap length is.turned ∙ length-turned (reverse part) is.turn (omega arith) ∙ long

-- ---- the ring of a walk
module _ (IsLeft : ℕ → Type 0) (IsHeldAt : ℕ → ℕ → Type 0) (walk : List ℕ) (back : ℕ)
    (walked : IsWalk IsLeft IsHeldAt walk back) where
  part-loop : IsLoop IsHeldAt (drop back walk)
  part-loop =
      let long = length-drop back walk in
      let inside = walked.within in
      record {
        joined = λ place low.
            two IsHeldAt (get_or (drop back walk) place 0) (get_or (drop back walk) (place + 1) 0)
            (get_or walk (back + place) 0) (get_or walk (back + place + 1) 0)
            (get_or-drop back walk place 0)
            (get_or-drop back walk (place + 1) 0 ∙ ap (λ n. get_or walk n 0) (omega arith))
            (walked.goes (back + place) (omega arith)).holds;
        closed = λ some.
            two IsHeldAt (get_or (drop back walk) (length (drop back walk) - 1) 0)
            (get_or (drop back walk) 0 0) (get_or walk (length walk - 1) 0) (get_or walk back 0)
            (get_or-drop back walk (length (drop back walk) - 1) 0
            ∙ ap (λ n. get_or walk n 0) (omega arith))
            (get_or-drop back walk 0 0 ∙ ap (λ n. get_or walk n 0) (omega arith))
            walked.repeats.holds;
      }

  -- each mutex of the ring is held where the next one is taken
  pub ring-next : (ring : List ℕ) → IsRing (drop back walk) ring → (place : ℕ) → place < length ring
      → IsHeldAt (next_in_ring ring place) (get_or ring place 0)
  ring-next ring is =
      let long = length-reverse (drop back walk) in
      let inside = is.within in
      let loop = loop-turn (reverse (drop back walk)) is.turn (omega arith) (λ a b. IsHeldAt b a)
      (loop-reverse IsHeldAt (drop back walk) part-loop) in
      let P : List ℕ → Type 0 = λ xs. (place : ℕ) → place < length xs
      → IsHeldAt (next_in_ring xs place) (get_or xs place 0) in
      subst P (sym is.turned) (loop-next (λ a b. IsHeldAt b a)
      (turned (reverse (drop back walk)) is.turn (omega arith)) loop)

-- a walk comes to mutexes that are left alone
pub walk-left : (nested : List MutexSet) (remaining : MutexSet) (walk : List ℕ) (back : ℕ)
    → IsWalk (HasMutex remaining) (IsHeldIn nested remaining) walk back → (place : ℕ)
    → place < length walk → HasMutex remaining (get_or walk place 0)
walk-left nested remaining walk back walked zero within = walked.begins.holds
walk-left nested remaining walk back walked (suc place) within =
    let e : place + 1 ≡ suc place = add-one place in
    let P : ℕ → Type 0 = λ k. HasMutex remaining (get_or walk k 0) in
    subst P e (walked.goes place (omega arith)).holds.1
