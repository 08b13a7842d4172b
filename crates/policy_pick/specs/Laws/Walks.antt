-- The walks over the threads: where they stop, and that a stop stays.
use Rattle.std.proofs.Common.{◌≡◌, ℕ, zero, suc, ◌<◌, ◌≤◌, Bool, true, false, not, ◌&&◌, ◌||◌, leb}
use Rattle.std.proofs.Common.{List, length, get_or, Some, None, refl, sym, ap, subst, ◌∙◌, arith}
use Rattle.std.proofs.Common.{◌⊎◌, inl, inr}
use Rattle.std.specs.List.{find, list_all}
use Rattle.std.proofs.lemmas.Bool.{cases_lt, cases_eq, and_parts}
use Rattle.std.proofs.lemmas.Bool.Decides.{nat_tests}
use Rattle.policy_pick.specs.declared.chance.Chance.{Chance}
use Rattle.policy_pick.specs.declared.chance.Chance.TheVariants.{Ready}
use Rattle.policy_pick.specs.declared.chance.Pick.{Pick}
use Rattle.policy_pick.specs.declared.chance.Pick.TheVariants.{Thread, Nobody, Departs}
use Rattle.policy_pick.specs.Plan.{Plan}
use Rattle.policy_pick.specs.Choice.{MayDepart, chance_of, is_open, is_known, pick_at, pick_of_walk}
use Rattle.policy_pick.specs.Choice.{threads_of_chances, is_highest, choice_by_rank}
use Rattle.policy_pick.specs.Choice.{choice_by_number}
use Rattle.policy_pick.specs.Choice.{TargetsAreAway, IsSoundPick, IsWaits, KeepsKnown}
use Rattle.policy_pick.specs.Laws.Finds.{find-is, find-none, found-or-none, IsFirstMatch, all-below}
use Rattle.policy_pick.specs.Laws.Finds.{all-from-below}
use Rattle.policy_pick.specs.Laws.Chances.{open-ready, sound-at, open-before, closed-after}

le-from : (goes : Bool) (low high : ℕ) → (not goes || leb low high) ≡ true → goes ≡ true
    → low ≤ high
le-from true low high e p = grind (arith, nat_tests)
le-from false low high e p = cc

from-le : (goes : Bool) (low high : ℕ) → (goes ≡ true → low ≤ high)
    → (not goes || leb low high) ≡ true
from-le true low high h = let le : low ≤ high = h refl in grind (arith, nat_tests)
from-le false low high h = refl

and-both : (a b : Bool) → a ≡ true → b ≡ true → (a && b) ≡ true
and-both true b e f = f
and-both false b e f = cc

abbrev pub open_at : List Chance → ℕ → Bool
open_at chances thread = is_open (chance_of chances thread)

-- no open thread has a greater rank
abbrev pub Leads : List ℕ → List Chance → ℕ → Type 0
Leads ranks chances thread =
    (other : ℕ) → other < length chances → open_at chances other ≡ true
    → get_or ranks other 0 ≤ get_or ranks thread 0

pub highest-parts : (ranks : List ℕ) (chances : List Chance) (thread : ℕ)
    → is_highest ranks chances thread ≡ true
    → (open_at chances thread ≡ true) × Leads ranks chances thread
highest-parts ranks chances thread e =
    let test : ℕ → Bool = λ other.
    not (open_at chances other) || leb (get_or ranks other 0) (get_or ranks thread 0) in
    let both =
    and_parts (open_at chances thread) (list_all test (threads_of_chances chances)) e in (
      both.0,
      λ other within goes. le-from (open_at chances other) (get_or ranks other 0)
          (get_or ranks thread 0) (all-below test (length chances) both.1 other within) goes,
    )

pub highest-from : (ranks : List ℕ) (chances : List Chance) (thread : ℕ)
    → open_at chances thread ≡ true → Leads ranks chances thread
    → is_highest ranks chances thread ≡ true
highest-from ranks chances thread goes leads =
    let test : ℕ → Bool = λ other.
    not (open_at chances other) || leb (get_or ranks other 0) (get_or ranks thread 0) in
    and-both (open_at chances thread) (list_all test (threads_of_chances chances)) goes
    (all-from-below test (length chances) (λ other within.
    from-le (open_at chances other) (get_or ranks other 0) (get_or ranks thread 0)
    (leads other within)))

pub closed-not-highest : (ranks : List ℕ) (chances : List Chance) (thread : ℕ)
    → open_at chances thread ≡ false → is_highest ranks chances thread ≡ false
closed-not-highest ranks chances thread closed =
    ap
    (λ b.
    b
    && list_all
    (λ other. not (open_at chances other) || leb (get_or ranks other 0) (get_or ranks thread 0))
    (threads_of_chances chances)) closed

pub false-by : (b : Bool) → (b ≡ true → ⊥) → b ≡ false
false-by true h = absurd (h refl)
false-by false h = refl

-- ---- below any number some open thread leads, unless none is open
abbrev Best : (ℕ → Bool) → (ℕ → ℕ) → ℕ → Type 0
Best goes rank many =
    ((k : ℕ) → k < many → goes k ≡ false)
    ⊎ ((best : ℕ)
    × (best < many)
    × (goes best ≡ true)
    × ((k : ℕ) → k < many → goes k ≡ true → rank k ≤ rank best))

best-by : (goes : ℕ → Bool) (rank : ℕ → ℕ) (many : ℕ) (b : Bool) → goes many ≡ b
    → Best goes rank many → Best goes rank (suc many)
best-by goes rank many false is rest = elim rest [
  | inl none ↦
      inl (λ k p. elim (cases_eq k many) [ inl e ↦ ap goes e ∙ is | inr ne ↦ none k (omega arith) ])
  | inr w ↦
      inr (
        w.0,
        omega (arith, w.1),
        w.2,
        λ k p o.
            elim (cases_eq k many) [
              | inl e ↦ absurd (let a : goes many ≡ true = sym (ap goes e) ∙ o in cc)
              | inr ne ↦ w.3 k (omega arith) o
            ],
      )
]
best-by goes rank many true is rest = elim rest [
  | inl none ↦
      inr (
        many,
        omega arith,
        is,
        λ k p o.
            elim (cases_eq k many) [
              | inl e ↦ let same = ap rank e in omega arith
              | inr ne ↦ absurd (let a = none k (omega arith) in cc)
            ],
      )
  | inr w ↦ elim (cases_lt (rank w.0) (rank many)) [
    | inl lt ↦
        inr (
          many,
          omega arith,
          is,
          λ k p o.
              elim (cases_eq k many) [
                | inl e ↦ let same = ap rank e in omega arith
                | inr ne ↦ let le = w.3 k (omega arith) o in omega arith
              ],
        )
    | inr ge ↦
        inr (
          w.0,
          omega (arith, w.1),
          w.2,
          λ k p o.
              elim (cases_eq k many)
              [ inl e ↦ let same = ap rank e in omega arith | inr ne ↦ w.3 k (omega arith) o ],
        )
  ]
]

best : (goes : ℕ → Bool) (rank : ℕ → ℕ) (many : ℕ) → Best goes rank many
best goes rank zero = inl (λ k p. absurd (omega arith))
best goes rank (suc many) = best-by goes rank many (goes many) refl (best goes rank many)

-- where no thread is the highest, none is open
none-open : (ranks : List ℕ) (chances : List Chance)
    → ((k : ℕ) → k < length chances → is_highest ranks chances k ≡ false) → (k : ℕ)
    → k < length chances → open_at chances k ≡ false
none-open ranks chances none k within =
    elim (best (open_at chances) (λ t. get_or ranks t 0) (length chances)) [
      | inl closed ↦ closed k within
      | inr w ↦
          absurd (let a = highest-from ranks chances w.0 w.2 w.3 in let b = none w.0 w.1 in cc)
    ]

-- ---- the walk by falling rank
pub rank-stops : (ranks : List ℕ) (chances : List Chance) (thread : ℕ)
    → find (is_highest ranks chances) (threads_of_chances chances) ≡ Some thread
    → choice_by_rank ranks chances ≡ pick_at (Thread thread) thread (chance_of chances thread)
unfolding choice_by_rank
rank-stops ranks chances thread is = ap (pick_of_walk Thread chances) is

pub rank-ends : (ranks : List ℕ) (chances : List Chance)
    → find (is_highest ranks chances) (threads_of_chances chances) ≡ None
    → choice_by_rank ranks chances ≡ Nobody
unfolding choice_by_rank
rank-ends ranks chances is = ap (pick_of_walk Thread chances) is

module _ (ranks : List ℕ) (earlier later : List Chance) (keeps : KeepsKnown earlier later) where
  within-later : (thread : ℕ) → thread < length later → thread < length earlier
  within-later thread p = omega (arith, keeps.threads)

  rank-keeps-at : (thread : ℕ) → IsFirstMatch (is_highest ranks earlier) (length earlier) thread
      → chance_of earlier thread ≡ Ready
      → find (is_highest ranks later) (threads_of_chances later) ≡ Some thread
  rank-keeps-at thread first ready =
      let leads = (highest-parts ranks earlier thread first.passes).1 in
      let same = keeps.known thread first.within (ap is_known ready) in
      let goes : open_at later thread ≡ true = ap is_open (same ∙ ready) in
      let there : thread < length later = omega (arith, keeps.threads, first.within) in
      find-is (is_highest ranks later) 0 (length later) thread (omega arith) (omega arith)
      (highest-from ranks later thread goes (λ other p o.
      leads other (within-later other p)
      (open-before earlier later other keeps (within-later other p) o)))
      (λ k p q. false-by (is_highest ranks later k) (λ h.
      let parts = highest-parts ranks later k h in
      let here : k < length earlier = omega (arith, first.within) in
      let was = highest-from ranks earlier k (open-before earlier later k keeps here parts.0)
      (λ other w o.
      let a = leads other w o in let b = parts.1 thread there goes in omega arith) in
      let not = first.before k q in
      cc))

  -- a choice that waits for nobody stays
  pub rank-keeps : ¬ IsWaits (choice_by_rank ranks earlier)
      → choice_by_rank ranks later ≡ choice_by_rank ranks earlier
  rank-keeps waits = elim (found-or-none (is_highest ranks earlier) (length earlier)) [
    | inl w ↦
        let thread = w.0 in
        let was = rank-stops ranks earlier thread w.1 in
        let P : Pick → Type 0 = λ p. ¬ IsWaits p in
        let ready = open-ready (Thread thread) thread (chance_of earlier thread)
        (highest-parts ranks earlier thread w.2.passes).0 (subst P was waits) in
        let same = keeps.known thread w.2.within (ap is_known ready) in
        rank-stops ranks later thread (rank-keeps-at thread w.2 ready)
        ∙ ap (pick_at (Thread thread) thread) same ∙ sym was
    | inr w ↦
        let closed = none-open ranks earlier w.1 in
        rank-ends ranks later
        (find-none (is_highest ranks later) 0 (length later)
        (λ k p q.
        closed-not-highest ranks later k
        (closed-after earlier later k keeps (within-later k (omega arith))
        (closed k (within-later k (omega arith)))))) ∙ sym (rank-ends ranks earlier w.0)
  ]

pub rank-sound : (plan : Plan) (ranks : List ℕ) (chances : List Chance) → TargetsAreAway chances
    → IsSoundPick plan chances (choice_by_rank ranks chances)
rank-sound plan ranks chances targets =
    let P : Pick → Type 0 = IsSoundPick plan chances in
    elim (found-or-none (is_highest ranks chances) (length chances)) [
      | inl w ↦
          subst P (sym (rank-stops ranks chances w.0 w.1))
          (sound-at plan chances (Thread w.0) w.0 w.2.within (λ ready. (w.2.within, ready))
          (λ closed. absurd (let goes = (highest-parts ranks chances w.0 w.2.passes).0 in cc))
          (targets w.0 w.2.within))
      | inr w ↦ subst P (sym (rank-ends ranks chances w.0)) (none-open ranks chances w.1)
    ]

-- ---- the walk by rising number
pub number-stops : (chances : List Chance) (thread : ℕ)
    → find (open_at chances) (threads_of_chances chances) ≡ Some thread
    → choice_by_number chances ≡ pick_at (Departs thread) thread (chance_of chances thread)
unfolding choice_by_number
number-stops chances thread is = ap (pick_of_walk Departs chances) is

pub number-ends : (chances : List Chance)
    → find (open_at chances) (threads_of_chances chances) ≡ None
    → choice_by_number chances ≡ Nobody
unfolding choice_by_number
number-ends chances is = ap (pick_of_walk Departs chances) is

pub number-keeps : (earlier later : List Chance) → KeepsKnown earlier later
    → ¬ IsWaits (choice_by_number earlier) → choice_by_number later ≡ choice_by_number earlier
number-keeps earlier later keeps waits = elim (found-or-none (open_at earlier) (length earlier)) [
  | inl w ↦
      let thread = w.0 in
      let was = number-stops earlier thread w.1 in
      let P : Pick → Type 0 = λ p. ¬ IsWaits p in
      let ready = open-ready (Departs thread) thread (chance_of earlier thread) w.2.passes
      (subst P was waits) in
      let same = keeps.known thread w.2.within (ap is_known ready) in
      let found = find-is (open_at later) 0 (length later) thread (omega arith)
      (omega (arith, w.2.within, keeps.threads)) (ap is_open (same ∙ ready))
      (λ k p q.
      closed-after earlier later k keeps (omega (arith, w.2.within)) (w.2.before k q)) in
      number-stops later thread found ∙ ap (pick_at (Departs thread) thread) same ∙ sym was
  | inr w ↦
      number-ends later
      (find-none (open_at later) 0 (length later)
      (λ k p q.
      closed-after earlier later k keeps (omega (arith, keeps.threads))
      (w.1 k (omega (arith, keeps.threads))))) ∙ sym (number-ends earlier w.0)
]

pub number-sound : (plan : Plan) (chances : List Chance) → MayDepart plan → TargetsAreAway chances
    → IsSoundPick plan chances (choice_by_number chances)
number-sound plan chances departs targets =
    let P : Pick → Type 0 = IsSoundPick plan chances in
    elim (found-or-none (open_at chances) (length chances)) [
      | inl w ↦
          subst P (sym (number-stops chances w.0 w.1))
          (sound-at plan chances (Departs w.0) w.0 w.2.within (λ ready. (departs, w.2.within))
          (λ closed. departs) (targets w.0 w.2.within))
      | inr w ↦ subst P (sym (number-ends chances w.0)) w.1
    ]
