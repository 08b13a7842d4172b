-- The walk by falling value as the code goes it.
use Rattle.std.proofs.Common.{◌≡◌, ℕ, suc, ◌<◌, ◌≤◌, true, false, List, length, get_or}
use Rattle.std.proofs.Common.{arith, inl, inr}
use Rattle.std.proofs.lemmas.Bool.{cases_lt, cases_eq}
use Rattle.rank_now.specs.Ranking.{AreDistinctValues, HasValue}
use Rattle.policy_pick.specs.declared.chance.Chance.{Chance}
use Rattle.policy_pick.specs.declared.chance.Pick.TheVariants.{Thread, Nobody}
use Rattle.policy_pick.specs.Choice.{chance_of, pick_at, is_highest, choice_by_rank}
use Rattle.policy_pick.specs.Laws.Finds.{find-is, find-none}
use Rattle.policy_pick.specs.Laws.Walks.{open_at, Leads, highest-parts, highest-from}
use Rattle.policy_pick.specs.Laws.Walks.{closed-not-highest, false-by, rank-stops, rank-ends}

-- each thread with a greater value was passed over
abbrev pub Passed : List ℕ → List Chance → ℕ → Type 0
Passed values chances value = (other : ℕ) → other < length values → value < get_or values other 0
    → open_at chances other ≡ false

module _ (values : List ℕ) (chances : List Chance) (threads : length chances ≡ length values) where
  pub passed-none : (greatest : ℕ)
      → ((other : ℕ) → other < length values → get_or values other 0 ≤ greatest)
      → Passed values chances greatest
  passed-none greatest bound other within above = absurd (omega (arith, bound other within))

  -- where nobody who has the value is open
  pub passed-more : (value next : ℕ) → value ≡ suc next
      → ((other : ℕ) → HasValue values value other → open_at chances other ≡ false)
      → Passed values chances value → Passed values chances next
  passed-more value next down closed passed other within above =
      elim (cases_eq (get_or values other 0) value) [
        | inl e ↦ closed other (record { within = within; has = e })
        | inr ne ↦ passed other within (omega arith)
      ]

  pub passed-all : (value : ℕ) → value ≡ 0
      → ((other : ℕ) → other < length values → 1 ≤ get_or values other 0)
      → Passed values chances value → choice_by_rank values chances ≡ Nobody
  passed-all value none positive passed =
      rank-ends values chances (find-none (is_highest values chances) 0 (length chances)
      (λ k p q. closed-not-highest values chances k
      (passed k (omega arith) (omega (arith, positive k (omega arith))))))

  pub passed-stops : (value thread : ℕ) → HasValue values value thread → AreDistinctValues values
      → Passed values chances value → open_at chances thread ≡ true
      → choice_by_rank values chances
      ≡ pick_at (Thread thread) thread (chance_of chances thread)
  passed-stops value thread has distinct passed goes =
      let leads : Leads values chances thread =
      λ other within o. elim (cases_lt (get_or values thread 0) (get_or values other 0)) [
        | inl lt ↦ absurd (let closed = passed other (omega arith) (omega (arith, has.has)) in cc)
        | inr ge ↦ ge
      ] in
      rank-stops values chances thread
      (find-is (is_highest values chances) 0 (length chances) thread (omega arith)
      (omega (arith, has.within)) (highest-from values chances thread goes leads)
      (λ k p q. false-by (is_highest values chances k) (λ h.
      let parts = highest-parts values chances k h in
      let here : k < length values = omega (arith, has.within) in
      let le = parts.1 thread (omega (arith, has.within)) goes in
      let ge = leads k (omega arith) parts.0 in
      let is = distinct k thread here has.within (omega arith) in
      omega arith)))
