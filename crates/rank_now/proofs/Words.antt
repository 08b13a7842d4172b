-- The words of bits that name the threads of greater value.
use Rattle.std.proofs.Common.{◌≡◌, ◌≢◌, ℕ, ◌+◌, ◌-◌, ◌^◌, ◌<◌, ◌≤◌, ◌↔◌, Bool, cond}
use Rattle.std.proofs.Common.{nat_lt, List, length, get_or, set, map, sym, ap, ◌∙◌, inl, inr}
use Rattle.std.proofs.Common.{arith, w64, eqb, eqb-true}
use Rattle.std.specs.Int.{bit_at, trailing_zeros}
use Rattle.std.specs.Prelude.{bit_and}
use Rattle.std.proofs.lemmas.Bool.{cases_lt, cases_eq, lt-ltb, le-ltb}
use Rattle.std.proofs.lemmas.List.{get_or-set_other, get_or-set_same, get_or_past, length-set}
use Rattle.std.proofs.lemmas.List.FromFn.{length-map-range_with_len, get_or-map-range_with_len}
use Rattle.std.proofs.lemmas.List.Sums.{passes_at_first}
use Rattle.std.proofs.lemmas.Nat.{and_le_r}
use Rattle.std.proofs.lemmas.Nat.Bits.{bit_at_and, bit_at-lt, bit_at-zero, bit_at-trailing_zeros}
use Rattle.rank_now.specs.Order.{IsOrder}
use Rattle.rank_now.specs.Rank.{place_in_order, threads_of}
use Rattle.rank_now.specs.Ranking.{AreAbove, AreAboveButOne}
use Rattle.rank_now.proofs.laws.Orders.{named}

-- 1 for true, and 0 for false
abbrev pub bit_of : Bool → ℕ
bit_of b = cond b 1 0

bit-lt : (a b : ℕ) → a < b → bit_of (nat_lt a b) ≡ 1
bit-lt a b lt = ap bit_of (lt-ltb a b lt)

bit-le : (a b : ℕ) → b ≤ a → bit_of (nat_lt a b) ≡ 0
bit-le a b le = ap bit_of (le-ltb a b le)

-- two orders that agree give one bit
bit-same : (a b c d : ℕ) → (a < b) ↔ (c < d) → bit_of (nat_lt a b) ≡ bit_of (nat_lt c d)
bit-same a b c d agree = elim (cases_lt a b) [
  | inl lt ↦ bit-lt a b lt ∙ sym (bit-lt c d (agree.0 lt))
  | inr le ↦ elim (cases_lt c d) [
    | inl lt ↦ absurd (let before = agree.1 lt in omega arith)
    | inr ge ↦ bit-le a b le ∙ sym (bit-le c d ge)
  ]
]

-- ---- no thread of some bits has a greater value
module _ (values above : List ℕ) (thread others : ℕ) (few : length values ≤ 64)
    (within : thread < length values) (are : AreAbove values above)
    (small : others < 2 ^ 64) where
  abbrev word : ℕ
  word = get_or above thread 0

  none-greater : bit_and word others ≡ 0 → (other : ℕ) → other < length values
      → bit_at others other ≡ 1 → get_or values other 0 ≤ get_or values thread 0
  none-greater none other there is =
      elim (cases_lt (get_or values thread 0) (get_or values other 0)) [
        | inl lt ↦
            let one : bit_at word other ≡ 1 =
            are.says thread other within (omega arith)
            ∙ bit-lt (get_or values thread 0) (get_or values other 0) lt in
            let gone : bit_at (bit_and word others) other ≡ 0 =
            ap (λ w. bit_at w other) none ∙ bit_at-zero other in
            absurd (omega (arith, bit_at_and word others other, one, is, gone))
        | inr ge ↦ ge
      ]

  no-bit : ((other : ℕ) → other < length values → bit_at others other ≡ 1
      → get_or values other 0 ≤ get_or values thread 0) → bit_and word others ≡ 0
  no-bit none = elim (cases_eq (bit_and word others) 0) [
    | inl e ↦ e
    | inr some ↦
        let both = bit_and word others in
        let lowest = bit_at-trailing_zeros w64 both (omega (arith, some))
        (omega (arith, small, and_le_r word others)) in
        let k = trailing_zeros w64 both in
        let split = bit_at_and word others k in
        let own = bit_at-lt word k in
        let its = bit_at-lt others k in
        let first : bit_at word k ≡ 1 = omega (arith, split, own, its, lowest.1) in
        let second : bit_at others k ≡ 1 = omega (arith, split, own, its, lowest.1) in
        let says = are.says thread k within lowest.0 in
        absurd (elim (cases_lt (get_or values thread 0) (get_or values k 0)) [
          | inl lt ↦ elim (cases_lt k (length values)) [
            | inl there ↦ omega (arith, none k there second, lt)
            | inr past ↦ omega (arith, get_or_past values k 0 past, lt)
          ]
          | inr ge ↦
              omega (arith, says, first, bit-le (get_or values thread 0) (get_or values k 0) ge)
        ])
  ]

  pub outranks-is : (bit_and word others ≡ 0)
      ↔ ((other : ℕ) → other < length values → bit_at others other ≡ 1
      → get_or values other 0 ≤ get_or values thread 0)
  outranks-is = (none-greater, no-bit)

-- ---- before the first step
-- Of the first threads of the order each has a word, whose bits name those before it, and a last
-- word names all of them.
pub record AreBefore (order : List ℕ) (many : ℕ) (above : List ℕ) (before : ℕ) : Type 0 where
  pub threads : length above ≡ length order
  pub words : (place other : ℕ) → place < many → other < 64
      → bit_at (get_or above (get_or order place 0) 0) other
      ≡ bit_of (nat_lt (place_in_order order other) place)
  pub all : (other : ℕ) → other < 64
      → bit_at before other ≡ bit_of (nat_lt (place_in_order order other) many)

-- who stands at the place of a thread, wherever that is one of the order's
stands : (order : List ℕ) (thread : ℕ) → place_in_order order thread < length order
    → get_or order (place_in_order order thread) 0 ≡ thread
stands order thread there =
    eqb-true (get_or order (place_in_order order thread) 0) thread
    (passes_at_first (λ other. eqb other thread) order 0 there)

module _ (order : List ℕ) (is : IsOrder order) where
  place-of : (place : ℕ) → place < length order
      → place_in_order order (get_or order place 0) ≡ place
  place-of place within =
      let thread = get_or order place 0 in
      let at = named order is thread (is.below place within) in
      elim (cases_lt (place_in_order order thread) place) [
        | inl lt ↦ absurd (is.once (place_in_order order thread) place lt within at.1)
        | inr ge ↦ elim (cases_lt place (place_in_order order thread)) [
          | inl lt ↦ absurd (is.once place (place_in_order order thread) lt at.0 (sym at.1))
          | inr le ↦ omega arith
        ]
      ]

  pub before-none : (above : List ℕ) → length above ≡ length order → AreBefore order 0 above 0
  before-none above long = record {
    threads = long;
    words = λ place other small low. absurd (omega arith);
    all = λ other low.
        bit_at-zero other ∙ sym (bit-le (place_in_order order other) 0 (omega arith));
  }

  pub before-more : (many : ℕ) (above : List ℕ) (before next : ℕ) → many < length order
      → bit_at next (get_or order many 0) ≡ 1
      → ((u : ℕ) → u ≢ get_or order many 0 → bit_at next u ≡ bit_at before u)
      → AreBefore order many above before
      → AreBefore order (many + 1) (set above (get_or order many 0) before) next
  before-more many above before next within own others was =
      let thread = get_or order many 0 in
      let there : thread < length above = omega (arith, is.below many within, was.threads) in
      record {
        threads = length-set above thread before ∙ was.threads;
        words = λ place other small low. elim (cases_eq place many) [
          | inl same ↦
              ap (λ p. bit_at (get_or (set above thread before) (get_or order p 0) 0) other) same
              ∙ ap (λ w. bit_at w other) (get_or-set_same above thread before 0 there)
              ∙ was.all other low
              ∙ ap (λ p. bit_of (nat_lt (place_in_order order other) p)) (sym same)
          | inr apart ↦
              ap (λ w. bit_at w other)
              (get_or-set_other above thread (get_or order place 0) before 0
              (is.once place many (omega arith) within))
              ∙ was.words place other (omega arith) low
        ];
        all = λ other low. elim (cases_eq other thread) [
          | inl same ↦
              ap (bit_at next) same ∙ own
              ∙ sym (bit-lt (place_in_order order other) (many + 1)
              (let at = ap (place_in_order order) same ∙ place-of many within in omega arith))
          | inr apart ↦
              others other apart ∙ was.all other low
              ∙ bit-same (place_in_order order other) many (place_in_order order other) (many + 1) (
                (λ lt. omega arith),
                λ le. elim (cases_eq (place_in_order order other) many) [
                  | inl e ↦
                      absurd (apart (sym (stands order other (omega arith))
                      ∙ ap (λ p. get_or order p 0) e))
                  | inr ne ↦ omega arith
                ],
              )
        ];
      }

  -- the values that the order gives fall from one place to the next
  pub before-above : (above : List ℕ) (before count : ℕ)
      → AreBefore order (length order) above before
      → AreAbove (map (λ t. count + length order - place_in_order order t) (threads_of order)) above
  before-above above before count are =
      let f : ℕ → ℕ = λ t. count + length order - place_in_order order t in
      let values = map f (threads_of order) in
      let long : length values ≡ length order = length-map-range_with_len f 0 (length order) in
      let value : (t : ℕ) → t < length order → get_or values t 0 ≡ f t =
      λ t small. get_or-map-range_with_len f 0 (length order) t t 0 small (omega arith) in
      record {
        threads = are.threads ∙ sym long;
        says = λ thread other there low.
            let small : thread < length order = omega (arith, long) in
            let at = named order is thread small in
            let place = place_in_order order thread in
            ap (λ t. bit_at (get_or above t 0) other) (sym at.1)
            ∙ are.words place other at.0 low
            ∙ bit-same (place_in_order order other) place (get_or values thread 0)
            (get_or values other 0)
            (elim (cases_lt other (length order)) [
              | inl inside ↦
                  let its = named order is other inside in (
                    (λ lt. omega (arith, value thread small, value other inside, at.0, its.0)),
                    λ lt. omega (arith, value thread small, value other inside, at.0, its.0),
                  )
              | inr past ↦
                  let none : get_or values other 0 ≡ 0 =
                  get_or_past values other 0 (omega (arith, long)) in (
                    (λ lt. absurd (let inside = is.below (place_in_order order other)
                        (omega (arith, at.0)) in
                        omega (arith, stands order other (omega (arith, at.0))))),
                    λ lt. absurd (omega (arith, none)),
                  )
            ]);
      }

-- ---- one thread's value has changed
pub changed-one : (values above : List ℕ) (thread value : ℕ) → thread < length values
    → AreAbove values above → AreAboveButOne (set values thread value) above thread
changed-one values above thread value within are = record {
  threads = are.threads ∙ sym (length-set values thread value);
  says = λ t u there low apart far.
      are.says t u (omega (arith, length-set values thread value)) low
      ∙ ap (λ v. bit_of (nat_lt v (get_or values u 0)))
      (sym (get_or-set_other values thread t value 0 apart))
      ∙ ap (λ v. bit_of (nat_lt (get_or (set values thread value) t 0) v))
      (sym (get_or-set_other values thread u value 0 far));
}

-- The words of the first threads name the changed one rightly, and a last word names those of them
-- that have a greater value than it.
pub record AreCompared (values : List ℕ) (changed many : ℕ) (above : List ℕ) (greater : ℕ) : Type 0
  where
    pub threads : length above ≡ length values
    pub others : (t u : ℕ) → t < length values → u < 64 → t ≢ changed → u ≢ changed
        → bit_at (get_or above t 0) u ≡ bit_of (nat_lt (get_or values t 0) (get_or values u 0))
    pub named : (t : ℕ) → t < many → bit_at (get_or above t 0) changed
        ≡ bit_of (nat_lt (get_or values t 0) (get_or values changed 0))
    pub first : (u : ℕ) → u < many
        → bit_at greater u ≡ bit_of (nat_lt (get_or values changed 0) (get_or values u 0))
    pub rest : (u : ℕ) → u < 64 → many ≤ u → bit_at greater u ≡ 0

module _ (values : List ℕ) (changed : ℕ) (few : length values ≤ 64)
    (within : changed < length values) where
  pub compared-none : (above : List ℕ) → AreAboveButOne values above changed
      → AreCompared values changed 0 above 0
  compared-none above are = record {
    threads = are.threads;
    others = are.says;
    named = λ t small. absurd (omega arith);
    first = λ u small. absurd (omega arith);
    rest = λ u low past. bit_at-zero u;
  }

  pub compared-more : (many : ℕ) (above : List ℕ) (greater word next : ℕ) → many < length values
      → bit_at word changed ≡ bit_of (nat_lt (get_or values many 0) (get_or values changed 0))
      → ((u : ℕ) → u < 64 → u ≢ changed → bit_at word u ≡ bit_at (get_or above many 0) u)
      → bit_at next many ≡ bit_of (nat_lt (get_or values changed 0) (get_or values many 0))
      → ((u : ℕ) → u < 64 → u ≢ many → bit_at next u ≡ bit_at greater u)
      → AreCompared values changed many above greater
      → AreCompared values changed (many + 1) (set above many word) next
  compared-more many above greater word next inside own kept its same was =
      let there : many < length above = omega (arith, was.threads) in
      let here : get_or (set above many word) many 0 ≡ word =
      get_or-set_same above many word 0 there in
      let far : (t : ℕ) → t ≢ many → get_or (set above many word) t 0 ≡ get_or above t 0 =
      λ t apart. get_or-set_other above many t word 0 apart in
      record {
        threads = length-set above many word ∙ was.threads;
        others = λ t u small low apart away. elim (cases_eq t many) [
          | inl e ↦
              ap (λ k. bit_at (get_or (set above many word) k 0) u) e
              ∙ ap (λ w. bit_at w u) here ∙ kept u low away
              ∙ ap (λ k. bit_at (get_or above k 0) u) (sym e) ∙ was.others t u small low apart away
          | inr ne ↦ ap (λ w. bit_at w u) (far t ne) ∙ was.others t u small low apart away
        ];
        named = λ t small. elim (cases_eq t many) [
          | inl e ↦
              ap (λ k. bit_at (get_or (set above many word) k 0) changed) e
              ∙ ap (λ w. bit_at w changed) here ∙ own
              ∙ ap (λ k. bit_of (nat_lt (get_or values k 0) (get_or values changed 0))) (sym e)
          | inr ne ↦ ap (λ w. bit_at w changed) (far t ne) ∙ was.named t (omega arith)
        ];
        first = λ u small. elim (cases_eq u many) [
          | inl e ↦
              ap (bit_at next) e ∙ its
              ∙ ap (λ k. bit_of (nat_lt (get_or values changed 0) (get_or values k 0))) (sym e)
          | inr ne ↦ same u (omega arith) ne ∙ was.first u (omega arith)
        ];
        rest = λ u low past. same u low (omega arith) ∙ was.rest u low (omega arith);
      }

  pub compared-all : (above : List ℕ) (greater : ℕ)
      → AreCompared values changed (length values) above greater
      → AreAbove values (set above changed greater)
  compared-all above greater was = record {
    threads = length-set above changed greater ∙ was.threads;
    says = λ t u small low. elim (cases_eq t changed) [
      | inl e ↦
          ap (λ k. bit_at (get_or (set above changed greater) k 0) u) e
          ∙ ap (λ w. bit_at w u)
          (get_or-set_same above changed greater 0 (omega (arith, was.threads)))
          ∙ elim (cases_lt u (length values)) [
            | inl there ↦ was.first u there
            | inr past ↦
                was.rest u low past
                ∙ sym (bit-le (get_or values changed 0) (get_or values u 0)
                (omega (arith, get_or_past values u 0 past)))
          ]
          ∙ ap (λ k. bit_of (nat_lt (get_or values k 0) (get_or values u 0))) (sym e)
      | inr apart ↦
          ap (λ w. bit_at w u) (get_or-set_other above changed t greater 0 apart)
          ∙ elim (cases_eq u changed) [
            | inl e ↦
                ap (bit_at (get_or above t 0)) e ∙ was.named t small
                ∙ ap (λ k. bit_of (nat_lt (get_or values t 0) (get_or values k 0))) (sym e)
            | inr away ↦ was.others t u small low apart away
          ]
    ];
  }
