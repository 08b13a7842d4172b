-- When a line of a text is faulty by no kind, and which kind is its first.
use Rattle.std.proofs.Common.{◌≡◌, ◌⊎◌, ℕ, ◌+◌, ◌-◌, ◌<◌, ◌≤◌, List, zero, suc, inl, inr, refl}
use Rattle.std.proofs.Common.{arith}
use Rattle.pct_ask.specs.NameLists.{NameLists}
use Rattle.pct_ask.proofs.laws.FirstFaults.{one_first_fault}
use Rattle.directive.specs.Forms.{IsAfterText, IsVerdictText, HasUnknownLow, HasUnknownAfter}
use Rattle.directive.specs.Forms.{HasUnknownVerdict}
use Rattle.directive.specs.Lines.{line_at, HasByte}
use Rattle.directive.specs.Faults.{IsTitleLine, IsSecondLine, IsLaterLine, IsBelowSecond, IsFaulty}
use Rattle.directive.specs.Faults.{kind_rank, IsFirstFault}
use Rattle.directive.specs.declared.fault.DirectiveFault.{DirectiveFault}
use Rattle.directive.specs.declared.fault.DirectiveFault.TheVariants.{TooLong, BadHeader, BadLine}
use Rattle.directive.specs.declared.fault.DirectiveFault.TheVariants.{UnknownName, NoVerdict}
use Rattle.directive.specs.declared.fault.DirectiveFault.TheVariants.{MoreAfterVerdict}

-- what each kind would need of line k does not hold
pub record Faultless (size : ℕ) (names : NameLists) (all : List (List ℕ)) (k : ℕ) : Type 0 where
  pub small : k ≡ 1 → ¬ (65536 < size)
  pub early : IsBelowSecond names all k → 9 < k → ¬ IsAfterText (line_at all k).text
  pub first : k ≡ 1 → IsTitleLine (line_at all k)
  pub second : k ≡ 2 → IsSecondLine (line_at all k)
  pub later : IsBelowSecond names all k → IsLaterLine names (line_at all k)
  pub low : k ≡ 2 → ¬ HasUnknownLow names (line_at all k).text
  pub after : IsBelowSecond names all k → ¬ HasUnknownAfter names (line_at all k).text
  pub verdict : IsBelowSecond names all k → ¬ HasUnknownVerdict names (line_at all k).text
  pub more : 4 ≤ k → IsVerdictText names (line_at all (k - 1)).text → ¬ HasByte (line_at all k)

pub faultless-none : (size : ℕ) (names : NameLists) (all : List (List ℕ)) (k : ℕ)
    → Faultless size names all k → (kind : DirectiveFault) → ¬ IsFaulty size names all k kind
faultless-none size names all k is TooLong = λ f. elim f [
  | inl a ↦ is.small a.0 a.1
  | inr b ↦ is.early b.0 b.1 b.2
]
faultless-none size names all k is BadHeader = λ f. elim f [
  | inl a ↦ a.1 (is.first a.0)
  | inr b ↦ b.1 (is.second b.0)
]
faultless-none size names all k is BadLine = λ f. f.2 (is.later f.0)
faultless-none size names all k is UnknownName = λ f. elim f [
  | inl a ↦ is.low a.0 a.1
  | inr b ↦ elim b.1 [
    | inl u ↦ is.after b.0 u
    | inr u ↦ is.verdict b.0 u
  ]
]
faultless-none size names all k is NoVerdict = λ f. f.1 (inl (is.later f.0).whole)
faultless-none size names all k is MoreAfterVerdict = λ f. is.more f.0 f.1 f.2

-- no line before this one is faulty
abbrev pub SoundTo : ℕ → NameLists → List (List ℕ) → ℕ → Type 0
SoundTo size names all n = (k : ℕ) (kind : DirectiveFault) → k < n
    → ¬ IsFaulty size names all k kind

line-zero : (size : ℕ) (names : NameLists) (all : List (List ℕ)) → Faultless size names all 0
line-zero size names all = record {
  small = λ e. absurd (omega arith);
  early = λ b p. omega arith;
  first = λ e. absurd (omega arith);
  second = λ e. absurd (omega arith);
  later = λ b. absurd (omega arith);
  low = λ e. absurd (omega arith);
  after = λ b. absurd (omega arith);
  verdict = λ b. absurd (omega arith);
  more = λ p v. absurd (omega arith);
}

pub sound-one : (size : ℕ) (names : NameLists) (all : List (List ℕ)) → SoundTo size names all 1
sound-one size names all zero kind low =
    faultless-none size names all 0 (line-zero size names all) kind
sound-one size names all (suc k) kind low = absurd (omega arith)

-- one more line without a fault
pub sound-next : (size : ℕ) (names : NameLists) (all : List (List ℕ)) (n : ℕ)
    → SoundTo size names all n → ((kind : DirectiveFault) → ¬ IsFaulty size names all n kind)
    → SoundTo size names all (n + 1)
sound-next size names all n sound here k kind low = λ f. by (k-cases k n low) f
  where
    k-cases : (k n : ℕ) → k < n + 1 → (k < n) ⊎ (n ≡ k)
    k-cases k n low = grind arith

    by : (k < n) ⊎ (n ≡ k) → IsFaulty size names all k kind → ⊥
    by (inl less) f = sound k kind less f
    by (inr same) f = (let moved : IsFaulty size names all n kind = rw same f in here kind moved)

pub line-one : (size : ℕ) (names : NameLists) (all : List (List ℕ)) → ¬ (65536 < size)
    → IsTitleLine (line_at all 1) → (kind : DirectiveFault) → ¬ IsFaulty size names all 1 kind
line-one size names all small first = faultless-none size names all 1 (record {
  small = λ e. small;
  early = λ b p. omega arith;
  first = λ e. first;
  second = λ e. absurd (omega arith);
  later = λ b. absurd (omega arith);
  low = λ e. absurd (omega arith);
  after = λ b. absurd (omega arith);
  verdict = λ b. absurd (omega arith);
  more = λ p v. absurd (omega arith);
})

pub line-two : (size : ℕ) (names : NameLists) (all : List (List ℕ)) → IsSecondLine (line_at all 2)
    → ¬ HasUnknownLow names (line_at all 2).text → (kind : DirectiveFault)
    → ¬ IsFaulty size names all 2 kind
line-two size names all second low = faultless-none size names all 2 (record {
  small = λ e. absurd (omega arith);
  early = λ b p. omega arith;
  first = λ e. absurd (omega arith);
  second = λ e. second;
  later = λ b. absurd (omega arith);
  low = λ e. low;
  after = λ b. absurd (omega arith);
  verdict = λ b. absurd (omega arith);
  more = λ p v. absurd (omega arith);
})

-- a line below the first two, which says what it may
pub line-later : (size : ℕ) (names : NameLists) (all : List (List ℕ)) (k : ℕ)
    → IsBelowSecond names all k → (9 < k → ¬ IsAfterText (line_at all k).text)
    → IsLaterLine names (line_at all k) → ¬ HasUnknownAfter names (line_at all k).text
    → ¬ HasUnknownVerdict names (line_at all k).text → (kind : DirectiveFault)
    → ¬ IsFaulty size names all k kind
line-later size names all k below early later after verdict =
    faultless-none size names all k (record {
      small = λ e. absurd (omega arith);
      early = λ b. early;
      first = λ e. absurd (omega arith);
      second = λ e. absurd (omega arith);
      later = λ b. later;
      low = λ e. absurd (omega arith);
      after = λ b. after;
      verdict = λ b. verdict;
      more = λ p v. absurd (below.unended (k - 1) (omega arith) (omega arith) v);
    })

-- a line that is not there, below a verdict line
pub line-past : (size : ℕ) (names : NameLists) (all : List (List ℕ)) (j k : ℕ) → 3 ≤ j → j < k
    → IsVerdictText names (line_at all j).text → ¬ HasByte (line_at all k) → (kind : DirectiveFault)
    → ¬ IsFaulty size names all k kind
line-past size names all j k later past told none = faultless-none size names all k (record {
  small = λ e. absurd (omega arith);
  early = λ b. absurd (b.unended j later past told);
  first = λ e. absurd (omega arith);
  second = λ e. absurd (omega arith);
  later = λ b. absurd (b.unended j later past told);
  low = λ e. absurd (omega arith);
  after = λ b. absurd (b.unended j later past told);
  verdict = λ b. absurd (b.unended j later past told);
  more = λ p v. none;
})

-- ---- the first kind of a faulty line

abbrev FirstKind : ℕ → NameLists → List (List ℕ) → ℕ → DirectiveFault → Type 0
FirstKind size names all k kind = (other : DirectiveFault) → kind_rank other < kind_rank kind
    → ¬ IsFaulty size names all k other

too-long-kind : (size : ℕ) (names : NameLists) (all : List (List ℕ)) (k : ℕ)
    → FirstKind size names all k TooLong
too-long-kind size names all k other low = absurd (omega arith)

head-kind : (size : ℕ) (names : NameLists) (all : List (List ℕ)) (k : ℕ) → k < 3
    → (k ≡ 1 → ¬ (65536 < size)) → FirstKind size names all k BadHeader
head-kind size names all k head small TooLong low = λ f. elim f [
  | inl a ↦ small a.0 a.1
  | inr b ↦ omega (arith, b.0.later)
]
head-kind size names all k head small other low = absurd (omega arith)

low-kind : (size : ℕ) (names : NameLists) (all : List (List ℕ)) → IsSecondLine (line_at all 2)
    → FirstKind size names all 2 UnknownName
low-kind size names all second TooLong low = λ f. elim f [
  | inl a ↦ omega arith
  | inr b ↦ omega (arith, b.0.later)
]
low-kind size names all second BadHeader low = λ f. elim f [
  | inl a ↦ omega arith
  | inr b ↦ b.1 second
]
low-kind size names all second BadLine low = λ f. omega (arith, f.0.later)
low-kind size names all second other low = absurd (omega arith)

bad-line-kind : (size : ℕ) (names : NameLists) (all : List (List ℕ)) (k : ℕ) → 3 ≤ k
    → (9 < k → ¬ IsAfterText (line_at all k).text) → FirstKind size names all k BadLine
bad-line-kind size names all k later early TooLong low = λ f. elim f [
  | inl a ↦ omega arith
  | inr b ↦ early b.1 b.2
]
bad-line-kind size names all k later early BadHeader low = λ f. elim f [
  | inl a ↦ omega arith
  | inr b ↦ omega arith
]
bad-line-kind size names all k later early other low = absurd (omega arith)

unknown-kind : (size : ℕ) (names : NameLists) (all : List (List ℕ)) (k : ℕ) → 3 ≤ k
    → (9 < k → ¬ IsAfterText (line_at all k).text) → IsLaterLine names (line_at all k)
    → FirstKind size names all k UnknownName
unknown-kind size names all k later early says TooLong low = λ f. elim f [
  | inl a ↦ omega arith
  | inr b ↦ early b.1 b.2
]
unknown-kind size names all k later early says BadHeader low = λ f. elim f [
  | inl a ↦ omega arith
  | inr b ↦ omega arith
]
unknown-kind size names all k later early says BadLine low = λ f. f.2 says
unknown-kind size names all k later early says other low = absurd (omega arith)

no-verdict-kind : (size : ℕ) (names : NameLists) (all : List (List ℕ)) (k : ℕ) → 3 ≤ k
    → ¬ HasByte (line_at all k) → ¬ IsAfterText (line_at all k).text
    → ¬ IsVerdictText names (line_at all k).text → FirstKind size names all k NoVerdict
no-verdict-kind size names all k later none no_after no_verdict TooLong low = λ f. elim f [
  | inl a ↦ omega arith
  | inr b ↦ no_after b.2
]
no-verdict-kind size names all k later none no_after no_verdict BadHeader low = λ f. elim f [
  | inl a ↦ omega arith
  | inr b ↦ omega arith
]
no-verdict-kind size names all k later none no_after no_verdict BadLine low = λ f. none f.1
no-verdict-kind size names all k later none no_after no_verdict UnknownName low = λ f. elim f [
  | inl a ↦ omega arith
  | inr b ↦ elim b.1 [
    | inl u ↦ no_after (u.0, u.1, u.2)
    | inr u ↦ no_verdict (u.0, u.1)
  ]
]
no-verdict-kind size names all k later none no_after no_verdict other low = absurd (omega arith)

more-kind : (size : ℕ) (names : NameLists) (all : List (List ℕ)) (j k : ℕ) → 3 ≤ j → j < k
    → IsVerdictText names (line_at all j).text → FirstKind size names all k MoreAfterVerdict
more-kind size names all j k later past told TooLong low = λ f. elim f [
  | inl a ↦ omega arith
  | inr b ↦ b.0.unended j later past told
]
more-kind size names all j k later past told BadHeader low = λ f. elim f [
  | inl a ↦ omega arith
  | inr b ↦ omega arith
]
more-kind size names all j k later past told BadLine low = λ f. f.0.unended j later past told
more-kind size names all j k later past told UnknownName low = λ f. elim f [
  | inl a ↦ omega arith
  | inr b ↦ b.0.unended j later past told
]
more-kind size names all j k later past told NoVerdict low = λ f. f.0.unended j later past told
more-kind size names all j k later past told MoreAfterVerdict low = absurd (omega arith)

-- ---- so it is the first fault

pub first-size : (size : ℕ) (names : NameLists) (all : List (List ℕ)) → 65536 < size
    → IsFirstFault size names all 1 TooLong
first-size size names all large = record {
  faulty = inl (refl, large);
  first_kind = too-long-kind size names all 1;
  first_line = sound-one size names all;
}

pub first-head : (size : ℕ) (names : NameLists) (all : List (List ℕ)) → ¬ (65536 < size)
    → ¬ IsTitleLine (line_at all 1) → IsFirstFault size names all 1 BadHeader
first-head size names all small bad = record {
  faulty = inl (refl, bad);
  first_kind = head-kind size names all 1 (omega arith) (λ e. small);
  first_line = sound-one size names all;
}

pub first-low : (size : ℕ) (names : NameLists) (all : List (List ℕ)) → SoundTo size names all 2
    → ¬ IsSecondLine (line_at all 2) → IsFirstFault size names all 2 BadHeader
first-low size names all sound bad = record {
  faulty = inr (refl, bad);
  first_kind =
      head-kind size names all 2 (omega arith) (λ e. absurd (omega arith));
  first_line = sound;
}

pub first-unknown-low : (size : ℕ) (names : NameLists) (all : List (List ℕ))
    → SoundTo size names all 2 → IsSecondLine (line_at all 2)
    → HasUnknownLow names (line_at all 2).text → IsFirstFault size names all 2 UnknownName
first-unknown-low size names all sound second unknown = record {
  faulty = inl (refl, unknown);
  first_kind = low-kind size names all second;
  first_line = sound;
}

pub first-eighth : (size : ℕ) (names : NameLists) (all : List (List ℕ)) (k : ℕ)
    → SoundTo size names all k → IsBelowSecond names all k → 9 < k
    → IsAfterText (line_at all k).text → IsFirstFault size names all k TooLong
first-eighth size names all k sound below late after = record {
  faulty = inr (below, late, after);
  first_kind = too-long-kind size names all k;
  first_line = sound;
}

pub first-bad-line : (size : ℕ) (names : NameLists) (all : List (List ℕ)) (k : ℕ)
    → SoundTo size names all k → IsBelowSecond names all k
    → (9 < k → ¬ IsAfterText (line_at all k).text) → HasByte (line_at all k)
    → ¬ IsLaterLine names (line_at all k) → IsFirstFault size names all k BadLine
first-bad-line size names all k sound below early there bad = record {
  faulty = (below, there, bad);
  first_kind = bad-line-kind size names all k below.later early;
  first_line = sound;
}

pub first-unknown : (size : ℕ) (names : NameLists) (all : List (List ℕ)) (k : ℕ)
    → SoundTo size names all k → IsBelowSecond names all k
    → (9 < k → ¬ IsAfterText (line_at all k).text) → IsLaterLine names (line_at all k)
    → HasUnknownAfter names (line_at all k).text ⊎ HasUnknownVerdict names (line_at all k).text
    → IsFirstFault size names all k UnknownName
first-unknown size names all k sound below early says unknown = record {
  faulty = inr (below, unknown);
  first_kind =
      unknown-kind size names all k below.later early says;
  first_line = sound;
}

pub first-no-verdict : (size : ℕ) (names : NameLists) (all : List (List ℕ)) (k : ℕ)
    → SoundTo size names all k → IsBelowSecond names all k → ¬ HasByte (line_at all k)
    → ¬ IsAfterText (line_at all k).text → ¬ IsVerdictText names (line_at all k).text
    → IsFirstFault size names all k NoVerdict
first-no-verdict size names all k sound below none no_after no_verdict = record {
  faulty = (below, none);
  first_kind =
      no-verdict-kind size names all k below.later none no_after no_verdict;
  first_line = sound;
}

pub first-more : (size : ℕ) (names : NameLists) (all : List (List ℕ)) (j : ℕ) → 3 ≤ j
    → SoundTo size names all (j + 1) → IsVerdictText names (line_at all j).text
    → HasByte (line_at all (j + 1)) → IsFirstFault size names all (j + 1) MoreAfterVerdict
first-more size names all j later sound told there = record {
  faulty = (omega arith, (let e : j + 1 - 1 ≡ j = omega arith in rw e told), there);
  first_kind = more-kind size names all j (j + 1) later (omega arith) told;
  first_line = sound;
}

-- ---- there is one first fault

two-ranks : (a b : DirectiveFault) → kind_rank a ≡ kind_rank b → a ≡ b
two-ranks TooLong TooLong e = refl
two-ranks BadHeader BadHeader e = refl
two-ranks BadLine BadLine e = refl
two-ranks UnknownName UnknownName e = refl
two-ranks NoVerdict NoVerdict e = refl
two-ranks MoreAfterVerdict MoreAfterVerdict e = refl
two-ranks a b e = absurd (omega arith)

pub first-only : (size : ℕ) (names : NameLists) (all : List (List ℕ)) (m n : ℕ)
    (a b : DirectiveFault) → IsFirstFault size names all m a → IsFirstFault size names all n b
    → (m ≡ n) × (a ≡ b)
first-only size names all = one_first_fault kind_rank (IsFaulty size names all) two-ranks
