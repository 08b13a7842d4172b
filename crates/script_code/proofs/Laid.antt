-- Where the operations of statements lie in a thread's code.
use Rattle.std.proofs.Common.{◌≡◌, ℕ, ◌+◌, ◌<◌, List, [], ◌∷◌, ◌++◌, length, Some, refl, sym, ap}
use Rattle.std.proofs.Common.{◌∙◌, subst, arith, append_assoc, length-append}
use Rattle.std.specs.Prelude.{slice_get}
use Rattle.std.proofs.Math.Seq.{get_or-append_seam}
use Rattle.std.proofs.lemmas.Option.{slice_get-get_or}
use Rattle.script_tree.specs.Trees.{Statement, Statements, Closed, Then, If, IfElse, While}
use Rattle.script_tree.specs.Trees.{statement_list}
use Rattle.script_tree.specs.Fitting.{count_of, counts_of}
use Rattle.script_code.specs.Operations.{Operation, Do, Test, End}
use Rattle.script_code.specs.Layout.{entry, code_of, codes_of}

-- operations stand in the code from this place on
abbrev pub HasAt : List Operation → ℕ → List Operation → Type 0
HasAt code at [] = Unit {0}
HasAt code at (op ∷ ops) = (slice_get code at ≡ Some op) × HasAt code (at + 1) ops

pub has_front : (code : List Operation) (at : ℕ) (a b : List Operation) → HasAt code at (a ++ b)
    → HasAt code at a
has_front code at [] b h = tt
has_front code at (op ∷ a) b h = (h.0, has_front code (at + 1) a b h.1)

pub has_back : (code : List Operation) (at : ℕ) (a b : List Operation) → HasAt code at (a ++ b)
    → HasAt code (at + length a) b
has_back code at [] b h = let e : at ≡ at + 0 = omega arith in subst (λ n. HasAt code n b) e h
has_back code at (op ∷ a) b h =
    let e : at + 1 + length a ≡ at + length (op ∷ a) = omega arith in
    subst (λ n. HasAt code n b) e (has_back code (at + 1) a b h.1)

pub has_all : (ops before : List Operation) → HasAt (before ++ ops) (length before) ops
has_all [] before = tt
has_all (op ∷ ops) before =
    let within : length before < length (before ++ op ∷ ops) =
    omega (arith, length-append before (op ∷ ops)) in
    let here = slice_get-get_or (before ++ op ∷ ops) (length before) op within
    ∙ ap Some (get_or-append_seam before op ops op) in
    let n : length (before ++ op ∷ []) ≡ length before + 1 =
    omega (arith, length-append before (op ∷ [])) in
    let rest = has_all ops (before ++ op ∷ []) in
    let rest' = subst (λ l. HasAt l (length (before ++ op ∷ [])) ops)
    (append_assoc before (op ∷ []) ops) rest in
    (here, subst (λ m. HasAt (before ++ op ∷ ops) m ops) n rest')

-- as many operations as statements
mutual
  pub length-code_of : (s : Statement) (at next : ℕ) → length (code_of at next s) ≡ count_of s
  length-code_of (If line test first) at next = omega (arith, length-codes_of first (at + 1) next)
  length-code_of (IfElse line test first otherwise) at next =
      omega (
        arith,
        length-append (codes_of (at + 1) next first)
            (codes_of (at + 1 + counts_of first) next otherwise),
        length-codes_of first (at + 1) next,
        length-codes_of otherwise (at + 1 + counts_of first) next,
      )
  length-code_of (While line test body) at next = omega (arith, length-codes_of body (at + 1) at)
  length-code_of s at next = refl

  pub length-codes_of : (ss : Statements) (at next : ℕ)
      → length (codes_of at next ss) ≡ counts_of ss
  length-codes_of (Closed line) at next = refl
  length-codes_of (Then s rest) at next =
      omega (
        arith,
        length-append (code_of at (entry (at + count_of s) next rest) s)
            (codes_of (at + count_of s) next rest),
        length-code_of s at (entry (at + count_of s) next rest),
        length-codes_of rest (at + count_of s) next,
      )

-- A statement lies at a place, and goes on to `next`; so do statements, one after another. A block
-- without statements
-- lies nowhere: the next place is its own.
abbrev mutual
  pub Laid : List Operation → (place next : ℕ) → Statement → Type 0
  Laid code place next (If line test first) =
      (a : ℕ) × (slice_get code place ≡ Some (Test line test a next)) × LaidAll code a next first
  Laid code place next (IfElse line test first otherwise) =
      (a : ℕ) × (b : ℕ) × (slice_get code place ≡ Some (Test line test a b))
      × LaidAll code a next first × LaidAll code b next otherwise
  Laid code place next (While line test body) =
      (a : ℕ) × (slice_get code place ≡ Some (Test line test a next)) × LaidAll code a place body
  Laid code place next s = slice_get code place ≡ Some (Do s next)

  pub LaidAll : List Operation → (place next : ℕ) → Statements → Type 0
  LaidAll code place next (Closed line) = place ≡ next
  LaidAll code place next (Then s rest) =
      (mid : ℕ) × Laid code place mid s × LaidAll code mid next rest

mutual
  pub laid : (code : List Operation) (s : Statement) (at next : ℕ)
      → HasAt code at (code_of at next s) → Laid code at next s
  laid code (If line test first) at next h =
      (entry (at + 1) next first, h.0, laid_all code first (at + 1) next h.1)
  laid code (IfElse line test first otherwise) at next h =
      let mid = at + 1 + counts_of first in
      let a = codes_of (at + 1) next first in
      let b = codes_of mid next otherwise in
      let e : at + 1 + length a ≡ mid = omega (arith, length-codes_of first (at + 1) next) in (
        entry (at + 1) next first,
        entry mid next otherwise,
        h.0,
        laid_all code first (at + 1) next (has_front code (at + 1) a b h.1),
        laid_all code otherwise mid next
            (subst (λ n. HasAt code n b) e (has_back code (at + 1) a b h.1)),
      )
  laid code (While line test body) at next h =
      (entry (at + 1) at body, h.0, laid_all code body (at + 1) at h.1)
  laid code s at next h = h.0

  pub laid_all : (code : List Operation) (ss : Statements) (at next : ℕ)
      → HasAt code at (codes_of at next ss) → LaidAll code (entry at next ss) next ss
  laid_all code (Closed line) at next h = refl
  laid_all code (Then s rest) at next h =
      let mid = entry (at + count_of s) next rest in
      let a = code_of at mid s in
      let b = codes_of (at + count_of s) next rest in
      let e : at + length a ≡ at + count_of s = omega (arith, length-code_of s at mid) in (
        mid,
        laid code s at mid (has_front code at a b h),
        laid_all code rest (at + count_of s) next
            (subst (λ n. HasAt code n b) e (has_back code at a b h)),
      )

-- what remains of a thread lies from a place on, down to its end on this line
abbrev pub Follows : List Operation → (end place : ℕ) → List Statement → Type 0
Follows code end place [] = slice_get code place ≡ Some (End end)
Follows code end place (s ∷ rest) = (mid : ℕ) × Laid code place mid s × Follows code end mid rest

pub follows_all : (code : List Operation) (end : ℕ) (ss : Statements) (rest : List Statement)
    (place mid : ℕ) → LaidAll code place mid ss → Follows code end mid rest
    → Follows code end place (statement_list ss ++ rest)
follows_all code end (Closed line) rest place mid l f =
    subst (λ p. Follows code end p rest) (sym l) f
follows_all code end (Then s ss) rest place mid l f =
    (l.0, l.1, follows_all code end ss rest l.0 mid l.2 f)
