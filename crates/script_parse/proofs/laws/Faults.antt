-- A text has one first fault.
use Rattle.std.proofs.Common.{◌≡◌, ℕ, List, inl, inr, ◌∙◌, sym, arith}
use Rattle.pct_ask.proofs.laws.FirstFaults.{one_first_fault}
use Rattle.script_tree.specs.declared.fault.ScriptFault.{ScriptFault}
use Rattle.script_tree.specs.Faults.{kind_rank, judged_lines, IsFaultyLine, IsFault}
use Rattle.script_parse.proofs.FirstKinds.{same_rank_kind}

-- whichever faults a text has are one, on one line
pub one_fault : (bytes : List ℕ) (n m : ℕ) (kind other : ScriptFault) → IsFault bytes n kind
    → IsFault bytes m other → (n ≡ m) × (kind ≡ other)
one_fault bytes n m kind other (inl f) (inl g) = (f.1 ∙ sym g.1, f.2 ∙ sym g.2)
one_fault bytes n m kind other (inl f) (inr g) = absurd (omega (arith, f.0, g.0))
one_fault bytes n m kind other (inr f) (inl g) = absurd (omega (arith, f.0, g.0))
one_fault bytes n m kind other (inr f) (inr g) =
    one_first_fault kind_rank
    (IsFaultyLine (judged_lines bytes)) same_rank_kind n m kind other f.1 g.1
