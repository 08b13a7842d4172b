-- A text has one first fault over given names.
use Rattle.std.proofs.Common.{◌≡◌, ℕ, List, zero, suc, refl, sym, ap, ◌∙◌}
use Rattle.pct_ask.specs.NameLists.{NameLists}
use Rattle.pct_ask.proofs.laws.FirstFaults.{one_first_fault}
use Rattle.trace_text.specs.Faults.{IsFaulty, kind_rank, IsFirstFault}
use Rattle.trace_text.specs.declared.fault.TraceFault.{TraceFault}
use Rattle.trace_text.specs.declared.fault.TraceFault.TheVariants.{TooLong, BadHeader, BadLine}
use Rattle.trace_text.specs.declared.fault.TraceFault.TheVariants.{UnknownName, OutOfOrder}
use Rattle.trace_text.specs.declared.fault.TraceFault.TheVariants.{NoVerdict, MoreAfterVerdict}

of_rank : ℕ → TraceFault
of_rank zero = TooLong
of_rank (suc zero) = BadHeader
of_rank (suc (suc zero)) = BadLine
of_rank (suc (suc (suc zero))) = UnknownName
of_rank (suc (suc (suc (suc zero)))) = OutOfOrder
of_rank (suc (suc (suc (suc (suc zero))))) = NoVerdict
of_rank (suc (suc (suc (suc (suc (suc n)))))) = MoreAfterVerdict

of_rank-rank : (kind : TraceFault) → of_rank (kind_rank kind) ≡ kind
unfolding of_rank
of_rank-rank TooLong = refl
of_rank-rank BadHeader = refl
of_rank-rank BadLine = refl
of_rank-rank UnknownName = refl
of_rank-rank OutOfOrder = refl
of_rank-rank NoVerdict = refl
of_rank-rank MoreAfterVerdict = refl

two-ranks : (j k : TraceFault) → kind_rank j ≡ kind_rank k → j ≡ k
two-ranks j k e = sym (of_rank-rank j) ∙ ap of_rank e ∙ of_rank-rank k

-- a text has one first fault
pub one-fault : (size : ℕ) (names : NameLists) (pieces : List (List ℕ)) (l m : ℕ) (j k : TraceFault)
    → IsFirstFault size names pieces l j → IsFirstFault size names pieces m k → (l ≡ m) × (j ≡ k)
one-fault size names pieces = one_first_fault kind_rank (IsFaulty size names pieces) two-ranks
