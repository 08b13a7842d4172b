-- The statements of a block from one of them on.
use Rattle.std.proofs.Common.{◌≡◌, ℕ, ◌+◌, ◌<◌, ◌≤◌, List, [], ◌∷◌, length, get_or, drop}
use Rattle.std.proofs.Common.{length-drop, refl, sym, ap, ◌∙◌, arith}
use Rattle.std.proofs.lemmas.List.{drop_all, drop_more}
use Rattle.script_tree.specs.Trees.{Closed, Then, closed_at}
use Rattle.script_tree.specs.Seen.{statement, block, statements}
use Rattle.script_code.specs.Layout.{entry}
use Rattle.script_code.specs.Rest.{from}
use Rattle.script_tree.proofs.laws.SeenParts.{block-parts}
use Rattle.script_tree.specs.declared.stmt.Block.{Block}
use Rattle.script_tree.specs.declared.stmt.Stmt.{Stmt}

pub from_start : (b : Block) → from b 0 ≡ block b
from_start b = sym (block-parts b)

pub from_next : (b : Block) (i : ℕ) (s : Stmt) → i < length b.stmts.items
    → s ≡ get_or b.stmts.items i s → from b i ≡ Then (statement s) (from b (i + 1))
from_next b i s below e =
    let here : drop i b.stmts.items ≡ s ∷ drop (i + 1) b.stmts.items =
    drop_more b.stmts.items i s below ∙ ap (λ x. x ∷ drop (i + 1) b.stmts.items) (sym e) in
    ap (λ rest. closed_at b.end_line (statements rest)) here

pub from_end : (b : Block) (i : ℕ) → length b.stmts.items ≤ i → from b i ≡ Closed b.end_line
from_end b i past =
    ap (λ rest. closed_at b.end_line (statements rest)) (drop_all i b.stmts.items past)

-- where a statement remains, it comes first
pub from_more : (b : Block) (i at next : ℕ) → i < length b.stmts.items
    → entry at next (from b i) ≡ at
from_more b i at next below =
    more (drop i b.stmts.items) (omega (arith, length-drop i b.stmts.items))
  where
    more : (rest : List Stmt) → 0 < length rest
        → entry at next (closed_at b.end_line (statements rest)) ≡ at
    more [] some = absurd (omega arith)
    more (s ∷ rest) some = refl
