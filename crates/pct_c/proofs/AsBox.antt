-- A hand and its loose box own what a box at the same types owns.
use mir.Syntax.{impl, tnil, dnil}
use mathlib.Core.List.{[]}
use denote.RattleType.{RattleType}
use denote.Signature.{Slot, plain}
use Rattle.std.proofs.BoxSteps.Form.{Bx}
use Rattle.std.specs.contracts.alloc.Global as Heap
use Rattle.std.specs.contracts.impls.GlobalAllocator.TheImpl.{ghosts, dict}
use Rattle.std.proofs.alloc.Global.TheLaws as heap
use Rattle.pct_c.specs.contracts.kept.Kept as Kept
use Rattle.pct_c.proofs.kept.Kept.TheLaws as kept
use Rattle.pct_c.specs.contracts.loose.Loose as Loose
use Rattle.pct_c.specs.contracts.held.Held as Held

abbrev pub E : Bx
E = record {
  row = Kept.the_row;
  laws = kept.the_row_laws;
  al = record {
    row = Heap.the_row;
    laws = heap.the_row_laws;
    g = ghosts;
    d = dict;
    drops = impl [] tnil dnil;
  };
}

abbrev pub FromParts : Slot 0
FromParts = plain (λ _. Loose.the_row Kept.the_row Heap.the_row ghosts)

abbrev pub SealRow : RattleType
SealRow = Held.the_row

abbrev pub FromSeal : Slot 0
FromSeal = plain (λ _. Held.the_row)
