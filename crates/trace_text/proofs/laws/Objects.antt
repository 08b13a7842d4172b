-- What an ask of a trace names.
use Rattle.std.proofs.Common.{ℕ}
use Rattle.pct_ask.specs.NameLists.{NameLists}
use Rattle.pct_ask.specs.declared.ask.Ask.{Ask}
use Rattle.pct_ask.specs.declared.ask.Ask.TheVariants.{Write, Add, Cas}
use Rattle.trace_text.specs.Lawful.{HasObjects, IsAsk}

-- an ask of a trace has its objects
pub has_objects : (names : NameLists) (version : ℕ) (ask : Ask) → IsAsk names version ask
    → HasObjects names version ask
has_objects names version (Write x value) h = h.0
has_objects names version (Add x value) h = h.0
has_objects names version (Cas x old new) h = h.0
has_objects names version ask h = h
