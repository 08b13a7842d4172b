-- The name, or nothing.
use Rattle.std.proofs.Common.{◌≡◌, ℕ, List, [], Option, Some, None, Bor, refl, ap, ◌∙◌}
use Rattle.std.specs.Option.{unwrap_or, option_copied}
use Rattle.std.proofs.lemmas.Option.{unwrap_or-slice_get}
use Rattle.pct_ask.specs.NameLists.{list_of}
use Rattle.pct_ask.proofs.spaced.name_at.Goals as goal

now_of : (name : Option (Bor (List ℕ))) (other : Bor (List ℕ))
    → (unwrap_or name other).now ≡ unwrap_or (option_copied name) other.now
now_of None other = refl
now_of (Some name) other = refl

pub returns : goal.returns
returns c =
    let names = list_of c.args.kind c.args.names.now in
    rw c.unwrap_or.ensures (now_of c.name.result _
    ∙ ap (λ name. unwrap_or name []) c.name.ensures.name
    ∙ unwrap_or-slice_get names c.args.place [])
