-- A look-up by text, seen in the finite map.
use Rattle.std.proofs.Common.{ap, ◌∙◌, sym, option_map}
use Rattle.std.specs.FinMap as map
use Rattle.pct_outside.proofs.FileLemmas.{get-files}
use Rattle.pct_outside.proofs.memory_shelves.FileMap.get.Goals as goal

pub returns : goal.returns
returns c =
    ap (option_map (λ bytes. bytes.items)) c.get.ensures.value
    ∙ sym (get-files c.self.inside.files c.args.name.now)
    ∙ ap (λ files. map.get files c.args.name.now) c.self.view_is
