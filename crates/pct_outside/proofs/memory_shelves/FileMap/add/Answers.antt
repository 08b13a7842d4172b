-- The map by text changed under this name alone.
use Rattle.std.proofs.Common.{ap, ◌∙◌, string_bytes, Some}
use Rattle.std.specs.FinMap as map
use Rattle.std.proofs.lemmas.Map.Text.{btree_map_updates_text}
use Rattle.pct_outside.proofs.FileLemmas.{insert-files}
use Rattle.pct_outside.proofs.memory_shelves.FileMap.add.Goals as goal

pub returns-clause-ok : goal.returns-clause-ok
returns-clause-ok c =
    let old = c.self.inside.files in
    let new = c.insert.new.self in
    let name = string_bytes c.in_ok-name.name in
    let bytes = c.in_ok-bytes.bytes in
    insert-files old new name bytes (btree_map_updates_text name old new (Some bytes)
    c.in_ok-insert.ensures.updates)
    ∙ ap (λ files. map.insert files name bytes.items) c.self.view_is
    ∙ ap (λ text. map.insert c.args.self.now text bytes.items) c.in_ok-name.ensures.ok
    ∙ ap (λ items. map.insert c.args.self.now c.args.name.now items) c.in_ok-bytes.ensures.items
