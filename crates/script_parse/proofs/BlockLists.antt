-- The innermost block is the last.
use Rattle.std.proofs.Common.{◌≡◌, List, [], ◌∷◌, ◌++◌, map, reverse, ap, ◌∙◌}
use Rattle.std.proofs.lemmas.List.{map_push, reverse-append}
use Rattle.script_parse.specs.declared.blocks.OpenBlock.{OpenBlock}
use Rattle.script_parse.specs.Part.{Open}
use Rattle.script_parse.specs.SeenParts.{seen_block, seen_blocks}

pub popped : (before after : List OpenBlock) (block : OpenBlock) → before ≡ after ++ block ∷ []
    → seen_blocks before ≡ seen_block block ∷ seen_blocks after
popped before after block e =
    ap seen_blocks e ∙ ap (λ (bs : List Open). reverse bs) (map_push seen_block after block)
    ∙ reverse-append (map seen_block after) (seen_block block ∷ [])
