-- What is printed of a script is read again.
use Rattle.script_tree.specs.Layout.{layout}
use Rattle.script_tree.specs.Renumbering.{renumbered_script}
use Rattle.script_tree.proofs.laws.Layouts.{layout_spells}
use Rattle.script_parse.specs.Answers.{PrintIsRead}
use Rattle.script_parse.proofs.laws.Scripts.{one_script, spelled_no_fault}

pub layout_is_read : PrintIsRead
layout_is_read script is names ranged short =
    let spells = layout_spells script is names ranged.0 ranged.1 short in
    record {
      spells = spells;
      only = λ other o. one_script (layout script) (renumbered_script script) other spells o;
      faultless =
          λ n kind. spelled_no_fault (layout script) (renumbered_script script) n kind spells;
    }
