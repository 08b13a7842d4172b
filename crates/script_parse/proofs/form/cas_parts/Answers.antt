use Rattle.std.proofs.Common.{◌≡◌, None, ◌∙◌, rules, refl}
use Rattle.script_parse.specs.Saying.{is_comma}
use Rattle.std.specs.List.{position}
use Rattle.script_parse.specs.Seen.{all_seen}
use Rattle.script_parse.proofs.Commas.{position_seen, parts_seen}
use Rattle.script_parse.proofs.form.cas_parts.Goals as goal

pub returns-in_default : goal.returns-in_default
returns-in_default c =
    let none : position is_comma (all_seen c.args.values.now) ≡ None =
    position_seen c.args.values.now ∙ search (rules, c.in_default.is) in
    rw none refl

pub returns : goal.returns
returns c =
    let cut = parts_seen c.args.values.now c.split_at.result.0.now c.in-Some-split_first.new.now
    c.split_at.result.1.now c.in-Some-split_first._comma.now c.in-Some.place c.in-Some.ensures
    c.split_at.ensures.front c.split_at.ensures.back c.in-Some-split_first.ensures.cases.0 in
    rw cut c.cas_pair.ensures
