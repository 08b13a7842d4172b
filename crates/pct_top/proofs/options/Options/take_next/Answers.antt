use Rattle.std.proofs.Common.{◌≡◌, ◌+◌, ◌∷◌, ◌≤◌, sym, rules, arith}
use Rattle.pct_top.specs.Options.{option_count}
use Rattle.pct_outside.specs.Reading.{texts_of}
use Rattle.pct_top.proofs.OptionLists.{leaves, counted, few_options}
use Rattle.pct_top.proofs.options.Options.take_next.Goals as goal

pub returns-clause-leaves : goal.returns-clause-leaves
returns-clause-leaves c =
    let texts : texts_of c.args.others.now
    ≡ c.as_str.result.now ∷ texts_of c.in-Some-split_first.rest.now = search rules in
    leaves c.args.command c.args.self.now c.take_value.new.self c.args.number c.in-Some.name
    c.args.word.now c.as_str.result.now (texts_of c.args.others.now)
    (texts_of c.in-Some-split_first.rest.now) texts (sym c.in-Some.ensures)
    c.in_ok-take_value.ensures

pub returns-clause-count : goal.returns-clause-count
returns-clause-count c =
    counted c.args.self.now c.args.command (c.args.number + 1) c.in-Some.name c.args.word.now
    c.as_str.result.now c.take_value.new.self (sym c.in-Some.ensures) c.in_ok-take_value.ensures

pub overflow_add-result : goal.overflow_add-result
overflow_add-result c = let few : option_count c.args.self.now ≤ 10 = few_options c.args.self.now in
    omega (arith, c.requires)

pub overflow_add-number : goal.overflow_add-number
overflow_add-number c = let few : option_count c.args.self.now ≤ 10 = few_options c.args.self.now in
    omega (arith, c.requires)
