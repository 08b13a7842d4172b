use Rattle.std.specs.Prelude.{codes, decimal}
use Rattle.pct_ask.specs.TraceText.{name_at}
use Rattle.pct_top.proofs.Spaced.{line-of-four}
use Rattle.pct_top.proofs.commands.races.push_race.Goals as goal

pub returns : goal.returns
returns c =
    let names = c.args.names.now in
    let race = c.args.race.now in
    rw (
      c.in_ok-push.ensures.items,
      c.in_ok-push_number-2.ensures,
      c.in_ok-push_number.ensures,
      c.in_ok-write_spaced_word.ensures.written,
      c.name_at.ensures,
      c.in_ok-extend_from_slice.ensures.items,
    )
    (line-of-four c.args.out.now.items (codes "race") (name_at names.vars race.var)
    (decimal race.first) (decimal race.second))
