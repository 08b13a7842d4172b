-- Both gives together make the next table.
use Rattle.std.proofs.Common.{◌<◌, max, cond, eqb, get_or, length, ap, ◌∙◌, arith}
use Rattle.hb_race.specs.Objects.{is_at}
use Rattle.hb_race.specs.Table.{clock_entry}
use Rattle.hb_race.proofs.Advance.{stamp-is, advanced, counted-is}
use Rattle.hb_race.proofs.clock.advance.Goals as goal

pub returns-clause-stamp : goal.returns-clause-stamp
returns-clause-stamp c = λ s n step is u.
    c.stamp_of-stamp.ensures u ∙ stamp-is s n c.args.event.now c.args.table.now c.args.counts.now
    step c.requires.range is u

pub returns-clause-table : goal.returns-clause-table
returns-clause-table c = λ s n step is.
    let e = c.args.event.now in
    let made = c.stamp_of-stamp.result in
    let low : e.thread < length c.args.counts.now = grind (arith, c.requires.range) in
    advanced s n e c.args.table.now c.give.new.table c.give_object.new.table c.args.counts.now _
    made step is
    (λ u. c.stamp_of-stamp.ensures u ∙ stamp-is s n e c.args.table.now c.args.counts.now step
    c.requires.range is u)
    (λ u. counted-is c.args.counts.now e.thread u low)
    c.give.ensures.rows c.give_object.ensures.rows
    (λ o u there. c.give.ensures.entries o u there
    ∙ ap (λ r. cond (eqb r o) (max (clock_entry c.args.table.now o u) (get_or made u 0))
    (clock_entry c.args.table.now o u)) c.place.ensures)
    (λ o u there. c.give_object.ensures.entries o u there
    ∙ ap (λ p. cond (is_at p o) (max (clock_entry c.give.new.table o u) (get_or made u 0))
    (clock_entry c.give.new.table o u)) c.object_given.ensures)
