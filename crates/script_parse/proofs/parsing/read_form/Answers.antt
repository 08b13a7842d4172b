use Rattle.std.proofs.Common.{refl, sym, ◌∙◌}
use Rattle.script_parse.specs.Lookahead.{place_ahead}
use Rattle.script_parse.specs.Seen.{all_seen}
use Rattle.script_parse.specs.SeenForms.{seen_form}
use Rattle.script_parse.specs.SeenParts.{seen_reader}
use Rattle.script_parse.proofs.BelowSteps.{below_fault, below_taken}
use Rattle.script_parse.proofs.ReadAnswers.{lawful_read, small_read}
use Rattle.script_parse.proofs.FormFaults.{no_fault_parts, in_range_lawful}
use Rattle.script_parse.proofs.parsing.read_form.Goals as goal

pub take-requires-clause-lawful : goal.take-requires-clause-lawful
take-requires-clause-lawful c =
    lawful_read c.args.reader.version (all_seen c.args.tokens.now) (seen_form c.args.form.now)
    c.requires

pub take-requires-clause-fits : goal.take-requires-clause-fits
take-requires-clause-fits c =
    in_range_lawful (all_seen c.args.tokens.now) (seen_form c.args.form.now)
    (no_fault_parts (seen_reader c.args.reader) (place_ahead c.args.ahead.now) c.args.last
    (all_seen c.args.tokens.now) (seen_form c.args.form.now)
    (sym c.fault_of.ensures ∙ c.in-None.is)).in_range

pub take-requires-clause-small : goal.take-requires-clause-small
take-requires-clause-small c =
    small_read c.args.reader.version (all_seen c.args.tokens.now) (seen_form c.args.form.now)
    c.requires
    (no_fault_parts (seen_reader c.args.reader) (place_ahead c.args.ahead.now) c.args.last
    (all_seen c.args.tokens.now) (seen_form c.args.form.now)
    (sym c.fault_of.ensures ∙ c.in-None.is)).in_range

pub take-requires-clause-room : goal.take-requires-clause-room
take-requires-clause-room c =
    (no_fault_parts (seen_reader c.args.reader) (place_ahead c.args.ahead.now) c.args.last
    (all_seen c.args.tokens.now) (seen_form c.args.form.now)
    (sym c.fault_of.ensures ∙ c.in-None.is)).few

pub returns-in-Some : goal.returns-in-Some
returns-in-Some c =
    c.bad.ensures
    ∙ below_fault c.args.reader.version (seen_reader c.args.reader)
    (place_ahead c.args.ahead.now) c.args.number c.args.last (all_seen c.args.tokens.now)
    (seen_form c.args.form.now) c.in-Some.kind refl c.requires
    (sym c.fault_of.ensures ∙ c.in-Some.is)

pub returns-in_ok-take-in-None : goal.returns-in_ok-take-in-None
returns-in_ok-take-in-None c =
    below_taken c.args.reader.version (seen_reader c.args.reader)
    (seen_reader c.in_ok-take-in-None.field-0) (place_ahead c.args.ahead.now) c.args.number
    c.args.last
    (all_seen c.args.tokens.now) (seen_form c.args.form.now) refl c.requires
    (sym c.fault_of.ensures ∙ c.in-None.is) c.in_ok-take-in-None.ensures

pub take-requires-clause-fresh : goal.take-requires-clause-fresh
take-requires-clause-fresh c =
    (no_fault_parts (seen_reader c.args.reader) (place_ahead c.args.ahead.now) c.args.last
    (all_seen c.args.tokens.now) (seen_form c.args.form.now)
    (sym c.fault_of.ensures ∙ c.in-None.is)).fresh
