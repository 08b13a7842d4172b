-- The second line is the first piece of what is left, and its name is a thread's or is not.
use Rattle.std.proofs.Common.{sym, ◌∙◌, ap, Some, None}
use Rattle.std.specs.Option.{option_copied}
use Rattle.directive.proofs.Bodies.{second-found, fails-by}
use Rattle.directive.proofs.reading.read_low.Goals as goal

pub returns-in-Some : goal.returns-in-Some
returns-in-Some c =
    let says = sym c.in_ok-name.ensures ∙ ap option_copied c.in-Some-Some.is-0 in
    let found = sym c.find.ensures.place ∙ c.in-Some.is in
    second-found c.args.names.now _ c.cut_line.result.0.now c.in-Some-Some.name.now
    c.cut_line.result.1 c.in-Some-Some.after (Some c.in-Some.low) c.cut_line.ensures.pieces
    c.in-Some-Some.is-1 says found

pub returns-in-None : goal.returns-in-None
returns-in-None c =
    let says = sym c.in_ok-name.ensures ∙ ap option_copied c.in-Some-Some.is-0 in
    let found = sym c.find.ensures.place ∙ c.in-None.is in
    fails-by c.bad-in-None.result 2 _ _ c.bad-in-None.ensures
    (second-found c.args.names.now _ c.cut_line.result.0.now c.in-Some-Some.name.now
    c.cut_line.result.1 c.in-Some-Some.after None c.cut_line.ensures.pieces c.in-Some-Some.is-1
    says found)
