-- The count of a group that is there has room for one more.
use Rattle.std.proofs.Common.{◌+◌, ◌<◌, ◌^◌, sym}
use Rattle.std.specs.Bool.{⊤}
use Rattle.std.proofs.lemmas.Option.{MatchOption-at_some}
use Rattle.std.proofs.lemmas.Map.Entries.{All-lookup}
use Rattle.pct_ask.specs.SameVerdict.{same_verdict}
use Rattle.failure_rank.specs.declared.group.Group.{Group}
use Rattle.failure_rank.proofs.tally.add_failure.Goals as goal

pub with-group-requires : goal.with-group-requires
with-group-requires c =
    let Fits : Group → Type 0 = λ g. g.count + 1 < 2 ^ 32 in
    MatchOption-at_some ⊤ Fits c.in-Some.group.now (sym c.in-Some.ensures.value)
    (All-lookup Fits (same_verdict c.args.row.now.verdict) c.args.failures.now.entries
    c.requires)
