-- What a ranking's groups have from the rows, and that there is one ranking. The lemmas on
-- verdicts,
-- rows and groups that are handed on speak of definitions alone.
use Rattle.std.proofs.Common.{List, get_or, sym, subst, ◌≡◌}
use Rattle.std.specs.List.{All}
use Rattle.std.proofs.lemmas.List.Elements.{All-filter, filter_passes, Contains-get_or}
use Rattle.pct_ask.specs.declared.event.Row.{Row}
use Rattle.pct_ask.specs.declared.verdict.Verdict.{Verdict}
use Rattle.pct_ask.specs.SameVerdict.{same_verdict}
use Rattle.failure_rank.specs.Groups.{rows_with, IsGroup, IsRanking, RanksBefore}
use Rattle.failure_rank.specs.declared.group.Group.{Group}
use Rattle.failure_rank.proofs.Unique.{same_lists}
pub use Rattle.failure_rank.proofs.RowLemmas.{equal, same-true, same-false, SumsUp-more, SumsUp-one}
pub use Rattle.failure_rank.proofs.Counting.{verdict_cases}
pub use Rattle.failure_rank.proofs.Stable.{same_group}
pub use Rattle.failure_rank.proofs.Unique.{not_both}

group_has : (P : Verdict → Type 0) (rows : List Row) (g : Group) → IsGroup rows g
    → All (λ row. P row.verdict) rows → P g.verdict
group_has P rows g is each =
    let own = rows_with g.verdict rows in
    let some = is.sums.reached in
    let its : P (get_or own some.0 some.1).verdict =
    All-filter (λ (r : Row). same_verdict g.verdict r.verdict) (λ (r : Row). P r.verdict) rows
    each some.0 some.1 some.2 in
    subst P (sym (equal g.verdict (get_or own some.0 some.1).verdict
    (filter_passes (λ (r : Row). same_verdict g.verdict r.verdict) rows some.0 some.1 some.2)))
    its

-- what holds of each row's verdict holds of each group's
pub groups_have : (P : Verdict → Type 0) (rows : List Row) (groups : List Group)
    → IsRanking rows groups → All (λ row. P row.verdict) rows
    → All (λ group. P group.verdict) groups
groups_have P rows groups is each k d inside =
    group_has P rows (get_or groups k d)
    ((is.members (get_or groups k d)).0 (Contains-get_or groups k d inside)) each

-- there is one ranking of the rows
pub one_ranking : (rows : List Row) (groups other : List Group) → IsRanking rows groups
    → IsRanking rows other → other ≡ groups
one_ranking rows groups other is too =
    same_lists (RanksBefore rows) (not_both rows) other groups too.order is.order
    (λ g h. (is.members g).1 ((too.members g).0 h))
    (λ g h. (too.members g).1 ((is.members g).0 h))
