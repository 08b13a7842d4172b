-- A stable sort of what was counted.
use Rattle.std.proofs.Common.{◌≡◌, ℕ, List, subst, rules}
use Rattle.pct_ask.specs.declared.event.Row.{Row}
use Rattle.failure_rank.specs.Groups.{IsRanking}
use Rattle.failure_rank.specs.Growing.{IsTally}
use Rattle.failure_rank.specs.declared.group.Group.{Group}
use Rattle.std.specs.List.Sorted.{IsPermutation, IsStableBy}
use Rattle.std.specs.Map.{values_of}
use Rattle.std.specs.declared.cmp.Reverse.{Reverse}
use Rattle.std.proofs.lemmas.List.Sorted.{answers_always}
use Rattle.failure_rank.proofs.Stable.{ranking, comes_first}
use Rattle.failure_rank.proofs.Laws.{one_ranking}
use Rattle.failure_rank.proofs.tally.Tally.into_groups.Goals as goal

abbrev key_of : Group → Reverse ℕ × ℕ × ℕ
key_of g = (record { 0 = g.count }, g.steps, g.first)

pub returns : goal.returns
returns c =
    let entries = c.args.self.failures.entries in
    let collected : c.in_ok-groups.groups.items ≡ values_of entries = search rules in
    let is : (rows : List Row) → IsTally rows c.args.self → IsRanking rows c.from_vec.result =
    λ rows tally.
    let computes = answers_always _ (λ a r. r ≡ key_of a.0.now) _
    (λ f a r g called. search rules) in
    rw (c.from_vec.ensures) (ranking rows entries tally.failures c.sort_by_key.new.self.items
    (subst (λ groups. IsPermutation groups c.sort_by_key.new.self.items) collected
    c.in_ok-sort_by_key.ensures.permutation)
    (c.in_ok-sort_by_key.ensures.sorted key_of computes)
    (subst (λ groups. IsStableBy comes_first groups c.sort_by_key.new.self.items) collected
    (c.in_ok-sort_by_key.ensures.stable key_of computes))) in
    record {
      ranking = is;
      only = λ rows tally other too.
          one_ranking rows c.from_vec.result other (is rows tally) too;
    }
