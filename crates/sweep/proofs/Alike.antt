-- Rows that are told more often or less often have the same ranking, where of each verdict there
-- are
-- as many, as long ones, and the same first one.
use Rattle.std.specs.Prelude.{slice_get}
use Rattle.std.specs.Option.{option_map}
use Rattle.std.proofs.Common.{◌≡◌, ℕ, ◌≤◌, Option, Some, List, length, get_or}
use Rattle.std.proofs.Common.{sym, ap, ◌∙◌, arith}
use Rattle.std.proofs.lemmas.Option.{slice_get_within, slice_get-get_or}
use Rattle.std.proofs.lemmas.List.Elements.{Contains-get_or}
use Rattle.pct_ask.specs.declared.event.Row.{Row}
use Rattle.pct_ask.specs.declared.verdict.Verdict.{Verdict}
use Rattle.failure_rank.specs.declared.group.Group.{Group}
use Rattle.failure_rank.specs.Groups.{rows_with, SumsUp, IsGroup, RanksBefore, IsRanking}
use Rattle.failure_rank.specs.Groups.{MoreOften, Shorter, Lower, Earlier, earliest}
use Rattle.sweep.proofs.Lists.{at-place, got}

-- each row of the one has as long a row in the other
abbrev pub HasLengths : List Row → List Row → Type 0
HasLengths xs ys = (k : ℕ) (a : Row) → slice_get xs k ≡ Some a
    → (j : ℕ) × (b : Row) × (slice_get ys j ≡ Some b) × (b.steps ≡ a.steps)

abbrev pub first_seed : List Row → Option ℕ
first_seed rows = option_map (λ row. row.seed) (slice_get rows 0)

pub record AreAlike (xs ys : List Row) : Type 0 where
  pub long : length xs ≡ length ys
  pub there : HasLengths xs ys
  pub back : HasLengths ys xs
  pub first : first_seed xs ≡ first_seed ys

turned : (xs ys : List Row) → AreAlike xs ys → AreAlike ys xs
turned xs ys are = record {
  long = sym are.long;
  there = are.back;
  back = are.there;
  first = sym are.first;
}

sums-alike : (xs ys : List Row) (group : Group) → AreAlike xs ys → SumsUp xs group
    → SumsUp ys group
sums-alike xs ys group are sums =
    let some = sums.reached in
    let found = are.there some.0 some.1 (at-place xs some.0 some.1 some.2 some.3) in
    record {
      count = sums.count ∙ are.long;
      reached = (
        found.0,
        found.1,
        slice_get_within ys found.0 found.1 found.2,
        got ys found.0 found.1 found.1 found.2,
        found.3 ∙ some.4,
      );
      least = λ k d inside.
          let b = get_or ys k d in
          let own = are.back k b (slice_get-get_or ys k d inside) in
          let low : group.steps ≤ (get_or xs own.0 d).steps =
          sums.least own.0 d (slice_get_within xs own.0 own.1 own.2) in
          let same : get_or xs own.0 d ≡ own.1 = got xs own.0 own.1 d own.2 in
          omega (arith, low, ap (λ (r : Row). r.steps) same, own.3);
      first = sym are.first ∙ sums.first;
    }

group-alike : (xs ys : List Row) (group : Group)
    → ((v : Verdict) → AreAlike (rows_with v xs) (rows_with v ys)) → IsGroup xs group
    → IsGroup ys group
group-alike xs ys group are is = record {
  failed = is.failed;
  sums = sums-alike (rows_with group.verdict xs) (rows_with group.verdict ys) group
      (are group.verdict) is.sums;
}

module _ (xs ys : List Row) (groups : List Group)
    (are : (v : Verdict) → AreAlike (rows_with v xs) (rows_with v ys))
    (one : (a b : Group) → IsGroup xs a → IsGroup xs b → a.first ≡ b.first
    → a.verdict ≡ b.verdict) where
  before : (a b : Group) → IsGroup xs a → IsGroup xs b → RanksBefore xs a b → RanksBefore ys a b
  before a b is too (MoreOften more) = MoreOften more
  before a b is too (Shorter often shorter) = Shorter often shorter
  before a b is too (Lower often long lower) = Lower often long lower
  before a b is too (Earlier often long seed earlier) =
      absurd (omega (arith, earlier, ap (earliest xs) (one a b is too seed)))

  pub ranking-alike : IsRanking xs groups → IsRanking ys groups
  ranking-alike is = record {
    members = λ group. (
      λ there. group-alike xs ys group are ((is.members group).0 there),
      λ own. (is.members group).1 (group-alike ys xs group
          (λ v. turned (rows_with v xs) (rows_with v ys) (are v)) own),
    );
    order = λ i j d less inside.
        before (get_or groups i d) (get_or groups j d)
        ((is.members (get_or groups i d)).0
        (Contains-get_or groups i d (omega (arith, less, inside))))
        ((is.members (get_or groups j d)).0 (Contains-get_or groups j d inside))
        (is.order i j d less inside);
  }
