use Rattle.std.proofs.Common.{◌≡◌, ◌<◌, ◌-◌, List, Option, Some, ℕ, length, ap, sym, subst, ◌∙◌}
use Rattle.std.proofs.Common.{set}
use Rattle.std.proofs.Common.{arith}
use Rattle.std.proofs.lemmas.List.{get_or_read, length-set, with_items_is}
use Rattle.rank_now.specs.Ranking.{Ranking, AreLowered, AreAbove, AreAboveButOne}
use Rattle.rank_now.proofs.Holders.{values-positive, distinct-values, lowered-by}
use Rattle.rank_now.proofs.Holders.{freed-length}
use Rattle.rank_now.proofs.Words.{changed-one}
use Rattle.rank_now.proofs.laws.GivenOnce.{ranks-step, ranks_by_moments-step}
use Rattle.rank_now.proofs.ranks.Ranks.lower.Goals as goal

pub free-requires : goal.free-requires
free-requires c =
    let f = c.self.inside in
    let seen : f.values.items ≡ c.args.self.now.values =
    ap (λ (r : Ranking). r.values) c.self.view_is in
    let within : c.args.thread < length f.values.items =
    omega (arith, ap length seen, c.requires.thread) in
    omega (
      arith,
      values-positive f.order.items f.values.items f.lowered.items c.self.invariant.0 c.args.thread
          within,
      get_or_read f.values.items c.args.thread c.index.result.now within c.index.ensures 0,
    )

pub compare_again-requires-clause-others : goal.compare_again-requires-clause-others
compare_again-requires-clause-others c =
    let f = c.self.inside in
    let seen : f.values.items ≡ c.args.self.now.values =
    ap (λ (r : Ranking). r.values) c.self.view_is in
    let within : c.args.thread < length f.values.items =
    omega (arith, ap length seen, c.requires.thread) in
    let but_one = changed-one f.values.items f.above.items c.args.thread c.args.value within
    c.self.invariant.1 in
    let V : List ℕ → Type 0 = λ vs. AreAboveButOne vs f.above.items c.args.thread in
    let W : List ℕ → Type 0 = λ ws. AreAboveButOne c.deref.result.now ws c.args.thread in
    subst W (sym c.deref_mut-2.ensures.value) (subst V (sym c.deref.ensures.value) but_one)

pub invariant_of-self : goal.invariant_of-self
invariant_of-self c =
    let f = c.self.inside in
    let seen : f.values.items ≡ c.args.self.now.values =
    ap (λ (r : Ranking). r.values) c.self.view_is in
    let count : length f.lowered.items ≡ c.args.self.now.count =
    ap (λ (r : Ranking). r.count) c.self.view_is in
    let within : c.args.thread < length f.values.items =
    omega (arith, ap length seen, c.requires.thread) in
    let read = get_or_read f.values.items c.args.thread c.index.result.now within c.index.ensures
    0 in
    let let_go = rw c.deref_mut.ensures.value at c.free.ensures in
    let kept = lowered-by f.order.items f.values.items f.lowered.items c.self.invariant.0
    c.args.thread c.args.value c.index.result.now c.free.new.lowered within read let_go.low
    let_go.high c.requires.positive (omega (arith, c.requires.low)) (rw (sym seen) at
    c.requires.free) in
    let P : List (Option ℕ) → Type 0 = λ x. AreLowered f.order.items
    (set f.values.items c.args.thread c.args.value)
    (set x (c.args.value - 1) (Some c.args.thread)) in
    let long = freed-length f.order.items f.values.items f.lowered.items c.self.invariant.0
    c.index.result.now c.free.new.lowered let_go.low let_go.high in
    let now = set f.values.items c.args.thread c.args.value in
    let V : List ℕ → Type 0 = λ vs. AreAbove vs c.compare_again.new.above in
    let said = subst V c.deref.ensures.value c.compare_again.ensures in
    let as_many : length c.compare_again.new.above ≡ length f.above.items =
    said.threads ∙ length-set f.values.items c.args.thread c.args.value
    ∙ sym c.self.invariant.1.threads in
    let W : List ℕ → Type 0 = λ ws. AreAbove now ws in (
      subst P (sym (with_items_is f.lowered c.free.new.lowered
          (omega (arith, long, f.lowered.ok.0)))) kept,
      subst W (sym (with_items_is f.above c.compare_again.new.above
          (omega (arith, as_many, f.above.ok.0)))) said,
    )

pub returns-clause-distinct : goal.returns-clause-distinct
returns-clause-distinct c =
    let f = c.self.inside in
    let seen : f.values.items ≡ c.args.self.now.values =
    ap (λ (r : Ranking). r.values) c.self.view_is in
    let count : length f.lowered.items ≡ c.args.self.now.count =
    ap (λ (r : Ranking). r.count) c.self.view_is in
    let within : c.args.thread < length f.values.items =
    omega (arith, ap length seen, c.requires.thread) in
    let read = get_or_read f.values.items c.args.thread c.index.result.now within c.index.ensures
    0 in
    let let_go = rw c.deref_mut.ensures.value at c.free.ensures in
    distinct-values f.order.items (set f.values.items c.args.thread c.args.value)
    (set c.free.new.lowered (c.args.value - 1) (Some c.args.thread))
    (lowered-by f.order.items f.values.items f.lowered.items c.self.invariant.0 c.args.thread
    c.args.value c.index.result.now c.free.new.lowered within read let_go.low let_go.high
    c.requires.positive (omega (arith, c.requires.low)) (rw (sym seen) at c.requires.free))

pub returns-clause-by_points : goal.returns-clause-by_points
returns-clause-by_points c = λ order points schedule same is.
    let seen : c.self.inside.values.items ≡ c.args.self.now.values =
    ap (λ (r : Ranking). r.values) c.self.view_is in
    ranks-step order points schedule c.args.thread c.self.inside.values.items c.args.value
    (omega (arith, c.requires.positive)) is (seen ∙ same)

pub returns-clause-by_moments : goal.returns-clause-by_moments
returns-clause-by_moments c = λ order moments schedule same is.
    let seen : c.self.inside.values.items ≡ c.args.self.now.values =
    ap (λ (r : Ranking). r.values) c.self.view_is in
    ranks_by_moments-step order moments schedule c.args.thread c.self.inside.values.items
    c.args.value
    (omega (arith, c.requires.positive)) is (seen ∙ same)
