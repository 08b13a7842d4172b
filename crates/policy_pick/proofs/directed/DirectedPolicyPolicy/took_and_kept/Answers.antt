use Rattle.std.proofs.Common.{◌≡◌, ◌+◌, ◌<◌, [], ◌∷◌, ◌++◌, length, eqb, sym, ap, subst}
use Rattle.std.proofs.Common.{◌∙◌, arith}
use Rattle.std.proofs.lemmas.List.{get_or_read}
use Rattle.std.proofs.lemmas.List.Sums.{count_by-le-length}
use Rattle.rank_now.proofs.laws.GivenOnce.{ranks_by_moments-same, ranks_by_moments-free}
use Rattle.rank_now.specs.Rank.{ranks_by_moments}
use Rattle.policy_pick.specs.Choice.{choice_by_rank, KeepsChoices}
use Rattle.policy_pick.specs.Kept.{MomentsKept, MomentsStand, moments_plan, own_counts}
use Rattle.policy_pick.proofs.Moments.{own_counts-threads, own_counts-at, own_counts-after, step-is}
use Rattle.policy_pick.proofs.directed.DirectedPolicyPolicy.took_and_kept.Goals as goal

pub overflow_add-number : goal.overflow_add-number
overflow_add-number c =
    let f = c.self.inside in
    let schedule = c.requires.short.0 in
    let P : MomentsKept → Type 0 = λ kept. MomentsStand kept schedule in
    let stands = subst P (sym c.self.view_is) c.requires.short.1 in
    let order : f.ranks.order ≡ c.args.self.now.order =
    ap (λ (kept : MomentsKept). kept.order) c.self.view_is in
    let within : c.args.thread < length f.ranks.order =
    omega (arith, ap length order, c.requires.thread.1, c.requires.thread.2) in
    let long = own_counts-threads f.ranks.order schedule f.own.items stands.own in
    let read = get_or_read f.own.items c.args.thread c.index.result.now (omega arith)
    c.index.ensures 0 in
    let counted = own_counts-at f.ranks.order schedule f.own.items c.args.thread stands.own
    within in
    let few = count_by-le-length (λ taker. eqb taker c.args.thread) schedule in
    omega (arith, c.requires.short.2)

pub lower-requires-clause-low : goal.lower-requires-clause-low
lower-requires-clause-low c =
    let f = c.self.inside in
    let schedule = c.requires.short.0 in
    let P : MomentsKept → Type 0 = λ kept. MomentsStand kept schedule in
    let stands = subst P (sym c.self.view_is) c.requires.short.1 in
    let order : f.ranks.order ≡ c.args.self.now.order =
    ap (λ (kept : MomentsKept). kept.order) c.self.view_is in
    let within : c.args.thread < length f.ranks.order =
    omega (arith, ap length order, c.requires.thread.1, c.requires.thread.2) in
    let step = step-is f.ranks.order f.own.items f.moments.items c.deref.result.now schedule
    c.args.thread c.index.result.now c.index_of_moment-index.result stands.own within
    c.index.ensures c.deref.ensures.value c.index_of_moment-index.ensures in
    omega (arith, step.low, c.self.invariant.as_many)

pub lower-requires-clause-free : goal.lower-requires-clause-free
lower-requires-clause-free c =
    let f = c.self.inside in
    let schedule = c.requires.short.0 in
    let P : MomentsKept → Type 0 = λ kept. MomentsStand kept schedule in
    let stands = subst P (sym c.self.view_is) c.requires.short.1 in
    let order : f.ranks.order ≡ c.args.self.now.order =
    ap (λ (kept : MomentsKept). kept.order) c.self.view_is in
    let within : c.args.thread < length f.ranks.order =
    omega (arith, ap length order, c.requires.thread.1, c.requires.thread.2) in
    let step = step-is f.ranks.order f.own.items f.moments.items c.deref.result.now schedule
    c.args.thread c.index.result.now c.index_of_moment-index.result stands.own within
    c.index.ensures c.deref.ensures.value c.index_of_moment-index.ensures in
    ranks_by_moments-free f.ranks.order f.moments.items schedule c.args.thread
    c.self.invariant.is_order f.ranks.values c.index_of_moment-index.result c.if-index-gt0.true
    step.given stands.values

pub returns-then-index-gt0-clause-stands : goal.returns-then-index-gt0-clause-stands
returns-then-index-gt0-clause-stands c = λ schedule stood.
    let f = c.self.inside in
    let P : MomentsKept → Type 0 = λ kept. MomentsStand kept schedule in
    let stands = subst P (sym c.self.view_is) stood in
    let order : f.ranks.order ≡ c.args.self.now.order =
    ap (λ (kept : MomentsKept). kept.order) c.self.view_is in
    let within : c.args.thread < length f.ranks.order =
    omega (arith, ap length order, c.requires.thread.1, c.requires.thread.2) in
    let step = step-is f.ranks.order f.own.items f.moments.items c.deref.result.now schedule
    c.args.thread c.index.result.now c.index_of_moment-index.result stands.own within
    c.index.ensures c.deref.ensures.value c.index_of_moment-index.ensures in
    record {
      values =
          c.lower.ensures.by_moments f.ranks.order f.moments.items schedule stands.values step.given
          ∙ ap (λ order. ranks_by_moments order f.moments.items (schedule ++ c.args.thread ∷ []))
          (sym c.lower.ensures.order);
      own =
          own_counts-after f.ranks.order schedule f.own.items c.args.thread (c.index.result.now + 1)
          stands.own step.own
          ∙ ap (λ order. own_counts order (schedule ++ c.args.thread ∷ []))
          (sym c.lower.ensures.order);
    }

pub returns-else-index-gt0-clause-stands : goal.returns-else-index-gt0-clause-stands
returns-else-index-gt0-clause-stands c = λ schedule stood.
    let f = c.self.inside in
    let P : MomentsKept → Type 0 = λ kept. MomentsStand kept schedule in
    let stands = subst P (sym c.self.view_is) stood in
    let order : f.ranks.order ≡ c.args.self.now.order =
    ap (λ (kept : MomentsKept). kept.order) c.self.view_is in
    let within : c.args.thread < length f.ranks.order =
    omega (arith, ap length order, c.requires.thread.1, c.requires.thread.2) in
    let step = step-is f.ranks.order f.own.items f.moments.items c.deref.result.now schedule
    c.args.thread c.index.result.now c.index_of_moment-index.result stands.own within
    c.index.ensures c.deref.ensures.value c.index_of_moment-index.ensures in
    record {
      values =
          stands.values ∙ ranks_by_moments-same f.ranks.order f.moments.items schedule c.args.thread
          (omega (arith, c.if-index-gt0.false, step.given));
      own =
          own_counts-after f.ranks.order schedule f.own.items c.args.thread (c.index.result.now + 1)
          stands.own step.own;
    }

pub returns-else-index-gt0-clause-same : goal.returns-else-index-gt0-clause-same
returns-else-index-gt0-clause-same c = λ kept schedule stood.
    let f = c.self.inside in
    let P : MomentsKept → Type 0 = λ kept. MomentsStand kept schedule in
    let stands = subst P (sym c.self.view_is) stood in
    let order : f.ranks.order ≡ c.args.self.now.order =
    ap (λ (kept : MomentsKept). kept.order) c.self.view_is in
    let within : c.args.thread < length f.ranks.order =
    omega (arith, ap length order, c.requires.thread.1, c.requires.thread.2) in
    let step = step-is f.ranks.order f.own.items f.moments.items c.deref.result.now schedule
    c.args.thread c.index.result.now c.index_of_moment-index.result stands.own within
    c.index.ensures c.deref.ensures.value c.index_of_moment-index.ensures in
    let same = ranks_by_moments-same f.ranks.order f.moments.items schedule c.args.thread
    (omega (arith, c.if-index-gt0.false, step.given)) in
    let K : MomentsKept → Type 0 = λ kept.
    KeepsChoices (moments_plan kept) schedule c.args.thread in
    subst K c.self.view_is (λ chances. ap (λ rs. choice_by_rank rs chances) (sym same))
