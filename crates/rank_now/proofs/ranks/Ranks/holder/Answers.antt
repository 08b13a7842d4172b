use Rattle.std.proofs.Common.{◌≡◌, ◌≢◌, ◌+◌, ◌-◌, ◌<◌, ◌≤◌, length, get_or, ap, sym, subst}
use Rattle.std.proofs.Common.{eq-eqb, ◌∙◌, arith}
use Rattle.std.specs.Bool.{then_some}
use Rattle.std.specs.Option.{IsNone}
use Rattle.std.proofs.lemmas.List.{get_or_read}
use Rattle.rank_now.specs.Ranking.{Ranking}
use Rattle.rank_now.proofs.Holders.{distinct-values, nobody-has}
use Rattle.rank_now.proofs.ranks.Ranks.holder.Goals as goal

pub returns-clause-none : goal.returns-clause-none
returns-clause-none c = λ none.
    let f = c.self.inside in
    let seen : f.values.items ≡ c.args.self.now.values =
    ap (λ (r : Ranking). r.values) c.self.view_is in
    let low : length f.lowered.items ≡ c.args.self.now.count =
    ap (λ (r : Ranking). r.count) c.self.view_is in
    let top : c.greatest.result ≡ length f.lowered.items + length f.order.items =
    omega (arith, c.greatest.ensures.value, low, ap length seen, c.self.invariant.0.threads) in
    let within : c.args.value ≤ c.greatest.result =
    omega (arith, c.greatest.ensures.value, c.requires.within) in
    let high : length f.lowered.items < c.args.value =
    omega (arith, c.if-value-low.false, c.len-low.ensures, c.self.invariant.0.few_values) in
    let place : c.index-thread.result.now
    ≡ get_or f.order.items (length f.lowered.items + length f.order.items - c.args.value) 0 =
    get_or_read f.order.items (c.greatest.result - c.args.value) c.index-thread.result.now
    (omega arith) c.index-thread.ensures 0
    ∙ ap (λ x. get_or f.order.items (x - c.args.value) 0) top in
    let at : get_or f.order.items (length f.lowered.items + length f.order.items - c.args.value) 0
    < length f.values.items =
    omega (
      arith,
      c.self.invariant.0.is_order.below
          (length f.lowered.items + length f.order.items - c.args.value)
          (omega (arith, top)),
      c.self.invariant.0.threads,
    ) in
    let not : get_or f.values.items (get_or f.order.items
    (length f.lowered.items + length f.order.items - c.args.value) 0) 0 ≢ c.args.value = λ e.
    let read = get_or_read f.values.items c.index-thread.result.now c.index-2.result.now
    (omega (arith, place, at)) c.index-2.ensures 0 in
    let same : c.index-2.result.now ≡ c.args.value =
    read ∙ ap (λ x. get_or f.values.items x 0) place ∙ e in
    let gone = subst IsNone (c.then_some.ensures
    ∙ ap (λ b. then_some b c.index-thread.result.now)
    (eq-eqb c.index-2.result.now c.args.value same)) none in
    cc in
    rw (sym seen) (nobody-has f.order.items f.values.items f.lowered.items c.self.invariant.0
    c.args.value high (omega (arith, top)) not)

pub returns-clause-distinct : goal.returns-clause-distinct
returns-clause-distinct c =
    let f = c.self.inside in
    let seen : f.values.items ≡ c.args.self.now.values =
    ap (λ (r : Ranking). r.values) c.self.view_is in
    rw (sym seen) (distinct-values f.order.items f.values.items f.lowered.items c.self.invariant.0)

pub returns-then-value-low-clause-distinct : goal.returns-then-value-low-clause-distinct
returns-then-value-low-clause-distinct c =
    let f = c.self.inside in
    let seen : f.values.items ≡ c.args.self.now.values =
    ap (λ (r : Ranking). r.values) c.self.view_is in
    rw (sym seen) (distinct-values f.order.items f.values.items f.lowered.items c.self.invariant.0)
