use Rattle.std.proofs.Common.{◌≡◌, ◌<◌, length, ap, eqb-true, eq-eqb, get_or, sym, ◌∙◌, arith}
use Rattle.std.specs.Prelude.{bit_and}
use Rattle.std.proofs.lemmas.List.{get_or_read}
use Rattle.rank_now.specs.Ranking.{Ranking}
use Rattle.rank_now.proofs.Holders.{distinct-values}
use Rattle.rank_now.proofs.Words.{outranks-is}
use Rattle.rank_now.proofs.ranks.Ranks.outranks.Goals as goal

pub returns-clause-outranks : goal.returns-clause-outranks
returns-clause-outranks c =
    let f = c.self.inside in
    let seen : f.values.items ≡ c.args.self.now.values =
    ap (λ (r : Ranking). r.values) c.self.view_is in
    let lowered = c.self.invariant.0 in
    let above = c.self.invariant.1 in
    let within : c.args.thread < length f.values.items =
    omega (arith, ap length seen, c.requires) in
    let read : c.index.result.now ≡ get_or f.above.items c.args.thread 0 =
    get_or_read f.above.items c.args.thread c.index.result.now (omega (arith, above.threads))
    c.index.ensures 0 in
    let both : bit_and c.index.result.now c.args.others
    ≡ bit_and (get_or f.above.items c.args.thread 0) c.args.others =
    ap (λ w. bit_and w c.args.others) read in
    let is = outranks-is f.values.items f.above.items c.args.thread c.args.others
    (omega (arith, lowered.threads, lowered.few_threads)) within above c.ranges.others.fits in
    let seen_is = rw seen at is in (
      (λ yes. seen_is.0 (sym both
          ∙ eqb-true (bit_and c.index.result.now c.args.others) 0 yes)),
      λ none. eq-eqb (bit_and c.index.result.now c.args.others) 0 (both ∙ seen_is.1 none),
    )

pub returns-clause-distinct : goal.returns-clause-distinct
returns-clause-distinct c =
    let f = c.self.inside in
    let seen : f.values.items ≡ c.args.self.now.values =
    ap (λ (r : Ranking). r.values) c.self.view_is in
    rw (sym seen) (distinct-values f.order.items f.values.items f.lowered.items c.self.invariant.0)
