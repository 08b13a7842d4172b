use Rattle.std.proofs.Common.{rules, false, List, map, length, refl, sym, ap, subst, ◌∙◌, arith}
use Rattle.std.proofs.lemmas.List.{length-map}
use Rattle.pct_ask.specs.declared.ask.Ask.{Ask}
use Rattle.pct_ask.specs.Objects.{sizes_of_deal}
use Rattle.pct_ask.specs.Bodies.{AreInRange}
use Rattle.test_runs.specs.OneStep.{once_pending}
use Rattle.test_runs.specs.declared.runs.batches.Once.{Once}
use Rattle.test_runs.proofs.Ranges.{onces-within}
use Rattle.test_runs.proofs.runs.batches.once_test.Goals as goal

pub returns : goal.returns
returns c =
    let sizes = sizes_of_deal c.in_ok-deal.deal in
    let made = c.in_ok-bodies.ensures in
    let new : Ask → Once = λ ask. record { ask = ask; asked = false } in
    let R : List Once → Type 0 =
    λ l. AreInRange sizes (map (λ (b : Once). once_pending b.ask 7 b.asked) l) in
    record {
      stands = c.in_ok-deal.ensures.stands;
      speaks = c.in_ok-deal.ensures.speaks;
      bodies = ap length made ∙ length-map c.args.asks.now new
          ∙ sym (c.in_ok-deal.ensures.threads ∙ search rules);
      in_range = subst R (sym made) (onces-within sizes
          (omega (arith, c.in_ok-deal.ensures.vars)) (omega (arith, c.in_ok-deal.ensures.sems))
          7 (λ (b : Once). b.ask) (λ (b : Once). b.asked) new (λ a. refl)
          c.args.asks.now c.requires.deeds);
    }
