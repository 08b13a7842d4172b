use Rattle.std.proofs.Common.{ℕ, ◌+◌, ◌*◌, length, ap, ◌∙◌, arith}
use Rattle.priority_draw.specs.Words.{SeedWords, words_later}
use Rattle.priority_draw.specs.Drawing.{draw}
use Rattle.priority_draw.proofs.WordLemmas.{draw-next, after-after}
use Rattle.priority_draw.proofs.DrawLemmas.{points-are, points-more}
use Rattle.priority_draw.proofs.words.Words.fill.Goals as goal

pub loop-point-preserved : goal.loop-point-preserved
loop-point-preserved c =
    let so_far = c.loop-point.invariant.words in
    let drawn = c.below.ensures.value
    ∙ ap (λ (w : SeedWords). draw w.seed w.place c.from.result) so_far
    ∙ draw-next c.args.self.now.seed c.args.self.now.place (2 * c.loop-point.point-index)
    c.from.result
    ∙ ap (λ (bound : ℕ). draw c.args.self.now.seed
    (c.args.self.now.place + 2 * c.loop-point.point-index) bound) c.from.ensures in
    record {
      words =
          c.below.ensures.words ∙ ap (λ (w : SeedWords). words_later w 2) so_far
          ∙ after-after c.args.self.now (2 * c.loop-point.point-index) 2
          (2 * (c.loop-point.point-index + 1)) (omega arith);
      points =
          points-more c.args.self.now.seed c.args.self.now.place c.args.steps
          c.loop-point.point-index (1 + c.below.result) c.loop-point.points (omega arith)
          c.loop-point.invariant.points (ap (λ d. 1 + d) drawn);
    }

pub returns-clause-points : goal.returns-clause-points
returns-clause-points c =
    points-are c.args.self.now.seed c.args.self.now.place c.args.steps (length c.args.points.now)
    c.loop-point.points (omega arith) (λ i within. c.loop-point.invariant.points i (omega arith))
