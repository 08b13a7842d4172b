use Rattle.std.proofs.Common.{◌≡◌, ℕ, ◌+◌, ◌-◌, ◌*◌, ap, ◌∙◌, length, arith}
use Rattle.priority_draw.specs.Words.{SeedWords, words_later}
use Rattle.priority_draw.specs.Drawing.{draw}
use Rattle.priority_draw.proofs.WordLemmas.{draw-next, after-after}
use Rattle.priority_draw.proofs.DrawLemmas.{drawn-last, drawn-step, part-moved}
use Rattle.priority_draw.proofs.words.Words.take_out.Goals as goal

pub loop-taken-preserved : goal.loop-taken-preserved
loop-taken-preserved c =
    let so_far = c.loop-taken.invariant.words in
    let taken = c.loop-taken.taken in
    let bound : length c.loop-taken.threads - taken ≡ length c.args.threads.now - taken =
    omega arith in
    let drawn = c.below-place.ensures.value
    ∙ ap (λ (w : SeedWords). draw w.seed w.place (length c.loop-taken.threads - taken)) so_far
    ∙ draw-next c.args.self.now.seed c.args.self.now.place (2 * taken)
    (length c.loop-taken.threads - taken)
    ∙ ap (λ (b : ℕ). draw c.args.self.now.seed (c.args.self.now.place + 2 * taken) b) bound in
    record {
      words =
          c.below-place.ensures.words ∙ ap (λ (w : SeedWords). words_later w 2) so_far
          ∙ after-after c.args.self.now (2 * taken) 2 (2 * (taken + 1)) (omega arith);
      order =
          drawn-step c.args.self.now.seed c.args.self.now.place (length c.args.threads.now) taken
          c.below-place.result c.loop-taken.threads _ (omega arith) drawn
          c.loop-taken.invariant.order
          (part-moved c.loop-taken.threads c.to_front.new.remaining taken c.below-place.result
          c.to_front.ensures);
    }

pub returns-clause-order : goal.returns-clause-order
returns-clause-order c =
    drawn-last c.args.self.now.seed c.args.self.now.place (length c.args.threads.now)
    c.loop-taken.taken c.loop-taken.threads (omega arith) c.loop-taken.invariant.order
