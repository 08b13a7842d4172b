use Rattle.std.proofs.Common.{ℕ, ap, ◌∙◌}
use Rattle.priority_draw.specs.Words.{SeedWords, number_at}
use Rattle.priority_draw.specs.Drawing.{scale}
use Rattle.priority_draw.proofs.WordLemmas.{two-words}
use Rattle.priority_draw.proofs.words.Words.below.Goals as goal

pub returns-clause-value : goal.returns-clause-value
returns-clause-value c =
    c.scale.ensures.value
    ∙ ap (λ (n : ℕ). scale n c.args.bound)
    (ap (λ (p : _). p.0) c.next_u64_via_u32.ensures
    ∙ two-words c.self.inside.generator c.self.invariant
    ∙ ap (λ (w : SeedWords). number_at w.seed w.place) c.self.view_is)
