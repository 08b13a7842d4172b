use Rattle.std.proofs.Common.{◌≡◌, ℕ, List, ◌∙◌, sym, subst, arith}
use Rattle.std.specs.List.{All}
use Rattle.priority_draw.specs.Drawing.{drawn_points, IsStepOfPoint}
use Rattle.std.proofs.lemmas.Grind.{common_steps}
use Rattle.priority_draw.proofs.DrawLemmas.{points-steps, seed-points}
use Rattle.priority_draw.proofs.words.Words.draw_points.Goals as goal

value : (c : goal.After-from_vec) → c.from_vec.result
    ≡ drawn_points c.args.self.now.seed c.args.self.now.place c.args.steps c.args.count
value c = grind (arith, common_steps)

pub returns-clause-steps : goal.returns-clause-steps
returns-clause-steps c =
    let P : List ℕ → Type 0 = λ points. All (IsStepOfPoint c.args.steps) points in
    subst P (sym (value c)) (points-steps c.args.self.now.seed c.args.self.now.place c.args.steps
    c.args.count c.requires.some_step)

pub returns-clause-of_seed : goal.returns-clause-of_seed
returns-clause-of_seed c =
    λ seed threads depth stand deep. value c
    ∙ seed-points c.args.self.now c.args.steps c.args.count depth seed threads stand deep
