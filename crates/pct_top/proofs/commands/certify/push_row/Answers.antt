use Rattle.std.proofs.Common.{◌≡◌, ℕ, List, [], ◌∷◌, ◌++◌, map, ap, subst, ◌∙◌}
use Rattle.std.specs.Prelude.{OnOk, codes, decimal}
use Rattle.pct_ask.specs.VerdictText.{thread_name}
use Rattle.pct_ask.specs.TraceText.{line_text}
use Rattle.trace_text.specs.Spaced.{behind_spaces}
use Rattle.pct_top.proofs.Spaced.{line-of-two}
use Rattle.pct_top.proofs.commands.certify.push_row.Goals as goal

pub returns : goal.returns
returns c =
    let old = c.args.out.now.items in
    let row = c.args.row.now in
    let named : List ℕ → List (List ℕ) = map (thread_name c.args.names.now) in
    let begun = old ++ codes "order" in
    let listed : c.push_names.new.out.items ≡ begun ++ behind_spaces (named row.order) =
    c.in_ok-push_names.ensures
    ∙ ap (λ (t : List ℕ). t ++ behind_spaces (named c.as_slice.result.now))
    c.in_ok-extend_from_slice.ensures.items
    ∙ ap (λ (order : List ℕ). begun ++ behind_spaces (named order)) c.as_slice.ensures in
    let whole : c.push.new.self.items ≡ (begun ++ behind_spaces (named row.order)) ++ 32 ∷ [] =
    c.in_ok-push.ensures.items ∙ ap (λ (t : List ℕ). t ++ 32 ∷ []) listed in
    let line : List ℕ → List ℕ = λ points. line_text (codes "points" ∷ map decimal points) in
    let P : List ℕ → Type 0 = λ t. OnOk c.push_points.result (c.push_points.new.out.items ≡ t) in
    subst P
    (ap (λ (t : List ℕ). t ++ line c.as_slice-2.result.now) whole
    ∙ ap (λ (points : List ℕ). ((begun ++ behind_spaces (named row.order)) ++ 32 ∷ [])
    ++ line points)
    c.as_slice-2.ensures
    ∙ line-of-two old (codes "order") (named row.order) (codes "points") (map decimal row.points))
    c.push_points.ensures
