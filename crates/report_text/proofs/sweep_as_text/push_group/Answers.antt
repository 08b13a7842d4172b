-- The words of the group's line, each with a space behind it, and the verdict with the line's end.
use Rattle.std.proofs.Common.{◌≡◌, ℕ, List, [], ◌∷◌, ◌++◌, map, ap, ◌∙◌, subst}
use Rattle.std.specs.Prelude.{OnOk, codes, decimal}
use Rattle.pct_ask.specs.VerdictText.{thread_name, named_verdict, verdict_text}
use Rattle.report_text.specs.SweepText.{spaced}
use Rattle.report_text.proofs.Spaced.{group-line}
use Rattle.report_text.proofs.sweep_as_text.push_group.Goals as goal

-- what is written before a text, and the text
abbrev and_then : List ℕ → List ℕ → List ℕ
and_then text written = written ++ text

pub returns : goal.returns
returns c =
    let names = c.args.names.now in
    let group = c.args.group.now in
    let old = c.args.out.now.items in
    let word : List ℕ → List ℕ = λ w. w ++ 32 ∷ [] in
    let named : List ℕ → List ℕ = λ order. spaced (map (thread_name names) order) in
    let pointed : List ℕ → List ℕ = λ points. spaced (map decimal points) in
    let ordered = ((old ++ word (decimal group.count)) ++ word (decimal group.steps))
    ++ word (codes "order") in
    let counted : c.push_number.new.out.items ≡ old ++ word (decimal group.count) =
    c.in_ok-push_number.ensures ∙ ap (λ (n : ℕ). old ++ word (decimal n)) c.from.ensures in
    let stepped : c.push_number-2.new.out.items
    ≡ (old ++ word (decimal group.count)) ++ word (decimal group.steps) =
    c.in_ok-push_number-2.ensures ∙ ap (and_then (word (decimal c.from-2.result))) counted
    ∙ ap (λ (n : ℕ). (old ++ word (decimal group.count)) ++ word (decimal n)) c.from-2.ensures in
    let upto_order : c.push_word.new.out.items ≡ ordered =
    c.in_ok-push_word.ensures ∙ ap (and_then (word (codes "order"))) stepped in
    let upto_points : c.push_word-2.new.out.items
    ≡ (ordered ++ named group.order) ++ word (codes "points") =
    c.in_ok-push_word-2.ensures ∙ ap (and_then (word (codes "points"))) (c.in_ok-push_names.ensures
    ∙ ap (and_then (named c.as_slice.result.now)) upto_order
    ∙ ap (λ (order : List ℕ). ordered ++ named order) c.as_slice.ensures) in
    let listed = (ordered ++ named group.order) ++ word (codes "points") in
    let upto_verdict : c.push_word-3.new.out.items
    ≡ (listed ++ pointed group.points) ++ word (codes "verdict") =
    c.in_ok-push_word-3.ensures ∙ ap (and_then (word (codes "verdict")))
    (c.in_ok-push_points.ensures ∙ ap (and_then (pointed c.as_slice-2.result.now)) upto_points
    ∙ ap (λ (points : List ℕ). listed ++ pointed points) c.as_slice-2.ensures) in
    let P : List ℕ → Type 0 = λ t. OnOk c.push_verdict.result (c.push_verdict.new.out.items ≡ t) in
    subst P
    (ap (and_then (verdict_text names group.verdict ++ 10 ∷ [])) upto_verdict
    ∙ group-line old (decimal group.count) (decimal group.steps) (codes "order") (codes "points")
    (codes "verdict") (map (thread_name names) group.order) (map decimal group.points)
    (named_verdict names group.verdict))
    c.push_verdict.ensures
