use Rattle.std.proofs.Common.{◌≡◌, ℕ, List, [], ◌∷◌, ◌++◌, map, ap, subst, ◌∙◌}
use Rattle.std.specs.Prelude.{OnOk, codes, decimal}
use Rattle.pct_ask.specs.VerdictText.{thread_name}
use Rattle.pct_ask.specs.TraceText.{line_text}
use Rattle.trace_text.specs.Spaced.{behind_spaces}
use Rattle.pct_top.specs.commands.Certify.{order_words}
use Rattle.pct_top.proofs.Spaced.{line-of-two, two-words}
use Rattle.pct_top.proofs.commands.certify.push_long.Goals as goal

pub returns : goal.returns
returns c =
    let old = c.args.out.now.items in
    let named = map (thread_name c.args.names.now) c.args.order.now in
    let words = order_words c.args.names.now c.args.order.now in
    let more : List (List ℕ) = decimal c.args.steps ∷ [] in
    let begun = old ++ codes "toolong" in
    let listed : c.push_names.new.out.items ≡ begun ++ behind_spaces words =
    c.in_ok-push_names.ensures
    ∙ ap (λ (t : List ℕ). t ++ behind_spaces named) c.in_ok-extend_from_slice.ensures.items
    ∙ two-words old (codes "toolong") (codes "order") (behind_spaces named) in
    let whole : c.push.new.self.items ≡ (begun ++ behind_spaces words) ++ 32 ∷ [] =
    c.in_ok-push.ensures.items ∙ ap (λ (t : List ℕ). t ++ 32 ∷ []) listed in
    let P : List ℕ → Type 0 = λ t. OnOk c.push_count.result (c.push_count.new.out.items ≡ t) in
    subst P
    (ap (λ (t : List ℕ). t ++ line_text (codes "steps" ∷ more)) whole
    ∙ line-of-two old (codes "toolong") words (codes "steps") more)
    c.push_count.ensures
