use Rattle.std.proofs.Common.{◌≡◌, ◌≤◌, ◌<◌, ℕ, List, length, ◌-◌, sym, subst, ap, ◌∙◌, arith}
use Rattle.std.specs.Prelude.{All}
use Rattle.std.proofs.lemmas.List.Elements.{All-weaker}
use Rattle.pct_ask.specs.NameLists.{NameLists}
use Rattle.pct_ask.specs.Limits.{IsStepCount}
use Rattle.script_tree.specs.ScriptSeen.{plain_script}
use Rattle.script_body.specs.Bodies.{bodies_of}
use Rattle.rank_now.specs.Order.{IsOrder}
use Rattle.rank_now.proofs.laws.KnownOrders.{known_order}
use Rattle.directive_find.specs.Found.{Finds}
use Rattle.pct_top.specs.Printed.{printed_text}
use Rattle.pct_top.specs.commands.Find.{last_of, found_text, IsWellFormed}
use Rattle.pct_top.specs.commands.KnownFinding.{IsKnownFinding}
use Rattle.pct_top.proofs.KnownFindings.{known-finding}
use Rattle.pct_top.proofs.commands.find.directive_of.Goals as goal

pub find-requires-clause-script : goal.find-requires-clause-script
find-requires-clause-script g c κs within =
    (plain_script c.args.test.now.script, c.args.test.now.is_ready)

pub find-requires-clause-order : goal.find-requires-clause-order
find-requires-clause-order g c κs within =
    subst IsOrder (sym c.as_slice-order.ensures)
    (known_order c.args.plan.order c.args.plan.is_order)

pub find-requires-clause-points : goal.find-requires-clause-points
find-requires-clause-points g c κs within =
    subst (All (λ point. 1 ≤ point)) (sym c.as_slice-points.ensures)
    (All-weaker IsStepCount (λ point. 1 ≤ point) (λ point fits. fits.0) c.args.plan.points
    c.args.plan.points_fit.1)

pub write_found-requires-clause-some : goal.write_found-requires-clause-some
write_found-requires-clause-some g c =
    let whole : length c.args.plan.order ≡ c.args.test.now.deal.threads = c.requires in
    let some : 1 ≤ c.args.test.now.deal.threads = c.args.test.now.deal.some_thread in
    omega (arith, ap length c.as_slice-order.ensures)

pub write_found-requires-clause-low : goal.write_found-requires-clause-low
write_found-requires-clause-low g c =
    let test = c.args.test.now in
    let order = c.args.plan.order in
    let names = (plain_script test.script).names in
    let whole : length order ≡ test.deal.threads = c.requires in
    let some : 1 ≤ test.deal.threads = test.deal.some_thread in
    let threads : test.deal.threads ≡ length names.threads = test.is_ready.is_deal.threads in
    let below : last_of order < length order =
    (known_order order c.args.plan.is_order).below (length order - 1) (omega arith) in
    let low : last_of order < length names.threads = omega arith in
    subst (λ (o : List ℕ). last_of o < length c.names.result.now.threads)
    (sym c.as_slice-order.ensures)
    (subst (λ (n : NameLists). last_of order < length n.threads) (sym c.names.ensures) low)

pub write_found-requires-clause-known : goal.write_found-requires-clause-known
write_found-requires-clause-known g c =
    let test = c.args.test.now in
    let ready = test.is_ready in
    let script = plain_script test.script in
    let L : ℕ → Type 0 = λ limit. Finds test.deal (bodies_of script) c.as_slice-order.result.now
    c.as_slice-points.result.now limit c.in_ok-found.found in
    let O : List ℕ → Type 0 = λ o. Finds test.deal (bodies_of script) o c.as_slice-points.result.now
    c.args.plan.limit c.in_ok-found.found in
    let P : List ℕ → Type 0 = λ p. Finds test.deal (bodies_of script) c.args.plan.order p
    c.args.plan.limit c.in_ok-found.found in
    let finds = subst P c.as_slice-points.ensures
    (subst O c.as_slice-order.ensures
    (subst L c.steps.ensures.number (c.in_ok-found.ensures script ready))) in
    subst (λ (names : NameLists). IsKnownFinding names c.in_ok-found.found) (sym c.names.ensures)
    (known-finding script test.deal ready.sound ready.is_deal c.args.plan.order
    c.args.plan.points c.args.plan.limit c.in_ok-found.found
    (sym c.requires) c.args.plan.points_fit.0
    (omega (arith, (c.steps.ensures.fits).1, c.steps.ensures.number))
    finds)

pub returns : goal.returns
returns g c =
    let test = c.args.test.now in
    let script = plain_script test.script in
    let found = c.in_ok-found.found in
    let L : ℕ → Type 0 = λ limit. Finds test.deal (bodies_of script) c.as_slice-order.result.now
    c.as_slice-points.result.now limit found in
    let O : List ℕ → Type 0 = λ o. Finds test.deal (bodies_of script) o c.as_slice-points.result.now
    c.args.plan.limit found in
    let P : List ℕ → Type 0 = λ p. Finds test.deal (bodies_of script) c.args.plan.order p
    c.args.plan.limit found in
    let finds = subst P c.as_slice-points.ensures
    (subst O c.as_slice-order.ensures
    (subst L c.steps.ensures.number (c.in_ok-found.ensures script test.is_ready))) in
    let written = c.in_ok-text.ensures.text
    ∙ ap (λ (names : NameLists). found_text names c.as_slice-order.result.now found)
    c.names.ensures
    ∙ ap (λ (order : List ℕ). found_text script.names order found) c.as_slice-order.ensures in
    let done = c.passes-done.ensures in
    let N : NameLists → Type 0 = λ names. IsWellFormed names c.as_slice-order.result.now found in
    let W : List ℕ → Type 0 = λ order. IsWellFormed script.names order found in
    let form = subst W c.as_slice-order.ensures
    (subst N c.names.ensures c.in_ok-text.ensures.form) in
    (found, finds, form, λ i. printed_text (written i) (done i))
