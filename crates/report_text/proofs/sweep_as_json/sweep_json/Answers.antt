-- The value's compact text, and the line's end.
use Rattle.std.proofs.Common.{◌≡◌, ◌≤◌, List, ℕ, [], ◌∷◌, ◌++◌, false, Some, ap, sym, subst, ◌∙◌}
use Rattle.serde_json.specs.Data.{Data, depth}
use Rattle.serde_json.specs.Read.{max_depth}
use Rattle.serde_json.specs.View.{view}
use Rattle.serde_json.specs.Written.{compact_text, has_float}
use Rattle.report_text.specs.SweepData.{sweep_data}
use Rattle.report_text.proofs.SweepWritten.{sweep-text, sweep-no_float, sweep-few_deep}
use Rattle.report_text.proofs.sweep_as_json.sweep_json.Goals as goal

pub returns-clause-text : goal.returns-clause-text
returns-clause-text c =
    let frame = c.args.frame.now in
    let choices = c.args.choices in
    let groups = c.args.groups.now in
    let passed = c.args.passed in
    let names = c.args.names.now in
    let value : view c.in_ok-report.report ≡ sweep_data frame choices groups passed names =
    c.in_ok-report.ensures in
    let integers : has_float (view c.in_ok-report.report) ≡ false =
    ap has_float value ∙ sweep-no_float frame choices groups passed names in
    c.in_ok-push.ensures.items ∙ ap (λ (x : List ℕ). x ++ 10 ∷ [])
    (c.in_ok-text.ensures.text integers ∙ ap compact_text value
    ∙ sweep-text names c.count.ensures.lawful frame choices groups passed c.requires)

pub returns-clause-read : goal.returns-clause-read
returns-clause-read c =
    let frame = c.args.frame.now in
    let choices = c.args.choices in
    let groups = c.args.groups.now in
    let passed = c.args.passed in
    let names = c.args.names.now in
    let value : view c.in_ok-report.report ≡ sweep_data frame choices groups passed names =
    c.in_ok-report.ensures in
    let few : depth (view c.in_ok-report.report) ≤ max_depth =
    subst (λ (d : Data). depth d ≤ max_depth) (sym value)
    (sweep-few_deep frame choices groups passed names) in
    record {
      line = c.in_ok-text.text.items;
      ended = c.in_ok-push.ensures.items;
      reads = c.in_ok-text.ensures.reads_back few ∙ ap (λ (d : Data). Some d) value;
    }
