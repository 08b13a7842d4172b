-- The run is that of the book that the kit was opened with, or the order isn't one.
use Rattle.std.proofs.Common.{◌≡◌, Err, refl, ap, subst, ◌∙◌}
use Rattle.std.proofs.lemmas.Result.{IfOk-weaker}
use Rattle.turn_book.specs.Told.{BookState}
use Rattle.trace_text.specs.Trace.{head_of}
use Rattle.body_kit.specs.declared.error.KitError.{KitError}
use Rattle.kit_runs.specs.Runs.{IsRunOfBook, head_with}
use Rattle.kit_runs.proofs.Laws.{run-short}
use Rattle.rank_now.proofs.laws.Orders.{wrong_is_no_order}
use Rattle.kit_runs.proofs.running.run_program.Goals as goal

pub returns-in-Ok-clause-run : goal.returns-in-Ok-clause-run
returns-in-Ok-clause-run g c =
    let version = ap (λ v. head_with v c.args.order.now c.args.points.now c.args.limit)
    c.version_of-version.ensures in
    IfOk-weaker c.run_kit.result _ _ (λ file both. record {
      run = subst (λ (b : BookState). IsRunOfBook b file.events file.verdict) c.in-Ok.ensures.made
          both.0;
      header = ap head_of both.1 ∙ c.in_ok-header.ensures ∙ version;
    }) c.run_kit.ensures.run

pub returns-in-Ok-clause-short : goal.returns-in-Ok-clause-short
returns-in-Ok-clause-short g c =
    IfOk-weaker c.run_kit.result _ _ (λ file both.
    run-short _ file.events file.verdict
    (subst (λ (b : BookState). IsRunOfBook b file.events file.verdict) c.in-Ok.ensures.made both.0))
    c.run_kit.ensures.run

pub returns-in-Err-WrongCount-clause-refused : goal.returns-in-Err-WrongCount-clause-refused
returns-in-Err-WrongCount-clause-refused g c = λ same whole.
    let error = c.in-Err-WrongCount in
    let P : KitError → Type 0 = λ k. c.open.result ≡ Err k in
    let is = (c.open.ensures.wrong_count error.field-0-0 error.field-0-1).0
    (subst P error.field-0-is error.is) in
    is.wrong (record { bodies_fit = refl; order_fits = whole.whole })

pub returns-in-Err-NotAnOrder-clause-refused : goal.returns-in-Err-NotAnOrder-clause-refused
returns-in-Err-NotAnOrder-clause-refused g c = λ same whole.
    let error = c.in-Err-NotAnOrder in
    let P : KitError → Type 0 = λ k. c.open.result ≡ Err k in
    let is = (c.open.ensures.not_an_order error.field-0-0).0
    (subst P error.field-0-is error.is) in
    wrong_is_no_order c.args.order.now error.field-0-0 is.first whole.is
