use Rattle.std.proofs.Common.{◌≡◌, ℤ, Some, None, length, refl, sym, ap, subst, ◌∙◌}
use Rattle.std.specs.Prelude.{is_some}
use Rattle.std.proofs.Common.{vec_capacity, rules, w64, to_z, of_z}
use Rattle.std.proofs.lemmas.Int.{to_z-of_z}
use Rattle.turn_book.specs.Told.{BookState, IsLawful, IsAnswered, choice_of}
use Rattle.turn_book.proofs.Books.{lawful-told}
use Rattle.turn_book.proofs.Books.{choice-next, goes-on-book}
use Rattle.turn_book.proofs.Takes.{none-by, own-turn, because-is, same-answer}
use Rattle.turn_book.proofs.book.TurnBook.take_turn.Goals as goal

pub returns-then-is_some-clause-over : goal.returns-then-is_some-clause-over
returns-then-is_some-clause-over g c =
    λ e. (
      sym (c.is_some.ensures ∙ ap (λ (b : BookState). is_some b.outcome) c.self.view_is)
          ∙ c.if-is_some.true,
      refl,
    )

pub returns-then-is_some-clause-lawful : goal.returns-then-is_some-clause-lawful
returns-then-is_some-clause-lawful g c =
    let f = c.self.inside in
    let P : BookState → Type 0 = IsLawful in
    subst P c.self.view_is (lawful-told f.deal f.limit (g.P.Policy.plan f.policy) f.board
    f.trace.items f.next f.outcome (vec_capacity f.trace) c.self.invariant.0)

pub returns-in-Some-clause-lawful : goal.returns-in-Some-clause-lawful
returns-in-Some-clause-lawful g c =
    let f = c.self.inside in
    let P : BookState → Type 0 = IsLawful in
    subst P c.self.view_is (lawful-told f.deal f.limit (g.P.Policy.plan f.policy) f.board
    f.trace.items f.next f.outcome (vec_capacity f.trace) c.self.invariant.0)

pub reason-requires : goal.reason-requires
reason-requires g c = let f = c.self.inside in
    goes-on-book f.deal f.limit (g.P.Policy.plan f.policy) f.board f.trace.items f.next f.outcome
    (vec_capacity f.trace) c.self.invariant.0 (none-by _ _ c.is_some.ensures c.if-is_some.false)

pub step-requires-clause-running : goal.step-requires-clause-running
step-requires-clause-running g c = λ κs lives.
    ap (λ (b : BookState). b.outcome) (sym c.self.view_is)
    ∙ none-by _ _ c.is_some.ensures c.if-is_some.false

pub step-requires-clause-turn : goal.step-requires-clause-turn
step-requires-clause-turn g c = λ κs lives.
    let f = c.self.inside in
    let kept = c.self.invariant.0 in
    let open_now : f.outcome ≡ None = none-by _ _ c.is_some.ensures c.if-is_some.false in
    let chosen : choice_of c.args.self.now ≡ Some f.next =
    ap choice_of (sym c.self.view_is)
    ∙ choice-next f.deal f.limit (g.P.Policy.plan f.policy) f.board f.trace.items f.next
    f.outcome (vec_capacity f.trace) kept open_now in
    let turn = own-turn f.next c.args.thread
    (goes-on-book f.deal f.limit (g.P.Policy.plan f.policy) f.board f.trace.items f.next
    f.outcome (vec_capacity f.trace) kept open_now) (sym c.reason.ensures ∙ c.in-None.is) in
    chosen ∙ ap Some turn

pub returns-in-None-clause-answer : goal.returns-in-None-clause-answer
returns-in-None-clause-answer g c = λ answer e.
    let f = c.self.inside in
    let kept = c.self.invariant.0 in
    let open_now : f.outcome ≡ None = none-by _ _ c.is_some.ensures c.if-is_some.false in
    let running : (c.args.self.now).outcome ≡ None =
    ap (λ (b : BookState). b.outcome) (sym c.self.view_is) ∙ open_now in
    let chosen : choice_of c.args.self.now ≡ Some f.next =
    ap choice_of (sym c.self.view_is)
    ∙ choice-next f.deal f.limit (g.P.Policy.plan f.policy) f.board f.trace.items f.next
    f.outcome (vec_capacity f.trace) kept open_now in
    let turn = own-turn f.next c.args.thread
    (goes-on-book f.deal f.limit (g.P.Policy.plan f.policy) f.board f.trace.items f.next
    f.outcome (vec_capacity f.trace) kept open_now) (sym c.reason.ensures ∙ c.in-None.is) in
    let same : c.step.result ≡ answer =
    sym (to_z-of_z w64 c.step.result (search rules))
    ∙ same-answer (to_z w64 (of_z w64 c.step.result)) answer e in (
      running,
      chosen ∙ ap Some turn,
      subst
          (λ (a : ℤ). IsAnswered c.args.self.now c.args.thread a c.step.new.self) same
          c.step.ensures.answered,
    )

pub returns-in-None-clause-lawful : goal.returns-in-None-clause-lawful
returns-in-None-clause-lawful g c = c.step.ensures.lawful

pub returns-in-Some-clause-not_yet : goal.returns-in-Some-clause-not_yet
returns-in-Some-clause-not_yet g c = λ at because e.
    let f = c.self.inside in
    let kept = c.self.invariant.0 in
    let open_now : f.outcome ≡ None = none-by _ _ c.is_some.ensures c.if-is_some.false in
    let running : (c.args.self.now).outcome ≡ None =
    ap (λ (b : BookState). b.outcome) (sym c.self.view_is) ∙ open_now in
    let chosen : choice_of c.args.self.now ≡ Some f.next =
    ap choice_of (sym c.self.view_is)
    ∙ choice-next f.deal f.limit (g.P.Policy.plan f.policy) f.board f.trace.items f.next
    f.outcome (vec_capacity f.trace) kept open_now in
    let long : c.len.result ≡ length (c.args.self.now).trace =
    c.len.ensures ∙ f.trace.ok.0 ∙ ap (λ (b : BookState). length b.trace) c.self.view_is in
    let why = sym c.reason.ensures ∙ c.in-Some.is in
    let n : c.len.result ≡ at = cc in
    let same : c.in-Some.because ≡ because = cc in (
      running,
      sym n ∙ long,
      because-is c.args.self.now c.args.thread f.next chosen because
          (why ∙ ap Some same),
      refl,
    )
