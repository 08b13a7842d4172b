use Rattle.std.proofs.Common.{◌≡◌, Some, None, length, sym, ap, subst, ◌∙◌}
use Rattle.std.proofs.Common.{vec_capacity}
use Rattle.turn_book.specs.Told.{BookState, IsLawful, choice_of}
use Rattle.turn_book.proofs.Books.{lawful-told}
use Rattle.turn_book.proofs.Books.{choice-next, goes-on-book}
use Rattle.turn_book.proofs.Takes.{own-turn, answer-answer, answer-turn, answer-away}
use Rattle.turn_book.proofs.Takes.{not_yet-answer, not_yet-turn, not_yet-away}
use Rattle.turn_book.proofs.book.TurnBook.take.Goals as goal

pub returns-in-Some-clause-lawful : goal.returns-in-Some-clause-lawful
returns-in-Some-clause-lawful g c =
    let f = c.self.inside in
    let P : BookState → Type 0 = IsLawful in
    subst P c.self.view_is (lawful-told f.deal f.limit (g.P.Policy.plan f.policy) f.board
    f.trace.items f.next f.outcome (vec_capacity f.trace) c.self.invariant.0)

pub returns-in-Some-reason-clause-lawful : goal.returns-in-Some-reason-clause-lawful
returns-in-Some-reason-clause-lawful g c =
    let f = c.self.inside in
    let P : BookState → Type 0 = IsLawful in
    subst P c.self.view_is (lawful-told f.deal f.limit (g.P.Policy.plan f.policy) f.board
    f.trace.items f.next f.outcome (vec_capacity f.trace) c.self.invariant.0)

pub reason-requires : goal.reason-requires
reason-requires g c = let f = c.self.inside in
    goes-on-book f.deal f.limit (g.P.Policy.plan f.policy) f.board f.trace.items f.next f.outcome
    (vec_capacity f.trace) c.self.invariant.0 c.in_default.is

pub step-requires-clause-turn : goal.step-requires-clause-turn
step-requires-clause-turn g c = λ κs lives.
    let f = c.self.inside in
    let kept = c.self.invariant.0 in
    let running : (c.args.self.now).outcome ≡ None =
    ap (λ (b : BookState). b.outcome) (sym c.self.view_is) ∙ c.in_default.is in
    let chosen : choice_of c.args.self.now ≡ Some f.next =
    ap choice_of (sym c.self.view_is)
    ∙ choice-next f.deal f.limit (g.P.Policy.plan f.policy) f.board f.trace.items f.next
    f.outcome (vec_capacity f.trace) kept c.in_default.is in
    let turn = own-turn f.next c.args.thread
    (goes-on-book f.deal f.limit (g.P.Policy.plan f.policy) f.board f.trace.items f.next
    f.outcome (vec_capacity f.trace) kept c.in_default.is)
    (sym c.reason.ensures ∙ c.in-None.is) in
    chosen ∙ ap Some turn

pub returns-in-None-clause-answer : goal.returns-in-None-clause-answer
returns-in-None-clause-answer g c =
    let f = c.self.inside in
    let kept = c.self.invariant.0 in
    let running : (c.args.self.now).outcome ≡ None =
    ap (λ (b : BookState). b.outcome) (sym c.self.view_is) ∙ c.in_default.is in
    let chosen : choice_of c.args.self.now ≡ Some f.next =
    ap choice_of (sym c.self.view_is)
    ∙ choice-next f.deal f.limit (g.P.Policy.plan f.policy) f.board f.trace.items f.next
    f.outcome (vec_capacity f.trace) kept c.in_default.is in
    let turn = own-turn f.next c.args.thread
    (goes-on-book f.deal f.limit (g.P.Policy.plan f.policy) f.board f.trace.items f.next
    f.outcome (vec_capacity f.trace) kept c.in_default.is)
    (sym c.reason.ensures ∙ c.in-None.is) in
    answer-answer c.args.self.now c.args.thread f.next running chosen c.step.result turn

pub returns-in-None-clause-turn : goal.returns-in-None-clause-turn
returns-in-None-clause-turn g c =
    let f = c.self.inside in
    let kept = c.self.invariant.0 in
    let running : (c.args.self.now).outcome ≡ None =
    ap (λ (b : BookState). b.outcome) (sym c.self.view_is) ∙ c.in_default.is in
    let chosen : choice_of c.args.self.now ≡ Some f.next =
    ap choice_of (sym c.self.view_is)
    ∙ choice-next f.deal f.limit (g.P.Policy.plan f.policy) f.board f.trace.items f.next
    f.outcome (vec_capacity f.trace) kept c.in_default.is in
    let turn = own-turn f.next c.args.thread
    (goes-on-book f.deal f.limit (g.P.Policy.plan f.policy) f.board f.trace.items f.next
    f.outcome (vec_capacity f.trace) kept c.in_default.is)
    (sym c.reason.ensures ∙ c.in-None.is) in
    answer-turn c.args.self.now c.args.thread f.next running chosen _ turn

pub returns-in-None-clause-away : goal.returns-in-None-clause-away
returns-in-None-clause-away g c =
    let f = c.self.inside in
    let kept = c.self.invariant.0 in
    let running : (c.args.self.now).outcome ≡ None =
    ap (λ (b : BookState). b.outcome) (sym c.self.view_is) ∙ c.in_default.is in
    let chosen : choice_of c.args.self.now ≡ Some f.next =
    ap choice_of (sym c.self.view_is)
    ∙ choice-next f.deal f.limit (g.P.Policy.plan f.policy) f.board f.trace.items f.next
    f.outcome (vec_capacity f.trace) kept c.in_default.is in
    let turn = own-turn f.next c.args.thread
    (goes-on-book f.deal f.limit (g.P.Policy.plan f.policy) f.board f.trace.items f.next
    f.outcome (vec_capacity f.trace) kept c.in_default.is)
    (sym c.reason.ensures ∙ c.in-None.is) in
    answer-away c.args.self.now c.args.thread f.next running chosen _ turn

pub returns-in-None-clause-lawful : goal.returns-in-None-clause-lawful
returns-in-None-clause-lawful g c = c.step.ensures.lawful

pub returns-in-Some-reason-clause-answer : goal.returns-in-Some-reason-clause-answer
returns-in-Some-reason-clause-answer g c =
    let f = c.self.inside in
    let kept = c.self.invariant.0 in
    let running : (c.args.self.now).outcome ≡ None =
    ap (λ (b : BookState). b.outcome) (sym c.self.view_is) ∙ c.in_default.is in
    let chosen : choice_of c.args.self.now ≡ Some f.next =
    ap choice_of (sym c.self.view_is)
    ∙ choice-next f.deal f.limit (g.P.Policy.plan f.policy) f.board f.trace.items f.next
    f.outcome (vec_capacity f.trace) kept c.in_default.is in
    let long : c.len.result ≡ length (c.args.self.now).trace =
    c.len.ensures ∙ f.trace.ok.0 ∙ ap (λ (b : BookState). length b.trace) c.self.view_is in
    let why = sym c.reason.ensures ∙ c.in-Some-reason.is in
    not_yet-answer c.args.self.now c.args.thread f.next running chosen c.len.result
    c.in-Some-reason.because long why

pub returns-in-Some-reason-clause-turn : goal.returns-in-Some-reason-clause-turn
returns-in-Some-reason-clause-turn g c =
    let f = c.self.inside in
    let kept = c.self.invariant.0 in
    let running : (c.args.self.now).outcome ≡ None =
    ap (λ (b : BookState). b.outcome) (sym c.self.view_is) ∙ c.in_default.is in
    let chosen : choice_of c.args.self.now ≡ Some f.next =
    ap choice_of (sym c.self.view_is)
    ∙ choice-next f.deal f.limit (g.P.Policy.plan f.policy) f.board f.trace.items f.next
    f.outcome (vec_capacity f.trace) kept c.in_default.is in
    let long : c.len.result ≡ length (c.args.self.now).trace =
    c.len.ensures ∙ f.trace.ok.0 ∙ ap (λ (b : BookState). length b.trace) c.self.view_is in
    let why = sym c.reason.ensures ∙ c.in-Some-reason.is in
    not_yet-turn c.args.self.now c.args.thread f.next running chosen c.len.result
    c.in-Some-reason.because long why

pub returns-in-Some-reason-clause-away : goal.returns-in-Some-reason-clause-away
returns-in-Some-reason-clause-away g c =
    let f = c.self.inside in
    let kept = c.self.invariant.0 in
    let running : (c.args.self.now).outcome ≡ None =
    ap (λ (b : BookState). b.outcome) (sym c.self.view_is) ∙ c.in_default.is in
    let chosen : choice_of c.args.self.now ≡ Some f.next =
    ap choice_of (sym c.self.view_is)
    ∙ choice-next f.deal f.limit (g.P.Policy.plan f.policy) f.board f.trace.items f.next
    f.outcome (vec_capacity f.trace) kept c.in_default.is in
    let long : c.len.result ≡ length (c.args.self.now).trace =
    c.len.ensures ∙ f.trace.ok.0 ∙ ap (λ (b : BookState). length b.trace) c.self.view_is in
    let why = sym c.reason.ensures ∙ c.in-Some-reason.is in
    not_yet-away c.args.self.now c.args.thread f.next running chosen c.len.result
    c.in-Some-reason.because long why
