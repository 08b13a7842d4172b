use Rattle.std.proofs.Common.{◌≡◌, Some, None, sym, ap, ◌∙◌}
use Rattle.std.proofs.Common.{vec_capacity}
use Rattle.std.proofs.lemmas.Bool.{false≢true}
use Rattle.std.specs.Prelude.{is_some}
use Rattle.turn_book.specs.Told.{BookState, choice_of}
use Rattle.policy_pick.specs.declared.chance.Pick.TheVariants.{Waits}
use Rattle.turn_book.proofs.Books.{choice-next}
use Rattle.turn_book.proofs.Takes.{none-by}
use Rattle.turn_book.proofs.book.TurnBook.awaited.Goals as goal

pub returns-then-is_some : goal.returns-then-is_some
returns-then-is_some g c = λ u.
    let says : c.is_some.result ≡ is_some (c.args.self.now).outcome =
    c.is_some.ensures ∙ ap (λ (b : BookState). is_some b.outcome) c.self.view_is in (
      (λ e. absurd cc),
      (λ w. absurd (false≢true
          (ap is_some (sym w.0) ∙ sym says ∙ c.if-is_some.true))),
    )

pub returns-in-Waits : goal.returns-in-Waits
returns-in-Waits g c = λ u.
    let f = c.self.inside in
    let t = c.in-Waits.thread in
    let open_now : f.outcome ≡ None = none-by _ _ c.is_some.ensures c.if-is_some.false in
    let running : (c.args.self.now).outcome ≡ None =
    ap (λ (b : BookState). b.outcome) (sym c.self.view_is) ∙ open_now in
    let chosen : choice_of c.args.self.now ≡ Some (Waits t) =
    ap choice_of (sym c.self.view_is)
    ∙ choice-next f.deal f.limit (g.P.Policy.plan f.policy) f.board f.trace.items f.next
    f.outcome (vec_capacity f.trace) c.self.invariant.0 open_now ∙ ap Some c.in-Waits.is in (
      (λ e. (running, chosen ∙ (let same : t ≡ u = cc in ap (λ k. Some (Waits k)) same))),
      (λ w. let both = sym chosen ∙ w.1 in let same : t ≡ u = cc in ap Some same),
    )

pub returns-in_default : goal.returns-in_default
returns-in_default g c = λ u.
    let f = c.self.inside in
    let open_now : f.outcome ≡ None = none-by _ _ c.is_some.ensures c.if-is_some.false in
    let chosen : choice_of c.args.self.now ≡ Some f.next =
    ap choice_of (sym c.self.view_is)
    ∙ choice-next f.deal f.limit (g.P.Policy.plan f.policy) f.board f.trace.items f.next
    f.outcome (vec_capacity f.trace) c.self.invariant.0 open_now in (
      (λ e. absurd cc),
      (λ w. absurd (c.in_default.not-Waits u
          (let both = sym chosen ∙ w.1 in cc))),
    )
