use Rattle.std.proofs.Common.{◌≡◌, ℕ, Some, Option, sym, ap, subst, ◌∙◌}
use Rattle.pct_ask.specs.declared.verdict.Outcome.{Outcome}
use Rattle.turn_book.specs.Told.{IsLawful}
use Rattle.turn_lock.specs.Rule.{Serves}
use Rattle.turn_lock.specs.Views.{view}
use Rattle.turn_lock.specs.declared.view.View.{View}
use Rattle.body_kit.specs.declared.asked.Asked.{Asked}
use Rattle.body_kit.specs.Asking.{ask_post, IsToldOver, AskTells, answer_in, asked_of}
use Rattle.body_kit.specs.Ports.{IsPortSeat}
use Rattle.body_kit.proofs.Ports.{told-again, later-over, still-port, back-self, goes-back}
use Rattle.body_kit.proofs.Ports.{asked-back, home-stays}
use Rattle.body_kit.proofs.port.Port.ask.Goals as goal

pub returns-in-Some-clause-row : goal.returns-in-Some-clause-row
returns-in-Some-clause-row g c = λ t serves.
    let stands = c.self.invariant.1.told c.in-Some.outcome c.in-Some.is in
    let post = ask_post c.args.ask c.args.line in
    subst (λ (v : View). IsToldOver v t post c.in-Some.outcome v) (ap view c.self.view_is)
    (told-again (view c.self.inside.seat) t c.in-Some.outcome stands.0 post)

pub invariant_of-self : goal.invariant_of-self
invariant_of-self g c =
    let v = view c.self.inside.seat in
    let w = view c.ask_once-asked.new.seat in
    let t : ℕ = c.self.inside.thread in
    let told = c.ask_once-asked.ensures in
    let P : Option Outcome → Type 0 = IsPortSeat v t in
    let Q : Option Outcome → Type 0 = IsPortSeat w t in (
      told.of,
      subst Q (sym c.over_of-self-inside.ensures)
          (still-port v w t c.args.ask c.args.line told.on
          (subst P c.in_default.is c.self.invariant.1) c.ask_once-asked.result told.row),
    )

pub returns-clause-row : goal.returns-clause-row
returns-clause-row g c = λ t serves.
    let v = view c.self.inside.seat in
    let w = view c.ask_once-asked.new.seat in
    let asked = c.ask_once-asked.result in
    let here = ap view c.self.view_is in
    let same = c.self.invariant.1.only.alone t (subst (λ (x : View). Serves x t) (sym here) serves)
    in
    let told : AskTells v t c.args.ask c.args.line asked w =
    subst (λ (x : ℕ). AskTells v x c.args.ask c.args.line asked w) (sym same)
    c.ask_once-asked.ensures.row in
    subst (λ (x : View × Asked). AskTells x.0 t c.args.ask c.args.line x.1 w)
    (λ i. (here i, sym (ap asked_of c.answer_in.ensures ∙ asked-back asked) i)) told

pub returns-clause-home : goal.returns-clause-home
returns-clause-home g c =
    rw (sym c.self.view_is) (home-stays c.self.inside.lock.now c.self.inside.seat
    c.ask_once-asked.new.seat c.self.invariant.0 c.ask_once-asked.ensures.of
    c.ask_once-asked.ensures.on)

pub returns-clause-later : goal.returns-clause-later
returns-clause-later g c = λ o lawful stands.
    let v = view c.self.inside.seat in
    let w = view c.ask_once-asked.new.seat in
    let told = c.ask_once-asked.ensures in
    let Over : View → Type 0 = λ x. IsLawful x.seen × (x.seen.outcome ≡ Some o) in
    let was = subst Over (sym (ap view c.self.view_is)) (lawful, stands) in
    c.answer_in.ensures ∙ ap answer_in (later-over v w c.self.inside.thread c.args.ask c.args.line
    told.on o was.0 was.1 c.ask_once-asked.result told.row)

pub returns-in-Some-clause-back : goal.returns-in-Some-clause-back
returns-in-Some-clause-back g c =
    let stands = c.self.invariant.1.told c.in-Some.outcome c.in-Some.is in
    rw (sym c.self.view_is) (back-self c.self.inside.seat stands.1)

pub returns-clause-back : goal.returns-clause-back
returns-clause-back g c =
    rw (sym c.self.view_is) (goes-back c.self.inside.lock.now c.self.inside.seat
    c.ask_once-asked.new.seat c.self.invariant.0 c.ask_once-asked.ensures.of
    c.ask_once-asked.ensures.on)
