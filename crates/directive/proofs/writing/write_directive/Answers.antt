-- The lines one behind another are the directive's text, and there are few of them.
use Rattle.std.proofs.Common.{◌≤◌, List, ℕ, length, sym, subst}
use Rattle.directive.specs.Answers.{plain_directive}
use Rattle.directive.specs.Directive.{IsSound}
use Rattle.directive.proofs.Texts.{directive-size, whole-text}
use Rattle.directive.proofs.writing.write_directive.Goals as goal

pub returns-clause-directive : goal.returns-clause-directive
returns-clause-directive c =
    let names = c.args.names.now in
    let text = plain_directive c.args.directive.now in
    let is = whole-text names text _ _ _ _ _ _ c.in_ok-extend_from_slice.ensures.items
    c.new-text.ensures.items c.in_ok-push_low.ensures c.in_ok-push_moments.ensures
    c.as_slice.ensures c.in_ok-push_verdict.ensures.text in
    let sound : IsSound names text = record {
      low = c.requires.low;
      few = c.args.directive.now.few;
      events = c.requires.events;
      threads = c.requires.threads;
      form = c.in_ok-push_verdict.ensures.form;
    } in
    let P : List ℕ → Type 0 = λ t. length t ≤ 65536 in
    record {
      sound = sound;
      small = subst P (sym is)
          (directive-size names text c.count.ensures.lawful sound);
      text = is;
    }

pub returns-clause-text : goal.returns-clause-text
returns-clause-text c =
    whole-text c.args.names.now (plain_directive c.args.directive.now) _ _ _ _ _ _
    c.in_ok-extend_from_slice.ensures.items c.new-text.ensures.items c.in_ok-push_low.ensures
    c.in_ok-push_moments.ensures c.as_slice.ensures c.in_ok-push_verdict.ensures.text
