use Rattle.std.proofs.Common.{◌≡◌, inl, inr, ap, ◌∙◌}
use Rattle.pct_ask.specs.declared.Deal.{Deal}
use Rattle.turn_lock.specs.Views.{view}
use Rattle.turn_lock.specs.declared.view.View.{View}
use Rattle.body_kit.proofs.Laws.{three-served}
use Rattle.test_runs.proofs.ports.run_all.Goals as goal

pub join-requires : goal.join-requires
join-requires g c = record { of = (c.split-last.ensures.of.0, c.join-one.ensures.first.0) }

pub join-requires-2 : goal.join-requires-2
join-requires-2 g c = record { of = (c.join.ensures.of, c.join-one.ensures.second.0.0) }

pub join-requires-3 : goal.join-requires-3
join-requires-3 g c = record { of = (c.join-2.ensures.of, c.join-one.ensures.second.1.0) }

pub close-requires-clause-all : goal.close-requires-clause-all
close-requires-clause-all g c =
    let first = c.join.ensures in
    let second = c.join-2.ensures in
    let third = c.join-3.ensures in
    let same : (view c.join-3.new.seat).seen.deal ≡ (view c.args.seat).seen.deal =
    third.seen.0.making.deal ∙ second.seen.0.making.deal ∙ first.seen.0.making.deal
    ∙ ap (λ (v : View). v.seen.deal) (c.split-last.ensures.left)
    ∙ ap (λ (v : View). v.seen.deal) (c.split-other.ensures.left)
    ∙ ap (λ (v : View). v.seen.deal) (c.split-one.ensures.left) in
    three-served (view c.join-3.new.seat) (ap (λ (d : Deal). d.threads) same ∙ c.requires.threads)
    (third.serves 0 (inl (second.serves 0 (inl (first.serves 0 (inr c.join-one.ensures.first.1))))))
    (third.serves 1 (inl (second.serves 1 (inr c.join-one.ensures.second.0.1))))
    (third.serves 2 (inr c.join-one.ensures.second.1.1))
