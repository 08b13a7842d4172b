-- A choice that stands for none is left out.
use Rattle.std.proofs.Common.{◌≡◌, ◌<◌, ℕ, [], ◌∷◌, ◌++◌, sym, ap, subst, ◌∙◌, arith}
use Rattle.std.specs.List.{All}
use Rattle.std.proofs.lemmas.List.Elements.{All-append, All-nil}
use Rattle.std.proofs.Common.{◌+◌, inl, inr, zero, suc}
use Rattle.std.proofs.lemmas.Bool.{cases_lt}
use Rattle.sweep.specs.Batches.{setup_of_sweep, AreAhead}
use Rattle.sweep.proofs.Aheads.{nothing-ahead, passed-by, taken-on}
use Rattle.sweep.proofs.ahead.choices_ahead.Goals.{then-stands_for-gt0, else-stands_for-gt0}
use Rattle.sweep.proofs.ahead.choices_ahead.Goals.{then-choices-test+else-len-most}
use Rattle.sweep.proofs.ahead.choices_ahead.Goals.{else-choices-test}
use Rattle.sweep.proofs.ahead.choices_ahead.Goals as goal

one-place : (bound place : ℕ) → place < bound → All (λ p. p < bound) (place ∷ [])
one-place bound place within zero d inside = within
one-place bound place within (suc k) d inside = absurd (omega (arith, inside))

pub choices-init : goal.choices-init
choices-init c =
    let made = c.in_ok-places.ensures in
    record {
      room = made.exact;
      few = omega (arith, made.len);
      within = subst (All (λ place. place < c.args.sweep.now.choices)) (sym made.items)
          (All-nil (λ place. place < c.args.sweep.now.choices));
      end = omega (arith, c.requires.within);
      from = omega arith;
      begins = λ same. made.len;
      ahead =
          subst (λ l. AreAhead (setup_of_sweep c.args.sweep.now) c.args.reach.longest
          c.args.reach.place l c.args.reach.place) (sym made.items)
          (nothing-ahead (setup_of_sweep c.args.sweep.now) c.args.reach.longest
          c.args.reach.place);
    }

pub push_reserved-requires : goal.push_reserved-requires
push_reserved-requires c =
    omega (arith, c.choices.invariant.room, c.if-len-most.true, c.len.ensures)

pub choices-preserved : goal.choices-preserved
choices-preserved c =
    let at = c.choices in
    let sweep = c.args.sweep.now in
    elim c.if-stands_for-gt0.branch [
      | then-stands_for-gt0 w ↦
          let pushed = w.push_reserved.ensures in
          let items : c.if-stands_for-gt0.places.items ≡ at.places.items ++ at.end ∷ [] =
          ap (λ v. v.items) w.places-is ∙ pushed.items in
          record {
            room = ap (λ v. v.cap) w.places-is ∙ pushed.capacity ∙ at.invariant.room;
            few = omega (
              arith,
              ap (λ v. v.len) w.places-is,
              pushed.len,
              c.if-len-most.true,
              c.len.ensures,
            );
            within =
                subst (All (λ place. place < sweep.choices)) (sym items)
                (All-append (λ place. place < sweep.choices) at.places.items (at.end ∷ [])
                at.invariant.within (one-place sweep.choices at.end c.choices-test.true));
            end = omega (arith, c.choices-test.true);
            from = omega (arith, at.invariant.from);
            begins = λ same. absurd (omega (arith, same, at.invariant.from));
            ahead =
                subst (λ l. AreAhead (setup_of_sweep sweep) c.args.reach.longest
                c.args.reach.place l (at.end + 1)) (sym items)
                (taken-on (setup_of_sweep sweep) c.args.reach.longest c.args.reach.place
                at.end at.places.items at.invariant.ahead);
          }
      | else-stands_for-gt0 w ↦
          let items : c.if-stands_for-gt0.places.items ≡ at.places.items =
          ap (λ v. v.items) w.places-is in
          record {
            room = ap (λ v. v.cap) w.places-is ∙ at.invariant.room;
            few = omega (arith, ap (λ v. v.len) w.places-is, at.invariant.few);
            within = subst (All (λ place. place < sweep.choices)) (sym items) at.invariant.within;
            end = omega (arith, c.choices-test.true);
            from = omega (arith, at.invariant.from);
            begins = λ same. absurd (omega (arith, same, at.invariant.from));
            ahead =
                subst (λ l. AreAhead (setup_of_sweep sweep) c.args.reach.longest
                c.args.reach.place l (at.end + 1)) (sym items)
                (passed-by (setup_of_sweep sweep) c.args.reach.longest c.args.reach.place
                at.end at.places.items at.invariant.ahead
                (λ choice there. omega (
                  arith,
                  w.if-stands_for-gt0.false,
                  c.stands_for.ensures choice there,
                )));
          }
    ]

pub returns : goal.returns
returns c = record {
  few = omega (arith, c.choices.invariant.few, c.choices.places.ok.0);
  within = c.choices.invariant.within;
  end = c.choices.invariant.end;
  goes_on = elim c.choices-test.branch [
    | then-choices-test+else-len-most w ↦
        elim (cases_lt c.args.reach.place c.choices.end) [
          | inl less ↦ less
          | inr more ↦
              let same : c.args.reach.place ≡ c.choices.end =
              omega (arith, more, c.choices.invariant.from) in
              absurd (omega (
                arith,
                c.choices.invariant.begins same,
                w.len.ensures,
                w.if-len-most.false,
                c.requires.some,
              ))
        ]
    | else-choices-test w ↦ omega (arith, w.choices-test.false, c.requires.within)
  ];
  ahead = c.choices.invariant.ahead;
}
