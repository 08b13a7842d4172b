-- A place for each bit that is set, as far as the loop has come.
use Rattle.std.proofs.Common.{◌≡◌, ◌<◌, [], ◌∙◌, ap, sym, get_or, length, arith}
use Rattle.pct_ask.specs.Places.{places_from, known_lines}
use Rattle.c_values.proofs.BlockedPlaces.{with_rest, next_set, next_unset, all_read}
use Rattle.c_values.proofs.BlockedPlaces.{none_below, below_kept, below_pushed}
use Rattle.c_values.proofs.outcome.blocked_of.Goals as goal
use Rattle.c_values.proofs.outcome.blocked_of.Goals.{then-bits-eq1, else-bits-eq1}

pub loop-thread-init : goal.loop-thread-init
loop-thread-init c =
    let none : c.new-blocked.result ≡ [] = c.new-blocked.ensures in
    record {
      same = sym (ap (λ before. with_rest before 0 c.args.threads c.args.lines.now) none);
      below = none_below c.new-blocked.result 0 none;
    }

pub push-requires-clause-above : goal.push-requires-clause-above
push-requires-clause-above c = c.loop-thread.invariant.below

pub loop-thread-preserved : goal.loop-thread-preserved
loop-thread-preserved c =
    let whole = places_from 0 (known_lines c.args.threads c.args.lines.now) in
    let before = c.loop-thread.blocked in
    let after = c.if-bits-eq1.blocked in
    let at = c.loop-thread in
    let here : at.thread < length c.args.lines.now = omega (arith, c.told-lines) in
    elim c.if-bits-eq1.branch [
      | then-bits-eq1 w ↦ record {
        same =
            next_set whole before after at.thread at.bits c.args.lines.now at.invariant.same here
            w.if-bits-eq1.true (w.blocked-is ∙ w.push.ensures);
        below =
            below_pushed before after at.thread (get_or c.args.lines.now at.thread 0)
            at.invariant.below (w.blocked-is ∙ w.push.ensures);
      }
      | else-bits-eq1 w ↦ record {
        same =
            next_unset whole before after at.thread at.bits c.args.lines.now at.invariant.same here
            w.if-bits-eq1.false w.blocked-is;
        below = below_kept before after at.thread at.invariant.below w.blocked-is;
      }
    ]

pub returns : goal.returns
returns c =
    all_read (places_from 0 (known_lines c.args.threads c.args.lines.now)) c.loop-thread.blocked
    c.loop-thread.thread c.loop-thread.bits c.args.lines.now c.loop-thread.invariant.same
    (omega (arith, c.told-lines))
