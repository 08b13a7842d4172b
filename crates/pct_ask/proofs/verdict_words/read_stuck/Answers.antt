-- Each place is the first of what is left.
use Rattle.std.proofs.Common.{sym, ◌∙◌}
use Rattle.pct_ask.proofs.VerdictWordLemmas.{stuck-at_none, stuck-at_low, stuck-at_unknown}
use Rattle.pct_ask.proofs.VerdictWordLemmas.{stuck-at_thread, below-push, few-more}
use Rattle.pct_ask.proofs.verdict_words.read_stuck.Goals as goal
use Rattle.pct_ask.proofs.verdict_words.read_stuck.Goals.{in-None, in-Some-thread+else-thread-least}

pub returns-in_default-read_place : goal.returns-in_default-read_place
returns-in_default-read_place c =
    sym (stuck-at_none c.args.names.now c.in-Some.text c.places.rest c.places.least c.places.blocked
    c.places.unknown c.in-Some.is c.in_default-read_place.ensures.place)
    ∙ c.places.invariant.same

pub returns-then-thread-least : goal.returns-then-thread-least
returns-then-thread-least c =
    let p = c.in-Some-read_place.place in
    sym (stuck-at_low c.args.names.now c.in-Some.text c.places.rest c.places.least c.places.blocked
    c.places.unknown p.thread c.in-Some-thread.thread p.line _ c.in-Some.is
    c.in-Some-read_place.ensures.place c.in-Some-thread.is c.if-thread-least.true)
    ∙ c.places.invariant.same

pub places-preserved : goal.places-preserved
places-preserved c =
    let p = c.in-Some-read_place.place in
    elim c.match-place.branch [
      | in-None w ↦
          let here = stuck-at_unknown c.args.names.now c.in-Some.text c.places.rest c.places.least
          c.places.blocked c.places.unknown p.thread p.line _ c.in-Some.is
          c.in-Some-read_place.ensures.place w.in-None.is in
          rw (w.least-is, w.blocked-is, w.unknown-is)
          (record {
            same = sym here ∙ c.places.invariant.same;
            below = c.places.invariant.below;
            few = c.places.invariant.few;
          })
      | in-Some-thread+else-thread-least w ↦
          let here = stuck-at_thread c.args.names.now c.in-Some.text c.places.rest c.places.least
          c.places.blocked c.places.unknown p.thread w.in-Some-thread.thread p.line _
          c.in-Some.is c.in-Some-read_place.ensures.place w.in-Some-thread.is
          w.if-thread-least.false in
          rw (w.least-is, w.blocked-is, w.unknown-is, w.push.ensures) (record {
            same = sym here ∙ c.places.invariant.same;
            below =
                below-push c.places.least w.in-Some-thread.thread p.line c.places.blocked
                w.if-thread-least.false c.places.invariant.below;
            few =
                few-more p.thread w.in-Some-thread.thread w.in-Some-thread.is
                c.in-Some-read_place.ensures.few;
          })
    ]
