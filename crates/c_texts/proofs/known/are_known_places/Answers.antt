-- Each place was known, as far as the loop has come.
use Rattle.std.proofs.Common.{◌<◌, length, refl, arith}
use Rattle.trace_text.specs.Known.{IsKnownPlace}
use Rattle.c_texts.proofs.KnownPlaces.{next_set, next_unset, not_here, none_left, both}
use Rattle.c_texts.proofs.known.are_known_places.Goals as goal
use Rattle.c_texts.proofs.known.are_known_places.Goals.{else-rest-eq1-via-else-rest-eq1}
use Rattle.c_texts.proofs.known.are_known_places.Goals.{else-rest-eq1-via-then-rest-eq1+else-not-is_known_place}

pub loop-thread-preserved : goal.loop-thread-preserved
loop-thread-preserved c =
    let P = IsKnownPlace c.args.threads in
    let at = c.loop-thread in
    let here : at.thread < length c.args.lines.now = omega (arith, c.told-lines) in
    elim c.else-rest-eq1.branch [
      | else-rest-eq1-via-then-rest-eq1+else-not-is_known_place w ↦
          both at.invariant
          (next_set P at.thread at.rest c.args.lines.now here w.if-rest-eq1.true
          (w.is_known_place.ensures.0 w.if-not-is_known_place.false))
      | else-rest-eq1-via-else-rest-eq1 w ↦
          both at.invariant
          (next_unset P at.thread at.rest c.args.lines.now here w.if-rest-eq1.false)
    ]

pub returns-then-not-is_known_place : goal.returns-then-not-is_known_place
returns-then-not-is_known_place c =
    let P = IsKnownPlace c.args.threads in
    let at = c.loop-thread in
    let here : at.thread < length c.args.lines.now = omega (arith, c.told-lines) in (
      λ t. absurd cc,
      λ all. absurd (not_here P at.thread at.rest c.args.lines.now here c.if-rest-eq1.true
          (λ known. let wrong = c.is_known_place.ensures.1 known in
          let right = c.if-not-is_known_place.true in absurd cc) (at.invariant.0 all)),
    )

pub returns : goal.returns
returns c =
    let at = c.loop-thread in (
      λ t. at.invariant.1
          (none_left (IsKnownPlace c.args.threads) at.thread at.rest c.args.lines.now
          (omega (arith, c.told-lines))),
      λ all. refl,
    )
