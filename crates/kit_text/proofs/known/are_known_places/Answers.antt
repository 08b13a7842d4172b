use Rattle.std.proofs.Common.{sym, arith}
use Rattle.trace_text.specs.Known.{IsKnownPlace}
use Rattle.kit_text.proofs.Blocked.{one-of-all, all-of-each}
use Rattle.kit_text.proofs.known.are_known_places.Goals as goal

pub returns-then-not-is_known_place : goal.returns-then-not-is_known_place
returns-then-not-is_known_place c =
    let P = IsKnownPlace c.args.threads in (
      λ t. absurd cc,
      λ all. absurd (let known = c.is_known_place.ensures.1 (one-of-all P c.loop-thread.thread
          c.in-Some.line c.args.blocked.now all (sym c.in-Some.ensures.line)) in
          let not = c.if-not-is_known_place.true in cc),
    )

pub returns : goal.returns
returns c =
    let at = c.loop-thread in (
      λ t. all-of-each (IsKnownPlace c.args.threads) c.args.blocked.now
          (at.invariant.rising (omega arith)) (λ k line few is. at.invariant.known k line
          (omega (arith, few)) is),
      λ all. search,
    )
