-- The places are written in the order of their threads.
use Rattle.std.proofs.Common.{◌++◌, Some, None, sym, ap, ◌∙◌, arith, append-nil}
use Rattle.std.specs.Prelude.{codes}
use Rattle.pct_ask.specs.VerdictPieces.{HasName, place_piece}
use Rattle.pct_ask.proofs.PieceLemmas.{places_below-zero, places_below-last, pieces-step}
use Rattle.pct_ask.proofs.PieceLemmas.{line_of_thread-member, OnErr-any, IsStartOf-more}
use Rattle.std.specs.List.{flat_map}
use Rattle.pct_ask.proofs.verdict_text.push_stuck.Goals as goal
use Rattle.pct_ask.proofs.verdict_text.push_stuck.Goals.{in-Some+in_ok-push_place, in_default}

pub loop-thread-init : goal.loop-thread-init
loop-thread-init c = record {
  written = rw (places_below-zero, append-nil) c.in_ok-extend_from_slice.ensures.items;
  rising = λ h. absurd (omega arith);
}

pub push_place-requires : goal.push_place-requires
push_place-requires c =
    line_of_thread-member (HasName c.args.names.now) c.loop-thread.thread c.in-Some.line
    c.args.blocked.now c.requires (sym c.in-Some.ensures.line)

pub returns-in_err-push_place-clause-begun : goal.returns-in_err-push_place-clause-begun
returns-in_err-push_place-clause-begun c =
    OnErr-any c.from_residual-in_err-push_place.result
    (IsStartOf-more c.args.out.now.items (codes "stuck") _ c.loop-thread.out.items
    c.push_place.new.out.items c.loop-thread.invariant.written
    c.in_err-push_place.ensures.begun)

pub loop-thread-preserved : goal.loop-thread-preserved
loop-thread-preserved c = record {
  written = elim c.match-get.branch [
    | in-Some+in_ok-push_place w ↦
        rw w.out-is (pieces-step c.args.names.now c.loop-thread.thread (Some w.in-Some.line)
        c.args.blocked.now (c.args.out.now.items ++ codes "stuck") c.loop-thread.out.items
        w.push_place.new.out.items c.get.ensures.rising w.in-Some.ensures.line
        c.loop-thread.invariant.written
        (w.in_ok-push_place.ensures.written
        ∙ ap (λ t. c.loop-thread.out.items ++ t)
        (sym (append-nil (place_piece c.args.names.now
        (c.loop-thread.thread, w.in-Some.line))))))
    | in_default w ↦
        rw w.out-is (pieces-step c.args.names.now c.loop-thread.thread None c.args.blocked.now
        (c.args.out.now.items ++ codes "stuck") c.loop-thread.out.items c.loop-thread.out.items
        c.get.ensures.rising w.in_default.ensures.line c.loop-thread.invariant.written
        (sym (append-nil c.loop-thread.out.items)))
  ];
  rising = λ h. c.get.ensures.rising;
}

pub returns-clause-written : goal.returns-clause-written
returns-clause-written c =
    let rising = c.loop-thread.invariant.rising (omega arith) in
    c.loop-thread.invariant.written ∙ ap
    (λ places. c.args.out.now.items ++ codes "stuck"
    ++ flat_map (place_piece c.args.names.now) places)
    (places_below-last c.loop-thread.thread c.args.blocked.now (omega arith) rising)
