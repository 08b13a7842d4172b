use Rattle.std.proofs.Common.{◌<◌, ℕ, Bool, List, sym, ap, ◌∙◌, subst}
use Rattle.turn_lock.specs.Rule.{HasFlag, first_threads}
use Rattle.turn_lock.specs.Plays.{SeatWithSlots}
use Rattle.turn_lock.proofs.laws.FirstThreads.{first-below}
use Rattle.turn_lock.proofs.seat.Seat.first.Goals as goal

pub invariant_of-result : goal.invariant_of-result
invariant_of-result g c =
    let me = c.requires.me in
    let n : ℕ = c.args.threads in
    let below : (t : ℕ) → HasFlag c.first_threads-all.result t → t < n =
    λ t h. first-below n t (subst (λ (l : List Bool). HasFlag l t)
    c.first_threads-all.ensures.first h) in
    record {
      flags = c.first_threads-all.ensures.flags;
      live = ap (λ (x : SeatWithSlots). x.0.live) me;
      idle = ap (λ (x : SeatWithSlots). x.0.held) me;
      none = ap (λ (x : SeatWithSlots). x.1) me;
      served =
          c.first_threads-all.ensures.first ∙ ap first_threads c.requires.threads
          ∙ sym (ap (λ (x : SeatWithSlots). x.0.serves) me);
      threads = λ t h. subst (λ (k : ℕ). t < k) c.requires.threads (below t h);
      owed = λ t h. h ∙ sym (c.requires.owe t (below t h));
    }
