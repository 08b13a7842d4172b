-- The workers of the queue name only what there is.
use Rattle.std.proofs.Common.{◌≡◌, ℕ, ◌<◌, ◌≤◌, ℤ, List, [], ◌∷◌, sym, subst, arith}
use Rattle.pct_ask.specs.Objects.{Sizes, PostIsInRange}
use Rattle.pct_ask.specs.Bodies.{Pending, IsInRangeBody}
use Rattle.kit_example.specs.declared.worker.Step.{Step}
use Rattle.kit_example.specs.declared.worker.Step.TheVariants.{Lock, Look, Release, Regain, Change}
use Rattle.kit_example.specs.declared.worker.Step.TheVariants.{Tell, Unlock, End}
use Rattle.kit_example.specs.declared.worker.Worker.{Worker}
use Rattle.kit_example.specs.Queue.{ask_at, worker_after, worker_pending, taker, putter}

module _ (sizes : Sizes) (vars : 1 ≤ sizes.vars) (mutexes : 1 ≤ sizes.mutexes) where
  ask-in-range : (w : Worker) → w.waits < sizes.conds → w.tells < sizes.conds → (at : Step)
      → PostIsInRange sizes (ask_at w at)
  ask-in-range w waits tells Lock = omega arith
  ask-in-range w waits tells Look = omega arith
  ask-in-range w waits tells Release = (waits, omega arith)
  ask-in-range w waits tells Regain = (waits, omega arith)
  ask-in-range w waits tells Change = omega arith
  ask-in-range w waits tells Tell = tells
  ask-in-range w waits tells Unlock = omega arith
  ask-in-range w waits tells End = tt

  worker-in-range : (w : Worker) → w.waits < sizes.conds → w.tells < sizes.conds
      → (answers : List ℤ) → PostIsInRange sizes (worker_pending w answers).ask
  worker-in-range w waits tells [] = ask-in-range w waits tells w.at
  worker-in-range w waits tells (answer ∷ answers) =
      worker-in-range (worker_after w answer) waits tells answers

  pub taker-in-range : (filled emptied : ℕ) → filled < sizes.conds → emptied < sizes.conds
      → (body : Pending) → body ≡ worker_pending (taker filled emptied) → IsInRangeBody sizes body
  taker-in-range filled emptied one other body is =
      let P : Pending → Type 0 = IsInRangeBody sizes in
      subst P (sym is) (worker-in-range (taker filled emptied) one other)

  pub putter-in-range : (filled emptied : ℕ) → filled < sizes.conds → emptied < sizes.conds
      → (body : Pending) → body ≡ worker_pending (putter filled emptied) → IsInRangeBody sizes body
  putter-in-range filled emptied one other body is =
      let P : Pending → Type 0 = IsInRangeBody sizes in
      subst P (sym is) (worker-in-range (putter filled emptied) other one)
