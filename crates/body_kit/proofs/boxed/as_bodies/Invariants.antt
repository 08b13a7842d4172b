use Rattle.std.proofs.Common.{◌≡◌, map}
use Rattle.body_kit.proofs.boxed.as_bodies.Given as goal

abbrev pub invariant-loop-body : goal.invariant-loop-body
invariant-loop-body g l = l.all.items ≡ map (λ b. record { body = b }) l.yielded
