use Rattle.std.proofs.Common.{◌≡◌}
use Rattle.body_kit.specs.Ports.{home_of}
use Rattle.kit_example.proofs.ports.PortQueue.change.Given as goal

abbrev pub invariant-loop : goal.invariant-loop
invariant-loop g l = home_of l.port ≡ home_of l.fn.port
