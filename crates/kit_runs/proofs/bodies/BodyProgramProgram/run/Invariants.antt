use Rattle.std.proofs.Common.{◌≡◌}
use Rattle.pct_ask.specs.Bodies.{IsInRangeBody}
use Rattle.pct_ask.specs.Objects.{sizes_of_deal}
use Rattle.body_kit.specs.Ports.{home_of}
use Rattle.kit_runs.proofs.bodies.BodyProgramProgram.run.Given as goal

-- the port is at home, and the body names what there is, whatever it is answered
abbrev pub invariant-loop : goal.invariant-loop
invariant-loop g l = record {
  home : home_of l.port ≡ home_of l.fn.port;
  in_range : IsInRangeBody (sizes_of_deal (home_of l.fn.port).deal) (g.T.Body.Body.pending l.body);
}
