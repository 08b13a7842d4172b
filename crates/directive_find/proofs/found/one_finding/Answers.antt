use Rattle.directive_find.proofs.laws.Findings as findings
use Rattle.directive_find.proofs.found.one_finding.Goals as goal

pub returns : goal.returns
returns c = λ deal bodies order points limit. findings.one_finding deal bodies order limit points
