use Rattle.directive_run.proofs.laws.OneAnswer.{exposed-once, certified-once, guaranteed-yes}
use Rattle.directive_run.proofs.laws.OneAnswer.{yes-guaranteed}
use Rattle.directive_run.proofs.certificate.one_certificate.Goals as goal

pub returns-clause-exposed : goal.returns-clause-exposed
returns-clause-exposed c = exposed-once

pub returns-clause-certified : goal.returns-clause-certified
returns-clause-certified c = certified-once

pub returns-clause-guaranteed : goal.returns-clause-guaranteed
returns-clause-guaranteed c = λ deal bodies directive steps limit certified few is. (
  λ yes. yes-guaranteed deal bodies directive steps limit certified is yes,
  λ holds. guaranteed-yes deal bodies directive steps limit certified few is holds,
)
