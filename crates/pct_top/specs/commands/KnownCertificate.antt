-- What may be written of a certificate: it names only what the script has.
use Rattle.pct_ask.specs.NameLists.{NameLists}
use Rattle.pct_ask.specs.VerdictText.{HasNames, IsWholeVerdict}
use Rattle.directive_run.specs.declared.answers.Certified.{Certified}
use Rattle.directive_run.specs.declared.answers.Certified.TheVariants.{Yes, Refuted, TooLong}
use Rattle.directive_run.specs.declared.answers.Certified.TheVariants.{TooManyThreads}

abbrev pub IsKnownCertificate : NameLists → Certified → Type 0
IsKnownCertificate names (Yes bound rows) = Unit {0}
IsKnownCertificate names (Refuted order verdict) = HasNames names verdict × IsWholeVerdict verdict
IsKnownCertificate names (TooLong order many) = Unit {0}
IsKnownCertificate names (TooManyThreads threads) = Unit {0}
