use Rattle.std.proofs.Common.{Result, Ok, Err}
use Rattle.std.specs.Prelude.{IfOk}
use Rattle.std.proofs.lemmas.Result.{IfOk-at_ok}
use Rattle.pct_outside.specs.Reading.{texts_of}
use Rattle.pct_top.specs.declared.settings.Settings.{Settings}
use Rattle.pct_top.specs.declared.settings.WordsError.{WordsError}
use Rattle.pct_top.specs.Settings.{SettingsOrWord, ReadsWordsAs, AreLawful}
use Rattle.pct_top.proofs.OptionRanges.{command_lawful}
use Rattle.pct_top.proofs.words.read_words.Goals as goal

reads : (r : Result Settings WordsError) (taken : SettingsOrWord) → IfOk taken AreLawful
    → ReadsWordsAs r taken → IfOk r AreLawful
reads (Ok s) taken lawful are = IfOk-at_ok AreLawful are lawful
reads (Err e) taken lawful are = tt

pub returns-in-Some-named-clause-lawful : goal.returns-in-Some-named-clause-lawful
returns-in-Some-named-clause-lawful c =
    reads c.command_words.result _ (command_lawful c.in-Some-named.command
    (texts_of c.in-Some.others.now)) c.command_words.ensures
