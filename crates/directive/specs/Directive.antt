-- The grammar of directive files, as a relation between a text and the directive that it tells
-- (this project).
use Rattle.std.specs.Prelude.{◌≡◌, ℕ, ◌≤◌, ◌<◌, List, length, All}
use Rattle.pct_ask.specs.NameLists.{NameLists}
use Rattle.pct_ask.specs.VerdictText.{named_verdict, IsVerdictForm, HasNames}
use Rattle.rank_now.specs.declared.moment.Moment.{Moment}
use Rattle.directive.specs.DirectiveText.{DirectiveText, directive_text}
use Rattle.directive.specs.Forms.{IsNumber}
use Rattle.pct_ask.specs.declared.limits.TheConstants.{MAX_POINTS}

-- the moment's thread has a name, and its number is in 1..100000
pub record IsMoment (names : NameLists) (moment : Moment) : Type 0 where
  pub thread : moment.thread < length names.threads
  pub number : IsNumber moment.number

-- What may be written: the threads have names, there are at most 7 moments, and the verdict's list
-- of blocked threads rises and isn't empty.
pub record IsSound (names : NameLists) (told : DirectiveText) : Type 0 where
  pub low : told.low < length names.threads
  pub few : length told.events ≤ MAX_POINTS
  pub events : All (IsMoment names) told.events
  pub threads : HasNames names told.verdict
  pub form : IsVerdictForm names (named_verdict names told.verdict)

-- The text is the directive's: it is made, line by line, of the first line, of the lowest thread,
-- of one line for each moment and of the verdict, each value in its one spelling; and it has at
-- most 65,536 bytes.
pub record IsDirective (bytes : List ℕ) (names : NameLists) (told : DirectiveText) : Type 0 where
  pub sound : IsSound names told
  pub small : length bytes ≤ 65536
  pub text : bytes ≡ directive_text names told
