-- What may be written in a reply to a trace: it names only what the script has.
use Rattle.pct_ask.specs.NameLists.{NameLists}
use Rattle.pct_ask.specs.VerdictText.{HasNames, IsWholeVerdict}
use Rattle.pct_ask.specs.declared.event.Event.{Event}
use Rattle.trace_text.specs.Lawful.{NamesKnown}
use Rattle.replay_run.specs.declared.answer.Written.{Written}
use Rattle.replay_run.specs.declared.answer.Written.TheVariants as written
use Rattle.replay_run.specs.declared.answer.Found.{Found}
use Rattle.replay_run.specs.declared.answer.Found.TheVariants as found
use Rattle.replay_run.specs.declared.answer.Replayed.{Replayed}
use Rattle.replay_run.specs.declared.answer.Replayed.TheVariants.{Confirmed, Departs}

-- what a reply has of a step; the second version of traces has every form
abbrev pub IsKnownStep : NameLists → Event → Type 0
IsKnownStep names event = NamesKnown names 2 event

abbrev pub IsKnownWritten : NameLists → Written → Type 0
IsKnownWritten names (written.Event event) = IsKnownStep names event
IsKnownWritten names (written.Verdict verdict) = HasNames names verdict × IsWholeVerdict verdict

abbrev pub IsKnownFound : NameLists → Found → Type 0
IsKnownFound names (found.Event event) = IsKnownStep names event
IsKnownFound names (found.NotEnabled thread) = Unit {0}
IsKnownFound names (found.Goes thread) = Unit {0}
IsKnownFound names (found.Over verdict) = HasNames names verdict × IsWholeVerdict verdict

abbrev pub IsKnownReply : NameLists → Replayed → Type 0
IsKnownReply names (Confirmed verdict) = HasNames names verdict × IsWholeVerdict verdict
IsKnownReply names (Departs step found written) =
    IsKnownFound names found × IsKnownWritten names written
