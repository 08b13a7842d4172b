-- What a text is read as (this project).
use Rattle.std.specs.Prelude.{◌≡◌, ◌≢◌, ℕ, List}
use Rattle.pct_ask.specs.NameLists.{NameLists}
use Rattle.pct_ask.specs.VerdictText.{NamedVerdict, named_text, named_verdict, verdict_text}
use Rattle.pct_ask.specs.VerdictText.{IsVerdictForm}
use Rattle.pct_ask.specs.VerdictText.{HasUnknownThread, HasNames}
use Rattle.pct_ask.specs.declared.verdict_text.VerdictRead.{VerdictRead}
use Rattle.pct_ask.specs.declared.verdict_text.VerdictRead.TheVariants.{Is, NoForm, UnknownName}

-- A text is read as the verdict of which it is the text. It is no form where no verdict by form has
-- this text, and has an unknown name where it is one by form and some name in it is no thread's.
abbrev pub ReadsAs : NameLists → List ℕ → VerdictRead → Type 0
ReadsAs names text (Is verdict) =
    HasNames names verdict
    × IsVerdictForm names (named_verdict names verdict)
    × (text ≡ verdict_text names verdict)
ReadsAs names text UnknownName =
    (verdict : NamedVerdict)
    × IsVerdictForm names verdict
    × HasUnknownThread names verdict
    × (text ≡ named_text verdict)
ReadsAs names text NoForm =
    (verdict : NamedVerdict) → IsVerdictForm names verdict → text ≢ named_text verdict
