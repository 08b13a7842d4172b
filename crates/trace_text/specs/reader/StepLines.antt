-- How the lines after the head are read: a step line or the verdict line (this project).
use Rattle.std.specs.Prelude.{ℕ, ℤ, ◌==◌, ◌&&◌, Bool, true, false, if◌then◌else◌, nat_eq, List, []}
use Rattle.std.specs.Prelude.{◌∷◌, take, drop, Option, Some, None, codes}
use Rattle.std.specs.List.{ends_with}
use Rattle.std.specs.Str.{bytes_eq}
use Rattle.pct_ask.specs.NameLists.{NameLists}
use Rattle.pct_ask.specs.VerdictWords.{words_of, line_number, verdict_of_words}
use Rattle.pct_ask.specs.declared.names.NameKind.TheVariants.{Thread}
use Rattle.pct_ask.specs.declared.ask.Ask.{Ask}
use Rattle.pct_ask.specs.declared.event.Event.{Event}
use Rattle.pct_ask.specs.declared.verdict_text.VerdictRead.{VerdictRead}
use Rattle.pct_ask.specs.declared.verdict_text.VerdictRead.TheVariants.{Is, NoForm, UnknownName}
use Rattle.pct_ask.specs.declared.trace_verbs.Operands.TheVariants.{Bare, One, Two, Three}
use Rattle.trace_text.specs.reader.Numbers.{i64_in, natural_of}
use Rattle.trace_text.specs.reader.Asks.{has_form, known_words, object, ask_of_words}
use Rattle.trace_text.specs.Lawful.{is_of_second}
use Rattle.trace_text.specs.declared.asks.WordsRead.{WordsRead}
use Rattle.trace_text.specs.declared.row.TraceRow.{TraceRow}
use Rattle.trace_text.specs.declared.row.TraceRow.TheVariants.{Step, End}

-- the event of a step, where its thread and the objects of its ask are known
abbrev pub event_of : Option ℕ → ℕ → Option Ask → ℤ → Option Event
event_of None line ask answer = None
event_of (Some thread) line None answer = None
event_of (Some thread) line (Some ask) answer =
    Some (record { thread = thread; line = line; ask = ask; answer = answer })

-- a step whose numbers are read, where its thread and its ask have their forms
abbrev pub numbered_step : ℕ → WordsRead ℕ → ℕ → WordsRead Ask → ℤ → Option TraceRow
numbered_step number thread line ask answer =
    if has_form thread && has_form ask
    then Some (Step number (event_of (known_words thread) line (known_words ask) answer))
    else None

-- a step, where each of its parts is read and `=` stands before the answer
abbrev pub step_of_parts : Option ℕ → WordsRead ℕ → Option ℕ → WordsRead Ask → Bool → Option ℤ
    → Option TraceRow
step_of_parts None thread line ask sign answer = None
step_of_parts (Some n) thread None ask sign answer = None
step_of_parts (Some n) thread (Some line) ask false answer = None
step_of_parts (Some n) thread (Some line) ask true None = None
step_of_parts (Some n) thread (Some line) ask true (Some answer) =
    numbered_step n thread line ask answer

-- the parts of a step line, but for its ask
unfoldable pub step_in_words : NameLists → List ℕ → List ℕ → List ℕ → WordsRead Ask → List ℕ
    → List ℕ
    → Option TraceRow
step_in_words names number thread line ask sign answer =
    step_of_parts (natural_of number) (object names Thread thread) (line_number line) ask
    (bytes_eq sign (codes "=")) (i64_in answer)

-- STEP THREAD LINE ASK = ANSWER, where ASK has one word to four
abbrev pub step_of_words : NameLists → ℕ → List (List ℕ) → Option TraceRow
step_of_words names version (number ∷ thread ∷ line ∷ word ∷ sign ∷ answer ∷ []) =
    step_in_words names number thread line (ask_of_words names version word Bare) sign answer
step_of_words names version (number ∷ thread ∷ line ∷ word ∷ a ∷ sign ∷ answer ∷ []) =
    step_in_words names number thread line (ask_of_words names version word (One a)) sign answer
step_of_words names version (number ∷ thread ∷ line ∷ word ∷ a ∷ b ∷ sign ∷ answer ∷ []) =
    step_in_words names number thread line (ask_of_words names version word (Two a b)) sign answer
step_of_words names version (number ∷ thread ∷ line ∷ word ∷ a ∷ b ∷ c ∷ sign ∷ answer ∷ []) =
    step_in_words names number thread line (ask_of_words names version word (Three a b c)) sign
    answer
step_of_words names version words = None

-- the text of a verdict of the second version alone, where it is a verdict
abbrev pub tells_reads : List ℕ → Bool
tells_reads text = ends_with nat_eq text (codes " toomanyreads")

-- The verdict of a text, by how the text is read: the first version has none that comes from
-- read-write locks alone.
abbrev pub end_of : ℕ → List ℕ → VerdictRead → Option TraceRow
end_of version text NoForm = None
end_of version text UnknownName = if version == 1 && tells_reads text then None else Some (End None)
end_of version text (Is verdict) =
    if version == 1 && is_of_second verdict then None else Some (End (Some verdict))

-- What a line says: a step, by its number and its event, or a verdict; none of them where a name
-- isn't declared with the kind that its place needs. Nothing where the line has neither form.
unfoldable pub row_of : NameLists → ℕ → List ℕ → Option TraceRow
row_of names version text =
    if bytes_eq (take 8 text) (codes "verdict ")
    then end_of version (drop 8 text) (verdict_of_words names (words_of (drop 8 text)))
    else step_of_words names version (words_of text)
