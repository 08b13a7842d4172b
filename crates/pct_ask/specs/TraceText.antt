-- A run as a text, line by line (this project).
use Rattle.std.specs.Prelude.{ℕ, ◌+◌, Bool, true, false, List, [], ◌∷◌, ◌++◌, map, codes}
use Rattle.std.specs.Prelude.{decimal}
use Rattle.std.specs.Fmt.{signed_decimal}
use Rattle.std.specs.List.{slice_index_or, flat_map, join_with_byte}
use Rattle.pct_ask.specs.NameLists.{NameLists}
use Rattle.pct_ask.specs.VerdictText.{thread_name, fault_word, named_verdict, verdict_words}
use Rattle.pct_ask.specs.declared.event.Event.{Event}
use Rattle.pct_ask.specs.declared.ask.Ask.{Ask}
use Rattle.pct_ask.specs.declared.ask.Ask.TheVariants.{Read, Write, Add, Cas, Lock, TryLock, Unlock}
use Rattle.pct_ask.specs.declared.ask.Ask.TheVariants.{Release, Regain, Signal, Broadcast, Down}
use Rattle.pct_ask.specs.declared.ask.Ask.TheVariants.{TryDown, Up, Arrive, Leave, Join, Yield}
use Rattle.pct_ask.specs.declared.ask.Ask.TheVariants.{Check, Fault, Start, Begin, RdLock, WrLock}
use Rattle.pct_ask.specs.declared.ask.Ask.TheVariants.{TryRdLock, TryWrLock, RwUnlock}
use Rattle.pct_ask.specs.declared.verdict.Verdict.{Verdict}

-- the name that stands at a place of a list, and no bytes past its end
abbrev pub name_at : List (List ℕ) → ℕ → List ℕ
name_at names place = slice_index_or names place []

-- whether a check's condition held, as a digit: 1 where it did, 0 where it didn't
abbrev pub check_word : Bool → List ℕ
check_word true = codes "1"
check_word false = codes "0"

-- an ask as words: what it asks, the names of its objects, and its numbers
abbrev pub ask_words : NameLists → Ask → List (List ℕ)
ask_words names (Read x) = codes "read" ∷ name_at names.vars x ∷ []
ask_words names (Write x value) = codes "write" ∷ name_at names.vars x ∷ signed_decimal value ∷ []
ask_words names (Add x value) = codes "add" ∷ name_at names.vars x ∷ signed_decimal value ∷ []
ask_words names (Cas x old new) =
    codes "cas" ∷ name_at names.vars x ∷ signed_decimal old ∷ signed_decimal new ∷ []
ask_words names (Lock m) = codes "lock" ∷ name_at names.mutexes m ∷ []
ask_words names (TryLock m) = codes "trylock" ∷ name_at names.mutexes m ∷ []
ask_words names (Unlock m) = codes "unlock" ∷ name_at names.mutexes m ∷ []
ask_words names (Release c m) =
    codes "release" ∷ name_at names.conds c ∷ name_at names.mutexes m ∷ []
ask_words names (Regain c m) = codes "regain" ∷ name_at names.conds c ∷ name_at names.mutexes m ∷ []
ask_words names (Signal c) = codes "signal" ∷ name_at names.conds c ∷ []
ask_words names (Broadcast c) = codes "broadcast" ∷ name_at names.conds c ∷ []
ask_words names (Down s) = codes "down" ∷ name_at names.sems s ∷ []
ask_words names (TryDown s) = codes "trydown" ∷ name_at names.sems s ∷ []
ask_words names (Up s) = codes "up" ∷ name_at names.sems s ∷ []
ask_words names (Arrive b) = codes "arrive" ∷ name_at names.barriers b ∷ []
ask_words names (Leave b) = codes "leave" ∷ name_at names.barriers b ∷ []
ask_words names (Join t) = codes "join" ∷ thread_name names t ∷ []
ask_words names Yield = codes "yield" ∷ []
ask_words names (Check holds) = codes "check" ∷ check_word holds ∷ []
ask_words names (Fault kind) = codes "fault" ∷ fault_word kind ∷ []
ask_words names (Start t) = codes "start" ∷ thread_name names t ∷ []
ask_words names Begin = codes "begin" ∷ []
ask_words names (RdLock l) = codes "rdlock" ∷ name_at names.rwlocks l ∷ []
ask_words names (WrLock l) = codes "wrlock" ∷ name_at names.rwlocks l ∷ []
ask_words names (TryRdLock l) = codes "tryrdlock" ∷ name_at names.rwlocks l ∷ []
ask_words names (TryWrLock l) = codes "trywrlock" ∷ name_at names.rwlocks l ∷ []
ask_words names (RwUnlock l) = codes "rwunlock" ∷ name_at names.rwlocks l ∷ []

-- a step: its number, its thread, its line, what was asked and the answer
abbrev pub event_words : NameLists → ℕ → Event → List (List ℕ)
event_words names step event =
    decimal step ∷ thread_name names event.thread ∷ decimal event.line
    ∷ (ask_words names event.ask ++ codes "=" ∷ signed_decimal event.answer ∷ [])

-- the steps, of which the first has this number
abbrev pub step_lines : NameLists → ℕ → List Event → List (List (List ℕ))
step_lines names step [] = []
step_lines names step (event ∷ events) =
    event_words names step event ∷ step_lines names (step + 1) events

-- what a run was made by: the format's version, the order and the change points of its priorities,
-- and its greatest length
pub record TraceHead : Type 0 where
  pub version : ℕ
  pub order : List ℕ
  pub points : List ℕ
  pub limit : ℕ

-- the head in four lines: `trace` and the version, `order` and the threads' names in that order,
-- `points` and the change points, `limit` and the greatest length
abbrev pub head_lines : NameLists → TraceHead → List (List (List ℕ))
head_lines names head =
    (codes "trace" ∷ decimal head.version ∷ [])
    ∷ (codes "order" ∷ map (thread_name names) head.order)
    ∷ (codes "points" ∷ map decimal head.points) ∷ (codes "limit" ∷ decimal head.limit ∷ []) ∷ []

-- the last line: how the run ended, after the word `verdict`
abbrev pub verdict_line_words : NameLists → Verdict → List (List ℕ)
verdict_line_words names verdict = codes "verdict" ∷ verdict_words (named_verdict names verdict)

-- words with one space between them, and an LF
abbrev pub line_text : List (List ℕ) → List ℕ
line_text words = join_with_byte 32 words ++ 10 ∷ []

-- the text of a run: its head, its steps from 1 and its verdict
abbrev pub trace_text : TraceHead → NameLists → List Event → Verdict → List ℕ
trace_text head names events verdict =
    flat_map line_text
    (head_lines names head ++ step_lines names 1 events ++ verdict_line_words names verdict ∷ [])
