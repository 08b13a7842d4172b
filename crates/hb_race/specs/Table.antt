-- A table of clocks: a row for each object, with an entry for each thread.
use Rattle.std.specs.Prelude.{◌≡◌, ℕ, suc, max, pos, ◌<◌, ◌==◌, Bool, if◌then◌else◌, List, []}
use Rattle.std.specs.Prelude.{length, Option, Some, None, slice_index_or, slice_get}
use Rattle.std.specs.Option.{option_and_then}
use Rattle.pct_ask.specs.declared.ask.Ask.TheVariants.{Read}
use Rattle.pct_ask.specs.declared.event.Event.{Event}
use Rattle.hb_race.specs.declared.access.AccessKind.{AccessKind}
use Rattle.hb_race.specs.declared.object.Object.{Object}
use Rattle.hb_race.specs.declared.object.Object.TheVariants.{Thread}
use Rattle.hb_race.specs.Order.{Steps}
use Rattle.hb_race.specs.Clocks.{clocks, own_count, greatest_of}
use Rattle.hb_race.specs.Objects.{place, places_taken, gives_to}
use Rattle.hb_race.specs.Accesses.{access_of, kind_on}

-- a clock's entry for a thread
abbrev pub time : List ℕ → ℕ → ℕ
time clock u = slice_index_or clock u 0

-- The entry for the thread u in the clock of a row (vector clocks: Mattern, Fidge). The row is an
-- object's place; the entry counts those first steps of u that are before whatever takes what the
-- object has. Past the table's end, and past a row's, it is 0.
abbrev pub clock_entry : List (List ℕ) → ℕ → ℕ → ℕ
clock_entry table row u = time (slice_index_or table row []) u

abbrev pub entry_if : List (List ℕ) → Option Object → ℕ → ℕ
entry_if table None u = 0
entry_if table (Some object) u = clock_entry table (place object) u

-- the clock of the next step, which is an event, by a table and the threads' counts of steps
abbrev pub stamp_from : List (List ℕ) → List ℕ → Event → ℕ → ℕ
stamp_from table counts e u =
    if e.thread == u then suc (time counts u)
    else greatest_of (clock_entry table) u (places_taken e)

-- the rows that are given to join a clock, and the others stay
abbrev pub AreJoined : (ℕ → Bool) → List ℕ → List (List ℕ) → List (List ℕ) → Type 0
AreJoined given clock old new =
    (row u : ℕ) → row < length old
    → clock_entry new row u
    ≡ (if given row then max (clock_entry old row u) (time clock u) else clock_entry old row u)

-- what no step of the list is
abbrev pub no_event : Event
no_event = record { thread = 0; line = 0; ask = Read 0; answer = pos 0 }

abbrev pub event_at : List Event → ℕ → Event
event_at events i = slice_index_or events i no_event

-- the steps of a run, as they act on the rows of a table
abbrev pub steps_of : List Event → Steps ℕ
steps_of events = record {
  thread = λ i. (event_at events i).thread;
  takes = λ i. places_taken (event_at events i);
  gives = λ i row. gives_to (event_at events i) row;
  line = λ t. place (Thread t);
}

-- how the steps of a run access the variable x
abbrev pub accesses_of : List Event → ℕ → ℕ → Option AccessKind
accesses_of events x i = option_and_then (λ event. kind_on x (access_of event)) (slice_get events i)

-- the table and the counts of the threads' steps, after n steps
pub record IsTable (s : Steps ℕ) (n : ℕ) (table : List (List ℕ)) (counts : List ℕ) : Type 0 where
  pub rows : length table ≡ 512
  pub entries : (row u : ℕ) → row < 512 → clock_entry table row u ≡ clocks s n row u
  pub counted : (u : ℕ) → time counts u ≡ own_count s u n

-- the n-th step of a run is this event
pub record IsStepEvent (s : Steps ℕ) (n : ℕ) (e : Event) : Type 0 where
  pub thread : s.thread n ≡ e.thread
  pub takes : s.takes n ≡ places_taken e
  pub gives : (row : ℕ) → s.gives n row ≡ gives_to e row
