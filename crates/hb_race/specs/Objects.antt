-- The objects by which the edges between steps are found, with a number for each.
use Rattle.std.specs.Prelude.{ℕ, ℤ, ◌+◌, ◌*◌, Bool, false, ◌==◌, ◌||◌, List, ◌∷◌, ◌++◌, Option}
use Rattle.std.specs.Prelude.{Some, None, option_map}
use Rattle.std.specs.Option.{option_to_list}
use Rattle.pct_ask.specs.declared.ask.Ask.{Ask}
use Rattle.pct_ask.specs.declared.ask.Ask.TheVariants.{Add, Cas, Lock, TryLock, Unlock, Release}
use Rattle.pct_ask.specs.declared.ask.Ask.TheVariants.{Regain, Signal, Broadcast, Down, TryDown, Up}
use Rattle.pct_ask.specs.declared.ask.Ask.TheVariants.{Arrive, Leave, Join, Start, RdLock, WrLock}
use Rattle.pct_ask.specs.declared.ask.Ask.TheVariants.{TryRdLock, TryWrLock, RwUnlock}
use Rattle.pct_ask.specs.declared.event.Event.{Event}
use Rattle.hb_race.specs.declared.object.Object.{Object}
use Rattle.hb_race.specs.declared.object.Object.TheVariants.{Thread, Beginning, Mutex, Condition}
use Rattle.hb_race.specs.declared.object.Object.TheVariants.{Semaphore, Barrier, Variable}
use Rattle.hb_race.specs.declared.object.Object.TheVariants.{ReadWriteLock}
use Rattle.hb_race.specs.HappensBefore.{if_taken, if_woken}

-- the row of an object's clock
abbrev pub place : Object → ℕ
place (Thread id) = 8 * id
place (Beginning id) = 8 * id + 1
place (Mutex id) = 8 * id + 2
place (Condition id) = 8 * id + 3
place (Semaphore id) = 8 * id + 4
place (Barrier id) = 8 * id + 5
place (Variable id) = 8 * id + 6
place (ReadWriteLock id) = 8 * id + 7

-- the object to which a step gives, beside its own thread
abbrev pub object_given : Ask → ℤ → Option Object
object_given (Add x value) answer = Some (Variable x)
object_given (Cas x old new) answer = Some (Variable x)
object_given (Unlock m) answer = Some (Mutex m)
object_given (Release c m) answer = Some (Mutex m)
object_given (Signal c) answer = if_woken answer (Condition c)
object_given (Broadcast c) answer = if_woken answer (Condition c)
object_given (Up s) answer = Some (Semaphore s)
object_given (Arrive b) answer = Some (Barrier b)
object_given (Start u) answer = Some (Beginning u)
object_given (RwUnlock l) answer = Some (ReadWriteLock l)
object_given _ answer = None

-- the objects from which a step takes, beside its own thread
abbrev pub first_taken : Ask → ℤ → Option Object
first_taken (Add x value) answer = Some (Variable x)
first_taken (Cas x old new) answer = Some (Variable x)
first_taken (Lock m) answer = Some (Mutex m)
first_taken (TryLock m) answer = if_taken answer (Mutex m)
first_taken (Regain c m) answer = Some (Mutex m)
first_taken (Down s) answer = Some (Semaphore s)
first_taken (TryDown s) answer = if_taken answer (Semaphore s)
first_taken (Leave b) answer = Some (Barrier b)
first_taken (Join u) answer = Some (Thread u)
first_taken (RdLock l) answer = Some (ReadWriteLock l)
first_taken (WrLock l) answer = Some (ReadWriteLock l)
first_taken (TryRdLock l) answer = if_taken answer (ReadWriteLock l)
first_taken (TryWrLock l) answer = if_taken answer (ReadWriteLock l)
first_taken _ answer = None

abbrev pub second_taken : Ask → Option Object
second_taken (Regain c m) = Some (Condition c)
second_taken _ = None

-- all of them, by their rows
abbrev pub places : Option Object → List ℕ
places object = option_to_list (option_map place object)

abbrev pub places_taken : Event → List ℕ
places_taken e =
    place (Thread e.thread) ∷ place (Beginning e.thread)
    ∷ (places (first_taken e.ask e.answer) ++ places (second_taken e.ask))

abbrev pub is_at : Option Object → ℕ → Bool
is_at None row = false
is_at (Some object) row = place object == row

abbrev pub gives_to : Event → ℕ → Bool
gives_to e row = place (Thread e.thread) == row || is_at (object_given e.ask e.answer) row
