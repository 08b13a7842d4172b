-- The accesses of variables, by what the search for races keeps of them.
use Rattle.std.specs.Prelude.{ℕ, ℤ, pos, ◌==◌, Bool, true, false, ◌&&◌, ◌||◌, if◌then◌else◌, Option}
use Rattle.std.specs.Prelude.{Some, None}
use Rattle.std.specs.Ordering.{int_eq}
use Rattle.pct_ask.specs.declared.ask.Ask.{Ask}
use Rattle.pct_ask.specs.declared.ask.Ask.TheVariants.{Read, Write, Add, Cas}
use Rattle.pct_ask.specs.declared.event.Event.{Event}
use Rattle.hb_race.specs.declared.access.AccessKind.{AccessKind}
use Rattle.hb_race.specs.declared.access.AccessKind.TheVariants.{PlainRead, PlainWrite, AtomicRead}
use Rattle.hb_race.specs.declared.access.AccessKind.TheVariants.{AtomicWrite}
use Rattle.hb_race.specs.declared.access.Access.{Access}

abbrev pub exchange_kind : ℤ → AccessKind
exchange_kind answer = if int_eq answer (pos 1) then AtomicWrite else AtomicRead

abbrev pub access_by : Ask → ℤ → Option Access
access_by (Read x) answer = Some (record { var = x; kind = PlainRead })
access_by (Write x value) answer = Some (record { var = x; kind = PlainWrite })
access_by (Add x value) answer = Some (record { var = x; kind = AtomicWrite })
access_by (Cas x old new) answer = Some (record { var = x; kind = exchange_kind answer })
access_by _ answer = None

abbrev pub access_of : Event → Option Access
access_of event = access_by event.ask event.answer

-- how an access has to do with the variable x
abbrev pub kind_on : ℕ → Option Access → Option AccessKind
kind_on x None = None
kind_on x (Some access) = if access.var == x then Some access.kind else None

abbrev pub is_plain_kind : AccessKind → Bool
is_plain_kind PlainRead = true
is_plain_kind PlainWrite = true
is_plain_kind AtomicRead = false
is_plain_kind AtomicWrite = false

abbrev pub is_write_kind : AccessKind → Bool
is_write_kind PlainRead = false
is_write_kind PlainWrite = true
is_write_kind AtomicRead = false
is_write_kind AtomicWrite = true

-- whether two accesses of one variable that nothing orders race
abbrev pub conflict : AccessKind → AccessKind → Bool
conflict a b = (is_plain_kind a || is_plain_kind b) && (is_write_kind a || is_write_kind b)

-- whether a step's access of a variable is of a kind
abbrev pub same_kind : AccessKind → AccessKind → Bool
same_kind PlainRead PlainRead = true
same_kind PlainWrite PlainWrite = true
same_kind AtomicRead AtomicRead = true
same_kind AtomicWrite AtomicWrite = true
same_kind a b = false
