-- An ask as numbers (this project's coding).
use Rattle.std.specs.Prelude.{ℕ, ℤ, true, false, Option, Some, None, List, [], ◌∷◌, slice_get}
use Rattle.pct_ask.specs.declared.ask.Ask.{Ask}
use Rattle.pct_ask.specs.declared.ask.Ask.TheVariants.{Read, Write, Add, Cas, Lock, TryLock, Unlock}
use Rattle.pct_ask.specs.declared.ask.Ask.TheVariants.{Release, Regain, Signal, Broadcast, Down}
use Rattle.pct_ask.specs.declared.ask.Ask.TheVariants.{TryDown, Up, Arrive, Leave, Join, Yield}
use Rattle.pct_ask.specs.declared.ask.Ask.TheVariants.{Check, Fault, Start, Begin, RdLock, WrLock}
use Rattle.pct_ask.specs.declared.ask.Ask.TheVariants.{TryRdLock, TryWrLock, RwUnlock}
use Rattle.pct_ask.specs.declared.ask.FaultKind.{FaultKind}
use Rattle.pct_ask.specs.declared.ask.FaultKind.TheVariants.{Overflow, ZeroDivisor, Spin}
use Rattle.c_values.specs.declared.ask.PctAsk.{PctAsk}

-- what each kind asks, with the objects and values that it names; kind 0 is no ask
abbrev pub asks_by : ℕ → ℕ → ℤ → ℤ → List (Option Ask)
asks_by a b x y =
    None
    ∷ Some (Read a)
    ∷ Some (Write a x)
    ∷ Some (Add a x)
    ∷ Some (Cas a x y)
    ∷ Some (Lock a)
    ∷ Some (TryLock a)
    ∷ Some (Unlock a)
    ∷ Some (Release a b)
    ∷ Some (Regain a b)
    ∷ Some (Signal a)
    ∷ Some (Broadcast a)
    ∷ Some (Down a)
    ∷ Some (TryDown a)
    ∷ Some (Up a)
    ∷ Some (Arrive a)
    ∷ Some (Leave a)
    ∷ Some (Join a)
    ∷ Some Yield
    ∷ Some (Check true)
    ∷ Some (Check false)
    ∷ Some (Fault Overflow)
    ∷ Some (Fault ZeroDivisor)
    ∷ Some (Fault Spin)
    ∷ Some (Start a)
    ∷ Some Begin
    ∷ Some (RdLock a)
    ∷ Some (WrLock a)
    ∷ Some (TryRdLock a)
    ∷ Some (TryWrLock a)
    ∷ Some (RwUnlock a)
    ∷ []

-- the ask that the numbers say; of a kind that there is not they say nothing
abbrev pub ask_by : ℕ → ℕ → ℕ → ℤ → ℤ → Option (Option Ask)
ask_by kind a b x y = slice_get (asks_by a b x y) kind

-- the same of an ask's numbers together
abbrev pub ask_said : PctAsk → Option (Option Ask)
ask_said n = ask_by n.kind n.a n.b n.x n.y

-- the kind of a fault's ask
abbrev pub fault_ask : FaultKind → ℕ
fault_ask Overflow = 21
fault_ask ZeroDivisor = 22
fault_ask Spin = 23
