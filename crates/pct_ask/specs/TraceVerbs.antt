-- The asks of traces, as a table (this project): the word of each, what its operands are, and the
-- first version of traces that has it.
use Rattle.std.specs.Prelude.{ℕ, ◌==◌, ◌||◌, if◌then◌else◌, List, [], ◌∷◌, Option, Some, None}
use Rattle.std.specs.Prelude.{codes}
use Rattle.std.specs.Str.{bytes_eq}
use Rattle.pct_ask.specs.declared.names.NameKind.TheVariants.{Thread, Var, Mutex, Cond, Sem}
use Rattle.pct_ask.specs.declared.names.NameKind.TheVariants.{Barrier, RwLock}
use Rattle.pct_ask.specs.declared.trace_verbs.Verb.{Verb}
use Rattle.pct_ask.specs.declared.trace_verbs.Verb.TheVariants.{Read, Write, Add, Cas, Lock}
use Rattle.pct_ask.specs.declared.trace_verbs.Verb.TheVariants.{TryLock, Unlock, Release, Regain}
use Rattle.pct_ask.specs.declared.trace_verbs.Verb.TheVariants.{Signal, Broadcast, Down, TryDown}
use Rattle.pct_ask.specs.declared.trace_verbs.Verb.TheVariants.{Up, Arrive, Leave, Join, Yield}
use Rattle.pct_ask.specs.declared.trace_verbs.Verb.TheVariants.{Check, Fault, Start, Begin, RdLock}
use Rattle.pct_ask.specs.declared.trace_verbs.Verb.TheVariants.{WrLock, TryRdLock, TryWrLock}
use Rattle.pct_ask.specs.declared.trace_verbs.Verb.TheVariants.{RwUnlock}
use Rattle.pct_ask.specs.declared.trace_verbs.OperandKind.{OperandKind}
use Rattle.pct_ask.specs.declared.trace_verbs.OperandKind.TheVariants.{Object, Value, Holds, Cause}
use Rattle.pct_ask.specs.declared.trace_verbs.Operands.{Operands}
use Rattle.pct_ask.specs.declared.trace_verbs.Operands.TheVariants.{Bare, One, Two, Three}

-- a row of the table: a word, the kinds of its operands, and the first version that has it
pub record Row : Type 0 where
  pub word : List ℕ
  pub operands : Operands OperandKind
  pub since : ℕ

-- the row of these
abbrev pub row : List ℕ → Operands OperandKind → ℕ → Row
row word operands since = record { word = word; operands = operands; since = since }

-- the table: the row of each verb
abbrev pub row_of : Verb → Row
row_of Read = row (codes "read") (One (Object Var)) 1
row_of Write = row (codes "write") (Two (Object Var) Value) 1
row_of Add = row (codes "add") (Two (Object Var) Value) 1
row_of Cas = row (codes "cas") (Three (Object Var) Value Value) 1
row_of Lock = row (codes "lock") (One (Object Mutex)) 1
row_of TryLock = row (codes "trylock") (One (Object Mutex)) 1
row_of Unlock = row (codes "unlock") (One (Object Mutex)) 1
row_of Release = row (codes "release") (Two (Object Cond) (Object Mutex)) 1
row_of Regain = row (codes "regain") (Two (Object Cond) (Object Mutex)) 1
row_of Signal = row (codes "signal") (One (Object Cond)) 1
row_of Broadcast = row (codes "broadcast") (One (Object Cond)) 1
row_of Down = row (codes "down") (One (Object Sem)) 1
row_of TryDown = row (codes "trydown") (One (Object Sem)) 1
row_of Up = row (codes "up") (One (Object Sem)) 1
row_of Arrive = row (codes "arrive") (One (Object Barrier)) 1
row_of Leave = row (codes "leave") (One (Object Barrier)) 1
row_of Join = row (codes "join") (One (Object Thread)) 1
row_of Yield = row (codes "yield") Bare 1
row_of Check = row (codes "check") (One Holds) 1
row_of Fault = row (codes "fault") (One Cause) 1
row_of Start = row (codes "start") (One (Object Thread)) 1
row_of Begin = row (codes "begin") Bare 1
row_of RdLock = row (codes "rdlock") (One (Object RwLock)) 2
row_of WrLock = row (codes "wrlock") (One (Object RwLock)) 2
row_of TryRdLock = row (codes "tryrdlock") (One (Object RwLock)) 2
row_of TryWrLock = row (codes "trywrlock") (One (Object RwLock)) 2
row_of RwUnlock = row (codes "rwunlock") (One (Object RwLock)) 2

-- the word of a verb
abbrev pub verb_word : Verb → List ℕ
verb_word verb = (row_of verb).word

-- the kinds of the operands of a verb
abbrev pub verb_operands : Verb → Operands OperandKind
verb_operands verb = (row_of verb).operands

-- the first version of traces that has a verb: read-write locks came with the second
abbrev pub verb_since : Verb → ℕ
verb_since verb = (row_of verb).since

-- all verbs
abbrev pub verbs : List Verb
verbs =
    Read ∷ Write ∷ Add ∷ Cas ∷ Lock ∷ TryLock ∷ Unlock ∷ Release ∷ Regain ∷ Signal
    ∷ Broadcast ∷ Down ∷ TryDown ∷ Up ∷ Arrive ∷ Leave ∷ Join ∷ Yield ∷ Check ∷ Fault ∷ Start
    ∷ Begin ∷ RdLock ∷ WrLock ∷ TryRdLock ∷ TryWrLock ∷ RwUnlock ∷ []

-- the verb of a word, among these
abbrev pub verb_among : List Verb → List ℕ → Option Verb
verb_among [] word = None
verb_among (verb ∷ others) word =
    if bytes_eq word (verb_word verb) then Some verb else verb_among others word

-- the verb, where a version of traces has it: the second has all
abbrev pub verb_known : ℕ → Option Verb → Option Verb
verb_known version None = None
verb_known version (Some verb) = if verb_since verb == 1 || version == 2 then Some verb else None

-- the verb that a word is in traces of a version
unfoldable pub verb_in : ℕ → List ℕ → Option Verb
verb_in version word = verb_known version (verb_among verbs word)
