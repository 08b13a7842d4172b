-- The verbs of the script language's statements, as two tables (this project): of those on one
-- object or thread, and of those whose answer goes from one object into a register.
use Rattle.std.specs.Prelude.{ℕ, List, Option, codes}
use Rattle.std.specs.List.{find}
use Rattle.std.specs.Str.{bytes_eq}
use Rattle.pct_ask.specs.declared.names.NameKind.{NameKind}
use Rattle.pct_ask.specs.declared.names.NameKind.TheVariants as kinds
use Rattle.pct_ask.specs.declared.statement_verbs.TheConstants.{ON_VERBS, INTO_VERBS}
use Rattle.pct_ask.specs.declared.statement_verbs.OnVerb.{OnVerb}
use Rattle.pct_ask.specs.declared.statement_verbs.OnVerb.TheVariants.{Lock, Unlock, Signal}
use Rattle.pct_ask.specs.declared.statement_verbs.OnVerb.TheVariants.{Broadcast, Down, Up, Join}
use Rattle.pct_ask.specs.declared.statement_verbs.OnVerb.TheVariants.{Start, RdLock, WrLock}
use Rattle.pct_ask.specs.declared.statement_verbs.OnVerb.TheVariants.{RwUnlock}
use Rattle.pct_ask.specs.declared.statement_verbs.IntoVerb.{IntoVerb}
use Rattle.pct_ask.specs.declared.statement_verbs.IntoVerb.TheVariants.{Read, TryLock, TryDown}
use Rattle.pct_ask.specs.declared.statement_verbs.IntoVerb.TheVariants.{Arrive, TryRdLock}
use Rattle.pct_ask.specs.declared.statement_verbs.IntoVerb.TheVariants.{TryWrLock}

-- a row of the table of verbs: the keyword, the kind of the one object or thread that the statement
-- names, and the first version of the language that has it
pub record Row : Type 0 where
  pub word : List ℕ
  pub kind : NameKind
  pub since : ℕ

-- the row of these
abbrev pub row : List ℕ → NameKind → ℕ → Row
row word kind since = record { word = word; kind = kind; since = since }

-- the row of a statement on one object
abbrev pub on_row : OnVerb → Row
on_row Lock = row (codes "lock") kinds.Mutex 1
on_row Unlock = row (codes "unlock") kinds.Mutex 1
on_row Signal = row (codes "signal") kinds.Cond 1
on_row Broadcast = row (codes "broadcast") kinds.Cond 1
on_row Down = row (codes "down") kinds.Sem 1
on_row Up = row (codes "up") kinds.Sem 1
on_row Join = row (codes "join") kinds.Thread 1
on_row Start = row (codes "start") kinds.Thread 2
on_row RdLock = row (codes "rdlock") kinds.RwLock 3
on_row WrLock = row (codes "wrlock") kinds.RwLock 3
on_row RwUnlock = row (codes "rwunlock") kinds.RwLock 3

-- the row of a statement whose answer goes into a register
abbrev pub into_row : IntoVerb → Row
into_row Read = row (codes "read") kinds.Var 1
into_row TryLock = row (codes "trylock") kinds.Mutex 1
into_row TryDown = row (codes "trydown") kinds.Sem 1
into_row Arrive = row (codes "arrive") kinds.Barrier 1
into_row TryRdLock = row (codes "tryrdlock") kinds.RwLock 3
into_row TryWrLock = row (codes "trywrlock") kinds.RwLock 3

-- the keyword of a statement on one object
abbrev pub on_word : OnVerb → List ℕ
on_word verb = (on_row verb).word

-- the kind of the one object, or thread, that the statement names
abbrev pub on_kind : OnVerb → NameKind
on_kind verb = (on_row verb).kind

-- the first version of the language that has a statement on one object
abbrev pub on_since : OnVerb → ℕ
on_since verb = (on_row verb).since

-- the keyword of a statement whose answer goes into a register
abbrev pub into_word : IntoVerb → List ℕ
into_word verb = (into_row verb).word

-- the kind of the object whose answer goes into the register
abbrev pub into_kind : IntoVerb → NameKind
into_kind verb = (into_row verb).kind

-- the first version of the language that has a statement into a register
abbrev pub into_since : IntoVerb → ℕ
into_since verb = (into_row verb).since

-- the statement on one object that begins with this word
abbrev pub on_verb_in : List ℕ → Option OnVerb
on_verb_in word = find (λ verb. bytes_eq word (on_word verb)) ON_VERBS.now

-- the statement into a register that begins with this word
abbrev pub into_verb_in : List ℕ → Option IntoVerb
into_verb_in word = find (λ verb. bytes_eq word (into_word verb)) INTO_VERBS.now
