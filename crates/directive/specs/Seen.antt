-- How the code's values stand for those of the definitions.
use Rattle.std.specs.Prelude.{◌≡◌, Result, Ok, Err}
use Rattle.directive.specs.Reading.{Fault}
use Rattle.directive.specs.declared.fault.DirectiveError.{DirectiveError}
use Rattle.directive.specs.declared.fault.DirectiveError.TheVariants.{Bad, NoMemory}

-- What a call answered, seen by view, is what reading gives, want of memory aside.
abbrev pub Fails : {Y : Type 0} → DirectiveError → Result Y Fault → Type 0
Fails (Bad line kind) read = read ≡ Err (line, kind)
Fails NoMemory read = Unit {0}

abbrev pub Gives : {X Y : Type 0} → (X → Y) → Result X DirectiveError → Result Y Fault → Type 0
Gives view (Ok x) read = read ≡ Ok (view x)
Gives view (Err error) read = Fails error read
