-- How the code of a script is seen (this project).
use Rattle.std.specs.Prelude.{List}
use Rattle.script_code.specs.Operations.{Operation, listings}
use Rattle.script_code.specs.declared.code.Code.{Code}

-- the operations of each thread
abbrev pub listing : Code → List (List Operation)
listing code = listings code.threads
