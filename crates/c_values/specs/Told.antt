-- What a call answers that gives something or refuses (this project).
use Rattle.std.specs.Prelude.{Option, Some, List, [], ◌∷◌, Result, Ok, Err}
use Rattle.std.specs.Option.{option_map, option_and_then}
use Rattle.c_values.specs.declared.refused.Refused.{Refused}
use Rattle.c_values.specs.declared.refused.Refused.TheVariants.{Bad, NoMemory}

-- What is given is what is asked for; bad says that there is no such thing. Want of memory says
-- nothing.
abbrev pub Answers : {T : Type 0} → (T → Type 0) → Result T Refused → Type 0
Answers Is (Ok told) = Is told
Answers {T = T} Is (Err Bad) = (told : T) → ¬ Is told
Answers Is (Err NoMemory) = Unit {0}

-- what numbers say, one after another, if each says something
abbrev pub all_said : {N T : Type 0} → (N → Option T) → List N → Option (List T)
all_said said [] = Some []
all_said said (one ∷ others) =
    option_and_then (λ first. option_map (λ later. first ∷ later) (all_said said others)) (said one)
