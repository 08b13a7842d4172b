-- What a call refuses because another one did.
use Rattle.std.proofs.Common.{◌≡◌, sym, subst, ap, ◌∙◌}
use Rattle.std.specs.Prelude.{Result, Err}
use Rattle.c_values.specs.Told.{Answers}
use Rattle.c_values.specs.declared.refused.Refused.{Refused}
use Rattle.c_values.specs.declared.refused.Refused.TheVariants.{Bad, NoMemory}

handed : {A B : Type 0} (IsA : A → Type 0) (IsB : B → Type 0) (why : Refused)
    → Answers {T = A} IsA (Err why) → ((told : B) → IsB told → (other : A) × IsA other)
    → Answers {T = B} IsB (Err why)
handed IsA IsB Bad none some = λ told is. let found = some told is in none found.0 found.1
handed IsA IsB NoMemory none some = tt

-- What is refused is refused for the same reason, where each thing that it asks for has one of
-- those
-- that the other call asks for.
pub refusal : {A B : Type 0} (IsA : A → Type 0) (IsB : B → Type 0) (why again : Refused)
    (result : Result B Refused) → result ≡ Err again → again ≡ why
    → Answers {T = A} IsA (Err why) → ((told : B) → IsB told → (other : A) × IsA other)
    → Answers {T = B} IsB result
refusal IsA IsB why again result e f none some =
    subst (λ r. Answers IsB r) (sym (e ∙ ap (λ x. Err x) f)) (handed IsA IsB why none some)
