-- The operands of an ask, or something of each of them (this project).
use Rattle.std.specs.Prelude.{◌⊎◌, List, [], ◌∷◌}
use Rattle.pct_ask.specs.declared.trace_verbs.Operands.{Operands}
use Rattle.pct_ask.specs.declared.trace_verbs.Operands.TheVariants.{Bare, One, Two, Three}

-- the operands as a list
abbrev pub listed : {A : Type 0} → Operands A → List A
listed Bare = []
listed (One a) = a ∷ []
listed (Two a b) = a ∷ b ∷ []
listed (Three a b c) = a ∷ b ∷ c ∷ []

-- f of each operand
abbrev pub mapped : {A B : Type 0} → (A → B) → Operands A → Operands B
mapped f Bare = Bare
mapped f (One a) = One (f a)
mapped f (Two a b) = Two (f a) (f b)
mapped f (Three a b c) = Three (f a) (f b) (f c)

-- as many of both, and P of each with its own
abbrev pub Each : {A B : Type 0} → (A → B → Type 0) → Operands A → Operands B → Type 0
Each P Bare Bare = Unit {0}
Each P (One a) (One x) = P a x
Each P (Two a b) (Two x y) = P a x × P b y
Each P (Three a b c) (Three x y z) = P a x × P b y × P c z
Each P firsts seconds = ⊥

-- P of some of the first with its own of the second
abbrev pub SomeOf : {A B : Type 0} → (A → B → Type 0) → Operands A → Operands B → Type 0
SomeOf P (One a) (One x) = P a x
SomeOf P (Two a b) (Two x y) = P a x ⊎ P b y
SomeOf P (Three a b c) (Three x y z) = P a x ⊎ (P b y ⊎ P c z)
SomeOf P firsts seconds = ⊥
