-- What a read does to a shelf (this project).
use Rattle.std.specs.Prelude.{◌≡◌, ℕ, List, [], ◌∷◌, ◌++◌, map, take, Option, Some, None}
use Rattle.std.specs.Prelude.{string_bytes, String}

-- the bytes are the first of the file, as many as the smaller of its length and this number
abbrev pub FirstBytes : ℕ → List ℕ → List ℕ → Type 0
FirstBytes most file bytes = bytes ≡ take most file

-- they are the first bytes of the file of this name, where the files are told
abbrev pub FirstOf : Option (List ℕ → List ℕ) → List ℕ → ℕ → List ℕ → Type 0
FirstOf None name most bytes = Unit {0}
FirstOf (Some files) name most bytes = FirstBytes most (files name) bytes

-- these names, and then this one
abbrev pub names_with : List (List ℕ) → List ℕ → List (List ℕ)
names_with names name = names ++ name ∷ []

-- the texts of strings
abbrev pub texts_of : {A : Type 0} → List (String A) → List (List ℕ)
texts_of strings = map (λ s. string_bytes s) strings
