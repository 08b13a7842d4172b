-- Small steps about choices and options.
use Rattle.std.proofs.Common.{◌≡◌, ℕ, Bool, true, false, cond, ◌⊎◌, inl, inr, List, Option, Some}
use Rattle.std.proofs.Common.{None, refl, ap, ◌∙◌}
use Rattle.std.specs.Option.{option_map, option_and_then}
use Rattle.std.specs.Str.{bytes_eq}
use Rattle.std.proofs.lemmas.Slice.Eq.{bytes_eq-Decides}

abbrev pub some : {A : Type 0} → A → Option A
some x = Some x

pub some_is : {A : Type 0} (x y : A) → some x ≡ some y → x ≡ y
some_is x y e = cc

pub clash : {A : Type 0} → true ≡ false → A
clash e = absurd cc

-- which way a choice went
pub chosen : {A : Type 0} (b : Bool) (x y z : A) → cond b x y ≡ z
    → ((b ≡ true) × (x ≡ z)) ⊎ ((b ≡ false) × (y ≡ z))
chosen true x y z e = inl (refl, e)
chosen false x y z e = inr (refl, e)

-- what passed a test
pub passed : {A : Type 0} (b : Bool) (x : Option A) (z : A) → cond b x None ≡ Some z
    → (b ≡ true) × (x ≡ Some z)
passed true x z e = (refl, e)
passed false x z e = absurd cc

-- what failed no test
pub unfailed : {A : Type 0} (b : Bool) (x : Option A) (z : A) → cond b None x ≡ Some z
    → (b ≡ false) × (x ≡ Some z)
unfailed true x z e = absurd cc
unfailed false x z e = (refl, e)

-- what no choice gave
pub unchosen : {A : Type 0} (b : Bool) (x : A) (rest : Option A) → cond b (Some x) rest ≡ None
    → (b ≡ false) × (rest ≡ None)
unchosen true x rest e = absurd cc
unchosen false x rest e = (refl, e)

pub mapped_some : {A B : Type 0} (f : A → B) (o : Option A) (y : B) → option_map f o ≡ Some y
    → (x : A) × (o ≡ Some x) × (f x ≡ y)
mapped_some f None y e = absurd cc
mapped_some f (Some x) y e = (x, refl, some_is (f x) y e)

pub bind_some : {A B : Type 0} (f : A → Option B) (o : Option A) (y : B)
    → option_and_then f o ≡ Some y → (x : A) × (o ≡ Some x) × (f x ≡ Some y)
bind_some f None y e = absurd cc
bind_some f (Some x) y e = (x, refl, e)

-- equal texts by their test
pub same_bytes : (a b : List ℕ) → bytes_eq a b ≡ true → a ≡ b
same_bytes a b h = (bytes_eq-Decides a b).0 h

-- a word that one of several texts is chosen by
pub one_choice : {A : Type 0} (text : A → List ℕ) (word : List ℕ) (a : A) (rest : Option A) (b : A)
    → cond (bytes_eq word (text a)) (Some a) rest ≡ Some b → (rest ≡ Some b → word ≡ text b)
    → word ≡ text b
one_choice text word a rest b e others =
    elim (chosen (bytes_eq word (text a)) (Some a) rest (Some b) e) [
      | inl h ↦ same_bytes word (text a) h.0 ∙ ap text (some_is a b h.1)
      | inr h ↦ others h.1
    ]
