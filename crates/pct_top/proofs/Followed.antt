-- What holds of each value that there may be holds of what is made of it.
use Rattle.std.proofs.Common.{ℕ, Option, Some, None, Result, Ok, Err}
use Rattle.std.specs.Prelude.{IfSome, IfOk, ok_or}
use Rattle.std.specs.Option.{option_map, option_and_then}
use Rattle.pct_top.specs.Options.{and_then}

module _ {A B : Type 0} (Q : B → Type 0) {P : A → Type 0} where
  pub mapped : (f : A → B) (o : Option A) → IfSome o P → ((x : A) → P x → Q (f x))
      → IfSome (option_map f o) Q
  mapped f None given each = tt
  mapped f (Some x) given each = each x given

  pub chained : (f : A → Option B) (o : Option A) → IfSome o P → ((x : A) → P x → IfSome (f x) Q)
      → IfSome (option_and_then f o) Q
  chained f None given each = tt
  chained f (Some x) given each = each x given

  pub followed : (f : A → Result B ℕ) (o : Option A) (number : ℕ) → IfSome o P
      → ((x : A) → P x → IfOk (f x) Q) → IfOk (and_then f (ok_or o number)) Q
  followed f None number given each = tt
  followed f (Some x) number given each = each x given

  pub behind : (f : A → Result B ℕ) (r : Result A ℕ) → IfOk r P
      → ((x : A) → P x → IfOk (f x) Q) → IfOk (and_then f r) Q
  behind f (Err number) given each = tt
  behind f (Ok x) given each = each x given

pub or_word : {A : Type 0} (P : A → Type 0) (o : Option A) (number : ℕ) → IfSome o P
    → IfOk (ok_or o number) P
or_word P None number given = tt
or_word P (Some x) number given = given

pub any : {A : Type 0} (o : Option A) → IfSome o (λ _. Unit {0})
any None = tt
any (Some x) = tt
