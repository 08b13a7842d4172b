use Rattle.std.proofs.Common.{◌≡◌, ℕ, sym, ap, ◌∙◌, inl, inr, w64}
use Rattle.std.specs.Int.{bit_at}
use Rattle.std.proofs.lemmas.Bool.{cases_eq}
use Rattle.std.proofs.lemmas.Nat.Bits.{bit_at_set_same, bit_at_set_other}
use Rattle.sync_store.specs.declared.touched.Touched.TheVariants.{Mutex}
use Rattle.turn_book.proofs.Waiters.{with_bit}
use Rattle.turn_book.proofs.known.with_stale.Goals as goal

pub returns-in-Mutex-clause-touched : goal.returns-in-Mutex-clause-touched
returns-in-Mutex-clause-touched c = λ m is.
    let k : ℕ = c.in-Mutex.mutex in
    let same : k ≡ m = (let e : Mutex k ≡ Mutex m = sym c.in-Mutex.is ∙ is in cc) in (
      c.requires m is,
      ap (λ n. bit_at (with_bit c.args.stale k) n) (sym same)
          ∙ bit_at_set_same w64 c.args.stale k (c.requires k c.in-Mutex.is),
    )

pub returns-in-Mutex-clause-others : goal.returns-in-Mutex-clause-others
returns-in-Mutex-clause-others c = λ m was.
    let k : ℕ = c.in-Mutex.mutex in
    let small = c.requires k c.in-Mutex.is in
    elim (cases_eq m k) [
      | inl same ↦
          ap (λ n. bit_at (with_bit c.args.stale k) n) same
          ∙ bit_at_set_same w64 c.args.stale k small
      | inr apart ↦ bit_at_set_other w64 c.args.stale k small m apart ∙ was
    ]
