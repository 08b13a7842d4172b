use Rattle.std.proofs.Common.{sym, ap, ◌∙◌, inl, inr, arith, w64}
use Rattle.std.proofs.lemmas.Bool.{cases_eq}
use Rattle.std.proofs.lemmas.Nat.Bits.{bit_at_set_same, bit_at_set_other}
use Rattle.std.specs.Int.{bit_at}
use Rattle.turn_book.proofs.Waiters.{with_bit}
use Rattle.turn_book.proofs.known.with_opened.Goals as goal

pub returns-then-not-is_open-clause-this : goal.returns-then-not-is_open-clause-this
returns-then-not-is_open-clause-this c = λ none.
    let set = bit_at_set_same w64 c.args.opened c.args.thread c.requires in
    absurd (omega (arith, none, set))

pub returns-then-not-is_open-clause-others : goal.returns-then-not-is_open-clause-others
returns-then-not-is_open-clause-others c = λ u none.
    let bits = c.args.opened in
    let t = c.args.thread in
    elim (cases_eq u t) [
      | inl same ↦
          let set = bit_at_set_same w64 bits t c.requires in
          absurd (let clear = sym (ap (λ v. bit_at (with_bit bits t) v) same) ∙ none in
          omega (arith, clear, set))
      | inr apart ↦ sym (bit_at_set_other w64 bits t c.requires u apart) ∙ none
    ]
