-- Somebody is blocked where a bit is set.
use Rattle.std.proofs.Common.{◌≡◌, ◌<◌, ◌^◌, ℕ, [], length, ap, sym, subst, arith}
use Rattle.c_texts.proofs.KnownPlaces.{rest_of, no_bits, some_bit, zero_bits}
use Rattle.c_texts.proofs.known.is_known_stuck.Goals as goal

pub returns-then-bits-ne0 : goal.returns-then-bits-ne0
returns-then-bits-ne0 c =
    let bits = c.args.bits in
    let lines = c.args.lines.now in
    let few = subst (λ (n : ℕ). bits < 2 ^ n) (sym c.told-lines) c.ranges.bits.fits in (
      λ t. (some_bit 0 bits lines few c.if-bits-ne0.true, c.are_known_places.ensures.0 t),
      λ known. c.are_known_places.ensures.1 known.1,
    )

pub returns-else-bits-ne0 : goal.returns-else-bits-ne0
returns-else-bits-ne0 c =
    let lines = c.args.lines.now in
    let none = subst (λ (n : ℕ). rest_of 0 n lines ≡ []) (sym c.if-bits-ne0.false) (no_bits 0 lines)
    in (
      λ t. absurd (zero_bits c.args.bits c.if-bits-ne0.false t),
      λ known. absurd (omega (arith, known.0, ap length none)),
    )
