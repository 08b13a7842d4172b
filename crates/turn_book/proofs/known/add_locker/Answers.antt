use Rattle.std.proofs.Common.{◌≡◌, ℕ, get_or, Some, sym, ap}
use Rattle.std.proofs.Common.{◌∙◌, w64}
use Rattle.std.proofs.lemmas.Nat.Bits.{bit_at_set_same, bit_at_set_other}
use Rattle.pct_ask.specs.declared.ask.Ask.TheVariants.{Lock}
use Rattle.turn_book.specs.Board.{ask_of_post, locks_ask}
use Rattle.turn_book.proofs.Lockers.{bit_of, lockers-set, own-lock, other-lock}
use Rattle.turn_book.proofs.known.add_locker.Goals as goal

pub bounds-lockers-place : goal.bounds-lockers-place
bounds-lockers-place c =
    let m : ℕ = c.in-Some-Lock.mutex in
    let is : c.args.ask ≡ Some (Lock m) =
    c.in-Some-Lock.is
    ∙ ap (λ a. Some a) (rw c.in-Some-Lock.is at c.in-Some-Lock.field-0-is) in
    c.requires.in_range m (ap (locks_ask m) is ∙ own-lock m)

pub bounds-lockers-place-in-Some-Lock : goal.bounds-lockers-place-in-Some-Lock
bounds-lockers-place-in-Some-Lock c =
    let m : ℕ = c.in-Some-Lock.mutex in
    let is : c.args.ask ≡ Some (Lock m) =
    c.in-Some-Lock.is
    ∙ ap (λ a. Some a) (rw c.in-Some-Lock.is at c.in-Some-Lock.field-0-is) in
    c.requires.in_range m (ap (locks_ask m) is ∙ own-lock m)

pub returns-in-Some-Lock-clause-lockers : goal.returns-in-Some-Lock-clause-lockers
returns-in-Some-Lock-clause-lockers c = λ posts post are there away asks.
    let m : ℕ = c.in-Some-Lock.mutex in
    let t : ℕ = c.args.thread in
    let was : ℕ = get_or c.args.lockers.now m 0 in
    let is : c.args.ask ≡ Some (Lock m) =
    c.in-Some-Lock.is
    ∙ ap (λ a. Some a) (rw c.in-Some-Lock.is at c.in-Some-Lock.field-0-is) in
    let post_is : ask_of_post post ≡ Some (Lock m) = asks ∙ is in
    lockers-set posts c.args.lockers.now t m _ post there
    (c.requires.in_range m (ap (locks_ask m) is ∙ own-lock m))
    (bit_at_set_same w64 was t c.requires.thread
    ∙ sym (ap (λ a. bit_of (locks_ask m a)) post_is ∙ ap bit_of (own-lock m)))
    (λ u within apart. bit_at_set_other w64 was t c.requires.thread u apart)
    (λ n apart. ap (locks_ask n) post_is ∙ other-lock n m apart
    ∙ sym (ap (λ p. locks_ask n (ask_of_post p)) away)) are
