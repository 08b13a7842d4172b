use Rattle.std.proofs.Common.{◌≡◌, ℕ, get_or, Some, None, sym, ap}
use Rattle.std.proofs.Common.{refl, ◌∙◌, w64}
use Rattle.std.proofs.lemmas.Nat.Bits.{bit_at_clear_same, bit_at_clear_other}
use Rattle.pct_ask.specs.declared.ask.Ask.TheVariants.{Lock}
use Rattle.turn_book.specs.Board.{ask_of_post, locks, locks_ask, next_posts_of}
use Rattle.turn_book.proofs.Lockers.{lockers-set, lockers-stay, own-lock, other-lock}
use Rattle.turn_book.proofs.Lockers.{no-lock}
use Rattle.turn_book.proofs.known.remove_locker.Goals as goal

pub bounds-lockers-place : goal.bounds-lockers-place
bounds-lockers-place c =
    let m : ℕ = c.in-Lock.mutex in
    c.requires.in_range m (ap (locks m) c.in-Lock.is ∙ own-lock m)

pub bounds-lockers-place-in-Lock : goal.bounds-lockers-place-in-Lock
bounds-lockers-place-in-Lock c =
    let m : ℕ = c.in-Lock.mutex in
    c.requires.in_range m (ap (locks m) c.in-Lock.is ∙ own-lock m)

pub returns-in-Lock-clause-lockers : goal.returns-in-Lock-clause-lockers
returns-in-Lock-clause-lockers c = λ posts are there asks.
    let m : ℕ = c.in-Lock.mutex in
    let t : ℕ = c.args.thread in
    let was : ℕ = get_or c.args.lockers.now m 0 in
    let is : ask_of_post (next_posts_of posts t) ≡ Some (Lock m) =
    asks ∙ ap (λ a. Some a) c.in-Lock.is in
    lockers-set posts c.args.lockers.now t m _ None there
    (c.requires.in_range m (ap (locks m) c.in-Lock.is ∙ own-lock m))
    (bit_at_clear_same w64 was t c.requires.thread)
    (λ u within apart. bit_at_clear_other w64 was t c.requires.thread u within apart)
    (λ n apart. sym (ap (locks_ask n) is ∙ other-lock n m apart)) are

pub returns-in_default : goal.returns-in_default
returns-in_default c = record {
  many = refl;
  lockers = λ posts are there asks. lockers-stay posts c.args.lockers.now c.args.thread None there
      (λ m. sym (ap (locks_ask m) asks ∙ no-lock c.args.ask.now c.in_default.not-Lock m)) are;
}
