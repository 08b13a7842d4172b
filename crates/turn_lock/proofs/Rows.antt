-- The rows of the answers, from what the book's calls say.
use Rattle.std.proofs.Common.{◌≡◌, ℕ, ℤ, length, Option}
use Rattle.std.proofs.Common.{Some, None, refl}
use Rattle.std.proofs.lemmas.Bool.{false≢true}
use Rattle.std.specs.Prelude.{IsSome}
use Rattle.pct_ask.specs.declared.event.Standing.TheVariants as standings
use Rattle.pct_ask.specs.declared.verdict.Outcome.{Outcome}
use Rattle.policy_pick.specs.declared.chance.Pick.TheVariants as picks
use Rattle.turn_book.specs.Answers.{IsBecause}
use Rattle.turn_book.specs.Told.{BookState, IsAnswered, choice_of, standing_of}
use Rattle.turn_book.specs.declared.taken.Because.{Because}
use Rattle.turn_book.specs.declared.taken.Reply.{Reply}
use Rattle.turn_book.specs.declared.taken.Reply.TheVariants.{Answer, NotYet, Over}
use Rattle.turn_lock.specs.Turns.{Row}
use Rattle.turn_lock.specs.Briefs.{InBrief, as_brief}
use Rattle.turn_lock.specs.declared.brief.Brief.TheVariants as briefs
use Rattle.turn_lock.specs.declared.turn.Turn.TheVariants as turns

over-row : (b : BookState) (t : ℕ) (c : BookState) (last : Option Outcome) → b.outcome ≡ last
    → IsSome last → c ≡ b → InBrief (λ turn. Row b t turn c) briefs.Over
over-row b t c None is some same = absurd (false≢true some)
over-row b t c (Some outcome) is some same = record {
  turn = turns.Over outcome;
  brief = refl;
  said = (is, same);
}

module _ (b : BookState) (t : ℕ) (c : BookState)
    (asks : b.outcome ≡ None → standing_of b t ≡ standings.Asks) where
  pub row-of : (reply : Reply)
      → (reply ≡ Over → IsSome b.outcome × (c ≡ b))
      → ((answer : ℤ) → reply ≡ Answer answer
      → (b.outcome ≡ None) × (choice_of b ≡ Some (picks.Thread t)) × IsAnswered b t answer c)
      → ((at : ℕ) (because : Because) → reply ≡ NotYet at because
      → (b.outcome ≡ None) × (at ≡ length b.trace) × IsBecause b t because × (c ≡ b))
      → InBrief (λ turn. Row b t turn c) (as_brief reply)
  row-of (Answer answer) over answers not_yet = record {
    turn = turns.Answer answer;
    brief = refl;
    said = answers answer refl;
  }
  row-of (NotYet at because) over answers not_yet =
      let k = not_yet at because refl in
      record { turn = turns.NotYet at because; brief = refl; said = (k.0, asks k.0, k.1, k.2, k.3) }
  row-of Over over answers not_yet = let k = over refl in over-row b t c b.outcome refl k.0 k.1
