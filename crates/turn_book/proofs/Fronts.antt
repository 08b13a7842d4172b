-- The steps of a book begin every whole run over its posts, and are that run once an outcome
-- stands.
use Rattle.std.proofs.Common.{◌≡◌, Option, Some, None, List, ◌++◌, sym, ◌∙◌}
use Rattle.std.specs.Prelude.{IsSome}
use Rattle.std.proofs.lemmas.Bool.{false≢true}
use Rattle.pct_ask.specs.declared.ask.Post.{Post}
use Rattle.pct_ask.specs.declared.event.Event.{Event}
use Rattle.pct_ask.specs.declared.verdict.Outcome.{Outcome}
use Rattle.turn_book.specs.Posts.{source_of}
use Rattle.turn_book.specs.Told.{BookState, IsLawful, IsRunOver}
use Rattle.turn_book.proofs.laws.OwnSteps.{more-keeps}
use Rattle.turn_book.proofs.laws.Prefixes.{IsFrontOf, front-of}

some-outcome : (o : Option Outcome) → IsSome o → (outcome : Outcome) × (o ≡ Some outcome)
some-outcome None is = absurd (false≢true is)
some-outcome (Some outcome) is = (outcome, λ j. Some outcome)

module _ (book : BookState) (lawful : IsLawful book) (posts : List (List Post))
    (events : List Event) (run : IsRunOver book posts events) where
  front : IsFrontOf book.plan book.deal (source_of book.posts) book.limit book.trace events
  front =
      front-of book.plan book.deal (source_of book.posts) (source_of posts) book.limit book.trace
      events run.outcome lawful.speaks (more-keeps book.trace book.posts posts run.more)
      lawful.obeys run.obeys run.ends

  pub begins-runs : (rest : List Event) × (events ≡ book.trace ++ rest)
  begins-runs = front.prefix

  pub is-whole : IsSome book.outcome → events ≡ book.trace
  is-whole over =
      let w = some-outcome book.outcome over in
      front.equal w.0 (sym lawful.outcome ∙ w.1)
