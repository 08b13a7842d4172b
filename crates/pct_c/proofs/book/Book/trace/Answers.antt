-- Each policy's own steps.
use Rattle.std.proofs.Common.{◌≡◌, IsSome, List, ◌++◌, sym, ap, subst}
use Rattle.pct_ask.specs.declared.event.Event.{Event}
use Rattle.pct_ask.specs.declared.ask.Post.{Post}
use Rattle.turn_book.specs.Told.{BookState, IsRunOver}
use Rattle.pct_c.specs.Books.{state_of}
use Rattle.pct_c.proofs.book.Book.trace.Goals as goal

abbrev Begins : List Event → BookState → Type 0
Begins steps s = (posts : List (List Post)) (events : List Event) → IsRunOver s posts events
    → (rest : List Event) × (events ≡ steps ++ rest)

abbrev IsWhole : List Event → BookState → Type 0
IsWhole steps s = (posts : List (List Post)) (events : List Event) → IsRunOver s posts events
    → IsSome s.outcome → events ≡ steps

pub returns-in-Points-clause-prefix : goal.returns-in-Points-clause-prefix
returns-in-Points-clause-prefix c =
    subst (Begins c.trace.result.now) (sym (ap state_of c.in-Points.is)) c.trace.ensures.prefix

pub returns-in-Points-clause-whole : goal.returns-in-Points-clause-whole
returns-in-Points-clause-whole c =
    subst (IsWhole c.trace.result.now) (sym (ap state_of c.in-Points.is)) c.trace.ensures.whole

pub returns-in-Moments-clause-prefix : goal.returns-in-Moments-clause-prefix
returns-in-Moments-clause-prefix c =
    subst (Begins c.trace-in-Moments.result.now) (sym (ap state_of c.in-Moments.is))
    c.trace-in-Moments.ensures.prefix

pub returns-in-Moments-clause-whole : goal.returns-in-Moments-clause-whole
returns-in-Moments-clause-whole c =
    subst (IsWhole c.trace-in-Moments.result.now) (sym (ap state_of c.in-Moments.is))
    c.trace-in-Moments.ensures.whole

pub returns-in-Listed-clause-prefix : goal.returns-in-Listed-clause-prefix
returns-in-Listed-clause-prefix c =
    subst (Begins c.trace-in-Listed.result.now) (sym (ap state_of c.in-Listed.is))
    c.trace-in-Listed.ensures.prefix

pub returns-in-Listed-clause-whole : goal.returns-in-Listed-clause-whole
returns-in-Listed-clause-whole c =
    subst (IsWhole c.trace-in-Listed.result.now) (sym (ap state_of c.in-Listed.is))
    c.trace-in-Listed.ensures.whole
