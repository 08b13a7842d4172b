-- A port between its calls: a seat that was split off, one that has gone on, and one that has seen
-- how the run ended.
use Rattle.std.proofs.Common.{◌≡◌, ℕ, ℤ, ◌<◌, Bool, true, Some, None, Option, List, [], ◌∷◌, ◌++◌}
use Rattle.std.proofs.Common.{inr, length, refl, sym, ap, subst, ◌∙◌, arith}
use Rattle.std.specs.Prelude.{is_some}
use Rattle.std.proofs.lemmas.List.{length-append}
use Rattle.pct_ask.specs.declared.ask.Ask.{Ask}
use Rattle.pct_ask.specs.declared.ask.Post.{Post}
use Rattle.pct_ask.specs.declared.event.Event.{Event}
use Rattle.pct_ask.specs.declared.verdict.Outcome.{Outcome}
use Rattle.policy_pick.specs.declared.policy.Policy.{Ghosts}
use Rattle.turn_book.specs.Obeys.{outcome_after}
use Rattle.turn_book.specs.Posts.{own_events, source_of}
use Rattle.turn_book.specs.Told.{IsLawful}
use Rattle.turn_lock.specs.Seen.{pairs_of, owes_of}
use Rattle.turn_lock.specs.Rule.{HasFlag}
use Rattle.turn_lock.specs.Seats.{seat_of_one}
use Rattle.turn_lock.specs.Views.{view, HasSeat}
use Rattle.turn_lock.specs.declared.held.TurnLock.{TurnLock}
use Rattle.turn_lock.specs.declared.seat.Seat.{Seat}
use Rattle.turn_lock.specs.declared.view.View.{View}
use Rattle.turn_lock.proofs.laws.Serving.{alone-one}
use Rattle.turn_lock.proofs.laws.SeenBooks.{within-self}
use Rattle.worker_run.specs.Served.{IsOver}
use Rattle.worker_run.proofs.laws.RunsOver.{same-trace, later-ends}
use Rattle.turn_lock.proofs.laws.Serving.{alone-has}
use Rattle.body_kit.specs.declared.asked.Asked.{Asked}
use Rattle.body_kit.specs.declared.asked.Asked.TheVariants.{Answer, Over}
use Rattle.body_kit.specs.Asking.{event_of_ask, end_post, IsGivenPost, IsToldOver, AskTells}
use Rattle.body_kit.specs.Asking.{IsEnded, SeatGoesOn, over_of, asked_of, answer_in, PairTells}
use Rattle.body_kit.specs.Asking.{IsAnsweredAsk}
use Rattle.body_kit.specs.Ports.{IsPortSeat, IsBack, home_of}
use Rattle.body_kit.proofs.Answered.{answered-owes}

pub split-off : (v : View) (t : ℕ) → t < 64 → owes_of v.seen t ≡ true
    → IsPortSeat (seat_of_one v t) t None
split-off v t below owes = record {
  only = record { serves = alone-has v t below; alone = alone-one v t };
  owes = λ _. owes;
  told = λ o e. absurd cc;
}

-- ---- a port whose seat has seen how the run ended
pub stays-on : (v : View) → IsLawful v.seen → SeatGoesOn v v
stays-on v lawful = record { within = within-self v.seen; lawful = lawful; serves = refl }

module _ (v : View) (t : ℕ) (outcome : Outcome) (stands : v.seen.outcome ≡ Some outcome) where
  given-late : (post : Post) → IsGivenPost v t post v
  given-late post = record {
    book = v.seen;
    within = within-self v.seen;
    own = record { pairs = refl; posts = refl };
    posts = λ none. absurd (let both = sym none ∙ stands in cc);
    late = λ _. refl;
  }

  pub told-again : (post : Post) → IsToldOver v t post outcome v
  told-again post = record { stands = stands; pairs = refl; given = given-late post }

  pub ended-late : (line : ℕ) → IsEnded v t line v
  ended-late line = record { pairs = refl; given = given-late (end_post line) }

-- ---- and what it is told afterwards
module _ (v w : View) (t : ℕ) (ask : Ask) (line : ℕ) (on : SeatGoesOn v w) where
  module _ (outcome : Outcome) (lawful : IsLawful v.seen)
      (stands : v.seen.outcome ≡ Some outcome) where
    over : IsOver v.seen
    over = record {
      speaks = lawful.speaks;
      obeys = lawful.obeys;
      outcome = outcome;
      ends = sym lawful.outcome ∙ stands;
    }

    ends : outcome_after w.seen.plan w.seen.deal (source_of w.seen.posts) w.seen.limit w.seen.trace
        ≡ Some outcome
    unfolding over
    ends = later-ends v.seen w.seen on.within (on.lawful).obeys over

    -- no step is taken
    no-step : (event : Event) → pairs_of w.seen t ≡ pairs_of v.seen t ++ event ∷ [] → ⊥
    no-step event more =
        let same = ap (own_events t) (same-trace v.seen w.seen on.within (on.lawful).obeys over) in
        absurd (omega (
          arith,
          ap length same,
          ap length more,
          length-append (pairs_of v.seen t) (event ∷ []),
        ))

    pub later-over : (asked : Asked) → AskTells v t ask line asked w → asked ≡ Over outcome
    later-over (Answer answer) told = absurd (no-step (event_of_ask t ask line answer) told.pairs)
    later-over (Over other) told =
        let both = sym told.stands ∙ (on.lawful).outcome ∙ ends in
        let same : other ≡ outcome = cc in
        ap Over same

  -- it is a port still
  pub still-port : IsPortSeat v t None → (asked : Asked) → AskTells v t ask line asked w
      → IsPortSeat w t (over_of asked)
  still-port p asked told = record {
    only =
        (let S : List Bool → Type 0 = λ l. HasFlag l t × ((u : ℕ) → HasFlag l u → u ≡ t) in
        let both = subst S (sym on.serves) ((p.only).serves, (p.only).alone) in
        record { serves = both.0; alone = both.1 });
    owes = owed asked told;
    told = stands asked told;
  } where
    owed : (asked : Asked) → AskTells v t ask line asked w → over_of asked ≡ None
        → owes_of w.seen t ≡ true
    owed (Answer answer) told none = answered-owes v w t ask line answer (p.owes refl) told
    owed (Over outcome) told none = absurd cc

    stands : (asked : Asked) → AskTells v t ask line asked w → (outcome : Outcome)
        → over_of asked ≡ Some outcome → (w.seen.outcome ≡ Some outcome) × IsLawful w.seen
    stands (Answer answer) told outcome is = absurd cc
    stands (Over other) told outcome is = (told.stands ∙ is, on.lawful)

-- ---- what is given back
-- what is of one lock before and after is of the same locks
pub goes-back : {P : Type 0} {policy : Ghosts P} (own : TurnLock P) (old new : Seat P policy)
    → HasSeat own old → HasSeat own new → SeatGoesOn (view old) (view new) → IsBack old new
goes-back own old new was is on = record {
  of = λ lock its.
      let one = its.1 in
      let other = (on.within).making in (
        is.0 ∙ sym was.0 ∙ its.0,
        record {
          deal = other.deal ∙ one.deal;
          limit = other.limit ∙ one.limit;
          plan = other.plan ∙ one.plan;
        },
      );
  on = on;
}

pub back-self : {P : Type 0} {policy : Ghosts P} (seat : Seat P policy) → IsLawful (view seat).seen
    → IsBack seat seat
back-self seat lawful = record { of = λ lock its. its; on = stays-on (view seat) lawful }

-- and its home is the same
pub home-stays : {P : Type 0} {policy : Ghosts P} (own : TurnLock P) (old new : Seat P policy)
    → HasSeat own old → HasSeat own new → SeatGoesOn (view old) (view new)
    → home_of new ≡ home_of old
home-stays own old new was is on =
    let table = is.0 ∙ sym was.0 in
    let same = (on.within).making in
    let serves = on.serves in
    λ i. record {
      table = table i;
      deal = (same.deal) i;
      limit = (same.limit) i;
      plan = (same.plan) i;
      serves = serves i;
    }

-- ---- what a call of a port gives
pub asked-back : (asked : Asked) → asked_of (answer_in asked) ≡ asked
asked-back (Answer answer) = refl
asked-back (Over outcome) = refl

-- the second of two asks, once the first was answered
pub then-second : (v u w : View) (t : ℕ) (first second : Ask) (line : ℕ) (value : ℤ)
    → IsAnsweredAsk v t first line value u → (asked : Asked) → AskTells u t second line asked w
    → PairTells v t first second line asked w
then-second v u w t first second line value is (Answer answer) told = (u, value, is, told)
then-second v u w t first second line value is (Over outcome) told = inr (u, value, is, told)

-- an option with something in it
pub some-of : {X : Type 0} (o : Option X) → is_some o ≡ true → (x : X) × (o ≡ Some x)
some-of None not = absurd cc
some-of (Some x) not = (x, refl)
