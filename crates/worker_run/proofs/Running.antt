-- A thread's body, by what a seat has seen: what stays, and what a call of the lock makes of it.
use Rattle.std.proofs.Common.{◌≡◌, ℕ, zero, suc, ◌+◌, ◌≤◌, ℤ, Bool, true, false, cond, eqb, Option}
use Rattle.std.proofs.Common.{Some, None, option_to_list, List, [], ◌∷◌, ◌++◌, length, map, take}
use Rattle.std.proofs.Common.{refl, sym, ap, ◌∙◌, arith, ◌⊎◌, inl, inr, eq-eqb}
use Rattle.std.specs.Prelude.{slice_get, is_some, IsSome}
use Rattle.std.proofs.lemmas.List.{append-nil, append_assoc, map-append, length-map, length-append}
use Rattle.std.proofs.lemmas.List.{take-append-le}
use Rattle.std.proofs.lemmas.Bool.{false≢true}
use Rattle.std.proofs.lemmas.Option.{slice_get_within}
use Rattle.std.proofs.Math.Seq.{take-append_seam}
use Rattle.pct_ask.specs.declared.ask.Post.{Post}
use Rattle.pct_ask.specs.declared.event.Event.{Event}
use Rattle.pct_ask.specs.declared.verdict.Outcome.{Outcome}
use Rattle.pct_ask.specs.declared.event.Standing.TheVariants.{Ended as HasEnded}
use Rattle.pct_ask.specs.Bodies.{Pending}
use Rattle.sync_store.specs.World.{answers_of}
use Rattle.turn_book.specs.Posts.{own_events, posts_of}
use Rattle.turn_book.specs.Told.{BookState, IsLawful, IsAnswered, standing_of, post_of_event}
use Rattle.turn_lock.specs.Seen.{SameOf, pairs_of, posts_seen, owes_of}
use Rattle.turn_lock.specs.Rule.{HasFlag, Serves}
use Rattle.turn_lock.specs.Turns.{IsAsked, GainsPair, TookTurn, TellsEnd}
use Rattle.turn_lock.specs.declared.turn.Turn.{Turn}
use Rattle.turn_lock.specs.declared.turn.Turn.TheVariants.{Answer, Ended, NotYet, Busy, Over}
use Rattle.turn_lock.specs.declared.view.View.{View}
use Rattle.turn_lock.proofs.laws.Standings.{owes-length, here-owes}
use Rattle.worker_run.specs.Served.{Follows, IsRunning, Moves, IsOver, is_over}

-- ---- lists
-- what stands in a list with one more item
get-snoc : {X : Type 0} (xs : List X) (x : X) (n : ℕ) (y : X) → slice_get (xs ++ x ∷ []) n ≡ Some y
    → (slice_get xs n ≡ Some y) ⊎ ((n ≡ length xs) × (x ≡ y))
get-snoc [] x zero y e = inr (refl, cc)
get-snoc [] x (suc n) y e = cc
get-snoc (z ∷ xs) x zero y e = inl e
get-snoc (z ∷ xs) x (suc n) y e = elim (get-snoc xs x n y e) [
  | inl w ↦ inl w
  | inr w ↦ inr (ap suc w.0, w.1)
]

-- what stands in a list with perhaps one more item
get-more : {X : Type 0} (xs : List X) (more : Option X) (n : ℕ) (y : X)
    → slice_get (xs ++ option_to_list more) n ≡ Some y
    → (slice_get xs n ≡ Some y) ⊎ ((n ≡ length xs) × (more ≡ Some y))
get-more xs None n y e = inl (ap (λ l. slice_get l n) (sym (append-nil xs)) ∙ e)
get-more xs (Some x) n y e = elim (get-snoc xs x n y e) [
  | inl w ↦ inl w
  | inr w ↦ inr (w.0, ap Some w.1)
]

-- ---- what stays as long as the thread does nothing
answers-long : (seen : BookState) (t : ℕ)
    → length (answers_of t seen.trace) ≡ length (pairs_of seen t)
answers-long seen t = length-map (pairs_of seen t) (λ (e : Event). e.answer)

same-answers : (t : ℕ) (one other : BookState) → SameOf t one other
    → answers_of t other.trace ≡ answers_of t one.trace
same-answers t one other same = ap (map (λ (e : Event). e.answer)) same.pairs

pub follows-same : (start : Pending) (t : ℕ) (one other : BookState) → SameOf t one other
    → Follows start t one → Follows start t other
follows-same start t one other same follows n post at =
    follows n post (ap (λ l. slice_get l n) (sym same.posts) ∙ at)
    ∙ ap (λ l. start (take n l)) (sym (same-answers t one other same))

pub running-same : (start now : Pending) (answered t : ℕ) (one other : BookState)
    → SameOf t one other → IsRunning start now answered t one → IsRunning start now answered t other
running-same start now answered t one other same r = record {
  follows = follows-same start t one other same r.follows;
  next =
      λ answers. r.next answers ∙ ap (λ l. start (l ++ answers))
      (sym (same-answers t one other same));
  counted = r.counted ∙ ap length (sym (same-answers t one other same));
  few = (let few = r.few in omega (arith, ap length same.posts, ap length same.pairs));
}

-- ---- what a thread gains by a call: perhaps a post, and perhaps a step
record Gained (t : ℕ) (post : Option Post) (told : List Event)
    (one other : BookState) : Type 0 where
  posts : posts_seen other t ≡ posts_seen one t ++ option_to_list post
  pairs : pairs_of other t ≡ pairs_of one t ++ told

module _ (start now then : Pending) (answered t : ℕ) (one other : BookState)
    (r : IsRunning start now answered t one) (post : Option Post) (told : List Event)
    (g : Gained t post told one other)
    (owed : (q : Post) → post ≡ Some q
    → (length (posts_seen one t) ≡ length (pairs_of one t)) × (q ≡ now [])) where
  abbrev heard : List ℤ
  heard = map (λ (e : Event). e.answer) told

  heard-more : answers_of t other.trace ≡ answers_of t one.trace ++ heard
  heard-more =
      ap (map (λ (e : Event). e.answer)) g.pairs
      ∙ map-append (λ (e : Event). e.answer) (pairs_of one t) told

  gained-follows : Follows start t other
  gained-follows n q at =
      let answers = answers_of t one.trace in
      let whole = ap (λ l. start (take n l)) (sym heard-more) in
      elim (get-more (posts_seen one t) post n q (ap (λ l. slice_get l n) (sym g.posts) ∙ at)) [
        | inl w ↦
            let few = r.few in
            let below = slice_get_within (posts_seen one t) n q w in
            r.follows n q w ∙ ap start (sym
            (take-append-le n answers heard (omega (arith, answers-long one t)))) ∙ whole
        | inr w ↦
            let is = owed q w.1 in
            let n_is : n ≡ length answers = w.0 ∙ is.0 ∙ sym (answers-long one t) in
            is.1 ∙ r.next [] ∙ ap start (append-nil answers ∙ sym (take-append_seam answers heard)
            ∙ ap (λ k. take k (answers ++ heard)) (sym n_is)) ∙ whole
      ]

  gained-few : length (posts_seen one t) + length (option_to_list post) ≤ length (pairs_of one t)
      + 1 → length (posts_seen other t) ≤ length (pairs_of other t) + 1
  gained-few room =
      omega (
        arith,
        ap length g.posts,
        length-append (posts_seen one t) (option_to_list post),
        ap length g.pairs,
        length-append (pairs_of one t) told,
      )

  gained : (count : ℕ) → length (posts_seen one t) + length (option_to_list post)
      ≤ length (pairs_of one t) + 1 → count ≡ answered + length told
      → ((answers : List ℤ) → then answers ≡ now (heard ++ answers))
      → IsRunning start then count t other
  gained count room counts next = record {
    follows = gained-follows;
    next =
        λ answers. next answers ∙ r.next (heard ++ answers)
        ∙ ap start (sym (append_assoc (answers_of t one.trace) heard answers))
        ∙ ap (λ l. start (l ++ answers)) (sym heard-more);
    counted =
        (let was = r.counted in omega (
          arith,
          ap length heard-more,
          length-append (answers_of t one.trace) heard,
          length-map told (λ (e : Event). e.answer),
        ));
    few = gained-few room;
  }

-- ---- what the calls of the lock make of it
room-for : (t : ℕ) (one : BookState) (post : Option Post)
    → length (posts_seen one t) ≤ length (pairs_of one t) + 1
    → ((q : Post) → post ≡ Some q → length (posts_seen one t) ≡ length (pairs_of one t))
    → length (posts_seen one t) + length (option_to_list post) ≤ length (pairs_of one t) + 1
room-for t one None few owed = omega arith
room-for t one (Some q) few owed = let same = owed q refl in omega arith

module _ (v w : View) (t : ℕ) (mine : Serves v t) (given : Option Post) where
  -- what is the thread's in the book as it was taken
  pairs-taken : (answer : Turn) → (took : TookTurn v t given answer w)
      → pairs_of (took.turn).asked t ≡ pairs_of v.seen t
  pairs-taken answer took = by given (took.turn).posted ∙ (took.own t mine).pairs where
    by : (post : Option Post) → IsAsked took.book t post (took.turn).asked
        → pairs_of (took.turn).asked t ≡ pairs_of took.book t
    by None same = ap (λ (b : BookState). pairs_of b t) same
    by (Some post) p = by-outcome (took.book).outcome refl where
      by-outcome : (o : Option Outcome) → (took.book).outcome ≡ o
          → pairs_of (took.turn).asked t ≡ pairs_of took.book t
      by-outcome None is = ap (own_events t) (p.0 is).trace
      by-outcome (Some outcome) is = ap (λ (b : BookState). pairs_of b t) (p.1 (ap is_some is))

  -- an outcome that stood before the post stands after it
  open-before : (book asked : BookState) (post : Option Post) → IsAsked book t post asked
      → asked.outcome ≡ None → book.outcome ≡ None
  open-before book asked None same e = ap (λ (b : BookState). b.outcome) (sym same) ∙ e
  open-before book asked (Some post) p e = by book.outcome refl where
    by : (o : Option Outcome) → book.outcome ≡ o → book.outcome ≡ None
    by None is = is
    by (Some outcome) is = ap (λ (b : BookState). b.outcome) (sym (p.1 (ap is_some is))) ∙ e

  -- the post was taken, unless an outcome stood before it
  posts-gained : (answer : Turn) → TookTurn v t given answer w
      → (post : Option Post) × (posts_seen w.seen t ≡ posts_seen v.seen t ++ option_to_list post)
      × ((post ≡ given) ⊎ (post ≡ None))
  posts-gained answer took = by (took.book).outcome refl where
    by : (o : Option Outcome) → (took.book).outcome ≡ o
        → (post : Option Post) × (posts_seen w.seen t ≡ posts_seen v.seen t ++ option_to_list post)
        × ((post ≡ given) ⊎ (post ≡ None))
    by None is = (given, took.posts is, inl refl)
    by (Some outcome) is =
        (None, took.late (ap is_some is) ∙ sym (append-nil (posts_seen v.seen t)), inr refl)

  module _ (value : ℤ) (took : TookTurn v t given (Answer value) w) where
    abbrev asked : BookState
    asked = (took.turn).asked

    abbrev answered_with : IsAnswered asked t value w.seen
    answered_with = (took.turn).row.2

    -- a step came of it
    answer-gained : (event : Event) × (event.answer ≡ value)
        × Gained t given (event ∷ []) v.seen w.seen
    answer-gained =
        let open_yet = open-before took.book asked given (took.turn).posted (took.turn).row.0 in
        let pair = took.pairs in
        (pair.0, pair.1, record { posts = took.posts open_yet; pairs = pair.2 })

    -- the step was that of the thread's last post
    answer-post : slice_get (posts_seen w.seen t) (length (pairs_of v.seen t))
        ≡ Some (post_of_event answered_with.event)
    answer-post =
        ap (λ ps. slice_get (posts_of ps t) (length (pairs_of v.seen t))) answered_with.posts
        ∙ ap (λ (es : List Event). slice_get (posts_seen asked t) (length es))
        (sym (pairs-taken (Answer value) took))
        ∙ answered_with.asked

    module _ (start now : Pending) (answered : ℕ) (r : IsRunning start now answered t v.seen)
        (owed : (q : Post) → given ≡ Some q → (owes_of v.seen t ≡ true) × (q ≡ now [])) where
      owed-long : (q : Post) → given ≡ Some q
          → (length (posts_seen v.seen t) ≡ length (pairs_of v.seen t)) × (q ≡ now [])
      owed-long q is = let o = owed q is in (owes-length v.seen t o.0, o.1)

      room : length (posts_seen v.seen t) + length (option_to_list given)
          ≤ length (pairs_of v.seen t) + 1
      room = room-for t v.seen given r.few (λ q is. (owed-long q is).0)

      abbrev event : Event
      event = answer-gained.0

      abbrev gain : Gained t given (event ∷ []) v.seen w.seen
      gain = answer-gained.2

      -- the body asks something
      pub answer-asks : IsSome (now []).ask
      answer-asks =
          let follows = gained-follows start now now answered t v.seen w.seen r given (event ∷ [])
          gain owed-long in
          let is = follows (length (pairs_of v.seen t)) (post_of_event answered_with.event)
          answer-post in
          let answers = answers_of t v.seen.trace in
          let heard = answer-gained.0.answer ∷ [] in
          let before : take (length (pairs_of v.seen t)) (answers_of t w.seen.trace) ≡ answers =
          ap (take (length (pairs_of v.seen t)))
          (heard-more start now now answered t v.seen w.seen r given (event ∷ []) gain
          owed-long)
          ∙ ap (λ k. take k (answers ++ heard)) (sym (answers-long v.seen t))
          ∙ take-append_seam answers heard in
          let same : now [] ≡ post_of_event answered_with.event =
          r.next [] ∙ ap start (append-nil answers ∙ sym before) ∙ sym is in
          ap (λ (p : Post). is_some p.ask) same

      pub answer-counts : answered + 1 ≡ length (answers_of t w.seen.trace)
      answer-counts =
          let was = r.counted in
          omega (
            arith,
            ap length (heard-more start now now answered t v.seen w.seen r given
                (event ∷ []) gain owed-long),
            length-append (answers_of t v.seen.trace)
                (answer-gained.0.answer ∷ []),
          )

      -- the body that is told the answer runs on
      pub answer-running : (then : Pending)
          → ((answers : List ℤ) → then answers ≡ now (value ∷ answers))
          → IsRunning start then (answered + 1) t w.seen
      answer-running then next =
          gained start now then answered t v.seen w.seen r given (event ∷ []) gain owed-long
          (answered + 1) room refl (λ answers. next answers
          ∙ ap (λ a. now (a ∷ answers)) (sym answer-gained.1))

      -- and the thread owes its next post
      pub answer-owes : owes_of w.seen t ≡ true
      answer-owes =
          let some = slice_get_within (posts_seen w.seen t) (length (pairs_of v.seen t))
          (post_of_event answered_with.event) answer-post in
          let fits = room in
          eq-eqb (length (posts_seen w.seen t)) (length (pairs_of w.seen t))
          (omega (
            arith,
            ap length gain.posts,
            length-append (posts_seen v.seen t) (option_to_list given),
            ap length gain.pairs,
            length-append (pairs_of v.seen t) (event ∷ []),
          ))

  -- ---- without an answer
  same-pairs : (turn : Turn) → ((value : ℤ) → turn ≡ Answer value → ⊥)
      → GainsPair v.seen t turn w.seen → pairs_of w.seen t ≡ pairs_of v.seen t
  same-pairs (Answer value) not e = absurd (not value refl)
  same-pairs Ended not e = e
  same-pairs (NotYet at because) not e = e
  same-pairs (Busy holder) not e = e
  same-pairs (Over outcome) not e = e

  pub other-running : (turn : Turn) → ((value : ℤ) → turn ≡ Answer value → ⊥)
      → (took : TookTurn v t given turn w) → (start now : Pending) (answered : ℕ)
      → IsRunning start now answered t v.seen
      → ((q : Post) → given ≡ Some q → (owes_of v.seen t ≡ true) × (q ≡ now []))
      → IsRunning start now answered t w.seen
  other-running turn not took start now answered r owed =
      let p = posts-gained turn took in
      let gain : Gained t p.0 [] v.seen w.seen = record {
        posts = p.1;
        pairs = same-pairs turn not took.pairs
            ∙ sym (append-nil (pairs_of v.seen t));
      } in
      let owed_long : (q : Post) → p.0 ≡ Some q
      → (length (posts_seen v.seen t) ≡ length (pairs_of v.seen t)) × (q ≡ now []) =
      λ q is. elim p.2 [
        | inl same ↦ let o = owed q (sym same ∙ is) in (owes-length v.seen t o.0, o.1)
        | inr none ↦ absurd (let both = sym none ∙ is in cc)
      ] in
      gained start now now answered t v.seen w.seen r p.0 [] gain owed_long answered
      (room-for t v.seen p.0 r.few (λ q is. (owed_long q is).0)) (omega arith) (λ answers. refl)

  -- the run is over
  over-is : (outcome : Outcome) → TookTurn v t given (Over outcome) w → IsOver w.seen
  over-is outcome took =
      let lawful = (took.turn).lawful in
      let row = (took.turn).row in
      record {
        speaks = lawful.speaks;
        obeys = lawful.obeys;
        outcome = outcome;
        ends = sym lawful.outcome ∙ ap (λ (b : BookState). b.outcome) row.1 ∙ row.0;
      }

  pub over-told : (turn : Turn) → is_over turn ≡ true → TookTurn v t given turn w → IsOver w.seen
  over-told (Answer value) e took = absurd (false≢true e)
  over-told Ended e took = absurd (false≢true e)
  over-told (NotYet at because) e took = absurd (false≢true e)
  over-told (Busy holder) e took = absurd (false≢true e)
  over-told (Over outcome) e took = over-is outcome took

  -- or the thread has posted
  pub posted-told : (turn : Turn) → ((value : ℤ) → turn ≡ Answer value → ⊥) → is_over turn ≡ false
      → TookTurn v t given turn w → owes_of w.seen t ≡ false
  posted-told (Answer value) not e took = absurd (not value refl)
  posted-told Ended not e took =
      here-owes w.seen t (λ away. let row = (took.turn).row in
      let both = sym row.1 ∙ ap (λ (b : BookState). standing_of b t) (sym row.2) ∙ away in cc)
  posted-told (NotYet at because) not e took =
      here-owes w.seen t (λ away. let row = (took.turn).row in
      let both = sym row.1 ∙ ap (λ (b : BookState). standing_of b t) (sym row.4) ∙ away in cc)
  posted-told (Busy holder) not e took = absurd (took.turn).row
  posted-told (Over outcome) not e took = absurd (false≢true (sym e))

  -- where no thread is answered, the run is over or the threads of the seat have ended
  pub ended-told : (serves : List Bool) (turn : Turn) → ((value : ℤ) → turn ≡ Answer value → ⊥)
      → TookTurn v t given turn w → TellsEnd serves t turn w.seen
      → IsOver w.seen ⊎ ((u : ℕ) → HasFlag serves u → standing_of w.seen u ≡ HasEnded)
  ended-told serves (Answer value) not took tells = absurd (not value refl)
  ended-told serves Ended not took tells = inr tells.0
  ended-told serves (NotYet at because) not took tells = absurd tells
  ended-told serves (Busy holder) not took tells = absurd (took.turn).row
  ended-told serves (Over outcome) not took tells = inl (over-is outcome took)

  pub moves-is : (turn : Turn) → TookTurn v t given turn w → Moves t v w
  moves-is turn took = record {
    on = record { within = took.grown; serves = took.serves };
    others = took.others;
  }

-- ---- a thread has no more answers than there are steps
fewer-by : (goes : Bool) (e : Event) (events : List Event) (n : ℕ) → length events ≤ n
    → length (cond goes (e ∷ events) events) ≤ suc n
fewer-by true e events n few = omega arith
fewer-by false e events n few = omega arith

events-fewer : (t : ℕ) (events : List Event) → length (own_events t events) ≤ length events
events-fewer t [] = omega arith
events-fewer t (e ∷ events) =
    fewer-by (eqb e.thread t) e (own_events t events) (length events) (events-fewer t events)

pub answers-few : (seen : BookState) (t count : ℕ) → IsLawful seen
    → count ≡ length (answers_of t seen.trace) → count ≤ 100000
answers-few seen t count lawful is =
    let within = (lawful.obeys).within in
    let few = lawful.few_steps in
    omega (arith, is, events-fewer t seen.trace, answers-long seen t)

-- a call without a post owes none
pub none-owed : {X : Type 0} (q : Post) → None ≡ Some q → X
none-owed q e = absurd cc
