-- What a call of the lock makes of a thread that asks, and what that is to its port.
use Rattle.std.proofs.Common.{◌≡◌, ℕ, ◌<◌, ℤ, true, Option, Some, None, option_to_list, List, []}
use Rattle.std.proofs.Common.{◌∷◌, ◌++◌, length, refl, sym, ap, subst, ◌∙◌, arith, eq-eqb}
use Rattle.std.specs.Prelude.{slice_get, is_some, IsSome}
use Rattle.std.proofs.lemmas.List.{append-nil, length-append}
use Rattle.pct_ask.specs.declared.ask.Ask.{Ask}
use Rattle.pct_ask.specs.declared.ask.Post.{Post}
use Rattle.pct_ask.specs.declared.event.Event.{Event}
use Rattle.pct_ask.specs.declared.event.Standing.TheVariants.{Ended as HasEnded}
use Rattle.pct_ask.specs.declared.verdict.Outcome.{Outcome}
use Rattle.turn_book.specs.Posts.{own_events, posts_of}
use Rattle.turn_book.specs.Told.{BookState, IsAnswered, next_post, standing_by, standing_of}
use Rattle.turn_book.specs.Told.{post_of_event}
use Rattle.turn_book.specs.declared.taken.Because.{Because}
use Rattle.turn_book.proofs.laws.OwnSteps.{events-own}
use Rattle.turn_lock.specs.Seen.{SameOf, pairs_of, posts_seen, owes_of}
use Rattle.turn_lock.specs.Rule.{Serves}
use Rattle.turn_lock.specs.Turns.{IsAsked, GainsPair, TookTurn, TookAtLast}
use Rattle.turn_lock.specs.declared.turn.Turn.{Turn}
use Rattle.turn_lock.specs.declared.turn.Turn.TheVariants.{Answer, Ended, NotYet, Busy, Over}
use Rattle.turn_lock.specs.declared.view.View.{View}
use Rattle.turn_lock.proofs.laws.SeenBooks.{within-along}
use Rattle.turn_lock.proofs.laws.Standings.{owes-length}
use Rattle.body_kit.specs.declared.asked.Asked.{Asked}
use Rattle.body_kit.specs.declared.asked.Asked.TheVariants as tells
use Rattle.body_kit.specs.Asking.{ask_post, end_post, event_of_ask, IsGivenPost, IsAnsweredAsk}
use Rattle.body_kit.specs.Asking.{IsToldOver, AskTells, IsEnded, SeatGoesOn, as_turn}

-- ---- lists
get-last : {X : Type 0} (xs : List X) (x : X) → slice_get (xs ++ x ∷ []) (length xs) ≡ Some x
get-last [] x = refl
get-last (y ∷ xs) x = get-last xs x

-- ---- a step by its parts
step-is : (e : Event) (t : ℕ) (ask : Ask) (line : ℕ) (answer : ℤ)
    → ask_post ask line ≡ post_of_event e → e.thread ≡ t → e.answer ≡ answer
    → e ≡ event_of_ask t ask line answer
step-is e t ask line answer posted thread is =
    let some = ap (λ (p : Post). p.ask) posted in
    let asked : e.ask ≡ ask = cc in
    let on : e.line ≡ line = sym (ap (λ (p : Post). p.line) posted) in
    λ i. record { thread = thread i; line = on i; ask = asked i; answer = is i }

-- ---- the book as the call took it, with the post
module _ (v w : View) (t : ℕ) (mine : Serves v t) (given : Option Post) where
  pairs-taken : (turn : Turn) → (took : TookTurn v t given turn w)
      → pairs_of (took.turn).asked t ≡ pairs_of v.seen t
  pairs-taken turn took = by given (took.turn).posted ∙ (took.own t mine).pairs where
    by : (post : Option Post) → IsAsked took.book t post (took.turn).asked
        → pairs_of (took.turn).asked t ≡ pairs_of took.book t
    by None same = ap (λ (b : BookState). pairs_of b t) same
    by (Some post) p = by-outcome (took.book).outcome refl where
      by-outcome : (o : Option Outcome) → (took.book).outcome ≡ o
          → pairs_of (took.turn).asked t ≡ pairs_of took.book t
      by-outcome None is = ap (own_events t) (p.0 is).trace
      by-outcome (Some outcome) is = ap (λ (b : BookState). pairs_of b t) (p.1 (ap is_some is))

  -- an outcome that stood before the post stands after it
  open-before : (book asked : BookState) (post : Option Post) → IsAsked book t post asked
      → asked.outcome ≡ None → book.outcome ≡ None
  open-before book asked None same e = ap (λ (b : BookState). b.outcome) (sym same) ∙ e
  open-before book asked (Some post) p e = by book.outcome refl where
    by : (o : Option Outcome) → book.outcome ≡ o → book.outcome ≡ None
    by None is = is
    by (Some outcome) is = ap (λ (b : BookState). b.outcome) (sym (p.1 (ap is_some is))) ∙ e

  pub late-same : (book asked : BookState) (post : Option Post) → IsAsked book t post asked
      → IsSome book.outcome → asked ≡ book
  late-same book asked None same late = same
  late-same book asked (Some post) p late = p.1 late

  -- the thread's answer is that of its last post
  module _ (ask : Ask) (line : ℕ) (answer : ℤ) (took : TookTurn v t given (Answer answer) w)
      (next : slice_get (posts_seen v.seen t ++ option_to_list given) (length (pairs_of v.seen t))
      ≡ Some (ask_post ask line)) where
    abbrev asked : BookState
    asked = (took.turn).asked

    abbrev by_step : IsAnswered asked t answer w.seen
    by_step = (took.turn).row.2

    pub answer-posts : posts_seen w.seen t ≡ posts_seen v.seen t ++ option_to_list given
    answer-posts =
        took.posts (open-before took.book asked given (took.turn).posted (took.turn).row.0)

    same-post : Some (ask_post ask line) ≡ Some (post_of_event by_step.event)
    same-post =
        sym next
        ∙ ap (λ ps. slice_get ps (length (pairs_of v.seen t)))
        (sym answer-posts ∙ ap (λ ps. posts_of ps t) by_step.posts)
        ∙ ap (λ (es : List Event). slice_get (posts_seen asked t) (length es))
        (sym (pairs-taken (Answer answer) took))
        ∙ by_step.asked

    same-step : by_step.event ≡ event_of_ask t ask line answer
    same-step = let posted : ask_post ask line ≡ post_of_event by_step.event = let e = same-post in
        cc in step-is by_step.event t ask line answer posted by_step.thread by_step.answer

    trace-is : w.seen.trace ≡ asked.trace ++ event_of_ask t ask line answer ∷ []
    trace-is = by_step.trace ∙ ap (λ (e : Event). asked.trace ++ e ∷ []) same-step

    pub answer-last : (before : List Event)
        × (w.seen.trace ≡ before ++ event_of_ask t ask line answer ∷ [])
    answer-last = (asked.trace, trace-is)

    pub answer-pairs : pairs_of w.seen t ≡ pairs_of v.seen t ++ event_of_ask t ask line answer ∷ []
    answer-pairs =
        ap (own_events t) trace-is ∙ events-own t asked.trace (event_of_ask t ask line answer) refl
        ∙ ap (λ (es : List Event). es ++ event_of_ask t ask line answer ∷ [])
        (pairs-taken (Answer answer) took)

  -- ---- without an answer
  same-pairs : (turn : Turn) → ((value : ℤ) → turn ≡ Answer value → ⊥)
      → GainsPair v.seen t turn w.seen → pairs_of w.seen t ≡ pairs_of v.seen t
  same-pairs (Answer value) not e = absurd (not value refl)
  same-pairs Ended not e = e
  same-pairs (NotYet at because) not e = e
  same-pairs (Busy holder) not e = e
  same-pairs (Over outcome) not e = e

  pub over-stands : (outcome : Outcome) → TookTurn v t given (Over outcome) w
      → w.seen.outcome ≡ Some outcome
  over-stands outcome took = ap (λ (b : BookState). b.outcome) (took.turn).row.1 ∙ (took.turn).row.0

  pub goes-on : (turn : Turn) → TookTurn v t given turn w → SeatGoesOn v w
  goes-on turn took = record {
    within = took.grown;
    lawful = (took.turn).lawful;
    serves = took.serves;
  }

-- ---- the first call, with the post
module _ (v w : View) (t : ℕ) (mine : Serves v t) (post : Post) where
  -- the book is given back as it is after the post, unless the thread is answered
  pub as-asked : (turn : Turn) → ((value : ℤ) → turn ≡ Answer value → ⊥)
      → (took : TookTurn v t (Some post) turn w) → w.seen ≡ (took.turn).asked
  as-asked (Answer value) not took = absurd (not value refl)
  as-asked Ended not took = (took.turn).row.2
  as-asked (NotYet at because) not took = (took.turn).row.4
  as-asked (Busy holder) not took = absurd (took.turn).row
  as-asked (Over outcome) not took = (took.turn).row.1

  abbrev pub given : (turn : Turn) → ((value : ℤ) → turn ≡ Answer value → ⊥)
      → TookTurn v t (Some post) turn w → IsGivenPost v t post w
  given turn not took = record {
    book = took.book;
    within = took.within;
    own = took.own t mine;
    posts = took.posts;
    late =
        λ late. as-asked turn not took ∙ late-same v w t mine (Some post) took.book
        (took.turn).asked (Some post) (took.turn).posted late;
  }

  pub told-over : (outcome : Outcome) → TookTurn v t (Some post) (Over outcome) w
      → IsToldOver v t post outcome w
  told-over outcome took = record {
    stands = over-stands v w t mine (Some post) outcome took;
    pairs = took.pairs;
    given = given (Over outcome) (λ value e. cc) took;
  }

  pub posted-end : (line : ℕ) (turn : Turn) → post ≡ end_post line
      → ((value : ℤ) → turn ≡ Answer value → ⊥) → TookTurn v t (Some post) turn w
      → IsEnded v t line w
  posted-end line turn is not took =
      let P : Post → Type 0 = λ p. IsGivenPost v t p w in
      record {
        pairs = same-pairs v w t mine (Some post) turn not took.pairs;
        given = subst P is (given turn not took);
      }

pub told-answer : (v w : View) (t : ℕ) → Serves v t → owes_of v.seen t ≡ true
    → (ask : Ask) (line : ℕ) (answer : ℤ)
    → TookAtLast v t (Some (ask_post ask line)) (Answer answer) w
    → IsAnsweredAsk v t ask line answer w
told-answer v w t mine owes ask line answer last =
    let given = Some (ask_post ask line) in
    let took = last.took in
    let next : slice_get (posts_seen v.seen t ++ option_to_list given) (length (pairs_of v.seen t))
    ≡ Some (ask_post ask line) =
    ap (λ k. slice_get (posts_seen v.seen t ++ ask_post ask line ∷ []) k)
    (sym (owes-length v.seen t owes)) ∙ get-last (posts_seen v.seen t) (ask_post ask line) in
    record {
      pairs = answer-pairs v w t mine given ask line answer took next;
      last = answer-last v w t mine given ask line answer took next;
      posts = answer-posts v w t mine given ask line answer took next;
      takes = last.takes;
    }

-- ---- the thread has asked, and waits
pub next-same : (t : ℕ) (one other : BookState) → SameOf t one other
    → next_post other t ≡ next_post one t
next-same t one other s = λ i. slice_get (s.posts i) (length (s.pairs i))

not-ended : (seen : BookState) (t : ℕ) (ask : Ask) (line : ℕ)
    → next_post seen t ≡ Some (ask_post ask line) → standing_of seen t ≡ HasEnded → ⊥
not-ended seen t ask line next ended = let both = sym (ap standing_by next) ∙ ended in cc

pub record HasAsked (v : View) (t : ℕ) (post : Post) (w : View) : Type 0 where
  pub posts : posts_seen w.seen t ≡ posts_seen v.seen t ++ post ∷ []
  pub pairs : pairs_of w.seen t ≡ pairs_of v.seen t
  pub next : next_post w.seen t ≡ Some post
  pub given : IsGivenPost v t post w
  pub running : (given.book).outcome ≡ None
  pub on : SeatGoesOn v w
  pub takes : v.takes < w.takes

module _ (v w : View) (t : ℕ) (mine : Serves v t) (owes : owes_of v.seen t ≡ true) (ask : Ask)
    (line : ℕ) where
  abbrev post : Post
  post = ask_post ask line

  module _ (turn : Turn) (not : (value : ℤ) → turn ≡ Answer value → ⊥)
      (took : TookTurn v t (Some post) turn w) (running : (took.turn).asked.outcome ≡ None) where
    still : (took.book).outcome ≡ None
    still =
        open-before v w t mine (Some post) took.book (took.turn).asked (Some post)
        (took.turn).posted running

    asked-next : next_post (took.turn).asked t ≡ Some post
    asked-next =
        ap (λ ps. slice_get ps (length (pairs_of (took.turn).asked t)))
        (ap (λ (b : BookState). posts_seen b t) (sym (as-asked v w t mine post turn not took))
        ∙ took.posts still)
        ∙ ap (λ k. slice_get (posts_seen v.seen t ++ post ∷ []) k)
        (ap length (pairs-taken v w t mine (Some post) turn took)
        ∙ sym (owes-length v.seen t owes))
        ∙ get-last (posts_seen v.seen t) post

  pub no-end : TookTurn v t (Some post) Ended w → ⊥
  no-end took =
      not-ended (took.turn).asked t ask line
      (asked-next Ended (λ value e. cc) took (took.turn).row.0) (took.turn).row.1

  pub has-asked : (at : ℕ) (because : Because) → TookAtLast v t (Some post) (NotYet at because) w
      → HasAsked v t post w
  has-asked at because last =
      let took = last.took in
      let not : (value : ℤ) → NotYet at because ≡ Answer value → ⊥ = λ value e. cc in
      let running = (took.turn).row.0 in
      record {
        posts = took.posts (still (NotYet at because) not took running);
        pairs = took.pairs;
        next =
            ap (λ (b : BookState). next_post b t)
            (as-asked v w t mine post (NotYet at because) not took)
            ∙ asked-next (NotYet at because) not took running;
        given = given v w t mine post (NotYet at because) not took;
        running = still (NotYet at because) not took running;
        on = goes-on v w t mine (Some post) (NotYet at because) took;
        takes = last.takes;
      }

-- ---- and the call that waits
module _ (v u w : View) (t : ℕ) (mine : Serves u t) (ask : Ask) (line : ℕ)
    (h : HasAsked v t (ask_post ask line) u) where
  pub on-along : SeatGoesOn u w → SeatGoesOn v w
  on-along on = record {
    within = within-along v.seen u.seen w.seen (h.on).within on.within;
    lawful = on.lawful;
    serves = on.serves ∙ (h.on).serves;
  }

  pub then-answer : (answer : ℤ) → TookAtLast u t None (Answer answer) w
      → IsAnsweredAsk v t ask line answer w
  then-answer answer last =
      let took = last.took in
      let next : slice_get (posts_seen u.seen t ++ []) (length (pairs_of u.seen t))
      ≡ Some (ask_post ask line) =
      ap (λ ps. slice_get ps (length (pairs_of u.seen t))) (append-nil (posts_seen u.seen t))
      ∙ h.next in
      let first = h.takes in
      let second = last.takes in
      record {
        pairs =
            answer-pairs u w t mine None ask line answer took next
            ∙ ap (λ (es : List Event). es ++ event_of_ask t ask line answer ∷ []) h.pairs;
        last = answer-last u w t mine None ask line answer took next;
        posts =
            answer-posts u w t mine None ask line answer took next
            ∙ append-nil (posts_seen u.seen t) ∙ h.posts;
        takes = omega arith;
      }

  pub same-posts : (turn : Turn) → TookTurn u t None turn w
      → posts_seen w.seen t ≡ posts_seen u.seen t
  same-posts turn took = by (took.book).outcome refl where
    by : (o : Option Outcome) → (took.book).outcome ≡ o → posts_seen w.seen t ≡ posts_seen u.seen t
    by None is = took.posts is ∙ append-nil (posts_seen u.seen t)
    by (Some outcome) is = took.late (ap is_some is)

  pub then-over : (outcome : Outcome) → TookAtLast u t None (Over outcome) w
      → IsToldOver v t (ask_post ask line) outcome w
  then-over outcome last =
      let took = last.took in
      record {
        stands = over-stands u w t mine None outcome took;
        pairs = took.pairs ∙ h.pairs;
        given = record {
          book = (h.given).book;
          within = (h.given).within;
          own = (h.given).own;
          posts = λ _. same-posts (Over outcome) took ∙ h.posts;
          late =
              λ late. absurd (let none = ap is_some h.running in let both = sym none ∙ late in cc);
        };
      }

-- what is told after the wait
pub then-tells : (v u w : View) (t : ℕ) → Serves u t → (ask : Ask) (line : ℕ)
    → HasAsked v t (ask_post ask line) u → (asked : Asked) → TookAtLast u t None (as_turn asked) w
    → AskTells v t ask line asked w × SeatGoesOn v w
then-tells v u w t mine ask line h (tells.Answer answer) last = (
  then-answer v u w t mine ask line h answer last,
  on-along v u w t mine ask line h (goes-on u w t mine None (Answer answer) last.took),
)
then-tells v u w t mine ask line h (tells.Over outcome) last = (
  then-over v u w t mine ask line h outcome last,
  on-along v u w t mine ask line h (goes-on u w t mine None (Over outcome) last.took),
)

-- the thread owes its next post once it is answered
pub answered-owes : (v w : View) (t : ℕ) (ask : Ask) (line : ℕ) (answer : ℤ)
    → owes_of v.seen t ≡ true → IsAnsweredAsk v t ask line answer w → owes_of w.seen t ≡ true
answered-owes v w t ask line answer owes is =
    let was = owes-length v.seen t owes in
    eq-eqb (length (posts_seen w.seen t)) (length (pairs_of w.seen t))
    (omega (
      arith,
      ap length is.posts,
      length-append (posts_seen v.seen t) (ask_post ask line ∷ []),
      ap length is.pairs,
      length-append (pairs_of v.seen t) (event_of_ask t ask line answer ∷ []),
    ))

-- the end of a thread is never answered
pub end-not : (v w : View) (t : ℕ) → Serves v t → owes_of v.seen t ≡ true → (line : ℕ) (turn : Turn)
    → TookTurn v t (Some (end_post line)) turn w → (value : ℤ) → turn ≡ Answer value → ⊥
end-not v w t mine owes line turn took value is =
    by (subst (λ (x : Turn). TookTurn v t (Some (end_post line)) x w) is took) where
      by : TookTurn v t (Some (end_post line)) (Answer value) w → ⊥
      by took =
          let by_step = (took.turn).row.2 in
          let asked = (took.turn).asked in
          let still = open-before v w t mine (Some (end_post line)) took.book asked
          (Some (end_post line)) (took.turn).posted (took.turn).row.0 in
          let posts = sym (took.posts still) ∙ ap (λ ps. posts_of ps t) by_step.posts in
          let next : Some (end_post line) ≡ Some (post_of_event by_step.event) =
          sym (get-last (posts_seen v.seen t) (end_post line))
          ∙ ap (λ ps. slice_get ps (length (posts_seen v.seen t))) posts
          ∙ ap (λ k. slice_get (posts_seen asked t) k)
          (owes-length v.seen t owes ∙ sym
          (ap length (pairs-taken v w t mine (Some (end_post line)) (Answer value) took)))
          ∙ by_step.asked in
          let same : end_post line ≡ post_of_event by_step.event = cc in
          let both = ap (λ (p : Post). p.ask) same in
          cc
