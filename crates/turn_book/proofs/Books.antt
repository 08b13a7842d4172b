-- What a book keeps, along its calls, and what follows of what it tells.
use Rattle.std.proofs.Common.{◌≡◌, ◌≢◌, ℕ, ◌<◌, Bool, true, false, eqb, Option, Some, None}
use Rattle.std.proofs.Common.{option_to_list, List, [], ◌∷◌, ◌++◌, length, set, refl}
use Rattle.std.proofs.Common.{sym, ap, subst, ◌∙◌, arith, eq-eqb}
use Rattle.std.specs.Prelude.{is_some}
use Rattle.std.proofs.lemmas.Bool.{false≢true}
use Rattle.std.proofs.lemmas.List.{length-set}
use Rattle.pct_ask.specs.declared.ask.Ask.{Ask}
use Rattle.pct_ask.specs.declared.ask.Post.{Post}
use Rattle.pct_ask.specs.declared.Deal.{Deal}
use Rattle.pct_ask.specs.declared.event.Event.{Event}
use Rattle.pct_ask.specs.declared.event.Standing.TheVariants.{Away as AwayStanding}
use Rattle.pct_ask.specs.declared.verdict.Verdict.{Verdict}
use Rattle.pct_ask.specs.declared.verdict.Outcome.{Outcome}
use Rattle.pct_ask.specs.Objects.{Sizes}
use Rattle.sync_store.specs.Store.{StoreState, sizes_of, first_store}
use Rattle.sync_store.specs.Enabled.{enabled}
use Rattle.sync_store.specs.Ready.{join_target, unknown_target, ready_by}
use Rattle.sync_store.specs.Effect.{effect}
use Rattle.sync_store.specs.World.{Source, World, has_ended, world_after}
use Rattle.policy_pick.specs.declared.chance.Chance.{Chance}
use Rattle.policy_pick.specs.declared.chance.Chance.TheVariants.{Ready as Goes}
use Rattle.policy_pick.specs.declared.chance.Pick.{Pick}
use Rattle.policy_pick.specs.declared.chance.Pick.TheVariants.{Thread}
use Rattle.policy_pick.specs.Plan.{Plan, SpeaksOf}
use Rattle.policy_pick.specs.Choice.{choice}
use Rattle.turn_book.specs.Chances.{is_unknown, is_ended, chance_by, chance_of_post, chance}
use Rattle.turn_book.specs.Chances.{chances, rest_verdict}
use Rattle.turn_book.specs.Posts.{schedule_of, posts_of, source_of, HasMore, KeepsPosts}
use Rattle.turn_book.specs.Obeys.{choice_after, Obeys, outcome_by_pick, outcome_by, outcome_after}
use Rattle.turn_book.specs.Told.{next_post, standing_by_ask, standing_by, standing_of, choice_of}
use Rattle.turn_book.specs.Told.{IsLawful}
use Rattle.turn_book.specs.Board.{BoardState, TakesStep, next_posts_of}
use Rattle.turn_book.specs.Kept.{posts_by, book_of_parts, IsAt, IsKept}
use Rattle.turn_book.proofs.laws.Worlds.{effect-is, Steps, IsMade, made-events, made-push}
use Rattle.turn_book.proofs.laws.MorePosts.{choice-at, settled-at, obeys-more, made-more}
use Rattle.turn_book.proofs.laws.MorePosts.{chosen-ready}
use Rattle.turn_book.proofs.Boards.{chance-at, length-chances}
use Rattle.turn_book.specs.Answers.{MayWait}
use Rattle.turn_book.proofs.Takes.{may-wait}
use Rattle.turn_book.proofs.laws.OwnSteps.{more-keeps}
use Rattle.turn_book.proofs.PostLists.{made, length-posts, next-is, posts-are, posts-posted}
use Rattle.turn_book.proofs.PostLists.{posts-taken, set-more}
use Rattle.turn_book.proofs.laws.ObeyingSteps.{obeys-within, obeys-push}

-- ---- the world of a book
module _ (plan : Plan) (deal : Deal) (board : BoardState) (events : List Event) where
  abbrev pub source : Source
  source = source_of (posts_by events board.posts)

  abbrev pub pick_now : Pick
  pick_now =
      choice plan (schedule_of events)
      (chances deal.threads board.store (next_posts_of board.posts))

  abbrev pub outcome_now : Option Verdict → Bool → Pick → Option Outcome
  outcome_now verdict full pick =
      outcome_by verdict (outcome_by_pick
      (rest_verdict deal.threads board.store (next_posts_of board.posts)) full pick)

  known : (λ t. source t events) ≡ next_posts_of board.posts
  known = λ j t. next-is events board.posts t j

  module _ (at : IsAt deal source events board) where
    abbrev pub world : World
    world = record { store = board.store; events = events; verdict = at.verdict }

    pub is-made : IsMade (first_store deal) source events world
    is-made = record { at = at.world; trace = refl }

    pub choice-now : choice_after plan deal source (schedule_of events) ≡ Some pick_now
    choice-now =
        choice-at plan deal source events world is-made
        ∙ ap (λ next. Some (choice plan (schedule_of events)
        (chances deal.threads board.store next))) known

    pub settled-now : (limit : ℕ) → outcome_after plan deal source limit events
        ≡ outcome_now at.verdict (eqb (length events) limit) pick_now
    settled-now limit =
        settled-at plan deal source limit events world is-made
        ∙ ap (λ next. outcome_by at.verdict
        (outcome_by_pick (rest_verdict deal.threads board.store next)
        (eqb (length events) limit) (choice plan (schedule_of events)
        (chances deal.threads board.store next)))) known

-- no outcome stands after a verdict
runs-from : (verdict : Option Verdict) (otherwise : Option Outcome)
    → outcome_by verdict otherwise ≡ None → verdict ≡ None
runs-from None otherwise e = refl
runs-from (Some verdict) otherwise e = absurd cc

-- nor at the limit, where a thread would go
room-from : (rest : Verdict) (full : Bool) (t : ℕ) → outcome_by_pick rest full (Thread t) ≡ None
    → full ≡ false
room-from rest true t e = absurd cc
room-from rest false t e = refl

-- a thread that is Ready has an ask that is enabled
ready-by : (target : Option ℕ) (b : Bool) → chance_by (ready_by target b) ≡ Goes → b ≡ true
ready-by (Some u) b e = absurd cc
ready-by None true e = refl
ready-by None false e = absurd cc

-- ---- what a book keeps, and what it tells
module _ (deal : Deal) (limit : ℕ) (plan : Plan) (board : BoardState) (events : List Event)
    (next : Pick) (last : Option Outcome) (reserved : ℕ)
    (kept : IsKept deal limit plan board events next last reserved) where
  pub threads-store : (board.store).threads ≡ deal.threads
  threads-store = ap (λ (s : Sizes). s.threads) kept.sizes

  pub choice-told : choice_of (book_of_parts deal limit plan board.posts events last)
      ≡ Some (pick_now plan deal board events)
  choice-told = choice-now plan deal board events kept.at

  pub next-told : (t : ℕ) → next_post (book_of_parts deal limit plan board.posts events last) t
      ≡ next_posts_of board.posts t
  next-told t = next-is events board.posts t

  pub standing-told : (t : ℕ) → standing_of (book_of_parts deal limit plan board.posts events last)
      t ≡ standing_by (next_posts_of board.posts t)
  standing-told t = ap standing_by (next-told t)

  pub lawful-told : IsLawful (book_of_parts deal limit plan board.posts events last)
  lawful-told = record {
    obeys = kept.obeys;
    outcome = kept.outcome;
    threads = length-posts events 0 board.posts ∙ kept.threads;
    posts =
        λ t. posts-are events board.posts t
        (λ e before after cut. omega (
          arith,
          kept.threads,
          obeys-within plan deal (source plan deal board events) limit events kept.speaks kept.obeys
              e
              before after cut,
        )) ∙ ap (λ o. made t events ++ option_to_list o) (sym (next-told t));
    speaks = kept.speaks;
    some_steps = kept.some_steps;
    few_steps = kept.few_steps;
  }

  module _ (running : last ≡ None) where
    unsettled : outcome_now plan deal board events (kept.at).verdict (eqb (length events) limit)
        (pick_now plan deal board events) ≡ None
    unsettled = sym (settled-now plan deal board events kept.at limit) ∙ sym kept.outcome ∙ running

    pub runs : (kept.at).verdict ≡ None
    runs = runs-from (kept.at).verdict _ unsettled

    pub undecided : outcome_by_pick (rest_verdict deal.threads board.store
        (next_posts_of board.posts)) (eqb (length events) limit) (pick_now plan deal board events)
        ≡ None
    undecided =
        ap (λ v. outcome_by v (outcome_by_pick
        (rest_verdict deal.threads board.store (next_posts_of board.posts))
        (eqb (length events) limit) (pick_now plan deal board events))) (sym runs) ∙ unsettled

    module _ (t : ℕ) (turn : pick_now plan deal board events ≡ Thread t) where
      abbrev all : List Chance
      all = chances deal.threads board.store (next_posts_of board.posts)

      pub turn-ready : (t < deal.threads)
          × (chance board.store (next_posts_of board.posts) t ≡ Goes)
      turn-ready =
          let long = length-chances deal.threads board.store (next_posts_of board.posts) in
          let Speaks : ℕ → Type 0 = SpeaksOf plan in
          let ready = chosen-ready plan (schedule_of events) all t
          (subst Speaks (sym long) kept.speaks) turn in
          let within : t < deal.threads = omega (arith, ready.0) in (
            within,
            sym
                (chance-at deal.threads board.store (next_posts_of board.posts) t within) ∙ ready.1,
          )

      pub turn-room : length events < limit
      turn-room =
          let full = room-from (rest_verdict deal.threads board.store (next_posts_of board.posts))
          (eqb (length events) limit) t (ap
          (outcome_by_pick (rest_verdict deal.threads board.store (next_posts_of board.posts))
          (eqb (length events) limit)) (sym turn) ∙ undecided) in
          let apart : length events ≢ limit =
          λ same. false≢true (sym full ∙ eq-eqb (length events) limit same) in
          omega (arith, (kept.obeys).within)

-- ---- what a change of the board settles
module _ (plan : Plan) (deal : Deal) (after : BoardState) (events : List Event)
    (at : IsAt deal (source plan deal after events) events after)
    (threads : (after.store).threads ≡ deal.threads) where
  module _ (limit : ℕ) (verdict : Option Verdict) (full : Bool) (next : Pick)
      (outcome : Option Outcome) (same : at.verdict ≡ verdict)
      (reached : full ≡ eqb (length events) limit)
      (picks : next ≡ choice plan (schedule_of events)
      (chances (after.store).threads after.store (next_posts_of after.posts)))
      (becomes : outcome ≡ outcome_by verdict
      (outcome_by_pick (rest_verdict (after.store).threads after.store
      (next_posts_of after.posts)) full next)) where
    pub pick-is : next ≡ pick_now plan deal after events
    pick-is =
        picks ∙ ap (λ n. choice plan (schedule_of events)
        (chances n after.store (next_posts_of after.posts))) threads

    pub outcome-is : outcome ≡ outcome_after plan deal (source plan deal after events) limit events
    outcome-is =
        becomes
        ∙ ap (λ n. outcome_by verdict (outcome_by_pick
        (rest_verdict n after.store (next_posts_of after.posts)) full next)) threads
        ∙ ap (λ v. outcome_now plan deal after events v full next) (sym same)
        ∙ ap (λ b. outcome_now plan deal after events at.verdict b next) reached
        ∙ ap (outcome_now plan deal after events at.verdict (eqb (length events) limit)) pick-is
        ∙ sym (settled-now plan deal after events at limit)

module _ (deal : Deal) (limit : ℕ) (plan : Plan) (board : BoardState) (events : List Event)
    (old_next : Pick) (last : Option Outcome) (reserved : ℕ)
    (kept : IsKept deal limit plan board events old_next last reserved)
    (running : last ≡ None) where
  -- ---- a post
  module _ (t : ℕ) (post : Post) (after : BoardState) (within : t < deal.threads)
      (away : next_posts_of board.posts t ≡ None) (store : after.store ≡ board.store)
      (posts : after.posts ≡ set board.posts t (Some post)) where
    pub posts-after : posts_by events after.posts
        ≡ set (posts_by events board.posts) t
        (posts_of (posts_by events board.posts) t ++ post ∷ [])
    posts-after =
        ap (posts_by events) posts ∙ posts-posted events board.posts t post
        (omega (arith, kept.threads)) away

    more : HasMore (posts_by events board.posts) (posts_by events after.posts)
    more =
        let P : List (List Post) → Type 0 = HasMore (posts_by events board.posts) in
        subst P (sym posts-after) (set-more (posts_by events board.posts) t post
        (omega (arith, kept.threads, length-posts events 0 board.posts)))

    keeps : KeepsPosts events (source plan deal board events) (source plan deal after events)
    keeps = more-keeps events (posts_by events board.posts) (posts_by events after.posts) more

    at-post : IsAt deal (source plan deal after events) events after
    at-post = record {
      verdict = (kept.at).verdict;
      world =
          (made-more (first_store deal) (source plan deal board events)
          (source plan deal after events) events (world plan deal board events kept.at) keeps
          (is-made plan deal board events kept.at)).at
          ∙ ap (λ (s : StoreState). Some (record {
            store = s;
            events = events;
            verdict = (kept.at).verdict;
          })) (sym store);
    }

    threads-post : (after.store).threads ≡ deal.threads
    threads-post =
        ap (λ (s : StoreState). s.threads) store
        ∙ threads-store deal limit plan board events old_next last reserved kept

    pub kept-post : (full : Bool) (next : Pick) (outcome : Option Outcome)
        → full ≡ eqb (length events) limit
        → next ≡ choice plan (schedule_of events)
        (chances (after.store).threads after.store (next_posts_of after.posts))
        → outcome ≡ outcome_by None (outcome_by_pick
        (rest_verdict (after.store).threads after.store (next_posts_of after.posts)) full next)
        → IsKept deal limit plan after events next outcome reserved
    unfolding at-post
    kept-post full next outcome reached picks becomes =
        let none = runs deal limit plan board events old_next last reserved kept running in
        record {
          sizes = ap sizes_of store ∙ kept.sizes;
          threads = ap length posts ∙ length-set board.posts t (Some post) ∙ kept.threads;
          speaks = kept.speaks;
          some_steps = kept.some_steps;
          few_steps = kept.few_steps;
          room = kept.room;
          at = at-post;
          obeys =
              obeys-more plan deal (source plan deal board events) (source plan deal after events)
              limit events keeps kept.obeys;
          outcome =
              outcome-is plan deal after events at-post threads-post limit None full next outcome
              none reached picks becomes;
          pick =
              λ undecided. pick-is plan deal after events at-post threads-post limit None full next
              outcome none reached picks becomes;
        }

  -- ---- a step
  module _ (t : ℕ) (event : Event) (ends : Option Verdict) (after : BoardState)
      (turn : pick_now plan deal board events ≡ Thread t)
      (taken : TakesStep board t event ends after) where
    abbrev made_events : List Event
    made_events = events ++ event ∷ []

    ready : (t < deal.threads) × (chance board.store (next_posts_of board.posts) t ≡ Goes)
    ready = turn-ready deal limit plan board events old_next last reserved kept running t turn

    pub posts-same : posts_by made_events after.posts ≡ posts_by events board.posts
    posts-same =
        ap (posts_by made_events) taken.posts
        ∙ posts-taken events board.posts t event taken.thread (omega (arith, kept.threads, ready.0))
        taken.asked

    enabled-now : enabled board.store (has_ended (source plan deal board events) events) t event.ask
        ≡ true
    enabled-now =
        let next = next_posts_of board.posts in
        let goes = sym (ap (chance_of_post board.store (is_unknown next) (is_ended next) t)
        taken.asked) ∙ ready.1 in
        let b = ready-by (unknown_target (is_unknown next) (join_target event.ask))
        (enabled board.store (is_ended next) t event.ask) goes in
        ap (λ n. enabled board.store (is_ended n) t event.ask) (known plan deal board events) ∙ b

    abbrev world_after_step : World
    world_after_step = record { store = after.store; events = made_events; verdict = ends }

    steps : Steps (source plan deal board events) (world plan deal board events kept.at) t
        world_after_step
    steps = record {
      post = record { ask = Some event.ask; line = event.line };
      ask = event.ask;
      runs = runs deal limit plan board events old_next last reserved kept running;
      posted = next-is events board.posts t ∙ taken.asked;
      asks = refl;
      goes = enabled-now;
      next_is =
          effect-is (world plan deal board events kept.at) t event.line event.ask
          (effect board.store t event.line event.ask)
          ∙ (λ j. record {
            store = sym taken.store j;
            events = events ++ record {
              thread = sym taken.thread j;
              line = event.line;
              ask = event.ask;
              answer = sym taken.answer j;
            } ∷ [];
            verdict = sym taken.verdict j;
          });
    }

    made-step : IsMade (first_store deal)
        (source plan deal board events) made_events world_after_step
    made-step =
        let P : ℕ → Type 0 = λ u. Steps (source plan deal board events)
        (world plan deal board events kept.at) u world_after_step in
        made-push (first_store deal) (source plan deal board events) events
        (world plan deal board events kept.at) world_after_step event
        (is-made plan deal board events kept.at) (subst P (sym taken.thread) steps) refl

    pub obeys-step : Obeys plan deal (source plan deal board events) limit made_events
    obeys-step = obeys-push plan deal (source plan deal board events) limit events event kept.obeys
        (choice-now plan deal board events kept.at ∙ ap Some turn
        ∙ ap (λ u. Some (Thread u)) (sym taken.thread))
        (made-events (first_store deal) (source plan deal board events) made_events world_after_step
        made-step)
        (turn-room deal limit plan board events old_next last reserved kept running t turn)

    at-step : IsAt deal (source plan deal after made_events) made_events after
    at-step = record {
      verdict = ends;
      world = ap (λ ps.
          world_after (first_store deal) (source_of ps) (schedule_of made_events)) posts-same
          ∙ made-step.at;
    }

    pub kept-step : (full : Bool) (next : Pick) (outcome : Option Outcome)
        → sizes_of after.store ≡ sizes_of board.store → full ≡ eqb (length made_events) limit
        → next ≡ choice plan (schedule_of made_events)
        (chances (after.store).threads after.store (next_posts_of after.posts))
        → outcome ≡ outcome_by ends (outcome_by_pick
        (rest_verdict (after.store).threads after.store (next_posts_of after.posts)) full next)
        → IsKept deal limit plan after made_events next outcome reserved
    unfolding at-step
    kept-step full next outcome sizes reached picks becomes =
        let threads : (after.store).threads ≡ deal.threads =
        ap (λ (s : Sizes). s.threads) sizes
        ∙ threads-store deal limit plan board events old_next last reserved kept in
        let P : List (List Post) → Type 0 =
        λ ps. Obeys plan deal (source_of ps) limit made_events in
        record {
          sizes = sizes ∙ kept.sizes;
          threads = ap length taken.posts ∙ length-set board.posts t None ∙ kept.threads;
          speaks = kept.speaks;
          some_steps = kept.some_steps;
          few_steps = kept.few_steps;
          room = kept.room;
          at = at-step;
          obeys = subst P (sym posts-same) obeys-step;
          outcome =
              outcome-is plan deal after made_events at-step threads limit ends full next outcome
              refl reached picks becomes;
          pick =
              λ undecided. pick-is plan deal after made_events at-step threads limit ends full next
              outcome refl reached picks becomes;
        }

-- ---- as the calls need it
pub choice-next : (deal : Deal) (limit : ℕ) (plan : Plan) (board : BoardState) (events : List Event)
    (next : Pick) (last : Option Outcome) (reserved : ℕ)
    (kept : IsKept deal limit plan board events next last reserved) → last ≡ None
    → choice_of (book_of_parts deal limit plan board.posts events last) ≡ Some next
choice-next deal limit plan board events next last reserved kept running =
    choice-told deal limit plan board events next last reserved kept
    ∙ ap Some (sym (kept.pick running))

pub none-from : (o : Option Outcome) → is_some o ≡ false → o ≡ None
none-from None e = refl
none-from (Some outcome) e = absurd cc

pub away-none : (o : Option Post) → standing_by o ≡ AwayStanding → o ≡ None
away-none None e = refl
away-none (Some post) e = absurd (not-away post.ask e) where
  not-away : (ask : Option Ask) → standing_by_ask ask ≡ AwayStanding → ⊥
  not-away None e = cc
  not-away (Some ask) e = cc

pub goes-on-book : (deal : Deal) (limit : ℕ) (plan : Plan) (board : BoardState)
    (events : List Event) (next : Pick) (last : Option Outcome) (reserved : ℕ)
    (kept : IsKept deal limit plan board events next last reserved) → last ≡ None → MayWait next
goes-on-book deal limit plan board events next last reserved kept running =
    let P : Pick → Type 0 = MayWait in
    subst P (sym (kept.pick running))
    (may-wait (rest_verdict deal.threads board.store (next_posts_of board.posts))
    (eqb (length events) limit) (pick_now plan deal board events)
    (undecided deal limit plan board events next last reserved kept running))
