use Rattle.std.proofs.Common.{◌≡◌, ◌<◌, arith, List, ℕ, Option, Some, None, false, length, set, sym}
use Rattle.std.proofs.Common.{ap, refl, subst, ◌∙◌}
use Rattle.std.specs.Prelude.{IsTrue}
use Rattle.std.proofs.lemmas.List.{get_or-set_same, length-set}
use Rattle.pct_ask.specs.declared.ask.Ask.{Ask}
use Rattle.pct_ask.specs.declared.ask.Post.{Post}
use Rattle.pct_ask.specs.Objects.{Sizes, PostIsInRange}
use Rattle.sync_store.specs.Store.{sizes_of}
use Rattle.sync_store.specs.declared.touched.Touched.{Touched}
use Rattle.sync_store.specs.Effect.{effect, store_after}
use Rattle.sync_store.specs.Enabled.{enabled, others_ended}
use Rattle.sync_store.specs.Touched.{KeepsOthers}
use Rattle.policy_pick.specs.declared.chance.Chance.{Chance}
use Rattle.policy_pick.specs.declared.chance.Chance.TheVariants.{Ready}
use Rattle.policy_pick.specs.Choice.{chance_of, OpensOnly}
use Rattle.turn_book.specs.Chances.{chance, chances}
use Rattle.turn_book.specs.Board.{BoardState, PostsAndSteps, next_posts_of, concerns}
use Rattle.turn_book.specs.Board.{joins_ask, ask_of_post, chances_on, posted_on, answer_of}
use Rattle.turn_book.specs.Board.{verdict_of, AreKnownChances, AreWaiters, IsBoard, IsFresh}
use Rattle.turn_book.specs.Board.{WereChances}
use Rattle.turn_book.proofs.Boards.{chances-before, front-taken, others-kept, range-set}
use Rattle.turn_book.proofs.Boards.{targets-away}
use Rattle.turn_book.proofs.Lockers.{touched-within}
use Rattle.turn_book.proofs.Waiters.{post-alone}
use Rattle.turn_book.proofs.Passing.{unset, put-back, opens-from}
use Rattle.turn_book.proofs.Passing.{not-itself, nobody-joins}
use Rattle.turn_book.proofs.board.Board.post_and_step.Goals as goal

pub take_step-stepped-requires-clause-enabled : goal.take_step-stepped-requires-clause-enabled
take_step-stepped-requires-clause-enabled c =
    let t : ℕ = c.args.thread in
    let E : BoardState → Type 0 =
    λ b. IsTrue (enabled b.store (others_ended t) t c.in_ok-ask.ask) in
    subst E (sym c.self.view_is) (c.may_go.ensures.enabled c.if-not-may_go.false)

pub with_stale-self-inside-requires : goal.with_stale-self-inside-requires
with_stale-self-inside-requires c = λ m is.
    let f = c.self.inside in
    let R : BoardState × Option Ask → Type 0 = λ x. PostIsInRange (sizes_of (x.0).store) x.1 in
    let asked : (c.args.post).ask ≡ Some c.in_ok-ask.ask = c.in_ok-ask.was in
    let range = subst R (λ i. (sym c.self.view_is i, asked i)) c.requires.in_range in
    let within = touched-within (sizes_of f.store) _ m range (sym c.touched-touched.ensures ∙ is) in
    omega (arith, within, c.self.invariant.mutexes, c.self.invariant.few_mutexes)

pub look_again-opened-requires-clause-as_many : goal.look_again-opened-requires-clause-as_many
look_again-opened-requires-clause-as_many c =
    ap length c.as_mut_slice.ensures.value ∙ c.self.invariant.board.as_many
    ∙ sym (ap (λ (s : Sizes). s.threads) c.take_step-stepped.ensures.sizes)

pub invariant_of-self : goal.invariant_of-self
invariant_of-self c =
    let f = c.self.inside in
    let posts = f.posts.items in
    let stands = f.standings.items in
    let was = f.chances.items in
    let t : ℕ = c.args.thread in
    let after = c.take_step-stepped.new.self in
    let n = after.threads in
    let known = c.look_again-opened.new.known in
    let board = c.self.invariant.board in
    let sizes = c.take_step-stepped.ensures.sizes in
    let many = ap (λ (s : Sizes). s.threads) sizes in
    let object = c.touched-touched.result in
    let stale : ℕ = c.with_stale-self-inside.result in
    let away : next_posts_of posts t ≡ None =
    ap (λ (b : BoardState). next_posts_of b.posts t) c.self.view_is ∙ c.requires.away in
    let many_known =
    c.look_again-opened.ensures.many ∙ ap length c.as_mut_slice.ensures.value in
    let front = front-taken _ _ _ (f.chances.ok.0 ∙ sym many_known) in
    let Others : Touched → Type 0 = λ o. KeepsOthers t o f.store after in
    let keeps = subst Others (sym c.touched-touched.ensures) c.take_step-stepped.ensures.others in
    let Q : List (Option Post) → Type 0 = λ ps. (u : ℕ) → u < n
    → IsFresh stale (ask_of_post (next_posts_of ps u))
    → concerns t object u (next_posts_of ps u) ≡ false
    → chance_of c.as_mut_slice.result.now u ≡ chance after (next_posts_of ps) u in
    let K : List (Option Post) → Type 0 = λ ps. AreKnownChances after ps stale known in
    let looked = subst K c.as_slice.ensures.value (c.look_again-opened.ensures.chances stale
    c.with_stale-self-inside.ensures.touched
    (subst Q (unset posts t away ∙ sym c.as_slice.ensures.value) (λ u within fresh none.
    ap (λ cs. chance_of cs u) c.as_mut_slice.ensures.value
    ∙ others-kept f.store posts stands was f.stale board after t None object stale many keeps
    c.with_stale-self-inside.ensures.others u within fresh none))) in
    let B : List Chance → Type 0 = λ cs. IsBoard after posts stands cs stale in
    let S : Sizes → Type 0 =
    λ s. (u : ℕ) → PostIsInRange s (ask_of_post (next_posts_of posts u)) in
    let W : ℕ → Type 0 = λ k. AreWaiters k posts f.waiters in
    record {
      board = subst B (sym front) (record {
        threads = board.threads ∙ sym many;
        few = omega (arith, board.few, many);
        in_range = subst S (sym sizes) board.in_range;
        standings = board.standings;
        as_many = many_known ∙ board.as_many ∙ sym many;
        chances = looked;
      });
      noted = c.self.invariant.noted;
      waiting = subst W (sym many) c.self.invariant.waiting;
      mutexes = c.self.invariant.mutexes ∙ sym (ap (λ (s : Sizes). s.mutexes) sizes);
      few_mutexes = c.self.invariant.few_mutexes;
      locking = c.self.invariant.locking;
    }

pub returns-clause-steps : goal.returns-clause-steps
returns-clause-steps c =
    let f = c.self.inside in
    let posts = f.posts.items in
    let t : ℕ = c.args.thread in
    let ask = c.in_ok-ask.ask in
    let line : ℕ = (c.args.post).line in
    let post : Option Post = Some c.args.post in
    let board = c.self.invariant.board in
    let away : next_posts_of posts t ≡ None =
    ap (λ (b : BoardState). next_posts_of b.posts t) c.self.view_is ∙ c.requires.away in
    let same : length posts ≡ length c.args.self.now.posts =
    ap (λ (b : BoardState). length b.posts) c.self.view_is in
    let there : t < length posts = omega (arith, c.requires.thread, same) in
    let goes = c.may_go.ensures.enabled c.if-not-may_go.false in
    let asked : (c.args.post).ask ≡ Some ask = c.in_ok-ask.was in
    let alone : joins_ask t (ask_of_post post) ≡ false =
    ap (joins_ask t) asked ∙ not-itself c.args.self.now.store t ask goes in
    let e = c.step_of-event.ensures in
    let event = c.step_of-event.result in
    let step = effect f.store t line ask in
    let applied = c.take_step-stepped.ensures.applied in
    let after = c.take_step-stepped.new.self in
    let new : BoardState = record { store = after; posts = posts } in
    let whole : Some (record { ask = Some ask; line = line }) ≡ post =
    λ i. Some (record { ask = sym asked i; line = line }) in
    let Goes : BoardState → Type 0 =
    λ b. chance b.store (next_posts_of (set b.posts t post)) t ≡ Ready in
    let ready : Goes c.args.self.now =
    ap (λ p. chance c.args.self.now.store (next_posts_of (set c.args.self.now.posts t p)) t)
    (sym whole) ∙ c.may_go.ensures.ready c.if-not-may_go.false line in
    let R : BoardState → Type 0 = λ b. PostIsInRange (sizes_of b.store) (c.args.post).ask in
    let range = subst R (sym c.self.view_is) c.requires.in_range in
    let P : BoardState → Type 0 =
    λ b. PostsAndSteps b t c.args.post event (verdict_of step) new in (
      verdict_of step,
      subst P c.self.view_is (record {
        ready = subst Goes (sym c.self.view_is) ready;
        others = post-alone f.store posts t post
            (nobody-joins posts f.joined t post c.self.invariant.noted c.if-self-thread.false
            alone);
        targets = targets-away f.store (set posts t post)
            (length-set posts t post ∙ board.threads)
            (range-set f.store f.store posts t post board.in_range refl range) _ refl;
        step = record {
          thread = e.thread;
          asked = get_or-set_same posts t post None there
              ∙ (λ i. Some (record { ask = (asked ∙ ap Some (sym e.ask)) i; line = sym e.line i }));
          answer = e.answer step applied
              ∙ (λ i. answer_of (effect f.store t (sym e.line i) (sym e.ask i)));
          verdict = λ i. verdict_of (effect f.store t (sym e.line i) (sym e.ask i));
          store = c.take_step-stepped.ensures.store
              ∙ (λ i. store_after f.store (effect f.store t (sym e.line i) (sym e.ask i)));
          posts = sym (put-back posts t post away);
        };
      }),
      e.outcome step applied,
    )

pub returns-clause-opens : goal.returns-clause-opens
returns-clause-opens c =
    let f = c.self.inside in
    let posts = f.posts.items in
    let t : ℕ = c.args.thread in
    let post : Option Post = Some c.args.post in
    let board = c.self.invariant.board in
    let opened : ℕ = c.look_again-opened.result in
    let after = c.take_step-stepped.new.self in
    let n = after.threads in
    let next = next_posts_of posts in
    let goes = c.may_go.ensures.enabled c.if-not-may_go.false in
    let asked : (c.args.post).ask ≡ Some c.in_ok-ask.ask = c.in_ok-ask.was in
    let alone : joins_ask t (ask_of_post post) ≡ false =
    ap (joins_ask t) asked ∙ not-itself c.args.self.now.store t c.in_ok-ask.ask goes in
    let others = post-alone f.store posts t post
    (nobody-joins posts f.joined t post c.self.invariant.noted c.if-self-thread.false alone) in
    let object = c.touched-touched.result in
    let many = ap (λ (s : Sizes). s.threads) c.take_step-stepped.ensures.sizes in
    let away : next_posts_of posts t ≡ None =
    ap (λ (b : BoardState). next_posts_of b.posts t) c.self.view_is ∙ c.requires.away in
    let Others : Touched → Type 0 = λ o. KeepsOthers t o f.store after in
    let keeps = subst Others (sym c.touched-touched.ensures) c.take_step-stepped.ensures.others in
    let earlier = chances f.store.threads f.store next in
    let W : List (Option Post) × List Chance → Type 0 =
    λ x. WereChances after x.0 t object f.waiters x.1 earlier in
    let were = subst W (λ i. (
      (unset posts t away ∙ sym c.as_slice.ensures.value) i,
      sym c.as_mut_slice.ensures.value i,
    )) (chances-before f.store after posts t None object f.waiters f.stale f.standings.items
    f.chances.items board c.self.invariant.waiting many keeps) in
    let O : List (Option Post) → Type 0 =
    λ ps. OpensOnly t opened earlier (chances n after (next_posts_of ps)) in
    let P : BoardState → Type 0 = λ b.
    OpensOnly t opened (chances_on (posted_on b t c.args.post)) (chances n after next) in
    subst P c.self.view_is (opens-from t opened _ _ _ others
    (subst O c.as_slice.ensures.value (c.look_again-opened.ensures.opens earlier were)))
