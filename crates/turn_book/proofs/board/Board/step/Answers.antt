use Rattle.std.proofs.Common.{◌≡◌, ◌<◌, arith, List, ℕ, Option, None, false, length, set, sym, ap}
use Rattle.std.proofs.Common.{subst, refl, ◌∙◌, map}
use Rattle.std.proofs.lemmas.Bool.{false≢true}
use Rattle.std.proofs.lemmas.List.{get_or_read}
use Rattle.pct_ask.specs.declared.ask.Post.{Post}
use Rattle.pct_ask.specs.declared.event.Standing.TheVariants.{Away}
use Rattle.pct_ask.specs.Objects.{Sizes, PostIsInRange}
use Rattle.sync_store.specs.declared.touched.Touched.{Touched}
use Rattle.sync_store.specs.Touched.{KeepsOthers}
use Rattle.policy_pick.specs.Choice.{chance_of}
use Rattle.turn_book.specs.Chances.{chance, chances}
use Rattle.turn_book.specs.Told.{standing_by}
use Rattle.turn_book.specs.Board.{ask_of_post, next_posts_of, concerns, joins_ask}
use Rattle.turn_book.proofs.Boards.{chances-before, others-kept, standings-set}
use Rattle.turn_book.proofs.Lockers.{touched-within}
use Rattle.turn_book.proofs.Boards.{board-set, front-taken}
use Rattle.policy_pick.specs.declared.chance.Chance.{Chance}
use Rattle.policy_pick.specs.Choice.{OpensOnly}
use Rattle.turn_book.specs.Board.{AreLockers, AreKnownChances, AreWaiters, BoardState, IsBoard}
use Rattle.turn_book.specs.Board.{IsFresh}
use Rattle.turn_book.specs.Board.{WereChances, chances_on}
use Rattle.pct_ask.specs.declared.ask.Ask.{Ask}
use Rattle.sync_store.specs.Store.{sizes_of}
use Rattle.turn_book.proofs.Joined.{not-noted, noted-set}
use Rattle.turn_book.proofs.Waiters.{waiters-step}
use Rattle.turn_book.proofs.board.Board.step.Goals as goal

pub look_again-opened-requires-clause-standings : goal.look_again-opened-requires-clause-standings
look_again-opened-requires-clause-standings c =
    let f = c.self.inside in
    let stands = f.standings.items in
    let was = c.self.invariant.board.standings in
    c.as_slice-in-Some.ensures.value
    ∙ standings-set f.posts.items stands c.args.thread None Away was refl
    ∙ ap (map standing_by) (sym c.as_slice.ensures.value)

pub look_again-opened-requires-clause-as_many : goal.look_again-opened-requires-clause-as_many
look_again-opened-requires-clause-as_many c =
    ap length c.as_mut_slice-in-Some.ensures.value ∙ c.self.invariant.board.as_many
    ∙ sym (ap (λ (s : Sizes). s.threads) c.take_step-stepped.ensures.sizes)

pub with_stale-self-inside-requires : goal.with_stale-self-inside-requires
with_stale-self-inside-requires c = λ m is.
    let f = c.self.inside in
    let posts = f.posts.items in
    let t : ℕ = c.args.thread in
    let board = c.self.invariant.board in
    let same : length posts ≡ length c.args.self.now.posts =
    ap (λ (b : BoardState). length b.posts) c.self.view_is in
    let there : t < length posts = omega (arith, c.requires.thread, same) in
    let read = get_or_read posts t c.index.result.now there c.index.ensures None in
    let asks = sym (ap ask_of_post read) ∙ ap ask_of_post c.in-Some.ensures in
    let R : Option Ask → Type 0 = PostIsInRange (sizes_of f.store) in
    let within = touched-within (sizes_of f.store) _ m (subst R asks (board.in_range t))
    (sym c.touched-touched.ensures ∙ is) in
    omega (arith, within, c.self.invariant.mutexes, c.self.invariant.few_mutexes)

pub look_again-opened-requires-clause-joined : goal.look_again-opened-requires-clause-joined
look_again-opened-requires-clause-joined c = λ none u.
    let f = c.self.inside in
    let posts = f.posts.items in
    let t = c.args.thread in
    let was = c.self.invariant.noted in
    let noted = noted-set posts f.joined f.joined t None was (λ v e. e) (λ v joins.
    absurd (false≢true joins)) in
    let P : List (Option Post) → Type 0 =
    λ ps. joins_ask t (ask_of_post (next_posts_of ps u)) ≡ false in
    subst P (sym c.as_slice.ensures.value) (not-noted (set posts t None) f.joined t noted none u)

pub look_again-opened-requires-clause-lockers : goal.look_again-opened-requires-clause-lockers
look_again-opened-requires-clause-lockers c =
    let f = c.self.inside in
    let posts = f.posts.items in
    let t : ℕ = c.args.thread in
    let A : List ℕ → Type 0 = AreLockers posts in
    let are = subst A (sym c.as_mut_slice.ensures.value) c.self.invariant.locking in
    let same : length posts ≡ length c.args.self.now.posts =
    ap (λ (b : BoardState). length b.posts) c.self.view_is in
    let there : t < length posts = omega (arith, c.requires.thread, same) in
    let read = get_or_read posts t c.index.result.now there c.index.ensures None in
    let asks = sym (ap ask_of_post read) ∙ ap ask_of_post c.in-Some.ensures in
    let removed = c.remove_locker.ensures.many ∙ ap length c.as_mut_slice.ensures.value in
    let taken = front-taken _ _ _ (f.lockers.ok.0 ∙ sym removed) in
    let L : List ℕ → Type 0 = AreLockers (set posts t None) in
    let P : List (Option Post) → Type 0 = λ ps. AreLockers ps c.as_slice-in-Some-2.result.now in
    subst P (sym c.as_slice.ensures.value)
    (subst L (sym (c.as_slice-in-Some-2.ensures.value ∙ taken))
    (c.remove_locker.ensures.lockers posts are there asks))

pub invariant_of-self : goal.invariant_of-self
invariant_of-self c =
    let f = c.self.inside in
    let posts = f.posts.items in
    let stands = f.standings.items in
    let was = f.chances.items in
    let t : ℕ = c.args.thread in
    let after = c.take_step-stepped.new.self in
    let n = after.threads in
    let known = c.look_again-opened.new.known in
    let board = c.self.invariant.board in
    let sizes = c.take_step-stepped.ensures.sizes in
    let many = ap (λ (s : Sizes). s.threads) sizes in
    let object = c.touched-touched.result in
    let stale : ℕ = c.with_stale-self-inside.result in
    let many_known =
    c.look_again-opened.ensures.many ∙ ap length c.as_mut_slice-in-Some.ensures.value in
    let front = front-taken _ _ _ (f.chances.ok.0 ∙ sym many_known) in
    let Others : Touched → Type 0 = λ o. KeepsOthers t o f.store after in
    let keeps = subst Others (sym c.touched-touched.ensures) c.take_step-stepped.ensures.others in
    let Q : List (Option Post) → Type 0 = λ ps. (u : ℕ) → u < n
    → IsFresh stale (ask_of_post (next_posts_of ps u))
    → concerns t object u (next_posts_of ps u) ≡ false
    → chance_of c.as_mut_slice-in-Some.result.now u ≡ chance after (next_posts_of ps) u in
    let K : List (Option Post) → Type 0 = λ ps. AreKnownChances after ps stale known in
    let looked = subst K c.as_slice.ensures.value (c.look_again-opened.ensures.chances stale
    c.with_stale-self-inside.ensures.touched
    (subst Q (sym c.as_slice.ensures.value) (λ u within fresh none.
    ap (λ cs. chance_of cs u) c.as_mut_slice-in-Some.ensures.value
    ∙ others-kept f.store posts stands was f.stale board after t None object stale many keeps
    c.with_stale-self-inside.ensures.others u within fresh none))) in
    let A : List ℕ → Type 0 = AreLockers posts in
    let are = subst A (sym c.as_mut_slice.ensures.value) c.self.invariant.locking in
    let same : length posts ≡ length c.args.self.now.posts =
    ap (λ (b : BoardState). length b.posts) c.self.view_is in
    let there : t < length posts = omega (arith, c.requires.thread, same) in
    let read = get_or_read posts t c.index.result.now there c.index.ensures None in
    let asks = sym (ap ask_of_post read) ∙ ap ask_of_post c.in-Some.ensures in
    let removed = c.remove_locker.ensures.many ∙ ap length c.as_mut_slice.ensures.value in
    let taken = front-taken _ _ _ (f.lockers.ok.0 ∙ sym removed) in
    let L : List ℕ → Type 0 = AreLockers (set posts t None) in
    let B : List Chance → Type 0 =
    λ cs. IsBoard after (set posts t None) (set stands t Away) cs stale in
    record {
      board = subst B (sym front) (board-set f.store posts stands was f.stale board after t None
          Away stale known sizes tt refl many_known looked);
      noted = noted-set posts f.joined f.joined t None c.self.invariant.noted (λ v e. e) (λ v joins.
          absurd (false≢true joins));
      waiting =
          waiters-step f.store.threads after.threads posts f.waiters t many
          c.self.invariant.waiting;
      mutexes = ap length taken ∙ removed ∙ c.self.invariant.mutexes
          ∙ sym (ap (λ (s : Sizes). s.mutexes) sizes);
      few_mutexes = omega (arith, ap length taken, removed, c.self.invariant.few_mutexes);
      locking = subst L (sym taken) (c.remove_locker.ensures.lockers posts are there asks);
    }

pub look_again-opened-requires-clause-waiters : goal.look_again-opened-requires-clause-waiters
look_again-opened-requires-clause-waiters c =
    let f = c.self.inside in
    let after = c.take_step-stepped.new.self in
    let many = ap (λ (s : Sizes). s.threads) c.take_step-stepped.ensures.sizes in
    let P : List (Option Post) → Type 0 = λ ps. AreWaiters after.threads ps f.waiters in
    subst P (sym c.as_slice.ensures.value)
    (waiters-step f.store.threads after.threads f.posts.items f.waiters c.args.thread many
    c.self.invariant.waiting)

pub returns-clause-opens : goal.returns-clause-opens
returns-clause-opens c =
    let f = c.self.inside in
    let posts = f.posts.items in
    let t : ℕ = c.args.thread in
    let opened : ℕ = c.look_again-opened.result in
    let after = c.take_step-stepped.new.self in
    let n = after.threads in
    let board = c.self.invariant.board in
    let object = c.touched-touched.result in
    let many = ap (λ (s : Sizes). s.threads) c.take_step-stepped.ensures.sizes in
    let Others : Touched → Type 0 = λ o. KeepsOthers t o f.store after in
    let keeps = subst Others (sym c.touched-touched.ensures) c.take_step-stepped.ensures.others in
    let earlier = chances f.store.threads f.store (next_posts_of posts) in
    let W : List (Option Post) × List Chance → Type 0 =
    λ x. WereChances after x.0 t object f.waiters x.1 earlier in
    let were = subst W (λ i.
    (sym c.as_slice.ensures.value i, sym c.as_mut_slice-in-Some.ensures.value i))
    (chances-before f.store after posts t None object f.waiters f.stale f.standings.items
    f.chances.items board c.self.invariant.waiting many keeps) in
    let O : List (Option Post) → Type 0 =
    λ ps. OpensOnly t opened earlier (chances n after (next_posts_of ps)) in
    let P : BoardState → Type 0 = λ b. OpensOnly t opened (chances_on b)
    (chances n after (next_posts_of (set posts t None))) in
    subst P c.self.view_is
    (subst O c.as_slice.ensures.value (c.look_again-opened.ensures.opens earlier were))
