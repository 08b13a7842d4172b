use Rattle.std.proofs.Common.{arith, ◌≡◌, ◌<◌, List, ℕ, Option, Some, None, true, false}
use Rattle.std.proofs.Common.{length, set}
use Rattle.std.proofs.Common.{sym, ap, subst, refl, ◌∙◌, map, get_or, take, drop, ◌++◌}
use Rattle.std.proofs.lemmas.List.{get_or_read}
use Rattle.policy_pick.specs.declared.chance.Chance.TheVariants.{Ended}
use Rattle.pct_ask.specs.declared.ask.Post.{Post}
use Rattle.pct_ask.specs.Objects.{PostIsInRange}
use Rattle.sync_store.specs.declared.touched.Touched.TheVariants.{Nothing}
use Rattle.sync_store.specs.Store.{sizes_of}
use Rattle.policy_pick.specs.Choice.{chance_of}
use Rattle.turn_book.specs.Chances.{chance, chances}
use Rattle.turn_book.specs.Told.{standing_by}
use Rattle.turn_book.specs.Board.{BoardState, ask_of_post, next_posts_of, concerns, joins_ask}
use Rattle.turn_book.proofs.Boards.{chance-at, others-kept, standings-set, targets-away}
use Rattle.turn_book.proofs.Boards.{board-set, front-taken}
use Rattle.policy_pick.specs.Choice.{SameOthers}
use Rattle.policy_pick.specs.declared.chance.Chance.{Chance}
use Rattle.turn_book.specs.Board.{AreKnownChances, AreWaiters, IsBoard, IsFresh, chances_on}
use Rattle.turn_book.proofs.Joined.{joined-within, not-noted, noted-set}
use Rattle.turn_book.proofs.Waiters.{waiters-post, post-alone, not-so}
use Rattle.turn_book.proofs.Lockers.{lock-within}
use Rattle.turn_book.specs.Board.{AreLockers}
use Rattle.turn_book.proofs.board.Board.post.Goals as goal

pub look_again-requires-clause-standings : goal.look_again-requires-clause-standings
look_again-requires-clause-standings c =
    let f = c.self.inside in
    let stands = f.standings.items in
    let post = Some c.args.post in
    let one = c.standing_of.result in
    let was = c.self.invariant.board.standings in
    c.as_slice-2.ensures.value
    ∙ standings-set f.posts.items stands c.args.thread post one was c.standing_of.ensures
    ∙ ap (map standing_by) (sym c.as_slice.ensures.value)

pub look_again-requires-clause-as_many : goal.look_again-requires-clause-as_many
look_again-requires-clause-as_many c =
    ap length c.as_mut_slice-2.ensures.value ∙ c.self.invariant.board.as_many

pub look_again-requires-clause-joined : goal.look_again-requires-clause-joined
look_again-requires-clause-joined c = λ none u.
    let f = c.self.inside in
    let posts = f.posts.items in
    let t = c.args.thread in
    let post : Option Post = Some c.args.post in
    let after = c.note_joined.new.joined in
    let few = c.self.invariant.board.few in
    let kept = c.note_joined.ensures.kept in
    let R : BoardState → Type 0 = λ b. PostIsInRange (sizes_of b.store) (c.args.post).ask in
    let range = subst R (sym c.self.view_is) c.requires.in_range in
    let one : (v : ℕ) → joins_ask v (ask_of_post post) ≡ true → get_or after v false ≡ true =
    λ v joins.
    let within = joined-within (sizes_of f.store) v (c.args.post).ask range joins in
    c.note_joined.ensures.noted v (omega (arith, within, few)) joins in
    let noted = noted-set posts f.joined after t post c.self.invariant.noted kept one in
    let P : List (Option Post) → Type 0 =
    λ ps. joins_ask t (ask_of_post (next_posts_of ps u)) ≡ false in
    subst P (sym c.as_slice.ensures.value) (not-noted (set posts t post) after t noted none u)

pub add_locker-requires-clause-thread : goal.add_locker-requires-clause-thread
add_locker-requires-clause-thread c =
    let board = c.self.invariant.board in
    let long : length c.self.inside.posts.items ≡ length c.args.self.now.posts =
    ap (λ (b : BoardState). length b.posts) c.self.view_is in
    omega (arith, c.requires.thread, board.threads, board.few)

pub add_locker-requires-clause-in_range : goal.add_locker-requires-clause-in_range
add_locker-requires-clause-in_range c = λ m locks.
    let f = c.self.inside in
    let R : BoardState → Type 0 = λ b. PostIsInRange (sizes_of b.store) (c.args.post).ask in
    let range = subst R (sym c.self.view_is) c.requires.in_range in
    let within = lock-within (sizes_of f.store) m (c.args.post).ask range locks in
    let many = ap length c.as_mut_slice.ensures.value in
    omega (arith, within, many, c.self.invariant.mutexes)

pub look_again-requires-clause-lockers : goal.look_again-requires-clause-lockers
look_again-requires-clause-lockers c =
    let f = c.self.inside in
    let posts = f.posts.items in
    let t : ℕ = c.args.thread in
    let post : Option Post = Some c.args.post in
    let A : List ℕ → Type 0 = AreLockers posts in
    let are = subst A (sym c.as_mut_slice.ensures.value) c.self.invariant.locking in
    let away : next_posts_of posts t ≡ None =
    ap (λ (b : BoardState). next_posts_of b.posts t) c.self.view_is ∙ c.requires.away in
    let same : length posts ≡ length c.args.self.now.posts =
    ap (λ (b : BoardState). length b.posts) c.self.view_is in
    let there : t < length posts = omega (arith, c.requires.thread, same) in
    let many = c.add_locker.ensures.many ∙ ap length c.as_mut_slice.ensures.value in
    let taken = front-taken _ _ _ (f.lockers.ok.0 ∙ sym many) in
    let L : List ℕ → Type 0 = AreLockers (set posts t post) in
    let P : List (Option Post) → Type 0 = λ ps. AreLockers ps c.as_slice-3.result.now in
    subst P (sym c.as_slice.ensures.value)
    (subst L (sym (c.as_slice-3.ensures.value ∙ taken))
    (c.add_locker.ensures.lockers posts post are there away refl))

pub invariant_of-self : goal.invariant_of-self
invariant_of-self c =
    let f = c.self.inside in
    let posts = f.posts.items in
    let stands = f.standings.items in
    let was = f.chances.items in
    let t = c.args.thread in
    let post : Option Post = Some c.args.post in
    let known = c.look_again.new.known in
    let n = f.store.threads in
    let next = next_posts_of (set posts t post) in
    let board = c.self.invariant.board in
    let many_known = c.look_again.ensures.many ∙ ap length c.as_mut_slice-2.ensures.value in
    let front = front-taken _ _ _ (f.chances.ok.0 ∙ sym many_known) in
    let Q : List (Option Post) → Type 0 = λ ps. (u : ℕ) → u < n
    → IsFresh f.stale (ask_of_post (next_posts_of ps u))
    → concerns t Nothing u (next_posts_of ps u) ≡ false
    → chance_of c.as_mut_slice-2.result.now u ≡ chance f.store (next_posts_of ps) u in
    let K : List (Option Post) → Type 0 = λ ps. AreKnownChances f.store ps f.stale known in
    let looked = subst K c.as_slice.ensures.value (c.look_again.ensures.chances f.stale
    (λ m e. absurd cc) (subst Q (sym c.as_slice.ensures.value) (λ u within fresh none.
    ap (λ cs. chance_of cs u) c.as_mut_slice-2.ensures.value
    ∙ others-kept f.store posts stands was f.stale board f.store t post Nothing f.stale refl
    (λ ended v ask apart no. refl) (λ m e. e) u within fresh none))) in
    let R : BoardState → Type 0 = λ b. PostIsInRange (sizes_of b.store) (c.args.post).ask in
    let range = subst R (sym c.self.view_is) c.requires.in_range in
    let after = c.note_joined.new.joined in
    let one : (v : ℕ) → joins_ask v (ask_of_post post) ≡ true → get_or after v false ≡ true =
    λ v joins.
    let within = joined-within (sizes_of f.store) v (c.args.post).ask range joins in
    c.note_joined.ensures.noted v (omega (arith, within, board.few)) joins in
    let stand = c.standing_of.result in
    let is = c.standing_of.ensures in
    let kept = c.note_joined.ensures.kept in
    let same : length f.posts.items ≡ length c.args.self.now.posts =
    ap (λ (b : BoardState). length b.posts) c.self.view_is in
    let L : List ℕ → Type 0 = AreLockers (set posts t post) in
    let A : List ℕ → Type 0 = AreLockers posts in
    let are = subst A (sym c.as_mut_slice.ensures.value) c.self.invariant.locking in
    let away : next_posts_of posts t ≡ None =
    ap (λ (b : BoardState). next_posts_of b.posts t) c.self.view_is ∙ c.requires.away in
    let there : t < length posts = omega (arith, c.requires.thread, same) in
    let many = c.add_locker.ensures.many ∙ ap length c.as_mut_slice.ensures.value in
    let B : List Chance → Type 0 =
    λ cs. IsBoard f.store (set posts t post) (set stands t stand) cs f.stale in
    let taken = front-taken _ _ _ (f.lockers.ok.0 ∙ sym many) in
    record {
      board = subst B (sym front) (board-set f.store posts stands was f.stale board f.store t post
          stand f.stale known refl range is many_known looked);
      noted = noted-set posts f.joined after t post c.self.invariant.noted kept one;
      waiting = waiters-post f.store.threads posts f.waiters c.with_waiter-self-inside.result t post
          (omega (arith, c.requires.thread, board.threads, same)) board.threads
          c.self.invariant.waiting
          c.with_waiter-self-inside.ensures.this c.with_waiter-self-inside.ensures.unlocking
          c.with_waiter-self-inside.ensures.others;
      mutexes = ap length taken ∙ many ∙ c.self.invariant.mutexes;
      few_mutexes = omega (arith, ap length taken, many, c.self.invariant.few_mutexes);
      locking = subst L (sym taken)
          (c.add_locker.ensures.lockers posts post are there away refl);
    }

pub with_waiter-self-inside-requires : goal.with_waiter-self-inside-requires
with_waiter-self-inside-requires c =
    let board = c.self.invariant.board in
    let long : length c.self.inside.posts.items ≡ length c.args.self.now.posts =
    ap (λ (b : BoardState). length b.posts) c.self.view_is in
    omega (arith, c.requires.thread, board.threads, board.few)

pub look_again-requires-clause-waiters : goal.look_again-requires-clause-waiters
look_again-requires-clause-waiters c =
    let f = c.self.inside in
    let posts = f.posts.items in
    let t : ℕ = c.args.thread in
    let post : Option Post = Some c.args.post in
    let board = c.self.invariant.board in
    let same : length f.posts.items ≡ length c.args.self.now.posts =
    ap (λ (b : BoardState). length b.posts) c.self.view_is in
    let P : List (Option Post) → Type 0 =
    λ ps. AreWaiters f.store.threads ps c.with_waiter-self-inside.result in
    subst P (sym c.as_slice.ensures.value)
    (waiters-post f.store.threads posts f.waiters c.with_waiter-self-inside.result t post
    (omega (arith, c.requires.thread, board.threads, same)) board.threads c.self.invariant.waiting
    c.with_waiter-self-inside.ensures.this c.with_waiter-self-inside.ensures.unlocking
    c.with_waiter-self-inside.ensures.others)

pub returns-clause-alone : goal.returns-clause-alone
returns-clause-alone c = λ alone.
    let f = c.self.inside in
    let posts = f.posts.items in
    let t : ℕ = c.args.thread in
    let post : Option Post = Some c.args.post in
    let board = c.self.invariant.board in
    let after = c.note_joined.new.joined in
    let kept = c.note_joined.ensures.kept in
    let R : BoardState → Type 0 = λ b. PostIsInRange (sizes_of b.store) (c.args.post).ask in
    let range = subst R (sym c.self.view_is) c.requires.in_range in
    let one : (v : ℕ) → joins_ask v (ask_of_post post) ≡ true → get_or after v false ≡ true =
    λ v joins.
    let within = joined-within (sizes_of f.store) v (c.args.post).ask range joins in
    c.note_joined.ensures.noted v (omega (arith, within, board.few)) joins in
    let noted = noted-set posts f.joined after t post c.self.invariant.noted kept one in
    let P : BoardState → Type 0 = λ b. SameOthers t (chances_on b)
    (chances f.store.threads f.store (next_posts_of (set posts t post))) in
    subst P c.self.view_is (post-alone f.store posts t post
    (λ u. not-noted (set posts t post) after t noted (not-so (get_or after t false) alone) u))

pub returns-clause-ready : goal.returns-clause-ready
returns-clause-ready c = λ says.
    let f = c.self.inside in
    let t : ℕ = c.args.thread in
    let post : Option Post = Some c.args.post in
    let next = next_posts_of (set f.posts.items t post) in
    let board = c.self.invariant.board in
    let known = c.look_again.new.known in
    let same : length f.posts.items ≡ length c.args.self.now.posts =
    ap (λ (b : BoardState). length b.posts) c.self.view_is in
    let there : t < f.store.threads = omega (arith, c.requires.thread, board.threads, same) in
    let many_known = c.look_again.ensures.many ∙ ap length c.as_mut_slice-2.ensures.value in
    let all : List Chance =
    take f.chances.len (known ++ drop (length known) f.chances.items) in
    let front : all ≡ known = front-taken _ _ _ (f.chances.ok.0 ∙ sym many_known) in
    let inside : t < length all = omega
    (arith, there, ap length front, many_known, board.as_many) in
    let read = get_or_read all t c.index.result.now inside c.index.ensures Ended in
    let own = c.look_again.ensures.own
    ∙ ap (λ ps. chance f.store (next_posts_of ps) t) c.as_slice.ensures.value in
    chance-at f.store.threads f.store next t there ∙ sym own ∙ sym (ap (λ cs. chance_of cs t) front)
    ∙ sym read ∙ c.is_ready.ensures says

pub returns-clause-targets : goal.returns-clause-targets
returns-clause-targets c =
    let f = c.self.inside in
    let posts = set f.posts.items c.args.thread (Some c.args.post) in
    let b = (invariant_of-self c).board in
    targets-away f.store posts b.threads b.in_range
    (chances f.store.threads f.store (next_posts_of posts)) refl
