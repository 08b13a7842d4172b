use Rattle.std.proofs.Common.{◌<◌, ℕ, List, map, sym, ap, subst, ◌∙◌, arith}
use Rattle.turn_book.specs.Told.{BookState}
use Rattle.turn_lock.specs.Seen.{posts_seen}
use Rattle.turn_lock.specs.Calls.{first_book}
use Rattle.turn_lock.specs.Views.{view}
use Rattle.pct_ask.specs.Bodies.{Pending}
use Rattle.worker_run.specs.Batch.{IsShareOf, NoneOutside, IsThreadTold}
use Rattle.worker_run.specs.Batches.{AreEmptyLists}
use Rattle.worker_run.proofs.Finals.{first-bodies, first-share-of}
use Rattle.worker_run.proofs.Ends.{each-alone, alone-first, alone-last, alone-long}
use Rattle.worker_run.proofs.SplitSeats.{IsJoin}
use Rattle.worker_run.proofs.ServedThreads.{joined-all, joined-played}
use Rattle.worker_run.proofs.lent.run_on.Goals as goal

pub serve_tests-played-requires-clause-shares : goal.serve_tests-played-requires-clause-shares
serve_tests-played-requires-clause-shares g c = λ κs lives.
    let f = g.B.Body.pending in
    let bodies = c.args.bodies.items in
    let few = (first_book c.args.lock.now).deal.few_threads in
    let count = c.requires.bodies in
    let whole = c.split_all-all.ensures.right in
    each-alone (IsShareOf f) _ _ _ _ _ _ c.in_ok-tests.ensures.items c.push_reserved.ensures.items
    c.in_ok-shares.ensures.items c.push_reserved-2.ensures.items
    (first-share-of f bodies _ _ (ap (λ v. v.items) c.of-first.ensures ∙ c.in_ok-runners.ensures)
    c.split_all-all.ensures.of.1 whole.unposted count c.requires.in_range c.in_ok-runners.ensures
    (λ t within. whole.serves t (omega (arith, c.len-threads.ensures, c.args.bodies.ok.0)))
    (λ t here. let below = whole.within t here in
    omega (arith, c.len-threads.ensures, c.args.bodies.ok.0)))

pub serve_tests-played-requires-clause-empty : goal.serve_tests-played-requires-clause-empty
serve_tests-played-requires-clause-empty g c = λ κs lives.
    let R : ℕ → Type 0 = λ n. AreEmptyLists n c.in_ok-lists.lists.items in
    let one = alone-long _ _ _ c.in_ok-tests.ensures.items c.push_reserved.ensures.items in
    subst R (sym one) c.in_ok-lists.ensures.empty

pub join-requires-clause-of : goal.join-requires-clause-of
join-requires-clause-of g c = λ κs lives.
    let p = c.serve_tests-played.ensures in
    let tests = alone-long _ _ _ c.in_ok-tests.ensures.items c.push_reserved.ensures.items in
    let at_test = alone-first _ _ _ c.in_ok-tests.ensures.items c.push_reserved.ensures.items in
    let at = alone-last c.serve_tests-played.result.items c.pop.new.self.items c.in-Some.share
    (p.seats.long ∙ tests) c.in-Some.ensures.items in
    (c.split_all-all.ensures.of.0, (p.seats.each 0 _ c.in-Some.share at_test at).of)

pub returns-clause-all : goal.returns-clause-all
returns-clause-all g c =
    let f = g.B.Body.pending in
    let bodies = c.args.bodies.items in
    let few = (first_book c.args.lock.now).deal.few_threads in
    let count = c.requires.bodies in
    let whole = c.split_all-all.ensures.right in
    let left = view c.split_all-all.new.seat in
    let mine = view c.in-Some.share.seat in
    let w = view c.join.new.seat in
    let p = c.serve_tests-played.ensures in
    let tests = alone-long _ _ _ c.in_ok-tests.ensures.items c.push_reserved.ensures.items in
    let at_test = alone-first _ _ _ c.in_ok-tests.ensures.items c.push_reserved.ensures.items in
    let at_share = alone-first _ _ _ c.in_ok-shares.ensures.items c.push_reserved-2.ensures.items in
    let at = alone-last c.serve_tests-played.result.items c.pop.new.self.items c.in-Some.share
    (p.seats.long ∙ tests) c.in-Some.ensures.items in
    let on = first-bodies f (record { lock = c.args.lock; runners = c.of-first.result }) bodies
    (ap (λ v. v.items) c.of-first.ensures ∙ c.in_ok-runners.ensures) in
    let T : List Pending → Type 0 = λ bs. (t : ℕ) → t < (first_book c.args.lock.now).deal.threads
    → IsThreadTold bs t mine in
    let told : T (map f bodies) = subst T on
    (λ t below. p.told 0 t
    (record {
      share = _;
      at = at_share;
      serves = whole.serves t (omega (arith, c.len-threads.ensures, c.args.bodies.ok.0));
    }) _
    c.in-Some.share at_test at) in
    let none : NoneOutside left.seen = λ t beyond. ap (λ (b : BookState). posts_seen b t)
    c.split_all-all.ensures.left ∙ c.requires.unposted.posts t in
    let j : IsJoin left mine w =
    record {
      is = c.join.ensures.view;
      seen = c.join.ensures.seen;
      own = c.join.ensures.own;
      theirs = c.join.ensures.theirs;
      obeys = c.join.ensures.obeys;
    } in
    joined-all (first_book c.args.lock.now) (map f bodies) left mine w c.join.ensures.of.1 none
    (p.seats.each 0 _ c.in-Some.share at_test at).outside j told

pub returns-clause-played : goal.returns-clause-played
returns-clause-played g c =
    let f = g.B.Body.pending in
    let bodies = c.args.bodies.items in
    let few = (first_book c.args.lock.now).deal.few_threads in
    let count = c.requires.bodies in
    let whole = c.split_all-all.ensures.right in
    let left = view c.split_all-all.new.seat in
    let mine = view c.in-Some.share.seat in
    let w = view c.join.new.seat in
    let p = c.serve_tests-played.ensures in
    let tests = alone-long _ _ _ c.in_ok-tests.ensures.items c.push_reserved.ensures.items in
    let at_test = alone-first _ _ _ c.in_ok-tests.ensures.items c.push_reserved.ensures.items in
    let at_share = alone-first _ _ _ c.in_ok-shares.ensures.items c.push_reserved-2.ensures.items in
    let at = alone-last c.serve_tests-played.result.items c.pop.new.self.items c.in-Some.share
    (p.seats.long ∙ tests) c.in-Some.ensures.items in
    let on = first-bodies f (record { lock = c.args.lock; runners = c.of-first.result }) bodies
    (ap (λ v. v.items) c.of-first.ensures ∙ c.in_ok-runners.ensures) in
    let T : List Pending → Type 0 = λ bs. (t : ℕ) → t < (first_book c.args.lock.now).deal.threads
    → IsThreadTold bs t mine in
    let told : T (map f bodies) = subst T on
    (λ t below. p.told 0 t
    (record {
      share = _;
      at = at_share;
      serves = whole.serves t (omega (arith, c.len-threads.ensures, c.args.bodies.ok.0));
    }) _
    c.in-Some.share at_test at) in
    let none : NoneOutside left.seen = λ t beyond. ap (λ (b : BookState). posts_seen b t)
    c.split_all-all.ensures.left ∙ c.requires.unposted.posts t in
    let j : IsJoin left mine w =
    record {
      is = c.join.ensures.view;
      seen = c.join.ensures.seen;
      own = c.join.ensures.own;
      theirs = c.join.ensures.theirs;
      obeys = c.join.ensures.obeys;
    } in
    joined-played (first_book c.args.lock.now) (map f bodies) left mine w c.join.ensures.of.1 none
    (p.seats.each 0 _ c.in-Some.share at_test at).outside j told
