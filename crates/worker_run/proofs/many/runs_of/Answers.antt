use Rattle.std.proofs.Common.{◌≡◌, ◌<◌, ◌++◌, ◌∷◌, [], ℕ, List, length, sym, ap, subst, ◌∙◌}
use Rattle.std.proofs.Common.{append_assoc, arith}
use Rattle.std.specs.Prelude.{slice_get}
use Rattle.std.specs.Vec.Iter.{into_iter_items}
use Rattle.std.proofs.lemmas.List.{length-append}
use Rattle.std.proofs.lemmas.Option.{slice_get_within}
use Rattle.worker_run.specs.Tests.{bodies_in, IsRunOf}
use Rattle.worker_run.specs.declared.played.Played.{Played}
use Rattle.worker_run.proofs.Eachs.{get-middle, get-within}
use Rattle.worker_run.proofs.Loops.{Along, along-more}
use Rattle.worker_run.proofs.Finals.{ends-all, ends-played, ends-run}
use Rattle.worker_run.proofs.many.runs_of.Goals as goal

pub finish-requires-clause-of : goal.finish-requires-clause-of
finish-requires-clause-of g c = λ κs lives.
    let at = c.loop-lock in
    let i = at.invariant in
    let lock = c.in-Some.lock in
    let share = c.in-Some-next.share in
    let steps : into_iter_items at.lock-iterator ≡ lock ∷ into_iter_items c.next.new.self =
    c.in-Some.ensures.steps.0 in
    let whole = ap (λ l. at.yielded ++ l) (sym steps) ∙ i.locks
    ∙ c.into_iter-lock-iterator.ensures.into_iter_gives.0 in
    let at_lock = ap (λ l. slice_get l (length at.yielded)) (sym whole)
    ∙ get-middle at.yielded lock (into_iter_items c.next.new.self) in
    let csteps : into_iter_items at.others ≡ share ∷ into_iter_items c.next-in-loop-lock.new.self =
    c.in-Some-next.ensures.items in
    let cwhole = ap (λ l. i.shares.0 ++ l) (sym csteps) ∙ i.shares.1 in
    let at_share = ap (λ n. slice_get c.args.shares.items n) (sym i.shares.2)
    ∙ ap (λ l. slice_get l (length i.shares.0)) (sym cwhole)
    ∙ get-middle i.shares.0 share (into_iter_items c.next-in-loop-lock.new.self) in
    (c.requires.seats.each (length at.yielded) lock share at_lock at_share).of

pub finish-requires-clause-all : goal.finish-requires-clause-all
finish-requires-clause-all g c = λ κs lives.
    let at = c.loop-lock in
    let i = at.invariant in
    let k = length at.yielded in
    let lock = c.in-Some.lock in
    let share = c.in-Some-next.share in
    let steps : into_iter_items at.lock-iterator ≡ lock ∷ into_iter_items c.next.new.self =
    c.in-Some.ensures.steps.0 in
    let whole = ap (λ l. at.yielded ++ l) (sym steps) ∙ i.locks
    ∙ c.into_iter-lock-iterator.ensures.into_iter_gives.0 in
    let at_lock = ap (λ l. slice_get l k) (sym whole)
    ∙ get-middle at.yielded lock (into_iter_items c.next.new.self) in
    let csteps : into_iter_items at.others ≡ share ∷ into_iter_items c.next-in-loop-lock.new.self =
    c.in-Some-next.ensures.items in
    let cwhole = ap (λ l. i.shares.0 ++ l) (sym csteps) ∙ i.shares.1 in
    let at_share = ap (λ n. slice_get c.args.shares.items n) (sym i.shares.2)
    ∙ ap (λ l. slice_get l (length i.shares.0)) (sym cwhole)
    ∙ get-middle i.shares.0 share (into_iter_items c.next-in-loop-lock.new.self) in
    let found = get-within c.args.tests.value.items k
    (let under = slice_get_within c.args.locks.items k lock at_lock in
    omega (arith, under, c.requires.locks.long)) in
    let seat = c.requires.seats.each k lock share at_lock at_share in
    ends-all g.B.Body.pending g.P.Policy.plan g.P.Policy.stands found.0
    (c.requires.tests k found.0 found.1) lock share
    (c.requires.locks.each k found.0 lock found.1 at_lock) seat
    (λ t below. c.requires.told k t found.0 share found.1 at_share below)

pub finish-requires-clause-played : goal.finish-requires-clause-played
finish-requires-clause-played g c = λ κs lives.
    let at = c.loop-lock in
    let i = at.invariant in
    let k = length at.yielded in
    let lock = c.in-Some.lock in
    let share = c.in-Some-next.share in
    let steps : into_iter_items at.lock-iterator ≡ lock ∷ into_iter_items c.next.new.self =
    c.in-Some.ensures.steps.0 in
    let whole = ap (λ l. at.yielded ++ l) (sym steps) ∙ i.locks
    ∙ c.into_iter-lock-iterator.ensures.into_iter_gives.0 in
    let at_lock = ap (λ l. slice_get l k) (sym whole)
    ∙ get-middle at.yielded lock (into_iter_items c.next.new.self) in
    let csteps : into_iter_items at.others ≡ share ∷ into_iter_items c.next-in-loop-lock.new.self =
    c.in-Some-next.ensures.items in
    let cwhole = ap (λ l. i.shares.0 ++ l) (sym csteps) ∙ i.shares.1 in
    let at_share = ap (λ n. slice_get c.args.shares.items n) (sym i.shares.2)
    ∙ ap (λ l. slice_get l (length i.shares.0)) (sym cwhole)
    ∙ get-middle i.shares.0 share (into_iter_items c.next-in-loop-lock.new.self) in
    let found = get-within c.args.tests.value.items k
    (let under = slice_get_within c.args.locks.items k lock at_lock in
    omega (arith, under, c.requires.locks.long)) in
    let seat = c.requires.seats.each k lock share at_lock at_share in (
      bodies_in g.B.Body.pending g.P.Policy.plan found.0,
      ends-played g.B.Body.pending g.P.Policy.plan g.P.Policy.stands found.0
          (c.requires.tests k found.0 found.1) lock share
          (c.requires.locks.each k found.0 lock found.1 at_lock) seat
          (λ t below. c.requires.told k t found.0 share found.1 at_share below),
    )

pub loop-lock-preserved : goal.loop-lock-preserved
loop-lock-preserved g c =
    let f = g.B.Body.pending in
    let plan = g.P.Policy.plan in
    let at = c.loop-lock in
    let i = at.invariant in
    let k = length at.yielded in
    let lock = c.in-Some.lock in
    let share = c.in-Some-next.share in
    let rest = into_iter_items c.next.new.self in
    let others = into_iter_items c.next-in-loop-lock.new.self in
    let steps : into_iter_items at.lock-iterator ≡ lock ∷ rest = c.in-Some.ensures.steps.0 in
    let whole = ap (λ l. at.yielded ++ l) (sym steps) ∙ i.locks
    ∙ c.into_iter-lock-iterator.ensures.into_iter_gives.0 in
    let at_lock = ap (λ l. slice_get l k) (sym whole) ∙ get-middle at.yielded lock rest in
    let csteps : into_iter_items at.others ≡ share ∷ others = c.in-Some-next.ensures.items in
    let cwhole = ap (λ l. i.shares.0 ++ l) (sym csteps) ∙ i.shares.1 in
    let at_share = ap (λ n. slice_get c.args.shares.items n) (sym i.shares.2)
    ∙ ap (λ l. slice_get l (length i.shares.0)) (sym cwhole)
    ∙ get-middle i.shares.0 share others in
    let tests = c.args.tests.value.items in
    let found =
    get-within tests k (let under = slice_get_within c.args.locks.items k lock at_lock in
    omega (arith, under, c.requires.locks.long)) in
    let test = found.0 in
    let seat = c.requires.seats.each k lock share at_lock at_share in
    let asked = c.requires.tests k test found.1 in
    let is = c.requires.locks.each k test lock found.1 at_lock in
    let told : (t : ℕ) → t < test.deal.threads → _ =
    λ t below. c.requires.told k t test share found.1 at_share below in
    let played = ends-played f plan g.P.Policy.stands test asked lock share is seat told in
    let run = ends-run f plan g.P.Policy.stands test asked lock share is seat told c.finish.result
    (c.finish.ensures (bodies_in f plan test) played) in
    let runs = at.runs.items in
    let long : k ≡ length runs = omega (arith, i.long, at.runs.ok.0) in
    let R : List Played → Type 0 = λ l. Along (IsRunOf f plan) tests l in
    record {
      locks = append_assoc at.yielded (lock ∷ []) rest ∙ ap (λ l. at.yielded ++ l) (sym steps)
          ∙ i.locks;
      left =
          (let was = i.left in let gone = c.in-Some.ensures.steps.1 in
          let short = ap length steps in omega arith);
      shares = (
        i.shares.0 ++ share ∷ [],
        append_assoc i.shares.0 (share ∷ []) others ∙ cwhole,
        omega (
          arith,
          i.shares.2,
          length-append i.shares.0 (share ∷ []),
          length-append at.yielded (lock ∷ []),
        ),
      );
      long = omega (
        arith,
        c.push_reserved.ensures.len,
        i.long,
        length-append at.yielded (lock ∷ []),
      );
      room = c.push_reserved.ensures.capacity ∙ i.room;
      runs =
          subst R (sym c.push_reserved.ensures.items)
          (along-more (IsRunOf f plan) tests runs test c.finish.result
          (ap (λ n. slice_get tests n) (sym long) ∙ found.1) run i.runs);
    }
