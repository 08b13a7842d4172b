use Rattle.std.proofs.Common.{◌≡◌, ◌<◌, ℕ, true, eqb, Option, Some, None, List, [], ◌∷◌, ◌++◌}
use Rattle.std.proofs.Common.{length}
use Rattle.std.proofs.Common.{refl, sym, ap, subst, ◌∙◌, arith, rules, vec_capacity, w64, to_z}
use Rattle.std.proofs.Common.{of_z}
use Rattle.std.specs.Prelude.{IfSome, is_some}
use Rattle.std.proofs.lemmas.Int.{to_z-of_z}
use Rattle.std.proofs.lemmas.List.{get_or-set_same, map-append}
use Rattle.pct_ask.specs.Objects.{Sizes}
use Rattle.pct_ask.specs.declared.event.Event.{Event}
use Rattle.pct_ask.specs.declared.verdict.Outcome.{Outcome}
use Rattle.policy_pick.specs.declared.chance.Chance.{Chance}
use Rattle.policy_pick.specs.declared.chance.Pick.TheVariants.{Thread, Waits}
use Rattle.policy_pick.specs.Plan.{Plan, GoesByRank}
use Rattle.policy_pick.specs.Choice.{choice}
use Rattle.turn_book.specs.Obeys.{outcome_by}
use Rattle.turn_book.specs.Posts.{schedule_of}
use Rattle.turn_book.specs.Told.{BookState, IsAnswered, IsLawful, IsPosted, choice_of, standing_of}
use Rattle.turn_book.specs.Board.{BoardState, HadTurn, chances_on, next_posts_of, posted_on}
use Rattle.turn_book.specs.Kept.{posts_by, book_of_parts, IsKept}
use Rattle.turn_book.proofs.Books.{away-none, choice-next, choice-told, kept-step, lawful-told}
use Rattle.turn_book.proofs.Books.{next-told, pick_now, posts-after, posts-same, standing-told}
use Rattle.turn_book.proofs.Books.{threads-store}
use Rattle.turn_book.proofs.Between.{kept-between}
use Rattle.turn_book.proofs.Turning.{step-known}
use Rattle.turn_book.proofs.book.TurnBook.post_and_take.Goals as goal

pub returns-then-not-waits_by_rank-clause-lawful : goal.returns-then-not-waits_by_rank-clause-lawful
returns-then-not-waits_by_rank-clause-lawful g c =
    let f = c.self.inside in
    let P : BookState → Type 0 = IsLawful in
    subst P c.self.view_is (lawful-told f.deal f.limit (g.P.Policy.plan f.policy) f.board
    f.trace.items f.next f.outcome (vec_capacity f.trace) c.self.invariant.0)

pub post_and_step-requires-clause-away : goal.post_and_step-requires-clause-away
post_and_step-requires-clause-away g c =
    let f = c.self.inside in
    away-none (next_posts_of (f.board).posts c.args.thread)
    (sym (standing-told f.deal f.limit (g.P.Policy.plan f.policy) f.board f.trace.items f.next
    f.outcome (vec_capacity f.trace) c.self.invariant.0 c.args.thread)
    ∙ ap (λ (b : BookState). standing_of b c.args.thread) c.self.view_is ∙ c.requires.away)

pub returns-in_err-event-clause-lawful : goal.returns-in_err-event-clause-lawful
returns-in_err-event-clause-lawful g c =
    let f = c.self.inside in
    let plan = g.P.Policy.plan f.policy in
    let none = c.post_and_step.ensures.none (ap is_some c.in_err-event.was) in
    let L : BoardState × Option Outcome → Type 0 = λ x.
    IsLawful (book_of_parts f.deal f.limit plan (x.0).posts f.trace.items x.1) in
    subst L (λ i. (sym none.0 i, sym none.1 i)) (lawful-told f.deal f.limit plan f.board
    f.trace.items f.next f.outcome (vec_capacity f.trace) c.self.invariant.0)

pub invariant_of-self-2 : goal.invariant_of-self-2
invariant_of-self-2 g c =
    let f = c.self.inside in
    let t : ℕ = c.args.thread in
    let post = c.args.post in
    let plan = g.P.Policy.plan f.policy in
    let kept = c.self.invariant.0 in
    let says = c.waits_by_rank.ensures c.if-not-waits_by_rank.false in
    let running : f.outcome ≡ None = ap (λ (b : BookState). b.outcome) c.self.view_is ∙ says.0 in
    let waits : f.next ≡ Waits t = let both : Some f.next ≡ Some (Waits t) =
    sym (choice-next f.deal f.limit plan f.board f.trace.items f.next f.outcome
    (vec_capacity f.trace) kept running) ∙ ap choice_of c.self.view_is ∙ says.1 in cc in
    let G : BookState → Type 0 = λ b. GoesByRank b.plan in
    let by : GoesByRank plan = subst G (sym c.self.view_is) says.2 in
    let short : length f.trace.items < f.limit = omega (
      arith,
      says.3,
      ap (λ (b : BookState). length b.trace) c.self.view_is,
      ap (λ (b : BookState). b.limit) c.self.view_is,
    ) in
    let within : t < (f.deal).threads =
    omega (arith, c.requires.thread, ap (λ (b : BookState). (b.deal).threads) c.self.view_is) in
    let away : next_posts_of (f.board).posts t ≡ None =
    away-none (next_posts_of (f.board).posts t)
    (sym (standing-told f.deal f.limit plan f.board f.trace.items f.next f.outcome
    (vec_capacity f.trace) kept t)
    ∙ ap (λ (b : BookState). standing_of b t) c.self.view_is ∙ c.requires.away) in
    let event = c.in_ok-event.event in
    let opened : ℕ = c.in_ok-event.opened in
    let ends = c.in_ok-event.ensures.steps.0 in
    let both = c.in_ok-event.ensures.steps.1 in
    let taken = both.step in
    let after = c.post_and_step.new.self in
    let between = posted_on f.board t post in
    let posted = kept-between f.deal f.limit plan f.board f.trace.items f.next f.outcome
    (vec_capacity f.trace) kept running t post event ends after both within away waits by short in
    let turn : pick_now plan f.deal between f.trace.items ≡ Thread t = sym (posted.pick refl) in
    let now = g.P.Policy.plan c.took_and_kept-kept.new.self in
    let same : now ≡ plan = c.took_and_kept-kept.ensures.plan in
    let K : Plan → Type 0 = λ p.
    IsKept f.deal f.limit p between f.trace.items (Thread t) None (vec_capacity f.trace) in
    let trace = c.push_reserved.new.self in
    let items = c.push_reserved.ensures.items in
    let before = schedule_of f.trace.items in
    let Stands : List ℕ → Type 0 = g.P.Policy.stands c.took_and_kept-kept.new.self in
    let threads : schedule_of (f.trace.items ++ event ∷ []) ≡ before ++ t ∷ [] =
    map-append (λ (e : Event). e.thread) f.trace.items (event ∷ [])
    ∙ ap (λ u. before ++ u ∷ []) taken.thread in
    let took = c.took_and_kept-kept.ensures.stands before c.self.invariant.1 in
    let stands = subst Stands (sym threads) took in
    let sizes = c.in_ok-event.ensures.sizes in
    let many : (after.store).threads ≡ (f.deal).threads =
    ap (λ (s : Sizes). s.threads) sizes
    ∙ threads-store f.deal f.limit plan f.board f.trace.items f.next f.outcome
    (vec_capacity f.trace) kept in
    let none : next_posts_of after.posts t ≡ None =
    ap (λ ps. next_posts_of ps t) taken.posts
    ∙ get_or-set_same between.posts t None None (omega (arith, posted.threads, within)) in
    let found = c.after_step-known.result in
    let R : Plan × List ℕ → Type 0 = λ x.
    IfSome found (λ pick. pick ≡ choice x.0 x.1 (chances_on after)) in
    let S : Plan → Type 0 = λ p. (later : List Chance) → (c.took_and_kept-kept.result ≡ true
    → HadTurn p (before ++ t ∷ []) t opened later)
    → IfSome found (λ pick. pick ≡ choice p (before ++ t ∷ []) later) in
    let known = subst S same
    (λ later. c.after_step-known.ensures (before ++ t ∷ []) later took) in
    let right = subst R (λ i. (sym same i, sym threads i))
    (step-known f.deal f.limit plan between f.trace.items (Thread t) None (vec_capacity f.trace)
    posted refl t opened c.took_and_kept-kept.result after found turn many within none
    (λ yes. c.took_and_kept-kept.ensures.same yes before c.self.invariant.1)
    c.in_ok-event.ensures.opens known) in
    let goes_on = kept-step f.deal f.limit now between f.trace.items (Thread t) None
    (vec_capacity f.trace) (subst K (sym same) posted) refl t event ends after
    (ap (λ p. pick_now p f.deal between f.trace.items) same ∙ turn) taken
    (eqb c.len.result f.limit) c.settle-self-inside.result c.settle-self-inside.new.outcome sizes
    (ap (λ n. eqb n f.limit) (c.len.ensures ∙ trace.ok.0 ∙ ap length items))
    (c.settle-self-inside.ensures.pick (schedule_of (f.trace.items ++ event ∷ [])) stands right)
    (c.settle-self-inside.ensures.outcome ends
    (c.in_ok-event.ensures.steps.2 ∙ ap (outcome_by ends) running)) in
    let final = c.settle-self-inside.new.board in
    let B : BoardState → Type 0 = λ b. IsKept f.deal f.limit now b (f.trace.items ++ event ∷ [])
    c.settle-self-inside.result c.settle-self-inside.new.outcome (vec_capacity f.trace) in
    let Q : List Event → Type 0 = λ es.
    IsKept f.deal f.limit now final es c.settle-self-inside.result
    c.settle-self-inside.new.outcome (vec_capacity f.trace) in
    let C : ℕ → Type 0 = λ n. IsKept f.deal f.limit now final trace.items
    c.settle-self-inside.result c.settle-self-inside.new.outcome n in
    let room : vec_capacity trace ≡ vec_capacity f.trace = c.push_reserved.ensures.capacity in (
      subst C (sym room) (subst Q (sym items)
          (subst B (sym c.settle-self-inside.ensures.same) goes_on)),
      subst Stands (sym (ap schedule_of items)) stands,
    )

pub returns-clause-answer : goal.returns-clause-answer
returns-clause-answer g c =
    let f = c.self.inside in
    let t : ℕ = c.args.thread in
    let post = c.args.post in
    let plan = g.P.Policy.plan f.policy in
    let kept = c.self.invariant.0 in
    let says = c.waits_by_rank.ensures c.if-not-waits_by_rank.false in
    let running : f.outcome ≡ None = ap (λ (b : BookState). b.outcome) c.self.view_is ∙ says.0 in
    let waits : f.next ≡ Waits t = let both : Some f.next ≡ Some (Waits t) =
    sym (choice-next f.deal f.limit plan f.board f.trace.items f.next f.outcome
    (vec_capacity f.trace) kept running) ∙ ap choice_of c.self.view_is ∙ says.1 in cc in
    let G : BookState → Type 0 = λ b. GoesByRank b.plan in
    let by : GoesByRank plan = subst G (sym c.self.view_is) says.2 in
    let short : length f.trace.items < f.limit = omega (
      arith,
      says.3,
      ap (λ (b : BookState). length b.trace) c.self.view_is,
      ap (λ (b : BookState). b.limit) c.self.view_is,
    ) in
    let within : t < (f.deal).threads =
    omega (arith, c.requires.thread, ap (λ (b : BookState). (b.deal).threads) c.self.view_is) in
    let away : next_posts_of (f.board).posts t ≡ None =
    away-none (next_posts_of (f.board).posts t)
    (sym (standing-told f.deal f.limit plan f.board f.trace.items f.next f.outcome
    (vec_capacity f.trace) kept t)
    ∙ ap (λ (b : BookState). standing_of b t) c.self.view_is ∙ c.requires.away) in
    let event = c.in_ok-event.event in
    let opened : ℕ = c.in_ok-event.opened in
    let ends = c.in_ok-event.ensures.steps.0 in
    let both = c.in_ok-event.ensures.steps.1 in
    let taken = both.step in
    let after = c.post_and_step.new.self in
    let between = posted_on f.board t post in
    let posted = kept-between f.deal f.limit plan f.board f.trace.items f.next f.outcome
    (vec_capacity f.trace) kept running t post event ends after both within away waits by short in
    let turn : pick_now plan f.deal between f.trace.items ≡ Thread t = sym (posted.pick refl) in
    let items = c.push_reserved.ensures.items in
    let book = book_of_parts f.deal f.limit plan between.posts f.trace.items None in
    let A : BoardState → Type 0 = λ b. IsAnswered book t (to_z w64 (of_z w64 event.answer))
    (book_of_parts f.deal f.limit (g.P.Policy.plan c.took_and_kept-kept.new.self) b.posts
    c.push_reserved.new.self.items c.settle-self-inside.new.outcome) in
    let P : BookState → Type 0 = λ b. IsPosted b t post book in (
      says.0,
      (
        book,
        subst P c.self.view_is (record {
          making = record { deal = refl; limit = refl; plan = refl };
          trace = refl;
          posts = posts-after f.deal f.limit plan f.board f.trace.items f.next f.outcome
              (vec_capacity f.trace) kept running t post between within away refl refl;
        }),
        refl,
        choice-told f.deal f.limit plan between f.trace.items (Thread t) None
            (vec_capacity f.trace) posted ∙ ap Some turn,
        subst A (sym c.settle-self-inside.ensures.same) (record {
          event = event;
          making = record { deal = refl; limit = refl; plan = c.took_and_kept-kept.ensures.plan };
          trace = items;
          posts =
              ap (λ es. posts_by es after.posts) items
              ∙ posts-same f.deal f.limit plan between f.trace.items (Thread t) None
              (vec_capacity f.trace) posted refl t event ends after turn taken;
          thread = taken.thread;
          answer = sym (to_z-of_z w64 event.answer (search rules));
          asked =
              next-told f.deal f.limit plan between f.trace.items (Thread t) None
              (vec_capacity f.trace) posted t ∙ taken.asked;
        }),
      ),
    )

pub returns-clause-lawful : goal.returns-clause-lawful
returns-clause-lawful g c =
    let f = c.self.inside in
    lawful-told f.deal f.limit (g.P.Policy.plan c.took_and_kept-kept.new.self)
    c.settle-self-inside.new.board c.push_reserved.new.self.items c.settle-self-inside.result
    c.settle-self-inside.new.outcome (vec_capacity c.push_reserved.new.self)
    (invariant_of-self-2 g c).0
