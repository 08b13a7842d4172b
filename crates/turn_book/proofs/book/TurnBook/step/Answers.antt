use Rattle.std.proofs.Common.{◌≡◌, ℕ, true, eqb, Some, None, List, [], ◌∷◌, ◌++◌, length, refl, sym}
use Rattle.std.proofs.Common.{ap}
use Rattle.std.proofs.Common.{subst, ◌∙◌, arith, rules}
use Rattle.std.proofs.Common.{vec_capacity}
use Rattle.pct_ask.specs.declared.event.Event.{Event}
use Rattle.turn_book.specs.Told.{BookState, choice_of, IsAnswered}
use Rattle.turn_book.proofs.Books.{lawful-told}
use Rattle.std.proofs.Common.{w64, to_z, of_z}
use Rattle.std.proofs.lemmas.Int.{to_z-of_z}
use Rattle.std.proofs.lemmas.List.{map-append}
use Rattle.policy_pick.specs.Plan.{Plan}
use Rattle.policy_pick.specs.declared.chance.Pick.TheVariants.{Thread}
use Rattle.turn_book.specs.Obeys.{outcome_by}
use Rattle.turn_book.specs.Posts.{schedule_of}
use Rattle.turn_book.specs.Kept.{posts_by, book_of_parts, IsKept}
use Rattle.turn_book.proofs.Books.{choice-told, next-told, pick_now, turn-ready, kept-step}
use Rattle.turn_book.proofs.Books.{posts-same, threads-store}
use Rattle.turn_book.proofs.Turning.{step-known}
use Rattle.std.specs.Prelude.{IfSome}
use Rattle.std.proofs.lemmas.List.{get_or-set_same}
use Rattle.pct_ask.specs.Objects.{Sizes}
use Rattle.policy_pick.specs.Choice.{choice}
use Rattle.policy_pick.specs.declared.chance.Chance.{Chance}
use Rattle.turn_book.specs.Board.{BoardState, HadTurn, chances_on, next_posts_of}
use Rattle.turn_book.proofs.book.TurnBook.step.Goals as goal

pub step-opened-requires-clause-thread : goal.step-opened-requires-clause-thread
step-opened-requires-clause-thread g c =
    let f = c.self.inside in
    let kept = c.self.invariant.0 in
    let running : f.outcome ≡ None = ap (λ (b : BookState). b.outcome) c.self.view_is
    ∙ c.requires.running in
    let turn : pick_now (g.P.Policy.plan f.policy) f.deal f.board f.trace.items
    ≡ Thread c.args.thread = let both : Some
    (pick_now (g.P.Policy.plan f.policy) f.deal f.board f.trace.items)
    ≡ Some (Thread c.args.thread) = sym
    (choice-told f.deal f.limit (g.P.Policy.plan f.policy) f.board f.trace.items f.next
    f.outcome (vec_capacity f.trace) kept) ∙ ap choice_of c.self.view_is ∙ c.requires.turn in
    cc in
    omega (
      arith,
      kept.threads,
      (turn-ready f.deal f.limit (g.P.Policy.plan f.policy) f.board
          f.trace.items f.next f.outcome (vec_capacity f.trace) kept running c.args.thread turn).0,
    )

pub step-opened-requires-clause-ready : goal.step-opened-requires-clause-ready
step-opened-requires-clause-ready g c =
    let f = c.self.inside in
    let kept = c.self.invariant.0 in
    let running : f.outcome ≡ None = ap (λ (b : BookState). b.outcome) c.self.view_is
    ∙ c.requires.running in
    let turn : pick_now (g.P.Policy.plan f.policy) f.deal f.board f.trace.items
    ≡ Thread c.args.thread = let both : Some
    (pick_now (g.P.Policy.plan f.policy) f.deal f.board f.trace.items)
    ≡ Some (Thread c.args.thread) = sym
    (choice-told f.deal f.limit (g.P.Policy.plan f.policy) f.board f.trace.items f.next
    f.outcome (vec_capacity f.trace) kept) ∙ ap choice_of c.self.view_is ∙ c.requires.turn in
    cc in
    (turn-ready f.deal f.limit (g.P.Policy.plan f.policy) f.board f.trace.items f.next f.outcome
    (vec_capacity f.trace) kept running c.args.thread turn).1

pub invariant_of-self : goal.invariant_of-self
invariant_of-self g c =
    let f = c.self.inside in
    let t = c.args.thread in
    let kept = c.self.invariant.0 in
    let running : f.outcome ≡ None = ap (λ (b : BookState). b.outcome) c.self.view_is
    ∙ c.requires.running in
    let turn : pick_now (g.P.Policy.plan f.policy) f.deal f.board f.trace.items ≡ Thread t =
    let both : Some (pick_now (g.P.Policy.plan f.policy) f.deal f.board f.trace.items)
    ≡ Some (Thread c.args.thread) = sym
    (choice-told f.deal f.limit (g.P.Policy.plan f.policy) f.board f.trace.items f.next
    f.outcome (vec_capacity f.trace) kept) ∙ ap choice_of c.self.view_is ∙ c.requires.turn in
    cc in
    let plan = g.P.Policy.plan c.took_and_kept-kept.new.self in
    let K : Plan → Type 0 = λ p. IsKept f.deal f.limit p f.board f.trace.items f.next f.outcome
    (vec_capacity f.trace) in
    let event = c.step-opened.result.0 in
    let after = c.step-opened.new.self in
    let taken = c.step-opened.ensures.step.1 in
    let trace = c.push_reserved.new.self in
    let items = c.push_reserved.ensures.items in
    let Stands : List ℕ → Type 0 = g.P.Policy.stands c.took_and_kept-kept.new.self in
    let threads : schedule_of (f.trace.items ++ event ∷ []) ≡ schedule_of f.trace.items ++ t ∷ [] =
    map-append (λ (e : Event). e.thread) f.trace.items (event ∷ [])
    ∙ ap (λ u. schedule_of f.trace.items ++ u ∷ []) taken.thread in
    let stands = subst Stands (sym threads)
    (c.took_and_kept-kept.ensures.stands (schedule_of f.trace.items) c.self.invariant.1) in
    let ready = turn-ready f.deal f.limit (g.P.Policy.plan f.policy) f.board f.trace.items f.next
    f.outcome (vec_capacity f.trace) kept running t turn in
    let many : (after.store).threads ≡ (f.deal).threads =
    ap (λ (s : Sizes). s.threads) c.step-opened.ensures.sizes
    ∙ threads-store f.deal f.limit (g.P.Policy.plan f.policy) f.board f.trace.items f.next f.outcome
    (vec_capacity f.trace) kept in
    let none : next_posts_of after.posts t ≡ None =
    ap (λ ps. next_posts_of ps t) taken.posts
    ∙ get_or-set_same (f.board).posts t None None (omega (arith, kept.threads, ready.0)) in
    let found = c.after_step-known.result in
    let opened : ℕ = c.step-opened.result.1 in
    let R : Plan × List ℕ → Type 0 = λ x.
    IfSome found (λ pick. pick ≡ choice x.0 x.1 (chances_on after)) in
    let says : (later : List Chance) → (c.took_and_kept-kept.result ≡ true
    → HadTurn (g.P.Policy.plan f.policy) (schedule_of f.trace.items ++ t ∷ []) t opened later)
    → IfSome found (λ pick. pick
    ≡ choice (g.P.Policy.plan f.policy) (schedule_of f.trace.items ++ t ∷ []) later) =
    let S : Plan → Type 0 = λ p. (later : List Chance) → (c.took_and_kept-kept.result ≡ true
    → HadTurn p (schedule_of f.trace.items ++ t ∷ []) t opened later)
    → IfSome found (λ pick. pick ≡ choice p (schedule_of f.trace.items ++ t ∷ []) later) in
    subst S c.took_and_kept-kept.ensures.plan
    (λ later. c.after_step-known.ensures (schedule_of f.trace.items ++ t ∷ []) later
    (c.took_and_kept-kept.ensures.stands (schedule_of f.trace.items) c.self.invariant.1)) in
    let right = subst R (λ i. (sym c.took_and_kept-kept.ensures.plan i, sym threads i))
    (step-known f.deal f.limit (g.P.Policy.plan f.policy) f.board f.trace.items f.next f.outcome
    (vec_capacity f.trace) kept running t opened c.took_and_kept-kept.result after
    found turn many ready.0 none
    (λ yes. c.took_and_kept-kept.ensures.same yes (schedule_of f.trace.items) c.self.invariant.1)
    c.step-opened.ensures.opens says) in
    let goes_on = kept-step f.deal f.limit plan f.board f.trace.items f.next f.outcome
    (vec_capacity f.trace) (subst K (sym c.took_and_kept-kept.ensures.plan) kept) running t event
    c.step-opened.ensures.step.0 after
    (ap (λ p. pick_now p f.deal f.board f.trace.items) c.took_and_kept-kept.ensures.plan ∙ turn)
    taken
    (eqb c.len.result f.limit) c.settle-self-inside.result c.settle-self-inside.new.outcome
    c.step-opened.ensures.sizes
    (ap (λ n. eqb n f.limit) (c.len.ensures ∙ trace.ok.0 ∙ ap length items))
    (c.settle-self-inside.ensures.pick (schedule_of (f.trace.items ++ event ∷ [])) stands
    right)
    (c.settle-self-inside.ensures.outcome c.step-opened.ensures.step.0
    (c.step-opened.ensures.step.2 ∙ ap (outcome_by c.step-opened.ensures.step.0) running)) in
    let final = c.settle-self-inside.new.board in
    let B : BoardState → Type 0 = λ b. IsKept f.deal f.limit plan b
    (f.trace.items ++ event ∷ []) c.settle-self-inside.result c.settle-self-inside.new.outcome
    (vec_capacity f.trace) in
    let Q : List Event → Type 0 = λ es.
    IsKept f.deal f.limit plan final es c.settle-self-inside.result
    c.settle-self-inside.new.outcome (vec_capacity f.trace) in
    let R : ℕ → Type 0 = λ n. IsKept f.deal f.limit plan final trace.items
    c.settle-self-inside.result c.settle-self-inside.new.outcome n in
    let room : vec_capacity trace ≡ vec_capacity f.trace = c.push_reserved.ensures.capacity in (
      subst R (sym room) (subst Q (sym items)
          (subst B (sym c.settle-self-inside.ensures.same) goes_on)),
      subst Stands (sym (ap schedule_of items)) stands,
    )

pub returns-clause-answered : goal.returns-clause-answered
returns-clause-answered g c =
    let f = c.self.inside in
    let t = c.args.thread in
    let kept = c.self.invariant.0 in
    let running : f.outcome ≡ None = ap (λ (b : BookState). b.outcome) c.self.view_is
    ∙ c.requires.running in
    let turn : pick_now (g.P.Policy.plan f.policy) f.deal f.board f.trace.items ≡ Thread t =
    let both : Some (pick_now (g.P.Policy.plan f.policy) f.deal f.board f.trace.items)
    ≡ Some (Thread c.args.thread) = sym
    (choice-told f.deal f.limit (g.P.Policy.plan f.policy) f.board f.trace.items f.next
    f.outcome (vec_capacity f.trace) kept) ∙ ap choice_of c.self.view_is ∙ c.requires.turn in
    cc in
    let event = c.step-opened.result.0 in
    let after = c.step-opened.new.self in
    let taken = c.step-opened.ensures.step.1 in
    let items = c.push_reserved.ensures.items in
    let P : BookState × BoardState → Type 0 = λ x.
    IsAnswered x.0 t (to_z w64 (of_z w64 event.answer))
    (book_of_parts f.deal f.limit (g.P.Policy.plan c.took_and_kept-kept.new.self) (x.1).posts
    c.push_reserved.new.self.items c.settle-self-inside.new.outcome) in
    subst P (λ i. (c.self.view_is i, sym c.settle-self-inside.ensures.same i)) (record {
      event = event;
      making = record { deal = refl; limit = refl; plan = c.took_and_kept-kept.ensures.plan };
      trace = items;
      posts =
          ap (λ es. posts_by es after.posts) items
          ∙ posts-same f.deal f.limit (g.P.Policy.plan f.policy) f.board f.trace.items f.next
          f.outcome (vec_capacity f.trace) kept running t event c.step-opened.ensures.step.0 after
          turn taken;
      thread = taken.thread;
      answer = sym (to_z-of_z w64 event.answer (search rules));
      asked =
          next-told f.deal f.limit (g.P.Policy.plan f.policy) f.board f.trace.items f.next f.outcome
          (vec_capacity f.trace) kept t ∙ taken.asked;
    })

pub returns-clause-lawful : goal.returns-clause-lawful
returns-clause-lawful g c =
    let f = c.self.inside in
    lawful-told f.deal f.limit (g.P.Policy.plan c.took_and_kept-kept.new.self)
    c.settle-self-inside.new.board
    c.push_reserved.new.self.items c.settle-self-inside.result c.settle-self-inside.new.outcome
    (vec_capacity c.push_reserved.new.self) (invariant_of-self g c).0
