use Rattle.std.proofs.Common.{◌≡◌, ◌+◌, ℕ, ℤ, List, None, Some, ◌∷◌, length, set, refl, sym, ap}
use Rattle.std.proofs.Common.{subst, ◌∙◌, arith, rules, w64, inl, inr}
use borrow.Author.Rules.{scaled_Fits}
use Rattle.std.proofs.lemmas.Bool.{cases_eq}
use Rattle.std.proofs.lemmas.Int.{to_z-of_z}
use Rattle.std.proofs.lemmas.List.{length-set}
use Rattle.turn_lock.specs.Seen.{owes_of}
use Rattle.turn_lock.specs.Turns.{TookTurn}
use Rattle.turn_lock.specs.Briefs.{brief}
use Rattle.turn_lock.specs.Rule.{first_view}
use Rattle.turn_lock.specs.declared.turn.Turn.{Turn}
use Rattle.turn_lock.specs.declared.turn.Turn.TheVariants.{Answer}
use Rattle.turn_lock.proofs.laws.Standings.{same-owes}
use Rattle.worker_run.specs.Served.{IsRunning}
use Rattle.worker_run.proofs.Running.{answer-asks, answer-counts, answer-running, answer-owes}
use Rattle.worker_run.proofs.Running.{other-running, moves-is, ended-told, answers-few, none-owed}
use Rattle.worker_run.proofs.BriefTurns.{answer-turn}
use Rattle.worker_run.proofs.Shares.{on-self, on-along, serves-back, moves-along, runner-within}
use Rattle.worker_run.proofs.Shares.{share-moved, share-served, index-read}
use Rattle.turn_lock.proofs.laws.SeenBooks.{making-self, making-along}
use Rattle.pct_ask.specs.declared.Deal.{Deal}
use Rattle.pct_ask.specs.Objects.{sizes_of_deal}
use Rattle.pct_ask.specs.Bodies.{IsInRangeBody}
use Rattle.worker_run.proofs.alone.take_turns_alone.Goals as goal

pub loop-init : goal.loop-init
loop-init g c = record {
  of = making-self c.args.book.now;
  share = λ start share. share;
  on = on-self (first_view c.args.book.now);
  long = refl;
  posted = c.requires.posted;
}

pub returns-in_default : goal.returns-in_default
returns-in_default g c =
    let first = first_view c.args.book.now in
    let v = first_view c.loop.book in
    let w = first_view c.turn_alone-thread.new.book in
    let t = c.turn_alone-thread.result.0 in
    let turn = c.turn_alone-thread.ensures.turn.turn in
    let mine = c.turn_alone-thread.ensures.serves in
    let took = c.turn_alone-thread.ensures.turn.said.0 in
    let not : (value : ℤ) → c.turn_alone-thread.ensures.turn.turn ≡ Answer value → ⊥ =
    λ value is. c.in_default.not-Answer value
    (c.turn_alone-thread.ensures.turn.brief ∙ ap brief is) in
    let moves = moves-is v w t mine None turn took in
    record {
      of = making-along c.args.book.now c.loop.book c.turn_alone-thread.new.book
          c.loop.invariant.of took.grown.making;
      served = λ start start_share.
          let share = c.loop.invariant.share start start_share in
          let at = share.index t mine in
          let running = other-running v w t mine None turn not took (start t)
          (g.B.Body.pending at.1.body) at.1.answered (share.running t at.0 at.1 at.2 at.3).1
          (λ q is. none-owed q is) in
          let after = share-moved g.B.Body.pending start 0 c.loop.runners v w share t at.0 at.2 at.1
          at.3 moves at.1 running in
          let done = ended-told v w t mine None v.serves turn not took
          c.turn_alone-thread.ensures.turn.said.1 in
          share-served g.B.Body.pending start (set c.loop.runners at.0 (Some at.1)) first w
          (on-along first v w c.loop.invariant.on moves.on) took.turn.lawful after (elim done [
            | inl over ↦ inl over
            | inr ended ↦ inr (λ u here. ended u (serves-back v w u moves.on here))
          ]);
      lawful = took.turn.lawful;
    }

pub bounds-runners-thread : goal.bounds-runners-thread
bounds-runners-thread g c =
    let t = c.turn_alone-thread.result.0 in
    let at = (c.loop.invariant.share c.requires.share.0 c.requires.share.2).index t
    c.turn_alone-thread.ensures.serves in
    let within = runner-within c.loop.runners at.0 at.1 at.3 in
    omega (arith, at.2)

pub offset_bounds-runners-thread : goal.offset_bounds-runners-thread
offset_bounds-runners-thread g c =
    let t = c.turn_alone-thread.result.0 in
    let at = (c.loop.invariant.share c.requires.share.0 c.requires.share.2).index t
    c.turn_alone-thread.ensures.serves in
    let inside = runner-within c.loop.runners at.0 at.1 at.3 in
    scaled_Fits t (length c.args.runners.now) _ (omega (arith, at.2, c.loop.auto.runners))
    c.well_formed.1.1.0.1

pub hear-requires-clause-asks : goal.hear-requires-clause-asks
hear-requires-clause-asks g c = λ κs lives.
    let v = first_view c.loop.book in
    let w = first_view c.turn_alone-thread.new.book in
    let t = c.turn_alone-thread.result.0 in
    let mine = c.turn_alone-thread.ensures.serves in
    let took = subst (λ (x : Turn). TookTurn v t None x w)
    (answer-turn c.turn_alone-thread.ensures.turn.turn c.in-Answer.value
    (sym c.turn_alone-thread.ensures.turn.brief ∙ c.in-Answer.is))
    c.turn_alone-thread.ensures.turn.said.0 in
    let r = c.in-Some-runners.runner in
    let now = g.B.Body.pending r.body in
    let here = index-read g.B.Body.pending c.requires.share.0 c.loop.runners v
    (c.loop.invariant.share c.requires.share.0 c.requires.share.2) t mine
    c.index-runners-thread.result r c.in-Some-runners.is in
    answer-asks v w t mine None c.in-Answer.value took (c.requires.share.0 t) now r.answered here.1
    (λ q is. none-owed q is)

pub hear-requires-clause-few : goal.hear-requires-clause-few
hear-requires-clause-few g c = λ κs lives.
    let v = first_view c.loop.book in
    let w = first_view c.turn_alone-thread.new.book in
    let t = c.turn_alone-thread.result.0 in
    let mine = c.turn_alone-thread.ensures.serves in
    let took = subst (λ (x : Turn). TookTurn v t None x w)
    (answer-turn c.turn_alone-thread.ensures.turn.turn c.in-Answer.value
    (sym c.turn_alone-thread.ensures.turn.brief ∙ c.in-Answer.is))
    c.turn_alone-thread.ensures.turn.said.0 in
    let r = c.in-Some-runners.runner in
    let now = g.B.Body.pending r.body in
    let here = index-read g.B.Body.pending c.requires.share.0 c.loop.runners v
    (c.loop.invariant.share c.requires.share.0 c.requires.share.2) t mine
    c.index-runners-thread.result r c.in-Some-runners.is in
    let counts = answer-counts v w t mine None c.in-Answer.value took (c.requires.share.0 t) now
    r.answered here.1 (λ q is. none-owed q is) in
    let few = answers-few w.seen t (r.answered + 1) took.turn.lawful counts in
    omega arith

pub speak_alone-requires-clause-owes : goal.speak_alone-requires-clause-owes
speak_alone-requires-clause-owes g c = λ κs lives.
    let v = first_view c.loop.book in
    let w = first_view c.turn_alone-thread.new.book in
    let t = c.turn_alone-thread.result.0 in
    let mine = c.turn_alone-thread.ensures.serves in
    let took = subst (λ (x : Turn). TookTurn v t None x w)
    (answer-turn c.turn_alone-thread.ensures.turn.turn c.in-Answer.value
    (sym c.turn_alone-thread.ensures.turn.brief ∙ c.in-Answer.is))
    c.turn_alone-thread.ensures.turn.said.0 in
    let r = c.in-Some-runners.runner in
    let now = g.B.Body.pending r.body in
    let here = index-read g.B.Body.pending c.requires.share.0 c.loop.runners v
    (c.loop.invariant.share c.requires.share.0 c.requires.share.2) t mine
    c.index-runners-thread.result r c.in-Some-runners.is in
    answer-owes v w t mine None c.in-Answer.value took (c.requires.share.0 t) now r.answered here.1
    (λ q is. none-owed q is)

pub speak_alone-requires-clause-runs : goal.speak_alone-requires-clause-runs
speak_alone-requires-clause-runs g c = λ κs lives.
    let v = first_view c.loop.book in
    let w = first_view c.turn_alone-thread.new.book in
    let t = c.turn_alone-thread.result.0 in
    let mine = c.turn_alone-thread.ensures.serves in
    let took = subst (λ (x : Turn). TookTurn v t None x w)
    (answer-turn c.turn_alone-thread.ensures.turn.turn c.in-Answer.value
    (sym c.turn_alone-thread.ensures.turn.brief ∙ c.in-Answer.is))
    c.turn_alone-thread.ensures.turn.said.0 in
    let r = c.in-Some-runners.runner in
    let now = g.B.Body.pending r.body in
    let here = index-read g.B.Body.pending c.requires.share.0 c.loop.runners v
    (c.loop.invariant.share c.requires.share.0 c.requires.share.2) t mine
    c.index-runners-thread.result r c.in-Some-runners.is in
    let then = g.B.Body.pending c.hear.new.self.body in
    let N : ℕ → Type 0 = λ n. IsRunning (c.requires.share.0 t) then n t w.seen in
    let next : (answers : List ℤ) → then answers ≡ now (c.in-Answer.value ∷ answers) =
    λ answers. c.hear.ensures.body answers
    ∙ ap (λ a. now (a ∷ answers)) (to_z-of_z w64 c.in-Answer.value (search rules)) in (
      c.requires.share.0 t,
      (let R : Deal → Type 0 = λ d. IsInRangeBody (sizes_of_deal d) (c.requires.share.0 t) in
          subst R (sym (making-along c.args.book.now c.loop.book c.turn_alone-thread.new.book
          c.loop.invariant.of took.grown.making).deal) (c.requires.share.1 t)),
      subst N (sym c.hear.ensures.answered)
          (answer-running v w t mine None c.in-Answer.value took (c.requires.share.0 t) now
          r.answered
          here.1 (λ q is. none-owed q is) then next),
    )

pub returns-then-speak_alone-clause-of : goal.returns-then-speak_alone-clause-of
returns-then-speak_alone-clause-of g c =
    let v = first_view c.loop.book in
    let w = first_view c.turn_alone-thread.new.book in
    let t = c.turn_alone-thread.result.0 in
    let took = c.turn_alone-thread.ensures.turn.said.0 in
    making-along c.args.book.now c.turn_alone-thread.new.book c.speak_alone.new.book
    (making-along c.args.book.now c.loop.book c.turn_alone-thread.new.book c.loop.invariant.of
    took.grown.making) c.speak_alone.ensures.of

pub returns-then-speak_alone-clause-served : goal.returns-then-speak_alone-clause-served
returns-then-speak_alone-clause-served g c = λ start start_share.
    let first = first_view c.args.book.now in
    let v = first_view c.loop.book in
    let w = first_view c.turn_alone-thread.new.book in
    let t = c.turn_alone-thread.result.0 in
    let mine = c.turn_alone-thread.ensures.serves in
    let took = subst (λ (x : Turn). TookTurn v t None x w)
    (answer-turn c.turn_alone-thread.ensures.turn.turn c.in-Answer.value
    (sym c.turn_alone-thread.ensures.turn.brief ∙ c.in-Answer.is))
    c.turn_alone-thread.ensures.turn.said.0 in
    let r = c.in-Some-runners.runner in
    let now = g.B.Body.pending r.body in
    let here = index-read g.B.Body.pending c.requires.share.0 c.loop.runners v
    (c.loop.invariant.share c.requires.share.0 c.requires.share.2) t mine
    c.index-runners-thread.result r c.in-Some-runners.is in
    let x = first_view c.speak_alone.new.book in
    let then = g.B.Body.pending c.hear.new.self.body in
    let N : ℕ → Type 0 = λ n. IsRunning (start t) then n t w.seen in
    let next : (answers : List ℤ) → then answers ≡ now (c.in-Answer.value ∷ answers) =
    λ answers. c.hear.ensures.body answers
    ∙ ap (λ a. now (a ∷ answers)) (to_z-of_z w64 c.in-Answer.value (search rules)) in
    let share = c.loop.invariant.share start start_share in
    let was = index-read g.B.Body.pending start c.loop.runners v share t mine
    c.index-runners-thread.result r c.in-Some-runners.is in
    let told = subst N (sym c.hear.ensures.answered)
    (answer-running v w t mine None c.in-Answer.value took (start t) now r.answered was.1
    (λ q is. none-owed q is) then next) in
    let moves = moves-along t v w x (moves-is v w t mine None c.turn_alone-thread.ensures.turn.turn
    c.turn_alone-thread.ensures.turn.said.0) c.speak_alone.ensures.moves in
    let after = share-moved g.B.Body.pending start 0 c.loop.runners v x share t t (omega arith) r
    was.0 moves c.speak_alone.new.self (c.speak_alone.ensures.runs (start t) told) in
    share-served g.B.Body.pending start (set c.loop.runners t (Some c.speak_alone.new.self)) first x
    (on-along first v x c.loop.invariant.on moves.on) c.speak_alone.ensures.lawful after
    (inl (c.speak_alone.ensures.over c.if-speak_alone.true))

pub loop-preserved : goal.loop-preserved
loop-preserved g c =
    let first = first_view c.args.book.now in
    let v = first_view c.loop.book in
    let w = first_view c.turn_alone-thread.new.book in
    let t = c.turn_alone-thread.result.0 in
    let mine = c.turn_alone-thread.ensures.serves in
    let took = subst (λ (x : Turn). TookTurn v t None x w)
    (answer-turn c.turn_alone-thread.ensures.turn.turn c.in-Answer.value
    (sym c.turn_alone-thread.ensures.turn.brief ∙ c.in-Answer.is))
    c.turn_alone-thread.ensures.turn.said.0 in
    let r = c.in-Some-runners.runner in
    let now = g.B.Body.pending r.body in
    let here = index-read g.B.Body.pending c.requires.share.0 c.loop.runners v
    (c.loop.invariant.share c.requires.share.0 c.requires.share.2) t mine
    c.index-runners-thread.result r c.in-Some-runners.is in
    let x = first_view c.speak_alone.new.book in
    let then = g.B.Body.pending c.hear.new.self.body in
    let next : (answers : List ℤ) → then answers ≡ now (c.in-Answer.value ∷ answers) =
    λ answers. c.hear.ensures.body answers
    ∙ ap (λ a. now (a ∷ answers)) (to_z-of_z w64 c.in-Answer.value (search rules)) in
    let moves = moves-along t v w x (moves-is v w t mine None c.turn_alone-thread.ensures.turn.turn
    c.turn_alone-thread.ensures.turn.said.0) c.speak_alone.ensures.moves in
    record {
      of = making-along c.args.book.now c.turn_alone-thread.new.book c.speak_alone.new.book
          (making-along c.args.book.now c.loop.book c.turn_alone-thread.new.book c.loop.invariant.of
          took.grown.making) c.speak_alone.ensures.of;
      share = λ start start_share.
          let N : ℕ → Type 0 = λ n. IsRunning (start t) then n t w.seen in
          let share = c.loop.invariant.share start start_share in
          let was = index-read g.B.Body.pending start c.loop.runners v share t mine
          c.index-runners-thread.result r c.in-Some-runners.is in
          let told = subst N (sym c.hear.ensures.answered)
          (answer-running v w t mine None c.in-Answer.value took (start t) now r.answered was.1
          (λ q is. none-owed q is) then next) in
          share-moved g.B.Body.pending start 0 c.loop.runners v x share t t (omega arith) r was.0
          moves c.speak_alone.new.self (c.speak_alone.ensures.runs (start t) told);
      on = on-along first v x c.loop.invariant.on moves.on;
      long = length-set c.loop.runners t (Some c.speak_alone.new.self) ∙ c.loop.invariant.long;
      posted = λ u there. elim (cases_eq u t) [
        | inl same ↦ ap (owes_of x.seen) same ∙ c.speak_alone.ensures.posted c.if-speak_alone.false
        | inr apart ↦
            let before = serves-back v x u moves.on there in
            same-owes u v.seen x.seen (moves.others u before apart)
            ∙ c.loop.invariant.posted u before
      ];
    }
