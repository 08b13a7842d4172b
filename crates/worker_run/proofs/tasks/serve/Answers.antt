use Rattle.std.proofs.Common.{◌≡◌, ◌+◌, ℕ, ℤ, List, None, ◌∷◌, sym, ap, subst, ◌∙◌, arith, rules}
use Rattle.std.proofs.Common.{w64, inl, inr}
use Rattle.std.proofs.lemmas.Int.{to_z-of_z}
use Rattle.turn_lock.specs.Seen.{owes_of}
use Rattle.turn_lock.specs.Turns.{TookTurn}
use Rattle.turn_lock.specs.Briefs.{brief}
use Rattle.turn_lock.specs.Views.{view}
use Rattle.turn_lock.specs.declared.turn.Turn.{Turn}
use Rattle.turn_lock.specs.declared.turn.Turn.TheVariants.{Answer}
use Rattle.worker_run.specs.Served.{IsRunning}
use Rattle.worker_run.proofs.Running.{answer-asks, answer-counts, answer-running, answer-owes}
use Rattle.worker_run.proofs.Running.{other-running, moves-is, ended-told, answers-few, none-owed}
use Rattle.worker_run.proofs.BriefTurns.{answer-turn}
use Rattle.worker_run.proofs.Shares.{serves-on, serves-back, moves-along, own-serves, own-running}
use Rattle.worker_run.proofs.Shares.{own-thread, own-served}
use Rattle.worker_run.proofs.tasks.serve.Goals as goal

pub speak-requires-clause-serves : goal.speak-requires-clause-serves
speak-requires-clause-serves g c =
    λ κs lives. own-serves g.B.Body.pending c.requires.share.0 c.args.thread c.args.runner
    (view c.args.seat) c.requires.share.2

pub speak-requires-clause-owes : goal.speak-requires-clause-owes
speak-requires-clause-owes g c =
    λ κs lives. c.requires.owe c.args.thread
    (own-serves g.B.Body.pending c.requires.share.0 c.args.thread c.args.runner (view c.args.seat)
    c.requires.share.2)

pub speak-requires-clause-runs : goal.speak-requires-clause-runs
speak-requires-clause-runs g c =
    λ κs lives. (
      c.requires.share.0 c.args.thread,
      c.requires.share.1 c.args.thread,
      own-running g.B.Body.pending c.requires.share.0 c.args.thread c.args.runner (view c.args.seat)
          c.requires.share.2,
    )

pub returns-then-speak-clause-served : goal.returns-then-speak-clause-served
returns-then-speak-clause-served g c = λ start own.
    let first = view c.args.seat in
    let running = own-running g.B.Body.pending start c.args.thread c.args.runner first own in
    own-served g.B.Body.pending start c.args.thread c.args.runner first own (view c.speak.new.seat)
    (g.B.Body.pending c.speak.new.self.body) c.speak.new.self.answered c.speak.ensures.moves.on
    c.speak.ensures.lawful (c.speak.ensures.runs (start c.args.thread) running)
    (inl (c.speak.ensures.over c.if-speak.true))

pub turn_brief-told-requires-clause-waits : goal.turn_brief-told-requires-clause-waits
turn_brief-told-requires-clause-waits g c = λ κs lives.
    let v = view c.loop.seat in
    let first = view c.args.seat in
    let own = c.requires.share.2 in
    let on = c.loop.invariant.moves.on in
    record {
      thread = c.args.thread;
      serves =
          serves-on first v c.args.thread on
          (own-serves g.B.Body.pending c.requires.share.0 c.args.thread c.args.runner first own);
      posted =
          λ u here. ap (owes_of v.seen) (own-thread g.B.Body.pending c.requires.share.0
          c.args.thread
          c.args.runner first own u (serves-back first v u on here)) ∙ c.loop.invariant.posted;
    }

pub returns-in_default : goal.returns-in_default
returns-in_default g c =
    let v = view c.loop.seat in
    let w = view c.turn_brief-told.new.seat in
    let t = c.args.thread in
    let first = view c.args.seat in
    let own = c.requires.share.2 in
    let start = c.requires.share.0 in
    let mine = serves-on first v t c.loop.invariant.moves.on
    (own-serves g.B.Body.pending start t c.args.runner first own) in
    let same : c.turn_brief-told.result.0 ≡ t =
    own-thread g.B.Body.pending start t c.args.runner first own c.turn_brief-told.result.0
    (serves-back first v c.turn_brief-told.result.0 c.loop.invariant.moves.on
    c.turn_brief-told.ensures.serves) in
    let turned = subst (λ (n : ℕ). TookTurn v n None c.turn_brief-told.ensures.turn.turn w) same
    c.turn_brief-told.ensures.turn.said.0.took in
    let moves = moves-is v w t mine None c.turn_brief-told.ensures.turn.turn turned in
    let not : (value : ℤ) → c.turn_brief-told.ensures.turn.turn ≡ Answer value → ⊥ =
    λ value is. c.in_default.not-Answer value
    (c.turn_brief-told.ensures.turn.brief ∙ ap brief is) in
    let done = ended-told v w c.turn_brief-told.result.0 c.turn_brief-told.ensures.serves None
    v.serves c.turn_brief-told.ensures.turn.turn not
    c.turn_brief-told.ensures.turn.said.0.took c.turn_brief-told.ensures.turn.said.1 in
    record {
      of = c.turn_brief-told.ensures.of;
      served = λ start own.
          let running = c.loop.invariant.runs (start t)
          (own-running g.B.Body.pending start t c.args.runner first own) in
          own-served g.B.Body.pending start t c.args.runner first own w
          (g.B.Body.pending c.loop.runner.body) c.loop.runner.answered
          (moves-along t first v w c.loop.invariant.moves moves).on turned.turn.lawful
          (other-running v w t mine None c.turn_brief-told.ensures.turn.turn not turned (start t)
          (g.B.Body.pending c.loop.runner.body) c.loop.runner.answered running
          (λ q is. none-owed q is)) (elim done [
            | inl over ↦ inl over
            | inr ended ↦
                inr (λ u here. ended u (serves-on first v u c.loop.invariant.moves.on here))
          ]);
    }

pub hear-requires-clause-asks : goal.hear-requires-clause-asks
hear-requires-clause-asks g c = λ κs lives.
    let v = view c.loop.seat in
    let w = view c.turn_brief-told.new.seat in
    let t = c.args.thread in
    let first = view c.args.seat in
    let own = c.requires.share.2 in
    let start = c.requires.share.0 in
    let mine = serves-on first v t c.loop.invariant.moves.on
    (own-serves g.B.Body.pending start t c.args.runner first own) in
    let same : c.turn_brief-told.result.0 ≡ t =
    own-thread g.B.Body.pending start t c.args.runner first own c.turn_brief-told.result.0
    (serves-back first v c.turn_brief-told.result.0 c.loop.invariant.moves.on
    c.turn_brief-told.ensures.serves) in
    let turned = subst (λ (n : ℕ). TookTurn v n None c.turn_brief-told.ensures.turn.turn w) same
    c.turn_brief-told.ensures.turn.said.0.took in
    let took = subst (λ (x : Turn). TookTurn v t None x w)
    (answer-turn c.turn_brief-told.ensures.turn.turn c.in-Answer.value
    (sym c.turn_brief-told.ensures.turn.brief ∙ c.in-Answer.is)) turned in
    let r = c.loop.runner in
    let now = g.B.Body.pending r.body in
    let running = c.loop.invariant.runs (start t)
    (own-running g.B.Body.pending start t c.args.runner first own) in
    answer-asks v w t mine None c.in-Answer.value took (start t) now r.answered running
    (λ q is. none-owed q is)

pub hear-requires-clause-few : goal.hear-requires-clause-few
hear-requires-clause-few g c = λ κs lives.
    let v = view c.loop.seat in
    let w = view c.turn_brief-told.new.seat in
    let t = c.args.thread in
    let first = view c.args.seat in
    let own = c.requires.share.2 in
    let start = c.requires.share.0 in
    let mine = serves-on first v t c.loop.invariant.moves.on
    (own-serves g.B.Body.pending start t c.args.runner first own) in
    let same : c.turn_brief-told.result.0 ≡ t =
    own-thread g.B.Body.pending start t c.args.runner first own c.turn_brief-told.result.0
    (serves-back first v c.turn_brief-told.result.0 c.loop.invariant.moves.on
    c.turn_brief-told.ensures.serves) in
    let turned = subst (λ (n : ℕ). TookTurn v n None c.turn_brief-told.ensures.turn.turn w) same
    c.turn_brief-told.ensures.turn.said.0.took in
    let took = subst (λ (x : Turn). TookTurn v t None x w)
    (answer-turn c.turn_brief-told.ensures.turn.turn c.in-Answer.value
    (sym c.turn_brief-told.ensures.turn.brief ∙ c.in-Answer.is)) turned in
    let r = c.loop.runner in
    let now = g.B.Body.pending r.body in
    let running = c.loop.invariant.runs (start t)
    (own-running g.B.Body.pending start t c.args.runner first own) in
    let counts = answer-counts v w t mine None c.in-Answer.value took (start t) now r.answered
    running (λ q is. none-owed q is) in
    let few = answers-few w.seen t (r.answered + 1) took.turn.lawful counts in
    omega arith

pub speak-requires-in-loop-clause-owes : goal.speak-requires-in-loop-clause-owes
speak-requires-in-loop-clause-owes g c = λ κs lives.
    let v = view c.loop.seat in
    let w = view c.turn_brief-told.new.seat in
    let t = c.args.thread in
    let first = view c.args.seat in
    let own = c.requires.share.2 in
    let start = c.requires.share.0 in
    let mine = serves-on first v t c.loop.invariant.moves.on
    (own-serves g.B.Body.pending start t c.args.runner first own) in
    let same : c.turn_brief-told.result.0 ≡ t =
    own-thread g.B.Body.pending start t c.args.runner first own c.turn_brief-told.result.0
    (serves-back first v c.turn_brief-told.result.0 c.loop.invariant.moves.on
    c.turn_brief-told.ensures.serves) in
    let turned = subst (λ (n : ℕ). TookTurn v n None c.turn_brief-told.ensures.turn.turn w) same
    c.turn_brief-told.ensures.turn.said.0.took in
    let took = subst (λ (x : Turn). TookTurn v t None x w)
    (answer-turn c.turn_brief-told.ensures.turn.turn c.in-Answer.value
    (sym c.turn_brief-told.ensures.turn.brief ∙ c.in-Answer.is)) turned in
    let r = c.loop.runner in
    let now = g.B.Body.pending r.body in
    let running = c.loop.invariant.runs (start t)
    (own-running g.B.Body.pending start t c.args.runner first own) in
    answer-owes v w t mine None c.in-Answer.value took (start t) now r.answered running
    (λ q is. none-owed q is)

pub speak-requires-in-loop-clause-runs : goal.speak-requires-in-loop-clause-runs
speak-requires-in-loop-clause-runs g c = λ κs lives.
    let v = view c.loop.seat in
    let w = view c.turn_brief-told.new.seat in
    let t = c.args.thread in
    let first = view c.args.seat in
    let own = c.requires.share.2 in
    let start = c.requires.share.0 in
    let mine = serves-on first v t c.loop.invariant.moves.on
    (own-serves g.B.Body.pending start t c.args.runner first own) in
    let same : c.turn_brief-told.result.0 ≡ t =
    own-thread g.B.Body.pending start t c.args.runner first own c.turn_brief-told.result.0
    (serves-back first v c.turn_brief-told.result.0 c.loop.invariant.moves.on
    c.turn_brief-told.ensures.serves) in
    let turned = subst (λ (n : ℕ). TookTurn v n None c.turn_brief-told.ensures.turn.turn w) same
    c.turn_brief-told.ensures.turn.said.0.took in
    let took = subst (λ (x : Turn). TookTurn v t None x w)
    (answer-turn c.turn_brief-told.ensures.turn.turn c.in-Answer.value
    (sym c.turn_brief-told.ensures.turn.brief ∙ c.in-Answer.is)) turned in
    let r = c.loop.runner in
    let now = g.B.Body.pending r.body in
    let running = c.loop.invariant.runs (start t)
    (own-running g.B.Body.pending start t c.args.runner first own) in
    let then = g.B.Body.pending c.hear.new.self.body in
    let next : (answers : List ℤ) → then answers ≡ now (c.in-Answer.value ∷ answers) =
    λ answers. c.hear.ensures.body answers
    ∙ ap (λ a. now (a ∷ answers)) (to_z-of_z w64 c.in-Answer.value (search rules)) in
    let N : ℕ → Type 0 = λ n. IsRunning (start t) then n t w.seen in (
      start t,
      c.requires.share.1 t,
      subst N (sym c.hear.ensures.answered)
          (answer-running v w t mine None c.in-Answer.value took (start t) now r.answered running
          (λ q is. none-owed q is) then next),
    )

pub returns-then-speak-2-clause-served : goal.returns-then-speak-2-clause-served
returns-then-speak-2-clause-served g c =
    let v = view c.loop.seat in
    let w = view c.turn_brief-told.new.seat in
    let t = c.args.thread in
    let first = view c.args.seat in
    let own = c.requires.share.2 in
    let start = c.requires.share.0 in
    let mine = serves-on first v t c.loop.invariant.moves.on
    (own-serves g.B.Body.pending start t c.args.runner first own) in
    let same : c.turn_brief-told.result.0 ≡ t =
    own-thread g.B.Body.pending start t c.args.runner first own c.turn_brief-told.result.0
    (serves-back first v c.turn_brief-told.result.0 c.loop.invariant.moves.on
    c.turn_brief-told.ensures.serves) in
    let turned = subst (λ (n : ℕ). TookTurn v n None c.turn_brief-told.ensures.turn.turn w) same
    c.turn_brief-told.ensures.turn.said.0.took in
    let took = subst (λ (x : Turn). TookTurn v t None x w)
    (answer-turn c.turn_brief-told.ensures.turn.turn c.in-Answer.value
    (sym c.turn_brief-told.ensures.turn.brief ∙ c.in-Answer.is)) turned in
    let r = c.loop.runner in
    let now = g.B.Body.pending r.body in
    let running = c.loop.invariant.runs (start t)
    (own-running g.B.Body.pending start t c.args.runner first own) in
    let then = g.B.Body.pending c.hear.new.self.body in
    let next : (answers : List ℤ) → then answers ≡ now (c.in-Answer.value ∷ answers) =
    λ answers. c.hear.ensures.body answers
    ∙ ap (λ a. now (a ∷ answers)) (to_z-of_z w64 c.in-Answer.value (search rules)) in
    let x = view c.speak-in-loop.new.seat in
    let moves = moves-along t first v x c.loop.invariant.moves
    (moves-along t v w x (moves-is v w t mine None c.turn_brief-told.ensures.turn.turn turned)
    c.speak-in-loop.ensures.moves) in
    λ begun own.
    let N : ℕ → Type 0 = λ n. IsRunning (begun t) then n t w.seen in
    let ran = c.loop.invariant.runs (begun t)
    (own-running g.B.Body.pending begun t c.args.runner first own) in
    let told = subst N (sym c.hear.ensures.answered)
    (answer-running v w t mine None c.in-Answer.value took (begun t) now r.answered ran
    (λ q is. none-owed q is) then next) in
    own-served g.B.Body.pending begun t c.args.runner first own x
    (g.B.Body.pending c.speak-in-loop.new.self.body) c.speak-in-loop.new.self.answered moves.on
    c.speak-in-loop.ensures.lawful (c.speak-in-loop.ensures.runs (begun t) told)
    (inl (c.speak-in-loop.ensures.over c.if-speak-2.true))

pub loop-preserved : goal.loop-preserved
loop-preserved g c =
    let v = view c.loop.seat in
    let w = view c.turn_brief-told.new.seat in
    let t = c.args.thread in
    let first = view c.args.seat in
    let own = c.requires.share.2 in
    let start = c.requires.share.0 in
    let mine = serves-on first v t c.loop.invariant.moves.on
    (own-serves g.B.Body.pending start t c.args.runner first own) in
    let same : c.turn_brief-told.result.0 ≡ t =
    own-thread g.B.Body.pending start t c.args.runner first own c.turn_brief-told.result.0
    (serves-back first v c.turn_brief-told.result.0 c.loop.invariant.moves.on
    c.turn_brief-told.ensures.serves) in
    let turned = subst (λ (n : ℕ). TookTurn v n None c.turn_brief-told.ensures.turn.turn w) same
    c.turn_brief-told.ensures.turn.said.0.took in
    let took = subst (λ (x : Turn). TookTurn v t None x w)
    (answer-turn c.turn_brief-told.ensures.turn.turn c.in-Answer.value
    (sym c.turn_brief-told.ensures.turn.brief ∙ c.in-Answer.is)) turned in
    let r = c.loop.runner in
    let now = g.B.Body.pending r.body in
    let running = c.loop.invariant.runs (start t)
    (own-running g.B.Body.pending start t c.args.runner first own) in
    let then = g.B.Body.pending c.hear.new.self.body in
    let next : (answers : List ℤ) → then answers ≡ now (c.in-Answer.value ∷ answers) =
    λ answers. c.hear.ensures.body answers
    ∙ ap (λ a. now (a ∷ answers)) (to_z-of_z w64 c.in-Answer.value (search rules)) in
    let x = view c.speak-in-loop.new.seat in
    record {
      of = c.speak-in-loop.ensures.of;
      runs = λ begun was.
          let N : ℕ → Type 0 = λ n. IsRunning begun then n t w.seen in
          c.speak-in-loop.ensures.runs begun
          (subst N (sym c.hear.ensures.answered)
          (answer-running v w t mine None c.in-Answer.value took begun now r.answered
          (c.loop.invariant.runs begun was) (λ q is. none-owed q is) then next));
      moves =
          moves-along t first v x c.loop.invariant.moves
          (moves-along t v w x (moves-is v w t mine None c.turn_brief-told.ensures.turn.turn
          turned) c.speak-in-loop.ensures.moves);
      posted = c.speak-in-loop.ensures.posted c.if-speak-2.false;
    }
