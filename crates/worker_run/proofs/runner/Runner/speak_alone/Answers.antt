use Rattle.std.proofs.Common.{◌≡◌, ◌+◌, ◌<◌, ℕ, ℤ, List, true, [], ◌∷◌, ◌++◌, Some, sym, ap, subst}
use Rattle.std.proofs.Common.{◌∙◌}
use Rattle.std.proofs.Common.{arith, rules, w64, to_z, of_z}
use Rattle.std.proofs.lemmas.Int.{to_z-of_z}
use Rattle.pct_ask.specs.declared.ask.Post.{Post}
use Rattle.pct_ask.specs.Objects.{sizes_of_deal, PostIsInRange}
use Rattle.sync_store.specs.World.{answers_of}
use Rattle.turn_lock.specs.Seen.{owes_of}
use Rattle.turn_lock.specs.Turns.{TookTurn}
use Rattle.turn_lock.specs.Briefs.{brief}
use Rattle.turn_lock.specs.Rule.{first_view}
use Rattle.turn_lock.specs.declared.turn.Turn.{Turn}
use Rattle.worker_run.specs.Served.{IsRunning}
use Rattle.worker_run.proofs.Running.{answer-asks, answer-counts, answer-running, answer-owes}
use Rattle.worker_run.proofs.Running.{other-running, moves-is, over-told, posted-told, answers-few}
use Rattle.worker_run.proofs.BriefTurns.{answer-turn}
use Rattle.worker_run.proofs.Shares.{serves-on, moves-self, moves-along}
use Rattle.turn_lock.proofs.laws.SeenBooks.{making-self, making-along}
use Rattle.turn_lock.proofs.laws.FirstThreads.{first-below}
use Rattle.pct_ask.specs.declared.Deal.{Deal}
use Rattle.worker_run.proofs.runner.Runner.speak_alone.Goals as goal

pub loop-init : goal.loop-init
loop-init g c = record {
  of = making-self c.args.book.now;
  runs = λ start r. r;
  moves = moves-self c.args.thread (first_view c.args.book.now);
  owes = c.requires.owes;
}

pub post_alone-requires-clause-thread : goal.post_alone-requires-clause-thread
post_alone-requires-clause-thread g c = λ κs lives.
    let F : Deal → Type 0 = λ d. c.args.thread < d.threads in
    subst F (sym c.loop.invariant.of.deal)
    (first-below c.args.book.now.deal.threads c.args.thread c.requires.serves)

pub post_alone-requires-clause-in_range : goal.post_alone-requires-clause-in_range
post_alone-requires-clause-in_range g c = λ κs lives.
    let start = c.requires.runs.0 in
    let r = c.loop.invariant.runs start c.requires.runs.2 in
    let P : Deal × Post → Type 0 = λ x. PostIsInRange (sizes_of_deal x.0) (x.1).ask in
    subst P (λ i. (sym c.loop.invariant.of.deal i, sym (c.post-post.ensures ∙ r.next []) i))
    (c.requires.runs.1 (answers_of c.args.thread (first_view c.loop.book).seen.trace ++ []))

pub hear-requires-clause-asks : goal.hear-requires-clause-asks
hear-requires-clause-asks g c = λ κs lives.
    let v = first_view c.loop.book in
    let w = first_view c.post_alone.new.book in
    let post = c.post-post.result in
    let start = c.requires.runs.0 in
    let now = g.B.Body.pending c.loop.self.body in
    let mine = serves-on (first_view c.args.book.now) v c.args.thread c.loop.invariant.moves.on
    c.requires.serves in
    let took = subst (λ (x : Turn). TookTurn v c.args.thread (Some post) x w)
    (answer-turn c.post_alone.ensures.turn.turn c.in-Answer.value
    (sym c.post_alone.ensures.turn.brief ∙ c.in-Answer.is))
    c.post_alone.ensures.turn.said in
    answer-asks v w c.args.thread mine (Some post) c.in-Answer.value took start now
    c.loop.self.answered (c.loop.invariant.runs start c.requires.runs.2)
    (λ q is. (
      c.loop.invariant.owes,
      (let same : post ≡ q = cc in sym same ∙ c.post-post.ensures),
    ))

pub hear-requires-clause-few : goal.hear-requires-clause-few
hear-requires-clause-few g c = λ κs lives.
    let v = first_view c.loop.book in
    let w = first_view c.post_alone.new.book in
    let post = c.post-post.result in
    let start = c.requires.runs.0 in
    let now = g.B.Body.pending c.loop.self.body in
    let mine = serves-on (first_view c.args.book.now) v c.args.thread c.loop.invariant.moves.on
    c.requires.serves in
    let took = subst (λ (x : Turn). TookTurn v c.args.thread (Some post) x w)
    (answer-turn c.post_alone.ensures.turn.turn c.in-Answer.value
    (sym c.post_alone.ensures.turn.brief ∙ c.in-Answer.is))
    c.post_alone.ensures.turn.said in
    let counts = answer-counts v w c.args.thread mine (Some post) c.in-Answer.value took start now
    c.loop.self.answered (c.loop.invariant.runs start c.requires.runs.2)
    (λ q is. (
      c.loop.invariant.owes,
      (let same : post ≡ q = cc in sym same ∙ c.post-post.ensures),
    )) in
    let few = answers-few w.seen c.args.thread (c.loop.self.answered + 1) took.turn.lawful counts in
    omega arith

pub loop-preserved : goal.loop-preserved
loop-preserved g c =
    let v = first_view c.loop.book in
    let w = first_view c.post_alone.new.book in
    let post = c.post-post.result in
    let now = g.B.Body.pending c.loop.self.body in
    let then = g.B.Body.pending c.hear.new.self.body in
    let mine = serves-on (first_view c.args.book.now) v c.args.thread c.loop.invariant.moves.on
    c.requires.serves in
    let took = subst (λ (x : Turn). TookTurn v c.args.thread (Some post) x w)
    (answer-turn c.post_alone.ensures.turn.turn c.in-Answer.value
    (sym c.post_alone.ensures.turn.brief ∙ c.in-Answer.is))
    c.post_alone.ensures.turn.said in
    let owed : (q : Post) → Some post ≡ Some q
    → (owes_of v.seen c.args.thread ≡ true) × (q ≡ now []) =
    λ q is. (
      c.loop.invariant.owes,
      (let same : post ≡ q = cc in
          sym same ∙ c.post-post.ensures),
    ) in
    let next : (answers : List ℤ) → then answers ≡ now (c.in-Answer.value ∷ answers) =
    λ answers. ◌∙◌ {b = now (to_z w64 (of_z w64 c.in-Answer.value) ∷ answers)}
    (c.hear.ensures.body answers) (ap (λ a. now (a ∷ answers))
    (to_z-of_z w64 c.in-Answer.value (search rules))) in
    record {
      of = making-along c.args.book.now c.loop.book c.post_alone.new.book c.loop.invariant.of
          took.grown.making;
      runs = λ start r.
          let N : ℕ → Type 0 = λ n. IsRunning start then n c.args.thread w.seen in
          subst N (sym c.hear.ensures.answered)
          (answer-running v w c.args.thread mine (Some post) c.in-Answer.value took start now
          c.loop.self.answered (c.loop.invariant.runs start r) owed then next);
      moves =
          moves-along c.args.thread (first_view c.args.book.now) v w c.loop.invariant.moves
          (moves-is v w c.args.thread mine (Some post) c.post_alone.ensures.turn.turn
          c.post_alone.ensures.turn.said);
      owes =
          answer-owes v w c.args.thread mine (Some post) c.in-Answer.value took c.requires.runs.0
          now c.loop.self.answered (c.loop.invariant.runs c.requires.runs.0 c.requires.runs.2) owed;
    }

pub returns-in_default : goal.returns-in_default
returns-in_default g c =
    let v = first_view c.loop.book in
    let w = first_view c.post_alone.new.book in
    let post = c.post-post.result in
    let turn = c.post_alone.ensures.turn.turn in
    let took = c.post_alone.ensures.turn.said in
    let now = g.B.Body.pending c.loop.self.body in
    let mine = serves-on (first_view c.args.book.now) v c.args.thread c.loop.invariant.moves.on
    c.requires.serves in
    let owed : (q : Post) → Some post ≡ Some q
    → (owes_of v.seen c.args.thread ≡ true) × (q ≡ now []) =
    λ q is. (
      c.loop.invariant.owes,
      (let same : post ≡ q = cc in
          sym same ∙ c.post-post.ensures),
    ) in
    record {
      of = making-along c.args.book.now c.loop.book c.post_alone.new.book c.loop.invariant.of
          took.grown.making;
      runs =
          λ start r. other-running v w c.args.thread mine (Some post) turn
          (λ value is. c.in_default.not-Answer value
          (c.post_alone.ensures.turn.brief ∙ ap brief is)) took start now c.loop.self.answered
          (c.loop.invariant.runs start r) owed;
      moves =
          moves-along c.args.thread (first_view c.args.book.now) v w c.loop.invariant.moves
          (moves-is v w c.args.thread mine (Some post) turn took);
      lawful = took.turn.lawful;
      over =
          λ e. over-told v w c.args.thread mine (Some post) turn
          (sym (c.is_over.ensures turn c.post_alone.ensures.turn.brief) ∙ e) took;
      posted =
          λ e. posted-told v w c.args.thread mine (Some post) turn
          (λ value is. c.in_default.not-Answer value
          (c.post_alone.ensures.turn.brief ∙ ap brief is))
          (sym (c.is_over.ensures turn c.post_alone.ensures.turn.brief) ∙ e) took;
    }
