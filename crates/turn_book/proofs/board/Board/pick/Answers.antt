use Rattle.std.proofs.Common.{◌≡◌, List, length, sym, ap, subst, ◌∙◌}
use Rattle.policy_pick.specs.declared.chance.Chance.{Chance}
use Rattle.turn_book.specs.Chances.{chances}
use Rattle.turn_book.specs.Board.{IsNotedBoard, next_posts_of}
use Rattle.turn_book.proofs.Boards.{fresh-board, front-taken, length-chances, targets-away}
use Rattle.turn_book.proofs.board.Board.pick.Goals as goal

pub pick-requires-clause-targets : goal.pick-requires-clause-targets
pick-requires-clause-targets g c =
    let f = c.self.inside in
    let b = c.self.invariant.board in
    let looked : c.look_at_stale.new.known
    ≡ chances f.store.threads f.store (next_posts_of f.posts.items) =
    c.look_at_stale.ensures
    ∙ ap (λ ps. chances f.store.threads f.store (next_posts_of ps)) c.as_slice.ensures.value in
    let long : f.chances.len ≡ length c.look_at_stale.new.known =
    f.chances.ok.0 ∙ b.as_many
    ∙ sym (ap length looked
    ∙ length-chances f.store.threads f.store (next_posts_of f.posts.items)) in
    targets-away f.store f.posts.items b.threads b.in_range c.as_slice-4.result.now
    (c.as_slice-4.ensures.value ∙ front-taken _ _ _ long ∙ looked)

pub invariant_of-self : goal.invariant_of-self
invariant_of-self g c =
    let f = c.self.inside in
    let i = c.self.invariant in
    let b = i.board in
    let looked : c.look_at_stale.new.known
    ≡ chances f.store.threads f.store (next_posts_of f.posts.items) =
    c.look_at_stale.ensures
    ∙ ap (λ ps. chances f.store.threads f.store (next_posts_of ps)) c.as_slice.ensures.value in
    let long : f.chances.len ≡ length c.look_at_stale.new.known =
    f.chances.ok.0 ∙ b.as_many
    ∙ sym (ap length looked
    ∙ length-chances f.store.threads f.store (next_posts_of f.posts.items)) in
    let N : List Chance → Type 0 = λ cs. IsNotedBoard f.store f.posts.items f.standings.items cs
    f.joined f.waiters f.lockers.items 0 in
    subst N (sym (front-taken _ _ _ long ∙ looked)) (record {
      board = fresh-board f.store f.posts.items f.standings.items f.chances.items f.stale 0 b;
      noted = i.noted;
      waiting = i.waiting;
      mutexes = i.mutexes;
      few_mutexes = i.few_mutexes;
      locking = i.locking;
    })
