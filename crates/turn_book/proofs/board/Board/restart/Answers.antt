use Rattle.std.proofs.Common.{◌≡◌, ℕ, None, false, length, replicate, vec_len, sym, ap, ◌∙◌, arith}
use Rattle.std.proofs.Common.{rules}
use Rattle.std.proofs.lemmas.List.{length-map, length-replicate}
use Rattle.pct_ask.specs.declared.event.Standing.TheVariants.{Away as AwayStanding}
use Rattle.pct_ask.specs.Objects.{Sizes, sizes_of_deal}
use Rattle.sync_store.specs.Store.{sizes_of}
use Rattle.turn_book.specs.Board.{BoardState}
use Rattle.policy_pick.specs.declared.chance.Chance.TheVariants.{Away}
use Rattle.turn_book.specs.Told.{standing_by}
use Rattle.turn_book.proofs.Boards.{new-board}
use Rattle.turn_book.proofs.Joined.{nothing-noted}
use Rattle.turn_book.proofs.Waiters.{nobody-waits}
use Rattle.turn_book.proofs.Lockers.{nobody-locks}
use Rattle.turn_book.proofs.board.Board.restart.Goals as goal

pub invariant_of-self : goal.invariant_of-self
invariant_of-self c =
    let was = c.self.inside in
    let kept = c.self.invariant in
    let deal = c.args.deal.now in
    let posts = c.fill.new.self.items in
    let stands = c.fill-2.new.self.items in
    let known = c.fill-3.new.self.items in
    let lockers = c.fill-4.new.self.items in
    let many_posts : vec_len was.posts ≡ length was.posts.items = search rules in
    let many_stands : vec_len was.standings ≡ length was.standings.items = search rules in
    let many_known : vec_len was.chances ≡ length was.chances.items = search rules in
    let many_lockers : vec_len was.lockers ≡ length was.lockers.items = search rules in
    let sizes : sizes_of was.store ≡ sizes_of_deal deal =
    ap (λ (b : BoardState). sizes_of b.store) c.self.view_is ∙ c.requires in
    let threads : was.store.threads ≡ deal.threads = ap (λ (s : Sizes). s.threads) sizes in
    let mutexes : length was.lockers.items ≡ deal.mutexes =
    kept.mutexes ∙ ap (λ (s : Sizes). s.mutexes) sizes in
    let none : posts ≡ replicate deal.threads None =
    c.fill.ensures.items (λ y e. search rules)
    ∙ ap (λ n. replicate n None) (many_posts ∙ kept.board.threads ∙ threads) in
    let away : stands ≡ replicate deal.threads AwayStanding =
    c.fill-2.ensures.items (λ y e. search rules)
    ∙ ap (λ n. replicate n AwayStanding) (many_stands ∙ ap length kept.board.standings
    ∙ length-map was.posts.items standing_by ∙ kept.board.threads ∙ threads) in
    let chances : known ≡ replicate deal.threads Away =
    c.fill-3.ensures.items (λ y e. search rules)
    ∙ ap (λ n. replicate n Away) (many_known ∙ kept.board.as_many ∙ threads) in
    let empty : ℕ = 0 in
    let zeros : lockers ≡ replicate deal.mutexes empty =
    c.fill-4.ensures.items (λ y e. e)
    ∙ ap (λ n. replicate n empty) (many_lockers ∙ mutexes) in
    record {
      board = new-board deal c.restart.new.self posts stands known 0 c.restart.ensures.first none
          away chances;
      noted = nothing-noted deal.threads posts (replicate 64 false) none;
      waiting = nobody-waits c.restart.new.self.threads deal.threads posts none;
      mutexes = ap length zeros ∙ length-replicate deal.mutexes empty
          ∙ sym (ap (λ (s : Sizes). s.mutexes) c.restart.ensures.sizes);
      few_mutexes = omega (
        arith,
        ap length zeros,
        length-replicate deal.mutexes empty,
        deal.few_mutexes,
      );
      locking = nobody-locks deal.threads deal.mutexes posts lockers none zeros;
    }
