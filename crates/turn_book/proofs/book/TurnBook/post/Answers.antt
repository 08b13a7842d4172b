use Rattle.std.proofs.Common.{◌≡◌, ◌<◌, eqb, None, refl, sym, ap, subst, ◌∙◌, arith}
use Rattle.std.proofs.Common.{vec_capacity}
use Rattle.turn_book.specs.Told.{BookState, IsLawful, standing_of, IsPosted}
use Rattle.turn_book.proofs.Books.{lawful-told}
use Rattle.turn_book.specs.Posts.{schedule_of}
use Rattle.turn_book.specs.Board.{BoardState, next_posts_of}
use Rattle.turn_book.specs.Kept.{book_of_parts, IsKept}
use Rattle.turn_book.proofs.Books.{standing-told, away-none, none-from, kept-post, posts-after}
use Rattle.turn_book.proofs.Turning.{post-known}
use Rattle.turn_book.proofs.book.TurnBook.post.Goals as goal

pub post-posted-requires-clause-away : goal.post-posted-requires-clause-away
post-posted-requires-clause-away g c =
    let f = c.self.inside in
    away-none (next_posts_of (f.board).posts c.args.thread)
    (sym (standing-told f.deal f.limit (g.P.Policy.plan f.policy) f.board f.trace.items f.next
    f.outcome (vec_capacity f.trace) c.self.invariant.0 c.args.thread)
    ∙ ap (λ (b : BookState). standing_of b c.args.thread) c.self.view_is ∙ c.requires.away)

pub invariant_of-self : goal.invariant_of-self
invariant_of-self g c =
    let f = c.self.inside in
    let kept = c.self.invariant.0 in
    let running : f.outcome ≡ None = none-from f.outcome c.if-is_none.ensures in
    let within : c.args.thread < (f.deal).threads =
    omega (arith, c.requires.thread, ap (λ (b : BookState). (b.deal).threads) c.self.view_is) in
    let away : next_posts_of (f.board).posts c.args.thread ≡ None =
    away-none (next_posts_of (f.board).posts c.args.thread)
    (sym (standing-told f.deal f.limit (g.P.Policy.plan f.policy) f.board f.trace.items f.next
    f.outcome (vec_capacity f.trace) kept c.args.thread)
    ∙ ap (λ (b : BookState). standing_of b c.args.thread) c.self.view_is ∙ c.requires.away) in
    let K : BoardState → Type 0 = λ b. IsKept f.deal f.limit (g.P.Policy.plan f.policy) b
    f.trace.items c.settle-self-inside.result c.settle-self-inside.new.outcome
    (vec_capacity f.trace) in (
      subst K (sym c.settle-self-inside.ensures.same)
          (kept-post f.deal f.limit (g.P.Policy.plan f.policy) f.board f.trace.items f.next
          f.outcome
          (vec_capacity f.trace) kept running c.args.thread c.args.post c.post-posted.new.self
          within
          away
          c.post-posted.ensures.store c.post-posted.ensures.posts (eqb c.len.result f.limit)
          c.settle-self-inside.result c.settle-self-inside.new.outcome
          (ap (λ n. eqb n f.limit) (c.len.ensures ∙ f.trace.ok.0))
          (c.settle-self-inside.ensures.pick (schedule_of f.trace.items) c.self.invariant.1
          (post-known f.deal f.limit (g.P.Policy.plan f.policy) f.board f.trace.items f.next
          f.outcome (vec_capacity f.trace) kept running c.args.thread c.post-posted.result.alone
          c.post-posted.result.ready c.post-posted.new.self c.after_post-known.result
          c.post-posted.ensures.alone c.post-posted.ensures.targets c.post-posted.ensures.ready
          c.after_post-known.ensures))
          (c.settle-self-inside.ensures.outcome None running)),
      c.self.invariant.1,
    )

pub returns-then-is_none-clause-posted : goal.returns-then-is_none-clause-posted
returns-then-is_none-clause-posted g c = λ open_now.
    let f = c.self.inside in
    let kept = c.self.invariant.0 in
    let running : f.outcome ≡ None = none-from f.outcome c.if-is_none.ensures in
    let within : c.args.thread < (f.deal).threads =
    omega (arith, c.requires.thread, ap (λ (b : BookState). (b.deal).threads) c.self.view_is) in
    let away : next_posts_of (f.board).posts c.args.thread ≡ None =
    away-none (next_posts_of (f.board).posts c.args.thread)
    (sym (standing-told f.deal f.limit (g.P.Policy.plan f.policy) f.board f.trace.items f.next
    f.outcome (vec_capacity f.trace) kept c.args.thread)
    ∙ ap (λ (b : BookState). standing_of b c.args.thread) c.self.view_is ∙ c.requires.away) in
    let P : BookState × BoardState → Type 0 = λ x.
    IsPosted x.0 c.args.thread c.args.post
    (book_of_parts f.deal f.limit (g.P.Policy.plan f.policy) (x.1).posts
    f.trace.items c.settle-self-inside.new.outcome) in
    subst P (λ i. (c.self.view_is i, sym c.settle-self-inside.ensures.same i)) (record {
      making = record { deal = refl; limit = refl; plan = refl };
      trace = refl;
      posts =
          posts-after f.deal f.limit (g.P.Policy.plan f.policy) f.board f.trace.items f.next
          f.outcome (vec_capacity f.trace) kept running c.args.thread c.args.post
          c.post-posted.new.self
          within away c.post-posted.ensures.store c.post-posted.ensures.posts;
    })

pub returns-then-is_none-clause-lawful : goal.returns-then-is_none-clause-lawful
returns-then-is_none-clause-lawful g c =
    let f = c.self.inside in
    lawful-told f.deal f.limit (g.P.Policy.plan f.policy) c.settle-self-inside.new.board
    f.trace.items
    c.settle-self-inside.result c.settle-self-inside.new.outcome (vec_capacity f.trace)
    (invariant_of-self g c).0

pub returns-else-is_none-clause-lawful : goal.returns-else-is_none-clause-lawful
returns-else-is_none-clause-lawful g c =
    let f = c.self.inside in
    let P : BookState → Type 0 = IsLawful in
    subst P c.self.view_is (lawful-told f.deal f.limit (g.P.Policy.plan f.policy) f.board
    f.trace.items f.next f.outcome (vec_capacity f.trace) c.self.invariant.0)
