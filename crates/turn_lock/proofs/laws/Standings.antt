-- Who owes a post, by what a lawful book knows.
use Rattle.std.proofs.Common.{◌≡◌, ◌≢◌, ℕ, eqb, true, false, Option, None, Some, option_to_list, []}
use Rattle.std.proofs.Common.{◌++◌, length, map, refl, sym, ap, ◌∙◌, arith, eq-eqb, eqb-true}
use Rattle.std.proofs.lemmas.List.{append-nil, length-map}
use Rattle.std.proofs.lemmas.Option.{slice_get_past}
use Rattle.std.proofs.lemmas.Bool.{false≢true}
use Rattle.pct_ask.specs.declared.ask.Ask.{Ask}
use Rattle.pct_ask.specs.declared.ask.Post.{Post}
use Rattle.pct_ask.specs.declared.event.Standing.{Standing}
use Rattle.pct_ask.specs.declared.event.Standing.TheVariants.{Away, Asks, Ended}
use Rattle.turn_book.specs.Told.{BookState, IsLawful, next_post, standing_by, standing_by_ask}
use Rattle.turn_book.specs.Told.{standing_of, post_of_event}
use Rattle.turn_lock.specs.Seen.{SameOf, pairs_of, posts_seen, owes_of}

pub owes-length : (book : BookState) (t : ℕ) → owes_of book t ≡ true
    → length (posts_seen book t) ≡ length (pairs_of book t)
owes-length book t owes = eqb-true (length (posts_seen book t)) (length (pairs_of book t)) owes

-- a thread that owes a post is away
pub away : (book : BookState) (t : ℕ) → owes_of book t ≡ true → standing_of book t ≡ Away
away book t owes =
    ap standing_by (slice_get_past (posts_seen book t) (length (pairs_of book t))
    (let e = owes-length book t owes in omega (arith, e)))

-- and one whose next post isn't known owes it
owes-by : (book : BookState) (t : ℕ) (next : Option Post) → next_post book t ≡ next → IsLawful book
    → next ≡ None → owes_of book t ≡ true
owes-by book t next is lawful none =
    let e : posts_seen book t ≡ map post_of_event (pairs_of book t) ++ [] =
    lawful.posts t ∙ ap (λ o. map post_of_event (pairs_of book t) ++ option_to_list o)
    (is ∙ none) in
    let n : length (posts_seen book t) ≡ length (pairs_of book t) =
    ap length (e ∙ append-nil (map post_of_event (pairs_of book t)))
    ∙ length-map (pairs_of book t) post_of_event in
    eq-eqb (length (posts_seen book t)) (length (pairs_of book t)) n

ask-here : (ask : Option Ask) → standing_by_ask ask ≢ Away
ask-here None e = cc
ask-here (Some ask) e = cc

next-none : (next : Option Post) → standing_by next ≡ Away → next ≡ None
next-none None e = refl
next-none (Some post) e = absurd (ask-here post.ask e)

pub away-owes : (book : BookState) (t : ℕ) → IsLawful book → standing_of book t ≡ Away
    → owes_of book t ≡ true
away-owes book t lawful is =
    owes-by book t (next_post book t) refl lawful (next-none (next_post book t) is)

-- a thread that owes no post isn't away
pub here : (book : BookState) (t : ℕ) → IsLawful book → owes_of book t ≡ false
    → standing_of book t ≢ Away
here book t lawful posted is = false≢true (sym posted ∙ away-owes book t lawful is)

pub here-owes : (book : BookState) (t : ℕ) → standing_of book t ≢ Away → owes_of book t ≡ false
here-owes book t not =
    elim (owes_of book t) as (λ b. (b ≡ true → standing_of book t ≡ Away) → b ≡ false) [
      | true ↦ λ f. absurd (not (f refl))
      | false ↦ λ f. refl
    ] (away book t)

-- it is as it was where the thread has the same pairs and posts
pub same-owes : (t : ℕ) (one other : BookState) → SameOf t one other
    → owes_of other t ≡ owes_of one t
same-owes t one other s = λ i. eqb (length (s.posts i)) (length (s.pairs i))

pub asks-or-ended : (s : Standing) → s ≢ Away → s ≢ Ended → s ≡ Asks
asks-or-ended Away a e = absurd (a refl)
asks-or-ended Asks a e = refl
asks-or-ended Ended a e = absurd (e refl)
