-- A thread's own steps, and more of its posts.
use Rattle.std.proofs.Common.{◌≡◌, ◌≢◌, ℕ, zero, suc, cond, eqb, Some, List, [], ◌∷◌, ◌++◌, length}
use Rattle.std.proofs.Common.{ap, ◌∙◌, eq-eqb, ne_eqb}
use Rattle.std.specs.Prelude.{slice_get}
use Rattle.std.specs.List.{filter}
use Rattle.std.proofs.lemmas.List.{append-nil}
use Rattle.std.proofs.lemmas.List.Elements.{filter-append}
use Rattle.pct_ask.specs.declared.ask.Post.{Post}
use Rattle.pct_ask.specs.declared.event.Event.{Event}
use Rattle.turn_book.specs.Posts.{own_events, posts_of, source_of, HasMore, KeepsPosts}

-- ---- a thread's own steps
pub events-own : (t : ℕ) (events : List Event) (e : Event) → e.thread ≡ t
    → own_events t (events ++ e ∷ []) ≡ own_events t events ++ e ∷ []
events-own t events e own =
    let one : filter (λ x. eqb x.thread t) (e ∷ []) ≡ e ∷ [] =
    ap (λ b. cond b (e ∷ []) []) (eq-eqb e.thread t own) in
    filter-append (λ (x : Event). eqb x.thread t) events (e ∷ [])
    ∙ ap (λ es. own_events t events ++ es) one

pub events-other : (t : ℕ) (events : List Event) (e : Event) → e.thread ≢ t
    → own_events t (events ++ e ∷ []) ≡ own_events t events
events-other t events e apart =
    let none : filter (λ x. eqb x.thread t) (e ∷ []) ≡ [] =
    ap (λ b. cond b (e ∷ []) []) (ne_eqb e.thread t apart) in
    filter-append (λ (x : Event). eqb x.thread t) events (e ∷ [])
    ∙ ap (λ es. own_events t events ++ es) none ∙ append-nil (own_events t events)

-- ---- more posts
slice_get-more : {X : Type 0} (xs more : List X) (n : ℕ) (x : X) → slice_get xs n ≡ Some x
    → slice_get (xs ++ more) n ≡ Some x
slice_get-more [] more n x e = absurd cc
slice_get-more (y ∷ xs) more zero x e = e
slice_get-more (y ∷ xs) more (suc n) x e = slice_get-more xs more n x e

-- with more posts of each thread, each post of before is where it was
pub more-keeps : (events : List Event) (earlier later : List (List Post)) → HasMore earlier later
    → KeepsPosts events (source_of earlier) (source_of later)
more-keeps events earlier later more before after t post cut e =
    ap (λ ps. slice_get ps (length (own_events t before))) (more t).1
    ∙ slice_get-more (posts_of earlier t) (more t).0 (length (own_events t before)) post e
