-- The posts of each thread, from the steps and the next posts.
use Rattle.std.proofs.Common.{◌≡◌, ◌≢◌, ℕ, zero, suc, ◌+◌, ◌<◌, cond, Option, Some, None}
use Rattle.std.proofs.Common.{option_to_list, List, [], ◌∷◌, ◌++◌, length, get_or, set, map}
use Rattle.std.proofs.Common.{replicate, refl, sym, ap, ◌∙◌, arith, inl, inr, ne_eqb}
use Rattle.std.specs.Prelude.{slice_get}
use Rattle.std.proofs.lemmas.Bool.{cases_lt, cases_eq}
use Rattle.std.proofs.lemmas.List.{append-nil, map-append, length-map, get_or_past}
use Rattle.std.proofs.lemmas.List.{get_or-set_other, get_or-set_same}
use Rattle.pct_ask.specs.declared.ask.Post.{Post}
use Rattle.pct_ask.specs.declared.event.Event.{Event}
use Rattle.turn_book.specs.Posts.{own_events, posts_of, source_of, HasMore}
use Rattle.turn_book.specs.Told.{post_of_event}
use Rattle.turn_book.specs.Board.{next_posts_of}
use Rattle.turn_book.specs.Kept.{posts_from, posts_by}
use Rattle.turn_book.proofs.laws.OwnSteps.{events-own, events-other}

abbrev pub made : ℕ → List Event → List Post
made t events = map post_of_event (own_events t events)

made-own : (t : ℕ) (events : List Event) (e : Event) → e.thread ≡ t
    → made t (events ++ e ∷ []) ≡ made t events ++ post_of_event e ∷ []
made-own t events e own =
    ap (map post_of_event) (events-own t events e own)
    ∙ map-append post_of_event (own_events t events) (e ∷ [])

made-other : (t : ℕ) (events : List Event) (e : Event) → e.thread ≢ t
    → made t (events ++ e ∷ []) ≡ made t events
made-other t events e apart = ap (map post_of_event) (events-other t events e apart)

-- ---- all threads' posts
pub length-posts : (events : List Event) (k : ℕ) (next : List (Option Post))
    → length (posts_from events k next) ≡ length next
length-posts events k [] = refl
length-posts events k (p ∷ next) = ap suc (length-posts events (suc k) next)

posts-at : (events : List Event) (k i t : ℕ) (next : List (Option Post)) → t ≡ k + i
    → i < length next → get_or (posts_from events k next) i []
    ≡ made t events ++ option_to_list (get_or next i None)
posts-at events k i t [] e within = absurd (omega arith)
posts-at events k zero t (p ∷ next) e within = let same : k ≡ t = omega arith in
    ap (λ n. made n events ++ option_to_list p) same
posts-at events k (suc i) t (p ∷ next) e within =
    posts-at events (suc k) i t next (omega arith) (omega arith)

-- an item behind a list
slice_get-behind : {X : Type 0} (xs : List X) (o : Option X) (n : ℕ) → n ≡ length xs
    → slice_get (xs ++ option_to_list o) n ≡ o
slice_get-behind [] None zero e = refl
slice_get-behind [] (Some x) zero e = refl
slice_get-behind [] o (suc n) e = absurd (omega arith)
slice_get-behind (x ∷ xs) o zero e = absurd (omega arith)
slice_get-behind (x ∷ xs) o (suc n) e = slice_get-behind xs o n (omega arith)

-- a thread's next post is the one that is listed
pub next-is : (events : List Event) (next : List (Option Post)) (t : ℕ)
    → source_of (posts_by events next) t events ≡ next_posts_of next t
next-is events next t = elim (cases_lt t (length next)) [
  | inl within ↦ ap (λ ps. slice_get ps (length (own_events t events)))
      (posts-at events 0 t t next (omega arith) within)
      ∙ slice_get-behind (made t events) (next_posts_of next t) (length (own_events t events))
      (sym (length-map (own_events t events) post_of_event))
  | inr past ↦
      let none : List Post = [] in
      let nothing : Option Post = None in
      ap (λ ps. slice_get ps (length (own_events t events)))
      (get_or_past (posts_by events next) t none (omega (arith, length-posts events 0 next)))
      ∙ sym (get_or_past next t nothing past)
]

-- a thread's posts are those of its steps, and its next one
filter-none : (t : ℕ) (events : List Event)
    → ((e : Event) (before after : List Event) → events ≡ before ++ e ∷ after → e.thread ≢ t)
    → own_events t events ≡ []
filter-none t [] none = refl
filter-none t (e ∷ events) none =
    ap (λ b. cond b (e ∷ own_events t events) (own_events t events))
    (ne_eqb e.thread t (none e [] events refl))
    ∙ filter-none t events (λ f before after cut. none f (e ∷ before) after (ap (λ l. e ∷ l) cut))

pub posts-are : (events : List Event) (next : List (Option Post)) (t : ℕ)
    → ((e : Event) (before after : List Event) → events ≡ before ++ e ∷ after
    → e.thread < length next) → posts_of (posts_by events next) t
    ≡ made t events ++ option_to_list (next_posts_of next t)
posts-are events next t within = elim (cases_lt t (length next)) [
  | inl there ↦ posts-at events 0 t t next (omega arith) there
  | inr past ↦
      let none : List Post = [] in
      let nothing : Option Post = None in
      let quiet : own_events t events ≡ [] =
      filter-none t events (λ e before after cut same. let low = within e before after cut in
      omega arith) in
      get_or_past (posts_by events next) t none (omega (arith, length-posts events 0 next))
      ∙ sym (ap (λ o. option_to_list o) (get_or_past next t nothing past))
      ∙ ap (λ es. map post_of_event es ++ option_to_list (next_posts_of next t)) (sym quiet)
]

-- ---- a post
posts-set : (events : List Event) (k i : ℕ) (post : Post) (next : List (Option Post))
    → i < length next → get_or next i None ≡ None
    → posts_from events k (set next i (Some post))
    ≡ set (posts_from events k next) i (get_or (posts_from events k next) i [] ++ post ∷ [])
posts-set events k i post [] within away = absurd (omega arith)
posts-set events k zero post (p ∷ next) within away =
    let none : made k events ++ option_to_list p ≡ made k events =
    ap (λ o. made k events ++ option_to_list o) away ∙ append-nil (made k events) in
    ap (λ l. (l ++ post ∷ []) ∷ posts_from events (suc k) next) (sym none)
posts-set events k (suc i) post (p ∷ next) within away =
    ap (λ l. (made k events ++ option_to_list p) ∷ l)
    (posts-set events (suc k) i post next (omega arith) away)

pub posts-posted : (events : List Event) (next : List (Option Post)) (t : ℕ) (post : Post)
    → t < length next → next_posts_of next t ≡ None
    → posts_by events (set next t (Some post))
    ≡ set (posts_by events next) t (posts_of (posts_by events next) t ++ post ∷ [])
posts-posted events next t post within away = posts-set events 0 t post next within away

-- ---- a step
posts-else : (events : List Event) (k : ℕ) (e : Event) (next : List (Option Post)) → e.thread < k
    → posts_from (events ++ e ∷ []) k next ≡ posts_from events k next
posts-else events k e [] low = refl
posts-else events k e (p ∷ next) low =
    λ j. (made-other k events e (λ same. omega arith) j ++ option_to_list p)
    ∷ posts-else events (suc k) e next (omega arith) j

posts-take : (events : List Event) (k i : ℕ) (e : Event) (next : List (Option Post))
    → e.thread ≡ k + i → i < length next → get_or next i None ≡ Some (post_of_event e)
    → posts_from (events ++ e ∷ []) k (set next i None) ≡ posts_from events k next
posts-take events k i e [] at within asks = absurd (omega arith)
posts-take events k zero e (p ∷ next) at within asks =
    let own : e.thread ≡ k = omega arith in
    let front : made k (events ++ e ∷ []) ++ [] ≡ made k events ++ option_to_list p =
    append-nil (made k (events ++ e ∷ [])) ∙ made-own k events e own
    ∙ ap (λ o. made k events ++ option_to_list o) (sym asks) in
    λ j. front j ∷ posts-else events (suc k) e next (omega arith) j
posts-take events k (suc i) e (p ∷ next) at within asks =
    λ j. (made-other k events e (λ same. omega arith) j ++ option_to_list p)
    ∷ posts-take events (suc k) i e next (omega arith) (omega arith) asks j

pub posts-taken : (events : List Event) (next : List (Option Post)) (t : ℕ) (e : Event)
    → e.thread ≡ t → t < length next → next_posts_of next t ≡ Some (post_of_event e)
    → posts_by (events ++ e ∷ []) (set next t None) ≡ posts_by events next
posts-taken events next t e own within asks = posts-take events 0 t e next (omega arith) within asks

pub set-more : (posts : List (List Post)) (t : ℕ) (post : Post) → t < length posts
    → HasMore posts (set posts t (posts_of posts t ++ post ∷ []))
set-more posts t post within u = elim (cases_eq u t) [
  | inl same ↦ (
    post ∷ [],
    ap (posts_of (set posts t (posts_of posts t ++ post ∷ []))) same
        ∙ get_or-set_same posts t (posts_of posts t ++ post ∷ []) [] within
        ∙ ap (λ k. posts_of posts k ++ post ∷ []) (sym same),
  )
  | inr apart ↦ (
    [],
    get_or-set_other posts t u (posts_of posts t ++ post ∷ []) [] apart
        ∙ sym (append-nil (posts_of posts u)),
  )
]

-- ---- no posts
pub posts-none : (k n : ℕ) → posts_from [] k (replicate n None) ≡ replicate n []
posts-none k zero = refl
posts-none k (suc n) = ap (λ l. [] ∷ l) (posts-none (suc k) n)
