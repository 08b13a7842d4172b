-- A post and a step each make a later sight of a book, and change what one thread has alone.
use Rattle.std.proofs.Common.{◌≡◌, ◌≢◌, ℕ, ℤ, ◌<◌, List, [], ◌∷◌, ◌++◌, length, sym, ap, subst, ◌∙◌}
use Rattle.std.proofs.lemmas.List.{append-nil, get_or-set_other, get_or-set_same}
use Rattle.pct_ask.specs.declared.ask.Post.{Post}
use Rattle.turn_book.specs.Posts.{own_events, posts_of, HasMore}
use Rattle.turn_book.specs.Told.{BookState, IsPosted, IsAnswered, Within}
use Rattle.turn_book.proofs.laws.OwnSteps.{events-own, events-other}
use Rattle.turn_book.proofs.PostLists.{set-more}

more-same : (earlier later : List (List Post)) → later ≡ earlier → HasMore earlier later
more-same earlier later e t =
    ([], ap (λ posts. posts_of posts t) e ∙ sym (append-nil (posts_of earlier t)))

-- ---- a post
module _ (old new : BookState) (t : ℕ) (post : Post) (within : t < length old.posts)
    (posted : IsPosted old t post new) where
  pub within-posted : Within old new
  within-posted =
      let P : List (List Post) → Type 0 = HasMore old.posts in
      record {
        making = posted.making;
        rest = [];
        trace = posted.trace ∙ sym (append-nil old.trace);
        posts = subst P (sym posted.posts) (set-more old.posts t post within);
      }

  pub posted-own : posts_of new.posts t ≡ posts_of old.posts t ++ post ∷ []
  posted-own = let none : List Post = [] in
      ap (λ posts. posts_of posts t) posted.posts
      ∙ get_or-set_same old.posts t (posts_of old.posts t ++ post ∷ []) none within

  pub posted-other : (u : ℕ) → u ≢ t → posts_of new.posts u ≡ posts_of old.posts u
  posted-other u apart = let none : List Post = [] in
      ap (λ posts. posts_of posts u) posted.posts
      ∙ get_or-set_other old.posts t u (posts_of old.posts t ++ post ∷ []) none apart

-- ---- a step
module _ (old new : BookState) (t : ℕ) (answer : ℤ) (answered : IsAnswered old t answer new) where
  pub within-answered : Within old new
  within-answered = record {
    making = answered.making;
    rest = answered.event ∷ [];
    trace = answered.trace;
    posts = more-same old.posts new.posts answered.posts;
  }

  pub answered-own : own_events t new.trace ≡ own_events t old.trace ++ answered.event ∷ []
  answered-own =
      ap (own_events t) answered.trace ∙ events-own t old.trace answered.event answered.thread

  pub answered-other : (u : ℕ) → u ≢ t → own_events u new.trace ≡ own_events u old.trace
  answered-other u apart =
      ap (own_events u) answered.trace
      ∙ events-other u old.trace answered.event (λ same. apart (sym same ∙ answered.thread))
