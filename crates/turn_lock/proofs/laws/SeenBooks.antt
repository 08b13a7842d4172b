-- How what several have seen of one book stands to each other.
use Rattle.std.proofs.Common.{◌≡◌, ℕ, zero, suc, ◌<◌, ◌≤◌, eqb, cond, List, [], ◌∷◌, ◌++◌, length}
use Rattle.std.proofs.Common.{get_or, refl, sym, ap, ◌∙◌, subst, arith, inl, inr, ◌⊎◌, ⊎_elim}
use Rattle.std.proofs.Common.{length-append, le-ltb, lt-ltb}
use Rattle.std.proofs.lemmas.List.{append-nil, append_assoc}
use Rattle.std.proofs.lemmas.List.Elements.{filter-append}
use mathlib.Core.Logic.{dite}
use native.Mathlib.Decide.{dec_le}
use Rattle.pct_ask.specs.declared.Deal.{Deal}
use Rattle.pct_ask.specs.declared.ask.Post.{Post}
use Rattle.pct_ask.specs.declared.event.Event.{Event}
use Rattle.policy_pick.specs.Plan.{Plan}
use Rattle.turn_book.specs.Posts.{own_events, source_of, HasMore}
use Rattle.turn_book.specs.Obeys.{Obeys}
use Rattle.turn_book.specs.Told.{BookState, SameMaking, Within}
use Rattle.turn_book.proofs.laws.MorePosts.{obeys-more}
use Rattle.turn_book.proofs.laws.OwnSteps.{more-keeps}
use Rattle.turn_lock.specs.Seen.{Begins, SameOf, pairs_of, posts_seen, ObeysPlan}
use Rattle.turn_lock.specs.Seats.{longer_list, longer_posts, seen_together}

-- ---- lists
pub begins-self : {A : Type 0} (xs : List A) → Begins xs xs
begins-self xs = ([], sym (append-nil xs))

pub begins-along : {A : Type 0} (xs ys zs : List A) → Begins xs ys → Begins ys zs → Begins xs zs
begins-along xs ys zs p q = (p.0 ++ q.0, q.1 ∙ ap (λ l. l ++ q.0) p.1 ∙ append_assoc xs p.0 q.0)

abbrev tail_of : {A : Type 0} → List A → List A
tail_of [] = []
tail_of (x ∷ xs) = xs

-- of two beginnings of one list, the shorter begins the longer
pub begins-shorter : {A : Type 0} (xs ys zs : List A) → Begins xs zs → Begins ys zs
    → length xs ≤ length ys → Begins xs ys
begins-shorter [] ys zs p q h = (ys, refl)
begins-shorter (x ∷ xs) [] zs p q h = absurd (omega arith)
begins-shorter (x ∷ xs) (y ∷ ys) zs p q h =
    let e : y ∷ (ys ++ q.0) ≡ x ∷ (xs ++ p.0) = sym q.1 ∙ p.1 in
    let r = begins-shorter xs ys (ys ++ q.0) (p.0, ap tail_of e) (q.0, refl) (omega arith) in
    let same : y ≡ x = ap (λ l. get_or l 0 x) e in
    (r.0, λ i. same i ∷ r.1 i)

nothing-more : {A : Type 0} (ys more zs : List A) → zs ≡ ys ++ more → length more ≡ 0 → zs ≡ ys
nothing-more ys [] zs e h = e ∙ append-nil ys
nothing-more ys (x ∷ more) zs e h = absurd (omega arith)

-- a list between two that are the same is that list
between : {A : Type 0} (xs ys zs : List A) → Begins xs ys → Begins ys zs → zs ≡ xs → zs ≡ ys
between xs ys zs p q e =
    nothing-more ys q.0 zs q.1 (omega
    (arith, ap length p.1, ap length q.1, ap length e, length-append xs p.0, length-append ys q.0))

longer-is : {A : Type 0} (xs ys : List A)
    → ((longer_list xs ys ≡ ys) × (length xs < length ys))
    ⊎ ((longer_list xs ys ≡ xs) × (length ys ≤ length xs))
longer-is xs ys =
    dite (dec_le (length ys) (length xs))
    (λ le. inr (ap (λ b. cond b ys xs) (le-ltb (length xs) (length ys) le), le))
    (λ lt. let l : length xs < length ys = omega arith in
    inl (ap (λ b. cond b ys xs) (lt-ltb (length xs) (length ys) l), l))

longer-begins : {A : Type 0} (xs ys zs : List A) → Begins xs zs → Begins ys zs
    → Begins (longer_list xs ys) zs × Begins xs (longer_list xs ys) × Begins ys (longer_list xs ys)
longer-begins xs ys zs p q = ⊎_elim
    (λ t. subst (λ l. Begins l zs × Begins xs l × Begins ys l) (sym t.0)
    (q, begins-shorter xs ys zs p q (omega (arith, t.1)), begins-self ys))
    (λ t. subst (λ l. Begins l zs × Begins xs l × Begins ys l) (sym t.0)
    (p, begins-self xs, begins-shorter ys xs zs q p t.1)) (longer-is xs ys)

longer-none : {A : Type 0} (ys : List A) → longer_list [] ys ≡ ys
longer-none [] = refl
longer-none (y ∷ ys) = ⊎_elim (λ t. t.0) (λ t. absurd (omega (arith, t.1))) (longer-is [] (y ∷ ys))

longer-left : {A : Type 0} (xs : List A) → longer_list xs [] ≡ xs
longer-left xs = ⊎_elim (λ t. absurd (omega (arith, t.1))) (λ t. t.0) (longer-is xs [])

longer-at : (xs ys : List (List Post)) (t : ℕ)
    → get_or (longer_posts xs ys) t [] ≡ longer_list (get_or xs t []) (get_or ys t [])
longer-at [] ys t = sym (longer-none (get_or ys t []))
longer-at (x ∷ xs) [] t = sym (longer-left (get_or (x ∷ xs) t []))
longer-at (x ∷ xs) (y ∷ ys) zero = refl
longer-at (x ∷ xs) (y ∷ ys) (suc t) = longer-at xs ys t

-- ---- orders
pub making-self : (a : BookState) → SameMaking a a
making-self a = record { deal = refl; limit = refl; plan = refl }

pub making-along : (a b c : BookState) → SameMaking a b → SameMaking b c → SameMaking a c
making-along a b c p q = record {
  deal = q.deal ∙ p.deal;
  limit = q.limit ∙ p.limit;
  plan = q.plan ∙ p.plan;
}

pub within-self : (a : BookState) → Within a a
within-self a = record {
  making = making-self a;
  rest = [];
  trace = sym (append-nil a.trace);
  posts = λ t. begins-self (posts_seen a t);
}

traces : (a b : BookState) → Within a b → Begins a.trace b.trace
traces a b p = (p.rest, p.trace)

pub within-along : (a b c : BookState) → Within a b → Within b c → Within a c
within-along a b c p q = let t = begins-along a.trace b.trace c.trace (traces a b p)
    (traces b c q) in record {
      making = making-along a b c p.making q.making;
      rest = t.0;
      trace = t.1;
      posts = λ t. begins-along (posts_seen a t) (posts_seen b t) (posts_seen c t) (p.posts t)
          (q.posts t);
    }

pub same-self : (t : ℕ) (a : BookState) → SameOf t a a
same-self t a = record { pairs = refl; posts = refl }

pub same-along : (t : ℕ) (a b c : BookState) → SameOf t a b → SameOf t b c → SameOf t a c
same-along t a b c p q = record { pairs = q.pairs ∙ p.pairs; posts = q.posts ∙ p.posts }

-- what has the same as a later one has the same as each other
pub same-back : (t : ℕ) (a b c : BookState) → SameOf t a c → SameOf t b c → SameOf t a b
same-back t a b c p q = record { pairs = sym q.pairs ∙ p.pairs; posts = sym q.posts ∙ p.posts }

pairs-begin : (t : ℕ) (es fs : List Event) → Begins es fs
    → Begins (own_events t es) (own_events t fs)
pairs-begin t es fs p =
    (own_events t p.0, ap (own_events t) p.1 ∙ filter-append (λ e. eqb e.thread t) es p.0)

-- what is in between two that agree on a thread agrees with them
pub same-between : (t : ℕ) (a b c : BookState) → Within a b → Within b c → SameOf t a c
    → SameOf t b c
same-between t a b c p q s = record {
  pairs =
      between (pairs_of a t) (pairs_of b t) (pairs_of c t)
      (pairs-begin t a.trace b.trace (traces a b p)) (pairs-begin t b.trace c.trace (traces b c q))
      s.pairs;
  posts = between (posts_seen a t) (posts_seen b t) (posts_seen c t) (p.posts t)
      (q.posts t) s.posts;
}

-- ---- what two have seen together
-- steps that obey a plan over some posts obey it over more, in another book that was made with the
-- same
obeys-in : (plan : Plan) (deal : Deal) (limit : ℕ) (b : BookState) (posts : List (List Post))
    → plan ≡ b.plan → deal ≡ b.deal → limit ≡ b.limit → HasMore b.posts posts → ObeysPlan b
    → Obeys plan deal (source_of posts) limit b.trace
obeys-in plan deal limit b posts p d l more obeys =
    subst (λ (x : Plan × Deal × ℕ). Obeys x.0 x.1 (source_of posts) x.2 b.trace)
    (λ i. (sym p i, sym d i, sym l i))
    (obeys-more b.plan b.deal (source_of b.posts) (source_of posts) b.limit b.trace
    (more-keeps b.trace b.posts posts more) obeys)

pub record Meets (a b c : BookState) : Type 0 where
  pub within : Within (seen_together a b) c
  pub left : Within a (seen_together a b)
  pub right : Within b (seen_together a b)
  pub obeys : ObeysPlan (seen_together a b)

pub meets : (a b c : BookState) → Within a c → Within b c → ObeysPlan a → ObeysPlan b → Meets a b c
meets a b c p q one other =
    let both = longer-begins a.trace b.trace c.trace (traces a c p) (traces b c q) in
    let posts : (t : ℕ) → Begins (posts_seen (seen_together a b) t) (posts_seen c t)
    × Begins (posts_seen a t) (posts_seen (seen_together a b) t)
    × Begins (posts_seen b t) (posts_seen (seen_together a b) t) =
    λ t. subst (λ (l : List Post). Begins l (posts_seen c t) × Begins (posts_seen a t) l
    × Begins (posts_seen b t) l) (sym (longer-at a.posts b.posts t))
    (longer-begins (posts_seen a t) (posts_seen b t) (posts_seen c t) (p.posts t)
    (q.posts t)) in
    let making : SameMaking b a = record {
      deal = sym p.making.deal ∙ q.making.deal;
      limit = sym p.making.limit ∙ q.making.limit;
      plan = sym p.making.plan ∙ q.making.plan;
    } in
    let F : List Event → Type 0 = λ l.
    Obeys a.plan a.deal (source_of (longer_posts a.posts b.posts)) a.limit l in
    record {
      within = record {
        making = record { deal = p.making.deal; limit = p.making.limit; plan = p.making.plan };
        rest = both.0.0;
        trace = both.0.1;
        posts = λ t. (posts t).0;
      };
      left = record {
        making = record { deal = refl; limit = refl; plan = refl };
        rest = both.1.0;
        trace = both.1.1;
        posts = λ t. (posts t).1;
      };
      right = record {
        making = record { deal = making.deal; limit = making.limit; plan = making.plan };
        rest = both.2.0;
        trace = both.2.1;
        posts = λ t. (posts t).2;
      };
      obeys = ⊎_elim
          (λ t. subst F (sym t.0) (obeys-in a.plan a.deal a.limit b (longer_posts a.posts b.posts)
          making.plan making.deal making.limit (λ u. (posts u).2) other))
          (λ t. subst F (sym t.0) (obeys-in a.plan a.deal a.limit a (longer_posts a.posts b.posts)
          refl refl refl (λ u. (posts u).1) one))
          (longer-is a.trace b.trace);
    }
