-- A thread is split off from a seat that serves runners, and its seat is joined again.
use Rattle.std.proofs.Common.{◌≡◌, ◌≢◌, ℕ, zero, suc, ◌+◌, ◌<◌, Option, Some, None, List, [], ◌∷◌}
use Rattle.std.proofs.Common.{get_or, set, refl, sym, ap, subst, ◌∙◌, arith, inl, inr}
use Rattle.std.proofs.lemmas.Bool.{cases_eq}
use Rattle.std.proofs.lemmas.List.{get_or-set_same, get_or-set_other}
use Rattle.pct_ask.specs.declared.ask.Post.{Post}
use Rattle.pct_ask.specs.Bodies.{Pending}
use Rattle.turn_book.specs.Told.{Within}
use Rattle.turn_lock.specs.Seen.{SameOf, ObeysPlan, posts_seen}
use Rattle.turn_lock.specs.Rule.{Serves}
use Rattle.turn_lock.specs.Seats.{seat_without, seat_of_one, joined_seat, longer_list, longer_posts}
use Rattle.turn_lock.specs.declared.view.View.{View}
use Rattle.turn_lock.proofs.laws.Serving.{alone-one, alone-has, without-not, without-had}
use Rattle.turn_lock.proofs.laws.Serving.{without-has, joined-left, joined-right, joined-either}
use Rattle.turn_lock.proofs.laws.SeenBooks.{within-self, within-along}
use Rattle.worker_run.specs.declared.runner.Runner.{Runner}
use Rattle.worker_run.specs.Served.{IsUnposted, IsWhole, IsRunning, runner_at, IsShare}
use Rattle.worker_run.proofs.Shares.{runner-within}

-- ---- split off
module _ {B : Type 0} (pending : B → Pending) (runners : List (Option (Runner B))) (t : ℕ)
    (runner : Runner B) (at : runner_at runners t ≡ Some runner) (below : t < 64) (v : View) where
  abbrev rest : List (Option (Runner B))
  rest = set runners t None

  pub rest-none : runner_at rest t ≡ None
  rest-none = get_or-set_same runners t None None (runner-within runners t runner at)

  rest-other : (p : ℕ) → p ≢ t → runner_at rest p ≡ runner_at runners p
  rest-other p apart = get_or-set_other runners t p None None apart

  module _ (start : ℕ → Pending) (share : IsShare pending start 0 runners v) where
    mine : Serves v t × IsRunning (start t) (pending runner.body) runner.answered t v.seen
    mine = share.running t t runner (omega arith) at

    pub split-serves : Serves v t
    split-serves = mine.0

    pub split-rest : IsShare pending start 0 rest (seat_without v t)
    split-rest = record {
      index = λ u here.
          let was = share.index u (without-had v t u here) in
          let apart : was.0 ≢ t = λ e. without-not v t u here (omega (arith, was.2, e)) in
          (was.0, was.1, was.2, rest-other was.0 apart ∙ was.3);
      running = λ u p r of is. elim (cases_eq p t) [
        | inl same ↦ absurd (let both = sym rest-none ∙ ap (runner_at rest) (sym same) ∙ is in cc)
        | inr apart ↦
            let was = share.running u p r of (sym (rest-other p apart) ∙ is) in
            (without-has v t u (λ e. apart (omega (arith, of, e))) was.0, was.1)
      ];
    }

    own : (u p : ℕ) (r : Runner B) → u ≡ t + p → runner_at (Some runner ∷ []) p ≡ Some r
        → Serves (seat_of_one v t) u × IsRunning (start u) (pending r.body) r.answered u v.seen
    own u zero r of is =
        let same : runner ≡ r = cc in
        let here : t ≡ u = omega (arith, of) in
        let P : ℕ → Type 0 = λ x. Serves (seat_of_one v t) x
        × IsRunning (start x) (pending r.body) r.answered x v.seen in
        let R : Runner B → Type 0 = λ x. IsRunning (start t) (pending x.body) x.answered t v.seen in
        subst P here (alone-has v t below, subst R same mine.1)
    own u (suc p) r of is = absurd cc

    pub split-own : IsShare pending start t (Some runner ∷ []) (seat_of_one v t)
    split-own = record {
      index = λ u here. (0, runner, (let e = alone-one v t u here in omega (arith, e)), refl);
      running = own;
    }

-- ---- joined again
pub posts-none : (ones others : List (List Post)) (t : ℕ) → get_or ones t [] ≡ []
    → get_or others t [] ≡ [] → get_or (longer_posts ones others) t [] ≡ []
posts-none [] others t e f = f
posts-none (one ∷ ones) [] t e f = e
posts-none (one ∷ ones) (other ∷ others) zero e f = λ i. longer_list (e i) (f i)
posts-none (one ∷ ones) (other ∷ others) (suc t) e f = posts-none ones others t e f

-- what a join tells
pub record IsJoin (a b w : View) : Type 0 where
  pub is : w ≡ joined_seat a b
  pub seen : Within a.seen w.seen × Within b.seen w.seen
  pub own : (t : ℕ) → Serves a t → SameOf t a.seen w.seen
  pub theirs : (t : ℕ) → Serves b t → SameOf t b.seen w.seen
  pub obeys : ObeysPlan w.seen

-- ---- all threads of a seat, one after another
pub whole-first : (v : View) → IsUnposted v.seen → IsWhole 1 v.seen (seat_of_one v 0)
whole-first v unposted = record {
  serves =
      λ t below. (let e : 0 ≡ t = omega arith in
      subst (Serves (seat_of_one v 0)) e (alone-has v 0 (omega arith)));
  within = λ t here. (let e = alone-one v 0 t here in omega (arith, e));
  unposted = unposted;
  later = within-self v.seen;
}

pub whole-more : (k : ℕ) (u all w : View) → k < 64 → IsUnposted u.seen → IsWhole k u.seen all
    → IsJoin all (seat_of_one u k) w → IsWhole (k + 1) u.seen w
whole-more k u all w below unposted whole j = record {
  serves = λ t within. elim (cases_eq t k) [
    | inl same ↦ subst (Serves w) (sym same)
        (joined-right all (seat_of_one u k) w k j.is (alone-has u k below))
    | inr apart ↦ joined-left all (seat_of_one u k) w t j.is (whole.serves t (omega (arith, apart)))
  ];
  within = λ t here. elim (joined-either all (seat_of_one u k) w t j.is here) [
    | inl left ↦ (let was = whole.within t left in omega (arith, was))
    | inr right ↦ (let e = alone-one u k t right in omega (arith, e))
  ];
  unposted = record {
    steps =
        ap (λ (x : View). x.seen.trace) j.is
        ∙ (λ i. longer_list ((whole.unposted).steps i) (unposted.steps i));
    posts =
        λ t. ap (λ (x : View). posts_seen x.seen t) j.is
        ∙ posts-none (all.seen).posts (u.seen).posts t ((whole.unposted).posts t)
        (unposted.posts t);
  };
  later = within-along u.seen all.seen w.seen whole.later j.seen.0;
}
