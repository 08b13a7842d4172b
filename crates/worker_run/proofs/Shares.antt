-- Runners and the seat that serves them: what a move of one thread leaves, and what was served by
-- the end.
use Rattle.std.proofs.Common.{◌≡◌, ◌≢◌, ℕ, zero, suc, ◌+◌, ◌<◌, ◌≤◌, true, false, Option, Some}
use Rattle.std.proofs.Common.{None, List, [], ◌∷◌, length, get_or, set, refl, sym, ap, subst, ◌∙◌}
use Rattle.std.proofs.Common.{arith, ◌⊎◌, inl, inr}
use Rattle.std.specs.Prelude.{slice_get, is_some}
use Rattle.std.proofs.lemmas.Bool.{cases_eq, false≢true}
use Rattle.std.proofs.lemmas.List.{length-set, get_or-set_same, get_or-set_other, get_or_past}
use Rattle.std.proofs.lemmas.List.{get_or_default}
use Rattle.pct_ask.specs.declared.Deal.{Deal}
use Rattle.pct_ask.specs.declared.event.Standing.TheVariants.{Ended as HasEnded}
use Rattle.pct_ask.specs.Bodies.{Pending}
use Rattle.turn_book.specs.Told.{BookState, IsLawful, Within, standing_by, standing_of}
use Rattle.turn_lock.specs.Seen.{SameOf, pairs_of, posts_seen, owes_of}
use Rattle.turn_lock.specs.Rule.{Serves}
use Rattle.turn_lock.specs.declared.view.View.{View}
use Rattle.turn_lock.proofs.laws.Serving.{serves-along}
use Rattle.turn_lock.proofs.laws.Standings.{same-owes}
use Rattle.turn_lock.proofs.laws.SeenBooks.{within-self, within-along, same-self, same-along}
use Rattle.worker_run.specs.declared.runner.Runner.{Runner}
use Rattle.worker_run.specs.Served.{Follows, IsRunning, runner_at, IsShare, AllOwe, GoesOn, Moves}
use Rattle.worker_run.specs.Served.{IsOver, StaysOutside, IsServed}
use Rattle.worker_run.proofs.Running.{running-same}

-- ---- the seat goes on
pub on-self : (v : View) → GoesOn v v
on-self v = record { within = within-self v.seen; serves = refl }

pub on-along : (u v w : View) → GoesOn u v → GoesOn v w → GoesOn u w
on-along u v w p q = record {
  within = within-along u.seen v.seen w.seen p.within q.within;
  serves = q.serves ∙ p.serves;
}

pub serves-on : (v w : View) (t : ℕ) → GoesOn v w → Serves v t → Serves w t
serves-on v w t on = serves-along t v w (sym on.serves)

pub serves-back : (v w : View) (t : ℕ) → GoesOn v w → Serves w t → Serves v t
serves-back v w t on = serves-along t w v on.serves

pub moves-self : (t : ℕ) (v : View) → Moves t v v
moves-self t v = record { on = on-self v; others = λ u here apart. same-self u v.seen }

pub moves-along : (t : ℕ) (u v w : View) → Moves t u v → Moves t v w → Moves t u w
moves-along t u v w p q = record {
  on = on-along u v w p.on q.on;
  others =
      λ x here apart. same-along x u.seen v.seen w.seen (p.others x here apart)
      (q.others x (serves-on u v x p.on here) apart);
}

-- ---- runners
no-runner : {X : Type 0} (x : X) → None ≡ Some x → ⊥
no-runner x e = cc

pub runner-within : {B : Type 0} (runners : List (Option (Runner B))) (index : ℕ) (r : Runner B)
    → runner_at runners index ≡ Some r → index < length runners
runner-within [] index r e = absurd (no-runner r e)
runner-within (x ∷ runners) zero r e = omega arith
runner-within (x ∷ runners) (suc index) r e = let there = runner-within runners index r e in
    omega arith

module _ {B : Type 0} (pending : B → Pending) (start : ℕ → Pending) (base : ℕ) where
  -- after a move of one thread
  module _ (runners : List (Option (Runner B))) (v w : View)
      (share : IsShare pending start base runners v) (t index : ℕ) (at_index : t ≡ base + index)
      (r : Runner B) (at : runner_at runners index ≡ Some r) (moves : Moves t v w)
      (then : Runner B) (running : IsRunning (start t) (pending then.body) then.answered t
      w.seen) where
    abbrev after : List (Option (Runner B))
    after = set runners index (Some then)

    at-own : runner_at after index ≡ Some then
    at-own = get_or-set_same runners index (Some then) None (runner-within runners index r at)

    at-other : (p : ℕ) → p ≢ index → runner_at after p ≡ runner_at runners p
    at-other p apart = get_or-set_other runners index p (Some then) None apart

    pub share-moved : IsShare pending start base after w
    share-moved = record {
      index = λ u here.
          let was = share.index u (serves-back v w u moves.on here) in
          elim (cases_eq was.0 index) [
            | inl same ↦ (index, then, was.2 ∙ ap (λ p. base + p) same, at-own)
            | inr apart ↦ (was.0, was.1, was.2, at-other was.0 apart ∙ was.3)
          ];
      running = λ u p runner of is. elim (cases_eq p index) [
        | inl same ↦
            let own : t ≡ u = omega (arith, same, of, at_index) in
            let mine : then ≡ runner = let both = sym at-own ∙ ap (runner_at after) (sym same)
            ∙ is in cc in
            let R : ℕ → Type 0 = λ x. Serves w x
            × IsRunning (start x) (pending runner.body) runner.answered x w.seen in
            let S : Runner B → Type 0 = λ x.
            IsRunning (start t) (pending x.body) x.answered t w.seen in
            subst R own (
              serves-on v w t moves.on (share.running t index r at_index at).0,
              subst S mine running,
            )
        | inr apart ↦
            let was = share.running u p runner of (sym (at-other p apart) ∙ is) in (
              serves-on v w u moves.on was.0,
              running-same (start u) (pending runner.body) runner.answered u v.seen w.seen
                  (moves.others u was.0 (λ e. apart (omega (arith, e, of, at_index)))) was.1,
            )
      ];
    }

  -- each thread of the seat follows its body
  pub share-follows : (runners : List (Option (Runner B))) (v : View)
      → IsShare pending start base runners v → (t : ℕ) → Serves v t → Follows (start t) t v.seen
  share-follows runners v share t here = let was = share.index t here in
      ((share.running t was.0 was.1 was.2 was.3).1).follows

-- ---- what was served by the end
past : (book : BookState) → IsLawful book → (t : ℕ) → book.deal.threads ≤ t → posts_seen book t ≡ []
past book lawful t beyond = get_or_past book.posts t [] (omega (arith, lawful.threads))

pub lawful-outside : (earlier later : BookState) → IsLawful later → StaysOutside earlier later
lawful-outside earlier later lawful t beyond none = past later lawful t beyond

-- a seat that serves nobody
pub served-nobody : (start : ℕ → Pending) (v : View) → ((t : ℕ) → Serves v t → ⊥)
    → IsServed start v v
served-nobody start v nobody = record {
  within = within-self v.seen;
  serves = λ t here. here;
  follows = λ t here. absurd (nobody t here);
  speaks = λ t here. absurd (nobody t here);
  outside = λ t beyond none. none;
  done = inr (λ t here. absurd (nobody t here));
}

module _ (start : ℕ → Pending) (v u w : View) (served : IsServed start u w) where
  -- the seat had gone on before
  pub served-wider : Within v.seen u.seen → ((t : ℕ) → Serves v t → Serves u t)
      → StaysOutside v.seen u.seen → IsServed start v w
  served-wider within serves outside = record {
    within = within-along v.seen u.seen w.seen within served.within;
    serves = λ t here. served.serves t (serves t here);
    follows = λ t here. served.follows t (serves t here);
    speaks = λ t here. served.speaks t (serves t here);
    outside =
        λ t beyond none. served.outside t beyond
        (outside t (let same = ap (λ (d : Deal). d.threads) ((served.within).making).deal in
        omega (arith, same)) none);
    done = elim served.done [
      | inl over ↦ inl over
      | inr ended ↦ inr (λ t here. ended t (serves t here))
    ];
  }

pub same-standing : (t : ℕ) (one other : BookState) → SameOf t one other
    → standing_of other t ≡ standing_of one t
same-standing t one other same =
    ap standing_by (ap (λ ps. slice_get ps (length (pairs_of other t))) same.posts
    ∙ ap (λ (es : List _). slice_get (posts_seen one t) (length es)) same.pairs)

-- ---- one runner
module _ {B : Type 0} (pending : B → Pending) (start : ℕ → Pending) (t : ℕ) (runner : Runner B)
    (v : View) (own : IsShare pending start t (Some runner ∷ []) v) where
  pub own-serves : Serves v t
  own-serves = (own.running t 0 runner (omega arith) refl).0

  pub own-running : IsRunning (start t) (pending runner.body) runner.answered t v.seen
  own-running = (own.running t 0 runner (omega arith) refl).1

  pub own-thread : (u : ℕ) → Serves v u → u ≡ t
  own-thread u here = by (own.index u here) where
    by : ((q : ℕ) × (r : Runner B) × (u ≡ t + q) × (runner_at (Some runner ∷ []) q ≡ Some r))
        → u ≡ t
    by (zero, r, is, at) = omega (arith, is)
    by (suc q, r, is, at) = absurd cc

  -- it was served until the run was over or it had ended
  pub own-served : (w : View) (now : Pending) (answered : ℕ) → GoesOn v w → IsLawful w.seen
      → IsRunning (start t) now answered t w.seen
      → IsOver w.seen ⊎ ((u : ℕ) → Serves v u → standing_of w.seen u ≡ HasEnded)
      → IsServed start v w
  own-served w now answered on lawful running done = record {
    within = on.within;
    serves = λ u here. serves-on v w u on here;
    follows = λ u here. let F : ℕ → Type 0 = λ x. Follows (start x) x w.seen in
        subst F (sym (own-thread u here)) running.follows;
    speaks = λ u here. lawful.speaks;
    outside = lawful-outside v.seen w.seen lawful;
    done = done;
  }

-- ---- some runners
module _ {B : Type 0} (pending : B → Pending) (start : ℕ → Pending)
    (after : List (Option (Runner B))) (v w : View) (on : GoesOn v w) (lawful : IsLawful w.seen)
    (share : IsShare pending start 0 after w) where
  pub share-served : IsOver w.seen ⊎ ((u : ℕ) → Serves w u → standing_of w.seen u ≡ HasEnded)
      → IsServed start v w
  share-served done = record {
    within = on.within;
    serves = λ u here. serves-on v w u on here;
    follows = λ u here. share-follows pending start 0 after w share u (serves-on v w u on here);
    speaks = λ u here. lawful.speaks;
    outside = lawful-outside v.seen w.seen lawful;
    done = elim done [
      | inl over ↦ inl over
      | inr ended ↦ inr (λ u here. ended u (serves-on v w u on here))
    ];
  }

-- an index that has a runner
pub some-at : {B : Type 0} (runners : List (Option (Runner B))) (index : ℕ) (o : Option (Runner B))
    → index < length runners → o ≡ get_or runners index o → is_some o ≡ true
    → (p : ℕ) × (r : Runner B) × (runner_at runners p ≡ Some r)
some-at runners index None within is e = absurd (false≢true e)
some-at runners index (Some r) within is e =
    (index, r, get_or_default runners index None (Some r) within ∙ sym is)

-- what is read at an index and put there again changes nothing
pub set-read : {X : Type 0} (items : List X) (index : ℕ) (x : X)
    → set items index (get_or items index x) ≡ items
set-read [] index x = refl
set-read (y ∷ items) zero x = refl
set-read (y ∷ items) (suc index) x = ap (λ l. y ∷ l) (set-read items index x)

-- what was read at an index
pub runner-read : {B : Type 0} (runners : List (Option (Runner B))) (index : ℕ)
    (o : Option (Runner B)) (r : Runner B) → index < length runners
    → get_or runners index o ≡ Some r → runner_at runners index ≡ Some r
runner-read runners index o r within is = get_or_default runners index None o within ∙ is

pub none-read : {B : Type 0} (runners : List (Option (Runner B))) (index : ℕ)
    (o : Option (Runner B)) → index < length runners
    → ((r : Runner B) → get_or runners index o ≡ Some r → ⊥) → runner_at runners index ≡ None
none-read runners index o within not = by (get_or runners index o) refl where
  by : (x : Option (Runner _)) → get_or runners index o ≡ x → runner_at runners index ≡ None
  by None is = get_or_default runners index None o within ∙ is
  by (Some r) is = absurd (not r is)

-- an index without a runner may be emptied
pub share-emptied : {B : Type 0} (pending : B → Pending) (start : ℕ → Pending)
    (runners : List (Option (Runner B))) (index : ℕ) (v : View) → runner_at runners index ≡ None
    → IsShare pending start 0 runners v → IsShare pending start 0 (set runners index None) v
share-emptied pending start runners index v none share = record {
  index = λ t here.
      let was = share.index t here in
      let apart : was.0 ≢ index = λ e.
      (let both = sym none ∙ ap (runner_at runners) (sym e) ∙ was.3 in cc) in
      (was.0, was.1, was.2, get_or-set_other runners index was.0 None None apart ∙ was.3);
  running = λ t p r of is. elim (cases_eq p index) [
    | inl same ↦ absurd (let both = sym (emptied runners index none)
        ∙ ap (runner_at (set runners index None)) (sym same) ∙ is in cc)
    | inr apart ↦ share.running t p r of
        (sym (get_or-set_other runners index p None None apart) ∙ is)
  ];
} where
  emptied : {B : Type 0} (runners : List (Option (Runner B))) (index : ℕ)
      → runner_at runners index ≡ None → runner_at (set runners index None) index ≡ None
  emptied [] index none = none
  emptied (x ∷ runners) zero none = refl
  emptied (x ∷ runners) (suc index) none = emptied runners index none

-- ---- the first posts, one runner after another
pub record IsBegun {B : Type 0} (pending : B → Pending) (first : List (Option (Runner B)))
    (v : View) (index : ℕ) (runners : List (Option (Runner B))) (w : View) : Type 0 where
  pub share : (start : ℕ → Pending) → IsShare pending start 0 first v
      → IsShare pending start 0 runners w
  pub on : GoesOn v w
  pub long : length runners ≡ length first
  pub posted : (t : ℕ) → Serves w t → t < index → owes_of w.seen t ≡ false
  pub owe : (t : ℕ) → Serves w t → index ≤ t → owes_of w.seen t ≡ true
  pub lawful : (t : ℕ) → Serves w t → t < index → IsLawful w.seen

module _ {B : Type 0} (pending : B → Pending) (first : List (Option (Runner B))) (v : View) where
  pub begun-first : AllOwe v → IsBegun pending first v 0 first v
  begun-first owe = record {
    share = λ start share. share;
    on = on-self v;
    long = refl;
    posted = λ t here below. absurd (omega arith);
    owe = λ t here from. owe t here;
    lawful = λ t here below. absurd (omega arith);
  }

  module _ (index : ℕ) (runners : List (Option (Runner B))) (w : View)
      (begun : IsBegun pending first v index runners w) where
    -- no runner here
    pub begun-none : (start : ℕ → Pending) → IsShare pending start 0 first v
        → runner_at runners index ≡ None → IsBegun pending first v (index + 1) runners w
    begun-none start share none =
        let nobody : Serves w index → ⊥ = λ here.
        let was = (begun.share start share).index index here in
        let same : was.0 ≡ index = (let e = was.2 in omega (arith, e)) in
        (let both = sym none ∙ ap (runner_at runners) (sym same) ∙ was.3 in cc) in
        let below : (t : ℕ) → Serves w t → t < index + 1 → t < index =
        λ t here under. elim (cases_eq t index) [
          | inl same ↦ absurd (nobody (subst (Serves w) same here))
          | inr apart ↦ omega (arith, apart)
        ] in
        record {
          share = begun.share;
          on = begun.on;
          long = begun.long;
          posted = λ t here under. begun.posted t here (below t here under);
          owe = λ t here from. begun.owe t here (omega arith);
          lawful = λ t here under. begun.lawful t here (below t here under);
        }

    -- the runner here has posted
    module _ (x : View) (r then : Runner B) (at : runner_at runners index ≡ Some r)
        (moves : Moves index w x)
        (runs : (start : Pending) → IsRunning start (pending r.body) r.answered index w.seen
        → IsRunning start (pending then.body) then.answered index x.seen) where
      pub begun-share : (start : ℕ → Pending) → IsShare pending start 0 first v
          → IsShare pending start 0 (set runners index (Some then)) x
      begun-share start share =
          let here = begun.share start share in
          share-moved pending start 0 runners w x here index index (omega arith) r at moves then
          (runs (start index) (here.running index index r (omega arith) at).1)

      pub begun-more : IsLawful x.seen → owes_of x.seen index ≡ false
          → IsBegun pending first v (index + 1) (set runners index (Some then)) x
      begun-more lawful posted = record {
        share = begun-share;
        on = on-along v w x begun.on moves.on;
        long = length-set runners index (Some then) ∙ begun.long;
        posted = λ t here under. elim (cases_eq t index) [
          | inl same ↦ ap (owes_of x.seen) same ∙ posted
          | inr apart ↦
              let before = serves-back w x t moves.on here in
              same-owes t w.seen x.seen (moves.others t before apart)
              ∙ begun.posted t before (omega (arith, apart))
        ];
        owe = λ t here from.
            let before = serves-back w x t moves.on here in
            same-owes t w.seen x.seen (moves.others t before (λ e. omega (arith, e)))
            ∙ begun.owe t before (omega arith);
        lawful = λ t here under. lawful;
      }

    -- every index was tried
    pub begun-all : (start : ℕ → Pending) → IsShare pending start 0 first v → length first ≤ index
        → (t : ℕ) → Serves w t → t < index
    begun-all start share past t here =
        let was = (begun.share start share).index t here in
        let there = runner-within runners was.0 was.1 was.3 in
        omega (arith, was.2, begun.long, there)

-- ---- a thread of the seat and its runner
pub index-read : {B : Type 0} (pending : B → Pending) (start : ℕ → Pending)
    (runners : List (Option (Runner B))) (v : View) → IsShare pending start 0 runners v → (t : ℕ)
    → Serves v t → (o : Option (Runner B)) (r : Runner B) → get_or runners t o ≡ Some r
    → (runner_at runners t ≡ Some r) × IsRunning (start t) (pending r.body) r.answered t v.seen
index-read pending start runners v share t here o r is =
    let was = share.index t here in
    let there = runner-within runners was.0 was.1 was.3 in
    let at = runner-read runners t o r (omega (arith, was.2)) is in
    (at, (share.running t t r (omega arith) at).1)

-- without a runner the seat serves nobody
pub nobody-serves : {B : Type 0} (pending : B → Pending) (start : ℕ → Pending)
    (runners : List (Option (Runner B))) (v : View) → IsShare pending start 0 runners v
    → ((index : ℕ) → runner_at runners index ≡ None) → (t : ℕ) → Serves v t → ⊥
nobody-serves pending start runners v share none t here = let was = share.index t here in
    let both = sym (none was.0) ∙ was.3 in cc

-- what was served after the seat went on
pub served-on : (start : ℕ → Pending) (v u w : View) → GoesOn v u → IsLawful u.seen
    → IsServed start u w → IsServed start v w
served-on start v u w on lawful served =
    served-wider start v u w served on.within (λ t here. serves-on v u t on here)
    (lawful-outside v.seen u.seen lawful)
