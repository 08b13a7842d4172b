-- One more step of a walk along a run's steps: the thread's own steps, and the moment's point.
use Rattle.std.specs.Prelude.{◌&&◌, slice_index_or}
use Rattle.std.specs.List.{count_by}
use Rattle.std.proofs.Common.{◌≡◌, ℕ, zero, suc, ◌+◌, ◌<◌, Bool, true, false, cond, eqb, List, []}
use Rattle.std.proofs.Common.{◌∷◌, length, take, refl, sym, ap, ◌∙◌, arith, ne_eqb}
use Rattle.std.proofs.lemmas.List.Sums.{sum_by-cons}
use Rattle.pct_ask.specs.declared.event.Event.{Event}
use Rattle.rank_now.specs.declared.moment.Moment.{Moment}
use Rattle.rank_now.specs.Positions.{greatest_where, passes_at}
use Rattle.rank_now.specs.Rank.{own_steps, is_moment}
use Rattle.turn_book.specs.Posts.{schedule_of}
use Rattle.choices.specs.Points.{point_at}

-- whether the next step is the thread's
passes-here : (events : List Event) (thread place : ℕ) (d : Event) → place < length events
    → passes_at (λ other. eqb other thread) (schedule_of events) (suc place)
    ≡ eqb (slice_index_or events place d).thread thread
passes-here [] thread place d within = absurd (omega arith)
passes-here (e ∷ es) thread zero d within = refl
passes-here (e ∷ es) thread (suc k) d within = passes-here es thread k d (omega arith)

-- the thread's own steps after one step more: one more where the step is its own
own-next : (t : ℕ) (xs : List ℕ) (k : ℕ)
    → count_by (λ other. eqb other t) (take (suc k) xs)
    ≡ count_by (λ other. eqb other t) (take k xs)
    + cond (passes_at (λ other. eqb other t) xs (suc k)) 1 0
own-next t [] zero = omega arith
own-next t [] (suc k) = omega arith
own-next t (x ∷ xs) zero =
    omega (arith, sum_by-cons (λ other. cond (eqb other t) 1 0) x (take zero xs))
own-next t (x ∷ xs) (suc k) =
    omega (
      arith,
      own-next t xs k,
      sum_by-cons (λ other. cond (eqb other t) 1 0) x (take (suc k) xs),
      sum_by-cons (λ other. cond (eqb other t) 1 0) x (take k xs),
    )

own-by : (t : ℕ) (xs : List ℕ) (k : ℕ) (b : Bool)
    → passes_at (λ other. eqb other t) xs (suc k) ≡ b
    → count_by (λ other. eqb other t) (take (suc k) xs)
    ≡ count_by (λ other. eqb other t) (take k xs) + cond b 1 0
own-by t xs k b is =
    own-next t xs k
    ∙ ap (λ c. count_by (λ other. eqb other t) (take k xs) + cond c 1 0) is

module _ (events : List Event) (moment : Moment) (steps place : ℕ) (d : Event)
    (within : place < length events) (many point : ℕ)
    (so_far : many ≡ own_steps (schedule_of events) moment.thread place)
    (pointed : point ≡ point_at steps
    (greatest_where (λ step. is_moment (schedule_of events) step moment) place)) where
  abbrev schedule : List ℕ
  schedule = schedule_of events

  abbrev test : ℕ → Bool
  test step = is_moment schedule step moment

  -- the point after a step, by whether the moment is that step
  stays : test (suc place) ≡ false → point ≡ point_at steps (greatest_where test (suc place))
  stays none =
      pointed ∙ ap (λ b. point_at steps (cond b (suc place) (greatest_where test place))) (sym none)

  goes : test (suc place) ≡ true → suc place ≡ point_at steps (greatest_where test (suc place))
  goes some =
      sym (ap (λ b. point_at steps (cond b (suc place) (greatest_where test place))) some
      ∙ ap (λ b. cond b steps (suc place)) (ne_eqb (suc place) 0 (λ e. omega arith)))

  -- the step is another thread's
  pub other-own : eqb (slice_index_or events place d).thread moment.thread ≡ false
      → many ≡ own_steps schedule moment.thread (suc place)
  other-own other =
      so_far ∙ sym (own-by moment.thread schedule place false
      (passes-here events moment.thread place d within ∙ other)
      ∙ (let e : own_steps schedule moment.thread place + 0 ≡ own_steps schedule moment.thread place
      = omega arith in e))

  pub other-point : eqb (slice_index_or events place d).thread moment.thread ≡ false
      → point ≡ point_at steps (greatest_where test (suc place))
  other-point other =
      stays (ap (λ b. b && eqb (own_steps schedule moment.thread (suc place)) moment.number)
      (passes-here events moment.thread place d within ∙ other))

  -- it is the thread's
  pub same-own : eqb (slice_index_or events place d).thread moment.thread ≡ true
      → many + 1 ≡ own_steps schedule moment.thread (suc place)
  same-own same =
      ap (λ n. n + 1) so_far ∙ sym (own-by moment.thread schedule place true
      (passes-here events moment.thread place d within ∙ same))

  is-test : eqb (slice_index_or events place d).thread moment.thread ≡ true → (b : Bool)
      → eqb (many + 1) moment.number ≡ b → test (suc place) ≡ b
  is-test same b number =
      ap (λ p. p && eqb (own_steps schedule moment.thread (suc place)) moment.number)
      (passes-here events moment.thread place d within ∙ same)
      ∙ ap (λ n. eqb n moment.number) (sym (same-own same)) ∙ number

  pub same-point : eqb (slice_index_or events place d).thread moment.thread ≡ true
      → eqb (many + 1) moment.number ≡ false
      → point ≡ point_at steps (greatest_where test (suc place))
  same-point same number = stays (is-test same false number)

  pub here-point : eqb (slice_index_or events place d).thread moment.thread ≡ true
      → eqb (many + 1) moment.number ≡ true
      → suc place ≡ point_at steps (greatest_where test (suc place))
  here-point same number = goes (is-test same true number)

  pub to-own : own_steps schedule moment.thread (suc place)
      ≡ own_steps schedule moment.thread (place + 1)
  to-own = ap (own_steps schedule moment.thread) (let e : suc place ≡ place + 1 = omega arith in e)

  pub to-point : point_at steps (greatest_where test (suc place))
      ≡ point_at steps (greatest_where test (place + 1))
  to-point =
      ap (λ n. point_at steps (greatest_where test n))
      (let e : suc place ≡ place + 1 = omega arith in e)
