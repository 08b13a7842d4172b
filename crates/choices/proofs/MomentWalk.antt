-- A run's moments, by its steps.
use Rattle.std.proofs.Common.{◌≡◌, ℕ, suc, ◌+◌, ◌-◌, ◌<◌, ◌≤◌, Bool, true, false, cond, not, ◌&&◌}
use Rattle.std.proofs.Common.{eqb, leb, List, [], ◌∷◌, ◌++◌, length, take, drop, get_or, refl, sym}
use Rattle.std.proofs.Common.{ap, ◌∙◌, arith, append_assoc, drop-cons}
use Rattle.std.specs.List.{count_by, list_any}
use Rattle.std.proofs.lemmas.Bool.Decides.{nat_tests}
use Rattle.std.proofs.lemmas.List.{length-map, get_or-map, take-map}
use Rattle.std.proofs.lemmas.List.Sums.{sum_by-cons}
use Rattle.pct_ask.specs.declared.event.Event.{Event}
use Rattle.rank_now.specs.declared.moment.Moment.{Moment}
use Rattle.turn_book.specs.Posts.{schedule_of}
use Rattle.choices.specs.Moments.{moment_at, is_kept, moments_of}

count-schedule : (thread : ℕ) (events : List Event)
    → count_by (λ t. eqb t thread) (schedule_of events)
    ≡ count_by (λ (e : Event). eqb e.thread thread) events
count-schedule thread [] = refl
count-schedule thread (e ∷ es) =
    sum_by-cons (λ t. cond (eqb t thread) 1 0) e.thread (schedule_of es)
    ∙ ap (λ n. cond (eqb e.thread thread) 1 0 + n) (count-schedule thread es)
    ∙ sym (sum_by-cons (λ (x : Event). cond (eqb x.thread thread) 1 0) e es)

pub moment-is : (events : List Event) (step : ℕ) (d : Event) (own : ℕ) → 1 ≤ step
    → step ≤ length events
    → own ≡ count_by (λ (e : Event). eqb e.thread (get_or events (step - 1) d).thread)
    (take step events)
    → ◌≡◌ {A = Moment} (record { thread = (get_or events (step - 1) d).thread; number = own })
    (moment_at (schedule_of events) step)
moment-is events step d own some within counted =
    let thread = (get_or events (step - 1) d).thread in
    let same : get_or (schedule_of events) (step - 1) 0 ≡ thread =
    get_or-map (λ (e : Event). e.thread) events (step - 1) d 0 (omega arith) in
    let number : own ≡ count_by (λ t. eqb t (get_or (schedule_of events) (step - 1) 0))
    (take step (schedule_of events)) =
    counted
    ∙ sym (count-schedule thread (take step events))
    ∙ ap (count_by (λ t. eqb t thread)) (sym (take-map (λ (e : Event). e.thread) step events))
    ∙ ap (λ x. count_by (λ t. eqb t x) (take step (schedule_of events))) (sym same) in
    λ i. record { thread = sym same i; number = number i }

pub kept-is : (events : List Event) (point : ℕ) (later : List ℕ) (b : Bool) → point ≤ length events
    → b ≡ list_any (λ other. eqb other point) later
    → not b ≡ is_kept (schedule_of events) point later
kept-is events point later b within is =
    let steps = length-map events (λ (e : Event). e.thread) in
    let first : leb point (length (schedule_of events)) ≡ true = grind (arith, nat_tests) in
    ap not is ∙ ap (λ c. c && not (list_any (λ other. eqb other point) later)) (sym first)

pub kept-within : (events : List Event) (point : ℕ) (later : List ℕ)
    → is_kept (schedule_of events) point later ≡ true → point ≤ length events
kept-within events point later is = by (leb point (length (schedule_of events))) refl is where
  by : (c : Bool) → leb point (length (schedule_of events)) ≡ c
      → (c && not (list_any (λ other. eqb other point) later)) ≡ true → point ≤ length events
  by true first kept = let steps = length-map events (λ (e : Event). e.thread) in
      grind (arith, nat_tests)
  by false first kept = cc

module _ (schedule points : List ℕ) (place d : ℕ) (moments whole : List Moment)
    (within : place < length points)
    (so_far : moments ++ moments_of schedule (drop place points) ≡ whole) where
  abbrev point : ℕ
  point = get_or points place d

  abbrev later : List ℕ
  later = drop (suc place) points

  split : moments ++ moments_of schedule (point ∷ later) ≡ whole
  split =
      ap (λ ps. moments ++ moments_of schedule ps) (sym (drop-cons points place d within)) ∙ so_far

  pub push-kept : is_kept schedule point later ≡ true
      → (moments ++ moment_at schedule point ∷ []) ++ moments_of schedule later ≡ whole
  push-kept is =
      append_assoc moments (moment_at schedule point ∷ []) (moments_of schedule later)
      ∙ ap (λ b. moments ++ cond b (moment_at schedule point ∷ moments_of schedule later)
      (moments_of schedule later)) (sym is)
      ∙ split

  pub skip-other : is_kept schedule point later ≡ false
      → moments ++ moments_of schedule later ≡ whole
  skip-other is =
      ap (λ b. moments ++ cond b (moment_at schedule point ∷ moments_of schedule later)
      (moments_of schedule later)) (sym is) ∙ split
