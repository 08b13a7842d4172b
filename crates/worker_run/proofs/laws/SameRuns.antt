-- Two ways to rank the threads that order them alike, after each schedule on the way, have one run.
-- A run asks of ranks only
-- which of two threads has the greater one.
use Rattle.std.proofs.Common.{◌≡◌, ℕ, zero, suc, ◌+◌, ◌<◌, ◌≤◌, Bool, true, false, not, ◌&&◌, ◌||◌}
use Rattle.std.proofs.Common.{cond, leb, Option, Some, None, List, [], ◌∷◌, ◌++◌, refl, sym, ap}
use Rattle.std.proofs.Common.{◌∙◌, arith, ◌⊎◌, inl, inr}
use Rattle.std.specs.Option.{option_map, option_and_then}
use Rattle.std.specs.List.{find, list_all, range_with_len}
use Rattle.std.proofs.lemmas.Bool.{cases_lt, cases_eq}
use Rattle.std.proofs.lemmas.Bool.Decides.{nat_tests}
use Rattle.std.proofs.lemmas.List.{append-nil, append_assoc}
use Rattle.std.proofs.lemmas.Option.{option_and_then_some}
use Rattle.pct_ask.specs.declared.Deal.{Deal}
use Rattle.pct_ask.specs.declared.event.Event.{Event}
use Rattle.pct_ask.specs.declared.verdict.Verdict.{Verdict}
use Rattle.pct_ask.specs.Bodies.{Pending}
use Rattle.sync_store.specs.Store.{first_store}
use Rattle.sync_store.specs.World.{Source, World, first_world, world_after}
use Rattle.policy_pick.specs.Laws.Finds.{find-none, found-or-none, all-from-below}
use Rattle.turn_book.specs.Chances.{threads_below}
use Rattle.turn_book.specs.Posts.{schedule_of}
use Rattle.turn_book.proofs.laws.Worlds.{map-some, grows}
use Rattle.worker_run.specs.Bodies.{source_of_bodies}
use Rattle.worker_run.specs.Run.{Setting, Next, Over, Goes, Run, may_go, goes_first, next_of}
use Rattle.worker_run.specs.Run.{next_thread, next_after, cut_at, go_on, run_from}

-- ---- searches of a range by tests that agree there
find-agree : (p q : ℕ → Bool) (from many : ℕ) → ((k : ℕ) → from ≤ k → k < from + many → p k ≡ q k)
    → find p (range_with_len from many) ≡ find q (range_with_len from many)
find-agree p q from zero agree = refl
find-agree p q from (suc many) agree =
    ap (λ b. cond b (Some from) (find p (range_with_len (from + 1) many)))
    (agree from (omega arith) (omega arith))
    ∙ ap (λ o. cond (q from) (Some from) o)
    (find-agree p q (from + 1) many (λ k low high. agree k (omega arith) (omega arith)))

all-agree : (p q : ℕ → Bool) (from many : ℕ) → ((k : ℕ) → from ≤ k → k < from + many → p k ≡ q k)
    → list_all p (range_with_len from many) ≡ list_all q (range_with_len from many)
all-agree p q from zero agree = refl
all-agree p q from (suc many) agree =
    ap (λ b. b && list_all p (range_with_len (from + 1) many))
    (agree from (omega arith) (omega arith))
    ∙ ap (λ b. q from && b) (all-agree p q (from + 1) many
    (λ k low high. agree k (omega arith) (omega arith)))

-- ---- below any number some open one leads, unless none is open
abbrev Best : (ℕ → Bool) → (ℕ → ℕ) → ℕ → Type 0
Best goes rank many =
    ((k : ℕ) → k < many → goes k ≡ false)
    ⊎ ((best : ℕ) × (best < many) × (goes best ≡ true)
    × ((k : ℕ) → k < many → goes k ≡ true → rank k ≤ rank best))

best-by : (goes : ℕ → Bool) (rank : ℕ → ℕ) (many : ℕ) (b : Bool) → goes many ≡ b
    → Best goes rank many → Best goes rank (suc many)
best-by goes rank many false is rest = elim rest [
  | inl none ↦ inl (λ k p. elim (cases_eq k many) [
    | inl e ↦ ap goes e ∙ is
    | inr ne ↦ none k (omega arith)
  ])
  | inr w ↦ inr (
    w.0,
    omega (arith, w.1),
    w.2,
    λ k p o. elim (cases_eq k many) [
      | inl e ↦ absurd (let a : goes many ≡ true = sym (ap goes e) ∙ o in cc)
      | inr ne ↦ w.3 k (omega arith) o
    ],
  )
]
best-by goes rank many true is rest = elim rest [
  | inl none ↦ inr (
    many,
    omega arith,
    is,
    λ k p o. elim (cases_eq k many) [
      | inl e ↦ let same = ap rank e in omega arith
      | inr ne ↦ absurd (let a = none k (omega arith) in cc)
    ],
  )
  | inr w ↦ elim (cases_lt (rank w.0) (rank many)) [
    | inl lt ↦ inr (
      many,
      omega arith,
      is,
      λ k p o. elim (cases_eq k many) [
        | inl e ↦ let same = ap rank e in omega arith
        | inr ne ↦ let le = w.3 k (omega arith) o in
            omega arith
      ],
    )
    | inr ge ↦ inr (
      w.0,
      omega (arith, w.1),
      w.2,
      λ k p o. elim (cases_eq k many) [
        | inl e ↦ let same = ap rank e in omega arith
        | inr ne ↦ w.3 k (omega arith) o
      ],
    )
  ]
]

best : (goes : ℕ → Bool) (rank : ℕ → ℕ) (many : ℕ) → Best goes rank many
best goes rank zero = inl (λ k p. absurd (omega arith))
best goes rank (suc many) = best-by goes rank many (goes many) refl (best goes rank many)

from-le : (goes : Bool) (low high : ℕ) → (goes ≡ true → low ≤ high)
    → (not goes || leb low high) ≡ true
from-le true low high h = let le : low ≤ high = h refl in grind (arith, nat_tests)
from-le false low high h = refl

and-both : (a b : Bool) → a ≡ true → b ≡ true → (a && b) ≡ true
and-both true b e f = f
and-both false b e f = cc

module _ (deal : Deal) (bodies : List Pending) where
  abbrev source : Source
  source = source_of_bodies bodies

  abbrev by : (List ℕ → ℕ → ℕ) → Setting
  by rank = record { deal = deal; bodies = bodies; rank_after = rank }

  -- ---- whether some thread goes next is the same by all ranks
  closed : (rank : List ℕ → ℕ → ℕ) (schedule : List ℕ) (world : World)
      → next_thread (by rank) schedule world ≡ None → (k : ℕ) → k < deal.threads
      → may_go (by rank) world k ≡ false
  closed rank schedule world none k within =
      elim (best (may_go (by rank) world) (rank schedule) deal.threads) [
        | inl shut ↦ shut k within
        | inr w ↦ elim (found-or-none (goes_first (by rank) schedule world) deal.threads) [
          | inl f ↦ absurd (let both = sym none ∙ f.1 in cc)
          | inr n ↦ absurd (
              let test : ℕ → Bool = λ other. not (may_go (by rank) world other)
              || leb (rank schedule other) (rank schedule w.0) in
              let all = all-from-below test deal.threads
              (λ j p. from-le (may_go (by rank) world j) (rank schedule j) (rank schedule w.0)
              (w.3 j p)) in
              let goes : goes_first (by rank) schedule world w.0 ≡ true =
              and-both (may_go (by rank) world w.0) (list_all test (threads_below deal.threads)) w.2
              all in
              let not = n.1 w.0 w.1 in
              cc)
        ]
      ]

  none-from : (rank : List ℕ → ℕ → ℕ) (schedule : List ℕ) (world : World)
      → ((k : ℕ) → k < deal.threads → may_go (by rank) world k ≡ false)
      → next_thread (by rank) schedule world ≡ None
  none-from rank schedule world shut =
      find-none (goes_first (by rank) schedule world) 0 deal.threads (λ k p q.
      ap (λ b. b && list_all (λ other. not (may_go (by rank) world other)
      || leb (rank schedule other) (rank schedule k)) (threads_below deal.threads))
      (shut k (omega arith)))

  none-alike : (one two : List ℕ → ℕ → ℕ) (schedule : List ℕ) (world : World)
      → next_thread (by one) schedule world ≡ None → next_thread (by two) schedule world ≡ None
  none-alike one two schedule world none =
      none-from two schedule world (closed one schedule world none)

  -- ---- a run's steps begin with those of the schedule
  made-of : (schedule : List ℕ) (world : World)
      → world_after (first_store deal) source schedule ≡ Some world
      → schedule_of world.events ≡ schedule
  made-of schedule world at =
      let g = grows source schedule (first_world (first_store deal)) world at in
      ap schedule_of g.events ∙ g.threads

  abbrev Begins : List ℕ → List Event → Type 0
  Begins schedule events = (rest : List ℕ) × (schedule_of events ≡ schedule ++ rest)

  begins-here : (schedule : List ℕ) (world : World) (events : List Event)
      → world_after (first_store deal) source schedule ≡ Some world → world.events ≡ events
      → Begins schedule events
  begins-here schedule world events at are =
      ([], ap schedule_of (sym are) ∙ made-of schedule world at ∙ sym (append-nil schedule))

  cut-events : (world : World) (next : Next) (events : List Event) (verdict : Verdict)
      → ◌≡◌ {A = Run} (cut_at world next) (events, verdict) → world.events ≡ events
  cut-events world (Over v) events verdict e = ap (λ (r : Run). r.0) e
  cut-events world (Goes t) events verdict e = ap (λ (r : Run). r.0) e

  some-events : (events other : List Event) (verdict last : Verdict)
      → ◌≡◌ {A = Option Run} (Some (events, verdict)) (Some (other, last)) → events ≡ other
  some-events events other verdict last e =
      let pair : ◌≡◌ {A = Run} (events, verdict) (other, last) = cc in ap (λ (r : Run). r.0) pair

  module _ (rank : List ℕ → ℕ → ℕ) where
    begins-on : (schedule : List ℕ) (world : World) (further : ℕ → Option Run) (events : List Event)
        (verdict : Verdict) → world_after (first_store deal) source schedule ≡ Some world
        → ((t : ℕ) → further t ≡ Some (events, verdict) → Begins (schedule ++ t ∷ []) events)
        → (next : Next) → go_on world further next ≡ Some (events, verdict) → Begins schedule events
    begins-on schedule world further events verdict at more (Over v) e =
        begins-here schedule world events at (some-events world.events events v verdict e)
    begins-on schedule world further events verdict at more (Goes t) e =
        let w = more t e in
        (t ∷ w.0, w.1 ∙ append_assoc schedule (t ∷ []) w.0)

    begins : (left : ℕ) (schedule : List ℕ) (events : List Event) (verdict : Verdict)
        → run_from (by rank) left schedule ≡ Some (events, verdict) → Begins schedule events
    begins zero schedule events verdict e =
        let w = map-some (λ world. cut_at world (next_after (by rank) schedule world))
        (world_after (first_store deal) source schedule) (events, verdict) e in
        begins-here schedule w.0 events w.1
        (cut-events w.0 (next_after (by rank) schedule w.0) events verdict w.2)
    begins (suc left) schedule events verdict e =
        option_and_then_some (λ world. go_on world
        (λ t. run_from (by rank) left (schedule ++ t ∷ []))
        (next_after (by rank) schedule world)) (world_after (first_store deal) source schedule)
        (events, verdict) e
        (λ world at rest. begins-on schedule world
        (λ t. run_from (by rank) left (schedule ++ t ∷ [])) events verdict at
        (λ t f. begins left (schedule ++ t ∷ []) events verdict f)
        (next_after (by rank) schedule world) rest)

  -- ---- one run
  module _ (one two : List ℕ → ℕ → ℕ) where
    -- after the schedule both order the threads alike
    abbrev pub Alike : List ℕ → Type 0
    Alike schedule = (a b : ℕ) → a < deal.threads → b < deal.threads
        → leb (one schedule a) (one schedule b) ≡ leb (two schedule a) (two schedule b)

    goes-alike : (schedule : List ℕ) (world : World) → Alike schedule → (t : ℕ) → t < deal.threads
        → goes_first (by one) schedule world t ≡ goes_first (by two) schedule world t
    goes-alike schedule world alike t within =
        ap (λ b. may_go (by one) world t && b)
        (all-agree (λ other. not (may_go (by one) world other)
        || leb (one schedule other) (one schedule t))
        (λ other. not (may_go (by one) world other)
        || leb (two schedule other) (two schedule t)) 0 deal.threads
        (λ k low high. ap (λ b. not (may_go (by one) world k) || b)
        (alike k t (omega arith) within)))

    next-alike : (schedule : List ℕ) (world : World) → Alike schedule
        → next_thread (by one) schedule world ≡ next_thread (by two) schedule world
    next-alike schedule world alike =
        find-agree (goes_first (by one) schedule world) (goes_first (by two) schedule world) 0
        deal.threads (λ k low high. goes-alike schedule world alike k (omega arith))

    cut-same : (world : World) (v : Option Verdict) (a b : Option ℕ) → (a ≡ None → b ≡ None)
        → (b ≡ None → a ≡ None) → cut_at world (next_of (by one) world v a)
        ≡ cut_at world (next_of (by two) world v b)
    cut-same world (Some v) a b f g = refl
    cut-same world None None None f g = refl
    cut-same world None None (Some t) f g = absurd (let e = f refl in cc)
    cut-same world None (Some t) None f g = absurd (let e = g refl in cc)
    cut-same world None (Some t) (Some u) f g = refl

    same-last : (schedule : List ℕ) → run_from (by one) zero schedule
        ≡ run_from (by two) zero schedule
    same-last schedule =
        let each : (world : World) → cut_at world (next_after (by one) schedule world)
        ≡ cut_at world (next_after (by two) schedule world) =
        λ world. cut-same world world.verdict (next_thread (by one) schedule world)
        (next_thread (by two) schedule world) (none-alike one two schedule world)
        (none-alike two one schedule world) in
        λ i. option_map (λ world. each world i) (world_after (first_store deal) source schedule)

    abbrev further : (List ℕ → ℕ → ℕ) → ℕ → List ℕ → ℕ → Option Run
    further rank left schedule t = run_from (by rank) left (schedule ++ t ∷ [])

    -- at each schedule on the way, short of the whole
    abbrev pub AlikeAlong : List ℕ → Type 0
    AlikeAlong whole = (taken more : List ℕ) (t : ℕ) → whole ≡ taken ++ t ∷ more → Alike taken

    same-step : (left : ℕ) (schedule : List ℕ) (events : List Event) (verdict : Verdict)
        → AlikeAlong (schedule_of events)
        → ((t : ℕ) → further one left schedule t ≡ Some (events, verdict)
        → further two left schedule t ≡ Some (events, verdict))
        → (world : World) (v : Option Verdict) (a : Option ℕ)
        → next_thread (by one) schedule world ≡ a
        → go_on world (further one left schedule) (next_of (by one) world v a)
        ≡ Some (events, verdict)
        → go_on world (further two left schedule)
        (next_of (by two) world v (next_thread (by two) schedule world))
        ≡ Some (events, verdict)
    same-step left schedule events verdict along rest world (Some v) a is e = e
    same-step left schedule events verdict along rest world None None is e =
        ap (λ n. go_on world (further two left schedule) (next_of (by two) world None n))
        (none-alike one two schedule world is) ∙ e
    same-step left schedule events verdict along rest world None (Some t) is e =
        let w = begins one left (schedule ++ t ∷ []) events verdict e in
        let alike = along schedule w.0 t (w.1 ∙ append_assoc schedule (t ∷ []) w.0) in
        ap (λ n. go_on world (further two left schedule) (next_of (by two) world None n))
        (sym (next-alike schedule world alike) ∙ is) ∙ rest t e

    -- A run by the one, from a schedule on, is the run by the other. Nothing is asked at the whole
    -- schedule: whether a thread
    -- goes next there is the same by all ranks.
    pub same-from : (left : ℕ) (schedule : List ℕ) (events : List Event) (verdict : Verdict)
        → AlikeAlong (schedule_of events)
        → run_from (by one) left schedule ≡ Some (events, verdict)
        → run_from (by two) left schedule ≡ Some (events, verdict)
    same-from zero schedule events verdict along e = sym (same-last schedule) ∙ e
    same-from (suc left) schedule events verdict along e =
        option_and_then_some (λ world. go_on world (further one left schedule)
        (next_after (by one) schedule world)) (world_after (first_store deal) source schedule)
        (events, verdict) e
        (λ world at rest.
        ap (option_and_then (λ w. go_on w (further two left schedule)
        (next_after (by two) schedule w))) at
        ∙ same-step left schedule events verdict along
        (λ t f. same-from left (schedule ++ t ∷ []) events verdict along f) world world.verdict
        (next_thread (by one) schedule world) refl rest)
