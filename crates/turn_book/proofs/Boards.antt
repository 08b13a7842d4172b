-- The chances of all threads, from their standings, and the threads whose chance stays.
use Rattle.std.proofs.Common.{◌≡◌, ◌≢◌, ℕ, zero, suc, ◌+◌, ◌<◌, Bool, true, false, cond, eqb}
use Rattle.std.proofs.Common.{◌&&◌, ◌||◌}
use Rattle.std.proofs.Common.{Option, Some, None, List, [], ◌∷◌, ◌++◌, length, set, take, map}
use Rattle.std.proofs.Common.{replicate, refl, sym, ap, subst, ◌∙◌, arith, inl, inr, ◌⊎◌, eq-eqb}
use Rattle.std.specs.Prelude.{is_none, slice_get}
use Rattle.std.specs.Int.{bit_at}
use Rattle.std.specs.Option.{option_map, option_map_or}
use Rattle.std.specs.List.{All, cons_option, filter_map, range_with_len}
use Rattle.std.proofs.lemmas.Bool.{cases_Bool, cases_eq, cases_lt, false≢true, or_parts}
use Rattle.std.proofs.lemmas.List.{append-nil, length-replicate, length-set, map-set}
use Rattle.std.proofs.lemmas.List.{get_or-replicate, get_or-set_other, get_or-set_same, get_or_past}
use Rattle.std.proofs.lemmas.List.FromFn.{length-map-range_with_len, get_or-map-range_with_len}
use Rattle.std.proofs.lemmas.List.FromFn.{fill_by_all}
use Rattle.std.proofs.lemmas.List.Elements.{All-nil, All-push, All-same, All-weaker}
use Rattle.std.proofs.lemmas.Option.{slice_get-map, slice_get-get_or}
use Rattle.pct_ask.specs.declared.ask.Ask.{Ask}
use Rattle.pct_ask.specs.declared.ask.Ask.TheVariants as asks
use Rattle.pct_ask.specs.declared.ask.Post.{Post}
use Rattle.pct_ask.specs.declared.Deal.{Deal}
use Rattle.pct_ask.specs.declared.event.Standing.{Standing}
use Rattle.pct_ask.specs.declared.event.Standing.TheVariants.{Away as AwayStanding}
use Rattle.pct_ask.specs.declared.verdict.Verdict.TheVariants.{Passed, Stuck}
use Rattle.pct_ask.specs.Objects.{Sizes, IsInRange, PostIsInRange}
use Rattle.sync_store.specs.declared.touched.Touched.{Touched}
use Rattle.sync_store.specs.Store.{StoreState, sizes_of, first_store}
use Rattle.sync_store.specs.Enabled.{enabled}
use Rattle.sync_store.specs.declared.ready.Ready.TheVariants.{Yes}
use Rattle.sync_store.specs.Ready.{join_target, unknown_target, ready_by, away_by, ended_by}
use Rattle.sync_store.specs.Ready.{readiness}
use Rattle.sync_store.specs.Ready.{standing_is_away, standing_is_ended as is_ended_standing}
use Rattle.sync_store.specs.Touched.{KeepsOthers, depends_on}
use Rattle.policy_pick.specs.declared.chance.Chance.{Chance}
use Rattle.policy_pick.specs.declared.chance.Chance.TheVariants.{Away, Ended}
use Rattle.policy_pick.specs.Choice.{chance_of, HasAwayTarget, TargetsAreAway}
use Rattle.turn_book.specs.Chances.{NextPosts, is_unknown, is_ended, chance_by, chance_of_ask}
use Rattle.turn_book.specs.Chances.{chance_of_post, chance, chances, blocked_at, verdict_of_blocked}
use Rattle.turn_book.specs.Told.{standing_by_ask, standing_by}
use Rattle.turn_book.specs.Board.{IsBoard, next_posts_of, ask_of_post, ArePostsInRange, joins}
use Rattle.turn_book.specs.Board.{AreKnownChances, AreWaiters, IsFresh, WereChances, locks_ask}
use Rattle.turn_book.specs.Board.{concerns_ask, concerns, may_wait}
use Rattle.turn_book.proofs.laws.MorePosts.{readiness-same}

-- ---- all chances
pub chance-at : (threads : ℕ) (store : StoreState) (next : NextPosts) (t : ℕ) → t < threads
    → chance_of (chances threads store next) t ≡ chance store next t
chance-at threads store next t within =
    get_or-map-range_with_len (chance store next) 0 threads t t Ended within (omega arith)

pub length-chances : (threads : ℕ) (store : StoreState) (next : NextPosts)
    → length (chances threads store next) ≡ threads
length-chances threads store next = length-map-range_with_len (chance store next) 0 threads

pub chances-are : (threads : ℕ) (store : StoreState) (next : NextPosts) (known : List Chance)
    → length known ≡ threads → ((t : ℕ) → t < threads → chance_of known t ≡ chance store next t)
    → known ≡ chances threads store next
chances-are threads store next known long each =
    fill_by_all (chance store next) known threads Ended long each

-- ---- from the standings
away-standing : (post : Option Post) → standing_is_away (Some (standing_by post)) ≡ is_none post
away-standing None = refl
away-standing (Some post) = away-ask post.ask where
  away-ask : (ask : Option Ask) → standing_is_away (Some (standing_by_ask ask)) ≡ false
  away-ask None = refl
  away-ask (Some ask) = refl

ended-standing : (post : Option Post)
    → is_ended_standing (Some (standing_by post))
    ≡ option_map_or (λ post. is_none post.ask) post false
ended-standing None = refl
ended-standing (Some post) = ended-ask post.ask where
  ended-ask : (ask : Option Ask) → is_ended_standing (Some (standing_by_ask ask)) ≡ is_none ask
  ended-ask None = refl
  ended-ask (Some ask) = refl

target-within : (sizes : Sizes) (ask : Ask) (u : ℕ) → IsInRange sizes ask → join_target ask ≡ Some u
    → u < sizes.threads
target-within sizes (asks.Join v) u range e = let same : v ≡ u = cc in omega arith
target-within sizes ask u range e = absurd cc

module _ (store : StoreState) (posts : List (Option Post)) (threads : length posts ≡ store.threads)
    (range : ArePostsInRange store posts) where
  standing-at : (standings : List Standing) → standings ≡ map standing_by posts → (u : ℕ)
      → u < store.threads → slice_get standings u ≡ Some (standing_by (next_posts_of posts u))
  standing-at standings is u within =
      ap (λ s. slice_get s u) is ∙ slice_get-map standing_by posts u
      ∙ ap (option_map standing_by) (slice_get-get_or posts u None (omega arith))

  module _ (standings : List Standing) (is : standings ≡ map standing_by posts) where
    away-is : (u : ℕ) → u < store.threads → away_by standings u ≡ is_unknown (next_posts_of posts) u
    away-is u within =
        ap standing_is_away (standing-at standings is u within)
        ∙ away-standing (next_posts_of posts u)

    ended-is : (u : ℕ) → u < store.threads → ended_by standings u ≡ is_ended (next_posts_of posts) u
    ended-is u within =
        ap is_ended_standing (standing-at standings is u within)
        ∙ ended-standing (next_posts_of posts u)

    chance-is-ask : (t : ℕ) (ask : Option Ask) → PostIsInRange (sizes_of store) ask
        → chance_of_ask store (away_by standings) (ended_by standings) t ask
        ≡ chance_of_ask store (is_unknown (next_posts_of posts)) (is_ended (next_posts_of posts)) t
        ask
    chance-is-ask t None within = refl
    chance-is-ask t (Some ask) within =
        ap chance_by (readiness-same store (away_by standings) (ended_by standings)
        (is_unknown (next_posts_of posts)) (is_ended (next_posts_of posts)) t ask
        (λ u e. let there = target-within (sizes_of store) ask u within e in
        (away-is u there, ended-is u there)))

    chance-is-post : (t : ℕ) (post : Option Post)
        → PostIsInRange (sizes_of store) (ask_of_post post)
        → chance_of_post store (away_by standings) (ended_by standings) t post
        ≡ chance_of_post store (is_unknown (next_posts_of posts)) (is_ended (next_posts_of posts)) t
        post
    chance-is-post t None within = refl
    chance-is-post t (Some post) within = chance-is-ask t post.ask within

    -- the standings tell a thread's chance
    pub chance-is : (t : ℕ) → chance_of_post store (away_by standings) (ended_by standings) t
        (next_posts_of posts t) ≡ chance store (next_posts_of posts) t
    chance-is t = chance-is-post t (next_posts_of posts t) (range t)

  -- ---- the target of an Unknown is Away
  away-chance : (u : ℕ) (post : Option Post) → is_none post ≡ true
      → chance_of_post store (is_unknown (next_posts_of posts)) (is_ended (next_posts_of posts)) u
      post ≡ Away
  away-chance u None e = refl
  away-chance u (Some post) e = absurd (false≢true e)

  abbrev all : List Chance
  all = chances store.threads store (next_posts_of posts)

  either-target : (b : Bool) → HasAwayTarget all (chance_by (ready_by None b))
  either-target true = tt
  either-target false = tt

  away-target : (u : ℕ) (b away : Bool) → u < store.threads
      → is_unknown (next_posts_of posts) u ≡ away
      → HasAwayTarget all (chance_by (ready_by (cond away (Some u) None) b))
  away-target u b true within is = (
    omega (arith, length-chances store.threads store (next_posts_of posts)),
    chance-at store.threads store (next_posts_of posts) u within
        ∙ away-chance u (next_posts_of posts u) is,
  )
  away-target u b false within is = either-target b

  by-target : (target : Option ℕ) (b : Bool) → ((u : ℕ) → target ≡ Some u → u < store.threads)
      → HasAwayTarget all (chance_by (ready_by
      (unknown_target (is_unknown (next_posts_of posts)) target) b))
  by-target None b within = either-target b
  by-target (Some u) b within =
      away-target u b (is_unknown (next_posts_of posts) u) (within u refl) refl

  ask-target : (t : ℕ) (ask : Option Ask) → PostIsInRange (sizes_of store) ask
      → HasAwayTarget all (chance_of_ask store (is_unknown (next_posts_of posts))
      (is_ended (next_posts_of posts)) t ask)
  ask-target t None within = tt
  ask-target t (Some ask) within =
      by-target (join_target ask) (enabled store (is_ended (next_posts_of posts)) t ask)
      (λ u e. target-within (sizes_of store) ask u within e)

  post-target : (t : ℕ) (post : Option Post) → PostIsInRange (sizes_of store) (ask_of_post post)
      → HasAwayTarget all (chance_of_post store (is_unknown (next_posts_of posts))
      (is_ended (next_posts_of posts)) t post)
  post-target t None within = tt
  post-target t (Some post) within = ask-target t post.ask within

  pub targets-away : (known : List Chance) → known ≡ all → TargetsAreAway known
  targets-away known is =
      let P : List Chance → Type 0 = λ cs. TargetsAreAway cs in
      let whole : TargetsAreAway all = λ t within.
      let there : t < store.threads = omega
      (arith, length-chances store.threads store (next_posts_of posts)) in
      let Q : Chance → Type 0 = HasAwayTarget all in
      subst Q (sym (chance-at store.threads store (next_posts_of posts) t there))
      (post-target t (next_posts_of posts t) (range t)) in
      subst P (sym is) whole

-- ---- the threads whose chance stays
joins-other : (t v : ℕ) (ask : Ask) → joins t ask ≡ false → join_target ask ≡ Some v → v ≢ t
joins-other t v (asks.Join u) e is = λ same. let here : u ≡ t = let w : u ≡ v = cc in w ∙ same in
    false≢true (sym e ∙ eq-eqb u t here)
joins-other t v ask e is = absurd cc

-- an ask that never has to wait may always take its step
never-waits : (store : StoreState) (away ended : ℕ → Bool) (u : ℕ) (ask : Ask)
    → may_wait ask ≡ false → readiness store away ended u ask ≡ Yes
never-waits store away ended u (asks.Lock m) e = absurd (false≢true (sym e))
never-waits store away ended u (asks.Regain condition m) e = absurd (false≢true (sym e))
never-waits store away ended u (asks.Down s) e = absurd (false≢true (sym e))
never-waits store away ended u (asks.Leave b) e = absurd (false≢true (sym e))
never-waits store away ended u (asks.Join v) e = absurd (false≢true (sym e))
never-waits store away ended u asks.Begin e = absurd (false≢true (sym e))
never-waits store away ended u (asks.RdLock l) e = absurd (false≢true (sym e))
never-waits store away ended u (asks.WrLock l) e = absurd (false≢true (sym e))
never-waits store away ended u ask e = refl

module _ (store after : StoreState) (posts : List (Option Post)) (t : ℕ) (post : Option Post)
    (object : Touched)
    (keeps : (ended : ℕ → Bool) (u : ℕ) (ask : Ask) → u ≢ t → depends_on u ask object ≡ false
    → enabled after ended u ask ≡ enabled store ended u ask) where
  abbrev later : NextPosts
  later = next_posts_of (set posts t post)

  other-post : (u : ℕ) → u ≢ t → later u ≡ next_posts_of posts u
  other-post u apart = get_or-set_other posts t u post None apart

  kept-ask : (u : ℕ) (ask : Option Ask) → u ≢ t → concerns_ask t object u ask ≡ false
      → chance_of_ask after (is_unknown later) (is_ended later) u ask
      ≡ chance_of_ask store (is_unknown (next_posts_of posts)) (is_ended (next_posts_of posts)) u
      ask
  kept-ask u None apart none = refl
  kept-ask u (Some ask) apart none = elim (cases_Bool (may_wait ask)) [
    | inl waits ↦
        let parts = or_parts (depends_on u ask object) (joins t ask)
        (sym (ap (λ b. b && (depends_on u ask object || joins t ask)) waits) ∙ none) in
        ap chance_by (
        readiness-same after (is_unknown later) (is_ended later) (is_unknown (next_posts_of posts))
        (is_ended (next_posts_of posts)) u ask (λ v e.
        let same = other-post v (joins-other t v ask parts.1 e) in
        (ap is_none same, ap (λ o. option_map_or (λ (p : Post). is_none p.ask) o false) same))
        ∙ ap (ready_by (unknown_target (is_unknown (next_posts_of posts)) (join_target ask)))
        (keeps (is_ended (next_posts_of posts)) u ask apart parts.0))
    | inr never ↦
        ap chance_by (never-waits after (is_unknown later) (is_ended later) u ask never
        ∙ sym (never-waits store (is_unknown (next_posts_of posts)) (is_ended (next_posts_of posts))
        u ask never))
  ]

  kept-post : (u : ℕ) (p : Option Post) → u ≢ t → concerns_ask t object u (ask_of_post p) ≡ false
      → chance_of_post after (is_unknown later) (is_ended later) u p
      ≡ chance_of_post store (is_unknown (next_posts_of posts)) (is_ended (next_posts_of posts)) u p
  kept-post u None apart none = refl
  kept-post u (Some p) apart none = kept-ask u p.ask apart none

  -- A thread that neither posts nor takes the step, and whom this doesn't concern, has the chance
  -- that it had.
  pub chance-kept : (u : ℕ) → concerns t object u (later u) ≡ false
      → chance after later u ≡ chance store (next_posts_of posts) u
  chance-kept u none =
      let parts = or_parts (eqb u t) (concerns_ask t object u (ask_of_post (later u))) none in
      let apart : u ≢ t = λ same. false≢true (sym parts.0 ∙ eq-eqb u t same) in
      let same = other-post u apart in
      ap (chance_of_post after (is_unknown later) (is_ended later) u) same
      ∙ kept-post u (next_posts_of posts u) apart
      (sym (ap (λ p. concerns_ask t object u (ask_of_post p)) same) ∙ parts.1)

-- ---- a new post in the list
pub set-listed : (posts : List (Option Post)) (t : ℕ) (post : Option Post) (u : ℕ)
    → (next_posts_of (set posts t post) u ≡ next_posts_of posts u)
    ⊎ (next_posts_of (set posts t post) u ≡ post)
set-listed posts t post u = elim (cases_eq u t) [
  | inl same ↦ elim (cases_lt t (length posts)) [
    | inl within ↦ inr (ap (next_posts_of (set posts t post)) same
        ∙ get_or-set_same posts t post None within)
    | inr past ↦ inl (get_or_past (set posts t post) u None (omega (arith, length-set posts t post))
        ∙ sym (get_or_past posts u None (omega arith)))
  ]
  | inr apart ↦ inl (get_or-set_other posts t u post None apart)
]

pub range-set : (store after : StoreState) (posts : List (Option Post)) (t : ℕ) (post : Option Post)
    → ArePostsInRange store posts → sizes_of after ≡ sizes_of store
    → PostIsInRange (sizes_of store) (ask_of_post post) → ArePostsInRange after (set posts t post)
range-set store after posts t post range sizes one u =
    let S : Sizes → Type 0 =
    λ s. PostIsInRange s (ask_of_post (next_posts_of (set posts t post) u)) in
    let P : Option Post → Type 0 = λ p. PostIsInRange (sizes_of store) (ask_of_post p) in
    subst S (sym sizes) (elim (set-listed posts t post u) [
      | inl other ↦ subst P (sym other) (range u)
      | inr new ↦ subst P (sym new) one
    ])

pub standings-set : (posts : List (Option Post)) (standings : List Standing) (t : ℕ)
    (post : Option Post) (standing : Standing) → standings ≡ map standing_by posts
    → standing ≡ standing_by post → set standings t standing ≡ map standing_by (set posts t post)
standings-set posts standings t post standing is one =
    ap (λ s. set s t standing) is ∙ ap (set (map standing_by posts) t) one
    ∙ sym (map-set standing_by posts t post)

-- ---- the threads that are blocked
cons_option-append : {X : Type 0} (o : Option X) (xs ys : List X)
    → cons_option o xs ++ ys ≡ cons_option o (xs ++ ys)
cons_option-append None xs ys = refl
cons_option-append (Some x) xs ys = refl

pub filter_map-more : {X : Type 0} (f : ℕ → Option X) (from many last : ℕ) → last ≡ from + many
    → filter_map f (range_with_len from (suc many))
    ≡ filter_map f (range_with_len from many) ++ cons_option (f last) []
filter_map-more f from zero last e = let same : from ≡ last = omega arith in
    ap (λ k. cons_option (f k) []) same
filter_map-more f from (suc many) last e =
    ap (cons_option (f from)) (filter_map-more f (from + 1) many last (omega arith))
    ∙ sym (cons_option-append (f from) (filter_map f (range_with_len (from + 1) many))
    (cons_option (f last) []))

-- the threads below a number that are blocked, and what is said of them
pub record IsBlockedBelow (store : StoreState) (next : NextPosts) (n : ℕ) (blocked : List (ℕ × ℕ))
    (stuck : Bool) : Type 0 where
  pub list : blocked ≡ filter_map (blocked_at store next) (range_with_len 0 n)
  pub below : All (λ place. place.0 < n) blocked
  pub says : verdict_of_blocked blocked ≡ cond stuck (Stuck blocked) Passed

verdict-more : (blocked : List (ℕ × ℕ)) (place : ℕ × ℕ)
    → verdict_of_blocked (blocked ++ place ∷ []) ≡ Stuck (blocked ++ place ∷ [])
verdict-more [] place = refl
verdict-more (one ∷ blocked) place = refl

pub blocked-more : (store : StoreState) (next : NextPosts) (n line : ℕ) (blocked : List (ℕ × ℕ))
    (stuck : Bool) → IsBlockedBelow store next n blocked stuck
    → blocked_at store next n ≡ Some (n, line)
    → IsBlockedBelow store next (n + 1) (blocked ++ (n, line) ∷ []) true
blocked-more store next n line blocked stuck was is = record {
  list =
      ap (λ l. l ++ (n, line) ∷ []) was.list
      ∙ ap (λ o. filter_map (blocked_at store next) (range_with_len 0 n) ++ cons_option o [])
      (sym is) ∙ sym (filter_map-more (blocked_at store next) 0 n n (omega arith))
      ∙ ap (λ k. filter_map (blocked_at store next) (range_with_len 0 k))
      (let e : suc n ≡ n + 1 = omega arith in e);
  below =
      All-push (λ (place : ℕ × ℕ). place.0 < n + 1) blocked (n, line)
      (All-weaker (λ (place : ℕ × ℕ). place.0 < n) (λ (place : ℕ × ℕ). place.0 < n + 1)
      (λ place lt. omega arith) blocked was.below) (omega arith);
  says = verdict-more blocked (n, line);
}

pub blocked-same : (store : StoreState) (next : NextPosts) (n : ℕ) (blocked : List (ℕ × ℕ))
    (stuck : Bool) → IsBlockedBelow store next n blocked stuck → blocked_at store next n ≡ None
    → IsBlockedBelow store next (n + 1) blocked stuck
blocked-same store next n blocked stuck was none = record {
  list =
      was.list ∙ sym (append-nil (filter_map (blocked_at store next) (range_with_len 0 n)))
      ∙ ap (λ o. filter_map (blocked_at store next) (range_with_len 0 n) ++ cons_option o [])
      (sym none) ∙ sym (filter_map-more (blocked_at store next) 0 n n (omega arith))
      ∙ ap (λ k. filter_map (blocked_at store next) (range_with_len 0 k))
      (let e : suc n ≡ n + 1 = omega arith in e);
  below =
      All-weaker (λ (place : ℕ × ℕ). place.0 < n) (λ (place : ℕ × ℕ). place.0 < n + 1)
      (λ place lt. omega arith) blocked was.below;
  says = was.says;
}

pub same-blocked : (store : StoreState) (next : NextPosts) (n : ℕ) (blocked now : List (ℕ × ℕ))
    (stuck stuck_now : Bool) → now ≡ blocked → stuck_now ≡ stuck
    → IsBlockedBelow store next n blocked stuck → IsBlockedBelow store next n now stuck_now
same-blocked store next n blocked now stuck stuck_now e f is =
    let P : List (ℕ × ℕ) → Type 0 = λ b. IsBlockedBelow store next n b stuck_now in
    let Q : Bool → Type 0 = λ s. IsBlockedBelow store next n blocked s in
    subst P (sym e) (subst Q (sym f) is)

pub none-blocked : (store : StoreState) (next : NextPosts) (blocked : List (ℕ × ℕ)) → blocked ≡ []
    → IsBlockedBelow store next 0 blocked false
none-blocked store next blocked none = record {
  list = none;
  below = All-same (λ (place : ℕ × ℕ). place.0 < 0) blocked [] none
      (All-nil (λ (place : ℕ × ℕ). place.0 < 0));
  says = ap verdict_of_blocked none;
}

-- ---- no thread has posted
pub nothing-posted : (n t : ℕ) → next_posts_of (replicate n None) t ≡ None
nothing-posted n t = elim (cases_lt t n) [
  | inl within ↦ get_or-replicate n t None None within
  | inr past ↦ let none : Option Post = None in
      get_or_past (replicate n none) t none (omega (arith, length-replicate n none))
]

map-replicate : {X Y : Type 0} (f : X → Y) (n : ℕ) (x : X)
    → map f (replicate n x) ≡ replicate n (f x)
map-replicate f zero x = refl
map-replicate f (suc n) x = ap (λ l. f x ∷ l) (map-replicate f n x)

pub new-board : (deal : Deal) (store : StoreState) (posts : List (Option Post))
    (standings : List Standing) (known : List Chance) (stale : ℕ) → store ≡ first_store deal
    → posts ≡ replicate deal.threads None → standings ≡ replicate deal.threads AwayStanding
    → known ≡ replicate deal.threads Away → IsBoard store posts standings known stale
new-board deal store posts standings known stale is none away chances-away =
    let threads : store.threads ≡ deal.threads = ap (λ (s : StoreState). s.threads) is in
    let unposted : (t : ℕ) → next_posts_of posts t ≡ None =
    λ t. ap (λ ps. next_posts_of ps t) none ∙ nothing-posted deal.threads t in
    let P : Option Post → Type 0 = λ p. PostIsInRange (sizes_of store) (ask_of_post p) in
    record {
      threads = ap length none ∙ length-replicate deal.threads None ∙ sym threads;
      few = omega (arith, threads, deal.few_threads);
      in_range = λ t. subst P (sym (unposted t)) tt;
      standings =
          away ∙ sym (map-replicate standing_by deal.threads None)
          ∙ ap (map standing_by) (sym none);
      as_many = ap length chances-away ∙ length-replicate deal.threads Away ∙ sym threads;
      chances = λ t within fresh.
          ap (λ cs. chance_of cs t) chances-away
          ∙ get_or-replicate deal.threads t Away Ended (omega arith)
          ∙ sym (ap (chance_of_post store (is_unknown (next_posts_of posts))
          (is_ended (next_posts_of posts)) t) (unposted t));
    }

-- ---- a thread's post in a board, and another store
pub front-taken : {X : Type 0} (n : ℕ) (xs ys : List X) → n ≡ length xs → take n (xs ++ ys) ≡ xs
front-taken zero [] ys e = refl
front-taken zero (x ∷ xs) ys e = absurd (omega arith)
front-taken (suc n) [] ys e = absurd (omega arith)
front-taken (suc n) (x ∷ xs) ys e = ap (λ l. x ∷ l) (front-taken n xs ys (omega arith))

module _ (store : StoreState) (posts : List (Option Post)) (standings : List Standing)
    (known : List Chance) (stale : ℕ) (board : IsBoard store posts standings known stale) where
  -- a thread that a step or a post doesn't concern, and whose next post locks no stale mutex
  pub others-kept : (after : StoreState) (t : ℕ) (post : Option Post) (object : Touched) (more : ℕ)
      → after.threads ≡ store.threads → KeepsOthers t object store after
      → ((m : ℕ) → bit_at stale m ≡ 1 → bit_at more m ≡ 1) → (u : ℕ) → u < after.threads
      → IsFresh more (ask_of_post (next_posts_of (set posts t post) u))
      → concerns t object u (next_posts_of (set posts t post) u) ≡ false
      → chance_of known u ≡ chance after (next_posts_of (set posts t post)) u
  others-kept after t post object more threads keeps grows u within fresh none =
      let parts = or_parts (eqb u t)
      (concerns_ask t object u (ask_of_post (next_posts_of (set posts t post) u))) none in
      let apart : u ≢ t = λ same. false≢true (sym parts.0 ∙ eq-eqb u t same) in
      let same = get_or-set_other posts t u post None apart in
      board.chances u (omega (arith, threads, within)) (λ m small set.
      sym (ap (λ p. locks_ask m (ask_of_post p)) same) ∙ fresh m small (grows m set))
      ∙ sym (chance-kept store after posts t post object keeps u none)

  pub board-set : (after : StoreState) (t : ℕ) (post : Option Post) (standing : Standing)
      (more : ℕ) (looked : List Chance) → sizes_of after ≡ sizes_of store
      → PostIsInRange (sizes_of store) (ask_of_post post) → standing ≡ standing_by post
      → length looked ≡ length known → AreKnownChances after (set posts t post) more looked
      → IsBoard after (set posts t post) (set standings t standing) looked more
  board-set after t post standing more looked sizes range stands long is =
      let threads : after.threads ≡ store.threads = ap (λ (s : Sizes). s.threads) sizes in
      record {
        threads = length-set posts t post ∙ board.threads ∙ sym threads;
        few = omega (arith, board.few);
        in_range = range-set store after posts t post board.in_range sizes range;
        standings = standings-set posts standings t post standing board.standings stands;
        as_many = long ∙ board.as_many ∙ sym threads;
        chances = is;
      }

-- the chances before a step, of which some are known
pub chances-before : (store after : StoreState) (posts : List (Option Post)) (t : ℕ)
    (post : Option Post) (object : Touched) (waiters stale : ℕ) (standings : List Standing)
    (known : List Chance) → IsBoard store posts standings known stale
    → AreWaiters store.threads posts waiters → after.threads ≡ store.threads
    → KeepsOthers t object store after
    → WereChances after (set posts t post) t object waiters known
    (chances store.threads store (next_posts_of posts))
chances-before store after posts t post object waiters stale standings known board waiting threads
    keeps = record {
      threads = length-chances store.threads store (next_posts_of posts) ∙ sym threads;
      stayed = λ u within none.
          chance-at store.threads store (next_posts_of posts) u (omega (arith, threads, within))
          ∙ sym (chance-kept store after posts t post object keeps u none);
      waiting = λ u within apart set.
          let there : u < store.threads = omega (arith, threads, within) in
          board.chances u there (λ m small is.
          waiting.unlocking m u (omega (arith, there, board.few)) set)
          ∙ sym (chance-at store.threads store (next_posts_of posts) u there);
    }

-- a board that keeps each thread's chance
pub fresh-board : (store : StoreState) (posts : List (Option Post)) (standings : List Standing)
    (known : List Chance) (was stale : ℕ) → IsBoard store posts standings known was
    → IsBoard store posts standings (chances store.threads store (next_posts_of posts)) stale
fresh-board store posts standings known was stale board = record {
  threads = board.threads;
  few = board.few;
  in_range = board.in_range;
  standings = board.standings;
  as_many = length-chances store.threads store (next_posts_of posts);
  chances = λ u within fresh. chance-at store.threads store (next_posts_of posts) u within;
}
