-- The threads whose next posts lock a mutex, as the bits of a word of each mutex.
use Rattle.std.proofs.Common.{◌≡◌, ◌≢◌, ℕ, ◌<◌, ◌≤◌, Bool, true, false, cond, ◌||◌, ◌&&◌, List}
use Rattle.std.proofs.Common.{length, set, get_or, replicate, Option, Some, None, refl, sym, ap}
use Rattle.std.proofs.Common.{◌∙◌, inl, inr, arith, w64, ne_eqb, eqb-true, eq-eqb, [], ◌∷◌}
use Rattle.std.proofs.Math.Nat.{le-max_left, le-max_right}
use Rattle.std.specs.Prelude.{is_none, bit_or, max}
use Rattle.std.specs.Int.{bit_at}
use Rattle.std.proofs.lemmas.Bool.{cases_eq, cases_lt, false≢true}
use Rattle.std.proofs.lemmas.List.{get_or-set_other, get_or-set_same, get_or-replicate, get_or_past}
use Rattle.std.proofs.lemmas.List.{length-replicate, length-set}
use Rattle.std.proofs.lemmas.Nat.Bits.{bit_at-zero, bit_at-lt, bit_at_or, bit_at_clear_same}
use Rattle.std.proofs.lemmas.Nat.Bits.{bit_at_clear_other}
use Rattle.pct_ask.specs.declared.ask.Ask.{Ask}
use Rattle.pct_ask.specs.declared.ask.Ask.TheVariants.{Lock, Join}
use Rattle.pct_ask.specs.declared.names.NameKind.{NameKind}
use Rattle.pct_ask.specs.declared.names.NameKind.TheVariants as kinds
use Rattle.pct_ask.specs.declared.ask.Post.{Post}
use Rattle.pct_ask.specs.Objects.{Sizes, IsInRange, PostIsInRange, AreThere, TestObject, count_of}
use Rattle.pct_ask.specs.Objects.{objects_of}
use Rattle.sync_store.specs.declared.touched.Touched.{Touched}
use Rattle.sync_store.specs.declared.touched.Touched.TheVariants.{Mutex}
use Rattle.sync_store.specs.Store.{StoreState, owner_of}
use Rattle.sync_store.specs.Touched.{depends_on, last_touched, touched_at, touched_of}
use Rattle.sync_store.specs.Ready.{ready_by}
use Rattle.policy_pick.specs.declared.chance.Chance.{Chance}
use Rattle.policy_pick.specs.declared.chance.Chance.TheVariants.{Ended}
use Rattle.policy_pick.specs.Choice.{chance_of, is_open, OpensOnly}
use Rattle.turn_book.specs.Chances.{NextPosts, chance, chances, chance_by, chance_of_ask}
use Rattle.turn_book.specs.Chances.{chance_of_post}
use Rattle.turn_book.specs.Chances.{is_unknown, is_ended}
use Rattle.turn_book.specs.Board.{AreLockers, LockOne, ask_of_post, next_posts_of, locks, locks_ask}
use Rattle.turn_book.specs.Board.{lockers_at, waits_otherwise, waits_otherwise_ask, AreKnownChances}
use Rattle.turn_book.specs.Board.{AreWaiters, IsFresh, IsStale, WereChances}
use Rattle.turn_book.specs.Board.{concerns, concerns_ask, joins}
use Rattle.turn_book.proofs.Boards.{nothing-posted, chance-at, chances-are, length-chances}
use Rattle.turn_book.proofs.Waiters.{cleared, never-set}

-- ---- the words
abbrev pub bit_of : Bool → ℕ
bit_of b = cond b 1 0

-- no mutex is locked where nobody has posted
pub nobody-locks : (n k : ℕ) (posts : List (Option Post)) (lockers : List ℕ)
    → posts ≡ replicate n None → lockers ≡ replicate k 0 → AreLockers posts lockers
nobody-locks n k posts lockers none zeros m u within =
    let unposted : next_posts_of posts u ≡ None =
    ap (λ ps. next_posts_of ps u) none ∙ nothing-posted n u in
    let empty : ℕ = 0 in
    let word : get_or lockers m 0 ≡ 0 = ap (λ ws. get_or ws m 0) zeros ∙ elim (cases_lt m k) [
      | inl below ↦ get_or-replicate k m empty empty below
      | inr past ↦
          get_or_past (replicate k empty) m empty (omega (arith, length-replicate k empty))
    ] in
    ap (λ w. bit_at w u) word ∙ bit_at-zero u
    ∙ sym (ap (λ p. bit_of (locks_ask m (ask_of_post p))) unposted)

-- a thread has another next post, and neither locks a mutex that the other doesn't
pub lockers-stay : (posts : List (Option Post)) (lockers : List ℕ) (t : ℕ) (post : Option Post)
    → t < length posts
    → ((m : ℕ) → locks_ask m (ask_of_post post)
    ≡ locks_ask m (ask_of_post (next_posts_of posts t)))
    → AreLockers posts lockers → AreLockers (set posts t post) lockers
lockers-stay posts lockers t post there same was m u within =
    was m u within ∙ elim (cases_eq u t) [
      | inl here ↦
          ap (λ v. bit_of (locks_ask m (ask_of_post (next_posts_of posts v)))) here
          ∙ sym (ap bit_of (same m))
          ∙ sym (ap (λ p. bit_of (locks_ask m (ask_of_post p)))
          (ap (next_posts_of (set posts t post)) here ∙ get_or-set_same posts t post None there))
      | inr apart ↦
          sym (ap (λ p. bit_of (locks_ask m (ask_of_post p)))
          (get_or-set_other posts t u post None apart))
    ]

-- a thread has another next post, and its bit in the word of one mutex says whether that locks it
pub lockers-set : (posts : List (Option Post)) (lockers : List ℕ) (t m word : ℕ)
    (post : Option Post) → t < length posts → m < length lockers
    → bit_at word t ≡ bit_of (locks_ask m (ask_of_post post))
    → ((u : ℕ) → u < 64 → u ≢ t → bit_at word u ≡ bit_at (get_or lockers m 0) u)
    → ((n : ℕ) → n ≢ m → locks_ask n (ask_of_post post)
    ≡ locks_ask n (ask_of_post (next_posts_of posts t)))
    → AreLockers posts lockers → AreLockers (set posts t post) (set lockers m word)
lockers-set posts lockers t m word post there inside own others same was n u within =
    let posted : next_posts_of (set posts t post) t ≡ post =
    get_or-set_same posts t post None there in
    let far : u ≢ t → next_posts_of (set posts t post) u ≡ next_posts_of posts u =
    λ apart. get_or-set_other posts t u post None apart in
    elim (cases_eq n m) [
      | inl is ↦
          let at : get_or (set lockers m word) n 0 ≡ word =
          ap (λ k. get_or (set lockers m word) k 0) is
          ∙ get_or-set_same lockers m word 0 inside in
          ap (λ w. bit_at w u) at ∙ elim (cases_eq u t) [
            | inl here ↦
                ap (bit_at word) here ∙ own
                ∙ sym (ap (λ k. bit_of (locks_ask k (ask_of_post post))) is)
                ∙ sym (ap (λ p. bit_of (locks_ask n (ask_of_post p)))
                (ap (next_posts_of (set posts t post)) here ∙ posted))
            | inr apart ↦
                others u within apart ∙ was m u within
                ∙ sym (ap (λ k. bit_of (locks_ask k (ask_of_post (next_posts_of posts u)))) is)
                ∙ sym (ap (λ p. bit_of (locks_ask n (ask_of_post p))) (far apart))
          ]
      | inr other ↦
          ap (λ w. bit_at w u) (get_or-set_other lockers m n word 0 other) ∙ was n u within
          ∙ elim (cases_eq u t) [
            | inl here ↦
                ap (λ v. bit_of (locks_ask n (ask_of_post (next_posts_of posts v)))) here
                ∙ sym (ap bit_of (same n other))
                ∙ sym (ap (λ p. bit_of (locks_ask n (ask_of_post p)))
                (ap (next_posts_of (set posts t post)) here ∙ posted))
            | inr apart ↦ sym (ap (λ p. bit_of (locks_ask n (ask_of_post p))) (far apart))
          ]
    ]

-- an ask that locks a mutex locks that one alone
pub own-lock : (m : ℕ) → locks m (Lock m) ≡ true
own-lock m = eq-eqb m m refl

pub other-lock : (n m : ℕ) → n ≢ m → locks n (Lock m) ≡ false
other-lock n m apart = ne_eqb m n (λ e. apart (sym e))

pub no-lock : (ask : Ask) → ((m : ℕ) → ask ≡ Lock m → ⊥) → (m : ℕ) → locks m ask ≡ false
no-lock (Lock n) none m = absurd (none n refl)
no-lock ask none m = refl

-- an ask that may have to wait otherwise locks no mutex
pub waits-unlocking : (m : ℕ) (ask : Ask) → waits_otherwise ask ≡ true → locks m ask ≡ false
waits-unlocking m (Lock n) e = absurd (false≢true e)
waits-unlocking m ask e = refl

-- a mutex that a post locks is there
pub lock-within : (sizes : Sizes) (m : ℕ) (ask : Option Ask) → PostIsInRange sizes ask
    → locks_ask m ask ≡ true → m < sizes.mutexes
lock-within sizes m None range e = absurd (false≢true e)
lock-within sizes m (Some (Lock n)) range e =
    let same = eqb-true n m e in
    omega (arith, same, range)
lock-within sizes m (Some ask) range e = absurd (false≢true e)

bit-says : (b : Bool) (n : ℕ) → n ≡ bit_of b → n ≡ 1 → b ≡ true
bit-says true n is one = refl
bit-says false n is one = absurd (omega arith)

bit-denies : (b : Bool) (n : ℕ) → n ≡ bit_of b → n ≡ 0 → b ≡ false
bit-denies true n is none = absurd (omega arith)
bit-denies false n is none = refl

-- the threads that lock an object lock one mutex
pub lock-one : (posts : List (Option Post)) (lockers : List ℕ) → AreLockers posts lockers
    → (object : Touched) → LockOne posts (lockers_at lockers object)
lock-one posts lockers are (Mutex m) = (
  m,
  λ u within is. bit-says (locks_ask m (ask_of_post (next_posts_of posts u)))
      (bit_at (get_or lockers m 0) u) (are m u within) is,
)
lock-one posts lockers are object = (
  0,
  λ u within is. absurd (let none = bit_at-zero u in omega (arith, none, is)),
)

-- ---- whom a step doesn't concern
otherwise-concerned : (t : ℕ) (object : Touched) (u : ℕ) (ask : Ask) → waits_otherwise ask ≡ false
    → ((m : ℕ) → object ≡ Mutex m → locks m ask ≡ false)
    → concerns_ask t object u (Some ask) ≡ false
otherwise-concerned t (Mutex m) u (Lock n) never unlocked =
    ap (λ b. b || false) (unlocked m refl)
otherwise-concerned t object u (Lock n) never unlocked = refl
otherwise-concerned t object u ask never unlocked =
    ap (λ b. b && (depends_on u ask object || joins t ask)) never

-- another thread whose ask waits neither for the mutex that is touched nor otherwise
pub others-unlocked : (posts : List (Option Post)) (lockers : List ℕ) → AreLockers posts lockers
    → (t : ℕ) (object : Touched) (u : ℕ) → u < 64 → u ≢ t
    → waits_otherwise_ask (ask_of_post (next_posts_of posts u)) ≡ false
    → bit_at (lockers_at lockers object) u ≡ 0 → concerns t object u (next_posts_of posts u) ≡ false
others-unlocked posts lockers are t object u within apart never none =
    ap (λ b. b || concerns_ask t object u (ask_of_post (next_posts_of posts u)))
    (ne_eqb u t apart)
    ∙ by-ask (ask_of_post (next_posts_of posts u)) never (λ m is.
    let word : bit_at (get_or lockers m 0) u ≡ 0 =
    sym (ap (λ o. bit_at (lockers_at lockers o) u) is) ∙ none in
    bit-denies (locks_ask m (ask_of_post (next_posts_of posts u)))
    (bit_at (get_or lockers m 0) u) (are m u within) word) where
      by-ask : (ask : Option Ask) → waits_otherwise_ask ask ≡ false
          → ((m : ℕ) → object ≡ Mutex m → locks_ask m ask ≡ false)
          → concerns_ask t object u ask ≡ false
      by-ask None idle unlocked = refl
      by-ask (Some ask) idle unlocked = otherwise-concerned t object u ask idle unlocked

-- ---- the chance of those that lock one mutex
lock-chance : (store : StoreState) (away ended : ℕ → Bool) (m u : ℕ) (post : Option Post)
    → locks_ask m (ask_of_post post) ≡ true
    → chance_of_post store away ended u post
    ≡ chance_by (ready_by None (is_none (owner_of store m)))
lock-chance store away ended m u None e = absurd (false≢true e)
lock-chance store away ended m u (Some post) e = by-ask post.ask e where
  by-ask : (ask : Option Ask) → locks_ask m ask ≡ true → chance_of_ask store away ended u ask
      ≡ chance_by (ready_by None (is_none (owner_of store m)))
  by-ask None f = absurd (false≢true f)
  by-ask (Some (Lock n)) f =
      ap (λ k. chance_by (ready_by None (is_none (owner_of store k)))) (eqb-true n m f)
  by-ask (Some ask) f = absurd (false≢true f)

pub same-chance : (store : StoreState) (next : NextPosts) (m u v : ℕ)
    → locks_ask m (ask_of_post (next u)) ≡ true → locks_ask m (ask_of_post (next v)) ≡ true
    → chance store next u ≡ chance store next v
same-chance store next m u v one other =
    lock-chance store (is_unknown next) (is_ended next) m u (next u) one
    ∙ sym (lock-chance store (is_unknown next) (is_ended next) m v (next v) other)

-- a thread with a next post that locks a mutex is there
pub locker-there : (posts : List (Option Post)) (m u : ℕ)
    → locks_ask m (ask_of_post (next_posts_of posts u)) ≡ true → u < length posts
locker-there posts m u is = elim (cases_lt u (length posts)) [
  | inl within ↦ within
  | inr past ↦ absurd (false≢true (sym
      (ap (λ p. locks_ask m (ask_of_post p)) (get_or_past posts u None past)) ∙ is))
]

-- ---- one chance for each thread of some bits
-- Of the threads whose bits aren't left those that have a bit have the chance, and all others the
-- one that they had.
pub record AreSet (threads : ℕ) (one : Chance) (first : List Chance) (left : ℕ)
    (known : List Chance) : Type 0 where
  pub long : length known ≡ length first
  pub within : (u : ℕ) → u < 64 → bit_at left u ≡ 1 → bit_at threads u ≡ 1
  pub done : (u : ℕ) → u < 64 → bit_at threads u ≡ 1 → bit_at left u ≡ 0
      → chance_of known u ≡ one
  pub others : (u : ℕ) → u < 64 → bit_at threads u ≡ 0 → chance_of known u ≡ chance_of first u

pub set-none : (threads : ℕ) (one : Chance) (first : List Chance)
    → AreSet threads one first threads first
set-none threads one first = record {
  long = refl;
  within = λ u small is. is;
  done = λ u small is none. absurd (omega (arith, is, none));
  others = λ u small none. refl;
}

pub set-more : (threads : ℕ) (one : Chance) (first : List Chance) (left k : ℕ)
    (known : List Chance) → k < 64 → bit_at threads k ≡ 1 → k < length known
    → AreSet threads one first left known
    → AreSet threads one first (cleared left k) (set known k one)
set-more threads one first left k known small here inside was =
    let at : chance_of (set known k one) k ≡ one = get_or-set_same known k one Ended inside in
    let other : (u : ℕ) → u ≢ k → chance_of (set known k one) u ≡ chance_of known u =
    λ u apart. get_or-set_other known k u one Ended apart in
    record {
      long = length-set known k one ∙ was.long;
      within = λ u low is. elim (cases_eq u k) [
        | inl same ↦
            let gone = bit_at_clear_same w64 left k small in
            absurd (let e : bit_at (cleared left k) k ≡ 1 =
            sym (ap (bit_at (cleared left k)) same) ∙ is in omega (arith, e, gone))
        | inr apart ↦
            was.within u low (sym (bit_at_clear_other w64 left k small u low apart) ∙ is)
      ];
      done = λ u low is none. elim (cases_eq u k) [
        | inl same ↦ ap (chance_of (set known k one)) same ∙ at
        | inr apart ↦
            other u apart ∙ was.done u low is
            (sym (bit_at_clear_other w64 left k small u low apart) ∙ none)
      ];
      others = λ u low none. elim (cases_eq u k) [
        | inl same ↦
            absurd (let e : bit_at threads k ≡ 0 = sym (ap (bit_at threads) same) ∙ none in
            omega (arith, e, here))
        | inr apart ↦ other u apart ∙ was.others u low none
      ];
    }

-- bits are 0 or 1
pub bit-one : (word u : ℕ) → bit_at word u ≢ 0 → bit_at word u ≡ 1
bit-one word u some = omega (arith, bit_at-lt word u, some)

-- ---- the stale mutexes
at-within : (sizes : Sizes) (kind : NameKind) (place m : ℕ) → place < count_of kind sizes
    → touched_at kind place ≡ Mutex m → m < sizes.mutexes
at-within sizes kinds.Mutex place m within e =
    let same : place ≡ m = cc in
    omega (arith, same, within)
at-within sizes kind place m within e = absurd cc

last-within : (sizes : Sizes) (objects : List TestObject) (m : ℕ) → AreThere sizes objects
    → last_touched objects ≡ Mutex m → m < sizes.mutexes
last-within sizes [] m there e = absurd cc
last-within sizes (o ∷ []) m there e = at-within sizes o.kind o.place m there e
last-within sizes (o ∷ p ∷ others) m there e = last-within sizes (p ∷ others) m there.1 e

-- a mutex that a step touches is there
pub touched-within : (sizes : Sizes) (ask : Ask) (m : ℕ) → IsInRange sizes ask
    → touched_of ask ≡ Mutex m → m < sizes.mutexes
touched-within sizes (Join u) m range e = absurd cc
touched-within sizes ask m range e = last-within sizes (objects_of ask) m range e

-- a thread whose next post locks no stale mutex doesn't lock the one that is touched
pub fresh-unlocked : (posts : List (Option Post)) (lockers : List ℕ) → AreLockers posts lockers
    → (stale : ℕ) (object : Touched) → IsStale stale object → (u : ℕ) → u < 64
    → IsFresh stale (ask_of_post (next_posts_of posts u)) → bit_at (lockers_at lockers object) u ≡ 0
fresh-unlocked posts lockers are stale (Mutex m) is u small fresh =
    let here = is m refl in
    are m u small ∙ ap bit_of (fresh m here.0 here.1)
fresh-unlocked posts lockers are stale object is u small fresh = bit_at-zero u

-- those who lock one mutex were looked at, and it is stale no longer
pub less-stale : (store : StoreState) (posts : List (Option Post)) (lockers : List ℕ)
    → AreLockers posts lockers → store.threads ≤ 64 → (left k : ℕ) (known looked : List Chance)
    → k < 64
    → ((u : ℕ) → u < 64 → bit_at (get_or lockers k 0) u ≡ 1
    → chance_of looked u ≡ chance store (next_posts_of posts) u)
    → ((u : ℕ) → u < 64 → bit_at (get_or lockers k 0) u ≡ 0
    → chance_of looked u ≡ chance_of known u)
    → AreKnownChances store posts left known → AreKnownChances store posts (cleared left k) looked
less-stale store posts lockers are few left k known looked small these others was u there fresh =
    let low : u < 64 = omega arith in
    let ask = ask_of_post (next_posts_of posts u) in
    elim (cases_eq (bit_at (get_or lockers k 0) u) 0) [
      | inl out ↦
          others u low out ∙ was u there (λ m within set. elim (cases_eq m k) [
            | inl same ↦
                ap (λ n. locks_ask n ask) same
                ∙ bit-denies (locks_ask k ask) (bit_at (get_or lockers k 0) u) (are k u low) out
            | inr apart ↦
                fresh m within (bit_at_clear_other w64 left k small m within apart ∙ set)
          ])
      | inr some ↦ these u low (bit-one (get_or lockers k 0) u some)
    ]

-- where no mutex is stale, all chances are known
pub none-stale : (store : StoreState) (posts : List (Option Post)) (left : ℕ) (known : List Chance)
    → left ≡ 0 → length known ≡ store.threads → AreKnownChances store posts left known
    → known ≡ chances store.threads store (next_posts_of posts)
none-stale store posts left known none long are =
    chances-are store.threads store (next_posts_of posts) known long (λ u within.
    are u within (λ m small set. absurd (let bit = ap (λ w. bit_at w m) none in
    omega (arith, set, bit, bit_at-zero m))))

-- ---- who is open after a step
module _ (store : StoreState) (posts : List (Option Post)) (t waiters : ℕ) (object : Touched)
    (was earlier : List Chance)
    (were : WereChances store posts t object waiters was earlier) where
  abbrev later : List Chance
  later = chances store.threads store (next_posts_of posts)

  -- where the step concerns no other thread
  pub opens-alone : ((u : ℕ) → u ≢ t → concerns t object u (next_posts_of posts u) ≡ false)
      → OpensOnly t 0 earlier later
  opens-alone nobody = record {
    threads = length-chances store.threads store (next_posts_of posts) ∙ sym were.threads;
    others = λ u within apart none goes.
        let there : u < store.threads = omega (arith, within, were.threads) in
        ap is_open (were.stayed u there (nobody u apart))
        ∙ sym (ap is_open (chance-at store.threads store (next_posts_of posts) u there)) ∙ goes;
  }

  -- where the lockers of a mutex and the waiters were looked at
  pub opens-again : (lockers : List ℕ) (known : List Chance) (may_lock may_go : ℕ)
      → store.threads ≤ 64 → AreWaiters store.threads posts waiters → AreLockers posts lockers
      → ((u : ℕ) → u ≢ t → chance_of known u ≡ chance_of was u)
      → ((u : ℕ) → u < 64 → bit_at (lockers_at lockers object) u ≡ 1
      → is_open (chance store (next_posts_of posts) u) ≡ true
      → may_lock ≡ lockers_at lockers object)
      → ((u : ℕ) → u < 64 → bit_at waiters u ≡ 1 → bit_at may_go u ≡ 0
      → is_open (chance store (next_posts_of posts) u) ≡ true → is_open (chance_of known u) ≡ true)
      → OpensOnly t (bit_or may_lock may_go) earlier later
  opens-again lockers known may_lock may_go few waiting locking same alike_opens waiter_opens =
      let alike = lockers_at lockers object in
      record {
        threads = length-chances store.threads store (next_posts_of posts) ∙ sym were.threads;
        others = λ u within apart none goes.
            let there : u < store.threads = omega (arith, within, were.threads) in
            let small : u < 64 = omega (arith, there, few) in
            let both : max (bit_at may_lock u) (bit_at may_go u) ≡ 0 =
            sym (bit_at_or may_lock may_go u) ∙ none in
            let left = le-max_left (bit_at may_lock u) (bit_at may_go u) in
            let right = le-max_right (bit_at may_lock u) (bit_at may_go u) in
            let now : is_open (chance store (next_posts_of posts) u) ≡ true =
            sym (ap is_open (chance-at store.threads store (next_posts_of posts) u there)) ∙ goes in
            elim (cases_eq (bit_at waiters u) 0) [
              | inl idle ↦ elim (cases_eq (bit_at alike u) 0) [
                | inl out ↦
                    ap is_open (were.stayed u there (others-unlocked posts lockers locking t object
                    u small apart (never-set store.threads posts waiters u waiting small idle)
                    out)) ∙ now
                | inr some ↦
                    absurd (some (sym (ap (λ w. bit_at w u)
                    (alike_opens u small (bit-one alike u some) now))
                    ∙ (let clear : bit_at may_lock u ≡ 0 = omega (arith, both, left) in clear)))
              ]
              | inr waits ↦
                  let set = bit-one waiters u waits in
                  sym (ap is_open (were.waiting u there apart set))
                  ∙ sym (ap is_open (same u apart))
                  ∙ waiter_opens u small set (omega (arith, both, right)) now
            ];
      }
