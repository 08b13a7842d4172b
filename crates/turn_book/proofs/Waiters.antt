-- The threads whose asks may have to wait, as the bits of a word, and a look at each of them.
use Rattle.std.proofs.Common.{◌≡◌, ◌≢◌, ℕ, ◌*◌, ◌%◌, ◌^◌, ◌<◌, Bool, true, false, not}
use Rattle.std.proofs.Common.{List, length, set, replicate, Option, None, refl, sym, ap}
use Rattle.std.proofs.Common.{◌∙◌, inl, inr, arith, w64}
use Rattle.std.specs.Int.{bit_at, bit_not}
use Rattle.std.specs.Prelude.{bit_and, bit_or}
use Rattle.std.proofs.lemmas.Bool.{cases_Bool, cases_eq, false≢true}
use Rattle.std.proofs.lemmas.List.{get_or-set_other, get_or-set_same, length-set}
use Rattle.std.proofs.lemmas.Nat.{and_le_l}
use Rattle.std.proofs.lemmas.Nat.Bits.{bit_at-zero, bit_at_clear_same, bit_at_clear_other}
use Rattle.pct_ask.specs.declared.ask.Post.{Post}
use Rattle.sync_store.specs.declared.touched.Touched.TheVariants.{Nothing}
use Rattle.sync_store.specs.Store.{StoreState}
use Rattle.policy_pick.specs.declared.chance.Chance.{Chance}
use Rattle.policy_pick.specs.declared.chance.Chance.TheVariants.{Ended}
use Rattle.policy_pick.specs.Choice.{chance_of, is_open, SameOthers}
use Rattle.turn_book.specs.Chances.{chance, chances}
use Rattle.turn_book.specs.Board.{AreWaiters, ask_of_post, joins_ask, locks_ask}
use Rattle.turn_book.specs.Board.{waits_otherwise_ask, next_posts_of}
use Rattle.turn_book.proofs.Boards.{nothing-posted, set-listed, chance-at, length-chances}
use Rattle.turn_book.proofs.Boards.{chance-kept}
use Rattle.turn_book.proofs.Joined.{others-alone}

-- ---- the word
-- nobody waits where nobody has posted
pub nobody-waits : (threads n : ℕ) (posts : List (Option Post)) → posts ≡ replicate n None
    → AreWaiters threads posts 0
nobody-waits threads n posts none = record {
  each = λ u within waits.
      let unposted : next_posts_of posts u ≡ None =
      ap (λ ps. next_posts_of ps u) none ∙ nothing-posted n u in
      absurd (false≢true (sym (ap (λ p. waits_otherwise_ask (ask_of_post p)) unposted) ∙ waits));
  below = λ u within is. absurd (omega (arith, bit_at-zero u));
  unlocking = λ m u within is. absurd (omega (arith, bit_at-zero u));
}

-- a thread posts, and its bit is set where its ask may have to wait
pub waiters-post : (threads : ℕ) (posts : List (Option Post)) (was now t : ℕ) (post : Option Post)
    → t < threads → length posts ≡ threads → AreWaiters threads posts was
    → (waits_otherwise_ask (ask_of_post post) ≡ true → bit_at now t ≡ 1)
    → (bit_at now t ≡ 1 → (m : ℕ) → locks_ask m (ask_of_post post) ≡ false)
    → ((u : ℕ) → u < 64 → u ≢ t → bit_at now u ≡ bit_at was u)
    → AreWaiters threads (set posts t post) now
waiters-post threads posts was now t post here long before this unlocking others = record {
  each = λ u within waits. elim (cases_eq u t) [
    | inl same ↦
        let is : next_posts_of (set posts t post) u ≡ post =
        ap (next_posts_of (set posts t post)) same
        ∙ get_or-set_same posts t post None (omega arith) in
        ap (bit_at now) same
        ∙ this (sym (ap (λ p. waits_otherwise_ask (ask_of_post p)) is) ∙ waits)
    | inr apart ↦
        let is : next_posts_of (set posts t post) u ≡ next_posts_of posts u =
        get_or-set_other posts t u post None apart in
        others u within apart
        ∙ before.each u within (sym (ap (λ p. waits_otherwise_ask (ask_of_post p)) is) ∙ waits)
  ];
  below = λ u within is. elim (cases_eq u t) [
    | inl same ↦ omega arith
    | inr apart ↦ before.below u within (sym (others u within apart) ∙ is)
  ];
  unlocking = λ m u within is. elim (cases_eq u t) [
    | inl same ↦
        ap (λ p. locks_ask m (ask_of_post p)) (ap (next_posts_of (set posts t post)) same
        ∙ get_or-set_same posts t post None (omega arith))
        ∙ unlocking (sym (ap (bit_at now) same) ∙ is) m
    | inr apart ↦
        ap (λ p. locks_ask m (ask_of_post p)) (get_or-set_other posts t u post None apart)
        ∙ before.unlocking m u within (sym (others u within apart) ∙ is)
  ];
}

-- a thread takes its step, and the word stays
pub waiters-step : (threads after : ℕ) (posts : List (Option Post)) (was t : ℕ) → after ≡ threads
    → AreWaiters threads posts was → AreWaiters after (set posts t None) was
waiters-step threads after posts was t many before = record {
  each = λ u within waits. elim (set-listed posts t None u) [
    | inl other ↦
        before.each u within (sym (ap (λ p. waits_otherwise_ask (ask_of_post p)) other) ∙ waits)
    | inr none ↦
        absurd (false≢true (sym (ap (λ p. waits_otherwise_ask (ask_of_post p)) none) ∙ waits))
  ];
  below = λ u within is. omega (arith, before.below u within is);
  unlocking = λ m u within is. elim (set-listed posts t None u) [
    | inl other ↦
        ap (λ p. locks_ask m (ask_of_post p)) other ∙ before.unlocking m u within is
    | inr none ↦ ap (λ p. locks_ask m (ask_of_post p)) none
  ];
}

-- a bit that isn't set is of a thread whose ask never has to wait
pub never-set : (threads : ℕ) (posts : List (Option Post)) (waiters u : ℕ)
    → AreWaiters threads posts waiters → u < 64 → bit_at waiters u ≡ 0
    → waits_otherwise_ask (ask_of_post (next_posts_of posts u)) ≡ false
never-set threads posts waiters u are within none =
    elim (cases_Bool (waits_otherwise_ask (ask_of_post (next_posts_of posts u)))) [
      | inl waits ↦ absurd (omega (arith, are.each u within waits))
      | inr never ↦ never
    ]

-- a bit that is set
abbrev pub with_bit : ℕ → ℕ → ℕ
with_bit word k = bit_or word (1 * 2 ^ k % 2 ^ 64)

-- a bit that is set is cleared: the word is less, and the other bits stay
abbrev pub cleared : ℕ → ℕ → ℕ
cleared word k = bit_and word (bit_not w64 (1 * 2 ^ k % 2 ^ 64))

pub cleared-less : (word k : ℕ) → k < 64 → bit_at word k ≡ 1 → cleared word k < word
cleared-less word k within is =
    let gone : bit_at (cleared word k) k ≡ 0 = bit_at_clear_same w64 word k within in
    elim (cases_eq (cleared word k) word) [
      | inl same ↦
          absurd (let both : bit_at (cleared word k) k ≡ bit_at word k =
          ap (λ x. bit_at x k) same in omega arith)
      | inr other ↦ omega (arith, and_le_l word (bit_not w64 (1 * 2 ^ k % 2 ^ 64)))
    ]

-- ---- a look at each
-- Of the threads of a word whose bits aren't left the chances are known, and of all others they are
-- as they were first.
pub record AreLooked (store : StoreState) (posts : List (Option Post)) (waiters : ℕ)
    (first : List Chance) (left : ℕ) (known : List Chance) (opened : ℕ) : Type 0 where
  pub long : length known ≡ length first
  pub within : (u : ℕ) → u < 64 → bit_at left u ≡ 1 → bit_at waiters u ≡ 1
  pub done : (u : ℕ) → u < 64 → bit_at waiters u ≡ 1 → bit_at left u ≡ 0
      → chance_of known u ≡ chance store (next_posts_of posts) u
  pub waiting : (u : ℕ) → u < 64 → bit_at left u ≡ 1 → chance_of known u ≡ chance_of first u
  pub others : (u : ℕ) → u < 64 → bit_at waiters u ≡ 0 → chance_of known u ≡ chance_of first u
  pub opens : (u : ℕ) → u < 64 → bit_at waiters u ≡ 1 → bit_at left u ≡ 0 → bit_at opened u ≡ 0
      → is_open (chance store (next_posts_of posts) u) ≡ true → is_open (chance_of first u) ≡ true

module _ (store : StoreState) (posts : List (Option Post)) (waiters : ℕ) (first : List Chance) where
  pub looked-none : (opened : ℕ) → AreLooked store posts waiters first waiters first opened
  looked-none opened = record {
    long = refl;
    within = λ u small is. is;
    done = λ u small is none. absurd (omega (arith, is, none));
    waiting = λ u small is. refl;
    others = λ u small none. refl;
    opens = λ u small is none bit goes. absurd (omega (arith, is, none));
  }

  pub looked-more : (left k : ℕ) (known : List Chance) (opened now : ℕ) (one : Chance)
      → AreLooked store posts waiters first left known opened → k < 64 → bit_at left k ≡ 1
      → k < length known → one ≡ chance store (next_posts_of posts) k
      → (bit_at now k ≡ 0 → is_open one ≡ true → is_open (chance_of known k) ≡ true)
      → ((u : ℕ) → bit_at now u ≡ 0 → bit_at opened u ≡ 0)
      → AreLooked store posts waiters first (cleared left k) (set known k one) now
  looked-more left k known opened now one looked small here inside is this rest =
      let at : chance_of (set known k one) k ≡ one = get_or-set_same known k one Ended inside in
      let other : (u : ℕ) → u ≢ k → chance_of (set known k one) u ≡ chance_of known u =
      λ u apart. get_or-set_other known k u one Ended apart in
      let gone = bit_at_clear_same w64 left k small in
      let kept : (u : ℕ) → u < 64 → u ≢ k → bit_at (cleared left k) u ≡ bit_at left u =
      λ u low apart. bit_at_clear_other w64 left k small u low apart in
      let left_apart : (u : ℕ) → bit_at (cleared left k) u ≡ 1 → u ≢ k =
      λ u is_set same. let e = sym (ap (bit_at (cleared left k)) same) ∙ is_set in
      omega (arith, e, gone) in
      record {
        long = length-set known k one ∙ looked.long;
        within = λ u low is_set.
            looked.within u low (sym (kept u low (left_apart u is_set)) ∙ is_set);
        done = λ u low is_set none. elim (cases_eq u k) [
          | inl same ↦
              ap (chance_of (set known k one)) same ∙ at ∙ is
              ∙ ap (chance store (next_posts_of posts)) (sym same)
          | inr apart ↦
              other u apart ∙ looked.done u low is_set (sym (kept u low apart) ∙ none)
        ];
        waiting = λ u low is_set.
            let apart = left_apart u is_set in
            other u apart ∙ looked.waiting u low (sym (kept u low apart) ∙ is_set);
        others = λ u low none.
            other u (λ same.
            let e = sym (ap (bit_at waiters) same) ∙ none in
            omega (arith, e, looked.within k small here)) ∙ looked.others u low none;
        opens = λ u low is_set none bit goes. elim (cases_eq u k) [
          | inl same ↦
              let one_goes : is_open one ≡ true =
              ap is_open is ∙ sym (ap (λ v. is_open (chance store (next_posts_of posts) v)) same)
              ∙ goes in
              ap (λ v. is_open (chance_of first v)) same
              ∙ sym (ap is_open (looked.waiting k small here))
              ∙ this (sym (ap (bit_at now) same) ∙ bit) one_goes
          | inr apart ↦
              looked.opens u low is_set (sym (kept u low apart) ∙ none) (rest u bit) goes
        ];
      }

pub not-so : (b : Bool) → not b ≡ true → b ≡ false
not-so true e = absurd (false≢true e)
not-so false e = refl

-- where nobody joins the thread that posts, no other chance changes
pub post-alone : (store : StoreState) (posts : List (Option Post)) (t : ℕ) (post : Option Post)
    → ((u : ℕ) → joins_ask t (ask_of_post (next_posts_of (set posts t post) u)) ≡ false)
    → SameOthers t (chances store.threads store (next_posts_of posts))
    (chances store.threads store (next_posts_of (set posts t post)))
post-alone store posts t post nobody =
    let next = next_posts_of (set posts t post) in
    let long = length-chances store.threads store (next_posts_of posts) in
    record {
      threads = length-chances store.threads store next ∙ sym long;
      others = λ u within apart.
          let there : u < store.threads = omega (arith, long) in
          chance-at store.threads store next u there
          ∙ chance-kept store store posts t post Nothing (λ ended v ask far no. refl) u
          (others-alone t u (next u) apart (nobody u))
          ∙ sym (chance-at store.threads store (next_posts_of posts) u there);
    }
