-- The words of a seed: their range, and where they begin again.
use Rattle.std.proofs.Common.{◌≡◌, ℕ, zero, suc, ◌+◌, ◌/◌, ◌%◌, ◌^◌, ◌<◌, ◌≤◌, List, sym, ap, ◌∙◌}
use Rattle.std.proofs.Common.{arith}
use Rattle.std.proofs.Math.Nat.{mod-lt, mod-eq_of_lt, mod-add-mod}
use Rattle.std.proofs.lemmas.Nat.{from_le_bytes-to_le_bytes_8}
use Rattle.rand_core.specs.Steps.{u64_via_u32, u32_at}
use Rattle.rand_chacha.specs.Block.{block_word}
use Rattle.rand_chacha.specs.ChaCha.{ChaCha, word_at, key_of, next_word, of_seed}
use Rattle.priority_draw.specs.Words.{key_bytes, word, number_at, SeedWords, first_words}
use Rattle.priority_draw.specs.Words.{place_after, words_later, seed_of_key, IsOfSeed}
use Rattle.priority_draw.specs.Drawing.{scale, draw}

block_word-lt : (n : ℕ) (key : List ℕ) (counter nonce k : ℕ)
    → block_word n key counter nonce k < 2 ^ 32
unfolding block_word
block_word-lt n key counter nonce k = mod-lt _ (omega arith)

pub word-lt : (seed place : ℕ) → word seed place < 2 ^ 32
unfolding word
word-lt seed place =
    block_word-lt 4 (key_of (key_bytes seed)) (place % 2 ^ 68 / 16) 0 (place % 2 ^ 68 % 16)

pub number_at-lt : (seed place : ℕ) → number_at seed place < 2 ^ 64
number_at-lt seed place = omega (arith, word-lt seed place, word-lt seed (place + 1))

-- a place within the stream is the place itself
pub word-within : (seed place : ℕ) → place < 2 ^ 68
    → word_at 4 (key_of (key_bytes seed)) 0 place ≡ word seed place
unfolding word
word-within seed place within =
    ap (λ p. word_at 4 (key_of (key_bytes seed)) 0 p) (sym (mod-eq_of_lt within))

-- the words begin again
word-again : (seed place more : ℕ) → word seed (place % 2 ^ 68 + more) ≡ word seed (place + more)
unfolding word
word-again seed place more =
    ap (λ p. word_at 4 (key_of (key_bytes seed)) 0 p) (mod-add-mod place (2 ^ 68) more)

word-start : (seed place : ℕ) → word seed (place % 2 ^ 68) ≡ word seed place
word-start seed place =
    let at = word-again seed place 0 in
    let left : word seed (place % 2 ^ 68 + 0) ≡ word seed (place % 2 ^ 68) =
    ap (λ p. word seed p) (omega arith) in
    let right : word seed (place + 0) ≡ word seed place = ap (λ p. word seed p) (omega arith) in
    sym left ∙ at ∙ right

-- the word at a place after some words, and after some more
word-after : (seed place count more : ℕ)
    → word seed (place_after place count + more) ≡ word seed (place + count + more)
word-after seed place zero more = ap (λ p. word seed p) (omega arith)
word-after seed place (suc count) more =
    let again = word-again seed (place_after place count + 1) more in
    let shifted : word seed (place_after place count + 1 + more)
    ≡ word seed (place_after place count + (1 + more)) = ap (λ p. word seed p) (omega arith) in
    let moved : word seed (place + count + (1 + more)) ≡ word seed (place + suc count + more) =
    ap (λ p. word seed p) (omega arith) in
    again ∙ shifted ∙ word-after seed place count (1 + more) ∙ moved

number_at-after : (seed place count more : ℕ)
    → number_at seed (place_after place count + more) ≡ number_at seed (place + count + more)
number_at-after seed place count more =
    let low = word-after seed place count more in
    let high = word-after seed place count (more + 1) in
    let left : word seed (place_after place count + (more + 1))
    ≡ word seed (place_after place count + more + 1) = ap (λ p. word seed p) (omega arith) in
    let right : word seed (place + count + (more + 1)) ≡ word seed (place + count + more + 1) =
    ap (λ p. word seed p) (omega arith) in
    omega arith

pub draw-after : (seed place count more bound : ℕ)
    → draw seed (place_after place count + more) bound ≡ draw seed (place + count + more) bound
draw-after seed place count more bound =
    ap (λ n. scale n bound) (number_at-after seed place count more)

-- the draw that comes next after some words
pub draw-next : (seed place count bound : ℕ)
    → draw seed (place_after place count) bound ≡ draw seed (place + count) bound
draw-next seed place count bound =
    let left : draw seed (place_after place count + 0) bound
    ≡ draw seed (place_after place count) bound = ap (λ p. draw seed p bound) (omega arith) in
    let right : draw seed (place + count + 0) bound ≡ draw seed (place + count) bound =
    ap (λ p. draw seed p bound) (omega arith) in
    sym left ∙ draw-after seed place count 0 bound ∙ right

-- some words, and then some more
place_after-after : (place first second : ℕ)
    → place_after (place_after place first) second ≡ place_after place (first + second)
place_after-after place first zero = let none : first ≡ first + 0 = omega arith in
    ap (λ n. place_after place n) none
place_after-after place first (suc second) =
    let later : suc (first + second) ≡ first + suc second = omega arith in
    let more = ap (λ n. place_after place n) later in
    ap (λ p. (p + 1) % 2 ^ 68) (place_after-after place first second) ∙ more

pub after-after : (words : SeedWords) (first second both : ℕ) → first + second ≡ both
    → words_later (words_later words first) second ≡ words_later words both
after-after words first second both e =
    let at : ℕ → SeedWords = λ p. record words { place = p } in
    ap at (place_after-after words.place first second ∙ ap (λ n. place_after words.place n) e)

pub scale-lt : (word bound : ℕ) → word < 2 ^ 64 → 1 ≤ bound → scale word bound < bound
scale-lt word bound small some = grind arith

pub draw-lt : (seed place bound : ℕ) → 1 ≤ bound → draw seed place bound < bound
draw-lt seed place bound some = scale-lt (number_at seed place) bound (number_at-lt seed place) some

pub seed_of_key-key : (seed : ℕ) → seed < 2 ^ 64 → seed_of_key (key_of (key_bytes seed)) ≡ seed
unfolding u32_at
seed_of_key-key seed small =
    let read = from_le_bytes-to_le_bytes_8 seed small in
    omega arith

-- the word of a generator of a seed at a place
at-place : (g : ChaCha) → IsOfSeed g → (place : ℕ) → place < 2 ^ 68
    → word_at 4 g.key g.stream place ≡ word (seed_of_key g.key) place
at-place g is place within =
    ap (λ stream. word_at 4 g.key stream place) is.stream
    ∙ ap (λ key. word_at 4 key 0 place) is.key
    ∙ word-within (seed_of_key g.key) place within

-- the next two words of a generator of a seed
pub two-words : (g : ChaCha) → IsOfSeed g
    → (u64_via_u32 (next_word 4) g).0 ≡ number_at (seed_of_key g.key) g.word_pos
two-words g is =
    let low = at-place g is g.word_pos is.within in
    let next : (g.word_pos + 1) % 2 ^ 68 < 2 ^ 68 = mod-lt (g.word_pos + 1) (omega arith) in
    let high = at-place g is ((g.word_pos + 1) % 2 ^ 68) next
    ∙ word-start (seed_of_key g.key) (g.word_pos + 1) in
    omega arith

-- a generator that was made from a seed's key
pub of-key : (seed : ℕ) (g : ChaCha) → seed < 2 ^ 64 → g ≡ of_seed (key_bytes seed) → IsOfSeed g
of-key seed g small e =
    let key : g.key ≡ key_of (key_bytes seed) = ap (λ (h : ChaCha). h.key) e in
    let read = ap (λ k. seed_of_key k) key ∙ seed_of_key-key seed small in
    let place : g.word_pos ≡ 0 = ap (λ (h : ChaCha). h.word_pos) e in
    record {
      key = key ∙ sym (ap (λ s. key_of (key_bytes s)) read);
      stream = ap (λ (h : ChaCha). h.stream) e;
      within = omega arith;
    }

-- and what it stands for
pub view-of-key : (seed : ℕ) (g : ChaCha) → seed < 2 ^ 64 → g ≡ of_seed (key_bytes seed) → record {
  seed = seed_of_key g.key;
  place = g.word_pos;
} ≡ first_words seed
view-of-key seed g small e =
    let view : ChaCha → SeedWords = λ h. record { seed = seed_of_key h.key; place = h.word_pos } in
    let first : ℕ → SeedWords = λ s. first_words s in
    ap view e ∙ ap first (seed_of_key-key seed small)
