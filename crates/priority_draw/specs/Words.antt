-- The random words of a seed: those of ChaCha with 8 rounds, the block function of RFC 8439 with
-- fewer rounds, a 64-bit block counter and a 64-bit stream number.
use Rattle.std.specs.Prelude.{ℕ, zero, suc, ◌+◌, ◌*◌, ◌%◌, ◌^◌, ◌≡◌, ◌<◌, List, ◌++◌, replicate}
use Rattle.std.specs.Prelude.{slice_index}
use Rattle.std.specs.Int.{w64, to_le_bytes}
use Rattle.rand_chacha.specs.ChaCha.{ChaCha, word_at, key_of}

-- the key of a seed: its eight bytes, the low one first, and then 24 zero bytes (this project)
abbrev pub key_bytes : ℕ → List ℕ
key_bytes seed = to_le_bytes w64 seed ++ replicate 24 0

-- the word at a place, from 0, of the seed's stream 0, which begins again after 2^68 words
unfoldable pub word : ℕ → ℕ → ℕ
word seed place = word_at 4 (key_of (key_bytes seed)) 0 (place % 2 ^ 68)

-- the 64-bit number of the two words from a place on, the low word first (this project)
abbrev pub number_at : ℕ → ℕ → ℕ
number_at seed place = word seed place + word seed (place + 1) * 2 ^ 32

-- what a `Words` stands for: a seed, and the place of the word that comes next
pub record SeedWords : Type 0 where
  pub seed : ℕ
  pub place : ℕ

-- a seed's words from the first one on
abbrev pub first_words : ℕ → SeedWords
first_words seed = record { seed = seed; place = 0 }

-- the place so many words later
abbrev pub place_after : ℕ → ℕ → ℕ
place_after place zero = place
place_after place (suc count) = (place_after place count + 1) % 2 ^ 68

-- so many words later
abbrev pub words_later : SeedWords → ℕ → SeedWords
words_later words count = record words { place = place_after words.place count }

-- the seed of a key
abbrev pub seed_of_key : List ℕ → ℕ
seed_of_key key = slice_index key 0 + slice_index key 1 * 2 ^ 32

-- a generator that gives a seed's words
pub record IsOfSeed (generator : ChaCha) : Type 0 where
  pub key : generator.key ≡ key_of (key_bytes (seed_of_key generator.key))
  pub stream : generator.stream ≡ 0
  pub within : generator.word_pos < 2 ^ 68
