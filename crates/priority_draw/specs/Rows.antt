-- Small theorems that read the definitions on known values.
use Rattle.std.specs.Prelude.{◌≡◌, [], ◌∷◌, refl, replicate}
use Rattle.rand_core.specs.Steps.{u32_at}
use Rattle.rand_chacha.specs.Block.{block_word, double_rounds, diagonal_round, quarter_round}
use Rattle.rand_chacha.specs.Block.{column_round}
use Rattle.priority_draw.specs.Words.{key_bytes, word}
use Rattle.priority_draw.specs.Orders.{order_of, places_of}
use Rattle.priority_draw.specs.Drawing.{scale, drawn_places, drawn_points, draw_of_seed}

pub half : scale 9223372036854775808 3 ≡ 1
half = refl

pub greatest_number : scale 18446744073709551615 16 ≡ 15
greatest_number = refl

pub least_number : scale 0 5 ≡ 0
least_number = refl

pub key_of_one : key_bytes 1 ≡ 1 ∷ 0 ∷ 0 ∷ 0 ∷ 0 ∷ 0 ∷ 0 ∷ 0 ∷ replicate 24 0
key_of_one = refl

-- ChaCha8 of known seeds, as another program computes it: the last word is one of the second block
pub first_word_of_0 : word 0 0 ≡ 0x2fef003e
unfolding word u32_at block_word double_rounds diagonal_round quarter_round column_round
first_word_of_0 = refl

pub second_word_of_the_greatest : word 18446744073709551615 1 ≡ 0xb44e8639
unfolding word u32_at block_word double_rounds diagonal_round quarter_round column_round
second_word_of_the_greatest = refl

pub eighteenth_word_of_1 : word 1 17 ≡ 0x6788dd93
unfolding word u32_at block_word double_rounds diagonal_round quarter_round column_round
eighteenth_word_of_1 = refl

pub one_thread : order_of (0 ∷ []) ≡ 0 ∷ []
unfolding order_of
one_thread = refl

-- of the four threads the last, then the second of those that remain
pub four_threads : order_of (3 ∷ 1 ∷ 0 ∷ 0 ∷ []) ≡ 3 ∷ 1 ∷ 0 ∷ 2 ∷ []
unfolding order_of
four_threads = refl

pub places_of_four : places_of (3 ∷ 1 ∷ 0 ∷ 2 ∷ []) ≡ 3 ∷ 1 ∷ 0 ∷ 0 ∷ []
places_of_four = refl

-- three threads and two points of a seed
pub order_of_seven : (draw_of_seed 7 3 100000 3).order ≡ 2 ∷ 0 ∷ 1 ∷ []
unfolding order_of drawn_places word u32_at block_word double_rounds diagonal_round quarter_round
    column_round
order_of_seven = refl

pub points_of_seven : (draw_of_seed 7 3 100000 3).points ≡ 30138 ∷ 38613 ∷ []
unfolding drawn_points word u32_at block_word double_rounds diagonal_round quarter_round
    column_round
points_of_seven = refl
