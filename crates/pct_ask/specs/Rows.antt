-- Small theorems that read the definitions on known texts.
use Rattle.std.specs.Prelude.{◌≡◌, true, false, [], ◌∷◌, Some, None, length, codes, refl}
use Rattle.pct_ask.specs.Lines.{lines_of}
use Rattle.pct_ask.specs.Tokens.{Word, Number, Symbol, tokens_of}
use Rattle.pct_ask.specs.Words.{is_name, registers, register_count, register_word, register_in}

pub last_line_without_end : lines_of (codes "ab\n\nc") ≡ codes "ab" ∷ [] ∷ codes "c" ∷ []
last_line_without_end = refl

pub no_line_after_the_last : lines_of (codes "a\n") ≡ codes "a" ∷ []
no_line_after_the_last = refl

pub cut_line : tokens_of (codes " write x r0==10 # to z")
    ≡ Some
    (Word (codes "write") ∷ Word (codes "x") ∷ Word (codes "r0") ∷ Symbol (codes "==")
    ∷ Number (codes "10") ∷ [])
cut_line = refl

pub three_equal_signs : tokens_of (codes "===")
    ≡ Some (Symbol (codes "==") ∷ Symbol (codes "=") ∷ [])
three_equal_signs = refl

pub letter_after_digit : tokens_of (codes "1a") ≡ None
letter_after_digit = refl

pub later_keyword : is_name 1 (codes "rwlock") ≡ true
later_keyword = refl

pub keyword : is_name 1 (codes "while") ≡ false
keyword = refl

pub register : is_name 3 (codes "r15") ≡ false
register = refl

pub no_register : is_name 3 (codes "r16") ≡ true
no_register = refl

pub as_many_registers : length registers ≡ register_count
as_many_registers = refl

pub last_register : register_in (register_word 15) ≡ Some 15
last_register = refl

pub past_the_registers : register_in (codes "r16") ≡ None
past_the_registers = refl
