-- How a printed expression is cut into its tokens, and that they spell it.
use Rattle.std.proofs.Common.{◌≡◌, ℕ, zero, suc, ◌+◌, ◌-◌, ◌<◌, ◌≤◌, ◌^◌, Bool, true, false, List}
use Rattle.std.proofs.Common.{[], ◌∷◌, ◌++◌, length, get_or, Some, refl, ap, ◌∙◌, subst, arith}
use Rattle.std.proofs.Common.{rules}
use Rattle.std.specs.Prelude.{pos, negsuc, codes, nat_le, nat_lt, decimal}
use Rattle.std.specs.List.{list_all, list_any}
use Rattle.std.specs.Str.Parse.{digits_value}
use Rattle.std.proofs.lemmas.Bool.{and_parts, or_from, or_parts, ltb-true, lt-leb}
use Rattle.std.proofs.lemmas.Bool.Decides.{nat_tests}
use Rattle.std.proofs.lemmas.Fmt.{digits_value-decimal, digits_decimal, decimal_nonempty}
use Rattle.std.proofs.lemmas.Str.Parse.{IsNumeralModel, IsDigitsTest, numerals_by_value}
use Rattle.pct_ask.specs.Characters.{is_digit}
use Rattle.pct_ask.specs.Numbers.{number_text}
use Rattle.pct_ask.specs.Words.{is_word, registers}
use Rattle.pct_ask.specs.Tokens.{Token, Word, Number, Symbol, piece_before, token_pieces, token_of}
use Rattle.pct_ask.specs.Tokens.{tokens_of, tokens_of_pieces}
use Rattle.script_tree.specs.declared.expr.Op.{Op}
use Rattle.script_tree.specs.declared.expr.Op.TheVariants as ops
use Rattle.script_tree.specs.Trees.{Expression}
use Rattle.script_tree.specs.Trees as trees
use Rattle.script_tree.specs.Expressions.{IsSpelled, IsExpression, number, register, enclosed}
use Rattle.script_tree.specs.Expressions.{minus, not, two, stronger, signs_of, strength, left_level}
use Rattle.pct_ask.specs.Words.{register_word}
use Rattle.script_tree.specs.Fitting.{expression_fits}
use Rattle.script_tree.specs.Ranges.{is_great, has_great}
use Rattle.script_tree.specs.Layout.{expression_text}
use Rattle.script_tree.specs.Printing.{is_ranged}
use Rattle.script_tree.proofs.laws.PlainLines.{is_plain}
use Rattle.script_tree.proofs.Cuts.{IsCut, Break, ends, space, closes, comma, with_front, one_token}
use Rattle.script_tree.proofs.Cuts.{word_cut, number_cut, minus_cut, not_cut, enclosed_cut}
use Rattle.script_tree.proofs.Cuts.{spaced_cut, begins_plainly}

-- the tokens of a printed expression
abbrev pub expression_tokens : Expression → List Token
expression_tokens (trees.Number n) = Number (number_text n) ∷ []
expression_tokens (trees.Reg reg) = Word (register_word reg) ∷ []
expression_tokens (trees.Not a) = Symbol (codes "!") ∷ expression_tokens a
expression_tokens (trees.Minus a) = Symbol (codes "-") ∷ expression_tokens a
expression_tokens (trees.Two op a b) =
    Symbol (codes "(") ∷ ((expression_tokens a ++ Symbol (signs_of op) ∷ expression_tokens b)
    ++ Symbol (codes ")") ∷ [])

-- what a script's expressions are: lawful, with numbers that i64 has
pub record IsGood (e : Expression) : Type 0 where
  pub fits : expression_fits e ≡ true
  pub ranged : is_ranged e ≡ true

-- ---- numbers

digits : IsDigitsTest (λ ds. list_all is_digit ds ≡ true)
digits = search (rules, nat_tests)

numerals : IsNumeralModel (λ ds. list_all is_digit ds ≡ true) (digits_value 10)
numerals = numerals_by_value (λ ds. list_all is_digit ds ≡ true) digits

pub decimal_cut : (n : ℕ) → n < 2 ^ 64 → IsCut (decimal n) (Number (decimal n) ∷ [])
decimal_cut n h = number_cut (decimal n) (decimal_nonempty n h) (digits_decimal numerals n h)

pub decimal_value : (n : ℕ) → n < 2 ^ 64 → digits_value 10 (decimal n) ≡ n
decimal_value n h = digits_value-decimal numerals n h

digit_is_no_sign : (d : ℕ) (ds : List ℕ) → list_all is_digit (d ∷ ds) ≡ true
    → begins_plainly (d ∷ ds) ≡ true
digit_is_no_sign d ds h = let first = (and_parts (is_digit d) (list_all is_digit ds) h).0 in
    grind (arith, nat_tests)

decimal_begins : (ds : List ℕ) → 0 < length ds → list_all is_digit ds ≡ true
    → begins_plainly ds ≡ true
decimal_begins [] some h = absurd (omega arith)
decimal_begins (d ∷ ds) some h = digit_is_no_sign d ds h

below : (n : ℕ) → nat_lt n (2 ^ 63) ≡ true → n < 2 ^ 64
below n h = let lt = ltb-true n (2 ^ 63) h in omega arith

-- ---- registers

words_are : list_all is_word registers ≡ true
words_are = refl

word_at : (words : List (List ℕ)) (i : ℕ) → list_all is_word words ≡ true → i < length words
    → is_word (get_or words i []) ≡ true
word_at [] i h within = absurd (omega arith)
word_at (w ∷ ws) zero h within = (and_parts (is_word w) (list_all is_word ws) h).0
word_at (w ∷ ws) (suc i) h within =
    word_at ws i (and_parts (is_word w) (list_all is_word ws) h).1 (omega arith)

pub register_is_word : (reg : ℕ) → reg < 16 → is_word (register_word reg) ≡ true
register_is_word reg within = word_at registers reg words_are within

registers_begin : list_all begins_plainly registers ≡ true
registers_begin = refl

begins_at : (words : List (List ℕ)) (i : ℕ) → list_all begins_plainly words ≡ true
    → i < length words → begins_plainly (get_or words i []) ≡ true
begins_at [] i h within = absurd (omega arith)
begins_at (w ∷ ws) zero h within = (and_parts (begins_plainly w) (list_all begins_plainly ws) h).0
begins_at (w ∷ ws) (suc i) h within =
    begins_at ws i (and_parts (begins_plainly w) (list_all begins_plainly ws) h).1 (omega arith)

-- ---- operators

sign : (signs : List ℕ) (rest : List ℕ) → token_of signs ≡ Some (Symbol signs)
    → token_pieces (signs ++ rest) ≡ piece_before signs (token_pieces rest)
    → tokens_of (signs ++ rest) ≡ with_front (Symbol signs ∷ []) (tokens_of rest)
sign signs rest is_sign e =
    ap tokens_of_pieces e ∙ one_token signs (token_pieces rest) (Symbol signs) is_sign

sign_cut : (signs : List ℕ) → list_all is_plain signs ≡ true → token_of signs ≡ Some (Symbol signs)
    → ((rest : List ℕ) → Break rest → token_pieces (signs ++ rest)
    ≡ piece_before signs (token_pieces rest)) → IsCut signs (Symbol signs ∷ [])
sign_cut signs plain is_sign pieces = record {
  plain = plain;
  cuts = λ rest br. sign signs rest is_sign (pieces rest br);
}

or_pieces : (rest : List ℕ) → Break rest
    → token_pieces (codes "||" ++ rest) ≡ piece_before (codes "||") (token_pieces rest)
or_pieces _ ends = refl
or_pieces _ (space rest) = refl
or_pieces _ (closes rest) = refl
or_pieces _ (comma rest) = refl

and_pieces : (rest : List ℕ) → Break rest
    → token_pieces (codes "&&" ++ rest) ≡ piece_before (codes "&&") (token_pieces rest)
and_pieces _ ends = refl
and_pieces _ (space rest) = refl
and_pieces _ (closes rest) = refl
and_pieces _ (comma rest) = refl

eq_pieces : (rest : List ℕ) → Break rest
    → token_pieces (codes "==" ++ rest) ≡ piece_before (codes "==") (token_pieces rest)
eq_pieces _ ends = refl
eq_pieces _ (space rest) = refl
eq_pieces _ (closes rest) = refl
eq_pieces _ (comma rest) = refl

ne_pieces : (rest : List ℕ) → Break rest
    → token_pieces (codes "!=" ++ rest) ≡ piece_before (codes "!=") (token_pieces rest)
ne_pieces _ ends = refl
ne_pieces _ (space rest) = refl
ne_pieces _ (closes rest) = refl
ne_pieces _ (comma rest) = refl

lt_pieces : (rest : List ℕ) → Break rest
    → token_pieces (codes "<" ++ rest) ≡ piece_before (codes "<") (token_pieces rest)
lt_pieces _ ends = refl
lt_pieces _ (space rest) = refl
lt_pieces _ (closes rest) = refl
lt_pieces _ (comma rest) = refl

le_pieces : (rest : List ℕ) → Break rest
    → token_pieces (codes "<=" ++ rest) ≡ piece_before (codes "<=") (token_pieces rest)
le_pieces _ ends = refl
le_pieces _ (space rest) = refl
le_pieces _ (closes rest) = refl
le_pieces _ (comma rest) = refl

gt_pieces : (rest : List ℕ) → Break rest
    → token_pieces (codes ">" ++ rest) ≡ piece_before (codes ">") (token_pieces rest)
gt_pieces _ ends = refl
gt_pieces _ (space rest) = refl
gt_pieces _ (closes rest) = refl
gt_pieces _ (comma rest) = refl

ge_pieces : (rest : List ℕ) → Break rest
    → token_pieces (codes ">=" ++ rest) ≡ piece_before (codes ">=") (token_pieces rest)
ge_pieces _ ends = refl
ge_pieces _ (space rest) = refl
ge_pieces _ (closes rest) = refl
ge_pieces _ (comma rest) = refl

plus_pieces : (rest : List ℕ) → Break rest
    → token_pieces (codes "+" ++ rest) ≡ piece_before (codes "+") (token_pieces rest)
plus_pieces _ ends = refl
plus_pieces _ (space rest) = refl
plus_pieces _ (closes rest) = refl
plus_pieces _ (comma rest) = refl

less_pieces : (rest : List ℕ) → Break rest
    → token_pieces (codes "-" ++ rest) ≡ piece_before (codes "-") (token_pieces rest)
less_pieces _ ends = refl
less_pieces _ (space rest) = refl
less_pieces _ (closes rest) = refl
less_pieces _ (comma rest) = refl

times_pieces : (rest : List ℕ) → Break rest
    → token_pieces (codes "*" ++ rest) ≡ piece_before (codes "*") (token_pieces rest)
times_pieces _ ends = refl
times_pieces _ (space rest) = refl
times_pieces _ (closes rest) = refl
times_pieces _ (comma rest) = refl

over_pieces : (rest : List ℕ) → Break rest
    → token_pieces (codes "/" ++ rest) ≡ piece_before (codes "/") (token_pieces rest)
over_pieces _ ends = refl
over_pieces _ (space rest) = refl
over_pieces _ (closes rest) = refl
over_pieces _ (comma rest) = refl

rest_pieces : (rest : List ℕ) → Break rest
    → token_pieces (codes "%" ++ rest) ≡ piece_before (codes "%") (token_pieces rest)
rest_pieces _ ends = refl
rest_pieces _ (space rest) = refl
rest_pieces _ (closes rest) = refl
rest_pieces _ (comma rest) = refl

is_pieces : (rest : List ℕ) → Break rest
    → token_pieces (codes "=" ++ rest) ≡ piece_before (codes "=") (token_pieces rest)
is_pieces _ ends = refl
is_pieces _ (space rest) = refl
is_pieces _ (closes rest) = refl
is_pieces _ (comma rest) = refl

pub op_cut : (op : Op) → IsCut (signs_of op) (Symbol (signs_of op) ∷ [])
op_cut ops.Or = sign_cut (codes "||") refl refl or_pieces
op_cut ops.And = sign_cut (codes "&&") refl refl and_pieces
op_cut ops.Eq = sign_cut (codes "==") refl refl eq_pieces
op_cut ops.Ne = sign_cut (codes "!=") refl refl ne_pieces
op_cut ops.Lt = sign_cut (codes "<") refl refl lt_pieces
op_cut ops.Le = sign_cut (codes "<=") refl refl le_pieces
op_cut ops.Gt = sign_cut (codes ">") refl refl gt_pieces
op_cut ops.Ge = sign_cut (codes ">=") refl refl ge_pieces
op_cut ops.Plus = sign_cut (codes "+") refl refl plus_pieces
op_cut ops.Less = sign_cut (codes "-") refl refl less_pieces
op_cut ops.Times = sign_cut (codes "*") refl refl times_pieces
op_cut ops.Over = sign_cut (codes "/") refl refl over_pieces
op_cut ops.Rest = sign_cut (codes "%") refl refl rest_pieces

-- the `=` of a first value
pub equals_cut : IsCut (codes "=") (Symbol (codes "=") ∷ [])
equals_cut = sign_cut (codes "=") refl refl is_pieces

-- ---- expressions

good_not : (a : Expression) → IsGood (trees.Not a) → IsGood a
good_not a good = record { fits = good.fits; ranged = good.ranged }

good_minus : (a : Expression) → IsGood (trees.Minus a) → IsGood a
good_minus a good = record { fits = good.fits; ranged = good.ranged }

good_left : (op : Op) (a b : Expression) → IsGood (trees.Two op a b) → IsGood a
good_left op a b good = record {
  fits = (and_parts (expression_fits a) (expression_fits b) good.fits).0;
  ranged = (and_parts (is_ranged a) (is_ranged b) good.ranged).0;
}

good_right : (op : Op) (a b : Expression) → IsGood (trees.Two op a b) → IsGood b
good_right op a b good = record {
  fits = (and_parts (expression_fits a) (expression_fits b) good.fits).1;
  ranged = (and_parts (is_ranged a) (is_ranged b) good.ranged).1;
}

begins : (e : Expression) → IsGood e → begins_plainly (expression_text e) ≡ true
begins (trees.Number (pos n)) good =
    decimal_begins (decimal n) (decimal_nonempty n (below n good.ranged))
    (digits_decimal numerals n (below n good.ranged))
begins (trees.Number (negsuc n)) good = let h = good.fits in absurd cc
begins (trees.Reg reg) good = begins_at registers reg registers_begin (ltb-true reg 16 good.fits)
begins (trees.Not a) good = refl
begins (trees.Minus a) good = refl
begins (trees.Two op a b) good = refl

pub expression_cut : (e : Expression) → IsGood e → IsCut (expression_text e) (expression_tokens e)
expression_cut (trees.Number (pos n)) good = decimal_cut n (below n good.ranged)
expression_cut (trees.Number (negsuc n)) good = let h = good.fits in absurd cc
expression_cut (trees.Reg reg) good =
    word_cut (register_word reg) (register_is_word reg (ltb-true reg 16 good.fits))
expression_cut (trees.Not a) good =
    not_cut (expression_text a) (expression_tokens a) (begins a (good_not a good))
    (expression_cut a (good_not a good))
expression_cut (trees.Minus a) good =
    minus_cut (expression_text a) (expression_tokens a) (expression_cut a (good_minus a good))
expression_cut (trees.Two op a b) good =
    let right : IsCut (signs_of op ++ 32 ∷ expression_text b)
    (Symbol (signs_of op) ∷ expression_tokens b) =
    spaced_cut (signs_of op) (expression_text b) (Symbol (signs_of op) ∷ [])
    (expression_tokens b) (op_cut op) (expression_cut b (good_right op a b good)) in
    enclosed_cut (expression_text a ++ 32 ∷ (signs_of op ++ 32 ∷ expression_text b))
    (expression_tokens a ++ Symbol (signs_of op) ∷ expression_tokens b)
    (spaced_cut (expression_text a) (signs_of op ++ 32 ∷ expression_text b) (expression_tokens a)
    (Symbol (signs_of op) ∷ expression_tokens b) (expression_cut a (good_left op a b good))
    right)

-- ---- what the tokens spell

-- from a stronger level to a weaker one
weaker : (gap level : ℕ) (tokens : List Token) (tree : Expression)
    → IsSpelled (gap + level) tokens tree → IsSpelled level tokens tree
weaker zero level tokens tree spelled = subst (λ l. IsSpelled l tokens tree) (omega arith) spelled
weaker (suc gap) level tokens tree spelled =
    stronger level tokens tree (weaker gap (level + 1) tokens tree
    (subst (λ l. IsSpelled l tokens tree) (omega arith) spelled))

pub at_level : (level : ℕ) (tokens : List Token) (tree : Expression) → level ≤ 5
    → IsSpelled 5 tokens tree → IsSpelled level tokens tree
at_level level tokens tree low spelled =
    weaker (5 - level) level tokens tree
    (subst (λ l. IsSpelled l tokens tree) (omega arith) spelled)

left_low : (op : Op) → left_level op ≤ 5
left_low ops.Or = omega arith
left_low ops.And = omega arith
left_low ops.Eq = omega arith
left_low ops.Ne = omega arith
left_low ops.Lt = omega arith
left_low ops.Le = omega arith
left_low ops.Gt = omega arith
left_low ops.Ge = omega arith
left_low ops.Plus = omega arith
left_low ops.Less = omega arith
left_low ops.Times = omega arith
left_low ops.Over = omega arith
left_low ops.Rest = omega arith

right_low : (op : Op) → strength op + 1 ≤ 5
right_low ops.Or = omega arith
right_low ops.And = omega arith
right_low ops.Eq = omega arith
right_low ops.Ne = omega arith
right_low ops.Lt = omega arith
right_low ops.Le = omega arith
right_low ops.Gt = omega arith
right_low ops.Ge = omega arith
right_low ops.Plus = omega arith
right_low ops.Less = omega arith
right_low ops.Times = omega arith
right_low ops.Over = omega arith
right_low ops.Rest = omega arith

pub spelled : (e : Expression) → IsGood e → IsSpelled 5 (expression_tokens e) e
spelled (trees.Number (pos n)) good =
    let same : digits_value 10 (decimal n) ≡ n = decimal_value n (below n good.ranged) in
    stronger 5 (Number (decimal n) ∷ []) (trees.Number (pos n))
    (subst (λ v. IsSpelled 6 (Number (decimal n) ∷ []) (trees.Number (pos v))) same
    (number (decimal n)))
spelled (trees.Number (negsuc n)) good = let h = good.fits in absurd cc
spelled (trees.Reg reg) good =
    stronger 5 (Word (register_word reg) ∷ []) (trees.Reg reg)
    (register reg (ltb-true reg 16 good.fits))
spelled (trees.Not a) good = not (expression_tokens a) a (spelled a (good_not a good))
spelled (trees.Minus a) good = minus (expression_tokens a) a (spelled a (good_minus a good))
spelled (trees.Two op a b) good =
    let whole : IsSpelled (strength op)
    (expression_tokens a ++ Symbol (signs_of op) ∷ expression_tokens b) (trees.Two op a b) =
    two op (expression_tokens a) (expression_tokens b) a b
    (at_level (left_level op) (expression_tokens a) a (left_low op)
    (spelled a (good_left op a b good)))
    (at_level (strength op + 1) (expression_tokens b) b (right_low op)
    (spelled b (good_right op a b good))) in
    let tokens : List Token = expression_tokens a ++ Symbol (signs_of op) ∷ expression_tokens b in
    let within : IsSpelled 0 tokens (trees.Two op a b) =
    weaker (strength op) 0 tokens (trees.Two op a b)
    (subst (λ l. IsSpelled l tokens (trees.Two op a b)) (omega arith) whole) in
    stronger 5 (expression_tokens (trees.Two op a b)) (trees.Two op a b)
    (enclosed tokens (trees.Two op a b) within)

pub is_expression : (e : Expression) → IsGood e → IsExpression (expression_tokens e) e
is_expression e good = at_level 0 (expression_tokens e) e (omega arith) (spelled e good)

-- ---- its numbers are in range

pub any-append : (test : Token → Bool) (a b : List Token) → list_any test a ≡ false
    → list_any test b ≡ false → list_any test (a ++ b) ≡ false
any-append test [] b in_a in_b = in_b
any-append test (x ∷ a) b in_a in_b =
    let both = or_parts (test x) (list_any test a) in_a in
    or_from (test x) (list_any test (a ++ b)) both.0 (any-append test a b both.1 in_b)

pub not_great : (e : Expression) → IsGood e → has_great (expression_tokens e) ≡ false
not_great (trees.Number (pos n)) good =
    let same : digits_value 10 (decimal n) ≡ n = decimal_value n (below n good.ranged) in
    let small : nat_le (2 ^ 63) n ≡ false = lt-leb (2 ^ 63) n (ltb-true n (2 ^ 63) good.ranged) in
    or_from (nat_le (2 ^ 63) (digits_value 10 (decimal n))) false
    (ap (nat_le (2 ^ 63)) same ∙ small) refl
not_great (trees.Number (negsuc n)) good = let h = good.fits in absurd cc
not_great (trees.Reg reg) good = refl
not_great (trees.Not a) good = not_great a (good_not a good)
not_great (trees.Minus a) good = not_great a (good_minus a good)
not_great (trees.Two op a b) good =
    any-append is_great (expression_tokens a ++ Symbol (signs_of op) ∷ expression_tokens b)
    (Symbol (codes ")") ∷ [])
    (any-append is_great (expression_tokens a) (Symbol (signs_of op) ∷ expression_tokens b)
    (not_great a (good_left op a b good)) (not_great b (good_right op a b good))) refl
