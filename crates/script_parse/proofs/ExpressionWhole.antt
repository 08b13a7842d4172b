-- Tokens that spell an expression are read as it.
use Rattle.std.proofs.Common.{◌≡◌, ℕ, ◌+◌, ◌<◌, ◌≤◌, ◌⊎◌, inl, inr, false, List, [], ◌∷◌, ◌++◌}
use Rattle.std.proofs.Common.{Option, Some, None, refl, sym, ap, ◌∙◌, append_assoc, arith, rules}
use Rattle.std.specs.Prelude.{codes}
use Rattle.std.proofs.lemmas.List.{append-nil}
use Rattle.std.proofs.lemmas.Bool.{le-leb, lt-leb}
use Rattle.std.proofs.lemmas.Bool.Decides.{nat_tests}
use Rattle.pct_ask.specs.Tokens.{Token, Word, Number, Symbol}
use Rattle.pct_ask.specs.Words.{registers}
use Rattle.script_tree.specs.declared.expr.Op.{Op}
use Rattle.script_tree.specs.Trees.{Expression}
use Rattle.script_tree.specs.Trees as trees
use Rattle.script_tree.specs.Expressions.{IsSpelled, number, register, enclosed, minus, not, two}
use Rattle.script_tree.specs.Expressions.{stronger, signs_of, strength, left_level}
use Rattle.pct_ask.specs.Words.{register_word}
use Rattle.script_parse.specs.Machine.{OpenPart, Paren, Not, Minus, Two, open_expression}
use Rattle.script_parse.specs.Machine.{reduced_value, chains, expression_from, expression_in}
use Rattle.pct_ask.specs.NameLists.{AreDistinct}
use Rattle.pct_ask.specs.Words.{register_in}
use Rattle.script_parse.proofs.Fresh.{place_at}
use Rattle.script_parse.proofs.Operators.{operator_at, no_parenthesis, strength_few, left_above}

-- what waits there takes a part of this level
abbrev pub Accepts : ℕ → List OpenPart → Type 0
Accepts level [] = Unit {0}
Accepts level (Paren ∷ frames) = Unit {0}
Accepts level (Not ∷ frames) = 5 ≤ level
Accepts level (Minus ∷ frames) = 5 ≤ level
Accepts level (Two op left ∷ frames) = strength op < level

-- these tokens may stand behind a part of this level
abbrev pub Follows : ℕ → List Token → Type 0
Follows level [] = Unit {0}
Follows level (Symbol signs ∷ tokens) =
    (signs ≡ codes ")") ⊎ ((op : Op) × (signs ≡ signs_of op) × (left_level op ≤ level))
Follows level (token ∷ tokens) = ⊥

pub accepts_more : (level : ℕ) (frames : List OpenPart) (more : ℕ) → level ≤ more
    → Accepts level frames → Accepts more frames
accepts_more level [] more h a = tt
accepts_more level (Paren ∷ frames) more h a = tt
accepts_more level (Not ∷ frames) more h a = omega arith
accepts_more level frames more h a = omega arith

follows_symbol : (level more : ℕ) (signs : List ℕ) (tokens : List Token) → level ≤ more
    → Follows level (Symbol signs ∷ tokens) → Follows more (Symbol signs ∷ tokens)
follows_symbol level more signs tokens h (inl e) = inl e
follows_symbol level more signs tokens h (inr f) = inr (f.0, f.1, omega (arith, f.2))

pub follows_more : (level more : ℕ) (tokens : List Token) → level ≤ more → Follows level tokens
    → Follows more tokens
follows_more level more [] h f = tt
follows_more level more (Symbol signs ∷ tokens) h f = follows_symbol level more signs tokens h f
follows_more level more (Number digits ∷ tokens) h f = f
follows_more level more (Word word ∷ tokens) h f = f

-- ---- what waits takes its part, where that is as strong as what follows asks

abbrev goes : List OpenPart → Expression → List Token → Option Expression
goes frames value tokens =
    expression_from (open_expression frames (Some value)) tokens

same_by_symbol : (frames others : List OpenPart) (value other : Expression) (signs : List ℕ)
    (tokens : List Token) (level : ℕ)
    → ((l : ℕ) → l ≤ level → reduced_value l frames value ≡ reduced_value l others other)
    → Follows level (Symbol signs ∷ tokens)
    → goes frames value (Symbol signs ∷ tokens) ≡ goes others other (Symbol signs ∷ tokens)
same_by_symbol frames others value other signs tokens level same (inl e) =
    rw (e, same 0 (omega arith)) refl
same_by_symbol frames others value other signs tokens level same (inr f) =
    rw (f.1, no_parenthesis f.0, operator_at f.0, same (left_level f.0) f.2) refl

-- two stacks with their values that are the same once they are reduced go on alike
same_goes : (frames others : List OpenPart) (value other : Expression) (tokens : List Token)
    (level : ℕ)
    → ((l : ℕ) → l ≤ level → reduced_value l frames value ≡ reduced_value l others other)
    → Follows level tokens → goes frames value tokens ≡ goes others other tokens
same_goes frames others value other [] level same f = rw (same 0 (omega arith)) refl
same_goes frames others value other (Symbol signs ∷ tokens) level same f =
    same_by_symbol frames others value other signs tokens level same f
same_goes frames others value other (Number digits ∷ tokens) level same f = absurd f
same_goes frames others value other (Word word ∷ tokens) level same f = absurd f

two_goes : (op : Op) (left value : Expression) (frames : List OpenPart) (tokens : List Token)
    → Follows (strength op) tokens → goes (Two op left ∷ frames) value tokens
    ≡ goes frames (trees.Two op left value) tokens
two_goes op left value frames tokens f =
    same_goes (Two op left ∷ frames) frames value (trees.Two op left value) tokens (strength op)
    (λ l h. rw (le-leb l (strength op) h) refl) f

-- ---- the whole expression

-- nothing that waits takes the left part of an operator that it waits for
kept : (op : Op) (value : Expression) (frames : List OpenPart) → Accepts (strength op) frames
    → reduced_value (left_level op) frames value ≡ (frames, value)
kept op value [] a = refl
kept op value (Paren ∷ frames) a = refl
kept op value (Not ∷ frames) a = absurd (omega (arith, strength_few op))
kept op value (Minus ∷ frames) a = absurd (omega (arith, strength_few op))
kept op value (Two other left ∷ frames) a =
    let weak : strength other < left_level op = omega (arith, left_above op) in
    rw (lt-leb (left_level op) (strength other) weak) refl

unchained : (op : Op) (frames : List OpenPart) → Accepts (strength op) frames
    → chains op frames ≡ false
unchained op [] a = refl
unchained op (Paren ∷ frames) a = refl
unchained op (Not ∷ frames) a = refl
unchained op (Minus ∷ frames) a = refl
unchained op (Two other left ∷ frames) a = grind (arith, nat_tests)

distinct_registers : AreDistinct registers
distinct_registers = search rules

pub register_read : (reg : ℕ) → reg < 16 → register_in (register_word reg) ≡ Some reg
register_read reg h = place_at registers reg distinct_registers h

-- an operator behind its left part waits for its right part
joins : (op : Op) (value : Expression) (frames : List OpenPart) (tokens : List Token)
    → Accepts (strength op) frames → expression_from (open_expression frames (Some value))
    (Symbol (signs_of op) ∷ tokens)
    ≡ expression_from (open_expression (Two op value ∷ frames) None) tokens
joins op value frames tokens a =
    rw (no_parenthesis op, operator_at op, kept op value frames a, unchained op frames a) refl

-- tokens that spell a part are read as it, whatever may follow
pub part_is_read : (level : ℕ) (tokens : List Token) (tree : Expression)
    → IsSpelled level tokens tree
    → (frames : List OpenPart) → Accepts level frames → (rest : List Token) → Follows level rest
    → expression_from (open_expression frames None) (tokens ++ rest)
    ≡ expression_from (open_expression frames (Some tree)) rest
part_is_read _ _ _ (number digits) frames a rest f = refl
part_is_read _ _ _ (register reg few) frames a rest f = rw (register_read reg few) refl
part_is_read _ _ _ (enclosed tokens tree h) frames a rest f =
    ap (λ (ts : List Token). expression_from (open_expression (Paren ∷ frames) None) ts)
    (append_assoc tokens (Symbol (codes ")") ∷ []) rest)
    ∙ part_is_read 0 tokens tree h (Paren ∷ frames) tt (Symbol (codes ")") ∷ rest) (inl refl)
part_is_read _ _ _ (minus tokens tree h) frames a rest f =
    part_is_read 5 tokens tree h (Minus ∷ frames) (omega arith) rest f
    ∙ same_goes (Minus ∷ frames) frames tree (trees.Minus tree) rest 5
    (λ l h. refl) f
part_is_read _ _ _ (not tokens tree h) frames a rest f =
    part_is_read 5 tokens tree h (Not ∷ frames) (omega arith) rest f
    ∙ same_goes (Not ∷ frames) frames tree (trees.Not tree) rest 5 (λ l h. refl) f
part_is_read _ _ _ (two op lefts rights left right hl hr) frames a rest f =
    let sign : Token = Symbol (signs_of op) in
    ap (λ (ts : List Token). expression_from (open_expression frames None) ts)
    (append_assoc lefts (sign ∷ rights) rest) ∙ part_is_read (left_level op) lefts left hl frames
    (accepts_more (strength op) frames (left_level op) (left_above op) a)
    (sign ∷ (rights ++ rest)) (inr (op, refl, omega arith))
    ∙ joins op left frames (rights ++ rest) a
    ∙ part_is_read (strength op + 1) rights right hr (Two op left ∷ frames) (omega arith)
    rest (follows_more (strength op) (strength op + 1) rest (omega arith) f)
    ∙ two_goes op left right frames rest f
part_is_read _ _ _ (stronger level tokens tree h) frames a rest f =
    part_is_read (level + 1) tokens tree h frames
    (accepts_more level frames (level + 1) (omega arith) a) rest
    (follows_more level (level + 1) rest (omega arith) f)

-- tokens that spell an expression are read as it
pub expression_is_read : (tokens : List Token) (tree : Expression) → IsSpelled 0 tokens tree
    → expression_in tokens ≡ Some tree
expression_is_read tokens tree h =
    ap (λ (ts : List Token). expression_from (open_expression [] None) ts)
    (sym (append-nil tokens)) ∙ part_is_read 0 tokens tree h [] tt [] tt
