-- What tokens are read as they spell.
use Rattle.std.proofs.Common.{◌≡◌, ℕ, zero, suc, ◌+◌, ◌<◌, ◌≤◌, inl, inr, false, cond, List, []}
use Rattle.std.proofs.Common.{◌∷◌, ◌++◌, Option, Some, None, refl, sym, ap, ◌∙◌, append_assoc}
use Rattle.std.proofs.Common.{arith, subst}
use Rattle.std.specs.Prelude.{pos, ◌-◌, nat_le, codes, slice_index_or}
use Rattle.std.specs.Str.{bytes_eq}
use Rattle.std.specs.Str.Parse.{digits_value}
use Rattle.std.proofs.lemmas.List.{append-nil}
use Rattle.std.proofs.lemmas.List.Quantifiers.{position-Some}
use Rattle.std.proofs.lemmas.Slice.Eq.{bytes_eq-Decides}
use Rattle.std.proofs.lemmas.Bool.{leb-true, leb-false, cases_Bool}
use Rattle.std.proofs.lemmas.Bool.Decides.{nat_tests}
use Rattle.pct_ask.specs.Tokens.{Token, Word, Number, Symbol}
use Rattle.pct_ask.specs.Words.{registers}
use Rattle.script_tree.specs.declared.expr.Op.{Op}
use Rattle.script_tree.specs.declared.expr.Op.TheVariants as ops
use Rattle.script_tree.specs.Trees.{Expression}
use Rattle.script_tree.specs.Trees as trees
use Rattle.script_tree.specs.Expressions.{IsSpelled, number, register, enclosed, minus, not, two}
use Rattle.script_tree.specs.Expressions.{stronger, signs_of, strength, left_level}
use Rattle.pct_ask.specs.Words.{register_word}
use Rattle.pct_ask.specs.Words.{register_in}
use Rattle.script_parse.specs.Machine.{OpenPart, Paren, Not, Minus, Two, OpenExpression}
use Rattle.script_parse.specs.Machine.{open_expression, operator_in, reduced_value, chains}
use Rattle.script_parse.specs.Machine.{with_operator, with_bracket, with_value_token, joined_by}
use Rattle.script_parse.specs.Machine.{behind, token_step, token_step_at, whole, finished_at}
use Rattle.script_parse.specs.Machine.{expression_from, expression_in}
use Rattle.script_parse.proofs.Choices.{some, some_is, chosen, passed, unfailed, mapped_some}
use Rattle.script_parse.proofs.Choices.{bind_some, same_bytes}
use Rattle.script_parse.proofs.Operators.{strength_few, left_few}
use Rattle.script_parse.proofs.ExpressionWhole.{Accepts, accepts_more}

down_by : (k low : ℕ) (tokens : List Token) (tree : Expression) → IsSpelled (low + k) tokens tree
    → IsSpelled low tokens tree
down_by zero low tokens tree h = subst (λ (l : ℕ). IsSpelled l tokens tree) (omega arith) h
down_by (suc k) low tokens tree h =
    let same : low + suc k ≡ low + 1 + k = omega arith in
    stronger low tokens tree (down_by k (low + 1) tokens tree
    (subst (λ (l : ℕ). IsSpelled l tokens tree) same h))

gap_to : (low high : ℕ) → low ≤ high → (k : ℕ) × (high ≡ low + k)
gap_to low high h = (high - low, omega arith)

-- what is spelled at a level is spelled at each weaker one
down : (low high : ℕ) (tokens : List Token) (tree : Expression) → low ≤ high
    → IsSpelled high tokens tree → IsSpelled low tokens tree
down low high tokens tree h r =
    let gap = gap_to low high h in
    down_by gap.0 low tokens tree (subst (λ (l : ℕ). IsSpelled l tokens tree) gap.1 r)

-- ---- the tokens of what waits

abbrev Stands : List OpenPart → List Token → Type 0
Stands [] front = front ≡ []
Stands (Paren ∷ frames) front =
    (before : List Token) × Stands frames before × (front ≡ before ++ Symbol (codes "(") ∷ [])
Stands (Not ∷ frames) front =
    (before : List Token) × Stands frames before × (front ≡ before ++ Symbol (codes "!") ∷ [])
Stands (Minus ∷ frames) front =
    (before : List Token) × Stands frames before × (front ≡ before ++ Symbol (codes "-") ∷ [])
Stands (Two op left ∷ frames) front =
    (before : List Token) × (lefts : List Token) × Stands frames before
    × Accepts (strength op) frames × IsSpelled (left_level op) lefts left
    × (front ≡ before ++ (lefts ++ Symbol (signs_of op) ∷ []))

-- what waits, and behind it a value
record HasValue (level : ℕ) (frames : List OpenPart) (value : Expression)
    (front : List Token) : Type
    0 where
  before : List Token
  tokens : List Token
  stands : Stands frames before
  accepts : Accepts level frames
  read : IsSpelled level tokens value
  front_is : front ≡ before ++ tokens

abbrev IsPartAt : List OpenPart → Option Expression → List Token → Type 0
IsPartAt frames None front = Stands frames front
IsPartAt frames (Some value) front = HasValue 6 frames value front

-- these tokens were read so far
abbrev IsPart : OpenExpression → List Token → Type 0
IsPart p front = IsPartAt p.frames p.value front

five_accepted : (frames : List OpenPart) → Accepts 5 frames
five_accepted [] = tt
five_accepted (Paren ∷ frames) = tt
five_accepted (Not ∷ frames) = omega arith
five_accepted (Minus ∷ frames) = omega arith
five_accepted (Two op left ∷ frames) = strength_few op

six_accepted : (frames : List OpenPart) → Accepts 6 frames
six_accepted frames = accepts_more 5 frames 6 (omega arith) (five_accepted frames)

-- ---- taking parts

-- nothing waits there that takes a part of this level
abbrev Waits : ℕ → List OpenPart → Type 0
Waits level [] = Unit {0}
Waits level (Paren ∷ frames) = Unit {0}
Waits level (Not ∷ frames) = ⊥
Waits level (Minus ∷ frames) = ⊥
Waits level (Two op left ∷ frames) = strength op < level

record IsReduced (low : ℕ) (done : List OpenPart × Expression) (front : List Token) : Type 0 where
  level : ℕ
  above : low ≤ level
  has : HasValue level done.0 done.1 front
  waits : Waits low done.0

regroup : (before : List Token) (sign : Token) (tokens : List Token)
    → (before ++ sign ∷ []) ++ tokens ≡ before ++ sign ∷ tokens
regroup before sign tokens = append_assoc before (sign ∷ []) tokens

minus_taken : (level : ℕ) (frames : List OpenPart) (value : Expression) (front : List Token)
    → HasValue level (Minus ∷ frames) value front → HasValue 5 frames (trees.Minus value) front
minus_taken level frames value front h = record {
  before = h.stands.0;
  tokens = Symbol (codes "-") ∷ h.tokens;
  stands = h.stands.1;
  accepts = five_accepted frames;
  read = minus h.tokens value (down 5 level h.tokens value h.accepts h.read);
  front_is =
      h.front_is ∙ ap (λ (ts : List Token). ts ++ h.tokens) h.stands.2
      ∙ regroup h.stands.0 (Symbol (codes "-")) h.tokens;
}

not_taken : (level : ℕ) (frames : List OpenPart) (value : Expression) (front : List Token)
    → HasValue level (Not ∷ frames) value front → HasValue 5 frames (trees.Not value) front
not_taken level frames value front h = record {
  before = h.stands.0;
  tokens = Symbol (codes "!") ∷ h.tokens;
  stands = h.stands.1;
  accepts = five_accepted frames;
  read = not h.tokens value (down 5 level h.tokens value h.accepts h.read);
  front_is =
      h.front_is ∙ ap (λ (ts : List Token). ts ++ h.tokens) h.stands.2
      ∙ regroup h.stands.0 (Symbol (codes "!")) h.tokens;
}

two_taken : (level : ℕ) (op : Op) (left : Expression) (frames : List OpenPart) (value : Expression)
    (front : List Token) → HasValue level (Two op left ∷ frames) value front
    → HasValue (strength op) frames (trees.Two op left value) front
two_taken level op left frames value front h = record {
  before = h.stands.0;
  tokens = h.stands.1 ++ Symbol (signs_of op) ∷ h.tokens;
  stands = h.stands.2;
  accepts = h.stands.3;
  read =
      two op h.stands.1 h.tokens left value h.stands.4
      (down (strength op + 1) level h.tokens value (omega (arith, h.accepts)) h.read);
  front_is =
      h.front_is ∙ ap (λ (ts : List Token). ts ++ h.tokens) h.stands.5
      ∙ append_assoc h.stands.0 (h.stands.1 ++ Symbol (signs_of op) ∷ []) h.tokens
      ∙ ap (λ (ts : List Token). h.stands.0 ++ ts)
      (regroup h.stands.1 (Symbol (signs_of op)) h.tokens);
}

is_reduced : (low : ℕ) (frames : List OpenPart) (value : Expression) (level : ℕ)
    (front : List Token)
    → low ≤ 5 → low ≤ level → HasValue level frames value front
    → IsReduced low (reduced_value low frames value) front
is_reduced low [] value level front few above h = record {
  level = level;
  above = above;
  has = h;
  waits = tt;
}
is_reduced low (Paren ∷ frames) value level front few above h = record {
  level = level;
  above = above;
  has = h;
  waits = tt;
}
is_reduced low (Not ∷ frames) value level front few above h =
    is_reduced low frames (trees.Not value) 5 front few few (not_taken level frames value front h)
is_reduced low (Minus ∷ frames) value level front few above h =
    is_reduced low frames (trees.Minus value) 5 front few few
    (minus_taken level frames value front h)
is_reduced low (Two op left ∷ frames) value level front few above h =
    elim (cases_Bool (nat_le low (strength op))) [
      | inl b ↦ rw b (is_reduced low frames (trees.Two op left value) (strength op) front few
          (leb-true low (strength op) b) (two_taken level op left frames value front h))
      | inr b ↦ rw b (record {
        level = level;
        above = above;
        has = h;
        waits = leb-false low (strength op) b;
      })
    ]

-- ---- one token more

one_operator : (signs : List ℕ) (o : Op) (rest : Option Op) (op : Op)
    → cond (bytes_eq signs (signs_of o)) (Some o) rest ≡ Some op
    → (rest ≡ Some op → signs ≡ signs_of op) → signs ≡ signs_of op
one_operator signs o rest op e others =
    elim (chosen (bytes_eq signs (signs_of o)) (Some o) rest (Some op) e) [
      | inl h ↦ same_bytes signs (signs_of o) h.0 ∙ ap signs_of (some_is o op h.1)
      | inr h ↦ others h.1
    ]

operator_says : (signs : List ℕ) (op : Op) → operator_in signs ≡ Some op → signs ≡ signs_of op
operator_says signs op e =
    one_operator signs ops.Or _ op e (λ e.
    one_operator signs ops.And _ op e (λ e.
    one_operator signs ops.Eq _ op e (λ e.
    one_operator signs ops.Ne _ op e (λ e.
    one_operator signs ops.Lt _ op e (λ e.
    one_operator signs ops.Le _ op e (λ e.
    one_operator signs ops.Gt _ op e (λ e.
    one_operator signs ops.Ge _ op e (λ e.
    one_operator signs ops.Plus _ op e (λ e.
    one_operator signs ops.Less _ op e (λ e.
    one_operator signs ops.Times _ op e (λ e.
    one_operator signs ops.Over _ op e (λ e.
    one_operator signs ops.Rest _ op e (λ e. absurd cc)))))))))))))

value_next : (frames : List OpenPart) (front : List Token) (token : Token) (tree : Expression)
    → Stands frames front → IsSpelled 6 (token ∷ []) tree
    → HasValue 6 frames tree (front ++ token ∷ [])
value_next frames front token tree h r = record {
  before = front;
  tokens = token ∷ [];
  stands = h;
  accepts = six_accepted frames;
  read = r;
  front_is = refl;
}

pub register_says : (word : List ℕ) (reg : ℕ) → register_in word ≡ Some reg
    → (reg < 16) × (register_word reg ≡ word)
register_says word reg e =
    let found = position-Some (bytes_eq word) registers reg [] e in
    (found.0, sym ((bytes_eq-Decides word (slice_index_or registers reg [])).0 found.1))

weak : (op : Op) (frames : List OpenPart) → chains op frames ≡ false → Waits (left_level op) frames
    → Accepts (strength op) frames
weak op [] c w = tt
weak op (Paren ∷ frames) c w = tt
weak op (Not ∷ frames) c w = absurd w
weak op (Minus ∷ frames) c w = absurd w
weak op (Two other left ∷ frames) c w = let few : left_level op ≤ strength op + 1 = left_few op in
    grind (arith, nat_tests)

joined_next : (op : Op) (frames : List OpenPart) (value : Expression) (p : OpenExpression)
    (front : List Token) → with_operator op (frames, value) ≡ Some p
    → IsReduced (left_level op) (frames, value) front
    → IsPart p (front ++ Symbol (signs_of op) ∷ [])
joined_next op frames value p front e r =
    let h = r.has in
    let u = unfailed (chains op frames) (some (open_expression (Two op value ∷ frames) None)) p e in
    let sign : Token = Symbol (signs_of op) in
    subst (λ (q : OpenExpression). IsPart q (front ++ sign ∷ []))
    (some_is (open_expression (Two op value ∷ frames) None) p u.1) (
      h.before,
      h.tokens,
      h.stands,
      weak op frames u.0 r.waits,
      down (left_level op) r.level h.tokens value r.above h.read,
      ap (λ (ts : List Token). ts ++ sign ∷ []) h.front_is
          ∙ append_assoc h.before h.tokens (sign ∷ []),
    )

closed_next : (frames : List OpenPart) (value : Expression) (p : OpenExpression)
    (front : List Token)
    → with_bracket frames value ≡ Some p → IsReduced 0 (frames, value) front
    → IsPart p (front ++ Symbol (codes ")") ∷ [])
closed_next [] value p front e r = absurd cc
closed_next (Not ∷ frames) value p front e r = absurd cc
closed_next (Minus ∷ frames) value p front e r = absurd cc
closed_next (Two op left ∷ frames) value p front e r = absurd cc
closed_next (Paren ∷ frames) value p front e r =
    let h = r.has in
    let end : List Token = Symbol (codes ")") ∷ [] in
    let begin : Token = Symbol (codes "(") in
    let inner = down 0 r.level h.tokens value (omega arith) h.read in
    subst (λ (q : OpenExpression). IsPart q (front ++ end))
    (some_is (open_expression frames (Some value)) p e) (record {
      before = h.stands.0;
      tokens = begin ∷ (h.tokens ++ end);
      stands = h.stands.1;
      accepts = six_accepted frames;
      read = enclosed h.tokens value inner;
      front_is =
          ap (λ (ts : List Token). ts ++ end)
          (h.front_is ∙ ap (λ (ts : List Token). ts ++ h.tokens) h.stands.2
          ∙ regroup h.stands.0 begin h.tokens) ∙ append_assoc h.stands.0 (begin ∷ h.tokens) end;
    })

begun_symbol : (frames : List OpenPart) (signs : List ℕ) (p : OpenExpression) (front : List Token)
    → Stands frames front → with_value_token frames (Symbol signs) ≡ Some p
    → IsPart p (front ++ Symbol signs ∷ [])
begun_symbol frames signs p front h e =
    elim (chosen (bytes_eq signs (codes "(")) (some (open_expression (Paren ∷ frames) None)) _
    (Some p) e) [
      | inl c ↦ subst (λ (q : OpenExpression). IsPart q (front ++ Symbol signs ∷ []))
          (some_is (open_expression (Paren ∷ frames) None) p c.1) (
            front,
            h,
            ap (λ (w : List ℕ). front ++ Symbol w ∷ []) (same_bytes signs (codes "(") c.0),
          )
      | inr c ↦ elim (chosen (bytes_eq signs (codes "-"))
          (some (open_expression (Minus ∷ frames) None)) _ (Some p) c.1) [
            | inl d ↦ subst (λ (q : OpenExpression). IsPart q (front ++ Symbol signs ∷ []))
                (some_is (open_expression (Minus ∷ frames) None) p d.1) (
                  front,
                  h,
                  ap (λ (w : List ℕ). front ++ Symbol w ∷ []) (same_bytes signs (codes "-") d.0),
                )
            | inr d ↦ let n =
                passed (bytes_eq signs (codes "!")) (some (open_expression (Not ∷ frames) None)) p
                d.1 in
                subst (λ (q : OpenExpression). IsPart q (front ++ Symbol signs ∷ []))
                (some_is (open_expression (Not ∷ frames) None) p n.1) (
                  front,
                  h,
                  ap (λ (w : List ℕ). front ++ Symbol w ∷ []) (same_bytes signs (codes "!") n.0),
                )
          ]
    ]

begun_next : (frames : List OpenPart) (token : Token) (p : OpenExpression) (front : List Token)
    → Stands frames front → with_value_token frames token ≡ Some p → IsPart p (front ++ token ∷ [])
begun_next frames (Symbol signs) p front h e = begun_symbol frames signs p front h e
begun_next frames (Number digits) p front h e =
    let value : Expression = trees.Number (pos (digits_value 10 digits)) in
    subst (λ (q : OpenExpression). IsPart q (front ++ Number digits ∷ []))
    (some_is (open_expression frames (Some value)) p e)
    (value_next frames front (Number digits) value h (number digits))
begun_next frames (Word word) p front h e =
    let m = mapped_some (λ (r : ℕ). open_expression frames (Some (trees.Reg r)))
    (register_in word) p e in
    let r = register_says word m.0 m.1 in
    let spelled : IsSpelled 6 (Word word ∷ []) (trees.Reg m.0) =
    subst (λ (w : List ℕ). IsSpelled 6 (Word w ∷ []) (trees.Reg m.0)) r.1 (register m.0 r.0) in
    subst (λ (q : OpenExpression). IsPart q (front ++ Word word ∷ [])) m.2
    (value_next frames front (Word word) (trees.Reg m.0) h spelled)

joined_by_next : (found : Option Op) (signs : List ℕ) (frames : List OpenPart) (value : Expression)
    (p : OpenExpression) (front : List Token) → operator_in signs ≡ found
    → joined_by found frames value ≡ Some p → HasValue 6 frames value front
    → IsPart p (front ++ Symbol signs ∷ [])
joined_by_next None signs frames value p front f e h = absurd cc
joined_by_next (Some op) signs frames value p front f e h =
    let done = reduced_value (left_level op) frames value in
    let few : left_level op ≤ 5 = omega (arith, left_few op, strength_few op) in
    subst (λ (w : List ℕ). IsPart p (front ++ Symbol w ∷ [])) (sym (operator_says signs op f))
    (joined_next op done.0 done.1 p front e
    (is_reduced (left_level op) frames value 6 front few (omega arith) h))

behind_next : (frames : List OpenPart) (value : Expression) (token : Token) (p : OpenExpression)
    (front : List Token) → HasValue 6 frames value front → behind frames value token ≡ Some p
    → IsPart p (front ++ token ∷ [])
behind_next frames value (Number digits) p front h e = absurd cc
behind_next frames value (Word word) p front h e = absurd cc
behind_next frames value (Symbol signs) p front h e =
    let done = reduced_value 0 frames value in
    elim (chosen (bytes_eq signs (codes ")")) (with_bracket done.0 done.1) _ (Some p) e) [
      | inl c ↦ subst (λ (w : List ℕ). IsPart p (front ++ Symbol w ∷ []))
          (sym (same_bytes signs (codes ")") c.0)) (closed_next done.0 done.1 p front c.1
          (is_reduced 0 frames value 6 front (omega arith) (omega arith) h))
      | inr c ↦ joined_by_next (operator_in signs) signs frames value p front refl c.1 h
    ]

step_next : (frames : List OpenPart) (value : Option Expression) (token : Token)
    (p : OpenExpression)
    (front : List Token) → IsPartAt frames value front
    → token_step_at frames value token ≡ Some p → IsPart p (front ++ token ∷ [])
step_next frames None token p front h e = begun_next frames token p front h e
step_next frames (Some value) token p front h e = behind_next frames value token p front h e

whole_sound : (frames : List OpenPart) (value : Expression) (tree : Expression) (front : List Token)
    → whole (frames, value) ≡ Some tree → IsReduced 0 (frames, value) front → IsSpelled 0 front tree
whole_sound (frame ∷ frames) value tree front e r = absurd cc
whole_sound [] value tree front e r =
    let h = r.has in
    let all : front ≡ h.tokens = h.front_is ∙ ap (λ (ts : List Token). ts ++ h.tokens) h.stands in
    subst (λ (ts : List Token). IsSpelled 0 ts tree) (sym all)
    (subst (λ (t : Expression). IsSpelled 0 h.tokens t) (some_is value tree e)
    (down 0 r.level h.tokens value (omega arith) h.read))

finished_sound : (frames : List OpenPart) (value : Option Expression) (tree : Expression)
    (front : List Token) → IsPartAt frames value front → finished_at frames value ≡ Some tree
    → IsSpelled 0 front tree
finished_sound frames None tree front h e = absurd cc
finished_sound frames (Some value) tree front h e =
    let done = reduced_value 0 frames value in
    whole_sound done.0 done.1 tree front e
    (is_reduced 0 frames value 6 front (omega arith) (omega arith) h)

read_sound : (tokens : List Token) (p : OpenExpression) (tree : Expression) (front : List Token)
    → IsPart p front → expression_from p tokens ≡ Some tree → IsSpelled 0 (front ++ tokens) tree
read_sound [] p tree front h e =
    subst (λ (ts : List Token). IsSpelled 0 ts tree) (sym (append-nil front))
    (finished_sound p.frames p.value tree front h e)
read_sound (token ∷ tokens) p tree front h e =
    let b = bind_some (λ next. expression_from next tokens) (token_step p token) tree e in
    subst (λ (ts : List Token). IsSpelled 0 ts tree) (append_assoc front (token ∷ []) tokens)
    (read_sound tokens b.0 tree (front ++ token ∷ [])
    (step_next p.frames p.value token b.0 front h b.1) b.2)

-- what tokens are read as they spell
pub expression_is_spelled : (tokens : List Token) (tree : Expression)
    → expression_in tokens ≡ Some tree → IsSpelled 0 tokens tree
expression_is_spelled tokens tree e = read_sound tokens (open_expression [] None) tree [] refl e
