-- A value with at most seven items has no more than its first eight.
use Rattle.std.proofs.Common.{◌≡◌, ℕ, ◌≤◌, true, nat_le, inl, inr, List, length, take, None, sym}
use Rattle.std.proofs.Common.{ap}
use Rattle.std.proofs.Common.{subst, ◌∙◌, arith}
use Rattle.std.specs.Prelude.{IfOk, if◌then◌else◌, Option}
use Rattle.std.proofs.lemmas.Bool.{cases_lt}
use Rattle.std.proofs.lemmas.Bool.Decides.{nat_tests}
use Rattle.std.proofs.lemmas.List.{take_all, length-take-le, length-map}
use Rattle.pct_ask.specs.Numbers.{step_counts}
use Rattle.pct_ask.specs.Pieces.{seen}
use Rattle.pct_top.specs.Values.{items_of, points_in}
use Rattle.pct_ask.specs.declared.limits.TheConstants.{MAX_POINTS}
use Rattle.pct_top.proofs.values.points_in.Goals as goal

all-pieces : (all pieces : List (List ℕ)) → pieces ≡ take 8 all → length pieces ≤ 7
    → (pieces ≡ all) × (length all ≤ 7)
all-pieces all pieces is few = elim (cases_lt (length all) 8) [
  | inl short ↦ (is ∙ take_all 8 all (omega (arith, short)), omega (arith, short))
  | inr long ↦
      let eight : length (take 8 all) ≡ 8 = length-take-le 8 all long in
      absurd (omega (arith, ap length is, eight, few))
]

few-points : (value : List ℕ) (pieces : List (List ℕ)) → pieces ≡ take 8 (items_of value)
    → length pieces ≤ 7 → step_counts pieces ≡ points_in value
few-points value pieces is few =
    let all = all-pieces (items_of value) pieces is few in
    let at_most = all.1 in
    let within : nat_le (length (items_of value)) MAX_POINTS ≡ true = grind (arith, nat_tests) in
    ap step_counts all.0
    ∙ sym (ap (λ b. if b then step_counts (items_of value) else None) within)

pub returns : goal.returns
returns c =
    let items = c.in_ok-items.items.items in
    let few : length (seen items) ≤ 7 =
    omega (
      arith,
      length-map items (λ word. word.now),
      c.len.ensures,
      c.if-len-gt-MAX_POINTS.false,
    ) in
    let pieces : seen items ≡ take 8 (items_of c.args.value.now) =
    c.in_ok-items.ensures ∙ ap (λ bytes. take 8 (items_of bytes)) c.as_bytes.ensures.value in
    let P : Option (List ℕ) → Type 0 = λ told. IfOk c.step_counts.result (λ points. points ≡ told)
    in
    subst P (ap (λ words. step_counts (seen words)) c.as_slice.ensures.value
    ∙ few-points c.args.value.now (seen items) pieces few) c.step_counts.ensures
