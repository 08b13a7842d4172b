-- Blocked threads that are known are those of a verdict that has a text.
use Rattle.std.proofs.Common.{◌≡◌, ◌<◌, ◌↔◌, ℕ, List, [], ◌∷◌, length, map, All, sym, subst, not}
use Rattle.std.proofs.Common.{true}
use Rattle.std.proofs.Common.{arith}
use Rattle.std.proofs.lemmas.List.Elements.{All-nil, All-cons, All-head, All-tail, All-map}
use Rattle.std.proofs.lemmas.List.Elements.{All-weaker}
use Rattle.pct_ask.specs.NameLists.{NameLists}
use Rattle.pct_ask.specs.VerdictText.{IsLine}
use Rattle.pct_ask.specs.declared.verdict.Verdict.{Verdict}
use Rattle.pct_ask.specs.declared.verdict.Verdict.TheVariants.{Stuck}
use Rattle.pct_ask.specs.Places.{same_places}
use Rattle.report_text.specs.Report.{IsWritable}
use Rattle.trace_text.specs.Known.{IsKnownPlace}

both_known : (threads : ℕ) (places : List (ℕ × ℕ))
    → All (λ thread. thread < threads) (map (λ (p : ℕ × ℕ). p.0) places)
    → All (λ (p : ℕ × ℕ). IsLine p.1) places → All (IsKnownPlace threads) places
both_known threads [] named lines = All-nil (IsKnownPlace threads)
both_known threads (place ∷ places) named lines =
    let low : ℕ → Type 0 = λ thread. thread < threads in
    let line : ℕ × ℕ → Type 0 = λ p. IsLine p.1 in
    let others = map (λ (p : ℕ × ℕ). p.0) places in
    All-cons (IsKnownPlace threads) place places
    (All-head low place.0 others named, All-head line place places lines)
    (both_known threads places (All-tail low place.0 others named)
    (All-tail line place places lines))

known_one : (names : NameLists) (places : List (ℕ × ℕ)) → 0 < length places
    → All (IsKnownPlace (length names.threads)) places ↔ IsWritable names (Stuck places)
known_one names places some =
    let n = length names.threads in
    let low : ℕ → Type 0 = λ thread. thread < n in (
      λ known. record {
        named =
            All-map low (λ (p : ℕ × ℕ). p.0) places
            (All-weaker (IsKnownPlace n) (λ (p : ℕ × ℕ). low p.0) (λ p h. h.0) places known);
        whole = (
          some,
          All-weaker (IsKnownPlace n) (λ (p : ℕ × ℕ). IsLine p.1) (λ p h. h.1) places known,
        );
      },
      λ is. both_known n places is.named is.whole.1,
    )

pub known_stuck : (names : NameLists) (threads : ℕ) (places : List (ℕ × ℕ)) (verdict : Verdict)
    → threads ≡ length names.threads → verdict ≡ Stuck places → 0 < length places
    → All (IsKnownPlace threads) places ↔ IsWritable names verdict
known_stuck names threads places verdict e f some =
    let one = known_one names places some in (
      λ known. subst (λ (v : Verdict). IsWritable names v) (sym f)
          (one.0 (subst (λ (n : ℕ). All (IsKnownPlace n) places) e known)),
      λ is. subst (λ (n : ℕ). All (IsKnownPlace n) places) (sym e)
          (one.1 (subst (λ (v : Verdict). IsWritable names v) f is)),
    )

-- somebody is there where the places aren't those of nobody
pub some_place : (places none : List (ℕ × ℕ)) → none ≡ []
    → not (same_places places none) ≡ true → 0 < length places
some_place [] none empty differs =
    let same : not (same_places [] []) ≡ true =
    subst (λ (others : List (ℕ × ℕ)). not (same_places [] others) ≡ true) empty differs in
    absurd cc
some_place (place ∷ places) none empty differs = omega arith
