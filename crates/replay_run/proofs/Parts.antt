-- Where two lists that agree so far part.
use Rattle.std.proofs.Common.{◌≡◌, ℕ, zero, suc, ◌+◌, ◌≤◌, List, [], ◌∷◌, ◌++◌, length, take, drop}
use Rattle.std.proofs.Common.{Some, None, sym, ap, ◌∙◌, arith}
use Rattle.std.specs.Prelude.{slice_get}
use Rattle.std.proofs.lemmas.List.{length-take-le, take_all}
use Rattle.pct_ask.specs.declared.event.Event.{Event}
use Rattle.replay_run.specs.Replay.{DifferAt, EndsBefore}
use Rattle.trace_text.specs.Agreed.{IsAgreed}

cut_is : (xs : List Event) (k : ℕ) (x : Event) → slice_get xs k ≡ Some x
    → xs ≡ take k xs ++ x ∷ drop (suc k) xs
cut_is [] k x e = absurd cc
cut_is (y ∷ xs) zero x e = let same : y ≡ x = cc in ap (λ z. z ∷ xs) same
cut_is (y ∷ xs) (suc k) x e = ap (λ l. y ∷ l) (cut_is xs k x e)

none_past : (xs : List Event) (k : ℕ) → slice_get xs k ≡ None → length xs ≤ k
none_past [] k e = omega arith
none_past (y ∷ xs) zero e = absurd cc
none_past (y ∷ xs) (suc k) e = let rest = none_past xs k e in omega arith

module _ (made told : List Event) (many : ℕ) (agreed : IsAgreed made told many) where
  number : many + 1 ≡ length (take many made) + 1
  number = ap (λ n. n + 1) (sym (length-take-le many made agreed.made_within))

  -- both go on, with different steps
  pub differ_at : (e f : Event) → slice_get made many ≡ Some e → slice_get told many ≡ Some f
      → DifferAt (many + 1) made told e f
  differ_at e f at at_too = record {
    before = take many made;
    more = drop (suc many) made;
    more_told = drop (suc many) told;
    made_is = cut_is made many e at;
    told_is =
        cut_is told many f at_too ∙ ap (λ l. l ++ f ∷ drop (suc many) told) (sym agreed.front);
    number = number;
    apart = agreed.apart e f at at_too;
  }

  all_made : slice_get made many ≡ None → take many made ≡ made
  all_made none = take_all many made (none_past made many none)

  -- the first is at its end, and the second isn't
  pub ends_before : (f : Event) → slice_get made many ≡ None → slice_get told many ≡ Some f
      → EndsBefore (many + 1) made told f
  ends_before f none at = record {
    more_told = drop (suc many) told;
    told_is =
        cut_is told many f at ∙ ap (λ l. l ++ f ∷ drop (suc many) told)
        (sym agreed.front ∙ all_made none);
    number = number ∙ ap (λ l. length l + 1) (all_made none);
  }

  -- the second is at its end, and so is the first, which is no longer
  pub all_agree : length made ≤ length told → slice_get told many ≡ None
      → (made ≡ told) × (many + 1 ≡ length told + 1)
  all_agree no_longer none =
      let past = none_past told many none in
      let same : made ≡ told = sym (take_all many made (omega arith)) ∙ agreed.front
      ∙ take_all many told past in
      (same, omega (arith, agreed.told_within))
