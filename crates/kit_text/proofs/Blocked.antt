-- The lines of blocked threads, looked up one after another.
use Rattle.std.proofs.Common.{◌≡◌, ℕ, ◌+◌, ◌<◌, ◌≤◌, ◌==◌, Bool, true, false, List, [], ◌∷◌, Some}
use Rattle.std.proofs.Common.{All, map, refl, subst, arith}
use Rattle.std.specs.Cmp.{unsigned_Decides}
use Rattle.std.proofs.lemmas.Bool.Decides.{eqb_tells}
use Rattle.std.proofs.lemmas.List.Elements.{All-nil, All-cons, All-head, All-tail}
use Rattle.pct_ask.specs.Places.{line_of_thread, AreRising}
use Rattle.pct_ask.proofs.laws.RisingPlaces.{RiseFrom, RiseFrom-increasing}

module _ (P : ℕ × ℕ → Type 0) where
  -- what holds of all places holds of a thread and its line
  pub one-of-all : (t line : ℕ) (places : List (ℕ × ℕ)) → All P places
      → line_of_thread t places ≡ Some line → P (t, line)
  one-of-all t line [] all none = absurd cc
  one-of-all t line (place ∷ places) all is =
      by (λ found. one-of-all t line places (All-tail P place places all) found)
      (place.0 == t) refl where
        by : (line_of_thread t places ≡ Some line → P (t, line)) → (same : Bool)
            → (place.0 == t) ≡ same → P (t, line)
        by others true e =
            let here = (unsigned_Decides place.0 t).0 e in
            let found : Some place.1 ≡ Some line = rw e at is in
            let line_is : place.1 ≡ line = cc in
            subst P (λ i. (here i, line_is i)) (All-head P place places all)
        by others false e = others (rw e at is)

  above : (least k line : ℕ) (places : List (ℕ × ℕ)) → RiseFrom least (map (λ p. p.0) places)
      → line_of_thread k places ≡ Some line → least ≤ k
  above least k line [] rise none = absurd cc
  above least k line (place ∷ places) rise is =
      by (λ found. above (place.0 + 1) k line places rise.1 found) (place.0 == k) refl where
        by : (line_of_thread k places ≡ Some line → place.0 + 1 ≤ k) → (same : Bool)
            → (place.0 == k) ≡ same → least ≤ k
        by others true e = let here = (unsigned_Decides place.0 k).0 e in
            omega (arith, here, rise.0)
        by others false e = let later = others (rw e at is) in omega (arith, later, rise.0)

  all-from : (least : ℕ) (places : List (ℕ × ℕ)) → RiseFrom least (map (λ p. p.0) places)
      → All (λ (p : ℕ × ℕ). p.0 < 64) places
      → ((k line : ℕ) → k < 64 → line_of_thread k places ≡ Some line → P (k, line)) → All P places
  all-from least [] rise few each = All-nil P
  all-from least (place ∷ places) rise few each =
      let Low : ℕ × ℕ → Type 0 = λ p. p.0 < 64 in
      let same : (place.0 == place.0) ≡ true = (unsigned_Decides place.0 place.0).1 refl in
      let own : line_of_thread place.0 (place ∷ places) ≡ Some place.1 = rw same refl in
      All-cons P place places
      (each place.0 place.1 (All-head Low place places few) own)
      (all-from (place.0 + 1) places rise.1 (All-tail Low place places few)
      (λ k line small is. each k line small (later k line is)))
    where
      later : (k line : ℕ) → line_of_thread k places ≡ Some line
          → line_of_thread k (place ∷ places) ≡ Some line
      later k line is =
          let up = above (place.0 + 1) k line places rise.1 is in
          let apart : (place.0 == k) ≡ false = grind (arith, eqb_tells) in
          rw apart is

  -- what holds of each thread that has a line holds of all places
  pub all-of-each : (places : List (ℕ × ℕ)) → AreRising places
      → ((k line : ℕ) → k < 64 → line_of_thread k places ≡ Some line → P (k, line)) → All P places
  all-of-each places are each =
      all-from 0 places (RiseFrom-increasing (map (λ p. p.0) places) are.rising) are.few each
