-- What a step of a test names, and the verdicts that a trace may then tell.
use Rattle.std.proofs.Common.{◌≡◌, ◌⊎◌, ℕ, ◌<◌, false, inl, List, [], ◌∷◌, length, refl, arith}
use Rattle.std.specs.Prelude.{All}
use Rattle.std.proofs.lemmas.List.Elements.{All-cons, All-nil, All-map}
use Rattle.pct_ask.specs.NameLists.{NameLists}
use Rattle.pct_ask.specs.VerdictText.{IsLine}
use Rattle.pct_ask.specs.declared.ask.Ask.{Ask}
use Rattle.pct_ask.specs.declared.ask.FaultKind.{FaultKind}
use Rattle.pct_ask.specs.declared.verdict.MisuseKind.{MisuseKind}
use Rattle.pct_ask.specs.declared.verdict.Verdict.TheVariants.{Passed, Failed, Stuck, Misuse}
use Rattle.pct_ask.specs.declared.verdict.Verdict.TheVariants.{Fault, Cut}
use Rattle.trace_text.specs.Known.{IsKnownPlace}
use Rattle.trace_text.specs.Lawful.{HasObjects, is_of_second, IsKnownVerdict}

-- where a step is, and what it asks
pub record IsAsked (names : NameLists) (version t line : ℕ) (ask : Ask) : Type 0 where
  pub at : t < length names.threads
  pub on : IsLine line
  pub has : HasObjects names version ask

module _ (names : NameLists) (version : ℕ) where
  abbrev HasName : ℕ → Type 0
  HasName thread = thread < length names.threads

  -- ---- a verdict of one thread
  module _ (t line : ℕ) (at : t < length names.threads) (on : IsLine line) where
    one : All HasName (t ∷ [])
    one = All-cons HasName t [] at (All-nil HasName)

    pub failed-known : IsKnownVerdict names version (Failed t line)
    failed-known = record { threads = one; whole = on; known = inl refl }

    pub fault-known : (kind : FaultKind) → IsKnownVerdict names version (Fault t line kind)
    fault-known kind = record { threads = one; whole = on; known = inl refl }

    pub misuse-known : (kind : MisuseKind)
        → (is_of_second (Misuse t line kind) ≡ false) ⊎ (version ≡ 2)
        → IsKnownVerdict names version (Misuse t line kind)
    misuse-known kind known = record { threads = one; whole = on; known = known }

  -- ---- a verdict of no thread, and of all that are blocked
  pub passed-known : IsKnownVerdict names version Passed
  passed-known = record { threads = All-nil HasName; whole = tt; known = inl refl }

  pub cut-known : IsKnownVerdict names version Cut
  cut-known = record { threads = All-nil HasName; whole = tt; known = inl refl }

  pub stuck-known : (place : ℕ × ℕ) (places : List (ℕ × ℕ))
      → All (IsKnownPlace (length names.threads)) (place ∷ places)
      → IsKnownVerdict names version (Stuck (place ∷ places))
  stuck-known place places all = record {
    threads =
        All-map HasName (λ (p : ℕ × ℕ). p.0) (place ∷ places) (λ k d within. (all k d within).0);
    whole = (omega arith, λ k d within. (all k d within).1);
    known = inl refl;
  }
