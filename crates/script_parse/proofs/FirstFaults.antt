-- A place with no fault before it, and the first kind of its faults, are its text's first fault.
use Rattle.std.proofs.Common.{◌≡◌, ℕ, ◌+◌, ◌<◌, ◌⊎◌, inl, inr, length, List, [], ◌∷◌, ◌++◌, refl}
use Rattle.std.proofs.Common.{sym, ap, ◌∙◌, arith, subst}
use Rattle.std.proofs.lemmas.List.{length-append}
use Rattle.pct_ask.specs.FirstFaults.{IsFirstFault}
use Rattle.script_tree.specs.declared.fault.ScriptFault.{ScriptFault}
use Rattle.script_tree.specs.Faults.{Place, IsFaulty, kind_rank, IsFaultyLine}
use Rattle.script_parse.proofs.FirstKinds.{IsFirstKind}
use Rattle.script_parse.proofs.TextFaults.{at_place, HasNoFaultBefore}

-- two cuts of a list are at one place, or one of them is before the other
compare : {A : Type 0} (us ms vs ns : List A) (a b : A) → us ++ a ∷ ms ≡ vs ++ b ∷ ns
    → ((us ≡ vs) × (a ≡ b) × (ms ≡ ns))
    ⊎ (((mid : List A) × (vs ≡ us ++ a ∷ mid) × (ms ≡ mid ++ b ∷ ns))
    ⊎ ((mid : List A) × (us ≡ vs ++ b ∷ mid) × (ns ≡ mid ++ a ∷ ms)))
compare [] ms [] ns a b e = inl (refl, cc, cc)
compare [] ms (v ∷ vs) ns a b e = let first : v ≡ a = cc in let rest : ms ≡ vs ++ b ∷ ns =
    cc in inr (inl (vs, ap (λ x. x ∷ vs) first, rest))
compare (u ∷ us) ms [] ns a b e = let first : u ≡ b = cc in let rest : us ++ a ∷ ms ≡ ns =
    cc in inr (inr (us, ap (λ x. x ∷ us) first, sym rest))
compare (u ∷ us) ms (v ∷ vs) ns a b e =
    let first : u ≡ v = cc in
    let rest : us ++ a ∷ ms ≡ vs ++ b ∷ ns = cc in
    elim (compare us ms vs ns a b rest) [
      | inl h ↦ inl (cons_same u v us vs first h.0, h.1, h.2)
      | inr o ↦ elim o [
        | inl h ↦ inr (inl (h.0, cons_same v u vs (us ++ a ∷ h.0) (sym first) h.1, h.2))
        | inr h ↦ inr (inr (h.0, cons_same u v us (vs ++ b ∷ h.0) first h.1, h.2))
      ]
    ]
  where
    cons_same : {A : Type 0} (a b : A) (us vs : List A) → a ≡ b → us ≡ vs
        → ◌≡◌ {A = List A} (a ∷ us) (b ∷ vs)
    cons_same a b us vs p q = cc

same_place : (before others : List (List ℕ)) (line other : List ℕ) (after more : List (List ℕ))
    → before ≡ others → line ≡ other → after ≡ more
    → at_place before line after ≡ at_place others other more
same_place before others line other after more p q r = cc

longer : (front back all : List (List ℕ)) (line : List ℕ) → all ≡ front ++ line ∷ back
    → length front < length all
longer front back all line e =
    omega (arith, ap (λ (ls : List (List ℕ)). length ls) e, length-append front (line ∷ back))

module _ (lines : List (List ℕ)) (p : Place) (of : lines ≡ p.before ++ p.line ∷ p.after)
    (kind : ScriptFault) (first_line : HasNoFaultBefore p) (first_kind : IsFirstKind p kind) where
  abbrev Cuts : Place → Type 0
  Cuts q = lines ≡ q.before ++ q.line ∷ q.after

  no_lower : (other : ScriptFault) → kind_rank other < kind_rank kind → (q : Place) → Cuts q
      → length p.before ≡ length q.before → ¬ IsFaulty other q
  no_lower other low q cut same f =
      elim (compare q.before q.after p.before p.after q.line p.line (sym cut ∙ of)) [
        | inl h ↦
            first_kind.first other low
            (subst (λ (x : Place). IsFaulty other x)
            (same_place q.before p.before q.line p.line q.after p.after h.0 h.1 h.2) f)
        | inr o ↦ elim o [
          | inl h ↦
              let less = longer q.before h.0 p.before q.line h.1 in
              absurd (omega (arith, less, same))
          | inr h ↦
              let less = longer p.before h.0 q.before p.line h.1 in
              absurd (omega (arith, less, same))
        ]
      ]

  no_earlier : (other : ScriptFault) (q : Place) → Cuts q → length q.before < length p.before
      → ¬ IsFaulty other q
  no_earlier other q cut early f =
      elim (compare q.before q.after p.before p.after q.line p.line (sym cut ∙ of)) [
        | inl h ↦
            let same = ap (λ (ls : List (List ℕ)). length ls) h.0 in
            absurd (omega (arith, same, early))
        | inr o ↦ elim o [
          | inl h ↦
              first_line q.before h.0 q.line other h.1
              (subst (λ (after : List (List ℕ)). IsFaulty other (at_place q.before q.line after))
              h.2 f)
          | inr h ↦
              let less = longer p.before h.0 q.before p.line h.1 in
              absurd (omega (arith, less, early))
        ]
      ]

  pub first_at : (n : ℕ) → n ≡ length p.before + 1
      → IsFirstFault kind_rank (IsFaultyLine lines) n kind
  first_at n count = record {
    faulty = (p, of, count, first_kind.faulty);
    first_kind = λ other low f.
        no_lower other low f.0 f.1 (let k = f.2 in omega (arith, count, k)) f.3;
    first_line = λ before other early f.
        no_earlier other f.0 f.1 (let k = f.2 in omega (arith, count, k, early)) f.3;
  }
