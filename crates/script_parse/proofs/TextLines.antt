-- Lines of a text, one more at the end.
use Rattle.std.proofs.Common.{◌≡◌, ℕ, ◌+◌, inl, inr, true, length, List, [], ◌∷◌, ◌++◌, refl, ap}
use Rattle.std.proofs.Common.{arith}
use Rattle.script_tree.specs.Forms.{MeantForm}
use Rattle.script_tree.specs.Lines.{is_blank_line}
use Rattle.script_tree.specs.Grammar.{Line, Says, AreLines}

pub blank_more : (version n : ℕ) (texts : List (List ℕ)) (text : List ℕ) (lines : List Line)
    → AreLines version n texts lines → is_blank_line text ≡ true
    → AreLines version n (texts ++ text ∷ []) lines
blank_more version n [] text lines h b = inl (b, h)
blank_more version n (t ∷ ts) text lines (inl h) b =
    inl (h.0, blank_more version (n + 1) ts text lines h.1 b)
blank_more version n (t ∷ ts) text lines (inr h) b =
    inr (h.0, h.1, h.2, h.3, blank_more version (n + 1) ts text h.1 h.4 b)

pub says_more : (version n m : ℕ) (texts : List (List ℕ)) (text : List ℕ) (lines : List Line)
    (meant : MeantForm) → AreLines version n texts lines → Says version text meant
    → m ≡ n + length texts → AreLines version n (texts ++ text ∷ []) (lines ++ (m, meant) ∷ [])
says_more version n m [] text lines meant h s e =
    let number : m ≡ n = omega (arith, e) in
    inr (meant, [], rw (h, number) refl, s, refl)
says_more version n m (t ∷ ts) text lines meant (inl h) s e =
    inl (h.0, says_more version (n + 1) m ts text lines meant h.1 s (omega (arith, e)))
says_more version n m (t ∷ ts) text lines meant (inr h) s e =
    inr (
      h.0,
      h.1 ++ (m, meant) ∷ [],
      ap (λ (ls : List Line). ls ++ (m, meant) ∷ []) h.2,
      h.3,
      says_more version (n + 1) m ts text h.1 meant h.4 s (omega (arith, e)),
    )
