-- Laws of appended pieces, for callers that put one piece after another.
use Rattle.std.proofs.Common.{◌≡◌, ℕ, List, [], ◌++◌, Option, Some, None, refl, sym, ap, ◌∙◌}
use Rattle.std.proofs.Common.{append_assoc, append-nil}
use Rattle.pct_outside.specs.Piece.{IsAppended, IsPartAppended}

-- nothing was put
pub IsAppended-nil : (a : Option (List ℕ)) → IsAppended [] a a
IsAppended-nil None = refl
IsAppended-nil (Some xs) = ap Some (sym (append-nil xs))

-- one piece and then another
pub IsAppended-then : (p q : List ℕ) (a b c : Option (List ℕ)) → IsAppended p a b → IsAppended q b c
    → IsAppended (p ++ q) a c
IsAppended-then p q None None c x y = y
IsAppended-then p q None (Some ys) c x y = (cc)
IsAppended-then p q (Some xs) None c x y = (cc)
IsAppended-then p q (Some xs) (Some ys) c x y =
    let same : ys ≡ xs ++ p = cc in y ∙ ap (λ zs. Some (zs ++ q)) same
    ∙ ap Some (append_assoc xs p q)

-- nothing is a prefix
pub IsPartAppended-nil : (p : List ℕ) (a : Option (List ℕ)) → IsPartAppended p a a
IsPartAppended-nil p None = refl
IsPartAppended-nil p (Some xs) = ([], p, refl, ap Some (sym (append-nil xs)))

-- a prefix of a piece is one of a longer piece
pub IsPartAppended-longer : (p q : List ℕ) (a b : Option (List ℕ)) → IsPartAppended p a b
    → IsPartAppended (p ++ q) a b
IsPartAppended-longer p q None b x = x
IsPartAppended-longer p q (Some xs) b (part, rest, split, after) =
    (part, rest ++ q, ap (λ l. l ++ q) split ∙ append_assoc part rest q, after)

-- one piece, and then a prefix of another
pub IsPartAppended-then : (p q : List ℕ) (a b c : Option (List ℕ)) → IsAppended p a b
    → IsPartAppended q b c → IsPartAppended (p ++ q) a c
IsPartAppended-then p q None None c x y = y
IsPartAppended-then p q None (Some ys) c x y = (cc)
IsPartAppended-then p q (Some xs) None c x y = (cc)
IsPartAppended-then p q (Some xs) (Some ys) c x (part, rest, split, after) =
    let same : ys ≡ xs ++ p = cc in (
      p ++ part,
      rest,
      ap (λ l. p ++ l) split ∙ sym (append_assoc p part rest),
      after ∙ ap (λ zs. Some (zs ++ part)) same ∙ ap Some (append_assoc xs p part),
    )
