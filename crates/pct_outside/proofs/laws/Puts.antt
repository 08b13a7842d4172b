-- Laws of streams that gather what is put, for callers that put one piece after another.
use Rattle.std.proofs.Common.{◌≡◌, ℕ, List, [], ◌++◌, sym, ap, subst, ◌∙◌}
use Rattle.std.proofs.Common.{append_assoc, append-nil}
use Rattle.pct_outside.specs.Piece.{IsAppended, IsPartAppended}
use Rattle.pct_outside.specs.Told.{StreamTold}
use Rattle.pct_outside.specs.Puts.{IsPut, IsWritten, IsPartWritten, IsPutWhole, IsPutInPart}
use Rattle.pct_outside.proofs.laws.Pieces.{IsAppended-nil, IsAppended-then, IsPartAppended-nil}
use Rattle.pct_outside.proofs.laws.Pieces.{IsPartAppended-longer, IsPartAppended-then}

-- nothing was put
pub IsPut-nil : (a : StreamTold) → IsPut [] a a
IsPut-nil a = record {
  more = [];
  split = append-nil a.gathered;
  appended = IsAppended-nil a.written;
}

-- one piece and then another
pub IsPut-then : (p q : List ℕ) (a b c : StreamTold) → IsPut p a b → IsPut q b c
    → IsPut (p ++ q) a c
IsPut-then p q a b c first second = record {
  more = first.more ++ second.more;
  split = sym (append_assoc a.gathered p q) ∙ ap (λ (l : List ℕ). l ++ q) first.split
      ∙ append_assoc first.more b.gathered q ∙ ap (λ (l : List ℕ). first.more ++ l) second.split
      ∙ sym (append_assoc first.more second.more c.gathered);
  appended = IsAppended-then first.more second.more a.written b.written c.written first.appended
      second.appended;
}

-- what was gathered and put before a piece, and then the piece
before_piece : (p q : List ℕ) (a b : StreamTold) (first : IsPut p a b)
    → first.more ++ (b.gathered ++ q) ≡ a.gathered ++ (p ++ q)
before_piece p q a b first =
    sym (append_assoc first.more b.gathered q) ∙ ap (λ (l : List ℕ). l ++ q) (sym first.split)
    ∙ append_assoc a.gathered p q

-- one piece, and then a prefix of another
pub IsPartWritten-then : (p q : List ℕ) (a b c : StreamTold) → IsPut p a b → IsPartWritten q b c
    → IsPartWritten (p ++ q) a c
IsPartWritten-then p q a b c first second = record {
  part = subst (λ (l : List ℕ). IsPartAppended l a.written c.written) (before_piece p q a b first)
      (IsPartAppended-then first.more (b.gathered ++ q) a.written b.written c.written
      first.appended second.part);
  none = second.none;
}

-- a prefix of a piece is one of a longer piece
pub IsPartWritten-longer : (p q : List ℕ) (a b : StreamTold) → IsPartWritten p a b
    → IsPartWritten (p ++ q) a b
IsPartWritten-longer p q a b written = record {
  part = subst (λ (l : List ℕ). IsPartAppended l a.written b.written)
      (append_assoc a.gathered p q)
      (IsPartAppended-longer (a.gathered ++ p) q a.written b.written written.part);
  none = written.none;
}

-- one piece, and then what is gathered is written
pub put_finished : (p : List ℕ) (a b c : StreamTold) → IsPut p a b → IsWritten [] b c
    → IsPutWhole p a c
put_finished p a b c first rest = record {
  put = record {
    more = first.more ++ b.gathered;
    split = first.split ∙ sym (append-nil (first.more ++ b.gathered))
        ∙ ap (λ (l : List ℕ). (first.more ++ b.gathered) ++ l) (sym rest.none);
    appended = IsAppended-then first.more b.gathered a.written b.written c.written first.appended
        (subst (λ (l : List ℕ). IsAppended l b.written c.written) (append-nil b.gathered)
        rest.whole);
  };
  none = λ _. rest.none;
}

-- a prefix was put
pub put_in_part : (p : List ℕ) (a b : StreamTold) → IsPartWritten p a b → IsPutInPart p a b
put_in_part p a b written = record { part = written.part; none = λ _. written.none }

-- one piece, and then a part of what is gathered is written
pub put_cut_off : (p : List ℕ) (a b c : StreamTold) → IsPut p a b → IsPartWritten [] b c
    → IsPutInPart p a c
put_cut_off p a b c first rest =
    put_in_part p a c (subst (λ (l : List ℕ). IsPartWritten l a c) (append-nil p)
    (IsPartWritten-then p [] a b c first rest))

-- nothing was put
pub IsPutWhole-nil : (a : StreamTold) → IsPutWhole [] a a
IsPutWhole-nil a = record { put = IsPut-nil a; none = λ none. none }

-- nothing is a prefix
pub IsPutInPart-nil : (p : List ℕ) (a : StreamTold) → IsPutInPart p a a
IsPutInPart-nil p a = record {
  part = IsPartAppended-nil (a.gathered ++ p) a.written;
  none = λ none. none;
}
