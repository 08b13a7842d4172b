-- What a put and a finish do to a stream that may gather what is put (this project).
use Rattle.std.specs.Prelude.{◌≡◌, ℕ, List, [], ◌++◌, Option}
use Rattle.std.specs.Io.KnownBytes.{Appends}
use Rattle.pct_outside.specs.Piece.{IsAppended, IsPartAppended, AppendsPart}
use Rattle.pct_outside.specs.SinkState.{StreamState}
use Rattle.pct_outside.specs.Told.{StreamTold}

-- what was gathered and then the piece are what was written since and what is gathered now
pub record IsPut (piece : List ℕ) (before after : StreamTold) : Type 0 where
  pub more : List ℕ
  pub split : before.gathered ++ piece ≡ more ++ after.gathered
  pub appended : IsAppended more before.written after.written

-- what was gathered and then the piece are written whole, and nothing is gathered any more
pub record IsWritten (piece : List ℕ) (before after : StreamTold) : Type 0 where
  pub whole : IsAppended (before.gathered ++ piece) before.written after.written
  pub none : after.gathered ≡ []

-- a prefix of them is written; the rest is lost, and nothing is gathered any more
pub record IsPartWritten (piece : List ℕ) (before after : StreamTold) : Type 0 where
  pub part : IsPartAppended (before.gathered ++ piece) before.written after.written
  pub none : after.gathered ≡ []

-- The piece was put whole. Where nothing was gathered before it, all of it is written.
pub record IsPutWhole (piece : List ℕ) (before after : StreamTold) : Type 0 where
  pub put : IsPut piece before after
  pub none : before.gathered ≡ [] → after.gathered ≡ []

-- The same of a prefix of what was gathered and the piece.
pub record IsPutInPart (piece : List ℕ) (before after : StreamTold) : Type 0 where
  pub part : IsPartAppended (before.gathered ++ piece) before.written after.written
  pub none : before.gathered ≡ [] → after.gathered ≡ []

-- a put, seen by what the stream below holds, where that is known
abbrev pub GathersOn :
    {W : Type 0} → (W → Option (List ℕ)) → List ℕ → StreamState W → StreamState W → Type 0
GathersOn contents piece before after =
    (more : List ℕ) × (before.gathered ++ piece ≡ more ++ after.gathered)
    × Appends (contents before.stream) (contents after.stream) more

-- the same of all bytes that were put, written whole
abbrev pub WritesOn :
    {W : Type 0} → (W → Option (List ℕ)) → List ℕ → StreamState W → StreamState W → Type 0
WritesOn contents piece before after =
    Appends (contents before.stream) (contents after.stream) (before.gathered ++ piece)
    × (after.gathered ≡ [])

-- and of a prefix of them
abbrev pub WritesPartOn :
    {W : Type 0} → (W → Option (List ℕ)) → List ℕ → StreamState W → StreamState W → Type 0
WritesPartOn contents piece before after =
    AppendsPart (contents before.stream) (contents after.stream) (before.gathered ++ piece)
    × (after.gathered ≡ [])
