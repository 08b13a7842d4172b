-- What became of a list that was told is what becomes of a list that is asked for.
use Rattle.std.proofs.Common.{◌≡◌, ◌≤◌, ◌<◌, ◌++◌, ◌⊎◌, inl, inr, ℕ, List, length, drop}
use Rattle.std.specs.Prelude.{Result, Ok, Err, IfOk}
use Rattle.c_values.specs.Told.{Answers}
use Rattle.c_values.specs.declared.refused.Refused.{Refused}
use Rattle.c_values.specs.declared.refused.Refused.TheVariants.{Bad, NoMemory}
use Rattle.pct_c.specs.Buffers.{Puts, Fills, IsPutInRoom, IsFilled}

pub puts : {T : Type 0} (Is : List T → Type 0) (told : Result (List T) Refused)
    (status count : ℕ) (before after : List T) → Answers Is told
    → IsPutInRoom told status count before after → Puts Is status count before after
puts Is (Ok list) status count before after is put = by put.1
  where
    by : ((status ≡ 0) × (length list ≤ length before)
        × (after ≡ list ++ drop (length list) before))
        ⊎ ((status ≡ 8) × (length before < length list) × (after ≡ before))
        → Puts Is status count before after
    by (inl done) = record {
      done = λ _. (list, is, put.0, done.1, done.2);
      no_room = λ h. absurd cc;
      bad = λ h. absurd cc;
      statuses = inl done.0;
      uncounted = λ h. elim h [ inl five ↦ absurd cc | inr six ↦ absurd cc ];
      unwritten = λ h. absurd (h done.0);
    }
    by (inr room) = record {
      done = λ h. absurd cc;
      no_room = λ _. (list, is, put.0, room.1);
      bad = λ h. absurd cc;
      statuses = inr (inr (inr room.0));
      uncounted = λ h. elim h [ inl five ↦ absurd cc | inr six ↦ absurd cc ];
      unwritten = λ _. room.2;
    }
puts Is (Err Bad) status count before after is put = record {
  done = λ h. absurd cc;
  no_room = λ h. absurd cc;
  bad = λ _. is;
  statuses = inr (inl put.0);
  uncounted = λ _. put.1;
  unwritten = λ _. put.2;
}
puts Is (Err NoMemory) status count before after is put = record {
  done = λ h. absurd cc;
  no_room = λ h. absurd cc;
  bad = λ h. absurd cc;
  statuses = inr (inr (inl put.0));
  uncounted = λ _. put.1;
  unwritten = λ _. put.2;
}

pub fills : {T : Type 0} (Is : List T → Type 0) (told : Result (List T) Refused) (status : ℕ)
    (before after : List T) → Answers Is told → IsFilled told status before after
    → Fills Is status before after
fills Is (Ok list) status before after is filled = record {
  done = λ _. rw filled.1 is;
  bad = λ h. absurd cc;
  statuses = inl filled.0;
  unwritten = λ h. absurd (h filled.0);
}
fills Is (Err Bad) status before after is filled = record {
  done = λ h. absurd cc;
  bad = λ _. is;
  statuses = inr (inl filled.0);
  unwritten = λ _. filled.1;
}
fills Is (Err NoMemory) status before after is filled = record {
  done = λ h. absurd cc;
  bad = λ h. absurd cc;
  statuses = inr (inr filled.0);
  unwritten = λ _. filled.1;
}

-- a list that is told has the buffer's length, where each list that is asked for has
pub fillable : {T : Type 0} (Is : List T → Type 0) (told : Result (List T) Refused) (room : ℕ)
    → Answers Is told → ((list : List T) → Is list → length list ≡ room)
    → IfOk told (λ list. length list ≡ room)
fillable Is (Ok list) room is long = long list is
fillable Is (Err why) room is long = tt
