-- Lists that are put into the caller's buffers (this project).
use Rattle.std.specs.Prelude.{◌≡◌, ◌≢◌, ◌≤◌, ◌<◌, ◌++◌, ◌⊎◌, ℕ, List, length, drop, Result, Ok, Err}
use Rattle.c_values.specs.declared.refused.Refused.{Refused}
use Rattle.c_values.specs.declared.refused.Refused.TheVariants.{Bad, NoMemory}

-- the status of a refusal
abbrev pub refusal_status : Refused → ℕ
refusal_status Bad = 5
refusal_status NoMemory = 6

-- A list that is asked for. Done: it stands at the buffer's front, and the rest of the buffer is as
-- it was. No room: it is longer than the buffer. The count is its length then. Bad: there is no
-- such
-- list. Nothing is written but where it is done.
pub record Puts {T : Type 0} (Is : List T → Type 0) (status count : ℕ) (before after : List T)
    : Type 0 where
  pub done : status ≡ 0 → (list : List T) × Is list × (count ≡ length list)
      × (length list ≤ length before) × (after ≡ list ++ drop (length list) before)
  pub no_room : status ≡ 8 → (list : List T) × Is list × (count ≡ length list)
      × (length before < length list)
  pub bad : status ≡ 5 → (list : List T) → ¬ Is list
  pub statuses : (status ≡ 0) ⊎ ((status ≡ 5) ⊎ ((status ≡ 6) ⊎ (status ≡ 8)))
  pub uncounted : (status ≡ 5) ⊎ (status ≡ 6) → count ≡ 0
  pub unwritten : status ≢ 0 → after ≡ before

-- A list that is asked for and has just the buffer's length. Done: it is the buffer. Bad: there is
-- no
-- such list. Nothing is written but where it is done.
pub record Fills {T : Type 0} (Is : List T → Type 0) (status : ℕ) (before after : List T)
    : Type 0 where
  pub done : status ≡ 0 → Is after
  pub bad : status ≡ 5 → (list : List T) → ¬ Is list
  pub statuses : (status ≡ 0) ⊎ ((status ≡ 5) ⊎ (status ≡ 6))
  pub unwritten : status ≢ 0 → after ≡ before

-- what became of a list that was told, or of a refusal
abbrev pub IsPutInRoom : {T : Type 0} → Result (List T) Refused → ℕ → ℕ → List T → List T → Type 0
IsPutInRoom {T = T} (Ok list) status count before after =
    (count ≡ length list)
    × (((status ≡ 0) × (length list ≤ length before)
    × (after ≡ list ++ drop (length list) before))
    ⊎ ((status ≡ 8) × (length before < length list) × (after ≡ before)))
IsPutInRoom (Err why) status count before after =
    (status ≡ refusal_status why) × (count ≡ 0) × (after ≡ before)

abbrev pub IsFilled : {T : Type 0} → Result (List T) Refused → ℕ → List T → List T → Type 0
IsFilled (Ok list) status before after = (status ≡ 0) × (after ≡ list)
IsFilled (Err why) status before after = (status ≡ refusal_status why) × (after ≡ before)
