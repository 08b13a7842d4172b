-- Reading a directive from its first line to its last.
use Rattle.std.specs.Prelude.{ℕ, ◌+◌, nat_lt, if◌then◌else◌, List, [], ◌∷◌, length, take, drop}
use Rattle.std.specs.Prelude.{Option, Some, None, Result, Ok, Err, codes}
use Rattle.std.specs.Str.{bytes_eq}
use Rattle.pct_ask.specs.Numbers.{step_count}
use Rattle.pct_ask.specs.Words.{is_name}
use Rattle.pct_ask.specs.NameLists.{NameLists, place_of}
use Rattle.pct_ask.specs.VerdictWords.{words_of, verdict_of_words}
use Rattle.pct_ask.specs.declared.verdict.Verdict.{Verdict}
use Rattle.pct_ask.specs.declared.verdict_text.VerdictRead.{VerdictRead}
use Rattle.pct_ask.specs.declared.verdict_text.VerdictRead.TheVariants.{Is, NoForm}
use Rattle.pct_ask.specs.declared.verdict_text.VerdictRead.TheVariants.{UnknownName as Unknown}
use Rattle.rank_now.specs.declared.moment.Moment.{Moment}
use Rattle.directive.specs.DirectiveText.{DirectiveText}
use Rattle.pct_ask.specs.Pieces.{pieces_of}
use Rattle.directive.specs.declared.row.DirectiveRow.{DirectiveRow}
use Rattle.directive.specs.declared.row.DirectiveRow.TheVariants.{After, End}
use Rattle.directive.specs.declared.row.SoundDirectiveRow.{SoundDirectiveRow}
use Rattle.directive.specs.declared.row.SoundDirectiveRow.TheVariants as sound
use Rattle.directive.specs.declared.fault.DirectiveFault.{DirectiveFault}
use Rattle.directive.specs.declared.fault.DirectiveFault.TheVariants.{TooLong, BadHeader, BadLine}
use Rattle.directive.specs.declared.fault.DirectiveFault.TheVariants.{UnknownName, NoVerdict}
use Rattle.directive.specs.declared.fault.DirectiveFault.TheVariants.{MoreAfterVerdict}

abbrev pub Fault : Type 0
Fault = ℕ × DirectiveFault

abbrev pub lawful : List ℕ → Option (List ℕ)
lawful name = if is_name 1 name then Some name else None

-- the name of a `low` line, by its words
abbrev pub low_words : List (List ℕ) → Option (List ℕ)
low_words (head ∷ name ∷ []) = if bytes_eq head (codes "low") then lawful name else None
low_words words = None

unfoldable pub low_in : List ℕ → Option (List ℕ)
low_in text = low_words (words_of text)

abbrev pub moment_row : NameLists → Option (List ℕ) → Option ℕ → Option DirectiveRow
moment_row names None number = None
moment_row names (Some name) None = None
moment_row names (Some name) (Some number) = Some (After (place_of name names.threads) number)

abbrev pub moment_of : NameLists → List ℕ → List ℕ → Option DirectiveRow
moment_of names name number = moment_row names (lawful name) (step_count number)

-- the moment that an `after` line tells by its words
abbrev pub after_words : NameLists → List (List ℕ) → Option DirectiveRow
after_words names (head ∷ name ∷ number ∷ []) =
    if bytes_eq head (codes "after") then moment_of names name number else None
after_words names words = None

abbrev pub end_of : VerdictRead → Option DirectiveRow
end_of NoForm = None
end_of Unknown = Some (End None)
end_of (Is verdict) = Some (End (Some verdict))

-- what a line after the second says by form
unfoldable pub row_of : NameLists → List ℕ → Option DirectiveRow
row_of names text =
    if bytes_eq (take 8 text) (codes "verdict ")
    then end_of (verdict_of_words names (words_of (drop 8 text)))
    else after_words names (words_of text)

-- the fault of line k where it has no LF
abbrev pub unended_fault : ℕ → Option DirectiveRow → List ℕ → DirectiveFault
unended_fault k None [] = NoVerdict
unended_fault k None (b ∷ bs) = BadLine
unended_fault k (Some (After thread number)) text = if nat_lt 9 k then TooLong else BadLine
unended_fault k (Some (End verdict)) text = BadLine

abbrev pub judged_moment : Option ℕ → ℕ → Result SoundDirectiveRow DirectiveFault
judged_moment None number = Err UnknownName
judged_moment (Some thread) number = Ok (sound.Event (record { thread = thread; number = number }))

-- what line k is where it has its LF, or its fault
abbrev pub line_or_fault : ℕ → Option DirectiveRow → Result SoundDirectiveRow DirectiveFault
line_or_fault k None = Err BadLine
line_or_fault k (Some (After thread number)) =
    if nat_lt 9 k then Err TooLong else judged_moment thread number
line_or_fault k (Some (End None)) = Err UnknownName
line_or_fault k (Some (End (Some verdict))) = Ok (sound.Last verdict)

abbrev pub Body : Type 0
Body = List Moment × Verdict

abbrev pub with_moment : Moment → Result Body Fault → Result Body Fault
with_moment moment (Ok body) = Ok (moment ∷ body.0, body.1)
with_moment moment (Err fault) = Err fault

-- nothing stands after the verdict line
abbrev pub body_at_verdict : ℕ → Verdict → List ℕ → List (List ℕ) → Result Body Fault
body_at_verdict k verdict [] [] = Ok ([], verdict)
body_at_verdict k verdict [] (piece ∷ pieces) = Err (k, MoreAfterVerdict)
body_at_verdict k verdict (b ∷ bs) pieces = Err (k, MoreAfterVerdict)

abbrev pub after_row : ℕ → Result SoundDirectiveRow DirectiveFault → List ℕ → List (List ℕ)
    → Result Body Fault
    → Result Body Fault
after_row k (Err kind) piece pieces others = Err (k, kind)
after_row k (Ok (sound.Event moment)) piece pieces others = with_moment moment others
after_row k (Ok (sound.Last verdict)) piece pieces others =
    body_at_verdict (k + 1) verdict piece pieces

-- the moments and the verdict, from line k on
abbrev pub body_of : NameLists → ℕ → List (List ℕ) → Result Body Fault
body_of names k [] = Err (k, NoVerdict)
body_of names k (piece ∷ []) = Err (k, unended_fault k (row_of names piece) piece)
body_of names k (piece ∷ after ∷ pieces) =
    after_row k (line_or_fault k (row_of names piece)) after pieces
    (body_of names (k + 1) (after ∷ pieces))

abbrev pub told_of : ℕ → Result Body Fault → Result DirectiveText Fault
told_of low (Ok body) = Ok (record { low = low; events = body.0; verdict = body.1 })
told_of low (Err fault) = Err fault

abbrev pub low_known : NameLists → Option ℕ → List (List ℕ) → Result DirectiveText Fault
low_known names None pieces = Err (2, UnknownName)
low_known names (Some low) pieces = told_of low (body_of names 3 pieces)

abbrev pub low_read : NameLists → Option (List ℕ) → List (List ℕ) → Result DirectiveText Fault
low_read names None pieces = Err (2, BadHeader)
low_read names (Some name) pieces = low_known names (place_of name names.threads) pieces

-- from the second line on
abbrev pub second_line : NameLists → List (List ℕ) → Result DirectiveText Fault
second_line names [] = Err (2, BadHeader)
second_line names (piece ∷ []) = Err (2, BadHeader)
second_line names (piece ∷ after ∷ pieces) = low_read names (low_in piece) (after ∷ pieces)

-- from the first line on
abbrev pub read_from_first : NameLists → List (List ℕ) → Result DirectiveText Fault
read_from_first names [] = Err (1, BadHeader)
read_from_first names (piece ∷ []) = Err (1, BadHeader)
read_from_first names (piece ∷ after ∷ pieces) =
    if bytes_eq piece (codes "directive 1") then second_line names (after ∷ pieces)
    else Err (1, BadHeader)

-- the directive that a text is read as, or its fault
abbrev pub read_as_directive : NameLists → List ℕ → Result DirectiveText Fault
read_as_directive names bytes =
    if nat_lt 65536 (length bytes) then Err (1, TooLong)
    else read_from_first names (pieces_of bytes)
