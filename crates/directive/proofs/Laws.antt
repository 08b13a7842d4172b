-- Each text is one directive's or has one first fault.
use Rattle.std.specs.Prelude.{nat_lt, if◌then◌else◌, codes, map, MatchResult}
use Rattle.std.specs.List.{All}
use Rattle.std.specs.Str.{bytes_eq}
use Rattle.std.proofs.Common.{◌≡◌, ◌⊎◌, ℕ, ◌+◌, ◌<◌, ◌≤◌, Bool, true, false, List, [], ◌∷◌, ◌++◌}
use Rattle.std.proofs.Common.{length, drop, Option, Some, None, Result, Ok, Err, inl, inr, refl}
use Rattle.std.proofs.Common.{sym, ◌∙◌, ap, arith, subst}
use Rattle.std.proofs.lemmas.Bool.Decides.{nat_tests}
use Rattle.std.proofs.lemmas.List.Elements.{All-head, All-tail}
use Rattle.std.proofs.lemmas.Slice.Eq.{bytes_eq-Decides}
use Rattle.pct_ask.specs.NameLists.{NameLists, AreNames, place_of}
use Rattle.pct_ask.specs.VerdictText.{verdict_text, thread_name}
use Rattle.pct_ask.specs.declared.verdict.Verdict.{Verdict}
use Rattle.pct_ask.proofs.laws.Names.{place_of-Some, place_of-thread, thread-lawful}
use Rattle.rank_now.specs.declared.moment.Moment.{Moment}
use Rattle.directive.specs.DirectiveText.{DirectiveText, low_line, moment_line, verdict_line}
use Rattle.directive.specs.DirectiveText.{directive_lines}
use Rattle.directive.specs.Forms.{IsLowLine, HasUnknownLow}
use Rattle.pct_ask.specs.Pieces.{pieces_of}
use Rattle.directive.specs.Lines.{first_line as line_of, line_at}
use Rattle.directive.specs.Directive.{IsMoment, IsSound, IsDirective}
use Rattle.directive.specs.Faults.{IsSecondLine, IsBelowSecond, IsFaulty, IsFirstFault}
use Rattle.directive.specs.Faults.{IsDirectiveFault}
use Rattle.directive.specs.Answers.{TellsOne, FailsOnce, EachHasOneAnswer, plain_directive}
use Rattle.directive.specs.Answers.{AnswersDirective}
use Rattle.directive.specs.Reading.{Fault, Body, low_in, row_of, line_or_fault, with_moment}
use Rattle.directive.specs.Reading.{after_row, body_of, told_of, low_known, low_read, second_line}
use Rattle.directive.specs.Reading.{read_from_first, read_as_directive}
use Rattle.directive.specs.Seen.{Gives}
use Rattle.directive.specs.declared.directive.Directive.{Directive}
use Rattle.directive.specs.declared.row.SoundDirectiveRow.TheVariants as sound
use Rattle.directive.specs.declared.fault.DirectiveFault.{DirectiveFault}
use Rattle.directive.specs.declared.fault.DirectiveFault.TheVariants.{TooLong, BadHeader}
use Rattle.directive.specs.declared.fault.DirectiveError.{DirectiveError}
use Rattle.directive.specs.declared.fault.DirectiveError.TheVariants.{Bad, NoMemory}
use Rattle.directive.proofs.Rows.{Told, low_in-IsLowLine, IsLowLine-low_in, low-name}
use Rattle.directive.proofs.Rows.{row_of-IsAfter}
use Rattle.directive.proofs.Rows.{row_of-Told}
use Rattle.directive.proofs.Places.{line-here, drop-next}
use Rattle.directive.proofs.Faultless.{SoundTo, sound-one, sound-next, line-one, line-two}
use Rattle.directive.proofs.Faultless.{first-size, first-head, first-low, first-unknown-low}
use Rattle.directive.proofs.Faultless.{first-only}
use Rattle.directive.proofs.Readings.{made, BodyTold, body-told}
use Rattle.directive.proofs.Texts.{lines-some, pieces_of_lines, text-pieces, pieces-directive}

-- ---- what is read is the directive or the first fault

-- what a text is read as holds of it: its directive, and then no line is faulty, or its first fault
abbrev ToldBy : ℕ → NameLists → List (List ℕ) → Result DirectiveText Fault → Type 0
ToldBy size names all (Ok text) =
    (all ≡ directive_lines names text ++ [] ∷ []) × IsSound names text
    × ((line : ℕ) (kind : DirectiveFault) → ¬ IsFaulty size names all line kind)
ToldBy size names all (Err fault) = IsFirstFault size names all fault.0 fault.1

below-two : (names : NameLists) (all : List (List ℕ)) → IsBelowSecond names all 3
below-two names all = record { later = omega arith; unended = λ j three less. absurd (omega arith) }

module _ (size : ℕ) (names : NameLists) (valid : AreNames names) (all : List (List ℕ))
    (small : ¬ (65536 < size)) where
  -- the lines after the second are told
  body-by : (low : ℕ) (piece : List ℕ) (rest : List (List ℕ)) (read_body : Result Body Fault)
      → all ≡ codes "directive 1" ∷ piece ∷ rest → piece ≡ low_line (thread_name names low)
      → low < length names.threads → BodyTold size names all 3 rest read_body
      → ToldBy size names all (told_of low read_body)
  body-by low piece rest (Ok body) is spelled known told = (
    is ∙ ap (λ p. codes "directive 1" ∷ p ∷ rest) spelled
        ∙ ap (λ r. codes "directive 1" ∷ low_line (thread_name names low) ∷ r)
        (told.lines ∙ sym (last-pieces names body.0 (verdict_line (verdict_text names body.1)))),
    record {
      low = known;
      few = omega (arith, told.room);
      events = told.sound;
      threads = told.told.threads;
      form = told.told.form;
    },
    told.faultless,
  )
    where
      last-pieces : (names : NameLists) (events : List Moment) (last : List ℕ)
          → (map (moment_line names) events ++ last ∷ []) ++ [] ∷ []
          ≡ map (moment_line names) events ++ last ∷ [] ∷ []
      last-pieces names [] last = refl
      last-pieces names (e ∷ es) last =
          ap (λ r. moment_line names e ∷ r) (last-pieces names es last)
  body-by low piece rest (Err fault) is spelled known told = told

  second-told : (piece after : List ℕ) (pieces : List (List ℕ))
      → all ≡ codes "directive 1" ∷ piece ∷ after ∷ pieces → SoundTo size names all 2
      → ToldBy size names all (low_read names (low_in piece) (after ∷ pieces))
  second-told piece after pieces is sound_to = by (low_in piece) refl
    where
      left : drop 1 all ≡ piece ∷ after ∷ pieces
      left = ap (drop 1) is

      here : line_at all 2 ≡ made piece true
      here = line-here all (piece ∷ after ∷ pieces) 1 left

      unknown-by : (name : List ℕ) → IsLowLine piece name → (place : Option ℕ)
          → place_of name names.threads ≡ place
          → ToldBy size names all (low_known names place (after ∷ pieces))
      unknown-by name low None found =
          first-unknown-low size names all sound_to
          (rw here (record { whole = refl; name = name; text = low })) (rw here (name, low, found))
      unknown-by name low (Some thread) found =
          let place = place_of-Some name names.threads thread found in
          let second : IsSecondLine (line_at all 2) =
          rw here (record { whole = refl; name = name; text = low }) in
          let known : ¬ HasUnknownLow names (line_at all 2).text =
          rw here (λ u. (let same = low-name piece name u.0 low u.1 in
          let bad : Some thread ≡ None = sym found
          ∙ (ap (λ n. place_of n names.threads) same ∙ u.2) in cc)) in
          let sound_three = sound-next size names all 2 sound_to
          (line-two size names all second known) in
          body-by thread piece (after ∷ pieces) (body_of names 3 (after ∷ pieces)) is
          (low.spelled ∙ ap low_line (sym place.1)) place.0
          (body-told size names valid all (after ∷ pieces) 2
          (drop-next all 1 piece (after ∷ pieces) left) (omega arith) sound_three
          (below-two names all))

      by : (name : Option (List ℕ)) → low_in piece ≡ name
          → ToldBy size names all (low_read names name (after ∷ pieces))
      by None e =
          first-low size names all sound_to
          (rw here (λ second. (let there : None ≡ Some second.name = sym e
          ∙ low_in-IsLowLine piece second.name second.text in cc)))
      by (Some name) e =
          unknown-by name (IsLowLine-low_in piece name e) (place_of name names.threads) refl

  low-unended : (rest : List (List ℕ)) → drop 1 all ≡ rest → (line_of rest).whole ≡ false
      → SoundTo size names all 2 → IsFirstFault size names all 2 BadHeader
  low-unended rest left unended sound_to =
      first-low size names all sound_to
      (rw (line-here all rest 1 left)
      (λ second. (let bad : false ≡ true = sym unended ∙ second.whole in cc)))

  second-by : (rest : List (List ℕ)) → all ≡ codes "directive 1" ∷ rest → SoundTo size names all 2
      → ToldBy size names all (second_line names rest)
  second-by [] is sound_to = low-unended [] (ap (drop 1) is) refl sound_to
  second-by (piece ∷ []) is sound_to = low-unended (piece ∷ []) (ap (drop 1) is) refl sound_to
  second-by (piece ∷ after ∷ pieces) is sound_to = second-told piece after pieces is sound_to

  first-by : (rest : List (List ℕ)) → all ≡ rest
      → ToldBy size names all (read_from_first names rest)
  first-by [] is =
      first-head size names all small (rw (line-here all [] 0 is)
      (λ first. (let bad : false ≡ true = first.whole in cc)))
  first-by (piece ∷ []) is =
      first-head size names all small (rw (line-here all (piece ∷ []) 0 is)
      (λ first. (let bad : false ≡ true = first.whole in cc)))
  first-by (piece ∷ after ∷ pieces) is = by (bytes_eq piece (codes "directive 1")) refl
    where
      here : line_at all 1 ≡ made piece true
      here = line-here all (piece ∷ after ∷ pieces) 0 is

      by : (head : Bool) → bytes_eq piece (codes "directive 1") ≡ head
          → ToldBy size names all (if head then second_line names (after ∷ pieces) else Err
          (1, BadHeader))
      by true e =
          let same : piece ≡ codes "directive 1" =
          (bytes_eq-Decides piece (codes "directive 1")).0 e in
          second-by (after ∷ pieces) (is ∙ ap (λ p. p ∷ after ∷ pieces) same)
          (sound-next size names all 1 (sound-one size names all)
          (line-one size names all small (rw here (record { whole = refl; text = same }))))
      by false e =
          first-head size names all small
          (rw here (λ first. (let bad : true ≡ false =
          sym ((bytes_eq-Decides piece (codes "directive 1")).1 first.text) ∙ e in cc)))

-- the same of the text
abbrev pub IsTold : List ℕ → NameLists → Result DirectiveText Fault → Type 0
IsTold bytes names (Ok text) =
    IsDirective bytes names text × ((line : ℕ) (kind : DirectiveFault)
    → ¬ IsDirectiveFault bytes names line kind)
IsTold bytes names (Err fault) = IsDirectiveFault bytes names fault.0 fault.1

pub read-told : (bytes : List ℕ) (names : NameLists) → AreNames names
    → IsTold bytes names (read_as_directive names bytes)
read-told bytes names valid = by (nat_lt 65536 (length bytes)) refl
  where
    fits : (result : Result DirectiveText Fault) → length bytes ≤ 65536
        → ToldBy (length bytes) names (pieces_of bytes) result → IsTold bytes names result
    fits (Ok text) small h = (
      record {
        sound = h.1;
        small = small;
        text = text-pieces bytes (directive_lines names text) h.0;
      },
      λ line kind fault. h.2 line kind fault.faulty,
    )
    fits (Err fault) small h = h

    by : (large : Bool) → nat_lt 65536 (length bytes) ≡ large
        → IsTold bytes names (if large then Err (1, TooLong) else read_from_first names
        (pieces_of bytes))
    by true e = first-size (length bytes) names (pieces_of bytes) (grind (arith, nat_tests))
    by false e =
        let small : length bytes ≤ 65536 = grind (arith, nat_tests) in
        fits (read_from_first names (pieces_of bytes)) small
        (first-by (length bytes) names valid (pieces_of bytes) (λ large. omega arith)
        (pieces_of bytes) refl)

-- ---- a directive's text is read as it

second-lines : (names : NameLists) (piece : List ℕ) (lines : List (List ℕ))
    → second_line names (piece ∷ pieces_of_lines lines)
    ≡ low_read names (low_in piece) (pieces_of_lines lines)
second-lines names piece lines = let some = lines-some lines in rw some.2

event-lines : (names : NameLists) (k : ℕ) (piece : List ℕ) (lines : List (List ℕ)) (moment : Moment)
    → line_or_fault k (row_of names piece) ≡ Ok (sound.Event moment)
    → body_of names k (piece ∷ pieces_of_lines lines)
    ≡ with_moment moment (body_of names (k + 1) (pieces_of_lines lines))
event-lines names k piece lines moment says =
    let some = lines-some lines in
    ap (λ ps. body_of names k (piece ∷ ps)) some.2
    ∙ ap (λ j. after_row k j some.0 some.1 (body_of names (k + 1) (some.0 ∷ some.1))) says
    ∙ ap (λ ps. with_moment moment (body_of names (k + 1) ps)) (sym some.2)

body-lines : (names : NameLists) (k : ℕ) (events : List Moment) (verdict : Verdict) → AreNames names
    → All (IsMoment names) events → Told names (verdict_line (verdict_text names verdict)) verdict
    → k + length events ≤ 10 → body_of names k
    (pieces_of_lines (map (moment_line names) events ++ verdict_line (verdict_text names verdict)
    ∷ [])) ≡ Ok (events, verdict)
body-lines names k [] verdict valid all last room =
    ap (λ r. after_row k (line_or_fault k r) [] [] (body_of names (k + 1) ([] ∷ [])))
    (row_of-Told names (verdict_line (verdict_text names verdict)) verdict valid last)
body-lines names k (moment ∷ events) verdict valid all last room =
    let is = All-head (IsMoment names) moment events all in
    let name = thread_name names moment.thread in
    let row = row_of-IsAfter names (moment_line names moment) name moment.number
    (record {
      lawful = thread-lawful names moment.thread valid is.thread;
      range = is.number;
      spelled = refl;
    }) in
    let soon : nat_lt 9 k ≡ false = grind (arith, nat_tests) in
    let found = place_of-thread names moment.thread valid is.thread in
    let says : line_or_fault k (row_of names (moment_line names moment)) ≡ Ok (sound.Event moment) =
    ap (line_or_fault k) row ∙ rw (found, soon) in
    event-lines names k (moment_line names moment)
    (map (moment_line names) events ++ verdict_line (verdict_text names verdict) ∷ []) moment
    says
    ∙ ap (with_moment moment) (body-lines names (k + 1) events verdict valid
    (All-tail (IsMoment names) moment events all) last (omega arith))

pub read-directive : (bytes : List ℕ) (names : NameLists) (text : DirectiveText) → AreNames names
    → IsDirective bytes names text → read_as_directive names bytes ≡ Ok text
read-directive bytes names text valid is =
    let small : nat_lt 65536 (length bytes) ≡ false =
    (let s = is.small in grind (arith, nat_tests)) in
    let body = map (moment_line names) text.events ++ verdict_line (verdict_text names text.verdict)
    ∷ [] in
    let low = low_line (thread_name names text.low) in
    let lines : pieces_of bytes ≡ codes "directive 1" ∷ low ∷ pieces_of_lines body =
    ap pieces_of is.text ∙ pieces-directive names text valid is.sound in
    let name = low_in-IsLowLine low (thread_name names text.low)
    (record { lawful = thread-lawful names text.low valid is.sound.low; spelled = refl }) in
    let found = place_of-thread names text.low valid is.sound.low in
    let told = body-lines names 3 text.events text.verdict valid is.sound.events
    (record { threads = is.sound.threads; form = is.sound.form; spelled = refl })
    (omega (arith, is.sound.few)) in
    ap (λ b. if b then Err (1, TooLong) else read_from_first names (pieces_of bytes)) small
    ∙ ap (read_from_first names) lines
    ∙ second-lines names low body
    ∙ ap (λ n. low_read names n (pieces_of_lines body)) name
    ∙ ap (λ p. low_known names p (pieces_of_lines body)) found
    ∙ ap (told_of text.low) told

-- ---- so each text has one answer

ok-same : (a b : DirectiveText) → ◌≡◌ {A = Result DirectiveText Fault} (Ok a) (Ok b) → a ≡ b
ok-same a b e = cc

pub each-has-one : EachHasOneAnswer
each-has-one bytes names valid =
    by (read_as_directive names bytes) refl (read-told bytes names valid)
  where
    by : (result : Result DirectiveText Fault) → read_as_directive names bytes ≡ result
        → IsTold bytes names result → TellsOne bytes names ⊎ FailsOnce bytes names
    by (Ok text) e h =
        inl (
          text,
          record {
            is = h.0;
            only = λ other is. ok-same text other
                (sym e ∙ read-directive bytes names other valid is);
            faultless = h.1;
          },
        )
    by (Err fault) e h = inr (
      fault.0,
      fault.1,
      record {
        is = h;
        only =
            λ line kind other. first-only (length bytes) names (pieces_of bytes) fault.0 line
            fault.1 kind h other;
        no_directive =
            λ text is. (let both : Err fault ≡ Ok text = sym e
            ∙ read-directive bytes names text valid is in cc);
      },
    )

-- ---- and what a call answers is it

pub answer-given : (bytes : List ℕ) (names : NameLists) (result : Result Directive DirectiveError)
    → AreNames names → Gives plain_directive result (read_as_directive names bytes)
    → AnswersDirective bytes names result
answer-given bytes names (Ok directive) valid gives =
    (subst (IsTold bytes names) gives (read-told bytes names valid)).0
answer-given bytes names (Err (Bad line kind)) valid gives =
    subst (IsTold bytes names) gives (read-told bytes names valid)
answer-given bytes names (Err NoMemory) valid gives = tt

pub directive-given : (bytes : List ℕ) (names : NameLists)
    (result : Result Directive DirectiveError) (text : DirectiveText) → AreNames names
    → Gives plain_directive result (read_as_directive names bytes) → IsDirective bytes names text
    → MatchResult result (λ directive. plain_directive directive ≡ text) (λ error. error ≡ NoMemory)
directive-given bytes names (Ok directive) text valid gives is =
    ok-same (plain_directive directive) text (sym gives ∙ read-directive bytes names text valid is)
directive-given bytes names (Err (Bad line kind)) text valid gives is =
    absurd (let both : Err (line, kind) ≡ Ok text = sym gives
    ∙ read-directive bytes names text valid is in cc)
directive-given bytes names (Err NoMemory) text valid gives is = refl

pub fault-given : (bytes : List ℕ) (names : NameLists) (result : Result Directive DirectiveError)
    (line : ℕ) (kind : DirectiveFault) → AreNames names
    → Gives plain_directive result (read_as_directive names bytes)
    → IsDirectiveFault bytes names line kind
    → (result ≡ Err (Bad line kind)) ⊎ (result ≡ Err NoMemory)
fault-given bytes names (Ok directive) line kind valid gives fault =
    absurd ((subst (IsTold bytes names) gives (read-told bytes names valid)).1 line kind fault)
fault-given bytes names (Err (Bad l k)) line kind valid gives fault =
    let same = first-only (length bytes) names (pieces_of bytes) l line k kind
    (subst (IsTold bytes names) gives (read-told bytes names valid)) fault in
    inl (ap (λ n. Err (Bad n k)) same.0 ∙ ap (λ q. Err (Bad line q)) same.1)
fault-given bytes names (Err NoMemory) line kind valid gives fault = inr refl
