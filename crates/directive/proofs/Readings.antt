-- What a text is read as: its directive or its first fault.
use Rattle.std.specs.Prelude.{nat_lt, if◌then◌else◌, map}
use Rattle.std.specs.List.{All}
use Rattle.std.proofs.Common.{◌≡◌, ◌⊎◌, ℕ, ◌+◌, ◌<◌, ◌≤◌, Bool, true, false, List, [], ◌∷◌, ◌++◌}
use Rattle.std.proofs.Common.{length, drop, Option, Some, None, Result, Ok, Err, inl, inr, refl}
use Rattle.std.proofs.Common.{sym, ◌∙◌, ap, arith}
use Rattle.std.proofs.lemmas.Bool.Decides.{nat_tests}
use Rattle.std.proofs.lemmas.List.Elements.{All-nil, All-cons}
use Rattle.pct_ask.specs.NameLists.{NameLists, AreNames, place_of}
use Rattle.pct_ask.specs.VerdictText.{verdict_text}
use Rattle.pct_ask.specs.declared.verdict.Verdict.{Verdict}
use Rattle.pct_ask.proofs.laws.Names.{place_of-Some}
use Rattle.rank_now.specs.declared.moment.Moment.{Moment}
use Rattle.directive.specs.DirectiveText.{after_line, moment_line, verdict_line}
use Rattle.directive.specs.Forms.{IsAfter, IsAfterText, IsVerdictText, HasUnknownAfter}
use Rattle.directive.specs.Forms.{HasUnknownVerdict}
use Rattle.directive.specs.Lines.{LineBytes, line_at, HasByte}
use Rattle.directive.specs.Directive.{IsMoment}
use Rattle.directive.specs.Faults.{IsBelowSecond, IsFaulty, IsFirstFault}
use Rattle.directive.specs.Reading.{Fault, Body, row_of, unended_fault, line_or_fault}
use Rattle.directive.specs.Reading.{judged_moment, with_moment, body_at_verdict, after_row, body_of}
use Rattle.directive.specs.declared.row.DirectiveRow.{DirectiveRow}
use Rattle.directive.specs.declared.row.DirectiveRow.TheVariants.{After, End}
use Rattle.directive.specs.declared.fault.DirectiveFault.{DirectiveFault}
use Rattle.directive.specs.declared.fault.DirectiveFault.TheVariants.{TooLong, BadLine, UnknownName}
use Rattle.directive.specs.declared.fault.DirectiveFault.TheVariants.{MoreAfterVerdict}
use Rattle.directive.proofs.Rows.{RowTold, row-told, Told, Told-IsVerdict, told-known, after-name}
use Rattle.directive.proofs.Rows.{after-no-verdict}
use Rattle.directive.proofs.Places.{line-here, drop-next, not-there}
use Rattle.directive.proofs.Faultless.{SoundTo, sound-next, line-later, line-past, first-eighth}
use Rattle.directive.proofs.Faultless.{first-bad-line, first-unknown, first-no-verdict, first-more}

-- ---- the lines after the second

pub record BodyIs (size : ℕ) (names : NameLists) (all : List (List ℕ)) (k : ℕ)
    (rest : List (List ℕ)) (events : List Moment) (verdict : Verdict) : Type 0 where
  pub lines : rest ≡ map (moment_line names) events ++ verdict_line (verdict_text names verdict)
      ∷ [] ∷ []
  pub sound : All (IsMoment names) events
  pub room : length events + k ≤ 10
  pub told : Told names (verdict_line (verdict_text names verdict)) verdict
  pub faultless : (line : ℕ) (kind : DirectiveFault) → ¬ IsFaulty size names all line kind

abbrev pub BodyTold : ℕ → NameLists → List (List ℕ) → ℕ → List (List ℕ) → Result Body Fault → Type 0
BodyTold size names all k rest (Ok body) = BodyIs size names all k rest body.0 body.1
BodyTold size names all k rest (Err fault) = IsFirstFault size names all fault.0 fault.1

-- a line by its text and its LF
abbrev pub made : List ℕ → Bool → LineBytes
made text whole = record { text = text; whole = whole }

module _ (size : ℕ) (names : NameLists) (valid : AreNames names) (all : List (List ℕ)) (k : ℕ)
    (sound_to : SoundTo size names all k) (below : IsBelowSecond names all k) where
  -- a line with no LF
  unended-told : (text : List ℕ) (row : Option DirectiveRow) → line_at all k ≡ made text false
      → RowTold names text row → IsFirstFault size names all k (unended_fault k row text)
  unended-told [] None here h =
      first-no-verdict size names all k sound_to below
      (rw here (λ there. elim there [
        | inl w ↦ (let bad : false ≡ true = w in cc)
        | inr s ↦ omega arith
      ]))
      (rw here h.0)
      (rw here h.1)
  unended-told (b ∷ bs) None here h =
      first-bad-line size names all k sound_to below (λ late. rw here h.0)
      (rw here (inr (omega arith))) (rw here
      (λ later. (let bad : false ≡ true = later.whole in cc)))
  unended-told text (Some (After thread number)) here h = by (nat_lt 9 k) refl
    where
      is_after : IsAfterText (line_at all k).text
      is_after = rw here (h.0, number, h.1)

      some : 0 < length text
      some = let e = ap length h.1.spelled in omega (arith, e)

      by : (late : Bool) → nat_lt 9 k ≡ late
          → IsFirstFault size names all k (if late then TooLong else BadLine)
      by true e = first-eighth size names all k sound_to below (grind (arith, nat_tests)) is_after
      by false e =
          first-bad-line size names all k sound_to below
          (λ late. absurd (let soon : k ≤ 9 = grind (arith, nat_tests) in omega arith))
          (rw here (inr some)) (rw here (λ later. (let bad : false ≡ true = later.whole in cc)))
  unended-told text (Some (End None)) here h =
      first-bad-line size names all k sound_to below
      (λ late. rw here (λ a. after-no-verdict names text a.0 a.1 h.0 a.2 h.1))
      (rw here (inr (let e = ap length h.1.spelled in omega (arith, e))))
      (rw here (λ later. (let bad : false ≡ true = later.whole in cc)))
  unended-told text (Some (End (Some verdict))) here h =
      let v = Told-IsVerdict names text verdict h in
      first-bad-line size names all k sound_to below
      (λ late. rw here (λ a. after-no-verdict names text a.0 a.1 _ a.2 v))
      (rw here (inr (let e = ap length h.spelled in omega (arith, e))))
      (rw here (λ later. (let bad : false ≡ true = later.whole in cc)))

  -- a line with its LF that is no line
  neither-told : (text : List ℕ) → line_at all k ≡ made text true → RowTold names text None
      → IsFirstFault size names all k BadLine
  neither-told text here h =
      first-bad-line size names all k sound_to below (λ late. rw here h.0) (rw here (inl refl))
      (rw here (λ later. elim later.text [ inl a ↦ h.0 a | inr v ↦ h.1 v ]))

  eighth-told : (text : List ℕ) → line_at all k ≡ made text true → IsAfterText text → 9 < k
      → IsFirstFault size names all k TooLong
  eighth-told text here is late = first-eighth size names all k sound_to below late (rw here is)

  unknown-after-told : (text : List ℕ) → line_at all k ≡ made text true → HasUnknownAfter names text
      → k ≤ 9 → IsFirstFault size names all k UnknownName
  unknown-after-told text here is soon =
      first-unknown size names all k sound_to below (λ late. absurd (omega arith))
      (rw here (record { whole = refl; text = inl (is.0, is.1, is.2) })) (inl (rw here is))

  unknown-verdict-told : (text : List ℕ) → line_at all k ≡ made text true
      → HasUnknownVerdict names text → IsFirstFault size names all k UnknownName
  unknown-verdict-told text here is =
      first-unknown size names all k sound_to below
      (λ late. rw here (λ a. after-no-verdict names text a.0 a.1 is.0 a.2 is.1))
      (rw here (record { whole = refl; text = inr (is.0, is.1) })) (inr (rw here is))

  -- a moment's line
  moment-sound : (text name : List ℕ) (number thread : ℕ) → line_at all k ≡ made text true
      → IsAfter text name number → place_of name names.threads ≡ Some thread → k ≤ 9
      → (kind : DirectiveFault) → ¬ IsFaulty size names all k kind
  moment-sound text name number thread here is found soon =
      line-later size names all k below (λ late. absurd (omega arith))
      (rw here (record { whole = refl; text = inl (name, number, is) }))
      (rw here (λ u. (let same = after-name text name u.0 number u.1 is u.2 in
      let bad : Some thread ≡ None = sym found
      ∙ (ap (λ n. place_of n names.threads) same ∙ u.3) in cc)))
      (rw here (λ u. after-no-verdict names text name number u.0 is u.1))

  moment-below : (text name : List ℕ) (number : ℕ) → line_at all k ≡ made text true
      → IsAfter text name number → IsBelowSecond names all (k + 1)
  moment-below text name number here is = record {
    later = omega (arith, below.later);
    unended = λ j three less. by j three (j-cases j less);
  }
    where
      j-cases : (j : ℕ) → j < k + 1 → (j < k) ⊎ (j ≡ k)
      j-cases j less = grind arith

      by : (j : ℕ) → 3 ≤ j → (j < k) ⊎ (j ≡ k) → ¬ IsVerdictText names (line_at all j).text
      by j three (inl less) = below.unended j three less
      by j three (inr same) =
          rw (same, here) (λ v. after-no-verdict names text name number v.0 is v.1)

  -- the verdict's line
  verdict-sound : (text : List ℕ) (verdict : Verdict) → line_at all k ≡ made text true
      → Told names text verdict → (kind : DirectiveFault) → ¬ IsFaulty size names all k kind
  verdict-sound text verdict here is =
      let v = Told-IsVerdict names text verdict is in
      line-later size names all k below
      (λ late. rw here (λ a. after-no-verdict names text a.0 a.1 _ a.2 v))
      (rw here (record { whole = refl; text = inr (_, v) }))
      (rw here (λ u. after-no-verdict names text u.0 u.1 _ u.2 v))
      (rw here (told-known names text verdict valid is))

  verdict-last : (text : List ℕ) (verdict : Verdict) (n : ℕ) → k ≡ n + 1
      → line_at all k ≡ made text true → drop (n + 1) all ≡ [] ∷ [] → Told names text verdict
      → (line : ℕ) (kind : DirectiveFault) → ¬ IsFaulty size names all line kind
  verdict-last text verdict n at here left is line kind = λ f. by (line-cases line) f
    where
      told_here : IsVerdictText names (line_at all k).text
      told_here = rw here (_, Told-IsVerdict names text verdict is)

      line-cases : (line : ℕ) → (line < k + 1) ⊎ (k < line)
      line-cases line = grind arith

      by : (line < k + 1) ⊎ (k < line) → IsFaulty size names all line kind → ⊥
      by (inl less) f =
          sound-next size names all k sound_to (verdict-sound text verdict here is) line kind less f
      by (inr past) f =
          line-past size names all k line below.later past told_here
          (not-there all (n + 1) line left (omega arith)) kind f

  verdict-more : (text : List ℕ) (verdict : Verdict) → line_at all k ≡ made text true
      → Told names text verdict → HasByte (line_at all (k + 1))
      → IsFirstFault size names all (k + 1) MoreAfterVerdict
  verdict-more text verdict here is there =
      first-more size names all k below.later
      (sound-next size names all k sound_to (verdict-sound text verdict here is))
      (rw here (_, Told-IsVerdict names text verdict is)) there

moment-told : (size : ℕ) (names : NameLists) (all : List (List ℕ)) (k : ℕ) (text : List ℕ)
    (rest : List (List ℕ)) (moment : Moment) (others : Result Body Fault)
    → text ≡ moment_line names moment → IsMoment names moment
    → BodyTold size names all (k + 1) rest others
    → BodyTold size names all k (text ∷ rest) (with_moment moment others)
moment-told size names all k text rest moment (Ok body) is known told = record {
  lines = ap (λ t. t ∷ rest) is ∙ ap (λ r. moment_line names moment ∷ r) told.lines;
  sound = All-cons (IsMoment names) moment body.0 known told.sound;
  room = omega (arith, told.room);
  told = told.told;
  faultless = told.faultless;
}
moment-told size names all k text rest moment (Err fault) is known told = told

pub body-told : (size : ℕ) (names : NameLists) → AreNames names → (all rest : List (List ℕ)) (n : ℕ)
    → drop n all ≡ rest → n ≤ 9 → SoundTo size names all (n + 1) → IsBelowSecond names all (n + 1)
    → BodyTold size names all (n + 1) rest (body_of names (n + 1) rest)
body-told size names valid all [] n left low sound_to below =
    let here = line-here all [] n left in
    first-no-verdict size names all (n + 1) sound_to below
    (rw here (λ there. elim there [
      | inl w ↦ (let bad : false ≡ true = w in cc)
      | inr s ↦ omega arith
    ]))
    (rw here (λ a. no-text a.2.spelled))
    (rw here (λ v. no-text v.1.spelled))
  where
    no-text : {b : ℕ} {bs : List ℕ} → [] ≡ b ∷ bs → ⊥
    no-text e = cc
body-told size names valid all (piece ∷ []) n left low sound_to below =
    unended-told size names valid all (n + 1) sound_to below piece (row_of names piece)
    (line-here all (piece ∷ []) n left) (row-told names piece)
body-told size names valid all (piece ∷ after ∷ pieces) n left low sound_to below =
    by (row_of names piece) (row-told names piece)
    (λ s b l. body-told size names valid all (after ∷ pieces) (n + 1)
    (drop-next all n piece (after ∷ pieces) left) l s b)
  where
    k : ℕ
    k = n + 1

    here : line_at all (n + 1) ≡ made piece true
    here = line-here all (piece ∷ after ∷ pieces) n left

    next : drop (n + 1) all ≡ after ∷ pieces
    next = drop-next all n piece (after ∷ pieces) left

    Further : Type 0
    Further = SoundTo size names all (n + 1 + 1) → IsBelowSecond names all (n + 1 + 1) → n + 1 ≤ 9
        → BodyTold size names all (n + 1 + 1) (after ∷ pieces)
        (body_of names (n + 1 + 1) (after ∷ pieces))

    there : (after : List ℕ) (pieces : List (List ℕ)) → drop (n + 1) all ≡ after ∷ pieces
        → (0 < length after) ⊎ (0 < length pieces) → HasByte (line_at all (n + 1 + 1))
    there a [] left some =
        rw (line-here all (a ∷ []) (n + 1) left)
        (inr (elim some [ inl h ↦ h | inr h ↦ absurd (omega arith) ]))
    there a (p ∷ ps) left some = rw (line-here all (a ∷ p ∷ ps) (n + 1) left) (inl refl)

    last : (verdict : Verdict) → Told names piece verdict → (a : List ℕ) (ps : List (List ℕ))
        → drop (n + 1) all ≡ a ∷ ps → BodyTold size names all (n + 1) (piece ∷ a ∷ ps)
        (body_at_verdict (n + 1 + 1) verdict a ps)
    last verdict told [] [] left = record {
      lines = ap (λ t. t ∷ [] ∷ []) told.spelled;
      sound = All-nil (IsMoment names);
      room = omega arith;
      told = record { threads = told.threads; form = told.form; spelled = refl };
      faultless =
          verdict-last size names valid all (n + 1) sound_to below piece verdict n refl here left
          told;
    }
    last verdict told [] (p ∷ ps) left =
        verdict-more size names valid all (n + 1) sound_to below piece verdict here told
        (there [] (p ∷ ps) left (inr (omega arith)))
    last verdict told (b ∷ bs) ps left =
        verdict-more size names valid all (n + 1) sound_to below piece verdict here told
        (there (b ∷ bs) ps left (inl (omega arith)))

    moment : (name : List ℕ) (number : ℕ) (thread : Option ℕ) → IsAfter piece name number
        → place_of name names.threads ≡ thread → n + 1 ≤ 9 → SoundTo size names all (n + 1)
        → Further → BodyTold size names all (n + 1) (piece ∷ after ∷ pieces)
        (after_row (n + 1) (judged_moment thread number) after pieces
        (body_of names (n + 1 + 1) (after ∷ pieces)))
    moment name number None is found soon s further =
        unknown-after-told size names valid all (n + 1) sound_to below piece here
        (name, number, is, found) soon
    moment name number (Some t) is found soon s further =
        let place = place_of-Some name names.threads t found in
        let m : Moment = record { thread = t; number = number } in
        moment-told size names all (n + 1) piece (after ∷ pieces) m
        (body_of names (n + 1 + 1) (after ∷ pieces))
        (is.spelled ∙ ap (λ w. after_line w number) (sym place.1))
        (record { thread = place.0; number = is.range })
        (further (sound-next size names all (n + 1) sound_to
        (moment-sound size names valid all (n + 1) sound_to below piece name number t here is
        found soon)) (moment-below size names valid all (n + 1) sound_to below piece name number
        here is) soon)

    after_by : (late : Bool) (thread : Option ℕ) (number : ℕ) → nat_lt 9 (n + 1) ≡ late
        → RowTold names piece (Some (After thread number)) → Further
        → BodyTold size names all (n + 1) (piece ∷ after ∷ pieces)
        (after_row (n + 1) (if late then Err TooLong else judged_moment thread number) after pieces
        (body_of names (n + 1 + 1) (after ∷ pieces)))
    after_by true thread number e h further =
        eighth-told size names valid all (n + 1) sound_to below piece here (h.0, number, h.1)
        (grind (arith, nat_tests))
    after_by false thread number e h further =
        moment h.0 number thread h.1 h.2 (grind (arith, nat_tests)) sound_to further

    by : (row : Option DirectiveRow) → RowTold names piece row → Further
        → BodyTold size names all (n + 1) (piece ∷ after ∷ pieces)
        (after_row (n + 1) (line_or_fault (n + 1) row) after pieces
        (body_of names (n + 1 + 1) (after ∷ pieces)))
    by None h further = neither-told size names valid all (n + 1) sound_to below piece here h
    by (Some (After thread number)) h further =
        after_by (nat_lt 9 (n + 1)) thread number refl h further
    by (Some (End None)) h further =
        unknown-verdict-told size names valid all (n + 1) sound_to below piece here h
    by (Some (End (Some verdict))) h further = last verdict h after pieces next
