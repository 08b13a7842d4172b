-- A verdict's text is read as the verdict, and nothing else is.
use Rattle.std.specs.Prelude.{map}
use Rattle.std.specs.List.{All, Any}
use Rattle.std.proofs.Common.{◌≡◌, ℕ, ◌<◌, Bool, true, false, List, [], ◌∷◌, length, get_or, zero}
use Rattle.std.proofs.Common.{suc, Option, Some, None, refl, sym, ◌∙◌, ap, arith}
use Rattle.std.proofs.lemmas.List.Elements.{All-nil, All-cons, All-head, All-tail}
use Rattle.std.proofs.lemmas.List.{length-map}
use Rattle.pct_ask.specs.NameLists.{NameLists, AreNames, place_of}
use Rattle.pct_ask.specs.VerdictText.{NamedVerdict, NamedPassed, NamedFailed, NamedStuck}
use Rattle.pct_ask.specs.VerdictText.{NamedMisuse, NamedFault, NamedCut}
use Rattle.pct_ask.specs.VerdictText.{verdict_words, named_text, named_verdict}
use Rattle.pct_ask.specs.VerdictText.{thread_name, IsPlace, IsVerdictForm, IsWholeVerdict}
use Rattle.pct_ask.specs.VerdictText.{known_threads, IsNobody, HasUnknownThread, HasNames, IsLine}
use Rattle.pct_ask.specs.VerdictText.{verdict_text}
use Rattle.pct_ask.specs.VerdictPieces.{HasName, Rises}
use Rattle.pct_ask.specs.VerdictRead.{ReadsAs}
use Rattle.pct_ask.specs.VerdictWords.{words_of}
use Rattle.pct_ask.specs.VerdictWords.{verdict_at, placed_read}
use Rattle.pct_ask.specs.VerdictWords.{stuck_read, verdict_of_words}
use Rattle.pct_ask.specs.declared.verdict.Verdict.{Verdict}
use Rattle.pct_ask.specs.declared.verdict.Verdict.TheVariants.{Passed, Failed, Stuck, Misuse, Fault}
use Rattle.pct_ask.specs.declared.verdict.Verdict.TheVariants.{Cut}
use Rattle.pct_ask.specs.declared.verdict_text.VerdictRead.{VerdictRead}
use Rattle.pct_ask.specs.declared.verdict_text.VerdictRead.TheVariants.{Is, NoForm, UnknownName}
use Rattle.pct_ask.specs.declared.verdict_words.PlacedKind.{PlacedKind}
use Rattle.pct_ask.specs.declared.verdict_words.PlacedKind.TheVariants.{Failure, Misused, Faulted}
use Rattle.pct_ask.proofs.laws.Names.{place_of-Some, place_of-thread, thread-lawful}
use Rattle.pct_ask.proofs.laws.SplitWords.{joined-words}
use Rattle.pct_ask.proofs.laws.RisingPlaces.{RiseFrom-increasing, named_place}
use Rattle.pct_ask.proofs.StuckLemmas.{stuck_places-rising}
use Rattle.pct_ask.proofs.StuckLemmas.{known_places, any_unknown, known-named, named-known}
use Rattle.pct_ask.proofs.StuckLemmas.{unknown-any, any-unknown}
use Rattle.pct_ask.proofs.laws.VerdictForms.{words_of-named, outcome, form-read, shown}

-- ---- which verdict it is

placed-some : (kind : PlacedKind) (thread : Option ℕ) (line : ℕ)
    → placed_read (Some kind) thread line ≡ NoForm → ⊥
placed-some kind None line h = cc
placed-some kind (Some t) line h = cc

stuck-some : (unknown : Bool) (blocked : List (ℕ × ℕ)) → stuck_read unknown blocked ≡ NoForm → ⊥
stuck-some true blocked h = cc
stuck-some false blocked h = cc

outcome-stuck : (names : NameLists) (places : List (List ℕ × ℕ))
    → IsVerdictForm names (NamedStuck places)
    → outcome names (NamedStuck places)
    ≡ stuck_read (any_unknown names places) (known_places names places)
outcome-stuck names places form =
    stuck_places-rising names 0 [] false places
    (RiseFrom-increasing (known_threads names places) form.2)

form-some : (names : NameLists) (verdict : NamedVerdict) → IsVerdictForm names verdict
    → outcome names verdict ≡ NoForm → ⊥
form-some names NamedPassed form h = cc
form-some names (NamedFailed name line) form h =
    placed-some Failure (place_of name names.threads) line h
form-some names (NamedStuck places) form h =
    stuck-some (any_unknown names places) (known_places names places)
    (sym (outcome-stuck names places form) ∙ h)
form-some names (NamedMisuse name line kind) form h =
    placed-some (Misused kind) (place_of name names.threads) line h
form-some names (NamedFault name line kind) form h =
    placed-some (Faulted kind) (place_of name names.threads) line h
form-some names NamedCut form h = cc

abbrev named_at : PlacedKind → List ℕ → ℕ → NamedVerdict
named_at Failure name line = NamedFailed name line
named_at (Misused kind) name line = NamedMisuse name line kind
named_at (Faulted kind) name line = NamedFault name line kind

named-verdict_at : (names : NameLists) (kind : PlacedKind) (thread line : ℕ)
    → thread < length names.threads → (named_verdict names (verdict_at kind thread line)
    ≡ named_at kind (thread_name names thread) line) × HasNames names (verdict_at kind thread line)
named-verdict_at names Failure thread line h =
    (refl, All-cons (HasName names) thread [] h (All-nil (HasName names)))
named-verdict_at names (Misused kind) thread line h =
    (refl, All-cons (HasName names) thread [] h (All-nil (HasName names)))
named-verdict_at names (Faulted kind) thread line h =
    (refl, All-cons (HasName names) thread [] h (All-nil (HasName names)))

is-placed : (names : NameLists) (kind : PlacedKind) (name : List ℕ) (line : ℕ) (thread : Option ℕ)
    (verdict : Verdict) → place_of name names.threads ≡ thread
    → placed_read (Some kind) thread line ≡ Is verdict
    → (named_verdict names verdict ≡ named_at kind name line) × HasNames names verdict
is-placed names kind name line None verdict at h = cc
is-placed names kind name line (Some t) verdict at h =
    let same : verdict_at kind t line ≡ verdict = cc in
    let found = place_of-Some name names.threads t at in
    let there = named-verdict_at names kind t line found.0 in
    rw (← same) (there.0 ∙ ap (λ n. named_at kind n line) found.1, there.1)

is-stuck : (names : NameLists) (places : List (List ℕ × ℕ)) (unknown : Bool) (verdict : Verdict)
    → any_unknown names places ≡ unknown
    → stuck_read unknown (known_places names places) ≡ Is verdict
    → (named_verdict names verdict ≡ NamedStuck places) × HasNames names verdict
is-stuck names places true verdict at h = cc
is-stuck names places false verdict at h =
    let same : Stuck (known_places names places) ≡ verdict = cc in
    let there = named-known names places at in
    rw (← same) (ap (λ ps. NamedStuck ps) there.0, there.1)

is-outcome : (names : NameLists) (form : NamedVerdict) (verdict : Verdict)
    → IsVerdictForm names form → outcome names form ≡ Is verdict
    → (named_verdict names verdict ≡ form) × HasNames names verdict
is-outcome names NamedPassed verdict lawful h = let same : Passed ≡ verdict = cc in
    rw (← same) (refl, All-nil (HasName names))
is-outcome names (NamedFailed name line) verdict lawful h =
    is-placed names Failure name line (place_of name names.threads) verdict refl h
is-outcome names (NamedStuck places) verdict lawful h =
    is-stuck names places (any_unknown names places) verdict refl
    (sym (outcome-stuck names places lawful) ∙ h)
is-outcome names (NamedMisuse name line kind) verdict lawful h =
    is-placed names (Misused kind) name line (place_of name names.threads) verdict refl h
is-outcome names (NamedFault name line kind) verdict lawful h =
    is-placed names (Faulted kind) name line (place_of name names.threads) verdict refl h
is-outcome names NamedCut verdict lawful h = let same : Cut ≡ verdict = cc in
    rw (← same) (refl, All-nil (HasName names))

unknown-placed : (names : NameLists) (kind : PlacedKind) (name : List ℕ) (line : ℕ)
    (thread : Option ℕ) → place_of name names.threads ≡ thread
    → placed_read (Some kind) thread line ≡ UnknownName → Any (IsNobody names) (name ∷ [])
unknown-placed names kind name line None at h = (0, name, omega arith, refl, at)
unknown-placed names kind name line (Some t) at h = cc

unknown-stuck : (names : NameLists) (places : List (List ℕ × ℕ)) (unknown : Bool)
    → any_unknown names places ≡ unknown
    → stuck_read unknown (known_places names places) ≡ UnknownName
    → Any (IsNobody names) (map (λ (p : List ℕ × ℕ). p.0) places)
unknown-stuck names places true at h = unknown-any names places at
unknown-stuck names places false at h = cc

unknown-outcome : (names : NameLists) (form : NamedVerdict) → IsVerdictForm names form
    → outcome names form ≡ UnknownName → HasUnknownThread names form
unknown-outcome names NamedPassed lawful h = cc
unknown-outcome names (NamedFailed name line) lawful h =
    unknown-placed names Failure name line (place_of name names.threads) refl h
unknown-outcome names (NamedStuck places) lawful h =
    unknown-stuck names places (any_unknown names places) refl
    (sym (outcome-stuck names places lawful) ∙ h)
unknown-outcome names (NamedMisuse name line kind) lawful h =
    unknown-placed names (Misused kind) name line (place_of name names.threads) refl h
unknown-outcome names (NamedFault name line kind) lawful h =
    unknown-placed names (Faulted kind) name line (place_of name names.threads) refl h
unknown-outcome names NamedCut lawful h = cc

placed-unknown : (names : NameLists) (kind : PlacedKind) (name : List ℕ) (line k : ℕ)
    (other : List ℕ) → k < 1 → get_or (name ∷ []) k other ≡ other → IsNobody names other
    → placed_read (Some kind) (place_of name names.threads) line ≡ UnknownName
placed-unknown names kind name line zero other h at none =
    let here : place_of name names.threads ≡ None = ap (λ n. place_of n names.threads) at ∙ none in
    rw here
placed-unknown names kind name line (suc k) other h at none = absurd (omega arith)

outcome-unknown : (names : NameLists) (form : NamedVerdict) → IsVerdictForm names form
    → HasUnknownThread names form → outcome names form ≡ UnknownName
outcome-unknown names NamedPassed lawful u = let h = u.2 in absurd (omega arith)
outcome-unknown names (NamedFailed name line) lawful u =
    placed-unknown names Failure name line u.0 u.1 u.2 u.3 u.4
outcome-unknown names (NamedStuck places) lawful u =
    let some = any-unknown names places u.0 u.1 u.2 u.3 u.4 in
    outcome-stuck names places lawful ∙ ap (λ b. stuck_read b (known_places names places)) some
outcome-unknown names (NamedMisuse name line kind) lawful u =
    placed-unknown names (Misused kind) name line u.0 u.1 u.2 u.3 u.4
outcome-unknown names (NamedFault name line kind) lawful u =
    placed-unknown names (Faulted kind) name line u.0 u.1 u.2 u.3 u.4
outcome-unknown names NamedCut lawful u = let h = u.2 in absurd (omega arith)

outcome-is : (names : NameLists) (verdict : Verdict) → AreNames names → HasNames names verdict
    → IsVerdictForm names (named_verdict names verdict)
    → outcome names (named_verdict names verdict) ≡ Is verdict
outcome-is names Passed sound has form = refl
outcome-is names (Failed thread line) sound has form =
    let at = place_of-thread names thread sound (All-head (HasName names) thread [] has) in rw at
outcome-is names (Stuck places) sound has form =
    let known = known-named names places sound has in
    outcome-stuck names (map (named_place names) places) form
    ∙ ap (λ b. stuck_read b (known_places names (map (named_place names) places))) known.1
    ∙ ap (λ ps. Is (Stuck ps)) known.0
outcome-is names (Misuse thread line kind) sound has form =
    let at = place_of-thread names thread sound (All-head (HasName names) thread [] has) in rw at
outcome-is names (Fault thread line kind) sound has form =
    let at = place_of-thread names thread sound (All-head (HasName names) thread [] has) in rw at
outcome-is names Cut sound has form = refl

-- ---- the theorem

text-read : (names : NameLists) (text : List ℕ) (form : NamedVerdict) → IsVerdictForm names form
    → text ≡ named_text form → verdict_of_words names (words_of text) ≡ outcome names form
text-read names text form lawful is =
    ap (verdict_of_words names) (ap words_of is ∙ words_of-named names form lawful)
    ∙ form-read names form lawful

is-form : (verdict : Verdict) → Is verdict ≡ NoForm → ⊥
is-form verdict h = cc

unknown-form : UnknownName ≡ NoForm → ⊥
unknown-form h = cc

reads-by : (names : NameLists) (text : List ℕ) (read : VerdictRead)
    → verdict_of_words names (words_of text) ≡ read → ReadsAs names text read
reads-by names text (Is verdict) e =
    let s = shown names (words_of text) (Is verdict) (is-form verdict) e in
    let is = is-outcome names s.verdict verdict s.form s.same in (
      is.1,
      rw is.0 s.form,
      joined-words text (verdict_words s.verdict) s.spelled
          ∙ ap named_text (sym is.0),
    )
reads-by names text UnknownName e =
    let s = shown names (words_of text) UnknownName unknown-form e in (
      s.verdict,
      s.form,
      unknown-outcome names s.verdict s.form s.same,
      joined-words text (verdict_words s.verdict) s.spelled,
    )
reads-by names text NoForm e =
    λ form lawful is. form-some names form lawful (sym (text-read names text form lawful is) ∙ e)

-- what the words are read as is what the text is read as
pub ReadsAs-words : (names : NameLists) (text : List ℕ)
    → ReadsAs names text (verdict_of_words names (words_of text))
ReadsAs-words names text = reads-by names text (verdict_of_words names (words_of text)) refl

none-by : (names : NameLists) (text : List ℕ) (read : VerdictRead)
    → verdict_of_words names (words_of text) ≡ read → ReadsAs names text NoForm → read ≡ NoForm
none-by names text NoForm e none = refl
none-by names text (Is verdict) e none =
    let s = shown names (words_of text) (Is verdict) (is-form verdict) e in
    absurd (none s.verdict s.form (joined-words text (verdict_words s.verdict) s.spelled))
none-by names text UnknownName e none =
    let s = shown names (words_of text) UnknownName unknown-form e in
    absurd (none s.verdict s.form (joined-words text (verdict_words s.verdict) s.spelled))

-- and nothing else is
pub ReadsAs-only : (names : NameLists) (text : List ℕ) (other : VerdictRead) → AreNames names
    → ReadsAs names text other → verdict_of_words names (words_of text) ≡ other
ReadsAs-only names text (Is verdict) sound h =
    text-read names text
    (named_verdict names verdict) h.1 h.2 ∙ outcome-is names verdict sound h.0 h.1
ReadsAs-only names text UnknownName sound h =
    text-read names text h.0 h.1 h.3 ∙ outcome-unknown names h.0 h.1 h.2
ReadsAs-only names text NoForm sound h =
    none-by names text (verdict_of_words names (words_of text)) refl h

-- ---- what is written is read back

named-places : (names : NameLists) (places : List (ℕ × ℕ)) → AreNames names
    → All (HasName names) (map (λ (p : ℕ × ℕ). p.0) places) → All (λ (p : ℕ × ℕ). IsLine p.1) places
    → All IsPlace (map (named_place names) places)
named-places names [] sound has lines = All-nil IsPlace
named-places names (p ∷ ps) sound has lines =
    let here = All-head (HasName names) p.0 (map (λ (q : ℕ × ℕ). q.0) ps) has in
    All-cons IsPlace (named_place names p) (map (named_place names) ps)
    (thread-lawful names p.0 sound here, All-head (λ (q : ℕ × ℕ). IsLine q.1) p ps lines)
    (named-places names ps sound (All-tail (HasName names) p.0 (map (λ (q : ℕ × ℕ). q.0) ps)
    has) (All-tail (λ (q : ℕ × ℕ). IsLine q.1) p ps lines))

threads-known : (names : NameLists) (places : List (ℕ × ℕ)) → AreNames names
    → All (HasName names) (map (λ (p : ℕ × ℕ). p.0) places)
    → known_threads names (map (named_place names) places) ≡ map (λ (p : ℕ × ℕ). p.0) places
threads-known names [] sound has = refl
threads-known names (p ∷ ps) sound has =
    let at = place_of-thread names p.0 sound
    (All-head (HasName names) p.0 (map (λ (q : ℕ × ℕ). q.0) ps) has) in
    rw at (ap (λ ts. p.0 ∷ ts) (threads-known names ps sound
    (All-tail (HasName names) p.0 (map (λ (q : ℕ × ℕ). q.0) ps) has)))

place-form : (names : NameLists) (thread line : ℕ) → AreNames names
    → All (HasName names) (thread ∷ []) → IsLine line → IsPlace (thread_name names thread, line)
place-form names thread line sound has lines =
    (thread-lawful names thread sound (All-head (HasName names) thread [] has), lines)

named-form : (names : NameLists) (verdict : Verdict) → AreNames names → HasNames names verdict
    → IsWholeVerdict verdict → Rises verdict → IsVerdictForm names (named_verdict names verdict)
named-form names Passed sound has whole rises = tt
named-form names (Failed thread line) sound has whole rises =
    place-form names thread line sound has whole
named-form names (Stuck places) sound has whole rises =
    let some : 0 < length (map (named_place names) places) = rw length-map whole.0 in (
      some,
      named-places names places sound has whole.1,
      let same = threads-known names places sound has in rw same rises.rising,
    )
named-form names (Misuse thread line kind) sound has whole rises =
    place-form names thread line sound has whole
named-form names (Fault thread line kind) sound has whole rises =
    place-form names thread line sound has whole
named-form names Cut sound has whole rises = tt

-- what is written of a verdict is read as it
pub ReadsAs-written : (names : NameLists) (verdict : Verdict) → AreNames names
    → HasNames names verdict → IsWholeVerdict verdict → Rises verdict
    → ReadsAs names (verdict_text names verdict) (Is verdict)
ReadsAs-written names verdict sound has whole rises =
    (has, named-form names verdict sound has whole rises, refl)

lines-named : (names : NameLists) (places : List (ℕ × ℕ))
    → All IsPlace (map (named_place names) places) → All (λ (p : ℕ × ℕ). IsLine p.1) places
lines-named names [] all = All-nil (λ (p : ℕ × ℕ). IsLine p.1)
lines-named names (p ∷ ps) all =
    let here : IsPlace (named_place names p) =
    All-head IsPlace (named_place names p) (map (named_place names) ps) all in
    All-cons (λ (q : ℕ × ℕ). IsLine q.1) p ps here.1
    (lines-named names ps (All-tail IsPlace (named_place names p) (map (named_place names) ps)
    all))

form-whole : (names : NameLists) (verdict : Verdict)
    → IsVerdictForm names (named_verdict names verdict) → IsWholeVerdict verdict
form-whole names Passed form = tt
form-whole names (Failed thread line) form = form.1
form-whole names (Stuck places) form =
    let some : 0 < length places = rw length-map at form.0 in
    (some, lines-named names places form.1)
form-whole names (Misuse thread line kind) form = form.1
form-whole names (Fault thread line kind) form = form.1
form-whole names Cut form = tt

-- a verdict that was read can be written
pub read-written : (names : NameLists) (text : List ℕ) (read : VerdictRead) (verdict : Verdict)
    → ReadsAs names text read → read ≡ Is verdict → HasNames names verdict × IsWholeVerdict verdict
read-written names text read verdict reads is =
    let as_verdict : ReadsAs names text (Is verdict) = rw is at reads in
    (as_verdict.0, form-whole names verdict as_verdict.1)
