-- The first fault of a text is what is found as it is read.
use Rattle.std.proofs.Common.{◌≡◌, ℕ, ◌+◌, ◌⊎◌, inl, inr, Bool, true, false, length, List, [], ◌∷◌}
use Rattle.std.proofs.Common.{◌++◌, map, Option, Some, None, Result, Ok, Err, refl, sym, ap, ◌∙◌}
use Rattle.std.proofs.Common.{append_assoc, arith, subst}
use Rattle.std.proofs.lemmas.List.{append-nil, map_push, length_push}
use Rattle.std.proofs.lemmas.List.Folds.{list_all-append}
use Rattle.pct_ask.specs.Tokens.{Token, tokens_of}
use Rattle.pct_ask.specs.NameLists.{place_of}
use Rattle.script_tree.specs.ScriptText.{ScriptText}
use Rattle.script_tree.specs.declared.fault.ScriptFault.{ScriptFault}
use Rattle.script_tree.specs.Forms.{MeantForm, tokens_of_form}
use Rattle.script_tree.specs.Lines.{tokens_in, is_blank_line, version_in, threads_begun}
use Rattle.script_tree.specs.Faults.{Place, are_blank, IsFaulty}
use Rattle.script_parse.specs.Part.{ReadPart}
use Rattle.script_parse.specs.Saying.{form_in}
use Rattle.script_parse.specs.Reading.{Finder, is_empty, form_fault, with_form, bytes_fault, unless}
use Rattle.script_parse.specs.Reading.{some_part, after_fault, blank_fault, header_taken}
use Rattle.script_parse.specs.Reading.{part_after_header, first_part, line_taken, tokens_taken}
use Rattle.script_parse.specs.Reading.{form_taken, then_read, script_from}
use Rattle.script_parse.proofs.FormSound.{form_says}
use Rattle.script_parse.proofs.FirstKinds.{IsFirstKind, IsFirst}
use Rattle.script_parse.proofs.Standing.{Stands, blank_stands}
use Rattle.script_parse.proofs.Agreeing.{taken_stands}
use Rattle.script_parse.proofs.LineSteps.{AfterLine, fault_of, cut_tokens, says_something}
use Rattle.script_parse.proofs.LineSteps.{below_step}
use Rattle.script_parse.proofs.Headers.{AreQuiet, quiet_blank, begun_stands, above_step}
use Rattle.script_parse.proofs.Choices.{clash}
use Rattle.script_parse.proofs.FormFaults.{no_fault_parts}

-- what was read of the lines before a line
abbrev pub StandsBefore : Option ReadPart → List (List ℕ) → Type 0
StandsBefore None before = (are_blank before ≡ true) × AreQuiet (map tokens_in before)
StandsBefore (Some part) before = (are_blank before ≡ false) × Stands part (map tokens_in before)

pub ok_is : {A E : Type 0} {x y : A} → ◌≡◌ {A = Result A E} (Ok x) (Ok y) → x ≡ y
ok_is e = cc

pub err_ok : {A E P : Type 0} {x : E} {y : A} → ◌≡◌ {A = Result A E} (Err x) (Ok y) → P
err_ok e = absurd cc

pub unless_ok : (o : Option ScriptFault) (r : AfterLine) (next : Option ReadPart)
    → unless o r ≡ Ok next
    → r ≡ Ok next
unless_ok None r next e = e
unless_ok (Some kind) r next e = err_ok e

pub wrapped_ok : (o : Option ScriptFault) (part : ReadPart) (next : Option ReadPart)
    → some_part (after_fault o part) ≡ Ok next → (o ≡ None) × (Some part ≡ next)
wrapped_ok None part next e = (refl, ok_is e)
wrapped_ok (Some kind) part next e = err_ok e

-- ---- the line that was taken stands

pub behind_tokens : (before : List (List ℕ)) (line : List ℕ) (tokens : List Token)
    → tokens_of line ≡ Some tokens → map tokens_in (before ++ line ∷ [])
    ≡ map tokens_in before ++ tokens ∷ []
behind_tokens before line tokens e =
    map_push tokens_in before line ∙ ap (λ (ts : List Token). map tokens_in before ++ ts ∷ [])
    (cut_tokens line tokens e)

still_below : (before : List (List ℕ)) (line : List ℕ) → are_blank before ≡ false
    → are_blank (before ++ line ∷ []) ≡ false
still_below before line b = list_all-append is_blank_line before (line ∷ []) ∙ rw b refl

blank_next : (part : ReadPart) (find : Finder) (n : ℕ) (last : Bool) (before : List (List ℕ))
    (line : List ℕ) (next : Option ReadPart) → StandsBefore (Some part) before
    → tokens_of line ≡ Some [] → some_part (after_fault (blank_fault part last) part) ≡ Ok next
    → StandsBefore next (before ++ line ∷ [])
blank_next part find n last before line next s e r =
    let w = wrapped_ok (blank_fault part last) part next r in
    subst (λ (p : Option ReadPart). StandsBefore p (before ++ line ∷ [])) w.1 (
      still_below before line s.0,
      subst (Stands part) (sym (behind_tokens before line [] e))
          (blank_stands part (map tokens_in before) s.1),
    )

form_next : (part : ReadPart) (find : Finder) (n : ℕ) (last : Bool) (before : List (List ℕ))
    (line : List ℕ) (next : Option ReadPart) (tokens : List Token) (found : Option MeantForm)
    → StandsBefore (Some part) before → tokens_of line ≡ Some tokens
    → form_in part.version tokens ≡ found
    → some_part (form_taken part find n last tokens found) ≡ Ok next
    → StandsBefore next (before ++ line ∷ [])
form_next part find n last before line next tokens None s e f r = err_ok r
form_next part find n last before line next tokens (Some meant) s e f r =
    let w = wrapped_ok (form_fault part find last tokens meant)
    (with_form part find n meant) next r in
    let no_fault = no_fault_parts part find last tokens meant w.0 in
    let has = form_says part.version tokens meant f in
    let stands = taken_stands part.version part find n (map tokens_in before) s.1 has.cut meant
    has.form.means has.form.of no_fault.closes in
    let behind : map tokens_in (before ++ line ∷ [])
    ≡ map tokens_in before ++ tokens_of_form has.cut ∷ [] =
    behind_tokens before line tokens e
    ∙ ap (λ (ts : List Token). map tokens_in before ++ ts ∷ []) has.form.spelled in
    subst (λ (p : Option ReadPart). StandsBefore p (before ++ line ∷ [])) w.1 (
      still_below before line s.0,
      subst (Stands (with_form part find n meant)) (sym behind)
          stands,
    )

below_next : (part : ReadPart) (find : Finder) (n : ℕ) (last : Bool) (before : List (List ℕ))
    (line : List ℕ) (next : Option ReadPart) (found : Option (List Token))
    → StandsBefore (Some part) before → tokens_of line ≡ found
    → some_part (tokens_taken part find n last found) ≡ Ok next
    → StandsBefore next (before ++ line ∷ [])
below_next part find n last before line next None s e r = err_ok r
below_next part find n last before line next (Some []) s e r =
    blank_next part find n last before line next s e r
below_next part find n last before line next (Some (token ∷ tokens)) s e r =
    form_next part find n last before line next (token ∷ tokens)
    (form_in part.version (token ∷ tokens)) s e refl r

begun_next : (before : List (List ℕ)) (line : List ℕ) (last : Bool) (next : Option ReadPart)
    (token : Token) (tokens : List Token) (version : Option ℕ) → StandsBefore None before
    → tokens_of line ≡ Some (token ∷ tokens) → version_in (token ∷ tokens) ≡ version
    → some_part (part_after_header last version) ≡ Ok next → StandsBefore next (before ++ line ∷ [])
begun_next before line last next token tokens None s e v r = err_ok r
begun_next before line true next token tokens (Some version) s e v r = err_ok r
begun_next before line false next token tokens (Some version) s e v r =
    subst (λ (p : Option ReadPart). StandsBefore p (before ++ line ∷ [])) (ok_is r) (
      list_all-append is_blank_line before (line ∷ [])
          ∙ rw (s.0, says_something line token tokens e) refl,
      subst (Stands (first_part version)) (sym (behind_tokens before line (token ∷ tokens) e))
          (begun_stands (map tokens_in before) (token ∷ tokens) version v s.1),
    )

above_next : (before : List (List ℕ)) (line : List ℕ) (last : Bool) (next : Option ReadPart)
    (found : Option (List Token)) → StandsBefore None before → tokens_of line ≡ found
    → header_taken last found ≡ Ok next → StandsBefore next (before ++ line ∷ [])
above_next before line last next None s e r = err_ok r
above_next before line last next (Some []) s e r =
    let blank : is_blank_line line ≡ true = rw e refl in
    subst (λ (p : Option ReadPart). StandsBefore p (before ++ line ∷ [])) (ok_is r) (
      list_all-append is_blank_line before (line ∷ []) ∙ rw (s.0, blank) refl,
      subst AreQuiet (sym (behind_tokens before line [] e))
          (quiet_blank (map tokens_in before) s.1),
    )
above_next before line last next (Some (token ∷ tokens)) s e r =
    begun_next before line last next token tokens (version_in (token ∷ tokens)) s e refl r

pub line_next : (state : Option ReadPart) (find : Finder) (n : ℕ) (last : Bool)
    (before : List (List ℕ))
    (line : List ℕ) (next : Option ReadPart) → StandsBefore state before
    → line_taken state find n last line ≡ Ok next → StandsBefore next (before ++ line ∷ [])
line_next None find n last before line next s r =
    above_next before line last next (tokens_of line) s refl
    (unless_ok (bytes_fault n line) _ next r)
line_next (Some part) find n last before line next s r =
    below_next part find n last before line next (tokens_of line) s refl
    (unless_ok (bytes_fault n line) _ next r)

-- ---- the line's first fault

abbrev pub finder_of : List (List ℕ) → Finder
finder_of lines name = place_of name (threads_begun lines)

abbrev pub at_place : List (List ℕ) → List ℕ → List (List ℕ) → Place
at_place before line after = record { before = before; line = line; after = after }

line_first : (state : Option ReadPart) (before : List (List ℕ)) (line : List ℕ)
    (after : List (List ℕ))
    → StandsBefore state before → are_blank (before ++ line ∷ after) ≡ false
    → IsFirst (fault_of (line_taken state (finder_of (before ++ line ∷ after))
    (length before + 1) (is_empty after) line)) (at_place before line after)
line_first None before line after s says =
    above_step (finder_of (before ++ line ∷ after)) (at_place before line after) s.1 s.0 says
line_first (Some part) before line after s says =
    below_step part (at_place before line after) s.1 s.0

-- ---- all lines

pub no_end : {A : Type 0} (front back : List A) (x : A) {P : Type 0} → front ++ x ∷ back ≡ [] → P
no_end [] back x e = absurd cc
no_end (f ∷ fs) back x e = absurd cc

-- an item of a list with one more at its end is that one, or stands in the list
split_push : {A : Type 0} (front back xs : List A) (l x : A) → front ++ l ∷ back ≡ xs ++ x ∷ []
    → ((front ≡ xs) × (l ≡ x) × (back ≡ []))
    ⊎ ((less : List A) × (back ≡ less ++ x ∷ []) × (xs ≡ front ++ l ∷ less))
split_push [] back [] l x e = inl (refl, cc, cc)
split_push [] back (y ∷ ys) l x e = inr (ys, cc, cc)
split_push (f ∷ fs) back [] l x e = let tail : fs ++ l ∷ back ≡ [] = cc in no_end fs back l tail
split_push (f ∷ fs) back (y ∷ ys) l x e =
    let head : f ≡ y = cc in
    let tail : fs ++ l ∷ back ≡ ys ++ x ∷ [] = cc in
    elim (split_push fs back ys l x tail) [
      | inl h ↦ inl (cons_same f y fs ys head h.0, h.1, h.2)
      | inr h ↦ inr (h.0, h.1, cons_same y f ys (fs ++ l ∷ h.0) (sym head) h.2)
    ]
  where
    cons_same : {A : Type 0} (a b : A) (us vs : List A) → a ≡ b → us ≡ vs
        → ◌≡◌ {A = List A} (a ∷ us) (b ∷ vs)
    cons_same a b us vs p q = cc

-- none of the lines before has a fault
abbrev pub NoneBefore : List (List ℕ) → List (List ℕ) → Type 0
NoneBefore before rest = (front back : List (List ℕ)) (line : List ℕ)
    → before ≡ front ++ line ∷ back → (kind : ScriptFault)
    → ¬ IsFaulty kind (at_place front line (back ++ rest))

none_push : (before rest : List (List ℕ)) (line : List ℕ) → NoneBefore before (line ∷ rest)
    → ((kind : ScriptFault) → ¬ IsFaulty kind (at_place before line rest))
    → NoneBefore (before ++ line ∷ []) rest
none_push before rest line none here front back other e kind f =
    elim (split_push front back before other line (sym e)) [
      | inl h ↦ here kind (moved front before other line back h.0 h.1 h.2 f)
      | inr h ↦ none front h.0 other h.2 kind
          (subst (λ (more : List (List ℕ)). IsFaulty kind (at_place front other more))
          (ap (λ (b : List (List ℕ)). b ++ rest) h.1 ∙ append_assoc h.0 (line ∷ []) rest) f)
    ]
  where
    moved : (front before : List (List ℕ)) (other line : List ℕ) (back : List (List ℕ))
        → front ≡ before → other ≡ line → back ≡ []
        → IsFaulty kind (at_place front other (back ++ rest))
        → IsFaulty kind (at_place before line rest)
    moved front before other line back p q r f =
        subst (λ (b : List (List ℕ)). IsFaulty kind (at_place b line rest)) p
        (subst (λ (l : List ℕ). IsFaulty kind (at_place front l rest)) q
        (subst (λ (b : List (List ℕ)). IsFaulty kind (at_place front other (b ++ rest))) r f))

-- no line before it is faulty
abbrev pub HasNoFaultBefore : Place → Type 0
HasNoFaultBefore place =
    (front back : List (List ℕ)) (line : List ℕ) (kind : ScriptFault)
    → place.before ≡ front ++ line ∷ back
    → ¬ IsFaulty kind (at_place front line (back ++ place.line ∷ place.after))

-- what the reading of lines from one on tells
abbrev pub Found : Type 0
Found = Result ScriptText (ℕ × ScriptFault)

abbrev pub TellsFault : Found → List (List ℕ) → Type 0
TellsFault (Ok script) lines = (before after : List (List ℕ)) (line : List ℕ)
    → lines ≡ before ++ line ∷ after → (kind : ScriptFault)
    → ¬ IsFaulty kind (at_place before line after)
TellsFault (Err found) lines =
    (place : Place) × (lines ≡ place.before ++ place.line ∷ place.after)
    × (found.0 ≡ length place.before + 1) × HasNoFaultBefore place × IsFirstKind place found.1

step_tells : (lines before rest : List (List ℕ)) (line : List ℕ) (result : AfterLine)
    (more : Option ReadPart → Found) → lines ≡ before ++ line ∷ rest
    → NoneBefore before (line ∷ rest)
    → IsFirst (fault_of result) (at_place before line rest)
    → ((next : Option ReadPart) → result ≡ Ok next → NoneBefore (before ++ line ∷ []) rest
    → TellsFault (more next) lines) → TellsFault (then_read (length before + 1) result more)
    lines
step_tells lines before rest line (Err kind) more e none first on = (
  at_place before line rest,
  e,
  refl,
  λ front back other k split f. none front back other split k f,
  first,
)
step_tells lines before rest line (Ok next) more e none first on =
    on next refl (none_push before rest line none first)

pub all_tell : (rest : List (List ℕ)) (lines before : List (List ℕ)) (state : Option ReadPart)
    (n : ℕ)
    → n ≡ length before + 1 → lines ≡ before ++ rest → are_blank lines ≡ false
    → StandsBefore state before → NoneBefore before rest
    → TellsFault (script_from (finder_of lines) state n rest) lines
all_tell [] lines before None n count e says s none =
    clash (sym (subst (λ (ls : List (List ℕ)). are_blank ls ≡ true) (sym (e ∙ append-nil before))
    s.0) ∙ says)
all_tell [] lines before (Some part) n count e says s none =
    λ front back line split kind f. none front back line (sym (append-nil before) ∙ sym e ∙ split)
    kind (subst (λ (b : List (List ℕ)). IsFaulty kind (at_place front line b))
    (sym (append-nil back)) f)
all_tell (line ∷ rest) lines before state n count e says s none =
    let first : IsFirst (fault_of (line_taken state (finder_of lines) n (is_empty rest) line))
    (at_place before line rest) =
    subst (λ (m : ℕ). IsFirst (fault_of (line_taken state (finder_of lines) m (is_empty rest) line))
    (at_place before line rest)) (sym count)
    (subst (λ (ls : List (List ℕ)). IsFirst
    (fault_of (line_taken state (finder_of ls) (length before + 1) (is_empty rest) line))
    (at_place before line rest)) (sym e)
    (line_first state before line rest s
    (subst (λ (ls : List (List ℕ)). are_blank ls ≡ false) e says))) in
    subst (λ (m : ℕ). TellsFault (then_read m
    (line_taken state (finder_of lines) n (is_empty rest) line)
    (λ next. script_from (finder_of lines) next (n + 1) rest)) lines) (sym count)
    (step_tells lines before rest line (line_taken state (finder_of lines) n (is_empty rest) line)
    (λ next. script_from (finder_of lines) next (n + 1) rest) e none first
    (λ next r more. all_tell rest lines (before ++ line ∷ []) next (n + 1)
    (omega (arith, count, length_push before line))
    (e ∙ sym (append_assoc before (line ∷ []) rest)) says
    (line_next state (finder_of lines) n (is_empty rest) before line next s r) more))

pub none_at_first : (lines : List (List ℕ)) → NoneBefore [] lines
none_at_first lines front back line e kind f = no_end front back line (sym e)
