-- Each line's step finds its first fault, or stands for the line.
use Rattle.std.proofs.Common.{◌≡◌, ℕ, ◌+◌, inl, inr, Bool, true, false, cond, length, List, [], ◌∷◌}
use Rattle.std.proofs.Common.{Option, Some, None, Result, Ok, Err, refl, sym, ap, ◌∙◌, arith, subst}
use Rattle.std.specs.Prelude.{nat_le, nat_lt, not, ◌&&◌}
use Rattle.std.specs.Str.{is_utf8}
use Rattle.std.proofs.lemmas.List.{append-nil}
use Rattle.std.proofs.lemmas.Bool.Decides.{nat_tests}
use Rattle.std.proofs.lemmas.Bool.{leb-true, le-leb, ltb-true, lt-ltb}
use Rattle.pct_ask.specs.Tokens.{Token, tokens_of}
use Rattle.script_tree.specs.declared.fault.ScriptFault.{ScriptFault}
use Rattle.script_tree.specs.declared.fault.ScriptFault.TheVariants as fault
use Rattle.script_tree.specs.Forms.{TokenForm, MeantForm, IsForm}
use Rattle.script_tree.specs.Lines.{tokens_in, is_blank_line, version_of}
use Rattle.script_tree.specs.Faults as faults
use Rattle.script_tree.specs.Ranges as ranges
use Rattle.script_tree.specs.Faults.{Place, tokens_before, are_blank, IsBelowHeader, HasForm}
use Rattle.script_tree.specs.Faults.{HasFormWith}
use Rattle.script_tree.specs.Faults.{IsFaulty}
use Rattle.script_parse.specs.Part.{ReadPart}
use Rattle.script_parse.specs.Saying.{form_in}
use Rattle.script_parse.specs.Reading.{is_empty, so_far_in, bytes_fault, unless, some_part}
use Rattle.script_parse.specs.Reading.{after_fault, line_taken}
use Rattle.script_parse.proofs.Choices.{some, clash}
use Rattle.script_parse.proofs.FormWhole.{form_read}
use Rattle.script_parse.proofs.FormSound.{form_says}
use Rattle.script_parse.proofs.FirstKinds.{Tells, first_in, in_order, IsFirst, is_first}
use Rattle.script_parse.proofs.Standing.{Stands}
use Rattle.script_parse.proofs.Agreeing.{found}
use Rattle.script_parse.proofs.LineFaults.{tells_statement, tells_unknown, tells_twice, tells_range}
use Rattle.script_parse.proofs.LineFaults.{tells_stray, tells_many, tells_end, tells_thread}
use Rattle.script_parse.proofs.LineFaults.{tells_end_any, tells_thread_any}

abbrev pub AfterLine : Type 0
AfterLine = Result (Option ReadPart) ScriptFault

abbrev pub fault_of : AfterLine → Option ScriptFault
fault_of (Ok next) = None
fault_of (Err kind) = Some kind

-- a test for each kind
abbrev pub tests : Bool → Bool → Bool → Bool → Bool → Bool → Bool → Bool → Bool → Bool → Bool → Bool
    → Bool → ScriptFault → Bool
tests u l t h k s un tw ra ne st nt tm fault.NotUtf8 = u
tests u l t h k s un tw ra ne st nt tm fault.LineTooLong = l
tests u l t h k s un tw ra ne st nt tm fault.TooManyLines = t
tests u l t h k s un tw ra ne st nt tm fault.BadHeader = h
tests u l t h k s un tw ra ne st nt tm fault.BadToken = k
tests u l t h k s un tw ra ne st nt tm fault.BadStatement = s
tests u l t h k s un tw ra ne st nt tm fault.UnknownName = un
tests u l t h k s un tw ra ne st nt tm fault.TwiceNamed = tw
tests u l t h k s un tw ra ne st nt tm fault.NumberRange = ra
tests u l t h k s un tw ra ne st nt tm fault.NoEnd = ne
tests u l t h k s un tw ra ne st nt tm fault.StrayEnd = st
tests u l t h k s un tw ra ne st nt tm fault.NoThread = nt
tests u l t h k s un tw ra ne st nt tm fault.TooMany = tm

-- what the tests tell
pub record AllTell (place : Place) (u l t h k s un tw ra ne st nt tm : Bool) : Type 0 where
  pub utf : Tells u (faults.NotUtf8 place)
  pub long : Tells l (faults.LineTooLong place)
  pub lines : Tells t (faults.TooManyLines place)
  pub header : Tells h (faults.BadHeader place)
  pub token : Tells k (faults.BadToken place)
  pub statement : Tells s (faults.BadStatement place)
  pub unknown : Tells un (faults.UnknownName place)
  pub twice : Tells tw (faults.TwiceNamed place)
  pub range : Tells ra (faults.NumberRange place)
  pub no_end : Tells ne (faults.NoEnd place)
  pub stray : Tells st (faults.StrayEnd place)
  pub no_thread : Tells nt (faults.NoThread place)
  pub many : Tells tm (faults.TooMany place)

told : (place : Place) (u l t h k s un tw ra ne st nt tm : Bool)
    → AllTell place u l t h k s un tw ra ne st nt tm → (kind : ScriptFault)
    → Tells (tests u l t h k s un tw ra ne st nt tm kind) (IsFaulty kind place)
told place u l t h k s un tw ra ne st nt tm a fault.NotUtf8 = a.utf
told place u l t h k s un tw ra ne st nt tm a fault.LineTooLong = a.long
told place u l t h k s un tw ra ne st nt tm a fault.TooManyLines = a.lines
told place u l t h k s un tw ra ne st nt tm a fault.BadHeader = a.header
told place u l t h k s un tw ra ne st nt tm a fault.BadToken = a.token
told place u l t h k s un tw ra ne st nt tm a fault.BadStatement = a.statement
told place u l t h k s un tw ra ne st nt tm a fault.UnknownName = a.unknown
told place u l t h k s un tw ra ne st nt tm a fault.TwiceNamed = a.twice
told place u l t h k s un tw ra ne st nt tm a fault.NumberRange = a.range
told place u l t h k s un tw ra ne st nt tm a fault.NoEnd = a.no_end
told place u l t h k s un tw ra ne st nt tm a fault.StrayEnd = a.stray
told place u l t h k s un tw ra ne st nt tm a fault.NoThread = a.no_thread
told place u l t h k s un tw ra ne st nt tm a fault.TooMany = a.many

pub first_told : (place : Place) (u l t h k s un tw ra ne st nt tm : Bool)
    → AllTell place u l t h k s un tw ra ne st nt tm → (o : Option ScriptFault)
    → o ≡ first_in (tests u l t h k s un tw ra ne st nt tm) in_order → IsFirst o place
first_told place u l t h k s un tw ra ne st nt tm a o e =
    subst (λ (x : Option ScriptFault). IsFirst x place) (sym e)
    (is_first place (tests u l t h k s un tw ra ne st nt tm)
    (told place u l t h k s un tw ra ne st nt tm a))

-- ---- bytes

pub never : {P : Type 0} → ¬ P → Tells false P
never h = (λ e. absurd cc, λ e. h)

pub always : {P : Type 0} → P → Tells true P
always p = (λ e. p, λ e. absurd cc)

pub tells_utf : (place : Place) → Tells (not (is_utf8 place.line)) (faults.NotUtf8 place)
tells_utf place = at (is_utf8 place.line)
  where
    at : (b : Bool) → Tells (not b) (b ≡ false)
    at true = (λ e. absurd cc, λ e f. absurd cc)
    at false = (λ e. refl, λ e f. absurd cc)

pub tells_long : (place : Place) → Tells (nat_lt 256 (length place.line)) (faults.LineTooLong place)
tells_long place = (
  λ e. ltb-true 256 (length place.line) e,
  λ e h. clash (sym (lt-ltb 256 (length place.line) h) ∙ e),
)

pub tells_lines : (place : Place) → Tells (nat_le 4096 (length place.before))
    (faults.TooManyLines place)
tells_lines place = (
  λ e. leb-true 4096 (length place.before) e,
  λ e h. clash (sym (le-leb 4096 (length place.before) h) ∙ e),
)

line_number : (n : ℕ) → nat_lt 4096 (n + 1) ≡ nat_le 4096 n
line_number n = grind (arith, nat_tests)

pub bytes_at : (place : Place) → bytes_fault (length place.before + 1) place.line
    ≡ cond (not (is_utf8 place.line)) (Some fault.NotUtf8)
    (cond (nat_lt 256 (length place.line)) (Some fault.LineTooLong)
    (cond (nat_le 4096 (length place.before)) (Some fault.TooManyLines) None))
bytes_at place = rw (line_number (length place.before)) refl

-- ---- a line below the header

no_header : (place : Place) → are_blank place.before ≡ false → ¬ faults.BadHeader place
no_header place b (inl h) = clash (sym h.0 ∙ b)
no_header place b (inr h) = clash (sym (ap are_blank h.0) ∙ b)

wrapped_fault : (o : Option ScriptFault) (next : ReadPart)
    → fault_of (some_part (after_fault o next)) ≡ o
wrapped_fault None next = refl
wrapped_fault (Some kind) next = refl

form_chain : (u l t m un tw ra ne st nt tm : Bool) (next : ReadPart)
    → fault_of (unless (cond u (Some fault.NotUtf8)
    (cond l (Some fault.LineTooLong) (cond t (Some fault.TooManyLines) None)))
    (some_part (after_fault (cond (not m) (Some fault.BadStatement)
    (cond un (Some fault.UnknownName)
    (cond tw (Some fault.TwiceNamed)
    (cond ra (Some fault.NumberRange)
    (cond ne (Some fault.NoEnd) (cond st (Some fault.StrayEnd)
    (cond nt (Some fault.NoThread) (cond tm (Some fault.TooMany) None)))))))) next)))
    ≡ first_in (tests u l t false false (not m) (m && un) (m && tw) (m && ra) ne (m && st) nt
    (m && tm)) in_order
form_chain true l t m un tw ra ne st nt tm next = refl
form_chain false true t m un tw ra ne st nt tm next = refl
form_chain false false true m un tw ra ne st nt tm next = refl
form_chain false false false false un tw ra ne st nt tm next = refl
form_chain false false false true un tw ra ne st nt tm next = wrapped_fault _ next

pub bad_chain : (u l t : Bool) (kind : ScriptFault) (rest : Option ScriptFault) → rest ≡ Some kind
    → fault_of (unless (cond u (Some fault.NotUtf8)
    (cond l (Some fault.LineTooLong) (cond t (Some fault.TooManyLines) None))) (Err kind))
    ≡ cond u (Some fault.NotUtf8) (cond l (Some fault.LineTooLong)
    (cond t (Some fault.TooManyLines) rest))
bad_chain true l t kind rest e = refl
bad_chain false true t kind rest e = refl
bad_chain false false true kind rest e = refl
bad_chain false false false kind rest e = sym e

blank_chain : (u l t ne nt : Bool) (next : ReadPart)
    → fault_of (unless (cond u (Some fault.NotUtf8)
    (cond l (Some fault.LineTooLong) (cond t (Some fault.TooManyLines) None)))
    (some_part (after_fault (cond ne (Some fault.NoEnd) (cond nt (Some fault.NoThread) None))
    next)))
    ≡ first_in (tests u l t false false false false false false ne false nt false) in_order
blank_chain true l t ne nt next = refl
blank_chain false true t ne nt next = refl
blank_chain false false true ne nt next = refl
blank_chain false false false ne nt next = wrapped_fault _ next

never_formed : (place : Place) (test : MeantForm → Bool)
    → ((cut : TokenForm) (meant : MeantForm) → ¬ HasForm place cut meant)
    → Tells false (HasFormWith test place)
never_formed place test h = never (λ w. h w.0 w.1 w.2)

-- where a line has no form, five tests beside those of its bytes tell its first fault
pub first_formless : (place : Place) (h k s ne nt : Bool)
    → ((cut : TokenForm) (meant : MeantForm) → ¬ HasForm place cut meant)
    → Tells h (faults.BadHeader place) → Tells k (faults.BadToken place)
    → Tells s (faults.BadStatement place) → Tells ne (faults.NoEnd place)
    → Tells nt (faults.NoThread place)
    → (o : Option ScriptFault) → o ≡ first_in
    (tests (not (is_utf8 place.line)) (nat_lt 256 (length place.line))
    (nat_le 4096 (length place.before)) h k s false false false ne false nt false) in_order
    → IsFirst o place
first_formless place h k s ne nt none header token statement no_end no_thread =
    first_told place _ _ _ h k s false false false ne false nt false (record {
      utf = tells_utf place;
      long = tells_long place;
      lines = tells_lines place;
      header = header;
      token = token;
      statement = statement;
      unknown = never_formed place _ none;
      twice = never_formed place _ none;
      range = never_formed place _ none;
      no_end = no_end;
      stray = never_formed place _ none;
      no_thread = no_thread;
      many = never_formed place _ none;
    })

pub some_none : {A : Type 0} {x : A} {P : Type 0} → None ≡ some x → P
some_none e = absurd cc

pub cut_tokens : (line : List ℕ) (tokens : List Token) → tokens_of line ≡ Some tokens
    → tokens_in line ≡ tokens
cut_tokens line tokens e = rw e refl

pub says_something : (line : List ℕ) (token : Token) (tokens : List Token)
    → tokens_of line ≡ Some (token ∷ tokens) → is_blank_line line ≡ false
says_something line token tokens e = rw e refl

-- a line of some form
module _ (part : ReadPart) (place : Place) (s : Stands part (tokens_before place))
    (below : are_blank place.before ≡ false) where
  abbrev pub step : AfterLine
  step =
      line_taken (Some part) (found part place s) (length place.before + 1)
      (is_empty place.after) place.line

  form_step : (token : Token) (tokens : List Token) (meant : MeantForm)
      → tokens_of place.line ≡ Some (token ∷ tokens)
      → form_in part.version (token ∷ tokens) ≡ Some meant → IsFirst (fault_of step) place
  form_step token tokens meant e f =
      let here : tokens_in place.line ≡ token ∷ tokens = cut_tokens place.line (token ∷ tokens) e in
      let has = form_says part.version (token ∷ tokens) meant f in
      let is_form : IsForm part.version (tokens_in place.line) has.cut meant =
      subst (λ (ts : List Token). IsForm part.version ts has.cut meant) (sym here) has.form in
      let is_below : IsBelowHeader place = record {
        below = below;
        says = says_something place.line token tokens e;
      } in
      let may : Bool = faults.may_stand (so_far_in part) meant in
      first_told place _ _ _ false false (not may) _ _ _ _ _ _ _ (record {
        utf = tells_utf place;
        long = tells_long place;
        lines = tells_lines place;
        header = never (no_header place below);
        token = never (λ n. some_none (sym n ∙ e));
        statement = tells_statement part place s is_below has.cut meant is_form;
        unknown = tells_unknown part place s is_below has.cut meant is_form;
        twice = tells_twice part place s is_below has.cut meant is_form;
        range = subst (λ (ts : List Token). Tells (may && ranges.is_out_of_range ts meant)
            (faults.NumberRange place)) here
            (tells_range part place s is_below has.cut meant is_form);
        no_end = tells_end part place s (token ∷ tokens) here;
        stray = tells_stray part place s is_below has.cut meant is_form;
        no_thread = tells_thread part place s (token ∷ tokens) here;
        many = tells_many part place s is_below has.cut meant is_form;
      }) (fault_of step) (rw (bytes_at place, e, f) (form_chain _ _ _ may _ _ _ _ _ _ _ _))

  -- a line of no form
  bad_step : (token : Token) (tokens : List Token) → tokens_of place.line ≡ Some (token ∷ tokens)
      → form_in part.version (token ∷ tokens) ≡ None → IsFirst (fault_of step) place
  bad_step token tokens e f =
      let here : tokens_in place.line ≡ token ∷ tokens = cut_tokens place.line (token ∷ tokens) e in
      let none : (cut : TokenForm) (meant : MeantForm) → ¬ HasForm place cut meant = λ cut meant h.
      let version_is : IsForm part.version (tokens_in place.line) cut meant =
      subst (λ (v : ℕ). IsForm v (tokens_in place.line) cut meant)
      (ap version_of (sym (append-nil (tokens_before place))) ∙ s.version []) h.form in
      some_none (sym f ∙ ap (form_in part.version) (sym here)
      ∙ form_read part.version (tokens_in place.line) cut meant version_is) in
      let is_below : IsBelowHeader place = record {
        below = below;
        says = says_something place.line token tokens e;
      } in
      first_formless place false false true _ _ none (never (no_header place below))
      (never (λ n. some_none (sym n ∙ e))) (always (is_below, none))
      (tells_end_any place) (tells_thread_any place) (fault_of step)
      (rw (bytes_at place, e, f) (bad_chain _ _ _ fault.BadStatement _ refl))

  -- a line that can't be cut into tokens
  uncut_step : tokens_of place.line ≡ None → IsFirst (fault_of step) place
  uncut_step e =
      let here : tokens_in place.line ≡ [] = rw e refl in
      let none : (cut : TokenForm) (meant : MeantForm) → ¬ HasForm place cut meant = λ cut meant h.
      let bare : IsForm (version_of (tokens_before place)) [] cut meant =
      subst (λ (ts : List Token). IsForm (version_of (tokens_before place)) ts cut meant) here
      h.form in
      some_none (form_read (version_of (tokens_before place)) [] cut meant bare) in
      let is_below : IsBelowHeader place = record { below = below; says = rw e refl } in
      first_formless place false true true _ _ none (never (no_header place below)) (always e)
      (always (is_below, none))
      (tells_end_any place) (tells_thread_any place) (fault_of step)
      (rw (bytes_at place, e) (bad_chain _ _ _ fault.BadToken _ refl))

  -- a blank line
  blank_step : tokens_of place.line ≡ Some [] → IsFirst (fault_of step) place
  blank_step e =
      let here : tokens_in place.line ≡ [] = rw e refl in
      let is_blank : is_blank_line place.line ≡ true = rw e refl in
      let none : (cut : TokenForm) (meant : MeantForm) → ¬ HasForm place cut meant =
      λ cut meant h. clash (sym is_blank ∙ h.is_below.says) in
      first_formless place false false false _ _ none (never (no_header place below))
      (never (λ n. some_none (sym n ∙ e))) (never (λ h. clash (sym is_blank ∙ h.0.says)))
      (tells_end part place s [] here) (tells_thread part place s [] here) (fault_of step)
      (rw (bytes_at place, e) (blank_chain _ _ _ _ _ part))

  -- whatever a line below the header is
  pub below_step : IsFirst (fault_of step) place
  below_step = by_tokens (tokens_of place.line) refl
    where
      by_form : (token : Token) (tokens : List Token) (found_form : Option MeantForm)
          → tokens_of place.line ≡ Some (token ∷ tokens)
          → form_in part.version (token ∷ tokens) ≡ found_form → IsFirst (fault_of step) place
      by_form token tokens None e f = bad_step token tokens e f
      by_form token tokens (Some meant) e f = form_step token tokens meant e f

      by_tokens : (found_tokens : Option (List Token)) → tokens_of place.line ≡ found_tokens
          → IsFirst (fault_of step) place
      by_tokens None e = uncut_step e
      by_tokens (Some []) e = blank_step e
      by_tokens (Some (token ∷ tokens)) e =
          by_form token tokens (form_in part.version (token ∷ tokens)) e refl
