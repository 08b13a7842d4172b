-- Reading finds the one first fault of a text.
use Rattle.std.proofs.Common.{◌≡◌, ℕ, ◌≤◌, inl, inr, Bool, true, false, cond, length, List, [], ◌∷◌}
use Rattle.std.proofs.Common.{Option, Some, None, Ok, Err, refl, sym, ◌∙◌, arith, subst}
use Rattle.std.specs.Prelude.{nat_lt, not, ◌&&◌, ◌==◌, unwrap_or, is_some}
use Rattle.std.specs.Str.{is_utf8, chars}
use lib.Utf8.{encode}
use Rattle.std.proofs.lemmas.Bool.{cases_lt, lt-ltb, le-ltb}
use Rattle.pct_ask.specs.Lines.{lines_of, onto_first}
use Rattle.pct_ask.specs.Tokens.{tokens_of}
use Rattle.script_tree.specs.ScriptText.{ScriptText}
use Rattle.script_tree.specs.declared.fault.ScriptFault.{ScriptFault}
use Rattle.script_tree.specs.declared.fault.ScriptFault.TheVariants as fault
use Rattle.script_tree.specs.Forms.{TokenForm, MeantForm}
use Rattle.script_tree.specs.Lines.{tokens_in}
use Rattle.script_tree.specs.Faults.{Place, so_far_at, leaves_open, lacks_thread, are_blank}
use Rattle.script_tree.specs.Faults.{HasForm, judged_lines, IsFirstFault, IsFault}
use Rattle.script_parse.specs.Reading.{is_empty, bytes_fault, blank_text_fault, read_as_script}
use Rattle.script_parse.specs.Reading.{script_from}
use Rattle.script_parse.proofs.FirstKinds.{IsFirstKind, first_in, in_order}
use Rattle.script_parse.proofs.FirstFaults.{first_at}
use Rattle.script_parse.proofs.LineFaults.{tells_end_any, tells_thread_any}
use Rattle.script_parse.proofs.LineSteps.{tests, always, never, first_formless}
use Rattle.script_parse.proofs.Headers.{quiet_none, tells_token}
use Rattle.script_parse.proofs.TextFaults.{HasNoFaultBefore, Found, TellsFault, at_place, finder_of}
use Rattle.script_parse.proofs.TextFaults.{all_tell, no_end, none_at_first}
use Rattle.script_parse.proofs.Choices.{clash}

-- ---- a text of blank lines alone

abbrev some_fault : ScriptFault → Option ScriptFault
some_fault kind = Some kind

blank_chain : (u l : Bool) (k s un tw ra ne st nt tm : Bool)
    → some_fault (unwrap_or (cond u (Some fault.NotUtf8) (cond l (Some fault.LineTooLong) None))
    fault.BadHeader) ≡ first_in (tests u l false true k s un tw ra ne st nt tm) in_order
blank_chain true l k s un tw ra ne st nt tm = refl
blank_chain false true k s un tw ra ne st nt tm = refl
blank_chain false false k s un tw ra ne st nt tm = refl

blank_first : (line : List ℕ) (rest : List (List ℕ)) → are_blank (line ∷ rest) ≡ true
    → IsFirstKind (at_place [] line rest) (unwrap_or (bytes_fault 1 line) fault.BadHeader)
blank_first line rest b =
    let place : Place = at_place [] line rest in
    let no_form : (cut : TokenForm) (meant : MeantForm) → ¬ HasForm place cut meant =
    λ cut meant h. clash h.is_below.below in
    let open_behind : Bool = is_empty rest && leaves_open (so_far_at place) (tokens_in line) in
    let threadless : Bool = is_empty rest && lacks_thread (so_far_at place) (tokens_in line) in
    first_formless place true _ false open_behind threadless no_form (always (inr (refl, b)))
    (tells_token (tokens_of line)) (never (λ h. clash h.0.below))
    (tells_end_any place) (tells_thread_any place)
    (some_fault (unwrap_or (bytes_fault 1 line) fault.BadHeader))
    (blank_chain (not (is_utf8 line)) (nat_lt 256 (length line))
    (not (is_some (tokens_of line))) false false false false open_behind false threadless false)

nothing_before : (line : List ℕ) (rest : List (List ℕ)) → HasNoFaultBefore (at_place [] line rest)
nothing_before line rest front back other kind e f = no_end front back other (sym e)

blank_fault_is : (bytes : List ℕ) (line : List ℕ) (rest : List (List ℕ))
    → judged_lines bytes ≡ line ∷ rest → are_blank (line ∷ rest) ≡ true
    → IsFirstFault bytes 1 (unwrap_or (bytes_fault 1 line) fault.BadHeader)
blank_fault_is bytes line rest e b =
    first_at (judged_lines bytes) (at_place [] line rest) e
    (unwrap_or (bytes_fault 1 line) fault.BadHeader)
    (nothing_before line rest) (blank_first line rest b) 1 refl

no_bytes_fault : bytes_fault 1 [] ≡ None
unfolding is_utf8 chars encode
no_bytes_fault = refl

empty_text : IsFirstFault [] 1 fault.BadHeader
empty_text =
    subst (λ (o : Option ScriptFault). IsFirstFault [] 1 (unwrap_or o fault.BadHeader))
    no_bytes_fault (blank_fault_is [] [] [] refl refl)

no_lines : (b : ℕ) (bs : List ℕ) {P : Type 0} → lines_of (b ∷ bs) ≡ [] → P
no_lines b bs e = by_end (b == 10) (lines_of bs) e
  where
    by_end : (c : Bool) (ls : List (List ℕ)) {P : Type 0} → cond c ([] ∷ ls) (onto_first b ls) ≡ []
        → P
    by_end true ls e = absurd cc
    by_end false [] e = absurd cc
    by_end false (l ∷ ls) e = absurd cc

blank_text : (b : ℕ) (bs : List ℕ) (lines : List (List ℕ)) → lines_of (b ∷ bs) ≡ lines
    → are_blank lines ≡ true → IsFirstFault (b ∷ bs) 1 (blank_text_fault lines)
blank_text b bs [] e h = no_lines b bs e
blank_text b bs (line ∷ rest) e h = blank_fault_is (b ∷ bs) line rest e h

all_blank : (bytes : List ℕ) → are_blank (lines_of bytes) ≡ true
    → IsFirstFault bytes 1 (blank_text_fault (lines_of bytes))
all_blank [] h = empty_text
all_blank (b ∷ bs) h = blank_text b bs (lines_of (b ∷ bs)) refl h

-- ---- any text

judged_are : (bytes : List ℕ) → are_blank (lines_of bytes) ≡ false
    → judged_lines bytes ≡ lines_of bytes
judged_are [] h = clash h
judged_are (b ∷ bs) h = refl

-- what is found of a text
abbrev TextTells : Found → List ℕ → Type 0
TextTells (Ok script) bytes = (n : ℕ) (kind : ScriptFault) → ¬ IsFault bytes n kind
TextTells (Err found) bytes = IsFault bytes found.0 found.1

ok_tells : (script : ScriptText) (bytes : List ℕ) → length bytes ≤ 1048576
    → judged_lines bytes ≡ lines_of bytes → TellsFault (Ok script) (lines_of bytes)
    → (n : ℕ) (kind : ScriptFault) → ¬ IsFault bytes n kind
ok_tells script bytes small j t n kind (inl h) = absurd (omega (arith, h.0, small))
ok_tells script bytes small j t n kind (inr h) =
    let f = h.1.faulty in t f.0.before f.0.after f.0.line (sym j ∙ f.1) kind f.3

lines_tell : (found : Found) (bytes : List ℕ) → length bytes ≤ 1048576
    → judged_lines bytes ≡ lines_of bytes → TellsFault found (lines_of bytes)
    → TextTells found bytes
lines_tell (Ok script) bytes small j t = ok_tells script bytes small j t
lines_tell (Err found) bytes small j t =
    inr (small, first_at (judged_lines bytes) t.0 (j ∙ t.1) found.1 t.3 t.4 found.0 t.2)

text_tells : (bytes : List ℕ) → TextTells (read_as_script bytes) bytes
text_tells bytes = elim (cases_lt 1048576 (length bytes)) [
  | inl large ↦ rw (lt-ltb 1048576 (length bytes) large) (inl (large, refl, refl))
  | inr small ↦ rw (le-ltb 1048576 (length bytes) small)
      (by_blank (are_blank (lines_of bytes)) refl small)
]
  where
    by_blank : (b : Bool) → are_blank (lines_of bytes) ≡ b → length bytes ≤ 1048576
        → TextTells (cond b (Err (1, blank_text_fault (lines_of bytes)))
        (script_from (finder_of (lines_of bytes)) None 1 (lines_of bytes))) bytes
    by_blank true h small = inr (small, all_blank bytes h)
    by_blank false h small =
        lines_tell (script_from (finder_of (lines_of bytes)) None 1 (lines_of bytes)) bytes
        small (judged_are bytes h) (all_tell (lines_of bytes) (lines_of bytes) [] None 1 refl refl h
        (refl, quiet_none) (none_at_first (lines_of bytes)))

-- a text whose reading finds a fault has it
pub fault_found : (bytes : List ℕ) (n : ℕ) (kind : ScriptFault)
    → read_as_script bytes ≡ Err (n, kind) → IsFault bytes n kind
fault_found bytes n kind e = subst (λ (f : Found). TextTells f bytes) e (text_tells bytes)

-- a text that is read whole has none
pub no_fault : (bytes : List ℕ) (script : ScriptText) → read_as_script bytes ≡ Ok script
    → (n : ℕ) (kind : ScriptFault) → ¬ IsFault bytes n kind
no_fault bytes script e = subst (λ (f : Found). TextTells f bytes) e (text_tells bytes)

-- ---- a text has one first fault
