-- A text that is read as a script spells it.
use Rattle.std.proofs.Common.{◌≡◌, ℕ, ◌+◌, ◌-◌, ◌≤◌, Bool, true, false, cond, length, List, [], ◌∷◌}
use Rattle.std.proofs.Common.{◌++◌, map, Option, Some, None, Ok, refl, sym, ap, ◌∙◌, append_assoc}
use Rattle.std.proofs.Common.{arith, subst, length-append}
use Rattle.std.specs.Prelude.{nat_le, nat_lt, not, ◌&&◌, ◌||◌, codes, All}
use Rattle.std.specs.List.{list_all, filter_map}
use Rattle.std.specs.Str.{is_utf8, bytes_eq}
use Rattle.std.proofs.lemmas.List.{append-nil, map_push, length_push}
use Rattle.std.proofs.lemmas.List.Elements.{All-nil, All-push, filter_map-append}
use Rattle.std.proofs.lemmas.List.Folds.{list_all-append}
use Rattle.std.proofs.lemmas.Bool.{and_parts, le-leb, leb-true, ltb-false}
use Rattle.pct_ask.specs.Tokens.{Token, Word, Number, tokens_of}
use Rattle.pct_ask.specs.Words.{is_name}
use Rattle.pct_ask.specs.NameLists.{AreNames, no_names, list_of}
use Rattle.pct_ask.specs.declared.names.NameKind.{NameKind}
use Rattle.pct_ask.specs.declared.names.NameKind.TheVariants as kinds
use Rattle.script_tree.specs.declared.fault.ScriptFault.TheVariants as fault
use Rattle.script_tree.specs.Forms.{MeantForm, tokens_of_form, IsForm}
use Rattle.script_tree.specs.Fitting.{line_fits, rwlocks_fit}
use Rattle.script_tree.specs.Ranges as ranges
use Rattle.script_tree.specs.Lines.{tokens_in, is_blank_line, version_in, just_thread, thread_in}
use Rattle.script_tree.specs.Lines.{threads_begun}
use Rattle.script_tree.specs.Faults.{are_blank}
use Rattle.script_tree.specs.Grammar.{Line, AreLines, IsLineText}
use Rattle.script_parse.specs.Part.{ReadPart}
use Rattle.script_parse.specs.Saying.{form_in}
use Rattle.script_parse.specs.Reading.{form_fault, with_form, bytes_fault, unless, some_part}
use Rattle.script_parse.specs.Reading.{blank_fault, header_taken, part_after_header, first_part}
use Rattle.script_parse.specs.Reading.{line_taken, tokens_taken, form_taken}
use Rattle.script_parse.proofs.Choices.{some, some_is, passed}
use Rattle.script_parse.proofs.FormSound.{form_says}
use Rattle.script_parse.proofs.LineSteps.{AfterLine, cut_tokens}
use Rattle.script_parse.proofs.TextFaults.{ok_is, err_ok, unless_ok, wrapped_ok, behind_tokens}
use Rattle.script_parse.proofs.TextLines.{blank_more, says_more}
use Rattle.script_parse.proofs.StatementFits.{finder, means_fits}
use Rattle.script_parse.proofs.HasRead.{HasRead}
use Rattle.script_parse.proofs.HasReadForms.{form_keeps}
use Rattle.script_parse.proofs.DeclaredValues.{AreValues, blank_values}
use Rattle.script_parse.proofs.DeclaredForms.{form_adds}
use Rattle.script_parse.proofs.FormFaults.{no_fault_parts}

-- what holds of a text's lines and of what was read of them
pub record Reads (threads : List (List ℕ)) (part : ReadPart) (before : List (List ℕ)) : Type 0 where
  pub above : List (List ℕ)
  pub header : List ℕ
  pub below : List (List ℕ)
  pub split : before ≡ above ++ header ∷ below
  pub blank : are_blank above ≡ true
  pub version : version_in (tokens_in header) ≡ Some part.version
  pub lines : List Line
  pub are_lines : AreLines part.version (length above + 2) below lines
  pub has : HasRead threads part lines (length before)
  pub values : AreValues part (map tokens_in below)
  pub promised : threads_begun before ≡ part.names.threads
  pub sound : All IsLineText before
  pub few : length before ≤ 4096

-- what holds above the header
pub record ReadsNone (before : List (List ℕ)) : Type 0 where
  pub blank : are_blank before ≡ true
  pub promised : threads_begun before ≡ []
  pub sound : All IsLineText before

abbrev pub ReadsBefore : List (List ℕ) → Option ReadPart → List (List ℕ) → Type 0
ReadsBefore threads None before = ReadsNone before
ReadsBefore threads (Some part) before = Reads threads part before

-- ---- bytes

record IsPlain (number : ℕ) (line : List ℕ) : Type 0 where
  sound : IsLineText line
  few : number ≤ 4096

bytes_plain : (number : ℕ) (line : List ℕ) (u l t : Bool) → is_utf8 line ≡ not u
    → nat_lt 256 (length line) ≡ l → nat_lt 4096 number ≡ t
    → (r : AfterLine) (next : Option ReadPart)
    → unless (cond u (Some fault.NotUtf8)
    (cond l (Some fault.LineTooLong) (cond t (Some fault.TooManyLines) None))) r ≡ Ok next
    → IsPlain number line
bytes_plain number line true l t a b c r next e = err_ok e
bytes_plain number line false true t a b c r next e = err_ok e
bytes_plain number line false false true a b c r next e = err_ok e
bytes_plain number line false false false a b c r next e = record {
  sound = record { text = a; short = ltb-false 256 (length line) b };
  few = ltb-false 4096 number c;
}

not_not : (b : Bool) → b ≡ not (not b)
not_not true = refl
not_not false = refl

line_plain : (number : ℕ) (line : List ℕ) (r : AfterLine) (next : Option ReadPart)
    → unless (bytes_fault number line) r ≡ Ok next → IsPlain number line
line_plain number line r next e =
    bytes_plain number line (not (is_utf8 line)) (nat_lt 256 (length line)) (nat_lt 4096 number)
    (not_not (is_utf8 line)) refl refl r next e

on_line : (number n : ℕ) → number ≡ n + 1 → number ≤ 4096 → line_fits (n + 1) ≡ true
on_line number n e few = rw (le-leb 1 (n + 1) (omega arith), le-leb (n + 1) 4096 (omega arith)) refl

-- ---- threads that lines begin

threads_push : (before : List (List ℕ)) (line : List ℕ) → is_utf8 line ≡ true
    → threads_begun (before ++ line ∷ [])
    ≡ threads_begun before ++ filter_map just_thread (tokens_in line ∷ [])
threads_push before line u = filter_map-append thread_in before (line ∷ []) ∙ rw u refl

blank_threads : (before : List (List ℕ)) (line : List ℕ) → is_utf8 line ≡ true
    → tokens_of line ≡ Some [] → threads_begun (before ++ line ∷ []) ≡ threads_begun before
blank_threads before line u e =
    threads_push before line u ∙ rw e (append-nil (threads_begun before))

later : (threads : List (List ℕ)) (part : ReadPart) (lines : List Line) (n m : ℕ) → n ≤ m
    → HasRead threads part lines n → HasRead threads part lines m
later threads part lines n m few h = record {
  first_version = h.first_version;
  last_version = h.last_version;
  names = h.names;
  values = h.values;
  top = h.top;
  above = h.above;
  closed = h.closed;
  current = h.current;
  names_are = h.names_are;
  same_threads = h.same_threads;
  threads_fit = h.threads_fit;
  body = h.body;
  is_open = record {
    fits = h.is_open.fits;
    nested = h.is_open.nested;
    few = h.is_open.few;
    light = omega (arith, h.is_open.light, few);
    lines_are = h.is_open.lines_are;
  };
  lines_are = h.lines_are;
}

split_more : (before above below : List (List ℕ)) (header line : List ℕ)
    → before ≡ above ++ header ∷ below
    → before ++ line ∷ [] ≡ above ++ header ∷ (below ++ line ∷ [])
split_more before above below header line e =
    ap (λ (ls : List (List ℕ)). ls ++ line ∷ []) e ∙ append_assoc above (header ∷ below) (line ∷ [])

-- a blank line
blank_reads : (threads : List (List ℕ)) (part : ReadPart) (before : List (List ℕ)) (line : List ℕ)
    → Reads threads part before → IsPlain (length before + 1) line → tokens_of line ≡ Some []
    → Reads threads part (before ++ line ∷ [])
blank_reads threads part before line r p e =
    let longer : length (before ++ line ∷ []) ≡ length before + 1 = length_push before line in
    record {
      above = r.above;
      header = r.header;
      below = r.below ++ line ∷ [];
      split = split_more before r.above r.below r.header line r.split;
      blank = r.blank;
      version = r.version;
      lines = r.lines;
      are_lines =
          blank_more part.version (length r.above + 2) r.below line r.lines r.are_lines (rw e refl);
      has =
          later threads part r.lines (length before) (length (before ++ line ∷ []))
          (omega (arith, longer)) r.has;
      values =
          subst (AreValues part) (sym (behind_tokens r.below line [] e))
          (blank_values part (map tokens_in r.below) r.values);
      promised = blank_threads before line p.sound.text e ∙ r.promised;
      sound = All-push IsLineText before line r.sound p.sound;
      few = omega (arith, longer, p.few);
    }

-- a line of some form
form_reads : (threads : List (List ℕ)) (part : ReadPart) (before : List (List ℕ)) (line : List ℕ)
    (tokens : List Token) (meant : MeantForm) (last : Bool) → Reads threads part before
    → IsPlain (length before + 1) line → tokens_of line ≡ Some tokens
    → form_in part.version tokens ≡ Some meant
    → form_fault part (finder threads) last tokens meant ≡ None
    → Reads threads (with_form part (finder threads) (length before + 1) meant)
    (before ++ line ∷ [])
form_reads threads part before line tokens meant last r p e f g =
    let longer : length (before ++ line ∷ []) ≡ length before + 1 = length_push before line in
    let next : ReadPart = with_form part (finder threads) (length before + 1) meant in
    let no_fault = no_fault_parts part (finder threads) last tokens meant g in
    let has = form_says part.version tokens meant f in
    let here : tokens_in line ≡ tokens = cut_tokens line tokens e in
    let number : length before + 1 ≡ length r.above + 2 + length r.below =
    omega (arith, ap length r.split, length-append r.above (r.header ∷ r.below)) in
    let kept = form_keeps threads part r.lines (length before) last tokens r.has
    (on_line (length before + 1) (length before) refl p.few) p.few has.cut meant has.form.means
    has.form.of (means_fits has.cut meant has.form.means) no_fault in
    let range : ranges.is_out_of_range (tokens_in line) meant ≡ false =
    ap (λ (ts : List Token). ranges.is_out_of_range ts meant) here ∙ no_fault.in_range in
    let adds = form_adds part.version part (finder threads) (length before + 1)
    (map tokens_in r.below) r.values has.cut meant has.form.means has.form.of in
    let cut_is : tokens_in line ≡ tokens_of_form has.cut = here ∙ has.form.spelled in
    let same_version : next.version ≡ part.version = adds.version in
    record {
      above = r.above;
      header = r.header;
      below = r.below ++ line ∷ [];
      split = split_more before r.above r.below r.header line r.split;
      blank = r.blank;
      version = r.version ∙ ap some (sym same_version);
      lines = r.lines ++ (length before + 1, meant) ∷ [];
      are_lines =
          subst (λ (v : ℕ). AreLines v (length r.above + 2) (r.below ++ line ∷ [])
          (r.lines ++ (length before + 1, meant) ∷ [])) (sym same_version)
          (says_more part.version (length r.above + 2) (length before + 1) r.below line r.lines
          meant r.are_lines (
            has.cut,
            subst
                (λ (ts : List Token). IsForm part.version ts has.cut meant) (sym here) has.form,
            range,
          )
          number);
      has =
          later threads next (r.lines ++ (length before + 1, meant) ∷ []) (length before + 1)
          (length (before ++ line ∷ [])) (omega (arith, longer)) kept;
      values =
          subst (AreValues next) (sym (map_push tokens_in r.below line
          ∙ ap (λ (ts : List Token). map tokens_in r.below ++ ts ∷ []) cut_is)) adds.values;
      promised =
          threads_push before line p.sound.text
          ∙ ap (λ (ns : List (List ℕ)). ns ++ filter_map just_thread (tokens_in line ∷ []))
          r.promised ∙ ap (λ (ts : List Token). part.names.threads
          ++ filter_map just_thread (ts ∷ [])) cut_is ∙ adds.thread;
      sound = All-push IsLineText before line r.sound p.sound;
      few = omega (arith, longer, p.few);
    }

-- ---- one line more

below_reads : (threads : List (List ℕ)) (part : ReadPart) (last : Bool) (before : List (List ℕ))
    (line : List ℕ) (next : Option ReadPart) (found : Option (List Token))
    → Reads threads part before
    → IsPlain (length before + 1) line → tokens_of line ≡ found
    → some_part (tokens_taken part (finder threads) (length before + 1) last found) ≡ Ok next
    → ReadsBefore threads next (before ++ line ∷ [])
below_reads threads part last before line next None r p e w = err_ok w
below_reads threads part last before line next (Some []) r p e w =
    let ok = wrapped_ok (blank_fault part last) part next w in
    subst (λ (x : Option ReadPart). ReadsBefore threads x (before ++ line ∷ [])) ok.1
    (blank_reads threads part before line r p e)
below_reads threads part last before line next (Some (token ∷ tokens)) r p e w =
    by_form (form_in part.version (token ∷ tokens)) refl w
  where
    by_form : (found : Option MeantForm) → form_in part.version (token ∷ tokens) ≡ found
        → some_part (form_taken part (finder threads) (length before + 1) last (token ∷ tokens)
        found) ≡ Ok next → ReadsBefore threads next (before ++ line ∷ [])
    by_form None f w = err_ok w
    by_form (Some meant) f w =
        let ok = wrapped_ok (form_fault part (finder threads) last (token ∷ tokens) meant)
        (with_form part (finder threads) (length before + 1) meant) next w in
        subst (λ (x : Option ReadPart). ReadsBefore threads x (before ++ line ∷ [])) ok.1
        (form_reads threads part before line (token ∷ tokens) meant last r p e f ok.0)

-- the version of a header
version_few : (tokens : List Token) (version : ℕ) → version_in tokens ≡ Some version
    → (1 ≤ version) × (version ≤ 3)
version_few (Word word ∷ Number (digit ∷ []) ∷ []) version e =
    let p = passed (bytes_eq word (codes "script") && nat_le 49 digit && nat_le digit 51)
    (some (digit - 48)) version e in
    let a = and_parts (bytes_eq word (codes "script") && nat_le 49 digit) (nat_le digit 51) p.0 in
    let b = and_parts (bytes_eq word (codes "script")) (nat_le 49 digit) a.0 in
    let low : 49 ≤ digit = leb-true 49 digit b.1 in
    let high : digit ≤ 51 = leb-true digit 51 a.1 in
    let is : digit - 48 ≡ version = some_is (digit - 48) version p.1 in
    (omega arith, omega arith)
version_few tokens version e = absurd cc

header_thread : (tokens : List Token) (version : ℕ) → version_in tokens ≡ Some version
    → just_thread tokens ≡ None
header_thread (Word word ∷ Number (digit ∷ []) ∷ []) version e = refl
header_thread tokens version e = absurd cc

no_names_are : AreNames no_names
no_names_are = record { lawful = All-nil _; distinct = tt; few = few_none }
  where
    few_none : (kind : NameKind) → length (list_of kind no_names) ≤ 64
    few_none kinds.Thread = omega arith
    few_none kind = omega arith

lawful_none : (version : ℕ) (kind : NameKind)
    → list_all (is_name version) (list_of kind no_names) ≡ true
lawful_none version kinds.Thread = refl
lawful_none version kind = refl

no_rwlocks : (version : ℕ) → rwlocks_fit version [] ≡ true
no_rwlocks version = by_test (nat_le 3 version)
  where
    by_test : (b : Bool) → (b || true) ≡ true
    by_test true = refl
    by_test false = refl

start_has : (threads : List (List ℕ)) (version n : ℕ) → 1 ≤ version → version ≤ 3
    → HasRead threads (first_part version) [] n
start_has threads version n low high = record {
  first_version = low;
  last_version = high;
  names = record {
    are_names = no_names_are;
    lawful = lawful_none version;
    few_threads = omega arith;
    known_rwlocks = no_rwlocks version;
  };
  values = record {
    same_vars = refl;
    same_sems = refl;
    same_barriers = refl;
    sem_values = All-nil _;
    barrier_counts = All-nil _;
  };
  top = [];
  above = All-nil _;
  closed = [];
  current = [];
  names_are = refl;
  same_threads = refl;
  threads_fit = refl;
  body = [];
  is_open = record {
    fits = refl;
    nested = tt;
    few = omega arith;
    light = omega arith;
    lines_are = refl;
  };
  lines_are = refl;
}

above_reads : (threads : List (List ℕ)) (last : Bool) (before : List (List ℕ)) (line : List ℕ)
    (next : Option ReadPart) (found : Option (List Token)) → ReadsNone before
    → IsPlain (length before + 1) line → tokens_of line ≡ found → header_taken last found ≡ Ok next
    → ReadsBefore threads next (before ++ line ∷ [])
above_reads threads last before line next None r p e w = err_ok w
above_reads threads last before line next (Some []) r p e w =
    let blank : is_blank_line line ≡ true = rw e refl in
    subst (λ (x : Option ReadPart). ReadsBefore threads x (before ++ line ∷ [])) (ok_is w)
    (record {
      blank = list_all-append is_blank_line before (line ∷ []) ∙ rw (r.blank, blank) refl;
      promised = blank_threads before line p.sound.text e ∙ r.promised;
      sound = All-push IsLineText before line r.sound p.sound;
    })
above_reads threads last before line next (Some (token ∷ tokens)) r p e w =
    by_version last (version_in (token ∷ tokens)) refl w
  where
    by_version : (last : Bool) (found : Option ℕ) → version_in (token ∷ tokens) ≡ found
        → some_part (part_after_header last found) ≡ Ok next
        → ReadsBefore threads next (before ++ line ∷ [])
    by_version last None v w = err_ok w
    by_version true (Some version) v w = err_ok w
    by_version false (Some version) v w =
        let range = version_few (token ∷ tokens) version v in
        let here : tokens_in line ≡ token ∷ tokens = cut_tokens line (token ∷ tokens) e in
        let longer : length (before ++ line ∷ []) ≡ length before + 1 = length_push before line in
        subst (λ (x : Option ReadPart). ReadsBefore threads x (before ++ line ∷ [])) (ok_is w)
        (record {
          above = before;
          header = line;
          below = [];
          split = refl;
          blank = r.blank;
          version = ap version_in here ∙ v;
          lines = [];
          are_lines = refl;
          has = start_has threads version (length (before ++ line ∷ [])) range.0 range.1;
          values = record { vars = refl; sems = refl; barriers = refl };
          promised =
              threads_push before line p.sound.text
              ∙ rw (here, header_thread (token ∷ tokens) version v)
              (append-nil (threads_begun before) ∙ r.promised);
          sound = All-push IsLineText before line r.sound p.sound;
          few = omega (arith, longer, p.few);
        })

-- one more line is read
pub line_reads : (threads : List (List ℕ)) (state : Option ReadPart) (last : Bool)
    (before : List (List ℕ)) (line : List ℕ) (next : Option ReadPart)
    → ReadsBefore threads state before
    → line_taken state (finder threads) (length before + 1) last line ≡ Ok next
    → ReadsBefore threads next (before ++ line ∷ [])
line_reads threads None last before line next r w =
    above_reads threads last before line next (tokens_of line) r
    (line_plain (length before + 1) line _ next w) refl
    (unless_ok (bytes_fault (length before + 1) line) _ next w)
line_reads threads (Some part) last before line next r w =
    below_reads threads part last before line next (tokens_of line) r
    (line_plain (length before + 1) line _ next w) refl
    (unless_ok (bytes_fault (length before + 1) line) _ next w)
