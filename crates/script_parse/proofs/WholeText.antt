-- A text that spells a script is read as it, so that each text spells one script or has one first
-- fault.
use Rattle.std.proofs.Common.{◌≡◌, ℕ, suc, ◌+◌, ◌≤◌, Bool, true, false, length, List, [], ◌∷◌, ◌++◌}
use Rattle.std.proofs.Common.{map, Option, Some, None, Ok, refl, sym, ap, ◌∙◌, subst, arith}
use Rattle.std.proofs.Common.{append_assoc, length-append}
use Rattle.std.specs.Prelude.{◌&&◌, All}
use Rattle.std.proofs.lemmas.Bool.{le-ltb}
use Rattle.std.proofs.lemmas.List.{append-nil}
use Rattle.std.proofs.lemmas.List.Elements.{All-head, All-tail, filter_map-append}
use Rattle.std.proofs.lemmas.List.Folds.{list_all-append}
use Rattle.pct_ask.specs.Lines.{lines_of}
use Rattle.pct_ask.specs.Tokens.{Token, tokens_of}
use Rattle.pct_ask.specs.NameLists.{list_of, no_names, place_of}
use Rattle.pct_ask.specs.declared.names.NameKind.{NameKind}
use Rattle.pct_ask.specs.declared.names.NameKind.TheVariants as kinds
use Rattle.script_tree.specs.ScriptText.{ScriptText}
use Rattle.script_tree.specs.Fitting.{most_threads}
use Rattle.script_tree.specs.Lines.{tokens_in, is_blank_line, version_in, declared_name, names_of}
use Rattle.script_tree.specs.Lines.{just_thread, thread_in, threads_begun}
use Rattle.script_tree.specs.Faults.{are_blank}
use Rattle.script_tree.specs.Grammar.{IsLineText, Spells, all_thread_lines}
use Rattle.script_parse.specs.Part.{ReadPart}
use Rattle.script_parse.specs.Reading.{Finder, is_empty, first_part, line_taken, script_from}
use Rattle.script_parse.specs.Reading.{script_of, read_as_script}
use Rattle.script_parse.proofs.Fresh.{all_front, all_back}
use Rattle.script_parse.proofs.LineSteps.{cut_tokens, says_something}
use Rattle.script_parse.proofs.Standing.{Lines, Stands}
use Rattle.script_parse.proofs.Headers.{AreQuiet, quiet_none, quiet_blank, header_is, begun_stands}
use Rattle.script_parse.proofs.Runs.{Runs, some_there}
use Rattle.script_parse.proofs.ThreadRuns.{having, threads_run}
use Rattle.script_parse.proofs.FreeLines.{IsWhole}
use Rattle.script_parse.proofs.RunsRead.{plain_line}
use Rattle.script_parse.proofs.ReadLines.{blank_tokens, blank_in, lines_read}
use Rattle.script_parse.proofs.LineNames.{threads_quiet, thread_at, threads_same}
use Rattle.script_parse.proofs.TopRuns.{top_part, IsAbove, tops_run}

abbrev IsBlank : List ℕ → Type 0
IsBlank line = is_blank_line line ≡ true

-- ---- the lines down to the header

blank_top : (find : Finder) (n : ℕ) (last : Bool) (text : List ℕ) → IsBlank text → IsLineText text
    → n ≤ 4096 → line_taken None find n last text ≡ Ok None
blank_top find n last text b sound few = rw (plain_line n text sound few, blank_tokens text b) refl

above_read : (find : Finder) (above rest : List (List ℕ)) (n : ℕ) → All IsBlank above
    → All IsLineText above → n + length above ≤ 4097 → script_from find None n (above ++ rest)
    ≡ script_from find None (n + length above) rest
above_read find [] rest n b sound few = let same : n ≡ n + length {A = List ℕ} [] = omega arith in
    ap (λ (m : ℕ). script_from find None m rest) same
above_read find (text ∷ above) rest n b sound few =
    let step = blank_top find n (is_empty (above ++ rest)) text (All-head IsBlank text above b)
    (All-head IsLineText text above sound) (omega (arith, few)) in
    let more = above_read find above rest (n + 1) (All-tail IsBlank text above b)
    (All-tail IsLineText text above sound) (omega (arith, few)) in
    let same : n + 1 + length above ≡ n + length (text ∷ above) = omega arith in
    rw step (more ∙ ap (λ (m : ℕ). script_from find None m rest) same)

no_version : (version : ℕ) → version_in [] ≡ Some version → ⊥
no_version version e = absurd cc

header_read : (find : Finder) (n : ℕ) (last : Bool) (header : List ℕ) (version : ℕ)
    (found : Option (List Token)) → tokens_of header ≡ found
    → version_in (tokens_in header) ≡ Some version → last ≡ false → IsLineText header → n ≤ 4096
    → line_taken None find n last header ≡ Ok (Some (first_part version))
header_read find n last header version None e v l sound few =
    let none : tokens_in header ≡ [] = rw e refl in
    absurd (no_version version (sym (ap version_in none) ∙ v))
header_read find n last header version (Some []) e v l sound few =
    absurd (no_version version (sym (ap version_in (cut_tokens header [] e)) ∙ v))
header_read find n last header version (Some (token ∷ tokens)) e v l sound few =
    let w : version_in (token ∷ tokens) ≡ Some version =
    sym (ap version_in (cut_tokens header (token ∷ tokens) e)) ∙ v in
    rw (plain_line n header sound few, e, w, l) refl

header_says : (header : List ℕ) (version : ℕ) (found : Option (List Token))
    → tokens_of header ≡ found → version_in (tokens_in header) ≡ Some version
    → is_blank_line header ≡ false
header_says header version None e v = rw e refl
header_says header version (Some []) e v =
    absurd (no_version version (sym (ap version_in (cut_tokens header [] e)) ∙ v))
header_says header version (Some (token ∷ tokens)) e v = says_something header token tokens e

quiet_above : (above : List (List ℕ)) (lines : Lines) → AreQuiet lines → All IsBlank above
    → AreQuiet (lines ++ map tokens_in above)
quiet_above [] lines q b = subst AreQuiet (sym (append-nil lines)) q
quiet_above (text ∷ above) lines q b =
    let more = quiet_above above (lines ++ [] ∷ []) (quiet_blank lines q)
    (All-tail IsBlank text above b) in
    let moved : (lines ++ [] ∷ []) ++ map tokens_in above ≡ lines ++ map tokens_in (text ∷ above) =
    append_assoc lines ([] ∷ []) (map tokens_in above)
    ∙ ap (λ (ts : List Token). lines ++ ts ∷ map tokens_in above)
    (sym (blank_in text (All-head IsBlank text above b))) in
    subst AreQuiet moved more

no_threads_above : (above : List (List ℕ)) → All IsBlank above → All IsLineText above
    → threads_begun above ≡ []
no_threads_above [] b sound = refl
no_threads_above (text ∷ above) b sound =
    let none : just_thread (tokens_in text) ≡ None =
    rw (blank_in text (All-head IsBlank text above b)) refl in
    let here : thread_in text ≡ None =
    thread_at text (All-head IsLineText text above sound) ∙ none in
    rw here (no_threads_above above (All-tail IsBlank text above b)
    (All-tail IsLineText text above sound))

not_empty : {A : Type 0} (xs : List A) → 1 ≤ length xs → is_empty xs ≡ false
not_empty [] h = absurd (omega (arith, h))
not_empty (x ∷ xs) h = some_there x xs

not_all : (b c : Bool) → (b && (false && c)) ≡ false
not_all true c = refl
not_all false c = refl

no_name_yet : (kind : NameKind) → list_of kind no_names ≡ []
no_name_yet kinds.Thread = refl
no_name_yet kind = refl

module _ (bytes : List ℕ) (script : ScriptText) (s : Spells bytes script) where
  sound_all : All IsLineText (s.above ++ s.header ∷ s.below)
  sound_all = subst (All IsLineText) s.split s.sound

  sound_above : All IsLineText s.above
  sound_above = all_front IsLineText s.above (s.header ∷ s.below) sound_all

  sound_rest : All IsLineText (s.header ∷ s.below)
  sound_rest = all_back IsLineText s.above (s.header ∷ s.below) sound_all

  sound_header : IsLineText s.header
  sound_header = All-head IsLineText s.header s.below sound_rest

  sound_below : All IsLineText s.below
  sound_below = All-tail IsLineText s.header s.below sound_rest

  lengths : length (lines_of bytes) ≡ length s.above + suc (length s.below)
  lengths =
      ap (λ (ls : List (List ℕ)). length ls) s.split ∙ length-append s.above (s.header ∷ s.below)

  some_names : 1 ≤ length script.names.threads
  some_names = subst (λ (n : ℕ). 1 ≤ n) s.fits.same_threads s.fits.some_thread

  -- the threads that the lines begin are the script's
  threads_are : threads_begun (lines_of bytes) ≡ script.names.threads
  threads_are =
      let header = header_is (tokens_in s.header) script.version s.version in
      let none : thread_in s.header ≡ None =
      thread_at s.header sound_header ∙ ap just_thread header.1 in
      let behind : threads_begun (s.header ∷ s.below) ≡ threads_begun s.below = rw none refl in
      ap threads_begun s.split ∙ filter_map-append thread_in s.above (s.header ∷ s.below)
      ∙ ap (λ (xs : List (List ℕ)). xs ++ threads_begun (s.header ∷ s.below))
      (no_threads_above s.above s.blank sound_above)
      ∙ behind ∙ threads_same script.version (length s.above + 2) s.below _ s.lines sound_below
      ∙ s.names_are kinds.Thread

  some_below : (below : List (List ℕ))
      → names_of kinds.Thread (map tokens_in below) ≡ script.names.threads → is_empty below ≡ false
  some_below [] e = absurd (omega (arith, some_names, ap (λ (xs : List (List ℕ)). length xs) e))
  some_below (text ∷ texts) e = some_there text texts

  abbrev find : Finder
  find name = place_of name script.names.threads

  abbrev before : Lines
  before = map tokens_in s.above ++ tokens_in s.header ∷ []

  begun : Stands (first_part script.version) before
  begun =
      begun_stands (map tokens_in s.above) (tokens_in s.header) script.version s.version
      (quiet_above s.above [] quiet_none s.blank)

  above_all : IsAbove script s.names find (first_part script.version) before [] s.below
  above_all = record {
    version = refl;
    stands = begun;
    are_values = record { vars = refl; sems = refl; barriers = refl };
    names =
        λ kind. filter_map-append (declared_name kind) before (map tokens_in s.below)
        ∙ ap (λ (xs : List (List ℕ)). xs ++ names_of kind (map tokens_in s.below))
        (begun.names kind ∙ no_name_yet kind) ∙ s.names_are kind;
    vars = s.vars;
    sems = s.sems;
    barriers = s.barriers;
  }

  abbrev last : ReadPart
  last =
      having script.names s.names.distinct (top_part script s.names find) script.names.threads
      script.threads []

  whole_last : IsWhole last
  whole_last = record { closed = refl; threads = not_empty script.names.threads some_names }

  few_threads : length script.names.threads ≤ most_threads script.version
  few_threads =
      subst (λ (n : ℕ). n ≤ most_threads script.version) s.fits.same_threads s.fits.few_threads

  runs : Runs find (first_part script.version)
      (s.top ++ all_thread_lines script.names script.names.threads script.threads) last
  runs =
      tops_run script s.names find s.below (length s.above + 2) (first_part script.version) s.top
      (all_thread_lines script.names script.names.threads script.threads) before [] last
      (record { no_names = refl; no_threads = refl; no_blocks = refl }) above_all s.lines
      s.above_threads (threads_quiet script.names script.names.threads script.threads)
      (threads_run script.names s.names.distinct (top_part script s.names find) []
      script.names.threads [] script.threads refl s.fits.same_threads few_threads
      s.fits.threads_fit)

  below_read : script_from find (Some (first_part script.version)) (length s.above + 2)
      s.below ≡ Ok (script_of last)
  below_read =
      lines_read find s.below (length s.above + 2) (first_part script.version) last _ before begun
      s.lines runs whole_last sound_below (omega (arith, lengths, s.few_lines))

  from_header : script_from find None (1 + length s.above) (s.header ∷ s.below) ≡ Ok script
  from_header =
      let step = header_read find (1 + length s.above) (is_empty s.below) s.header script.version
      (tokens_of s.header) refl s.version (some_below s.below (s.names_are kinds.Thread))
      sound_header (omega (arith, lengths, s.few_lines)) in
      let same : 1 + length s.above + 1 ≡ length s.above + 2 = omega arith in
      rw step (ap (λ (n : ℕ). script_from find (Some (first_part script.version)) n s.below)
      same ∙ below_read)

  says : are_blank (lines_of bytes) ≡ false
  says =
      let header = header_says s.header script.version (tokens_of s.header) refl s.version in
      ap are_blank s.split ∙ list_all-append is_blank_line s.above (s.header ∷ s.below)
      ∙ rw header (not_all (are_blank s.above) (are_blank s.below))

  all_read : script_from (λ name. place_of name (threads_begun (lines_of bytes))) None 1
      (lines_of bytes) ≡ Ok script
  all_read =
      subst (λ (ts : List (List ℕ)). script_from (λ name. place_of name ts) None 1
      (lines_of bytes) ≡ Ok script) (sym threads_are)
      (subst (λ (ls : List (List ℕ)). script_from find None 1 ls ≡ Ok script) (sym s.split)
      (above_read find s.above (s.header ∷ s.below) 1 s.blank sound_above
      (omega (arith, lengths, s.few_lines)) ∙ from_header))

  -- a text that spells a script is read as it
  pub spelled_is_read : read_as_script bytes ≡ Ok script
  spelled_is_read = rw (le-ltb 1048576 (length bytes) s.small, says) all_read

-- ---- each text spells one script, or has one first fault
