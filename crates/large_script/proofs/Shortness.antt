-- The print of the large script is within the limits of scripts.
use Rattle.std.proofs.Common.{◌≡◌, ℕ, zero, suc, ◌+◌, ◌*◌, ◌<◌, ◌≤◌, true, Bool, List, [], ◌∷◌}
use Rattle.std.proofs.Common.{◌++◌, length, length-append, map, Vec, Global, Result, Ok, Err, All}
use Rattle.std.proofs.Common.{refl, sym, ap, ◌∙◌, subst, arith}
use Rattle.std.specs.Prelude.{◌&&◌, ◌==◌, nat_le, codes, IfOk}
use Rattle.std.specs.declared.alloc.AllocError.{AllocError}
use Rattle.std.specs.List.{list_all}
use Rattle.std.specs.Fmt.{digits}
use Rattle.std.proofs.lemmas.Bool.{and_parts, and_from, leb-true}
use Rattle.std.proofs.lemmas.List.{map-append, length-map}
use Rattle.std.proofs.lemmas.List.Elements.{All-nil, All-cons}
use Rattle.pct_ask.specs.Lines.{lines_of, text_of_lines}
use Rattle.script_tree.specs.Trees.{Statement, closed_at}
use Rattle.script_tree.specs.ScriptText.{ScriptText}
use Rattle.script_tree.specs.Forms.{MeantForm, End}
use Rattle.script_tree.specs.Forms as forms
use Rattle.script_tree.specs.Grammar.{Spells, Line, statement_lines, block_lines, thread_lines}
use Rattle.script_tree.specs.Grammar.{all_thread_lines}
use Rattle.script_tree.specs.Layout.{form_text, meanings, forms_of, declared_forms}
use Rattle.script_tree.specs.Layout.{header_text, layout}
use Rattle.script_tree.specs.Renumbering.{IsShort, renumbered_script}
use Rattle.script_tree.proofs.laws.Conjunctions.{all-append}
use Rattle.script_tree.proofs.laws.PlainLines.{is_plain, ArePlain, lines_of_text}
use Rattle.large_script.specs.Large.{large_names, large_script, pieces, joins_of, sums, last_checks}
use Rattle.large_script.specs.Large.{added_all_test, unset_thread, open_piece, locked_piece}
use Rattle.large_script.proofs.Simple.{at_eight, pieces_hold, length-pieces, one_of}

-- a printed line of at most forty bytes
abbrev is_short : List ℕ → Bool
is_short line = list_all is_plain line && nat_le (length line) 40

are_plain : (lines : List (List ℕ)) → list_all is_short lines ≡ true → ArePlain lines
are_plain [] short = tt
are_plain (line ∷ lines) short =
    let both = and_parts (is_short line) (list_all is_short lines) short in (
      (and_parts (list_all is_plain line) (nat_le (length line) 40) both.0).0,
      are_plain lines both.1,
    )

abbrev IsLow : List ℕ → Type 0
IsLow line = length line ≤ 256

low : (line : List ℕ) → is_short line ≡ true → length line ≤ 40
low line short =
    leb-true (length line) 40 (and_parts (list_all is_plain line) (nat_le (length line) 40) short).1

are_low : (lines : List (List ℕ)) → list_all is_short lines ≡ true → All IsLow lines
are_low [] short = All-nil IsLow
are_low (line ∷ lines) short =
    let both = and_parts (is_short line) (list_all is_short lines) short in
    All-cons IsLow line lines (omega (arith, low line both.0)) (are_low lines both.1)

text_size : (lines : List (List ℕ)) → list_all is_short lines ≡ true
    → length (text_of_lines lines) ≤ 41 * length lines
text_size [] short = omega arith
text_size (line ∷ lines) short =
    let both = and_parts (is_short line) (list_all is_short lines) short in
    omega (
      arith,
      low line both.0,
      text_size lines both.1,
      length-append line (10 ∷ text_of_lines lines),
    )

short_text : (lines : List (List ℕ)) → list_all is_short lines ≡ true → length lines ≤ 4096
    → IsShort (text_of_lines lines)
short_text lines short few =
    let same : lines_of (text_of_lines lines) ≡ lines =
    lines_of_text lines (are_plain lines short) in
    record {
      small = omega (arith, text_size lines short);
      few_lines = subst (λ them. length them ≤ 4096) (sym same) few;
      short_lines = subst (All IsLow) (sym same) (are_low lines short);
    }

-- ---- the lines of statements

abbrev texts : List Line → List (List ℕ)
texts lines = map form_text (meanings lines)

texts-append : (a b : List Line) → texts (a ++ b) ≡ texts a ++ texts b
texts-append a b =
    ap (map form_text) (map-append (λ line. line.1) a b)
    ∙ map-append form_text (meanings a) (meanings b)

-- a statement of one line, which is short
abbrev prints_short : Statement → Bool
prints_short s =
    list_all is_short (texts (statement_lines large_names s))
    && (length (statement_lines large_names s) == 1)

open_short : (var : ℕ) → var < 8 → list_all prints_short (open_piece var) ≡ true
unfolding digits
open_short =
    at_eight (λ var. list_all prints_short (open_piece var) ≡ true) refl refl refl refl refl refl
    refl refl

locked_short : (var : ℕ) → var < 8 → list_all prints_short (locked_piece var) ≡ true
unfolding digits
locked_short =
    at_eight (λ var. list_all prints_short (locked_piece var) ≡ true) refl refl refl refl refl refl
    refl refl

end_short : list_all is_short (texts ((1, End) ∷ [])) ≡ true
end_short = refl

block_short : (ss : List Statement) → list_all prints_short ss ≡ true
    → list_all is_short (texts (block_lines large_names End (closed_at 1 ss))) ≡ true
block_short [] short = end_short
block_short (s ∷ ss) short =
    let both = and_parts (prints_short s) (list_all prints_short ss) short in
    let own = and_parts (list_all is_short (texts (statement_lines large_names s)))
    (length (statement_lines large_names s) == 1) both.0 in
    let rest = block_lines large_names End (closed_at 1 ss) in
    rw (texts-append (statement_lines large_names s) rest)
    (all-append is_short (texts (statement_lines large_names s)) (texts rest) own.0
    (block_short ss both.1))

block_length : (ss : List Statement) → list_all prints_short ss ≡ true
    → length (block_lines large_names End (closed_at 1 ss)) ≡ length ss + 1
block_length [] short = refl
block_length (s ∷ ss) short =
    let both = and_parts (prints_short s) (list_all prints_short ss) short in
    let own = and_parts (list_all is_short (texts (statement_lines large_names s)))
    (length (statement_lines large_names s) == 1) both.0 in
    let one : length (statement_lines large_names s) ≡ 1 =
    one_of (length (statement_lines large_names s)) own.1 in
    omega (
      arith,
      length-append (statement_lines large_names s)
          (block_lines large_names End (closed_at 1 ss)),
      block_length ss both.1,
    )

-- ---- the lines of threads

-- whatever their names are, the lines of these threads are short, and there are so many of them
record Prints (lines : List Line) (many : ℕ) : Type 0 where
  short : list_all is_short (texts lines) ≡ true
  count : length lines ≡ many

prints-append : (a b : List Line) (m n : ℕ) → Prints a m → Prints b n → Prints (a ++ b) (m + n)
prints-append a b m n first rest = record {
  short = rw (texts-append a b) (all-append is_short (texts a) (texts b) first.short rest.short);
  count = omega (arith, length-append a b, first.count, rest.count);
}

thread_prints : (name : List ℕ) (ss : List Statement)
    → is_short (form_text (forms.Thread name)) ≡ true → list_all prints_short ss ≡ true
    → Prints (thread_lines large_names name (unset_thread ss)) (length ss + 2)
thread_prints name ss head short = record {
  short =
      and_from (is_short (form_text (forms.Thread name)))
      (list_all is_short (texts (block_lines large_names End (closed_at 1 ss)))) head
      (block_short ss short);
  count = omega (arith, block_length ss short);
}

worker_prints : (name : List ℕ) (thread many : ℕ) → is_short (form_text (forms.Thread name)) ≡ true
    → Prints (thread_lines large_names name (unset_thread (pieces thread many))) (4 * many + 2)
worker_prints name thread many head =
    subst (λ n. Prints (thread_lines large_names name (unset_thread (pieces thread many))) (n + 2))
    (length-pieces thread many)
    (thread_prints name (pieces thread many) head
    (pieces_hold prints_short open_short locked_short thread many))

-- ---- the last thread

-- whether the numbers below this one pass
abbrev pass_below : (ℕ → Bool) → ℕ → Bool
pass_below test zero = true
pass_below test (suc n) = test 0 && pass_below (λ k. test (suc k)) n

passes : (test : ℕ → Bool) (n k : ℕ) → pass_below test n ≡ true → k < n → test k ≡ true
passes test zero k all low = absurd (omega arith)
passes test (suc n) zero all low = (and_parts (test 0) (pass_below (λ k. test (suc k)) n) all).0
passes test (suc n) (suc k) all low =
    passes (λ k. test (suc k)) n k (and_parts (test 0) (pass_below (λ k. test (suc k)) n) all).1
    (omega arith)

wholes_short : pass_below (λ many. list_all prints_short (added_all_test many ∷ [])) 101 ≡ true
unfolding digits
wholes_short = refl

sums_short : list_all prints_short (joins_of 8 ++ sums 8) ≡ true
unfolding digits
sums_short = refl

checks_short : (many : ℕ) → many ≤ 100 → list_all prints_short (last_checks many) ≡ true
checks_short many high =
    all-append prints_short (joins_of 8 ++ sums 8) (added_all_test many ∷ []) sums_short
    (passes (λ many. list_all prints_short (added_all_test many ∷ [])) 101 many wholes_short
    (omega arith))

checker_prints : (name : List ℕ) (many : ℕ) → many ≤ 100
    → is_short (form_text (forms.Thread name)) ≡ true
    → Prints (thread_lines large_names name (unset_thread (last_checks many))) 27
checker_prints name many high head =
    thread_prints name (last_checks many) head (checks_short many high)

-- ---- the whole print

no_more : Prints [] 0
no_more = record { short = refl; count = refl }

abbrev thread_text_lines : ℕ → List Line
thread_text_lines many =
    all_thread_lines large_names large_names.threads (large_script many).threads

threads_print : (many : ℕ) → many ≤ 100 → Prints (thread_text_lines many)
    (4 * many + 2 + (4 * many + 2 + (4 * many + 2
    + (4 * many + 2 + (4 * many + 2 + (4 * many + 2
    + (4 * many + 2 + (4 * many + 2 + (27 + 0)))))))))
threads_print many high =
    let one =
    λ (name : List ℕ) (thread : ℕ) (head : is_short (form_text (forms.Thread name)) ≡ true)
    (more : List Line) (n : ℕ) (rest : Prints more n).
    prints-append (thread_lines large_names name (unset_thread (pieces thread many))) more
    (4 * many + 2) n (worker_prints name thread many head) rest in
    one (codes "T0") 0 refl _ _ (one (codes "T1") 1 refl _ _
    (one (codes "T2") 2 refl _ _ (one (codes "T3") 3 refl _ _
    (one (codes "T4") 4 refl _ _ (one (codes "T5") 5 refl _ _
    (one (codes "T6") 6 refl _ _ (one (codes "T7") 7 refl _ _
    (prints-append (thread_lines large_names (codes "Z") (unset_thread (last_checks many))) [] 27 0
    (checker_prints (codes "Z") many high refl) no_more))))))))

abbrev top : ℕ → List MeantForm
top many = declared_forms (large_script many)

top_short : (many : ℕ) → list_all is_short (header_text 1 ∷ map form_text (top many)) ≡ true
unfolding digits
top_short many = refl

abbrev printed_lines : ℕ → List (List ℕ)
printed_lines many = header_text 1 ∷ map form_text (forms_of (large_script many))

printed_parts : (many : ℕ) → map form_text (forms_of (large_script many))
    ≡ map form_text (top many) ++ texts (thread_text_lines many)
printed_parts many = map-append form_text (top many) (meanings (thread_text_lines many))

printed_short : (many : ℕ) → many ≤ 100 → list_all is_short (printed_lines many) ≡ true
printed_short many high =
    subst (λ below. list_all is_short (header_text 1 ∷ below) ≡ true) (sym (printed_parts many))
    (all-append is_short (header_text 1 ∷ map form_text (top many)) (texts (thread_text_lines many))
    (top_short many) (threads_print many high).short)

lines_count : (many : ℕ) → length (texts (thread_text_lines many)) ≡ length (thread_text_lines many)
lines_count many =
    length-map (meanings (thread_text_lines many)) form_text
    ∙ length-map (thread_text_lines many) (λ line. line.1)

printed_count : (many : ℕ) → many ≤ 100 → length (printed_lines many) ≡ 32 * many + 60
printed_count many high =
    let printed = threads_print many high in
    omega (
      arith,
      ap length (printed_parts many),
      length-append (map form_text (top many)) (texts (thread_text_lines many)),
      lines_count many,
      printed.count,
    )

-- at most 3,260 lines of at most forty bytes
pub layout_short : (many : ℕ) → many ≤ 100 → IsShort (layout (large_script many))
layout_short many high =
    short_text (printed_lines many) (printed_short many high)
    (omega (arith, printed_count many high))

-- how many lines it has
pub layout_lines : (many : ℕ) → many ≤ 100
    → length (lines_of (layout (large_script many))) ≡ 32 * many + 60
layout_lines many high =
    ap length (lines_of_text (printed_lines many)
    (are_plain (printed_lines many) (printed_short many high))) ∙ printed_count many high

-- what is promised of a print, of this one
pub spelled_of : (result : Result (Vec ℕ Global) AllocError) (script : ScriptText) (many : ℕ)
    → many ≤ 100 → script ≡ large_script many
    → IfOk result (λ bytes. bytes.items ≡ layout script)
    → IfOk result (λ bytes. IsShort bytes.items → Spells bytes.items (renumbered_script script))
    → IfOk result (λ bytes. Spells bytes.items (renumbered_script (large_script many)))
spelled_of (Err e) script many high same prints spells = tt
spelled_of (Ok bytes) script many high same prints spells =
    let print : bytes.items ≡ layout (large_script many) = prints ∙ ap layout same in
    subst (λ it. Spells bytes.items (renumbered_script it)) same
    (spells (subst IsShort (sym print) (layout_short many high)))
