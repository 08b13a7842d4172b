-- The steps of reading a text, as the code takes them.
use Rattle.std.proofs.Common.{◌≡◌, ℕ, ◌+◌, ◌≤◌, ◌<◌, false, length, List, [], ◌∷◌, Option, Some}
use Rattle.std.proofs.Common.{None, Result, Ok, Err, refl, sym, ap, ◌∙◌, subst, arith}
use Rattle.std.specs.Prelude.{◌==◌}
use Rattle.std.proofs.lemmas.Bool.Decides.{nat_tests}
use Rattle.pct_ask.specs.Lines.{lines_of}
use Rattle.pct_ask.specs.NameLists.{place_of}
use Rattle.script_tree.specs.ScriptText.{ScriptText}
use Rattle.script_tree.specs.declared.fault.ScriptFault.{ScriptFault}
use Rattle.script_tree.specs.Fitting.{IsScript}
use Rattle.script_tree.specs.Lines.{threads_begun}
use Rattle.script_tree.specs.Faults.{are_blank}
use Rattle.script_parse.specs.Part.{ReadPart}
use Rattle.script_parse.specs.Reading.{Finder, is_empty, line_taken, script_from, read_as_script}
use Rattle.script_parse.specs.Reading.{script_of, script_at_end}
use Rattle.script_parse.proofs.Spelled.{read_is_spelled}
use Rattle.script_parse.proofs.ReadAnswers.{read_by}
use Rattle.script_parse.proofs.Runs.{some_there}

abbrev Found : Type 0
Found = Result ScriptText (ℕ × ScriptFault)

-- the line of the last number is the last one
pub last_is : (n total : ℕ) (line : List ℕ) (lines : List (List ℕ)) → n + length lines ≡ total
    → (n == total) ≡ is_empty lines
last_is n total line [] e = let same : n ≡ total = omega (arith, e) in grind (arith, nat_tests)
last_is n total line (text ∷ texts) e =
    let less : n < total = omega (arith, e) in
    let differs : (n == total) ≡ false = grind (arith, nat_tests) in
    differs ∙ sym (some_there text texts)

pub reads_on : (find : Finder) (state next : Option ReadPart) (n : ℕ) (line : List ℕ)
    (lines : List (List ℕ)) → line_taken state find n (is_empty lines) line
    ≡ Ok next → script_from find state n (line ∷ lines) ≡ script_from find next (n + 1) lines
reads_on find state next n line lines e = rw e refl

pub stops_at : (find : Finder) (state : Option ReadPart) (n : ℕ) (kind : ScriptFault)
    (line : List ℕ)
    (lines : List (List ℕ)) → line_taken state find n (is_empty lines) line
    ≡ Err kind → ◌≡◌ {A = Found} (script_from find state n (line ∷ lines)) (Err (n, kind))
stops_at find state n kind line lines e = rw e refl

-- A line with a fault ends the reading, where what is left of the lines gives what all of them
-- give.
pub bad_read : (bytes : List ℕ) (find : Finder) (state : Option ReadPart) (n total : ℕ)
    (kind : ScriptFault) (line : List ℕ) (left lines : List (List ℕ))
    → length bytes ≤ 1048576 → are_blank (lines_of bytes) ≡ false
    → ((name : List ℕ) → find name ≡ place_of name (threads_begun (lines_of bytes)))
    → script_from find state n left
    ≡ script_from find None 1 (lines_of bytes) → n + length left ≡ total + 1 → left ≡ line ∷ lines
    → Err kind ≡ line_taken state find n (n == total) line
    → ◌≡◌ {A = Found} (read_as_script bytes) (Err (n, kind))
bad_read bytes find state n total kind line left lines small says same rest number cut bad =
    let counted : n + length lines ≡ total = omega (arith, number, ap length cut) in
    let last = last_is n total line lines counted in
    let here : line_taken state find n (is_empty lines) line ≡ Err kind =
    subst (λ b. line_taken state find n b line ≡ Err kind) last (sym bad) in
    let stops : script_from find state n left ≡ Err (n, kind) =
    subst (λ ls. script_from find state n ls ≡ Err (n, kind)) (sym cut)
    (stops_at find state n kind line lines here) in
    read_by bytes find (Err (n, kind)) small says same (sym rest ∙ stops)

-- a line with no fault leaves what all lines give to those behind it
pub next_read : (find : Finder) (state next : Option ReadPart) (n total : ℕ) (line : List ℕ)
    (left lines all : List (List ℕ)) → script_from find state n left ≡ script_from find None 1 all
    → n + length left ≡ total + 1 → left ≡ line ∷ lines
    → Ok next ≡ line_taken state find n (n == total) line → script_from find next (n + 1) lines
    ≡ script_from find None 1 all
next_read find state next n total line left lines all rest number cut good =
    let counted : n + length lines ≡ total = omega (arith, number, ap length cut) in
    let last = last_is n total line lines counted in
    let here : line_taken state find n (is_empty lines) line ≡ Ok next =
    subst (λ b. line_taken state find n b line ≡ Ok next) last (sym good) in
    sym (reads_on find state next n line lines here)
    ∙ ap (script_from find state n) (sym cut) ∙ rest

-- where no line is left, all lines were read as what was read last
pub all_read : (find : Finder) (state : Option ReadPart) (part : ReadPart) (n : ℕ)
    (left all : List (List ℕ)) → script_from find state n left
    ≡ script_from find None 1 all → left ≡ [] → state ≡ Some part
    → script_from find None 1 all ≡ Ok (script_of part)
all_read find state part n left all rest none below =
    sym rest ∙ ap (script_from find state n) none ∙ ap script_at_end below

-- what is read behind the last line is a script
pub end_fits : (bytes : List ℕ) (find : Finder) (part : ReadPart) → length bytes ≤ 1048576
    → are_blank (lines_of bytes) ≡ false
    → ((name : List ℕ) → find name ≡ place_of name (threads_begun (lines_of bytes)))
    → script_from find None 1 (lines_of bytes) ≡ Ok (script_of part) → IsScript (script_of part)
end_fits bytes find part small says same e =
    (read_is_spelled bytes (script_of part)
    (read_by bytes find (Ok (script_of part)) small says same e)).fits
