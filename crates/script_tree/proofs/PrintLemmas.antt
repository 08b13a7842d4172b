-- What has been printed of statements.
use Rattle.std.proofs.Common.{◌≡◌, ℕ, ◌+◌, ◌<◌, ◌≤◌, true, List, [], ◌∷◌, ◌++◌, length, get_or}
use Rattle.std.proofs.Common.{drop, refl, sym, ap, ◌∙◌, append_assoc}
use Rattle.std.specs.Prelude.{codes}
use Rattle.std.specs.List.{flat_map}
use Rattle.std.proofs.lemmas.Bool.{and_from}
use Rattle.std.proofs.lemmas.List.{map-append, append-nil, at_drop_more, at_drop_all}
use Rattle.pct_ask.specs.NameLists.{NameLists}
use Rattle.script_tree.specs.Seen.{statement, statements, block}
use Rattle.script_tree.specs.declared.stmt.Block.{Block}
use Rattle.script_tree.specs.declared.stmt.Stmt.{Stmt}
use Rattle.script_tree.proofs.laws.Conjunctions.{all-append}
use Rattle.script_tree.proofs.laws.SeenParts.{statement_list-block}
use Rattle.script_tree.specs.Trees.{Statements, Closed, Then, statement_list, end_line}
use Rattle.script_tree.specs.Forms.{MeantForm}
use Rattle.script_tree.specs.Forms as forms
use Rattle.script_tree.specs.Grammar.{Line, statement_lines, block_lines}
use Rattle.script_tree.specs.Layout.{form_text, meanings}
use Rattle.script_tree.specs.Printing.{printed_lines, are_ranged, is_ranged_form}

pub printed-append : (a b : List Line) → printed_lines (a ++ b) ≡ printed_lines a ++ printed_lines b
printed-append [] b = refl
printed-append (line ∷ a) b =
    ap (λ text. form_text line.1 ++ 10 ∷ text) (printed-append a b)
    ∙ sym (append_assoc (form_text line.1) (10 ∷ printed_lines a) (printed_lines b))

pub are_ranged-append : (a b : List Line) → are_ranged a ≡ true → are_ranged b ≡ true
    → are_ranged (a ++ b) ≡ true
are_ranged-append a b in_a in_b =
    rw (map-append (λ (line : Line). line.1) a b)
    (all-append is_ranged_form (meanings a) (meanings b) in_a in_b)

-- the lines of statements alone
abbrev pub inner_lines : NameLists → Statements → List Line
inner_lines names body = flat_map (statement_lines names) (statement_list body)

pub block_lines-parts : (names : NameLists) (closing : MeantForm) (body : Statements)
    → block_lines names closing body ≡ inner_lines names body ++ (end_line body, closing) ∷ []
block_lines-parts names closing (Closed line) = refl
block_lines-parts names closing (Then s rest) =
    ap (λ lines. statement_lines names s ++ lines) (block_lines-parts names closing rest)
    ∙ sym (append_assoc (statement_lines names s) (inner_lines names rest)
    ((end_line rest, closing) ∷ []))

pub printed-block : (names : NameLists) (closing : MeantForm) (body : Statements)
    → printed_lines (block_lines names closing body)
    ≡ printed_lines (inner_lines names body) ++ (form_text closing ++ 10 ∷ [])
printed-block names closing body =
    ap printed_lines (block_lines-parts names closing body)
    ∙ printed-append (inner_lines names body) ((end_line body, closing) ∷ [])

pub ranged-block : (names : NameLists) (closing : MeantForm) (body : Statements)
    → is_ranged_form closing ≡ true → are_ranged (inner_lines names body) ≡ true
    → are_ranged (block_lines names closing body) ≡ true
ranged-block names closing body plain inner =
    rw (block_lines-parts names closing body)
    (are_ranged-append (inner_lines names body) ((end_line body, closing) ∷ []) inner
    (and_from (is_ranged_form closing) true plain refl))

one_block : (out first body last : List ℕ)
    → ((out ++ (first ++ 10 ∷ [])) ++ body) ++ last ≡ out ++ (first ++ 10 ∷ (body ++ last))
one_block out first body last = simp append_assoc

two_blocks : (out first body middle other last : List ℕ)
    → ((((out ++ (first ++ 10 ∷ [])) ++ body) ++ middle) ++ other) ++ last
    ≡ out ++ (first ++ 10 ∷ ((body ++ middle) ++ (other ++ last)))
two_blocks out first body middle other last = simp append_assoc

-- a line, the statements of its block, and `end`
pub one-printed : (names : NameLists) (body : Statements)
    (first out after_first after_body after : List ℕ)
    → after_first ≡ out ++ (first ++ 10 ∷ [])
    → after_body ≡ after_first ++ printed_lines (inner_lines names body)
    → after ≡ after_body ++ (codes "end" ++ 10 ∷ [])
    → after ≡ out ++ (first ++ 10 ∷ printed_lines (block_lines names forms.End body))
one-printed names body first out after_first after_body after e1 e2 e3 =
    e3 ∙ ap (λ t. t ++ (codes "end" ++ 10 ∷ []))
    (e2 ∙ ap (λ t. t ++ printed_lines (inner_lines names body)) e1)
    ∙ one_block out first (printed_lines (inner_lines names body)) (codes "end" ++ 10 ∷ [])
    ∙ ap (λ t. out ++ (first ++ 10 ∷ t)) (sym (printed-block names forms.End body))

-- a line, the statements of two blocks, and what closes them
pub two-printed : (names : NameLists) (body other : Statements)
    (first out after_first after_body after_else after_other after : List ℕ)
    → after_first ≡ out ++ (first ++ 10 ∷ [])
    → after_body ≡ after_first ++ printed_lines (inner_lines names body)
    → after_else ≡ after_body ++ (codes "else" ++ 10 ∷ [])
    → after_other ≡ after_else ++ printed_lines (inner_lines names other)
    → after ≡ after_other ++ (codes "end" ++ 10 ∷ [])
    → after ≡ out ++ (first ++ 10 ∷ printed_lines
    (block_lines names forms.Else body ++ block_lines names forms.End other))
two-printed names body other first out after_first after_body after_else after_other after e1 e2 e3
    e4 e5 =
    let P : List ℕ = printed_lines (inner_lines names body) in
    let Q : List ℕ = printed_lines (inner_lines names other) in
    let E : List ℕ = codes "else" ++ 10 ∷ [] in
    let F : List ℕ = codes "end" ++ 10 ∷ [] in
    e5 ∙ ap (λ t. t ++ F) (e4 ∙ ap (λ t. t ++ Q) (e3 ∙ ap (λ t. t ++ E) (e2 ∙ ap (λ t. t ++ P) e1)))
    ∙ two_blocks out first P E Q F
    ∙ ap (λ t. out ++ (first ++ 10 ∷ (t ++ (Q ++ F)))) (sym (printed-block names forms.Else body))
    ∙ ap (λ t. out ++ (first ++ 10 ∷ (printed_lines (block_lines names forms.Else body) ++ t)))
    (sym (printed-block names forms.End other))
    ∙ ap (λ t. out ++ (first ++ 10 ∷ t))
    (sym (printed-append (block_lines names forms.Else body)
    (block_lines names forms.End other)))

-- one more piece of what is printed one after another
pub printed-more : (now piece rest all after : List ℕ) → now ++ (piece ++ rest) ≡ all
    → after ≡ now ++ piece → after ++ rest ≡ all
printed-more now piece rest all after e piece_is =
    ap (λ t. t ++ rest) piece_is ∙ append_assoc now piece rest ∙ e

-- ---- statements one after another

-- the lines of statements of the code
abbrev pub lines_in : NameLists → List Stmt → List Line
lines_in names items = flat_map (statement_lines names) (statements items)

lines_in-drop : (names : NameLists) (items : List Stmt) (i : ℕ) (stmt : Stmt) → i < length items
    → stmt ≡ get_or items i stmt → lines_in names (drop i items)
    ≡ statement_lines names (statement stmt) ++ lines_in names (drop (i + 1) items)
lines_in-drop names items i stmt within is =
    at_drop_more (lines_in names) items i stmt within
    ∙ ap (λ s. statement_lines names (statement s) ++ lines_in names (drop (i + 1) items))
    (sym is)

pub more-written : (names : NameLists) (items : List Stmt) (i : ℕ) (stmt : Stmt)
    (now all after : List ℕ) → i < length items → stmt ≡ get_or items i stmt
    → now ++ printed_lines (lines_in names (drop i items)) ≡ all
    → after ≡ now ++ printed_lines (statement_lines names (statement stmt))
    → after ++ printed_lines (lines_in names (drop (i + 1) items)) ≡ all
more-written names items i stmt now all after within is so_far piece =
    let S : List Line = statement_lines names (statement stmt) in
    let R : List Line = lines_in names (drop (i + 1) items) in
    printed-more now (printed_lines S) (printed_lines R) all after
    (ap (λ t. now ++ t) (sym (ap printed_lines (lines_in-drop names items i stmt within is)
    ∙ printed-append S R)) ∙ so_far) piece

pub more-ranged : (names : NameLists) (items : List Stmt) (i : ℕ) (stmt : Stmt) (all : List Line)
    → i < length items → stmt ≡ get_or items i stmt
    → (are_ranged (lines_in names (drop i items)) ≡ true → are_ranged all ≡ true)
    → are_ranged (statement_lines names (statement stmt)) ≡ true
    → are_ranged (lines_in names (drop (i + 1) items)) ≡ true → are_ranged all ≡ true
more-ranged names items i stmt all within is so_far piece rest =
    so_far (ap are_ranged (lines_in-drop names items i stmt within is)
    ∙ are_ranged-append (statement_lines names (statement stmt))
    (lines_in names (drop (i + 1) items)) piece rest)

body_lines : (names : NameLists) (items : List Stmt) (body : Block) → items ≡ body.stmts.items
    → lines_in names items ≡ inner_lines names (block body)
body_lines names items body same =
    ap (lines_in names) same ∙ ap (flat_map (statement_lines names))
    (sym (statement_list-block body))

pub all-written : (names : NameLists) (items : List Stmt) (i : ℕ) (body : Block)
    (out start : List ℕ) → length items ≤ i → items ≡ body.stmts.items
    → out ++ printed_lines (lines_in names (drop i items))
    ≡ start ++ printed_lines (lines_in names items)
    → out ≡ start ++ printed_lines (inner_lines names (block body))
all-written names items i body out start past same so_far =
    sym (append-nil out) ∙ ap (λ lines. out ++ printed_lines lines)
    (sym (at_drop_all (lines_in names) items i past)) ∙ so_far
    ∙ ap (λ lines. start ++ printed_lines lines) (body_lines names items body same)

pub all-ranged : (names : NameLists) (items : List Stmt) (i : ℕ) (body : Block) → length items ≤ i
    → items ≡ body.stmts.items
    → (are_ranged (lines_in names (drop i items)) ≡ true → are_ranged (lines_in names items) ≡ true)
    → are_ranged (inner_lines names (block body)) ≡ true
all-ranged names items i body past same so_far =
    ap are_ranged (sym (body_lines names items body same))
    ∙ so_far (ap are_ranged (at_drop_all (lines_in names) items i past))
