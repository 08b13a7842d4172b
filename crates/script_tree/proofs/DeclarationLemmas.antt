-- What has been printed of declarations and threads.
use Rattle.std.proofs.Common.{◌≡◌, ℕ, suc, ◌+◌, ◌<◌, ◌≤◌, true, List, [], ◌∷◌, ◌++◌, length, get_or}
use Rattle.std.proofs.Common.{drop, map, refl, sym, ap, ◌∙◌, append_assoc}
use Rattle.std.specs.Prelude.{ℤ, pos, negsuc, codes, decimal}
use Rattle.std.specs.List.{flat_map}
use Rattle.std.proofs.lemmas.List.{map-append, append-nil, at_drop_more, at_drop_all}
use Rattle.pct_ask.specs.Numbers.{number_text}
use Rattle.pct_ask.specs.NameLists.{NameLists}
use Rattle.pct_ask.specs.declared.names.NameKind.{NameKind}
use Rattle.pct_ask.specs.Lines.{text_of_lines}
use Rattle.pct_ask.proofs.laws.LineTexts.{text_of_lines-append}
use Rattle.script_tree.specs.Seen.{block}
use Rattle.script_tree.specs.ScriptParts.{thread_text}
use Rattle.script_tree.specs.declared.stmt.ThreadText.{ThreadText}
use Rattle.script_tree.specs.ScriptText.{ScriptText}
use Rattle.script_tree.specs.Forms.{MeantForm, kind_word}
use Rattle.script_tree.specs.Forms as forms
use Rattle.script_tree.specs.Grammar.{Line, thread_lines, all_thread_lines}
use Rattle.script_tree.specs.Layout.{spaced_words, token_text, value_tokens}
use Rattle.script_tree.specs.Layout.{form_text, plain_forms, valued_forms, declared_forms, meanings}
use Rattle.script_tree.specs.Layout.{header_text, layout}
use Rattle.script_tree.specs.Printing.{printed_lines, are_ranged}
use Rattle.script_tree.proofs.PrintLemmas.{printed-append, printed-more}
use Rattle.script_tree.proofs.PrintLemmas.{inner_lines, one-printed, ranged-block}
use Rattle.script_tree.proofs.PrintLemmas.{are_ranged-append}

-- ---- one line more

two_words : (out first last : List ℕ)
    → (out ++ (first ++ 32 ∷ [])) ++ (last ++ 10 ∷ []) ≡ out ++ ((first ++ 32 ∷ last) ++ 10 ∷ [])
two_words out first last = simp append_assoc

four_words : (out first second third last : List ℕ)
    → (((out ++ (first ++ 32 ∷ [])) ++ (second ++ 32 ∷ [])) ++ (third ++ 32 ∷ []))
    ++ (last ++ 10 ∷ []) ≡ out ++ ((first ++ 32 ∷ (second ++ 32 ∷ (third ++ 32 ∷ last))) ++ 10 ∷ [])
four_words out first second third last = simp append_assoc

pub line-more : (now line rest all after : List ℕ) → now ++ (line ++ 10 ∷ rest) ≡ all
    → after ≡ now ++ (line ++ 10 ∷ []) → after ++ rest ≡ all
line-more now line rest all after so_far more =
    printed-more now (line ++ 10 ∷ []) rest all after
    (ap (λ text. now ++ text) (append_assoc line (10 ∷ []) rest) ∙ so_far) more

-- a text of lines
abbrev text_of : List MeantForm → List ℕ
text_of lines = text_of_lines (map form_text lines)

pub plain-more : (kind : NameKind) (names : List (List ℕ)) (i : ℕ)
    (now all after_kind after : List ℕ) → i < length names
    → now ++ text_of (plain_forms kind (drop i names)) ≡ all
    → after_kind ≡ now ++ (kind_word kind ++ 32 ∷ [])
    → after ≡ after_kind ++ (get_or names i [] ++ 10 ∷ [])
    → after ++ text_of (plain_forms kind (drop (i + 1) names)) ≡ all
plain-more kind names i now all after_kind after within so_far e1 e2 =
    let name = get_or names i [] in
    line-more now (spaced_words (kind_word kind ∷ name ∷ []))
    (text_of (plain_forms kind (drop (i + 1) names))) all after
    (ap (λ text. now ++ text) (sym (at_drop_more (λ rest. text_of (plain_forms kind rest)) names
    i [] within)) ∙ so_far)
    (e2 ∙ ap (λ text. text ++ (name ++ 10 ∷ [])) e1 ∙ two_words now (kind_word kind) name)

pub value_text : (value : ℤ) → flat_map token_text (value_tokens value) ≡ number_text value
value_text (pos n) = append-nil (decimal n)
value_text (negsuc n) = ap (λ text. 45 ∷ text) (append-nil (decimal (suc n)))

pub valued-more : (kind : NameKind) (names : List (List ℕ)) (values : List ℤ) (i : ℕ) (value : ℤ)
    (now all after_kind after_name after_sign after : List ℕ) → i < length names → i < length values
    → value ≡ get_or values i value
    → now ++ text_of (valued_forms kind (drop i names) (drop i values)) ≡ all
    → after_kind ≡ now ++ (kind_word kind ++ 32 ∷ [])
    → after_name ≡ after_kind ++ (get_or names i [] ++ 32 ∷ [])
    → after_sign ≡ after_name ++ (codes "=" ++ 32 ∷ [])
    → after ≡ after_sign ++ (number_text value ++ 10 ∷ [])
    → after ++ text_of (valued_forms kind (drop (i + 1) names) (drop (i + 1) values)) ≡ all
valued-more kind names values i value now all after_kind after_name after_sign after within
    within_values is so_far e1 e2 e3 e4 =
    let name = get_or names i [] in
    let kw = kind_word kind in
    let line : List ℕ = kw ++ 32 ∷ (name ++ 32 ∷ (codes "=" ++ 32 ∷ number_text value)) in
    let more_names : drop i names ≡ name ∷ drop (i + 1) names =
    at_drop_more (λ (rest : List (List ℕ)). rest) names i [] within in
    let more_values : drop i values ≡ value ∷ drop (i + 1) values =
    at_drop_more (λ (rest : List ℤ). rest) values i value within_values
    ∙ ap (λ v. v ∷ drop (i + 1) values) (sym is) in
    let rest : List ℕ = text_of (valued_forms kind (drop (i + 1) names) (drop (i + 1) values)) in
    let all_is : text_of (valued_forms kind (drop i names) (drop i values)) ≡ line ++ 10 ∷ rest =
    ap (λ ns. text_of (valued_forms kind ns (drop i values))) more_names
    ∙ ap (λ vs. text_of (valued_forms kind (name ∷ drop (i + 1) names) vs)) more_values
    ∙ ap (λ text. (kw ++ 32 ∷ (name ++ 32 ∷ (codes "=" ++ 32 ∷ text))) ++ 10 ∷ rest)
    (value_text value) in
    line-more now line rest all after (ap (λ text. now ++ text) (sym all_is) ∙ so_far)
    (e4 ∙ ap (λ t. t ++ (number_text value ++ 10 ∷ []))
    (e3 ∙ ap (λ t. t ++ (codes "=" ++ 32 ∷ [])) (e2 ∙ ap (λ t. t ++ (name ++ 32 ∷ [])) e1))
    ∙ four_words now kw name (codes "=") (number_text value))

-- ---- one thread more

-- the lines of threads of the code
abbrev pub threads_in : NameLists → List (List ℕ) → List ThreadText → List Line
threads_in names threads texts = all_thread_lines names threads (map thread_text texts)

threads_in-drop : (names : NameLists) (threads : List (List ℕ)) (texts : List ThreadText) (i : ℕ)
    (text : ThreadText) → i < length threads → i < length texts → text ≡ get_or texts i text
    → threads_in names (drop i threads) (drop i texts)
    ≡ thread_lines names (get_or threads i []) (thread_text text)
    ++ threads_in names (drop (i + 1) threads) (drop (i + 1) texts)
threads_in-drop names threads texts i text within within_texts is =
    let name = get_or threads i [] in
    let more_names : drop i threads ≡ name ∷ drop (i + 1) threads =
    at_drop_more (λ (rest : List (List ℕ)). rest) threads i [] within in
    let more_texts : drop i texts ≡ text ∷ drop (i + 1) texts =
    at_drop_more (λ (rest : List ThreadText). rest) texts i text within_texts
    ∙ ap (λ t. t ∷ drop (i + 1) texts) (sym is) in
    ap (λ ns. threads_in names ns (drop i texts)) more_names
    ∙ ap (λ ts. threads_in names (name ∷ drop (i + 1) threads) ts) more_texts

pub threads-more : (names : NameLists) (threads : List (List ℕ)) (texts : List ThreadText) (i : ℕ)
    (text : ThreadText) (now all after_thread after_name after_body after : List ℕ)
    → i < length threads → i < length texts → text ≡ get_or texts i text
    → now ++ printed_lines (threads_in names (drop i threads) (drop i texts)) ≡ all
    → after_thread ≡ now ++ (codes "thread" ++ 32 ∷ [])
    → after_name ≡ after_thread ++ (get_or threads i [] ++ 10 ∷ [])
    → after_body ≡ after_name ++ printed_lines (inner_lines names (block text.body))
    → after ≡ after_body ++ (codes "end" ++ 10 ∷ [])
    → after ++ printed_lines (threads_in names (drop (i + 1) threads) (drop (i + 1) texts)) ≡ all
threads-more names threads texts i text now all after_thread after_name after_body after within
    within_texts is so_far e1 e2 e3 e4 =
    let name = get_or threads i [] in
    let rest : List Line = threads_in names (drop (i + 1) threads) (drop (i + 1) texts) in
    let first : after_name ≡ now ++ ((codes "thread" ++ 32 ∷ name) ++ 10 ∷ []) =
    e2 ∙ ap (λ t. t ++ (name ++ 10 ∷ [])) e1 ∙ two_words now (codes "thread") name in
    printed-more now (printed_lines (thread_lines names name (thread_text text)))
    (printed_lines rest) all after
    (ap (λ t. now ++ t) (sym (ap printed_lines
    (threads_in-drop names threads texts i text within within_texts is)
    ∙ printed-append (thread_lines names name (thread_text text)) rest)) ∙ so_far)
    (one-printed names (block text.body) (codes "thread" ++ 32 ∷ name) now after_name after_body
    after first e3 e4)

pub threads-ranged : (names : NameLists) (threads : List (List ℕ)) (texts : List ThreadText) (i : ℕ)
    (text : ThreadText) (all : List Line) → i < length threads → i < length texts
    → text ≡ get_or texts i text
    → (are_ranged (threads_in names (drop i threads) (drop i texts)) ≡ true → are_ranged all ≡ true)
    → are_ranged (inner_lines names (block text.body)) ≡ true
    → are_ranged (threads_in names (drop (i + 1) threads) (drop (i + 1) texts)) ≡ true
    → are_ranged all ≡ true
threads-ranged names threads texts i text all within within_texts is so_far inner rest =
    so_far (ap are_ranged (threads_in-drop names threads texts i text within within_texts is)
    ∙ are_ranged-append (thread_lines names (get_or threads i []) (thread_text text))
    (threads_in names (drop (i + 1) threads) (drop (i + 1) texts))
    (ranged-block names forms.End (block text.body) refl inner) rest)

-- ---- the end of a loop

plain_none : (kind : NameKind) (names : List (List ℕ)) (i : ℕ) → length names ≤ i
    → text_of (plain_forms kind (drop i names)) ≡ []
plain_none kind names i past = at_drop_all (λ rest. text_of (plain_forms kind rest)) names i past

pub plain-all : (kind : NameKind) (names : List (List ℕ)) (i : ℕ) (now all : List ℕ)
    → length names ≤ i → now ++ text_of (plain_forms kind (drop i names)) ≡ all → now ≡ all
plain-all kind names i now all past so_far =
    sym (append-nil now) ∙ ap (λ t. now ++ t) (sym (plain_none kind names i past)) ∙ so_far

pub valued-all : (kind : NameKind) (names : List (List ℕ)) (values : List ℤ) (i : ℕ)
    (now all : List ℕ) → length names ≤ i
    → now ++ text_of (valued_forms kind (drop i names) (drop i values)) ≡ all → now ≡ all
valued-all kind names values i now all past so_far =
    sym (append-nil now) ∙ ap (λ t. now ++ t)
    (sym (at_drop_all (λ rest. text_of (valued_forms kind rest (drop i values))) names i past))
    ∙ so_far

pub threads-all : (names : NameLists) (threads : List (List ℕ)) (texts : List ThreadText) (i : ℕ)
    (now all : List ℕ) → length threads ≤ i
    → now ++ printed_lines (threads_in names (drop i threads) (drop i texts)) ≡ all → now ≡ all
threads-all names threads texts i now all past so_far =
    sym (append-nil now) ∙ ap (λ t. now ++ t)
    (sym (at_drop_all (λ rest. printed_lines (threads_in names rest (drop i texts))) threads i
    past)) ∙ so_far

pub threads-all-ranged : (names : NameLists) (threads : List (List ℕ)) (texts : List ThreadText)
    (i : ℕ) (all : List Line) → length threads ≤ i
    → (are_ranged (threads_in names (drop i threads) (drop i texts)) ≡ true → are_ranged all ≡ true)
    → are_ranged all ≡ true
threads-all-ranged names threads texts i all past so_far =
    so_far (at_drop_all (λ rest. are_ranged (threads_in names rest (drop i texts))) threads i past)

-- ---- the whole text

six : (out a b c d e f : List ℕ) → (((((out ++ a) ++ b) ++ c) ++ d) ++ e) ++ f
    ≡ out ++ (a ++ (b ++ (c ++ (d ++ (e ++ f)))))
six out a b c d e f = simp append_assoc

text_of-append : (a b : List MeantForm) → text_of (a ++ b) ≡ text_of a ++ text_of b
text_of-append a b =
    ap text_of_lines (map-append form_text a b)
    ∙ text_of_lines-append (map form_text a) (map form_text b)

-- six kinds one after another
pub six-printed : (out : List ℕ) (A B C D E F : List MeantForm) (out1 out2 out3 out4 out5 : List ℕ)
    → out1 ≡ out ++ text_of A → out2 ≡ out1 ++ text_of B → out3 ≡ out2 ++ text_of C
    → out4 ≡ out3 ++ text_of D → out5 ≡ out4 ++ text_of E → (after : List ℕ)
    → after ≡ out5 ++ text_of F
    → after ≡ out ++ text_of (A ++ (B ++ (C ++ (D ++ (E ++ F)))))
six-printed out A B C D E F out1 out2 out3 out4 out5 e1 e2 e3 e4 e5 after e6 =
    e6 ∙ ap (λ t. t ++ text_of F) (e5
    ∙ ap (λ t. t ++ text_of E) (e4 ∙ ap (λ t. t ++ text_of D)
    (e3 ∙ ap (λ t. t ++ text_of C) (e2 ∙ ap (λ t. t ++ text_of B) e1))))
    ∙ six out (text_of A) (text_of B) (text_of C) (text_of D) (text_of E) (text_of F)
    ∙ ap (λ t. out ++ t) (sym
    (text_of-append A (B ++ (C ++ (D ++ (E ++ F)))) ∙ ap (λ t. text_of A ++ t)
    (text_of-append B (C ++ (D ++ (E ++ F))) ∙ ap (λ t. text_of B ++ t)
    (text_of-append C (D ++ (E ++ F)) ∙ ap (λ t. text_of C ++ t)
    (text_of-append D (E ++ F) ∙ ap (λ t. text_of D ++ t) (text_of-append E F))))))

header : (a version : List ℕ) (b c : List ℕ)
    → ((((a ++ 32 ∷ []) ++ version) ++ 10 ∷ []) ++ b) ++ c ≡ (a ++ 32 ∷ version) ++ 10 ∷ (b ++ c)
header a version b c = simp append_assoc

pub layout-printed : (script : ScriptText) (out1 out2 out3 out4 after : List ℕ)
    → out1 ≡ codes "script" ++ 32 ∷ [] → out2 ≡ out1 ++ decimal script.version
    → out3 ≡ out2 ++ 10 ∷ [] → out4 ≡ out3 ++ text_of (declared_forms script)
    → after ≡ out4 ++ printed_lines (all_thread_lines script.names script.names.threads
    script.threads) → after ≡ layout script
layout-printed script out1 out2 out3 out4 after e1 e2 e3 e4 e5 =
    let D : List MeantForm = declared_forms script in
    let T : List MeantForm = meanings
    (all_thread_lines script.names script.names.threads script.threads) in
    e5 ∙ ap (λ t. t ++ text_of T) (e4
    ∙ ap (λ t. t ++ text_of D) (e3 ∙ ap (λ t. t ++ 10 ∷ [])
    (e2 ∙ ap (λ t. t ++ decimal script.version) e1)))
    ∙ header (codes "script") (decimal script.version) (text_of D) (text_of T)
    ∙ ap (λ t. header_text script.version ++ 10 ∷ t) (sym (text_of-append D T))
