-- The lines of a script are read one after another.
use Rattle.std.proofs.Common.{◌≡◌, ℕ, ◌+◌, ◌≤◌, inl, inr, Bool, true, false, length, List, [], ◌∷◌}
use Rattle.std.proofs.Common.{◌++◌, Option, Some, None, Ok, refl, sym, ap, ◌∙◌, subst, arith}
use Rattle.std.specs.Prelude.{All}
use Rattle.std.proofs.lemmas.List.Elements.{All-head, All-tail}
use Rattle.pct_ask.specs.Tokens.{Token, tokens_of}
use Rattle.script_tree.specs.Forms.{MeantForm}
use Rattle.script_tree.specs.Lines.{tokens_in, is_blank_line, is_nothing}
use Rattle.script_tree.specs.Grammar.{Line, AreLines, IsLineText}
use Rattle.script_parse.specs.Part.{ReadPart}
use Rattle.script_parse.specs.Reading.{Finder, is_empty, with_form, blank_fault, line_taken}
use Rattle.script_parse.specs.Reading.{script_from, script_of}
use Rattle.script_parse.proofs.Standing.{Stands, blank_stands}
use Rattle.script_parse.proofs.Runs.{Runs, some_there}
use Rattle.script_parse.proofs.FreeLines.{IsWhole, WholeAfter}
use Rattle.script_parse.proofs.RunsRead.{plain_line, form_step, form_after, same_version}
use Rattle.script_parse.proofs.Choices.{clash}

nothing_is : (o : Option (List Token)) → is_nothing o ≡ true → o ≡ Some []
nothing_is None e = absurd cc
nothing_is (Some []) e = refl
nothing_is (Some (token ∷ tokens)) e = absurd cc

pub blank_tokens : (text : List ℕ) → is_blank_line text ≡ true → tokens_of text ≡ Some []
blank_tokens text b = nothing_is (tokens_of text) b

pub blank_in : (text : List ℕ) → is_blank_line text ≡ true → tokens_in text ≡ []
blank_in text b = rw (blank_tokens text b) refl

no_blank_fault : (part : ReadPart) (last : Bool) → WholeAfter last part
    → blank_fault part last ≡ None
no_blank_fault part false whole = refl
no_blank_fault part true whole = rw ((whole refl).closed, (whole refl).threads) refl

-- a blank line is read
blank_step : (part : ReadPart) (find : Finder) (n : ℕ) (last : Bool) (text : List ℕ)
    → is_blank_line text ≡ true → WholeAfter last part → IsLineText text → n ≤ 4096
    → line_taken (Some part) find n last text ≡ Ok (Some part)
blank_step part find n last text b whole sound few =
    rw (plain_line n text sound few, blank_tokens text b, no_blank_fault part last whole) refl

-- where no line is left, what was read is the whole
whole_here : (find : Finder) (texts : List (List ℕ)) (version n : ℕ) (part last : ReadPart)
    (lines : List Line) → AreLines version n texts lines → Runs find part lines last → IsWhole last
    → WholeAfter (is_empty texts) part
whole_here find [] version n part last lines a r whole =
    λ e. subst IsWhole (sym (subst (λ (ls : List Line). Runs find part ls last) a r)) whole
whole_here find (text ∷ texts) version n part last lines a r whole =
    λ e. clash (sym e ∙ some_there text texts)

pub lines_read : (find : Finder) (texts : List (List ℕ)) (n : ℕ) (part last : ReadPart)
    (lines : List Line) (before : List (List Token)) → Stands part before
    → AreLines part.version n texts lines → Runs find part lines last → IsWhole last
    → All IsLineText texts → n + length texts ≤ 4097
    → script_from find (Some part) n texts ≡ Ok (script_of last)
lines_read find [] n part last lines before s a r whole sound few =
    ap (λ (p : ReadPart). Ok (script_of p)) (subst (λ (ls : List Line). Runs find part ls last) a r)
lines_read find (text ∷ texts) n part last lines before s (inl a) r whole sound few =
    let here = whole_here find texts part.version (n + 1) part last lines a.1 r whole in
    let step = blank_step part find n (is_empty texts) text a.0 here
    (All-head IsLineText text texts sound) (omega (arith, few)) in
    rw step (lines_read find texts (n + 1) part last lines (before ++ [] ∷ [])
    (blank_stands part before s) a.1 r whole (All-tail IsLineText text texts sound)
    (omega (arith, few)))
lines_read find (text ∷ texts) n part last lines before s (inr a) r whole sound few =
    let meant : MeantForm = a.0 in
    let next : ReadPart = with_form part find n meant in
    let runs : Runs find part ((n, meant) ∷ a.1) last =
    subst (λ (ls : List Line). Runs find part ls last) a.2 r in
    let here = whole_here find texts part.version (n + 1) next last a.1 a.4 runs.1 whole in
    let step = form_step part find n (is_empty texts) before s text meant a.3 runs.0 here
    (All-head IsLineText text texts sound) (omega (arith, few)) in
    let after = form_after part find n before text meant s a.3 runs.0 in
    let same = same_version part next before (tokens_in text) s after in
    rw step (lines_read find texts (n + 1) next last a.1 (before ++ tokens_in text ∷ []) after
    (subst (λ (v : ℕ). AreLines v (n + 1) texts a.1) same a.4) runs.1 whole
    (All-tail IsLineText text texts sound) (omega (arith, few)))
