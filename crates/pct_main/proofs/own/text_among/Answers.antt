use Rattle.std.specs.Prelude.{◌≡◌, Some, None}
use Rattle.std.specs.List.{find}
use Rattle.std.specs.Option.{option_map}
use Rattle.std.specs.Str.{bytes_eq}
use Rattle.std.proofs.Common.{rules, tests, ap, ◌∙◌}
use Rattle.std.proofs.lemmas.Iterator.{YieldsList-from_slice}
use Rattle.std.proofs.lemmas.Iterator.Search.{find_from_yields_List}
use Rattle.pct_main.proofs.Entries.{text-of}
use Rattle.pct_main.proofs.own.text_among.Goals as goal

pub returns-in_err-entry : goal.returns-in_err-entry
returns-in_err-entry c =
    let found : option_map (λ e. e.now) c.find.result
    ≡ find (λ e. bytes_eq e.0.now c.args.word.now) c.args.entries.now
    = find_from_yields_List (λ e. bytes_eq e.0.now c.args.word.now) _ _ _ c.find.ensures.ran
    (YieldsList-from_slice c.args.entries.now cc) (λ x b q k. search (rules, tests)) in
    let none : c.find.result ≡ None = search rules in
    let given : c.from_residual.result ≡ None = search rules in
    ap (λ r. option_map (λ text. text.now) r) given
    ∙ text-of c.args.word.now c.args.entries.now c.find.result None none found

pub returns : goal.returns
returns c =
    let found : option_map (λ e. e.now) c.find.result
    ≡ find (λ e. bytes_eq e.0.now c.args.word.now) c.args.entries.now
    = find_from_yields_List (λ e. bytes_eq e.0.now c.args.word.now) _ _ _ c.find.ensures.ran
    (YieldsList-from_slice c.args.entries.now cc) (λ x b q k. search (rules, tests)) in
    let one : c.find.result ≡ Some c.in_ok-entry.entry = search rules in
    text-of c.args.word.now c.args.entries.now c.find.result (Some c.in_ok-entry.entry) one found
