use Rattle.std.specs.Prelude.{◌≡◌}
use Rattle.std.specs.List.{find}
use Rattle.std.specs.Option.{option_map}
use Rattle.std.specs.Str.{bytes_eq}
use Rattle.std.proofs.Common.{rules, tests, ◌∙◌}
use Rattle.std.proofs.lemmas.Iterator.{YieldsList-from_slice}
use Rattle.std.proofs.lemmas.Iterator.Search.{find_from_yields_List}
use Rattle.pct_ask.specs.StatementVerbs.{into_word}
use Rattle.pct_ask.specs.declared.statement_verbs.TheConstants.{INTO_VERBS}
use Rattle.pct_ask.proofs.statement_verbs.IntoVerb.of.Goals as goal

pub returns : goal.returns
returns c =
    let found : option_map (λ verb. verb.now) c.find.result
    ≡ find (λ verb. bytes_eq c.args.word.now (into_word verb)) INTO_VERBS.now
    = find_from_yields_List (λ verb. bytes_eq c.args.word.now (into_word verb)) _ _ _
    c.find.ensures.ran (YieldsList-from_slice INTO_VERBS.now cc)
    (λ x b q k. search (rules, tests)) in
    c.copied.ensures ∙ found
