use Rattle.std.proofs.Common.{◌≡◌, ◌≤◌, ◌+◌, ◌∷◌, ℕ, Result, Err, length, sym, ap, subst, ◌∙◌}
use Rattle.std.proofs.Common.{rules, arith}
use Rattle.pct_outside.specs.Reading.{texts_of}
use Rattle.pct_top.specs.declared.options.Options.{Options}
use Rattle.pct_top.specs.declared.settings.WordsError.{WordsError}
use Rattle.pct_top.specs.declared.settings.WordsError.TheVariants.{Word, NoMemory}
use Rattle.pct_top.specs.Options.{OptionsOrWord, GivesOptions, LeavesTo, no_options, options_from}
use Rattle.pct_top.specs.Options.{option_count}
use Rattle.pct_top.proofs.OptionLists.{few_options}
use Rattle.pct_top.proofs.options.options_in.Goals as goal

-- a word that isn't taken, and want of memory
left_err : {A B : Type 0} (further : A → OptionsOrWord) (options : B → Options)
    (given last : OptionsOrWord)
    (e : WordsError) → given ≡ last → LeavesTo further given (Err e)
    → GivesOptions options (Err e) last
left_err further options given last (Word number) same h = sym same ∙ h
left_err further options given last NoMemory same h = tt

pub returns-in_err-rest-clause-options : goal.returns-in_err-rest-clause-options
returns-in_err-rest-clause-options c =
    let texts : texts_of c.loop-word.rest.now
    ≡ c.as_str.result.now ∷ texts_of c.in-Some.others.now = search rules in
    let same = ap (options_from c.args.command c.loop-word.options c.loop-word.number) (sym texts)
    ∙ c.loop-word.invariant.given in
    let given = options_from c.args.command no_options c.args.first (texts_of c.args.words.now) in
    let failed : c.from_residual.result ≡ Err c.in_err-rest.field-0.0 = search rules in
    let P : Result (Options × ℕ) WordsError → Type 0 =
    λ r. GivesOptions (λ (o : Options × ℕ). o.0) r given in
    subst P (sym failed) (left_err {A = Unit {0}} (λ u. given) (λ (o : Options × ℕ). o.0) _ given
    c.in_err-rest.field-0.0 same c.in_err-rest.ensures.leaves)

pub loop-word-preserved : goal.loop-word-preserved
loop-word-preserved c =
    let texts : texts_of c.loop-word.rest.now
    ≡ c.as_str.result.now ∷ texts_of c.in-Some.others.now = search rules in
    let long : length c.loop-word.rest.now ≡ length c.in-Some.others.now + 1 = search rules in
    record {
      given =
          sym c.in_ok-rest.ensures.leaves
          ∙ ap (options_from c.args.command c.loop-word.options c.loop-word.number) (sym texts)
          ∙ c.loop-word.invariant.given;
      counted = omega (arith, c.in_ok-rest.ensures.count);
      place = omega (arith, c.in_ok-rest.ensures.shorter, long);
    }

pub overflow_add-number : goal.overflow_add-number
overflow_add-number c =
    let few : option_count c.loop-word.options ≤ 10 = few_options c.loop-word.options in
    omega (arith, c.loop-word.invariant.counted)
