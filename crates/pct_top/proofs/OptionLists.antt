-- The options of a list of words, two by two.
use Rattle.std.proofs.Common.{◌≡◌, ℕ, ◌+◌, ◌≤◌, Bool, true, false, cond, ◌&&◌, List, ◌∷◌, Option}
use Rattle.std.proofs.Common.{Some, None, Ok, refl, ap, subst, ◌∙◌, arith}
use Rattle.std.specs.Prelude.{is_some, is_none, ok_or, IfSome}
use Rattle.std.proofs.lemmas.Bool.{and_parts}
use Rattle.std.proofs.lemmas.Option.{option_and_then_some, cond_some}
use Rattle.std.proofs.lemmas.Result.{IfOk-at_ok}
use Rattle.pct_top.specs.declared.command.Command.{Command}
use Rattle.pct_top.specs.declared.options.OptionName.{OptionName}
use Rattle.pct_top.specs.declared.options.OptionName.TheVariants.{Order, Points, Limit, Seed, Depth}
use Rattle.pct_top.specs.declared.options.OptionName.TheVariants.{Steps, From, Count, Form, Serve}
use Rattle.pct_top.specs.declared.options.Options.{Options}
use Rattle.pct_top.specs.Options.{is_new, with_option_value, next_option, option_named}
use Rattle.pct_top.specs.Options.{OptionsOrWord, and_then, options_from, one_if, option_count}
use Rattle.pct_top.specs.Table.{takes_option}
use Rattle.pct_top.proofs.Followed.{mapped, or_word, any}

-- ---- one option

pub leaves : (command : Command) (o more : Options) (number : ℕ) (name : OptionName)
    (word value : List ℕ) (texts words : List (List ℕ)) → texts ≡ value ∷ words
    → next_option command o word ≡ Some name
    → ok_or (with_option_value o (number + 1) name value) (number + 1) ≡ Ok more
    → options_from command o number (word ∷ texts) ≡ options_from command more (number + 2) words
leaves command o more number name word value texts words same next lawful =
    let further : Options → OptionsOrWord = λ m. options_from command m (number + 2) words in
    let taken : OptionName → OptionsOrWord = λ n.
    and_then further (ok_or (with_option_value o (number + 1) n value) (number + 1)) in
    ap (λ t. options_from command o number (word ∷ t)) same
    ∙ ap (λ n. and_then taken (ok_or n number)) next
    ∙ ap (and_then further) lawful

none : {A : Type 0} (o : Option A) → is_none o ≡ true → one_if (is_some o) ≡ 0
none None e = refl
none (Some x) e = absurd cc

module _ (o : Options) where
  abbrev HasOneMore : Options → Type 0
  HasOneMore more = option_count more ≡ option_count o + 1

  one_more : (name : OptionName) (word : ℕ) (value : List ℕ) → is_new o name ≡ true
      → IfSome (with_option_value o word name value) HasOneMore
  one_more Order word value new =
      mapped HasOneMore _ _ (any _) (λ x u. omega (arith, none o.order new))
  one_more Points word value new =
      mapped HasOneMore _ _ (any _) (λ x u. omega (arith, none o.points new))
  one_more Limit word value new =
      mapped HasOneMore _ _ (any _) (λ x u. omega (arith, none o.limit new))
  one_more Seed word value new =
      mapped HasOneMore _ _ (any _) (λ x u. omega (arith, none o.seed new))
  one_more Depth word value new =
      mapped HasOneMore _ _ (any _) (λ x u. omega (arith, none o.depth new))
  one_more Steps word value new =
      mapped HasOneMore _ _ (any _) (λ x u. omega (arith, none o.steps new))
  one_more From word value new =
      mapped HasOneMore _ _ (any _) (λ x u. omega (arith, none o.from new))
  one_more Count word value new =
      mapped HasOneMore _ _ (any _) (λ x u. omega (arith, none o.count new))
  one_more Form word value new =
      mapped HasOneMore _ _ (any _) (λ x u. omega (arith, none o.form new))
  one_more Serve word value new =
      mapped HasOneMore _ _ (any _) (λ x u. omega (arith, none o.serve new))

  new_next : (command : Command) (word : List ℕ) (name : OptionName)
      → next_option command o word ≡ Some name → is_new o name ≡ true
  new_next command word name is =
      option_and_then_some (λ n. cond (is_new o n && takes_option command o n) (Some n) None)
      (option_named word) name is (λ n named by.
      let parts = cond_some (is_new o n && takes_option command o n) n name by in
      subst (λ x. is_new o x ≡ true) parts.1
      (and_parts (is_new o n) (takes_option command o n) parts.0).0)

  pub counted : (command : Command) (number : ℕ) (name : OptionName) (word value : List ℕ)
      (more : Options) → next_option command o word ≡ Some name
      → ok_or (with_option_value o number name value) number ≡ Ok more
      → option_count more ≡ option_count o + 1
  counted command number name word value more next is =
      IfOk-at_ok HasOneMore is (or_word HasOneMore (with_option_value o number name value) number
      (one_more name number value (new_next command word name next)))

-- ---- how many there are

one-le : (b : Bool) → one_if b ≤ 1
one-le true = omega arith
one-le false = omega arith

pub few_options : (o : Options) → option_count o ≤ 10
few_options o =
    omega (
      arith,
      one-le (is_some o.order),
      one-le (is_some o.points),
      one-le (is_some o.limit),
      one-le (is_some o.seed),
      one-le (is_some o.depth),
      one-le (is_some o.steps),
      one-le (is_some o.from),
      one-le (is_some o.count),
      one-le (is_some o.form),
      one-le (is_some o.serve),
    )
