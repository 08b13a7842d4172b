-- No other number of words, and no other first word.
use Rattle.std.proofs.Common.{sym, ◌∙◌, arith, rules}
use Rattle.directive.proofs.Bodies.{after_words-other, after_words-head}
use Rattle.directive.proofs.row.after_words.Goals as goal
use Rattle.directive.proofs.row.after_words.Goals.{in_default-via-then-words-lt3}
use Rattle.directive.proofs.row.after_words.Goals.{in_default-via-in-len3+else-eq}
use Rattle.directive.proofs.row.after_words.Goals.{in_default-via-else-words-lt3+else-words-lt4}

pub returns-in_default : goal.returns-in_default
returns-in_default c =
    elim c.in_default.branch [
      | in_default-via-then-words-lt3 w ↦
          after_words-other c.args.names.now c.args.words.now (λ e. search rules)
      | in_default-via-in-len3+else-eq w ↦
          after_words-head c.args.names.now c.args.words.now _ (omega arith)
          (sym w.eq.ensures ∙ w.if-eq.false)
      | in_default-via-else-words-lt3+else-words-lt4 w ↦
          after_words-other c.args.names.now c.args.words.now (λ e. grind arith)
    ]
