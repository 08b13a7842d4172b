-- No other number of words, and no other first word.
use Rattle.std.proofs.Common.{sym, ◌∙◌, arith, rules}
use Rattle.directive.proofs.Bodies.{low_words-other, low_words-head}
use Rattle.directive.proofs.row.low_words.Goals as goal
use Rattle.directive.proofs.row.low_words.Goals.{in_default-via-then-words-lt2}
use Rattle.directive.proofs.row.low_words.Goals.{in_default-via-in-len2+else-eq}
use Rattle.directive.proofs.row.low_words.Goals.{in_default-via-else-words-lt2+else-words-lt3}

pub returns-in_default : goal.returns-in_default
returns-in_default c =
    elim c.in_default.branch [
      | in_default-via-then-words-lt2 w ↦ low_words-other c.args.words.now (λ e. search rules)
      | in_default-via-in-len2+else-eq w ↦
          low_words-head c.args.words.now _ (omega arith) (sym w.eq.ensures ∙ w.if-eq.false)
      | in_default-via-else-words-lt2+else-words-lt3 w ↦
          low_words-other c.args.words.now (λ e. grind arith)
    ]
