-- How many words there are, and what each is.
use Rattle.std.proofs.Common.{length, sym, ◌∙◌, ap}
use Rattle.std.specs.Prelude.{◌&&◌}
use Rattle.trace_text.specs.reader.Heads.{are_different}
use Rattle.pct_ask.specs.Pieces.{seen}
use Rattle.trace_text.proofs.HeadWords.{test-same, order-long, order-parts}
use Rattle.trace_text.proofs.head.are_order_names.Goals as goal
use Rattle.trace_text.proofs.head.are_order_names.Goals.{then-words-threads, else-words-threads}

pub returns-then-are_lawful : goal.returns-then-are_lawful
returns-then-are_lawful c =
    elim c.if-words-threads.branch [
      | then-words-threads w ↦
          let long = w.if-words-threads.true ∙ c.count-threads.ensures.count in
          let lawful = sym w.value-is ∙ c.if-are_lawful.true in
          c.are_different.ensures ∙ sym (order-parts c.args.names.now c.args.words.now
          w.are_lawful.result long w.are_lawful.ensures
          ∙ ap (λ b. b && are_different (seen c.args.words.now)) lawful)
      | else-words-threads w ↦ let lawful = sym w.value-is ∙ c.if-are_lawful.true in
          absurd (w.if-words-threads.false
          (test-same (length c.args.words.now) c.count-threads.result lawful))
    ]

pub returns-else-are_lawful : goal.returns-else-are_lawful
returns-else-are_lawful c =
    elim c.if-words-threads.branch [
      | then-words-threads w ↦
          let long = w.if-words-threads.true ∙ c.count-threads.ensures.count in
          let lawful = sym w.value-is ∙ c.if-are_lawful.false in
          c.if-are_lawful.false ∙ sym (order-parts c.args.names.now c.args.words.now
          w.are_lawful.result long w.are_lawful.ensures
          ∙ ap (λ b. b && are_different (seen c.args.words.now)) lawful)
      | else-words-threads w ↦ c.if-are_lawful.false
          ∙ order-long c.args.names.now c.args.words.now
          (λ e. w.if-words-threads.false (e ∙ sym c.count-threads.ensures.count))
    ]
