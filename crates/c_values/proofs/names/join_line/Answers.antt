use Rattle.std.proofs.Common.{◌≡◌, ◌∙◌, sym, subst, refl, length, Option, Some, None, true, false}
use Rattle.std.proofs.Common.{IfOk}
use Rattle.pct_ask.specs.NameLists.{NameLists}
use Rattle.pct_ask.specs.VerdictWords.{words_of}
use Rattle.c_values.specs.NamesText.{with_words, joined_by}
use Rattle.c_values.proofs.NameSteps.{of_two}
use Rattle.c_values.proofs.names.join_line.Goals as goal

pub returns : goal.returns
returns c =
    let long : length c.in_ok-words.words.items ≡ 2 =
    sym (c.len.ensures ∙ c.in_ok-words.words.ok.0) ∙ c.if-len-ne2.false in
    let same : with_words c.args.names.now (words_of c.args.line.now)
    ≡ joined_by c.args.names.now c.index-2.result.now.now c.of.result =
    of_two c.args.names.now (words_of c.args.line.now) c.in_ok-words.words.items
    c.index.result.now c.index-2.result.now c.in_ok-words.ensures long c.index.ensures
    c.index-2.ensures
    ∙ rw c.of.ensures refl in
    subst
    (λ (read : Option NameLists). IfOk c.join.result (λ done.
    (done ≡ true → read ≡ Some c.join.new.names) × (done ≡ false → read ≡ None)))
    (sym same) c.join.ensures
