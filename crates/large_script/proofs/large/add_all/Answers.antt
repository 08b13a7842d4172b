use Rattle.std.proofs.Common.{◌≡◌, ◌+◌, true, [], drop, sym, ap, ◌∙◌, subst}
use Rattle.large_script.specs.Large.{with_names, may_add}
use Rattle.large_script.proofs.Adding.{texts, texts-drop, may_add_at}
use Rattle.large_script.proofs.large.add_all.Goals as goal

pub add-requires-clause-lawful : goal.add-requires-clause-lawful
add-requires-clause-lawful c =
    let may = may_add_at c.args.kind c.args.words.now c.loop-word.word-index
    (record { ref_ptr = (0, 0); now = [] }) c.loop-word.names c.loop-word-test.true
    c.loop-word.invariant.allowed in
    may.lawful

pub add-requires-clause-fresh : goal.add-requires-clause-fresh
add-requires-clause-fresh c =
    let may = may_add_at c.args.kind c.args.words.now c.loop-word.word-index
    (record { ref_ptr = (0, 0); now = [] }) c.loop-word.names c.loop-word-test.true
    c.loop-word.invariant.allowed in
    may.fresh

pub add-requires-clause-room : goal.add-requires-clause-room
add-requires-clause-room c =
    let may = may_add_at c.args.kind c.args.words.now c.loop-word.word-index
    (record { ref_ptr = (0, 0); now = [] }) c.loop-word.names c.loop-word-test.true
    c.loop-word.invariant.allowed in
    may.room

pub loop-word-preserved : goal.loop-word-preserved
loop-word-preserved c =
    let words = c.args.words.now in
    let i = c.loop-word.word-index in
    let first = texts-drop words i (record { ref_ptr = (0, 0); now = [] }) c.loop-word-test.true in
    let may = may_add_at c.args.kind words i (record { ref_ptr = (0, 0); now = [] })
    c.loop-word.names c.loop-word-test.true c.loop-word.invariant.allowed in
    let grown = sym c.in_ok-add.ensures.added in
    record {
      allowed =
          subst (λ lists. may_add c.args.kind (texts (drop (i + 1) words)) lists ≡ true) grown
          may.others;
      added =
          subst (λ lists. with_names c.args.kind (texts (drop (i + 1) words)) lists
          ≡ with_names c.args.kind (texts words) c.args.names.now) grown
          (sym (ap (λ ts. with_names c.args.kind ts c.loop-word.names) first)
          ∙ c.loop-word.invariant.added);
    }
