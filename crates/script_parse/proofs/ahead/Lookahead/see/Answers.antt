use Rattle.std.proofs.Common.{◌≡◌, length, false, Result, Ok, Err, refl, sym, ap, ◌∙◌}
use Rattle.std.specs.Prelude.{◌&&◌, ◌==◌, OnOk, vec_len}
use Rattle.std.proofs.Math.ListN.{length-map}
use Rattle.script_tree.specs.Lines.{is_blank_line}
use Rattle.script_parse.specs.Seen.{seen, all_seen}
use Rattle.script_parse.proofs.AheadSteps.{no_tokens, plain_seen, thread_seen, blank_by, cut_blank}
use Rattle.script_parse.proofs.ahead.Lookahead.see.Goals as goal
use Rattle.script_parse.proofs.ahead.Lookahead.see.Goals.{then-self, else-self, After-begun_by}

-- what three facts about a success tell of it
joined : {X E : Type 0} {P Q R S : Type 0} (r : Result X E) → (P → Q → R → S) → OnOk r P → OnOk r Q
    → OnOk r R → OnOk r S
joined (Ok x) f p q s = f p q s
joined (Err e) f p q s = tt

-- the lines are blank up to this one
says : (c : After-begun_by) → c.if-self.self
    ≡ (c.args.self.now.blank && is_blank_line c.args.line.now)
says c =
    let tokens = c.in-Some.tokens in
    let cut = sym (rw c.in-Some.is at c.in_ok-tokens.ensures) in
    let size : length (all_seen tokens.items) ≡ vec_len tokens =
    length-map tokens.items seen ∙ sym (ap length c.deref.ensures.value)
    ∙ c.deref.ensures.len in
    let blank : (vec_len tokens == 0) ≡ is_blank_line c.args.line.now =
    ap (λ n. n == 0) (sym size) ∙ sym (blank_by c.args.line.now (all_seen tokens.items) cut) in
    elim c.if-self.branch [
      | then-self w ↦ w.self-is ∙ w.is_empty-self.ensures ∙ blank ∙ rw w.if-self.true refl
      | else-self w ↦ w.self-is ∙ rw w.if-self.false refl
    ]

pub returns-in_default : goal.returns-in_default
returns-in_default c =
    let none = sym (rw c.in_default.is at c.in_ok-tokens.ensures) in
    plain_seen c.args.self.now false c.args.line.now (no_tokens c.args.line.now none)
    (cut_blank c.args.self.now.blank c.args.line.now none)

pub returns-in-Some-begun_by : goal.returns-in-Some-begun_by
returns-in-Some-begun_by c =
    joined c.note.result
    (λ noted lines blank. thread_seen c.args.self.now c.note.new.self c.if-self.self c.args.line.now
    c.in-Some-begun_by.name.now (sym c.in-Some-begun_by.ensures)
    (says (goal.at.returns-in-Some-begun_by c).After-begun_by) noted lines blank)
    c.note.ensures.places c.note.ensures.lines c.note.ensures.blank

pub returns : goal.returns
returns c =
    plain_seen c.args.self.now c.if-self.self c.args.line.now (sym c.in-None.ensures)
    (says (goal.at.returns c).After-begun_by)
