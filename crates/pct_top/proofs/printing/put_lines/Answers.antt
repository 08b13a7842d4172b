use Rattle.std.proofs.Common.{◌≡◌, List, ℕ, ◌++◌, take, drop, ap, sym, ◌∙◌, subst, append_assoc}
use Rattle.std.proofs.Common.{arith}
use Rattle.std.proofs.lemmas.List.{take-append-drop}
use Rattle.pct_outside.specs.Puts.{IsPartWritten}
use Rattle.pct_outside.proofs.laws.Puts.{IsPut-then, IsPartWritten-then, IsPartWritten-longer}
use Rattle.pct_top.proofs.printing.put_lines.Goals as goal

-- what is left is the line and what follows it
cut : (rest line others : List ℕ) (n : ℕ) → line ≡ take n rest → others ≡ drop n rest
    → rest ≡ line ++ others
cut rest line others n front back = rw (front, back) (sym (take-append-drop n rest))

pub loop-rest-preserved : goal.loop-rest-preserved
loop-rest-preserved g c =
    let (done, split, appended, faults, shorts) = c.loop-rest.invariant in
    let line = c.split_at.result.0.now in
    let others = c.split_at.result.1.now in
    let told = g.O.Sink.told in
    let next = cut c.loop-rest.rest.now line others c.line_length.result c.split_at.ensures.front
    c.split_at.ensures.back in (
      done ++ line,
      split ∙ ap (λ (x : List ℕ). done ++ x) next ∙ sym (append_assoc done line others),
      IsPut-then done line (told c.args.out.now) (told c.loop-rest.out) (told c.put.new.self)
          appended c.in-Ok.ensures.whole,
      omega arith,
      omega arith,
    )

pub returns-in-Err-clause-part : goal.returns-in-Err-clause-part
returns-in-Err-clause-part g c =
    let (done, split, appended, faults, shorts) = c.loop-rest.invariant in
    let line = c.split_at.result.0.now in
    let others = c.split_at.result.1.now in
    let told = g.O.Sink.told in
    let next = cut c.loop-rest.rest.now line others c.line_length.result c.split_at.ensures.front
    c.split_at.ensures.back in
    subst (λ (x : List ℕ). IsPartWritten x (told c.args.out.now) (told c.put.new.self))
    (sym (split ∙ ap (λ (x : List ℕ). done ++ x) next))
    (IsPartWritten-then done (line ++ others) (told c.args.out.now) (told c.loop-rest.out)
    (told c.put.new.self) appended
    (IsPartWritten-longer line others (told c.loop-rest.out) (told c.put.new.self)
    c.in-Err.ensures.part))
