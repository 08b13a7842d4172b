use Rattle.std.proofs.Common.{◌≡◌, Option, sym, ap, subst, ◌∙◌, rules, w64}
use Rattle.std.specs.Prelude.{is_some}
use Rattle.std.proofs.lemmas.Bool.{false≢true}
use Rattle.std.proofs.lemmas.Int.{to_z-of_z}
use Rattle.pct_ask.specs.declared.ask.Post.{Post}
use Rattle.turn_book.specs.Told.{BookState}
use Rattle.turn_lock.specs.Turns.{TurnsTo}
use Rattle.turn_lock.specs.declared.brief.Brief.TheVariants as briefs
use Rattle.turn_lock.specs.declared.turn.Turn.TheVariants as turns
use Rattle.turn_lock.proofs.turning.post_and_turn.Goals as goal
use Rattle.turn_lock.proofs.turning.post_and_turn.Goals.{in-Some+in_default-post_and_take}
use Rattle.turn_lock.proofs.turning.post_and_turn.Goals.{in_default}

pub returns-in-Some-post_and_take : goal.returns-in-Some-post_and_take
returns-in-Some-post_and_take g c =
    let book = c.args.book.now in
    let answer = c.in-Some-post_and_take.answer in
    let told = c.in-Some-post_and_take.ensures.answer in
    let P : Option Post → Type 0 = λ post.
    TurnsTo book c.args.thread post (turns.Answer answer) c.post_and_take.new.self in
    record {
      turn = turns.Answer answer;
      brief = ap briefs.Answer (to_z-of_z w64 answer (search rules));
      said = subst P (sym c.in-Some.is) (record {
        asked = told.1.0;
        posted = (
          λ none. told.1.1,
          λ some. absurd (false≢true (ap is_some (sym told.0) ∙ some)),
        );
        row = (told.1.2, told.1.3, told.1.4);
        lawful = c.in-Some-post_and_take.ensures.lawful;
      });
    }

pub returns : goal.returns
returns g c =
    let row = c.answer.ensures.row in
    let same : c.match-post.book ≡ c.args.book.now = elim c.match-post.branch [
      | in-Some+in_default-post_and_take w ↦
          w.book-is ∙ w.post_and_take.ensures.none (ap is_some w.in_default-post_and_take.is)
      | in_default w ↦ w.book-is
    ] in
    let post : c.match-post.post ≡ c.args.post = elim c.match-post.branch [
      | in-Some+in_default-post_and_take w ↦ w.post-is ∙ sym w.in-Some.is
      | in_default w ↦ w.post-is
    ] in
    let P : BookState × Option Post → Type 0 = λ x.
    TurnsTo x.0 c.args.thread x.1 row.turn c.answer.new.book in
    record {
      turn = row.turn;
      brief = row.brief;
      said = subst P (λ i. (same i, post i)) (record {
        asked = c.ask.new.book;
        posted = c.ask.ensures.asked;
        row = row.said;
        lawful = c.answer.ensures.lawful;
      });
    }
