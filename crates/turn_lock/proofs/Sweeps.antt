-- What a call made of the slot, by its answer.
use Rattle.std.proofs.Common.{◌≡◌, ◌↔◌, ℕ, ◌<◌, ◌≤◌, Bool, true, false, List, Option, Some, None}
use Rattle.std.proofs.Common.{IfSome, sym, refl, ap, ◌∙◌, subst}
use Rattle.std.proofs.lemmas.Bool.{false≢true}
use Rattle.pct_ask.specs.declared.Deal.{Deal}
use Rattle.pct_ask.specs.declared.ask.Post.{Post}
use Rattle.pct_ask.specs.declared.event.Standing.TheVariants as standings
use Rattle.turn_book.specs.Told.{BookState, IsLawful, standing_of}
use Rattle.turn_lock.specs.Seen.{owes_of}
use Rattle.turn_lock.specs.Slots.{Slot, NotedWords, NotesBelow, word_noted}
use Rattle.turn_lock.specs.Rule.{HasFlag}
use Rattle.turn_lock.specs.Turns.{Row, TurnsTo, TellsEnd}
use Rattle.turn_lock.specs.Briefs.{InBrief, brief, settles}
use Rattle.turn_lock.specs.declared.brief.Brief.TheVariants as briefs
use Rattle.turn_lock.specs.Hands.{IsWork, IsPassed, IsFound}
use Rattle.turn_lock.specs.Wakes.{WakesBelow}
use Rattle.turn_lock.specs.declared.turn.Turn.{Turn}
use Rattle.turn_lock.specs.declared.turn.Turn.TheVariants.{Answer, Ended, NotYet, Busy, Over}
use Rattle.turn_lock.specs.declared.work.Wakes.TheVariants.{Nobody}
use Rattle.turn_lock.specs.declared.work.Work.{Work}
use Rattle.turn_lock.proofs.laws.Growth.{grew-turn}
use Rattle.turn_lock.proofs.laws.Standings.{away, away-owes}

pub noted-is : (threads : ℕ) (board : NotedWords) (t : ℕ) (noted : Option ℕ)
    → noted ≡ word_noted board t
    → NotesBelow threads board → IfSome noted
    (λ word. (word_noted board t ≡ Some word) × (word < threads))
noted-is threads board t None is notes = tt
noted-is threads board t (Some word) is notes = (sym is, notes t word (sym is))

-- whether the next post is owed, by whether the thread is away
pub owes-told : (book : BookState) (t : ℕ) (told : Bool) → IsLawful book
    → ((told ≡ true) ↔ (standing_of book t ≡ standings.Away)) → told ≡ owes_of book t
owes-told book t true lawful iff = sym (away-owes book t lawful (iff.0 refl))
owes-told book t false lawful iff =
    elim (owes_of book t) as (λ b. (b ≡ true → standing_of book t ≡ standings.Away) → false ≡ b) [
      | true ↦ λ f. absurd (false≢true (iff.1 (f refl)))
      | false ↦ λ f. refl
    ] (away book t)

pub is-work : (slot : Slot) (t : ℕ) (post : Option Post) (done : Work) (after : Slot)
    → t < slot.book.deal.threads → IsLawful slot.book
    → NotesBelow after.book.deal.threads after.board
    → InBrief (λ turn. TurnsTo slot.book t post turn after.book) done.brief
    → ((done.owes ≡ true) ↔ (standing_of after.book t ≡ standings.Away))
    → WakesBelow after.book.deal.threads done.wakes → IsWork slot t post done after
is-work slot t post done after inside lawful notes turn owes wakes =
    let long = lawful.threads in
    let grew = grew-turn t slot.book post turn.turn after.book
    (subst (λ (n : ℕ). t < n) (sym long) inside) turn.said in
    record {
      turn = turn.turn;
      brief = turn.brief;
      tells = turn.said;
      owes = owes-told after.book t done.owes turn.said.lawful owes;
      wakes = subst (λ (d : Deal). WakesBelow d.threads done.wakes) grew.within.making.deal wakes;
      notes =
          subst (λ (d : Deal). NotesBelow d.threads after.board) grew.within.making.deal notes;
    }

-- a turn that isn't answered changes nothing, and no outcome stands
pub record Unanswered (book after : BookState) : Type 0 where
  pub same : after ≡ book
  pub none : book.outcome ≡ None

unanswered-by : (book : BookState) (t : ℕ) (turn : Turn) (after : BookState)
    → settles (brief turn) ≡ false → Row book t turn after → Unanswered book after
unanswered-by book t (Answer answer) after not r = absurd (false≢true (sym not))
unanswered-by book t Ended after not r = record { same = r.2; none = r.0 }
unanswered-by book t (NotYet at because) after not r = record { same = r.4; none = r.0 }
unanswered-by book t (Over outcome) after not r = absurd (false≢true (sym not))
unanswered-by book t (Busy holder) after not r = absurd r

pub unanswered : (book : BookState) (t : ℕ) (turn : Turn) (after : BookState)
    → settles (brief turn) ≡ false → TurnsTo book t None turn after → Unanswered book after
unanswered book t turn after not k = let u = unanswered-by k.asked t turn after not k.row in
    record {
      same = u.same ∙ k.posted;
      none = ap (λ (b : BookState). b.outcome) (sym k.posted) ∙ u.none;
    }

-- every thread has ended
pub all-ended : (threads : List Bool) (slot : Slot) (t lowest : ℕ) (done ended : Work)
    (after : Slot) → HasFlag threads lowest → ((u : ℕ) → HasFlag threads u → lowest ≤ u)
    → ((u : ℕ) → HasFlag threads u → owes_of slot.book u ≡ false)
    → IsWork slot t None done after → settles done.brief ≡ false
    → ((u : ℕ) → HasFlag threads u → standing_of after.book u ≡ standings.Ended)
    → ended.brief ≡ briefs.Ended → ended.owes ≡ false → ended.wakes ≡ Nobody
    → IsFound threads slot lowest ended after
all-ended threads slot t lowest done ended after here least posted work not all told owes wakes =
    let u = unanswered slot.book t work.turn after.book (ap settles (sym work.brief) ∙ not)
    work.tells in
    let stands : standing_of slot.book lowest ≡ standings.Ended =
    ap (λ (b : BookState). standing_of b lowest) (sym u.same) ∙ all lowest here in
    record {
      serves = here;
      work = record {
        turn = Ended;
        brief = told;
        tells = record {
          asked = slot.book;
          posted = refl;
          row = (u.none, stands, u.same);
          lawful = work.tells.lawful;
        };
        owes = owes ∙ sym (ap (λ (b : BookState). owes_of b lowest) u.same ∙ posted lowest here);
        wakes = subst (WakesBelow slot.book.deal.threads) (sym wakes) tt;
        notes = work.notes;
      };
      tells = (all, least);
    }

tells-settled : (threads : List Bool) (t : ℕ) (turn : Turn) (book : BookState)
    → settles (brief turn) ≡ true → TellsEnd threads t turn book
tells-settled threads t (Answer answer) book is = tt
tells-settled threads t Ended book is = absurd (false≢true is)
tells-settled threads t (NotYet at because) book is = absurd (false≢true is)
tells-settled threads t (Over outcome) book is = tt
tells-settled threads t (Busy holder) book is = tt

-- the thread is answered
pub is-found : (threads : List Bool) (slot : Slot) (t : ℕ) (done : Work) (after : Slot)
    → HasFlag threads t → IsWork slot t None done after → settles done.brief ≡ true
    → IsFound threads slot t done after
is-found threads slot t done after here work is = record {
  serves = here;
  work = work;
  tells =
      tells-settled threads t work.turn after.book (ap settles (sym work.brief) ∙ is);
}

-- nobody is, and words were noted
pub is-passed : (slot : Slot) (t : ℕ) (done : Work) (after noted : Slot)
    → IsWork slot t None done after → settles done.brief ≡ false → noted.book ≡ after.book
    → NotesBelow after.book.deal.threads noted.board → IsPassed slot noted
is-passed slot t done after noted work not book notes =
    let u = unanswered slot.book t work.turn after.book (ap settles (sym work.brief) ∙ not)
    work.tells in
    record {
      book = book ∙ u.same;
      notes = subst
          (λ (b : BookState). NotesBelow b.deal.threads noted.board) u.same notes;
    }
