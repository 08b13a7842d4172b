-- What a caller makes of a book that it has for itself, as what a seat of all its threads has seen.
use Rattle.std.proofs.Common.{◌≡◌, ℕ, ◌<◌, List, [], length, Option, None, ap}
use Rattle.std.proofs.Common.{Bool, true, false, arith}
use Rattle.std.proofs.lemmas.List.{get_or_past}
use Rattle.pct_ask.specs.declared.ask.Post.{Post}
use Rattle.pct_ask.specs.declared.Deal.{Deal}
use Rattle.turn_book.specs.Told.{BookState, IsLawful}
use Rattle.turn_lock.specs.Rule.{first_view, first_threads}
use Rattle.turn_lock.specs.Plays.{IsTaken}
use Rattle.turn_lock.specs.Turns.{Row, TurnsTo, TookTurn, TellsEnd}
use Rattle.turn_lock.specs.Briefs.{brief, settles}
use Rattle.turn_lock.specs.declared.turn.Turn.{Turn}
use Rattle.turn_lock.specs.declared.turn.Turn.TheVariants.{Answer, Ended, NotYet, Busy, Over}
use Rattle.turn_lock.proofs.laws.Growth.{took, grew-turn}
use Rattle.turn_lock.proofs.laws.FirstThreads.{first-has}
use Rattle.turn_lock.proofs.laws.SeenBooks.{within-self, same-self}

-- the book as the slot of a lock whose one seat serves all
lone-taken : (book : BookState) → IsLawful book
    → IsTaken (first_view book) (record { book = book; board = [] })
lone-taken book lawful = record {
  ties = record {
    within = within-self book;
    obeys = lawful.obeys;
    own = λ t here. same-self t book;
    left = within-self book;
    right = within-self book;
    left_own = λ t here. same-self t book;
    right_own = λ t here. same-self t book;
  };
  lawful = lawful;
  notes = λ t word noted.
      let empty : List (Option ℕ) = [] in
      let past = get_or_past empty t None (omega arith) in
      absurd cc;
}

-- what a post and a turn made of the book, a seat has seen
pub lone-took : (book : BookState) (t : ℕ) (post : Option Post) (turn : Turn) (after : BookState)
    → IsLawful book → t < book.deal.threads → TurnsTo book t post turn after
    → TookTurn (first_view book) t post turn (first_view after)
lone-took book t post turn after lawful within turns =
    let inside : t < length book.posts = omega (arith, lawful.threads) in
    let k = took (first_view book) t (record { book = book; board = [] }) post turn after
    (first-has book.deal.threads t within) (lone-taken book lawful) inside turns in
    let grew = grew-turn t book post turn after inside turns in
    record {
      book = k.book;
      within = k.within;
      own = k.own;
      turn = k.turn;
      grown = k.grown;
      pairs = k.pairs;
      posts = k.posts;
      late = k.late;
      others = k.others;
      serves = ap (λ (d : Deal). first_threads d.threads) (grew.within).making.deal;
    }

-- an answer that settles a turn tells no end
pub settled-tells : (serves : List Bool) (t : ℕ) (turn : Turn) (book : BookState)
    → settles (brief turn) ≡ true → TellsEnd serves t turn book
settled-tells serves t (Answer answer) book e = tt
settled-tells serves t Ended book e = absurd cc
settled-tells serves t (NotYet at because) book e = absurd cc
settled-tells serves t (Busy holder) book e = absurd cc
settled-tells serves t (Over outcome) book e = tt

-- an answer that doesn't settle a turn leaves the book as it was
pub row-stays : (book : BookState) (t : ℕ) (turn : Turn) (after : BookState) → Row book t turn after
    → settles (brief turn) ≡ false → after ≡ book
row-stays book t (Answer answer) after row e = absurd cc
row-stays book t Ended after row e = row.2
row-stays book t (NotYet at because) after row e = row.4
row-stays book t (Busy holder) after row e = absurd row
row-stays book t (Over outcome) after row e = absurd cc
