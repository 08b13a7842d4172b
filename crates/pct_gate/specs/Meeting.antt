-- Two guests who look for each other (this project). The book has a word for each guest, with the
-- keys 0 and 1, which says how far it is: 0 it is away, 1 it has come, 2 it has come and seen the
-- other. The log says what has happened.
use Rattle.std.specs.Prelude.{◌≡◌, ℕ, ◌-◌, ◌<◌, ◌≤◌, ◌⊎◌, true, List, [], ◌∷◌, length}
use Rattle.logbook.specs.Pages.{Book, Cell, Named, Step, View, cell}
use Rattle.pct_gate.specs.declared.happening.Happening.{Happening}
use Rattle.pct_gate.specs.declared.happening.Happening.TheVariants.{Opened, Came, Saw}

-- the happening is in the log
abbrev pub HasHappening : List Happening → Happening → Type 0
HasHappening [] happening = ⊥
HasHappening (m ∷ log) happening = (m ≡ happening) ⊎ HasHappening log happening

abbrev pub looks_in : Happening → ℕ
looks_in (Opened looks) = looks
looks_in (Came guest) = 0
looks_in (Saw guest) = 0

-- how many times each guest looks, as the log's first entry has it
abbrev pub looks_of : List Happening → ℕ
looks_of [] = 0
looks_of (m ∷ log) = looks_in m

-- the guest may see the other: both have come, and the guest looks at least once
pub record MaySee (log : List Happening) (guest : ℕ) : Type 0 where
  pub came : HasHappening log (Came guest)
  pub other_came : HasHappening log (Came (1 - guest))
  pub looks : 0 < looks_of log

-- the guest has seen the other
pub record SawOther (log : List Happening) (guest : ℕ) : Type 0 where
  pub saw : HasHappening log (Saw guest)
  pub may : MaySee log guest

-- A guest's word says how far it is, and nothing else has happened of that guest
pub record WordTells (log : List Happening) (guest word : ℕ) : Type 0 where
  pub came : 1 ≤ word → HasHappening log (Came guest)
  pub saw : 2 ≤ word → SawOther log guest
  pub only_came : HasHappening log (Came guest) → 1 ≤ word
  pub only_saw : HasHappening log (Saw guest) → 2 ≤ word

-- What is true of the book and its log between any two steps (this project): there are two words,
-- both at home, the log says how often the guests look, and each word says how far its guest is.
pub record IsMeeting (cells : List Cell) (log : List Happening) : Type 0 where
  pub words : length cells ≡ 2
  pub home : (guest : ℕ) → guest < 2 → (cell cells guest).1 ≡ true
  pub begun : 0 < length log
  pub tells : (guest : ℕ) → guest < 2 → WordTells log guest (cell cells guest).0

-- what a guest's own step tells: that it has come
pub record MarksArrival (s : Step Happening) (v : View Happening ℕ) (found : ℕ)
    (w : View Happening ℕ)
    : Type 0 where
  pub came : HasHappening w.0 (Came s.key)
  pub looks : looks_of w.0 ≡ looks_of v.0

-- what a look at a guest tells
pub record LooksAtGuest (s : Step Happening) (v : View Happening ℕ) (found : ℕ)
    (w : View Happening ℕ)
    : Type 0 where
  pub came : 1 ≤ found → HasHappening w.0 (Came s.key)
  pub saw : 2 ≤ found → SawOther w.0 s.key
  pub looks : looks_of w.0 ≡ looks_of v.0

-- the guest's word in the book
abbrev pub word_of_guest : ℕ → Book → Named
word_of_guest guest book = record { tracked = true; key = guest; book = book }

-- it is one of the two words of the book
pub record IsGuestWord (word : Named) (book : Book) : Type 0 where
  pub tracked : word.tracked ≡ true
  pub book_is : word.book ≡ book
  pub guest : word.key < 2
