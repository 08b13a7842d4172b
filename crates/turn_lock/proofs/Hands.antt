-- A call that took the slot: what it may do with it, and what it leaves with its seat.
use Rattle.std.proofs.Common.{◌≡◌, ◌≢◌, ℕ, ◌-◌, ◌<◌, Bool, true, false, List, [], ◌∷◌, length}
use Rattle.std.proofs.Common.{Option, Some, None, get_or, set, sym, refl, ap, ◌∙◌, subst, arith}
use Rattle.std.proofs.Common.{get_or-set_same, get_or-set_other}
use mathlib.Core.Logic.{dite}
use native.Mathlib.Decide.{ℕ_discrete}
use Rattle.pct_ask.specs.declared.Deal.{Deal}
use Rattle.pct_ask.specs.declared.ask.Post.{Post}
use Rattle.pct_ask.specs.Objects.{sizes_of_deal, PostIsInRange}
use Rattle.turn_book.specs.Told.{BookState, SameMaking, Within}
use Rattle.turn_lock.specs.Seen.{SameOf, owes_of}
use Rattle.turn_lock.specs.Slots.{Slot, NotesBelow}
use Rattle.turn_lock.specs.Rule.{HasFlag, Serves}
use Rattle.turn_lock.specs.Plays.{SeatWithSlots, with_lock, with_book, IsTaken, IsTurnedAway}
use Rattle.turn_lock.specs.Turns.{GivenInRange, IsOwed, TurnsTo, TookOnce, IsBusy, GivesOnce}
use Rattle.turn_lock.specs.Hands.{HasInHand, IsReady, SlotGoesOn, Stays, IsWork, IsPassed, IsSwept}
use Rattle.turn_lock.specs.Wakes.{WakesBelow}
use Rattle.turn_lock.specs.declared.turn.Turn.{Turn}
use Rattle.turn_lock.specs.declared.turn.Turn.TheVariants.{Answer, Ended, NotYet, Busy, Over}
use Rattle.turn_lock.specs.declared.view.View.{View}
use Rattle.turn_lock.specs.declared.work.Work.{Work}
use Rattle.turn_lock.proofs.laws.SeenBooks.{begins-self}
use Rattle.turn_lock.proofs.laws.Growth.{took, goes, goes-back}
use Rattle.turn_lock.proofs.laws.Standings.{same-owes}

-- ---- what a seat may do that took the slot
owed-in : (t : ℕ) (seen book : BookState) (post : Option Post) → SameOf t seen book
    → IsOwed seen t post → IsOwed book t post
owed-in t seen book None same owed = same-owes t seen book same ∙ owed
owed-in t seen book (Some post) same owed = same-owes t seen book same ∙ owed

pub range-in : (one other : BookState) (post : Option Post) → other.deal ≡ one.deal
    → GivenInRange one post → GivenInRange other post
range-in one other None same given = tt
range-in one other (Some post) same given =
    subst (λ (d : Deal). PostIsInRange (sizes_of_deal d) post.ask) (sym same) given

many : (one other : BookState) → SameMaking one other → other.deal.threads ≡ one.deal.threads
many one other making = ap (λ (d : Deal). d.threads) making.deal

abbrev hand_of : SeatWithSlots → Slot → SeatWithSlots
hand_of m slot = (with_lock m.0 slot, (0, slot) ∷ m.1)

in-hand : (m : SeatWithSlots) (slot : Slot) → m.0.live ≡ true → m.1 ≡ []
    → HasInHand (hand_of m slot) slot
in-hand m slot live none = record {
  live = live;
  held = refl;
  one = ap (λ (l : List (ℕ × Slot)). (0, slot) ∷ l) none;
}

pub ready : (m n : SeatWithSlots) (slot : Slot) (t : ℕ) (post : Option Post) → n ≡ hand_of m slot
    → m.0.live ≡ true → m.1 ≡ [] → IsTaken m.0 slot → Serves m.0 t → t < m.0.seen.deal.threads
    → IsOwed m.0.seen t post → GivenInRange m.0.seen post → IsReady n t post
ready m n slot t post is live none taken serves inside owed range =
    let making = taken.ties.within.making in
    subst (λ (x : SeatWithSlots). IsReady x t post) (sym is) record {
      hand = in-hand m slot live none;
      thread = subst (λ (n : ℕ). t < n) (sym (many m.0.seen slot.book making)) inside;
      lawful = taken.lawful;
      notes =
          subst (λ (n : ℕ). NotesBelow n slot.board) (sym (many m.0.seen slot.book making))
          taken.notes;
      owed = owed-in t m.0.seen slot.book post (taken.ties.own t serves) owed;
      in_range = range-in m.0.seen slot.book post making.deal range;
    }

-- ---- the slot goes back
long : (slot : Slot) (v : View) (t : ℕ) → IsTaken v slot → t < v.seen.deal.threads
    → t < length slot.book.posts
long slot v t taken inside =
    subst (λ (n : ℕ). t < n) (sym (taken.lawful.threads
    ∙ many v.seen slot.book taken.ties.within.making)) inside

module _ (m n k : SeatWithSlots) (slot : Slot) (is : n ≡ hand_of m slot) (same : k.0 ≡ n.0)
    (taken : IsTaken m.0 slot) where
  base-is : n.0.base ≡ slot
  base-is = ap (λ (x : SeatWithSlots). x.0.base) is

  view-is : k.0 ≡ with_lock m.0 slot
  view-is = same ∙ ap (λ (x : SeatWithSlots). x.0) is

  goes-at : (after : Slot) → SlotGoesOn (with_lock m.0 slot) slot after
      → SlotGoesOn k.0 k.0.base after
  goes-at after g = subst (λ (x : View). SlotGoesOn x x.base after) (sym view-is) g

  -- after a turn
  module _ (t : ℕ) (post : Option Post) (done : Work) (after : Slot) (serves : Serves m.0 t)
      (inside : t < m.0.seen.deal.threads) (work : IsWork n.0.base t post done after) where
    tells-at : TurnsTo slot.book t post work.turn after.book
    tells-at = subst (λ (s : Slot). TurnsTo s.book t post work.turn after.book) base-is work.tells

    notes-at : NotesBelow slot.book.deal.threads after.board
    notes-at = subst (λ (s : Slot). NotesBelow s.book.deal.threads after.board) base-is work.notes

    wakes-at : WakesBelow slot.book.deal.threads done.wakes
    wakes-at = subst (λ (s : Slot). WakesBelow s.book.deal.threads done.wakes) base-is work.wakes

    pub work-goes : SlotGoesOn k.0 k.0.base after
    work-goes =
        goes-at after (goes (with_lock m.0 slot) t slot post work.turn after serves
        (long slot m.0 t taken inside) tells-at notes-at)

    pub wakes-below : (made : BookState) → SameMaking made m.0.seen
        → WakesBelow made.deal.threads done.wakes
    wakes-below made making =
        subst (λ (d : Deal). WakesBelow d.threads done.wakes)
        (taken.ties.within.making.deal ∙ making.deal) wakes-at

    pub turned : (l : SeatWithSlots) → l ≡ (with_book k.0 after.book, [])
        → TookOnce m.0 t post work.turn l.0
    turned l opened =
        let e : l.0 ≡ with_book (with_lock m.0 slot) after.book =
        ap (λ (x : SeatWithSlots). x.0) opened
        ∙ ap (λ (v : View). with_book v after.book) view-is in
        subst (TookOnce m.0 t post work.turn) (sym e) record {
          took = took m.0 t slot post work.turn after.book serves taken
              (long slot m.0 t taken inside) tells-at;
          takes = refl;
          turned = refl;
        }

    pub owes-after : (l : SeatWithSlots) → l ≡ (with_book k.0 after.book, [])
        → done.owes ≡ owes_of l.0.seen t
    owes-after l opened = work.owes ∙ ap (λ (x : SeatWithSlots). owes_of x.0.seen t) (sym opened)

  -- after none of the threads had its turn
  module _ (after : Slot) (passed : IsPassed n.0.base after) where
    passed-at : IsPassed slot after
    passed-at = subst (λ (s : Slot). IsPassed s after) base-is passed

    pub passed-goes : SlotGoesOn k.0 k.0.base after
    passed-goes =
        goes-at after (goes-back (with_lock m.0 slot) slot after passed-at.book taken.lawful
        passed-at.notes)

    pub stays : (l : SeatWithSlots) → l ≡ (with_book k.0 after.book, []) → Stays m.0 l.0
    stays l opened =
        let e : l.0 ≡ with_book (with_lock m.0 slot) after.book =
        ap (λ (x : SeatWithSlots). x.0) opened
        ∙ ap (λ (v : View). with_book v after.book) view-is in
        let book : after.book ≡ slot.book = passed-at.book in
        subst (Stays m.0) (sym e) record {
          seen = subst (Within m.0.seen) (sym book) taken.ties.within;
          own = λ t h. subst (SameOf t m.0.seen) (sym book) (taken.ties.own t h);
          serves = refl;
          takes = omega arith;
          turned = begins-self m.0.turned;
        }

  -- after either
  pub swept-goes : (threads : List Bool) (found : Option (ℕ × Work)) (after : Slot)
      → ((t : ℕ) → HasFlag threads t → Serves m.0 t)
      → ((t : ℕ) → HasFlag threads t → t < m.0.seen.deal.threads)
      → IsSwept threads n.0.base found after → SlotGoesOn k.0 k.0.base after
  swept-goes threads None after on below s = passed-goes after s
  swept-goes threads (Some r) after on below s =
      work-goes r.0 None r.1 after (on r.0 s.serves) (below r.0 s.serves) s.work

-- ---- the answers of a call with one exchange
pub gives : (v : View) (t : ℕ) (post : Option Post) (turn : Turn) (w : View)
    → TookOnce v t post turn w → GivesOnce v t post turn w
gives v t post (Answer answer) w k = k
gives v t post Ended w k = k
gives v t post (NotYet at because) w k = k
gives v t post (Busy holder) w k = absurd k.took.turn.row
gives v t post (Over outcome) w k = k

-- a failed exchange, by the number that it found
pub busy : (m n : SeatWithSlots) (found : ℕ) → IsTurnedAway m found n → IsBusy m.0 (found - 1) n.0
busy m n found away =
    let same : found - 1 ≡ away.holder = omega (arith, away.found_is) in
    subst (λ (holder : ℕ). IsBusy m.0 holder n.0) (sym same) record {
      after = ap (λ (x : SeatWithSlots). x.0) away.after;
      other = away.other;
      thread = away.thread;
    }

-- ---- what the seat's flags tell
pub threads-after : (serves : List Bool) (seen later : BookState) → Within seen later
    → ((t : ℕ) → HasFlag serves t → t < seen.deal.threads) → (t : ℕ) → HasFlag serves t
    → t < later.deal.threads
threads-after serves seen later within below t h =
    subst (λ (n : ℕ). t < n) (sym (many seen later within.making)) (below t h)

pub owed-after : (serves owes : List Bool) (seen later : BookState) (t : ℕ) (done : Bool)
    → t < length owes → ((u : ℕ) → HasFlag serves u → get_or owes u false ≡ owes_of seen u)
    → ((u : ℕ) → HasFlag serves u → u ≢ t → SameOf u seen later) → done ≡ owes_of later t
    → (u : ℕ) → HasFlag serves u → get_or (set owes t done) u false ≡ owes_of later u
owed-after serves owes seen later t done inside old others is u h = dite (ℕ_discrete u t)
    (λ e. subst (λ (n : ℕ). get_or (set owes t done) n false ≡ owes_of later n) (sym e)
    (get_or-set_same owes t done false inside ∙ is))
    (λ ne. get_or-set_other owes t u done false ne ∙ old u h
    ∙ sym (same-owes u seen later (others u h ne)))
