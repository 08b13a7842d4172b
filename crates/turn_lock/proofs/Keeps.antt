-- The steps that keep the rule: the exchange on the lock word, the store that frees the lock, a
-- load, a step on a turn
-- word. How the table begins, and how it ends.
use Rattle.std.proofs.Common.{◌≡◌, ◌≢◌, ℕ, zero, suc, ◌+◌, ◌-◌, ◌<◌, eqb, Bool, true, false, List}
use Rattle.std.proofs.Common.{[], ◌∷◌, length, get_or, set, replicate, sym, refl, ap, ◌∙◌, subst}
use Rattle.std.proofs.Common.{⊎_elim, arith, length-set, get_or-set_same, get_or-set_other}
use Rattle.std.proofs.lemmas.List.{get_or-replicate, length-replicate}
use mathlib.Core.Option.{Option, none, some, some-injective, some-ne-none}
use mathlib.Core.Logic.{dite}
use native.Mathlib.Decide.{ℕ_discrete}
use lib.ListN.{get_elem?}
use prog.Atomic.{either}
use Rattle.atomic_table.specs.Table.{step, Act, keeps, takes, gives, Valid, carried_after, stepped}
use Rattle.atomic_table.specs.Table.{Allows, opening, Final, Seen}
use Rattle.atomic_table.proofs.Lists.{at_set, set_here, set_else, set_again, exchanged}
use Rattle.pct_ask.specs.declared.Deal.{Deal}
use Rattle.turn_book.specs.Told.{BookState, SameMaking, IsLawful, Within}
use Rattle.turn_lock.specs.Seen.{SameOf, ObeysPlan}
use Rattle.turn_lock.specs.Slots.{Slot, NotedWords, NotesBelow}
use Rattle.turn_lock.specs.Rule.{LockState, HasFlag, Serves, Ties, HoldsLock, Holder, KeepsRule}
use Rattle.turn_lock.specs.Rule.{first_view}
use Rattle.turn_lock.specs.Plays.{SeatWithSlots, with_lock, turned_away, with_book, Grabs, Unlocks}
use Rattle.turn_lock.specs.Hands.{SlotGoesOn}
use Rattle.turn_lock.specs.declared.view.View.{View}
use Rattle.turn_lock.proofs.laws.SeenBooks.{within-self, within-along, same-self, same-along}
use Rattle.turn_lock.proofs.laws.SeenBooks.{making-self, making-along}
use Rattle.turn_lock.proofs.laws.Serving.{not_both, none_has, serves-along}

abbrev pub state : List ℕ → List (Option Slot) → List View → LockState
state words homes views = record { words = words; homes = homes; views = views }

pub set_at : {A : Type 0} (l : List A) (i : ℕ) (a b : A) → get_elem? l i ≡ some a
    → get_elem? (set l i b) i ≡ some b
set_at [] i a b e = absurd (some-ne-none a (sym e))
set_at (x ∷ xs) zero a b e = refl
set_at (x ∷ xs) (suc i) a b e = set_at xs i a b e

-- two deals of one making have as many threads
pub as-many : (a b c : BookState) → SameMaking a c → SameMaking b c
    → a.deal.threads ≡ b.deal.threads
as-many a b c p q = ap (λ (d : Deal). d.threads) (sym p.deal ∙ q.deal)

-- ---- one view changes
-- the views after one changed, which serves what it had served
was : (vs : List View) (id : ℕ) (v w : View) → get_elem? vs id ≡ some v → w.serves ≡ v.serves
    → w.live ≡ v.live
    → (j : ℕ) (u : View) → get_elem? (set vs id w) j ≡ some u
    → (old : View) × (get_elem? vs j ≡ some old) × (u.serves ≡ old.serves) × (u.live ≡ old.live)
was vs id v w at e l j u is = ⊎_elim
    (λ (t : (j ≡ id) × (w ≡ u)). (
      v,
      ap (get_elem? vs) t.0 ∙ at,
      ap (λ (x : View). x.serves) (sym t.1) ∙ e,
      ap (λ (x : View). x.live) (sym t.1) ∙ l,
    ))
    (λ (t : (j ≢ id) × (get_elem? vs j ≡ some u)). (u, t.1, refl, refl)) (at_set vs id j w u is)

-- a fact of each view, after one changed
pub each : (F : ℕ → View → Type 0) (vs : List View) (id : ℕ) (w : View) → F id w
    → ((j : ℕ) (u : View) → j ≢ id → get_elem? vs j ≡ some u → F j u) → (j : ℕ) (u : View)
    → get_elem? (set vs id w) j ≡ some u → F j u
each F vs id w mine others j u is =
    ⊎_elim (λ (t : (j ≡ id) × (w ≡ u)).
    subst (λ (x : ℕ × View). F x.0 x.1) (λ i. (sym t.0 i, t.1 i)) mine)
    (λ (t : (j ≢ id) × (get_elem? vs j ≡ some u)). others j u t.0 t.1) (at_set vs id j w u is)

-- a seat that doesn't hold the lock is none that does
pub not-holder : (vs : List View) (i j : ℕ) (v w : View) → get_elem? vs i ≡ some v → v.held ≡ true
    → get_elem? vs j ≡ some w → w.held ≡ false → i ≢ j
not-holder vs i j v w at held there idle same =
    not_both v.held held (ap (λ (u : View). u.held)
    (some-injective v w (sym at ∙ ap (get_elem? vs) same ∙ there)) ∙ idle)

-- the rule after the seat id went from v to w, and the slot's value is `slot`
moved : (made : BookState) (s : LockState) (k : KeepsRule made s) (id : ℕ) (v w : View)
    (slot : Slot) (words : List ℕ) (homes : List (Option Slot)) → get_elem? s.views id ≡ some v
    → w.serves ≡ v.serves → w.live ≡ v.live → SameMaking made slot.book → IsLawful slot.book
    → NotesBelow made.deal.threads slot.board
    → length words ≡ made.deal.threads + 1 → length homes ≡ 1
    → (get_or words 0 0 ≡ 0 → get_elem? homes 0 ≡ some (some slot))
    → ((t : ℕ) → get_or words 0 0 ≡ t + 1
    → (t < made.deal.threads) × Holder (state words homes (set s.views id w)) t)
    → (w.held ≡ true → HoldsLock w slot (get_or words 0 0))
    → ((j : ℕ) (u : View) → j ≢ id → get_elem? s.views j ≡ some u → u.held ≡ true
    → HoldsLock u slot (get_or words 0 0))
    → (w.live ≡ true → Ties w slot.book)
    → ((j : ℕ) (u : View) → j ≢ id → get_elem? s.views j ≡ some u → u.live ≡ true
    → Ties u slot.book)
    → KeepsRule made (state words homes (set s.views id w))
moved made s k id v w slot words homes at e l making lawful notes wide long free taken mine others
    tie ties = record {
      slot = slot;
      making = making;
      lawful = lawful;
      notes = notes;
      words = wide;
      slots = long;
      free = free;
      taken = taken;
      holds =
          each (λ j u. u.held ≡ true → HoldsLock u slot (get_or words 0 0)) s.views id w mine
          others;
      ties = each (λ j u. u.live ≡ true → Ties u slot.book) s.views id w tie ties;
      spent = λ j u t is h. let p = was s.views id v w at e l j u is in
          p.3 ∙ k.spent j p.0 t p.1 (serves-along t u p.0 p.2 h);
      apart = λ i j u x t p q f g.
          let a = was s.views id v w at e l i u p in
          let c = was s.views id v w at e l j x q in
          k.apart i j a.0 c.0 t a.1 c.1 (serves-along t u a.0 a.2 f) (serves-along t x c.0 c.2 g);
    }

-- a step that leaves the lock word as it is, of a seat that doesn't hold the lock
pub unmoved : (made : BookState) (s : LockState) (k : KeepsRule made s) (id : ℕ) (v w : View)
    → get_elem? s.views id ≡ some v → w.serves ≡ v.serves → w.live ≡ v.live → w.held ≡ false
    → v.held ≡ false → (w.live ≡ true → Ties w k.slot.book)
    → KeepsRule made (state (set s.words 0 (get_or s.words 0 0)) s.homes (set s.views id w))
unmoved made s k id v w at e l idle was_idle tie =
    let x : ℕ = get_or s.words 0 0 in
    let wide = k.words in
    let same : get_or (set s.words 0 x) 0 0 ≡ x = get_or-set_same s.words 0 x 0 (omega arith) in
    moved made s k id v w k.slot (set s.words 0 x) s.homes at e l k.making k.lawful k.notes
    (length-set s.words 0 x ∙ wide) k.slots
    (λ z. k.free (sym same ∙ z))
    (λ t is.
    let old = k.taken t (sym same ∙ is) in
    let own = old.1 in (
      old.0,
      record {
        id = own.id;
        view = own.view;
        at =
            set_else s.views id own.id w (not-holder s.views own.id id own.view v own.at own.held at
            was_idle) ∙ own.at;
        serves = own.serves;
        held = own.held;
      },
    ))
    (λ held. absurd (not_both w.held held idle))
    (λ j u ne is held. let h = k.holds j u is held in
    record { base = h.base; thread = h.thread; serves = h.serves; word_is = same ∙ h.word_is })
    tie
    (λ j u ne is alive. k.ties j u is alive)

-- a view with the same parts but for the lock's has the same ties
same-ties : (v w : View) (book : BookState) → w.seen ≡ v.seen → w.serves ≡ v.serves
    → w.left ≡ v.left → w.right ≡ v.right → w.left_had ≡ v.left_had → w.right_had ≡ v.right_had
    → Ties v book → Ties w book
same-ties v w book seen serves left right left_had right_had t =
    let L : BookState × BookState → Type 0 = λ x. Within x.0 x.1 in
    record {
      within = subst (λ (x : BookState). Within x book) (sym seen) t.within;
      obeys = subst ObeysPlan (sym seen) t.obeys;
      own =
          λ n h. subst (λ (x : BookState). SameOf n x book) (sym seen)
          (t.own n (subst (λ (l : List Bool). HasFlag l n) serves h));
      left = subst L (λ i. (sym left i, sym seen i)) t.left;
      right = subst L (λ i. (sym right i, sym seen i)) t.right;
      left_own =
          λ n h. subst (λ (x : BookState × BookState). SameOf n x.0 x.1)
          (λ i. (sym left i, sym seen i))
          (t.left_own n (subst (λ (l : List Bool). HasFlag l n) left_had h));
      right_own =
          λ n h. subst (λ (x : BookState × BookState). SameOf n x.0 x.1)
          (λ i. (sym right i, sym seen i))
          (t.right_own n (subst (λ (l : List Bool). HasFlag l n) right_had h));
    }

-- ---- compare and exchange on the lock word
pub grabs : (made : BookState) (slots id : ℕ) (m : SeatWithSlots) (t : ℕ) → m.0.live ≡ true
    → m.0.held ≡ false → Serves m.0 t → t < m.0.seen.deal.threads
    → Allows (KeepsRule made) slots id m 0 (λ n. either (eqb n 0) (t + 1) n)
    (Grabs (step slots 0 0 (t + 1) none) m)
grabs made slots id m t live idle serves inside s k long at small =
    let x : ℕ = get_or s.words 0 0 in
    let wide = k.words in
    let now : get_or (set s.words 0 (t + 1)) 0 0 ≡ t + 1 =
    get_or-set_same s.words 0 (t + 1) 0 (omega arith) in
    let tied : Ties m.0 k.slot.book = k.ties id m.0 at live in
    let many : made.deal.threads ≡ m.0.seen.deal.threads =
    as-many made m.0.seen k.slot.book k.making tied.within.making in
    let F : ℕ → Type 0 = λ y. (w : View) × (a : Act Slot) × Valid s.homes m.1 a
    × KeepsRule made (stepped s 0 y id m.1 w a)
    × Grabs (step slots 0 0 (t + 1) none) m x (w, carried_after m.1 a) in
    exchanged x 0 (t + 1) F
    (λ z. let w : View = with_lock m.0 k.slot in (
      w,
      takes 0 k.slot,
      k.free z,
      moved made s k id m.0 w k.slot (set s.words 0 (t + 1)) (set s.homes 0 none) at refl refl
          k.making k.lawful k.notes (length-set s.words 0 (t + 1) ∙ wide)
          (length-set s.homes 0 none ∙ k.slots)
          (λ zero-now. absurd (omega arith))
          (λ u is. let e : u ≡ t = omega arith in (
            omega arith,
            record {
              id = id;
              view = w;
              at = set_at s.views id m.0 w at;
              serves = subst (λ n. Serves w n) (sym e) serves;
              held = refl;
            },
          ))
          (λ _. record { base = refl; thread = t; serves = serves; word_is = now })
          (λ j u ne is held. let h = k.holds j u is held in let q = h.word_is in
          absurd (omega arith))
          (λ _. same-ties m.0 w k.slot.book refl refl refl refl refl refl tied)
          (λ j u ne is l. k.ties j u is l),
      (
        (λ _. (
          k.slot,
          refl,
          record {
            ties = tied;
            lawful = k.lawful;
            notes = subst (λ n. NotesBelow n k.slot.board) many k.notes;
          },
        )),
        λ ne. absurd (ne z),
      ),
    ))
    (λ ne.
    let h : ℕ = x - 1 in
    let is : x ≡ h + 1 = omega arith in
    let w : View = turned_away m.0 h in
    let taken = k.taken h is in
    let own = taken.1 in
    let below = taken.0 in (
      w,
      keeps,
      tt,
      unmoved made s k id m.0 w at refl refl idle idle
          (λ _. same-ties m.0 w k.slot.book refl refl refl refl refl refl tied),
      (
        (λ z. absurd (ne z)),
        λ _. record {
          holder = h;
          found_is = is;
          after = refl;
          other =
              λ mine. not-holder s.views own.id id own.view m.0 own.at own.held at idle
              (k.apart own.id id own.view m.0 h own.at at own.serves mine);
          thread = omega arith;
          obeys = (k.ties id m.0 at live).obeys;
        },
      ),
    ))

-- ---- the store that frees the lock
-- a seat that serves none of the threads that posted or took a step keeps its ties
other-ties : (v u : View) (slot after : Slot) → SlotGoesOn v slot after
    → ((t : ℕ) → Serves u t → Serves v t → ⊥) → Ties u slot.book → Ties u after.book
other-ties v u slot after on apart t = record {
  within = within-along u.seen slot.book after.book t.within on.within;
  obeys = t.obeys;
  own =
      λ n serves. same-along n u.seen slot.book after.book (t.own n serves)
      (on.others n (apart n serves));
  left = t.left;
  right = t.right;
  left_own = t.left_own;
  right_own = t.right_own;
}

-- the book of a call that frees the lock is all that it has seen
new-ties : (v : View) (book : BookState) → IsLawful book → Ties (with_book v book) book
new-ties v book lawful = record {
  within = within-self book;
  obeys = lawful.obeys;
  own = λ t _. same-self t book;
  left = within-self book;
  right = within-self book;
  left_own = λ t h. none_has t h;
  right_own = λ t h. none_has t h;
}

pub opens : (made : BookState) (slots id : ℕ) (m : SeatWithSlots) (v : View) (c : Slot)
    → m ≡ (v, (0, c) ∷ []) → v.live ≡ true → v.held ≡ true → SlotGoesOn v v.base c
    → Allows (KeepsRule made) slots id m 0 (λ _. 0) (λ _. Unlocks (step slots 0 0 0 none) m 0)
opens made slots id m v c is live held goes =
    subst (λ (x : SeatWithSlots). Allows (KeepsRule made) slots id x 0 (λ _. 0)
    (λ _. Unlocks (step slots 0 0 0 none) x 0)) (sym is)
    (λ s k long at small.
    let wide = k.words in
    let one = k.slots in
    let mine = k.holds id v at held in
    let on : SlotGoesOn v k.slot c = subst (λ (b : Slot). SlotGoesOn v b c) mine.base goes in
    let many : k.slot.book.deal.threads ≡ made.deal.threads =
    ap (λ (d : Deal). d.threads) k.making.deal in
    let now : get_or (set s.words 0 0) 0 0 ≡ 0 = get_or-set_same s.words 0 0 0 (omega arith) in
    let mine-word = mine.word_is in
    let w : View = with_book v c.book in (
      w,
      gives,
      tt,
      moved made s k id v w c (set s.words 0 0) (set s.homes 0 (some c)) at refl refl
          (making-along made k.slot.book c.book k.making on.within.making) on.lawful
          (subst (λ n. NotesBelow n c.board) many on.notes) (length-set s.words 0 0 ∙ wide)
          (length-set s.homes 0 (some c) ∙ one)
          (λ _. set_here s.homes 0 (some c) (omega arith))
          (λ u e. absurd (omega arith))
          (λ h. absurd (not_both false h refl))
          (λ j u ne there h.
          let other = k.holds j u there h in
          let word = other.word_is in
          let same : other.thread ≡ mine.thread = omega arith in
          absurd (ne (k.apart j id u v other.thread there at other.serves
          (subst (Serves v) (sym same) mine.serves))))
          (λ _. new-ties v c.book on.lawful)
          (λ j u ne there alive. other-ties v u k.slot c on
          (λ n theirs ours. ne (k.apart j id u v n there at theirs ours))
          (k.ties j u there alive)),
      λ b e. ap (λ (x : Slot). (with_book v x.book, []))
          (ap (λ (l : List (ℕ × Slot)). (get_or l 0 (0, c)).1) e),
    ))

-- ---- a step on a turn word
pub marks : (made : BookState) (slots id : ℕ) (m : SeatWithSlots) (i : ℕ) (f : ℕ → ℕ) → 0 < i
    → Allows (KeepsRule made) slots id m i f (λ _ n. n ≡ m)
marks made slots id m i f off s k long at small =
    let words : List ℕ = set s.words i (f (get_or s.words i 0)) in
    let same : get_or words 0 0 ≡ get_or s.words 0 0 =
    get_or-set_other s.words i 0 (f (get_or s.words i 0)) 0 (λ e. omega arith) in (
      m.0,
      keeps,
      tt,
      subst (λ (vs : List View). KeepsRule made (state words s.homes vs))
          (sym (set_again s.views id m.0 at)) record {
            slot = k.slot;
            making = k.making;
            lawful = k.lawful;
            notes = k.notes;
            words = length-set s.words i (f (get_or s.words i 0)) ∙ k.words;
            slots = k.slots;
            free = λ z. k.free (sym same ∙ z);
            taken = λ t is. let old = k.taken t (sym same ∙ is) in let own = old.1 in (
              old.0,
              record {
                id = own.id;
                view = own.view;
                at = own.at;
                serves = own.serves;
                held = own.held;
              },
            );
            holds = λ j u is held. let h = k.holds j u is held in
                record {
                  base = h.base;
                  thread = h.thread;
                  serves = h.serves;
                  word_is = same ∙ h.word_is;
                };
            ties = k.ties;
            spent = k.spent;
            apart = k.apart;
          },
      refl,
    )

-- ---- how the table begins
only : (b : BookState) (j : ℕ) (u : View) → get_elem? (first_view b ∷ []) j ≡ some u
    → (j ≡ 0) × (first_view b ≡ u)
only b zero u e = (refl, some-injective (first_view b) u e)
only b (suc j) u e = absurd (some-ne-none u (sym e))

pub starts : (b : BookState) (board : NotedWords) → IsLawful b → NotesBelow b.deal.threads board
    → KeepsRule b (opening (replicate (b.deal.threads + 1) 0)
    (record { book = b; board = board } ∷ []) (first_view b))
starts b board lawful notes =
    let n : ℕ = b.deal.threads + 1 in record {
      slot = record { book = b; board = board };
      making = making-self b;
      lawful = lawful;
      notes = notes;
      words = length-replicate n 0;
      slots = refl;
      free = λ _. refl;
      taken = λ t e. let none : t + 1 ≡ 0 = sym e ∙ get_or-replicate n 0 0 0 (omega arith) in
          absurd (omega (arith, none));
      holds =
          λ j u is h. absurd (not_both u.held h
          (sym (ap (λ (x : View). x.held) (only b j u is).1)));
      ties = λ j u is _. subst (λ (x : View). Ties x b) (only b j u is).1 record {
        within = within-self b;
        obeys = lawful.obeys;
        own = λ t _. same-self t b;
        left = within-self b;
        right = within-self b;
        left_own = λ t h. none_has t h;
        right_own = λ t h. none_has t h;
      };
      spent = λ j u t is h. sym (ap (λ (x : View). x.live) (only b j u is).1);
      apart = λ i j u x t p q f g. (only b i u p).0 ∙ sym (only b j x q).0;
    }

-- ---- how it ends
-- a seat that serves every thread and is idle has the lock for itself
closes : (made : BookState) (s : LockState) (k : KeepsRule made s) (id : ℕ) (v : View)
    (homes : List Slot) → get_elem? s.views id ≡ some v → v.live ≡ true → v.held ≡ false
    → ((t : ℕ) → t < v.seen.deal.threads → Serves v t)
    → ((i : ℕ) (y : Slot) → get_elem? s.homes i ≡ some (some y) → get_elem? homes i ≡ some y)
    → get_elem? homes 0 ≡ some k.slot
closes made s k id v homes at live idle all home =
    let x : ℕ = get_or s.words 0 0 in
    dite (ℕ_discrete x 0) (λ z. home 0 k.slot (k.free z))
    (λ ne.
    let h : ℕ = x - 1 in
    let is : x ≡ h + 1 = omega arith in
    let taken = k.taken h is in
    let own = taken.1 in
    let below = taken.0 in
    let tied : Ties v k.slot.book = k.ties id v at live in
    let many : made.deal.threads ≡ v.seen.deal.threads =
    as-many made v.seen k.slot.book k.making tied.within.making in
    absurd (not-holder s.views own.id id own.view v own.at own.held at idle
    (k.apart own.id id own.view v h own.at at own.serves (all h (omega arith)))))

-- what the last book has to do with what a seat has seen that serves every thread
pub record IsLast (made : BookState) (v : View) (book : BookState) : Type 0 where
  pub making : SameMaking made book
  pub lawful : IsLawful book
  pub seen : Within v.seen book
  pub own : (t : ℕ) → t < book.deal.threads → SameOf t v.seen book

pub closed : (made : BookState) (id : ℕ) (v : View) (words : List ℕ) (homes : List Slot)
    (last : Slot) → v.live ≡ true → v.held ≡ false
    → ((t : ℕ) → t < v.seen.deal.threads → Serves v t)
    → Final (Seen (KeepsRule made) id v) words homes → get_elem? homes 0 ≡ some last
    → IsLast made v last.book
closed made id v words homes last live idle all f is =
    let s = f.0 in
    let k : KeepsRule made s = f.1.0 in
    let at = f.1.1 in
    let there = closes made s k id v homes at live idle all f.4 in
    let tied : Ties v k.slot.book = k.ties id v at live in
    let many : k.slot.book.deal.threads ≡ v.seen.deal.threads =
    ap (λ (d : Deal). d.threads) tied.within.making.deal in
    subst (λ (x : Slot). IsLast made v x.book) (some-injective k.slot last (sym there ∙ is))
    record {
      making = k.making;
      lawful = k.lawful;
      seen = tied.within;
      own = λ t below. tied.own t (all t (omega arith));
    }

pub begins : (about : Slot) (words : List ℕ) (items : List Slot) (b : BookState)
    (board : NotedWords)
    → about ≡ record { book = b; board = board } → words ≡ replicate (b.deal.threads + 1) 0
    → items ≡ record { book = b; board = board } ∷ [] → IsLawful b → NotesBelow b.deal.threads board
    → KeepsRule about.book (opening words items (first_view about.book))
begins about words items b board a w i lawful notes =
    subst (λ (x : Slot × List ℕ × List Slot).
    KeepsRule x.0.book (opening x.1 x.2 (first_view x.0.book)))
    (λ j. (sym a j, sym w j, sym i j)) (starts b board lawful notes)
