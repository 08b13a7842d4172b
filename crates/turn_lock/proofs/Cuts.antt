-- A seat is cut in two, two seats are made one, and a load tells what the rule says of the last
-- join.
use Rattle.std.proofs.Common.{◌≡◌, ◌≢◌, ℕ, zero, suc, true, false, ◌⊎◌, List, [], ◌∷◌, ◌++◌, length}
use Rattle.std.proofs.Common.{get_or, set, sym, refl, ap, ◌∙◌, subst, inl, inr, ⊎_elim, length-set}
use mathlib.Core.Option.{none, some, some-injective, some-ne-none}
use lib.ListN.{get_elem?}
use Rattle.atomic_table.specs.Table.{step, keeps, Allows, Splits, Joins}
use Rattle.atomic_table.proofs.Lists.{at_set, set_else, at_longer, at_snoc}
use Rattle.turn_book.specs.Told.{BookState}
use Rattle.turn_lock.specs.Seen.{SameOf}
use Rattle.turn_lock.specs.Rule.{Serves, Ties, HoldsLock, KeepsRule, spent_view}
use Rattle.turn_lock.specs.Plays.{SeatWithSlots, Looks}
use Rattle.turn_lock.specs.Seats.{seat_without, seat_of_one, seen_together, joined_seat}
use Rattle.turn_lock.specs.declared.view.View.{View}
use Rattle.turn_lock.proofs.laws.SeenBooks.{within-self, same-back, same-between, meets, Meets}
use Rattle.turn_lock.proofs.laws.Serving.{not_both, none_has}
use Rattle.turn_lock.proofs.Keeps.{each, not-holder, unmoved}
use Rattle.turn_lock.proofs.laws.Serving.{alone-one, without-not, without-had, either-serves}

pub looks : (made : BookState) (slots id : ℕ) (m : SeatWithSlots) → m.0.live ≡ true
    → m.0.held ≡ false → Allows (KeepsRule made) slots id m 0 (λ n. n)
    (Looks (step slots 0 0 0 none) m)
looks made slots id m live idle s k long at small =
    let tied : Ties m.0 k.slot.book = k.ties id m.0 at live in (
      m.0,
      keeps,
      tt,
      unmoved made s k id m.0 m.0 at refl refl idle idle (λ _. tied),
      record {
        same = refl;
        obeys = tied.obeys;
        left = tied.left;
        right = tied.right;
        left_own = tied.left_own;
        right_own = tied.right_own;
      },
    )

-- ---- the views after a cut
at_end : {A : Type 0} (l : List A) (a b : A) (j : ℕ) → get_elem? (l ++ a ∷ []) j ≡ some b
    → (get_elem? l j ≡ some b) ⊎ ((j ≡ length l) × (a ≡ b))
at_end [] a b zero e = inr (refl, some-injective a b e)
at_end [] a b (suc j) e = absurd (some-ne-none b (sym e))
at_end (x ∷ xs) a b zero e = inl e
at_end (x ∷ xs) a b (suc j) e = ⊎_elim (λ t. inl t) (λ t. inr (ap suc t.0, t.1)) (at_end xs a b j e)

-- Who served a thread before the cut that a seat serves after it: the same seat, where it isn't the
-- cut one and the thread
-- t, or the cut one, where the seat is new and the thread is t.
record Origin (vs : List View) (id t i n : ℕ) : Type 0 where
  from : ℕ
  view : View
  at : get_elem? vs from ≡ some view
  serves : Serves view n
  is : ((i ≡ from) × (from ≡ id → n ≢ t)) ⊎ ((i ≡ length vs) × (n ≡ t) × (from ≡ id))

origin : (vs : List View) (id t : ℕ) (v : View) → get_elem? vs id ≡ some v → Serves v t
    → (i : ℕ) (x : View) (n : ℕ) → get_elem? (set vs id (seat_without v t) ++ seat_of_one v t ∷ [])
    i ≡ some x → Serves x n → Origin vs id t i n
origin vs id t v at mine i x n is h = ⊎_elim
    (λ a. ⊎_elim
    (λ (b : (i ≡ id) × (seat_without v t ≡ x)). let w : Serves (seat_without v t) n =
    subst (λ (u : View). Serves u n) (sym b.1) h in
    record {
      from = id;
      view = v;
      at = at;
      serves = without-had v t n w;
      is = inl (b.0, λ _. without-not v t n w);
    })
    (λ (b : (i ≢ id) × (get_elem? vs i ≡ some x)). record {
      from = i;
      view = x;
      at = b.1;
      serves = h;
      is = inl (refl, λ e. absurd (b.0 e));
    })
    (at_set vs id i (seat_without v t) x a))
    (λ (a : (i ≡ length (set vs id (seat_without v t))) × (seat_of_one v t ≡ x)).
    let w : Serves (seat_of_one v t) n = subst (λ (u : View). Serves u n) (sym a.1) h in
    let e = alone-one v t n w in
    record {
      from = id;
      view = v;
      at = at;
      serves = subst (Serves v) (sym e) mine;
      is = inr (a.0 ∙ length-set vs id (seat_without v t), e, refl);
    })
    (at_end (set vs id (seat_without v t)) (seat_of_one v t) x i is)

pub splits : (made : BookState) (id : ℕ) (v : View) (t : ℕ) → v.live ≡ true → v.held ≡ false
    → Serves v t → Splits (KeepsRule made) id v (seat_without v t) (seat_of_one v t)
splits made id v t live idle mine s k at =
    let tied : Ties v k.slot.book = k.ties id v at live in
    let vs = s.views in
    let w : View = seat_without v t in
    let a : View = seat_of_one v t in
    record {
      slot = k.slot;
      making = k.making;
      lawful = k.lawful;
      notes = k.notes;
      words = k.words;
      slots = k.slots;
      free = k.free;
      taken = λ u is. let old = k.taken u is in let own = old.1 in (
        old.0,
        record {
          id = own.id;
          view = own.view;
          at =
              at_longer (set vs id w) (a ∷ []) own.id own.view
              (set_else vs id own.id w (not-holder vs own.id id own.view v own.at own.held at idle)
              ∙ own.at);
          serves = own.serves;
          held = own.held;
        },
      );
      holds =
          λ j u is h. ⊎_elim (λ p. each (λ i x. x.held ≡ true
          → HoldsLock x k.slot (get_or s.words 0 0)) vs id w
          (λ held. absurd (not_both v.held held idle)) (λ i x _. k.holds i x) j u p h)
          (λ (e : a ≡ u). absurd (not_both u.held h (sym (ap (λ (x : View). x.held) e))))
          (at_snoc (set vs id w) a u j is);
      ties = λ j u is alive. ⊎_elim (λ p. each (λ i x. x.live ≡ true → Ties x k.slot.book) vs id w
          (λ _. record {
            within = tied.within;
            obeys = tied.obeys;
            own = λ n h. tied.own n (without-had v t n h);
            left = tied.left;
            right = tied.right;
            left_own = tied.left_own;
            right_own = tied.right_own;
          }) (λ i x _. k.ties i x) j u p
          alive)
          (λ (e : a ≡ u). subst (λ (x : View). Ties x k.slot.book) e record {
            within = tied.within;
            obeys = tied.obeys;
            own =
                λ n h. subst (λ (i : ℕ). SameOf i v.seen k.slot.book) (sym (alone-one v t n h))
                (tied.own t mine);
            left = within-self v.seen;
            right = within-self v.seen;
            left_own = λ n h. none_has n h;
            right_own = λ n h. none_has n h;
          })
          (at_snoc (set vs id w) a u j is);
      spent =
          λ j u n is h. ⊎_elim (λ p. each (λ i x. Serves x n → x.live ≡ true) vs id w (λ _. live)
          (λ i x _ q f. k.spent i x n q f) j u p h)
          (λ (e : a ≡ u). sym (ap (λ (x : View). x.live) e)) (at_snoc (set vs id w) a u j is);
      apart = λ i j x y n p q f g.
          let o = origin vs id t v at mine i x n p f in
          let r = origin vs id t v at mine j y n q g in
          let one : o.from ≡ r.from = k.apart o.from r.from o.view r.view n o.at r.at o.serves
          r.serves in
          ⊎_elim (λ c. ⊎_elim (λ d. c.0 ∙ one ∙ sym d.0) (λ d. absurd (c.1 (one ∙ d.2) d.1)) r.is)
          (λ c. ⊎_elim (λ d. absurd (d.1 (sym one ∙ c.2) c.1)) (λ d. c.0 ∙ sym d.0) r.is) o.is;
    }

-- ---- the views after a join
spent-none : (n : ℕ) → Serves spent_view n → ⊥
spent-none n h = not_both false h refl

-- who served a thread before the join that a seat serves after it
record Source (vs : List View) (id other i n : ℕ) : Type 0 where
  from : ℕ
  view : View
  at : get_elem? vs from ≡ some view
  serves : Serves view n
  not : i ≢ other
  is : (i ≡ from) ⊎ ((from ≡ other) × (i ≡ id))

source : (vs : List View) (id : ℕ) (v : View) (other : ℕ) (w : View) → get_elem? vs id ≡ some v
    → (other ≡ id → ⊥) → get_elem? vs other ≡ some w
    → (i : ℕ) (x : View) (n : ℕ) → get_elem? (set (set vs id (joined_seat v w)) other spent_view) i
    ≡ some x → Serves x n → Source vs id other i n
source vs id v other w at ne there i x n is h = ⊎_elim
    (λ (a : (i ≡ other) × (spent_view ≡ x)).
    absurd (spent-none n (subst (λ (u : View). Serves u n) (sym a.1) h)))
    (λ (a : (i ≢ other) × (get_elem? (set vs id (joined_seat v w)) i ≡ some x)). ⊎_elim
    (λ (b : (i ≡ id) × (joined_seat v w ≡ x)). ⊎_elim
    (λ f. record { from = id; view = v; at = at; serves = f; not = a.0; is = inl b.0 })
    (λ g. record {
      from = other;
      view = w;
      at = there;
      serves = g;
      not = a.0;
      is = inr (refl, b.0);
    })
    (either-serves v.serves w.serves n (subst (λ (u : View). Serves u n) (sym b.1) h)))
    (λ (b : (i ≢ id) × (get_elem? vs i ≡ some x)). record {
      from = i;
      view = x;
      at = b.1;
      serves = h;
      not = a.0;
      is = inl refl;
    })
    (at_set vs id i (joined_seat v w) x a.1))
    (at_set (set vs id (joined_seat v w)) other i spent_view x is)

-- the joined seat's ties
joined-ties : (v w : View) (book : BookState) → Ties v book → Ties w book
    → Ties (joined_seat v w) book
joined-ties v w book one two =
    let m : Meets v.seen w.seen book =
    meets v.seen w.seen book one.within two.within one.obeys two.obeys in
    let both : BookState = seen_together v.seen w.seen in
    let ones : (n : ℕ) → Serves v n → SameOf n both book =
    λ n f. same-between n v.seen both book m.left m.within (one.own n f) in
    let twos : (n : ℕ) → Serves w n → SameOf n both book =
    λ n f. same-between n w.seen both book m.right m.within (two.own n f) in
    record {
      within = m.within;
      obeys = m.obeys;
      own = λ n h. ⊎_elim (λ f. ones n f) (λ f. twos n f) (either-serves v.serves w.serves n h);
      left = m.left;
      right = m.right;
      left_own = λ n f. same-back n v.seen both book (one.own n f) (ones n f);
      right_own = λ n f. same-back n w.seen both book (two.own n f) (twos n f);
    }

pub joins : (made : BookState) (id : ℕ) (v : View) (other : ℕ) (w : View) → v.live ≡ true
    → v.held ≡ false → w.live ≡ true → w.held ≡ false
    → Joins (KeepsRule made) id v other w (joined_seat v w) spent_view
joins made id v other w live idle alive resting s k at ne there' =
    let vs = s.views in
    let j : View = joined_seat v w in
    let there : get_elem? vs other ≡ some w = sym (set_else vs id other j ne) ∙ there' in
    record {
      slot = k.slot;
      making = k.making;
      lawful = k.lawful;
      notes = k.notes;
      words = k.words;
      slots = k.slots;
      free = k.free;
      taken = λ u is. let old = k.taken u is in let own = old.1 in (
        old.0,
        record {
          id = own.id;
          view = own.view;
          at =
              set_else (set vs id j) other own.id spent_view
              (not-holder vs own.id other own.view w own.at own.held there resting)
              ∙ set_else vs id own.id j (not-holder vs own.id id own.view v own.at own.held at idle)
              ∙ own.at;
          serves = own.serves;
          held = own.held;
        },
      );
      holds =
          each (λ i x. x.held ≡ true → HoldsLock x k.slot (get_or s.words 0 0)) (set vs id j) other
          spent_view (λ h. absurd (not_both false h refl))
          (λ i x _. each (λ i x. x.held ≡ true → HoldsLock x k.slot (get_or s.words 0 0)) vs id j
          (λ h. absurd (not_both v.held h idle)) (λ i x _. k.holds i x) i x);
      ties =
          each (λ i x. x.live ≡ true → Ties x k.slot.book) (set vs id j) other spent_view
          (λ h. absurd (not_both false h refl))
          (λ i x _. each (λ i x. x.live ≡ true → Ties x k.slot.book) vs id j
          (λ _. joined-ties v w k.slot.book (k.ties id v at live) (k.ties other w there alive))
          (λ i x _. k.ties i x) i x);
      spent =
          λ i x n p h. each (λ i x. Serves x n → x.live ≡ true) (set vs id j) other spent_view
          (λ f. absurd (spent-none n f)) (λ i x _.
          each (λ i x. Serves x n → x.live ≡ true) vs id j (λ _. refl)
          (λ i x _ q f. k.spent i x n q f) i x) i x p h;
      apart = λ i e x y n p q f g.
          let o = source vs id v other w at ne there i x n p f in
          let r = source vs id v other w at ne there e y n q g in
          let same : o.from ≡ r.from = k.apart o.from r.from o.view r.view n o.at r.at o.serves
          r.serves in
          ⊎_elim (λ c. ⊎_elim (λ d. c ∙ same ∙ sym d) (λ d. absurd (o.not (c ∙ same ∙ d.0))) r.is)
          (λ c. ⊎_elim (λ d. absurd (r.not (d ∙ sym same ∙ c.0))) (λ d. c.1 ∙ sym d.1) r.is)
          o.is;
    }
