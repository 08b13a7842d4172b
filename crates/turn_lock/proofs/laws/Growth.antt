-- What a post and a turn do to the book, and so to the seat that made them.
use Rattle.std.proofs.Common.{◌≡◌, ◌≢◌, ℕ, ℤ, ◌<◌, ◌⊎◌, List, [], ◌∷◌, ◌++◌, length, get_or, refl}
use Rattle.std.proofs.Common.{sym, ap, ◌∙◌, subst, inl, inr, ⊎_elim, Option, None, Some}
use Rattle.std.proofs.Common.{option_to_list}
use Rattle.std.proofs.lemmas.List.{append-nil}
use Rattle.std.specs.Prelude.{IsSome}
use Rattle.pct_ask.specs.declared.ask.Post.{Post}
use Rattle.pct_ask.specs.declared.event.Event.{Event}
use Rattle.pct_ask.specs.declared.verdict.Outcome.{Outcome}
use Rattle.turn_book.specs.Posts.{own_events}
use Rattle.turn_book.specs.Told.{BookState, IsPosted, IsAnswered, IsLawful, Within}
use Rattle.turn_book.proofs.laws.LaterSights.{within-posted, posted-own, posted-other}
use Rattle.turn_book.proofs.laws.LaterSights.{within-answered, answered-own, answered-other}
use Rattle.turn_lock.specs.Seen.{SameOf, pairs_of, posts_seen}
use Rattle.turn_lock.specs.Slots.{Slot, NotesBelow}
use Rattle.turn_lock.specs.Rule.{Serves, Ties}
use Rattle.turn_lock.specs.Plays.{with_lock, with_book, IsTaken}
use Rattle.turn_lock.specs.Turns.{IsAsked, Row, TurnsTo, GainsPair, TookTurn}
use Rattle.turn_lock.specs.Hands.{SlotGoesOn}
use Rattle.turn_lock.specs.declared.turn.Turn.{Turn}
use Rattle.turn_lock.specs.declared.turn.Turn.TheVariants.{Answer, Ended, NotYet, Busy, Over}
use Rattle.turn_lock.specs.declared.view.View.{View}
use Rattle.turn_lock.proofs.laws.SeenBooks.{within-self, within-along, same-self, same-along}

-- the book grew, by the thread t alone
pub record Grew (t : ℕ) (old new : BookState) : Type 0 where
  pub within : Within old new
  pub others : (u : ℕ) → u ≢ t → SameOf u old new

grew-self : (t : ℕ) (book : BookState) → Grew t book book
grew-self t book = record { within = within-self book; others = λ u ne. same-self u book }

grew-along : (t : ℕ) (a b c : BookState) → Grew t a b → Grew t b c → Grew t a c
grew-along t a b c p q = record {
  within = within-along a b c p.within q.within;
  others = λ u ne. same-along u a b c (p.others u ne) (q.others u ne);
}

-- ---- a post
grew-posted : (t : ℕ) (old : BookState) (post : Post) (new : BookState) → t < length old.posts
    → IsPosted old t post new → Grew t old new
grew-posted t old post new inside p = record {
  within = within-posted old new t post inside p;
  others = λ u ne. record {
    pairs = ap (own_events u) p.trace;
    posts = posted-other old new t post inside p u ne;
  };
}

none-or-some : (o : Option Outcome) → (o ≡ None) ⊎ IsSome o
none-or-some None = inl refl
none-or-some (Some outcome) = inr refl

grew-asked : (t : ℕ) (old : BookState) (post : Option Post) (new : BookState) → t < length old.posts
    → IsAsked old t post new → Grew t old new
grew-asked t old None new inside p = subst (Grew t old) (sym p) (grew-self t old)
grew-asked t old (Some post) new inside p = ⊎_elim
    (λ none. grew-posted t old post new inside (p.0 none))
    (λ over. subst (Grew t old) (sym (p.1 over)) (grew-self t old)) (none-or-some old.outcome)

-- ---- a turn
grew-answered : (t : ℕ) (old : BookState) (answer : ℤ) (new : BookState)
    → IsAnswered old t answer new → Grew t old new
grew-answered t old answer new p = record {
  within = within-answered old new t answer p;
  others = λ u ne. record {
    pairs = answered-other old new t answer p u ne;
    posts = ap (λ (l : List (List Post)). get_or l u []) p.posts;
  };
}

-- where the row gives the book back as it was
same-row : (t : ℕ) (old new : BookState) → new ≡ old → Grew t old new
same-row t old new e = subst (Grew t old) (sym e) (grew-self t old)

grew-row : (t : ℕ) (old : BookState) (turn : Turn) (new : BookState) → Row old t turn new
    → Grew t old new
grew-row t old (Answer answer) new r = grew-answered t old answer new r.2
grew-row t old Ended new r = same-row t old new r.2
grew-row t old (NotYet at because) new r = same-row t old new r.4
grew-row t old (Over outcome) new r = same-row t old new r.1
grew-row t old (Busy holder) new r = absurd r

pub grew-turn : (t : ℕ) (old : BookState) (post : Option Post) (turn : Turn) (new : BookState)
    → t < length old.posts → TurnsTo old t post turn new → Grew t old new
grew-turn t old post turn new inside k =
    grew-along t old k.asked new (grew-asked t old post k.asked inside k.posted)
    (grew-row t k.asked turn new k.row)

-- ---- what the thread gains
asked-pairs : (t : ℕ) (old : BookState) (post : Option Post) (new : BookState)
    → IsAsked old t post new → pairs_of new t ≡ pairs_of old t
asked-pairs t old None new p = ap (λ (b : BookState). pairs_of b t) p
asked-pairs t old (Some post) new p =
    ⊎_elim (λ none. ap (own_events t) (p.0 none).trace)
    (λ over. ap (λ (b : BookState). pairs_of b t) (p.1 over)) (none-or-some old.outcome)

asked-posts : (t : ℕ) (old : BookState) (post : Option Post) (new : BookState)
    → t < length old.posts → IsAsked old t post new → old.outcome ≡ None
    → posts_seen new t ≡ posts_seen old t ++ option_to_list post
asked-posts t old None new inside p none =
    ap (λ (b : BookState). posts_seen b t) p ∙ sym (append-nil (posts_seen old t))
asked-posts t old (Some post) new inside p none = posted-own old new t post inside (p.0 none)

asked-late : (t : ℕ) (old : BookState) (post : Option Post) (new : BookState)
    → IsAsked old t post new → IsSome old.outcome → posts_seen new t ≡ posts_seen old t
asked-late t old None new p over = ap (λ (b : BookState). posts_seen b t) p
asked-late t old (Some post) new p over = ap (λ (b : BookState). posts_seen b t) (p.1 over)

row-posts : (t : ℕ) (old : BookState) (turn : Turn) (new : BookState) → Row old t turn new
    → posts_seen new t ≡ posts_seen old t
row-posts t old (Answer answer) new r = ap (λ (l : List (List Post)). get_or l t []) (r.2).posts
row-posts t old Ended new r = ap (λ (b : BookState). posts_seen b t) r.2
row-posts t old (NotYet at because) new r = ap (λ (b : BookState). posts_seen b t) r.4
row-posts t old (Over outcome) new r = ap (λ (b : BookState). posts_seen b t) r.1
row-posts t old (Busy holder) new r = absurd r

-- the pairs of what the seat had seen are those of the book after the post
gains : (t : ℕ) (seen old : BookState) (turn : Turn) (new : BookState)
    → pairs_of old t ≡ pairs_of seen t → Row old t turn new → GainsPair seen t turn new
gains t seen old (Answer answer) new e r =
    let p = r.2 in (
      p.event,
      p.answer,
      answered-own old new t answer p
          ∙ ap (λ (l : List Event). l ++ p.event ∷ []) e,
      (old.trace, p.trace),
    )
gains t seen old Ended new e r = ap (λ (b : BookState). pairs_of b t) r.2 ∙ e
gains t seen old (NotYet at because) new e r = ap (λ (b : BookState). pairs_of b t) r.4 ∙ e
gains t seen old (Over outcome) new e r = ap (λ (b : BookState). pairs_of b t) r.1 ∙ e
gains t seen old (Busy holder) new e r = absurd r

-- ---- the seat
-- a call that took the slot, made this of its book, and gave it back
pub took : (v : View) (t : ℕ) (slot : Slot) (post : Option Post) (turn : Turn) (after : BookState)
    → Serves v t → IsTaken v slot → t < length slot.book.posts → TurnsTo slot.book t post turn after
    → TookTurn v t post turn (with_book (with_lock v slot) after)
took v t slot post turn after mine taken inside k =
    let book : BookState = slot.book in
    let tied : Ties v book = taken.ties in
    let same : SameOf t v.seen book = tied.own t mine in
    let grew = grew-turn t book post turn after inside k in
    let posts : posts_seen after t ≡ posts_seen k.asked t = row-posts t k.asked turn after k.row in
    record {
      book = book;
      within = tied.within;
      own = tied.own;
      turn = k;
      grown = within-along v.seen book after tied.within grew.within;
      pairs =
          gains t v.seen k.asked turn after (asked-pairs t book post k.asked k.posted ∙ same.pairs)
          k.row;
      posts =
          λ none. posts ∙ asked-posts t book post k.asked inside k.posted none
          ∙ ap (λ (l : List Post). l ++ option_to_list post) same.posts;
      late = λ over. posts ∙ asked-late t book post k.asked k.posted over ∙ same.posts;
      others = λ u serves ne. same-along u v.seen book after (tied.own u serves) (grew.others u ne);
      serves = refl;
    }

-- and so the slot may be given back
pub goes : (v : View) (t : ℕ) (slot : Slot) (post : Option Post) (turn : Turn) (after : Slot)
    → Serves v t → t < length slot.book.posts → TurnsTo slot.book t post turn after.book
    → NotesBelow slot.book.deal.threads after.board → SlotGoesOn v slot after
goes v t slot post turn after mine inside k notes =
    let grew = grew-turn t slot.book post turn after.book inside k in
    record {
      within = grew.within;
      lawful = k.lawful;
      notes = notes;
      others = λ u not. grew.others u (λ e. not (subst (Serves v) (sym e) mine));
    }

-- where only the board was changed
pub goes-back : (v : View) (slot after : Slot) → after.book ≡ slot.book → IsLawful slot.book
    → NotesBelow slot.book.deal.threads after.board → SlotGoesOn v slot after
goes-back v slot after same lawful notes = record {
  within = subst (Within slot.book) (sym same) (within-self slot.book);
  lawful = subst IsLawful (sym same) lawful;
  notes = notes;
  others = λ u not. subst (SameOf u slot.book) (sym same) (same-self u slot.book);
}
