-- The rounds of a call that waits.
use Rattle.std.proofs.Common.{◌≡◌, ℕ, List, [], ◌∷◌, ◌++◌, Bool, Option, option_to_list, refl, sym}
use Rattle.std.proofs.Common.{ap, ◌∙◌, subst, arith, le_refl}
use Rattle.pct_ask.specs.declared.ask.Post.{Post}
use Rattle.pct_ask.specs.declared.event.Event.{Event}
use Rattle.turn_book.specs.Told.{BookState}
use Rattle.turn_lock.specs.Seen.{Begins, SameOf, owes_of}
use Rattle.turn_lock.specs.Rule.{HasFlag, Serves}
use Rattle.turn_lock.specs.Plays.{turned_away}
use Rattle.turn_lock.specs.Turns.{GainsPair, TookTurn, TookOnce, TookAtLast, IsBusy, GivesOnce}
use Rattle.turn_lock.specs.Turns.{TellsEnd}
use Rattle.turn_lock.specs.Hands.{Stays}
use Rattle.turn_lock.specs.declared.turn.Turn.{Turn}
use Rattle.turn_lock.specs.declared.turn.Turn.TheVariants.{Answer, Ended, NotYet, Busy, Over}
use Rattle.turn_lock.specs.declared.view.View.{View}
use Rattle.turn_lock.proofs.laws.SeenBooks.{begins-self, begins-along, within-self, within-along}
use Rattle.turn_lock.proofs.laws.SeenBooks.{same-self, same-along}
use Rattle.turn_lock.proofs.laws.Standings.{same-owes}

pub stays-self : (v : View) → Stays v v
stays-self v = record {
  seen = within-self v.seen;
  own = λ t _. same-self t v.seen;
  serves = refl;
  takes = le_refl v.takes;
  turned = begins-self v.turned;
}

pub stays-along : (u v w : View) → Stays u v → Stays v w → Stays u w
stays-along u v w p q = record {
  seen = within-along u.seen v.seen w.seen p.seen q.seen;
  own =
      λ t h. same-along t u.seen v.seen w.seen (p.own t h)
      (q.own t (subst (λ (l : List Bool). HasFlag l t) (sym p.serves) h));
  serves = q.serves ∙ p.serves;
  takes = (let a = p.takes in let b = q.takes in omega arith);
  turned = begins-along u.turned v.turned w.turned p.turned q.turned;
}

-- a failed exchange
pub turned-stays : (v : View) (holder : ℕ) (w : View) → w ≡ turned_away v holder → Stays v w
turned-stays v holder w e = subst (Stays v) (sym e) record {
  seen = within-self v.seen;
  own = λ t _. same-self t v.seen;
  serves = refl;
  takes = le_refl v.takes;
  turned = (holder ∷ [], refl);
}

pub busy-stays : (v : View) (holder : ℕ) (w : View) → IsBusy v holder w → Stays v w
busy-stays v holder w k = turned-stays v holder w k.after

gained-later : (v u : BookState) (t : ℕ) (turn : Turn) (after : BookState) → SameOf t v u
    → GainsPair u t turn after → GainsPair v t turn after
gained-later v u t (Answer answer) after same k =
    (k.0, k.1, k.2 ∙ ap (λ (l : List Event). l ++ k.0 ∷ []) same.pairs, k.3)
gained-later v u t Ended after same k = k ∙ same.pairs
gained-later v u t (NotYet at because) after same k = k ∙ same.pairs
gained-later v u t (Over outcome) after same k = k ∙ same.pairs
gained-later v u t (Busy holder) after same k = k ∙ same.pairs

-- a turn after the seat stayed as it was
pub took-later : (v u : View) (t : ℕ) (post : Option Post) (turn : Turn) (w : View) → Serves v t
    → Stays v u → TookTurn u t post turn w → TookTurn v t post turn w
took-later v u t post turn w mine s k =
    let on : (n : ℕ) → Serves v n → Serves u n =
    λ n h. subst (λ (l : List Bool). HasFlag l n) (sym s.serves) h in
    let same : SameOf t v.seen u.seen = s.own t mine in
    record {
      book = k.book;
      within = within-along v.seen u.seen k.book s.seen k.within;
      own = λ n h. same-along n v.seen u.seen k.book (s.own n h) (k.own n (on n h));
      turn = k.turn;
      grown = within-along v.seen u.seen w.seen s.seen k.grown;
      pairs = gained-later v.seen u.seen t turn w.seen same k.pairs;
      posts = λ none. k.posts none ∙ ap (λ (l : List Post). l ++ option_to_list post) same.posts;
      late = λ over. k.late over ∙ same.posts;
      others = λ n h ne. same-along n v.seen u.seen w.seen (s.own n h) (k.others n (on n h) ne);
      serves = k.serves ∙ s.serves;
    }

pub took-at-last : (v u : View) (t : ℕ) (post : Option Post) (turn : Turn) (w : View) → Serves v t
    → Stays v u → TookOnce u t post turn w → TookAtLast v t post turn w
took-at-last v u t post turn w mine s k = record {
  took = took-later v u t post turn w mine s k.took;
  takes = (let a = s.takes in let b = k.takes in omega arith);
  turned = subst (Begins v.turned) (sym k.turned) s.turned;
}

-- each answer but Busy is of a call that took the book
pub took-once : (v : View) (t : ℕ) (post : Option Post) (turn : Turn) (w : View)
    → ((holder : ℕ) → turn ≡ Busy holder → ⊥) → GivesOnce v t post turn w → TookOnce v t post turn w
took-once v t post (Answer answer) w not k = k
took-once v t post Ended w not k = k
took-once v t post (NotYet at because) w not k = k
took-once v t post (Over outcome) w not k = k
took-once v t post (Busy holder) w not k = absurd (not holder refl)

pub stays-owes : (v w : View) (t : ℕ) → Serves v t → Stays v w → owes_of w.seen t ≡ owes_of v.seen t
stays-owes v w t h s = same-owes t v.seen w.seen (s.own t h)

pub serves-on : (v w : View) (t : ℕ) → Stays v w → Serves v t → Serves w t
serves-on v w t s h = subst (λ (l : List Bool). HasFlag l t) (sym s.serves) h

pub serves-back : (v w : View) (t : ℕ) → Stays v w → Serves w t → Serves v t
serves-back v w t s h = subst (λ (l : List Bool). HasFlag l t) s.serves h

-- the end is told of the threads that the seat served at first
pub tells-back : (v u : View) (t : ℕ) (turn : Turn) (seen : BookState) → Stays v u
    → TellsEnd u.serves t turn seen → TellsEnd v.serves t turn seen
tells-back v u t turn seen s tells =
    subst (λ (l : List Bool). TellsEnd l t turn seen) s.serves tells
