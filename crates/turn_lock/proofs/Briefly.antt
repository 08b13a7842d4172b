-- Turns by what is said of them in brief.
use Rattle.std.proofs.Common.{◌≡◌, ◌≢◌, ℕ, Option, Some, None, refl, sym, ap, ◌∙◌}
use Rattle.pct_ask.specs.declared.ask.Post.{Post}
use Rattle.pct_ask.specs.declared.verdict.Outcome.{Outcome}
use Rattle.turn_book.specs.Told.{BookState}
use Rattle.turn_lock.specs.Turns.{TookTurn, GivesOnce}
use Rattle.turn_lock.specs.Briefs.{brief, IsWith}
use Rattle.turn_lock.specs.declared.brief.Brief.TheVariants as briefs
use Rattle.turn_lock.specs.declared.turn.Turn.{Turn}
use Rattle.turn_lock.specs.declared.turn.Turn.TheVariants.{Answer, Ended, NotYet, Busy, Over}
use Rattle.turn_lock.specs.declared.view.View.{View}

pub busy-turn : (turn : Turn) (holder : ℕ) → brief turn ≡ briefs.Busy holder → turn ≡ Busy holder
busy-turn (Busy other) holder e = let same : other ≡ holder = cc in ap Busy same
busy-turn (Answer answer) holder e = absurd cc
busy-turn Ended holder e = absurd cc
busy-turn (NotYet at because) holder e = absurd cc
busy-turn (Over outcome) holder e = absurd cc

-- a turn is known by its brief form and the outcome
pub same-turn : (last : Option Outcome) (one other : Turn) → IsWith last one → IsWith last other
    → brief one ≡ brief other → one ≡ other
same-turn last (Answer a) (Answer b) w v e = let same : a ≡ b = cc in ap Answer same
same-turn last (Answer a) other w v e = absurd cc
same-turn last Ended Ended w v e = refl
same-turn last Ended other w v e = absurd cc
same-turn last (NotYet a p) (NotYet b q) w v e = let at : a ≡ b = cc in let why : p ≡ q = cc in
    ap (λ n. NotYet n p) at ∙ ap (NotYet b) why
same-turn last (NotYet a p) other w v e = absurd cc
same-turn last (Busy a) (Busy b) w v e = let same : a ≡ b = cc in ap Busy same
same-turn last (Busy a) other w v e = absurd cc
same-turn last (Over a) (Over b) w v e = let both : Some a ≡ Some b = sym w ∙ v in
    let same : a ≡ b = cc in ap Over same
same-turn last (Over a) other w v e = absurd cc

-- where the run is over there is an outcome
pub has-outcome : (last : Option Outcome) (turn : Turn) → IsWith last turn
    → brief turn ≡ briefs.Over → last ≢ None
has-outcome last (Over outcome) w e none = let both : Some outcome ≡ None = sym w ∙ none in cc
has-outcome last (Answer answer) w e none = cc
has-outcome last Ended w e none = cc
has-outcome last (NotYet at because) w e none = cc
has-outcome last (Busy holder) w e none = cc

-- the outcome that was kept is the turn's
pub with-took : (v : View) (t : ℕ) (post : Option Post) (turn : Turn) (w : View)
    (last : Option Outcome) → TookTurn v t post turn w
    → (brief turn ≡ briefs.Over → last ≡ (w.seen).outcome) → IsWith last turn
with-took v t post (Over outcome) w last k kept = let row = k.turn.row in
    kept refl ∙ ap (λ (b : BookState). b.outcome) row.1 ∙ row.0
with-took v t post (Answer answer) w last k kept = tt
with-took v t post Ended w last k kept = tt
with-took v t post (NotYet at because) w last k kept = tt
with-took v t post (Busy holder) w last k kept = tt

pub with-gives : (v : View) (t : ℕ) (post : Option Post) (turn : Turn) (w : View)
    (last : Option Outcome) → GivesOnce v t post turn w
    → (brief turn ≡ briefs.Over → last ≡ (w.seen).outcome) → IsWith last turn
with-gives v t post (Over outcome) w last k kept =
    with-took v t post (Over outcome) w last k.took kept
with-gives v t post (Answer answer) w last k kept = tt
with-gives v t post Ended w last k kept = tt
with-gives v t post (NotYet at because) w last k kept = tt
with-gives v t post (Busy holder) w last k kept = tt
