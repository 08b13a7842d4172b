-- A replay tells one thing.
use Rattle.std.proofs.Common.{◌≡◌, ◌≢◌, ℕ, suc, ◌+◌, List, [], ◌∷◌, ◌++◌, length, refl, sym, ap}
use Rattle.std.proofs.Common.{subst, ◌∙◌}
use Rattle.std.proofs.lemmas.List.{append_assoc}
use Rattle.pct_ask.specs.declared.Deal.{Deal}
use Rattle.pct_ask.specs.declared.event.Event.{Event}
use Rattle.pct_ask.specs.declared.verdict.Verdict.{Verdict}
use Rattle.pct_ask.specs.declared.verdict.Outcome.{Outcome}
use Rattle.pct_ask.specs.Bodies.{Pending}
use Rattle.policy_pick.specs.Plan.{ByList}
use Rattle.turn_book.specs.Posts.{schedule_of}
use Rattle.turn_book.proofs.laws.Worlds.{cons-same, same-cut}
use Rattle.trace_text.specs.declared.file.TraceFile.{TraceFile}
use Rattle.worker_run.proofs.laws.OnePlayed.{only-played}
use Rattle.replay_run.specs.declared.answer.Written.{Written}
use Rattle.replay_run.specs.declared.answer.Written.TheVariants.{Event as WrittenEvent}
use Rattle.replay_run.specs.declared.answer.Written.TheVariants.{Verdict as WrittenVerdict}
use Rattle.replay_run.specs.declared.answer.Found.{Found}
use Rattle.replay_run.specs.declared.answer.Found.TheVariants.{Event as FoundEvent, NotEnabled}
use Rattle.replay_run.specs.declared.answer.Found.TheVariants.{Goes, Over}
use Rattle.replay_run.specs.declared.answer.Replayed.{Replayed}
use Rattle.replay_run.specs.declared.answer.Replayed.TheVariants.{Confirmed, Departs}
use Rattle.replay_run.specs.Replay.{DifferAt, EndsBefore, IsDeparture, TellsReply, IsReplay}
use Rattle.replay_run.proofs.Compared.{no_difference, no_end}

-- two lists differ first at one place
same_place : (before other more more_too told told_too : List Event) (e f g h : Event)
    → before ++ e ∷ more ≡ other ++ g ∷ more_too → before ++ f ∷ told ≡ other ++ h ∷ told_too
    → e ≢ f → g ≢ h
    → (length before ≡ length other) × (e ≡ g) × (f ≡ h)
same_place [] [] more more_too told told_too e f g h one two apart apart_too = (refl, cc, cc)
same_place [] (x ∷ other) more more_too told told_too e f g h one two apart apart_too =
    absurd (apart cc)
same_place (x ∷ before) [] more more_too told told_too e f g h one two apart apart_too =
    absurd (apart_too cc)
same_place (x ∷ before) (y ∷ other) more more_too told told_too e f g h one two apart apart_too =
    let rest = same_place before other more more_too told told_too e f g h
    (cons-same x y (before ++ e ∷ more) (other ++ g ∷ more_too) one).1
    (cons-same x y (before ++ f ∷ told) (other ++ h ∷ told_too) two).1 apart apart_too in
    (ap suc rest.0, rest.1, rest.2)

module _ (made told : List Event) where
  differ_once : (step other : ℕ) (e f g h : Event) → DifferAt step made told e f
      → DifferAt other made told g h → (step ≡ other) × (e ≡ g) × (f ≡ h)
  differ_once step other e f g h d c =
      let s = same_place d.before c.before d.more c.more d.more_told c.more_told e f g h
      (sym d.made_is ∙ c.made_is) (sym d.told_is ∙ c.told_is) d.apart c.apart in
      (d.number ∙ ap (λ n. n + 1) s.0 ∙ sym c.number, s.1, s.2)

  ends_once : (step other : ℕ) (f g : Event) → EndsBefore step made told f
      → EndsBefore other made told g → (step ≡ other) × (f ≡ g)
  ends_once step other f g d c =
      let rest = (same-cut made (f ∷ d.more_told) made (g ∷ c.more_told) refl
      (sym d.told_is ∙ c.told_is)).1 in
      (d.number ∙ sym c.number, (cons-same f g d.more_told c.more_told rest).0)

  -- where two lists differ, none ends
  differ_ends : (step other : ℕ) (e f g : Event) → DifferAt step made told e f
      → EndsBefore other made told g → ⊥
  differ_ends step other e f g d c =
      let whole = sym d.told_is ∙ c.told_is ∙ ap (λ l. l ++ g ∷ c.more_told) d.made_is
      ∙ append_assoc d.before (e ∷ d.more) (g ∷ c.more_told) in
      let rest = (same-cut d.before (f ∷ d.more_told) d.before ((e ∷ d.more) ++ g ∷ c.more_told)
      refl whole).1 in
      d.apart (sym (cons-same f e d.more_told (d.more ++ g ∷ c.more_told) rest).0)

  module _ (outcome : Outcome) (verdict : Verdict) where
    departs_once : (step other : ℕ) (found found_too : Found) (written written_too : Written)
        → IsDeparture made outcome told verdict step found written
        → IsDeparture made outcome told verdict other found_too written_too
        → Departs step found written ≡ Departs other found_too written_too
    departs_once step other (FoundEvent e1) (FoundEvent e2) (WrittenEvent f1) (WrittenEvent f2) d
        c = let s = differ_once step other e1 f1 e2 f2 d c in let n = s.0 in let one = s.1 in
        let two = s.2 in cc
    departs_once step other (FoundEvent e1) (NotEnabled t2) (WrittenEvent f1) (WrittenEvent f2) d
        c = absurd (differ_ends step other e1 f1 f2 d c.0)
    departs_once step other (FoundEvent e1) (Over v2) (WrittenEvent f1) (WrittenEvent f2) d c =
        absurd (differ_ends step other e1 f1 f2 d c.0)
    departs_once step other (FoundEvent e1) (Over v2) (WrittenEvent f1) (WrittenVerdict w2) d c =
        absurd (no_difference step made told e1 f1 (c.0).same d)
    departs_once step other (FoundEvent e1) (Goes t2) (WrittenEvent f1) (WrittenVerdict w2) d c =
        absurd (no_difference step made told e1 f1 (c.0).same d)
    departs_once step other (NotEnabled t1) (FoundEvent e2) (WrittenEvent f1) (WrittenEvent f2) d
        c = absurd (differ_ends other step e2 f2 f1 c d.0)
    departs_once step other (NotEnabled t1) (NotEnabled t2) (WrittenEvent f1) (WrittenEvent f2) d
        c = let s = ends_once step other f1 f2 d.0 c.0 in let n = s.0 in let one = s.1 in
        let is = d.1 in let is_too = c.1 in cc
    departs_once step other (NotEnabled t1) (Over v2) (WrittenEvent f1) (WrittenEvent f2) d c =
        absurd (let is = d.1 in let is_too = c.1 in cc)
    departs_once step other (NotEnabled t1) (Over v2) (WrittenEvent f1) (WrittenVerdict w2) d c =
        absurd (no_end step made told f1 (c.0).same d.0)
    departs_once step other (NotEnabled t1) (Goes t2) (WrittenEvent f1) (WrittenVerdict w2) d c =
        absurd (no_end step made told f1 (c.0).same d.0)
    departs_once step other (Over v1) (FoundEvent e2) (WrittenEvent f1) (WrittenEvent f2) d c =
        absurd (differ_ends other step e2 f2 f1 c d.0)
    departs_once step other (Over v1) (NotEnabled t2) (WrittenEvent f1) (WrittenEvent f2) d c =
        absurd (let is = d.1 in let is_too = c.1 in cc)
    departs_once step other (Over v1) (Over v2) (WrittenEvent f1) (WrittenEvent f2) d c =
        let s = ends_once step other f1 f2 d.0 c.0 in let n = s.0 in let one = s.1 in
        let is = d.1 in let is_too = c.1 in cc
    departs_once step other (Over v1) (Over v2) (WrittenEvent f1) (WrittenVerdict w2) d c =
        absurd (no_end step made told f1 (c.0).same d.0)
    departs_once step other (Over v1) (Goes t2) (WrittenEvent f1) (WrittenVerdict w2) d c =
        absurd (no_end step made told f1 (c.0).same d.0)
    departs_once step other (Over v1) (FoundEvent e2) (WrittenVerdict w1) (WrittenEvent f2) d c =
        absurd (no_difference other made told e2 f2 (d.0).same c)
    departs_once step other (Over v1) (NotEnabled t2) (WrittenVerdict w1) (WrittenEvent f2) d c =
        absurd (no_end other made told f2 (d.0).same c.0)
    departs_once step other (Over v1) (Over v2) (WrittenVerdict w1) (WrittenEvent f2) d c =
        absurd (no_end other made told f2 (d.0).same c.0)
    departs_once step other (Over v1) (Over v2) (WrittenVerdict w1) (WrittenVerdict w2) d c =
        let n = (d.0).number ∙ sym (c.0).number in let is = d.1 in let is_too = c.1 in
        let one = d.2 in let two = c.2 in cc
    departs_once step other (Over v1) (Goes t2) (WrittenVerdict w1) (WrittenVerdict w2) d c =
        absurd (let is = d.1 in let is_too = c.1 in cc)
    departs_once step other (Goes t1) (FoundEvent e2) (WrittenVerdict w1) (WrittenEvent f2) d c =
        absurd (no_difference other made told e2 f2 (d.0).same c)
    departs_once step other (Goes t1) (NotEnabled t2) (WrittenVerdict w1) (WrittenEvent f2) d c =
        absurd (no_end other made told f2 (d.0).same c.0)
    departs_once step other (Goes t1) (Over v2) (WrittenVerdict w1) (WrittenEvent f2) d c =
        absurd (no_end other made told f2 (d.0).same c.0)
    departs_once step other (Goes t1) (Over v2) (WrittenVerdict w1) (WrittenVerdict w2) d c =
        absurd (let is = d.1 in let is_too = c.1 in cc)
    departs_once step other (Goes t1) (Goes t2) (WrittenVerdict w1) (WrittenVerdict w2) d c =
        let n = (d.0).number ∙ sym (c.0).number in let is = d.1 in let is_too = c.1 in
        let one = d.2 in let two = c.2 in cc
    departs_once step other (Goes t1) found_too (WrittenEvent f1) written_too d c = absurd d
    departs_once step other (FoundEvent e1) found_too (WrittenVerdict w1) written_too d c = absurd d
    departs_once step other (NotEnabled t1) found_too (WrittenVerdict w1) written_too d c = absurd d
    departs_once step other found (Goes t2) written (WrittenEvent f2) d c = absurd c
    departs_once step other found (FoundEvent e2) written (WrittenVerdict w2) d c = absurd c
    departs_once step other found (NotEnabled t2) written (WrittenVerdict w2) d c = absurd c

    confirmed_not : (v : Verdict) (step : ℕ) (found : Found) (written : Written)
        → TellsReply made outcome told verdict (Confirmed v)
        → IsDeparture made outcome told verdict step found written → ⊥
    confirmed_not v step (FoundEvent e) (WrittenEvent f) same d =
        no_difference step made told e f same.0 d
    confirmed_not v step (NotEnabled t) (WrittenEvent f) same d = no_end step made told f same.0 d.0
    confirmed_not v step (Over w) (WrittenEvent f) same d = no_end step made told f same.0 d.0
    confirmed_not v step (Over w) (WrittenVerdict x) same d =
        d.3 (let is = d.1 in let is_too = same.1 in let one = d.2 in cc)
    confirmed_not v step (Goes t) (WrittenVerdict x) same d = let is = d.1 in let is_too = same.1 in
        cc
    confirmed_not v step (Goes t) (WrittenEvent f) same d = d
    confirmed_not v step (FoundEvent e) (WrittenVerdict w) same d = d
    confirmed_not v step (NotEnabled t) (WrittenVerdict w) same d = d

    pub tells_once : (one other : Replayed) → TellsReply made outcome told verdict one
        → TellsReply made outcome told verdict other → one ≡ other
    tells_once (Confirmed v) (Confirmed w) a b = ap Confirmed (sym a.2 ∙ b.2)
    tells_once (Confirmed v) (Departs step found written) a b =
        absurd (confirmed_not v step found written a b)
    tells_once (Departs step found written) (Confirmed w) a b =
        absurd (confirmed_not w step found written b a)
    tells_once (Departs step found written) (Departs other found_too written_too) a b =
        departs_once step other found found_too written written_too a b

-- Of a deal, bodies and a trace there is one replay.
pub one_replay : (deal : Deal) (bodies : List Pending) (file : TraceFile) (one other : Replayed)
    → IsReplay deal bodies file one → IsReplay deal bodies file other → one ≡ other
one_replay deal bodies file one other a b =
    let only = only-played (ByList (schedule_of file.events)) deal bodies (file.header).limit b.made
    a.made b.outcome a.outcome b.played a.played in
    let E : List Event → Type 0 = λ es. TellsReply es a.outcome file.events file.verdict other in
    let O : Outcome → Type 0 = λ o. TellsReply b.made o file.events file.verdict other in
    tells_once a.made file.events a.outcome file.verdict one other a.tells
    (subst E only.0 (subst O only.1 b.tells))
