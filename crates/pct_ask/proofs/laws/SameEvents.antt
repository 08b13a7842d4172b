-- `==` on steps is equality.
use Rattle.std.specs.Bool.{Decides, beq}
use Rattle.std.specs.Cmp.{unsigned_Decides, signed_Decides, booleans_Decides}
use Rattle.std.specs.Ordering.{int_eq}
use Rattle.std.specs.Prelude.{◌==◌, ◌&&◌}
use Rattle.std.proofs.Common.{◌≡◌, refl, ap}
use Rattle.std.proofs.lemmas.Bool.Decides.{Decides-and, Decides-like}
use Rattle.pct_ask.specs.declared.ask.Ask.{Ask}
use Rattle.pct_ask.specs.declared.ask.Ask.TheVariants.{Read, Write, Add, Cas, Lock, TryLock, Unlock}
use Rattle.pct_ask.specs.declared.ask.Ask.TheVariants.{Release, Regain, Signal, Broadcast, Down}
use Rattle.pct_ask.specs.declared.ask.Ask.TheVariants.{TryDown, Up, Arrive, Leave, Join, Yield}
use Rattle.pct_ask.specs.declared.ask.Ask.TheVariants.{Check, Fault, Start, Begin, RdLock, WrLock}
use Rattle.pct_ask.specs.declared.ask.Ask.TheVariants.{TryRdLock, TryWrLock, RwUnlock}
use Rattle.pct_ask.specs.declared.event.Event.{Event}
use Rattle.pct_ask.specs.contracts.ask.AskPartialEq.TheImpl as ask_eq
use Rattle.pct_ask.specs.contracts.ask.FaultKindPartialEq.TheImpl as fault_eq
use Rattle.pct_ask.specs.contracts.event.EventPartialEq.TheImpl as event_eq
use Rattle.pct_ask.proofs.laws.SameVerdicts.{fault-Decides}

ask-Decides : (a b : Ask) → Decides ((ask_eq.ghosts).eq a b) (a ≡ b)
ask-Decides (Read x) (Read u) =
    Decides-like (x == u) (λ e. ap (λ n. Read n) e) (λ e. cc) (unsigned_Decides x u)
ask-Decides (Write x y) (Write u v) =
    Decides-like (x == u && int_eq y v) (λ (e : (x ≡ u) × (y ≡ v)). cc) (λ e. (cc, cc))
    (Decides-and (x == u) (int_eq y v) (unsigned_Decides x u) (signed_Decides y v))
ask-Decides (Add x y) (Add u v) =
    Decides-like (x == u && int_eq y v) (λ (e : (x ≡ u) × (y ≡ v)). cc) (λ e. (cc, cc))
    (Decides-and (x == u) (int_eq y v) (unsigned_Decides x u) (signed_Decides y v))
ask-Decides (Cas x y z) (Cas u v w) =
    Decides-like (x == u && (int_eq y v && int_eq z w)) (λ (e : (x ≡ u) × ((y ≡ v) × (z ≡ w))). cc)
    (λ e. (cc, (cc, cc)))
    (Decides-and (x == u) (int_eq y v && int_eq z w) (unsigned_Decides x u)
    (Decides-and (int_eq y v) (int_eq z w) (signed_Decides y v) (signed_Decides z w)))
ask-Decides (Lock x) (Lock u) =
    Decides-like (x == u) (λ e. ap (λ n. Lock n) e) (λ e. cc) (unsigned_Decides x u)
ask-Decides (TryLock x) (TryLock u) =
    Decides-like (x == u) (λ e. ap (λ n. TryLock n) e) (λ e. cc) (unsigned_Decides x u)
ask-Decides (Unlock x) (Unlock u) =
    Decides-like (x == u) (λ e. ap (λ n. Unlock n) e) (λ e. cc) (unsigned_Decides x u)
ask-Decides (Release x y) (Release u v) =
    Decides-like (x == u && y == v) (λ (e : (x ≡ u) × (y ≡ v)). cc) (λ e. (cc, cc))
    (Decides-and (x == u) (y == v) (unsigned_Decides x u) (unsigned_Decides y v))
ask-Decides (Regain x y) (Regain u v) =
    Decides-like (x == u && y == v) (λ (e : (x ≡ u) × (y ≡ v)). cc) (λ e. (cc, cc))
    (Decides-and (x == u) (y == v) (unsigned_Decides x u) (unsigned_Decides y v))
ask-Decides (Signal x) (Signal u) =
    Decides-like (x == u) (λ e. ap (λ n. Signal n) e) (λ e. cc) (unsigned_Decides x u)
ask-Decides (Broadcast x) (Broadcast u) =
    Decides-like (x == u) (λ e. ap (λ n. Broadcast n) e) (λ e. cc) (unsigned_Decides x u)
ask-Decides (Down x) (Down u) =
    Decides-like (x == u) (λ e. ap (λ n. Down n) e) (λ e. cc) (unsigned_Decides x u)
ask-Decides (TryDown x) (TryDown u) =
    Decides-like (x == u) (λ e. ap (λ n. TryDown n) e) (λ e. cc) (unsigned_Decides x u)
ask-Decides (Up x) (Up u) =
    Decides-like (x == u) (λ e. ap (λ n. Up n) e) (λ e. cc) (unsigned_Decides x u)
ask-Decides (Arrive x) (Arrive u) =
    Decides-like (x == u) (λ e. ap (λ n. Arrive n) e) (λ e. cc) (unsigned_Decides x u)
ask-Decides (Leave x) (Leave u) =
    Decides-like (x == u) (λ e. ap (λ n. Leave n) e) (λ e. cc) (unsigned_Decides x u)
ask-Decides (Join x) (Join u) =
    Decides-like (x == u) (λ e. ap (λ n. Join n) e) (λ e. cc) (unsigned_Decides x u)
ask-Decides Yield Yield = (λ h. refl, λ h. refl)
ask-Decides (Check x) (Check u) =
    Decides-like (beq x u) (λ e. ap (λ n. Check n) e) (λ e. cc) (booleans_Decides x u)
ask-Decides (Fault x) (Fault u) =
    Decides-like ((fault_eq.ghosts).eq x u) (λ e. ap (λ n. Fault n) e) (λ e. cc) (fault-Decides x u)
ask-Decides (Start x) (Start u) =
    Decides-like (x == u) (λ e. ap (λ n. Start n) e) (λ e. cc) (unsigned_Decides x u)
ask-Decides Begin Begin = (λ h. refl, λ h. refl)
ask-Decides (RdLock x) (RdLock u) =
    Decides-like (x == u) (λ e. ap (λ n. RdLock n) e) (λ e. cc) (unsigned_Decides x u)
ask-Decides (WrLock x) (WrLock u) =
    Decides-like (x == u) (λ e. ap (λ n. WrLock n) e) (λ e. cc) (unsigned_Decides x u)
ask-Decides (TryRdLock x) (TryRdLock u) =
    Decides-like (x == u) (λ e. ap (λ n. TryRdLock n) e) (λ e. cc) (unsigned_Decides x u)
ask-Decides (TryWrLock x) (TryWrLock u) =
    Decides-like (x == u) (λ e. ap (λ n. TryWrLock n) e) (λ e. cc) (unsigned_Decides x u)
ask-Decides (RwUnlock x) (RwUnlock u) =
    Decides-like (x == u) (λ e. ap (λ n. RwUnlock n) e) (λ e. cc) (unsigned_Decides x u)
ask-Decides a b = (λ h. cc, λ h. cc)

-- thread, line, ask and answer of two steps are equal
abbrev SameParts : Event → Event → Type 0
SameParts a b =
    (a.thread ≡ b.thread) × ((a.line ≡ b.line) × ((a.ask ≡ b.ask) × (a.answer ≡ b.answer)))

pub event-Decides : (a b : Event) → Decides ((event_eq.ghosts).eq a b) (a ≡ b)
event-Decides a b =
    let asks = (ask_eq.ghosts).eq a.ask b.ask in
    Decides-like (a.thread == b.thread && (a.line == b.line && (asks && int_eq a.answer b.answer)))
    (λ (e : SameParts a b). λ j. record {
      thread = e.0 j;
      line = e.1.0 j;
      ask = e.1.1.0 j;
      answer = e.1.1.1 j;
    })
    (λ e. (
      ap (λ (x : Event). x.thread) e,
      (
        ap (λ (x : Event). x.line) e,
        (
          ap (λ (x : Event). x.ask) e,
          ap (λ (x : Event). x.answer) e,
        ),
      ),
    ))
    (Decides-and (a.thread == b.thread) (a.line == b.line && (asks && int_eq a.answer b.answer))
    (unsigned_Decides a.thread b.thread)
    (Decides-and (a.line == b.line) (asks && int_eq a.answer b.answer)
    (unsigned_Decides a.line b.line)
    (Decides-and asks (int_eq a.answer b.answer) (ask-Decides a.ask b.ask)
    (signed_Decides a.answer b.answer))))
