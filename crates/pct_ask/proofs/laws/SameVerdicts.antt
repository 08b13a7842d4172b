-- `==` on verdicts is equality.
use Rattle.std.specs.Bool.{Decides}
use Rattle.std.specs.Cmp.{unsigned_Decides}
use Rattle.std.specs.Prelude.{◌==◌, ◌&&◌}
use Rattle.std.proofs.Common.{◌≡◌, ℕ, Bool, refl, ap}
use Rattle.std.proofs.lemmas.Bool.Decides.{Decides-and, Decides-like}
use Rattle.pct_ask.specs.Places.{same_places}
use Rattle.pct_ask.specs.PlaceLaws.{same_places-Decides}
use Rattle.pct_ask.specs.declared.ask.FaultKind.{FaultKind}
use Rattle.pct_ask.specs.declared.ask.FaultKind.TheVariants.{Overflow, ZeroDivisor, Spin}
use Rattle.pct_ask.specs.declared.verdict.MisuseKind.{MisuseKind}
use Rattle.pct_ask.specs.declared.verdict.MisuseKind.TheVariants.{NotOwner, SemFull, AlreadyStarted}
use Rattle.pct_ask.specs.declared.verdict.MisuseKind.TheVariants.{TooManyReads}
use Rattle.pct_ask.specs.declared.verdict.Verdict.{Verdict}
use Rattle.pct_ask.specs.declared.verdict.Verdict.TheVariants.{Passed, Failed, Stuck, Misuse, Fault}
use Rattle.pct_ask.specs.declared.verdict.Verdict.TheVariants.{Cut}
use Rattle.pct_ask.specs.declared.verdict.Outcome.{Outcome}
use Rattle.pct_ask.specs.declared.verdict.Outcome.TheVariants as outcome
use Rattle.pct_ask.specs.declared.verdict.Outcome.TheVariants.{Departed}
use Rattle.pct_ask.specs.contracts.verdict.OutcomePartialEq.TheImpl as outcome_eq
use Rattle.pct_ask.specs.contracts.verdict.VerdictPartialEq.TheImpl as verdict_eq
use Rattle.pct_ask.specs.contracts.verdict.MisuseKindPartialEq.TheImpl as misuse_eq
use Rattle.pct_ask.specs.contracts.ask.FaultKindPartialEq.TheImpl as fault_eq

misuse-Decides : (a b : MisuseKind) → Decides ((misuse_eq.ghosts).eq a b) (a ≡ b)
misuse-Decides NotOwner NotOwner = (λ h. refl, λ h. refl)
misuse-Decides SemFull SemFull = (λ h. refl, λ h. refl)
misuse-Decides AlreadyStarted AlreadyStarted = (λ h. refl, λ h. refl)
misuse-Decides TooManyReads TooManyReads = (λ h. refl, λ h. refl)
misuse-Decides a b = (λ h. cc, λ h. cc)

pub fault-Decides : (a b : FaultKind) → Decides ((fault_eq.ghosts).eq a b) (a ≡ b)
fault-Decides Overflow Overflow = (λ h. refl, λ h. refl)
fault-Decides ZeroDivisor ZeroDivisor = (λ h. refl, λ h. refl)
fault-Decides Spin Spin = (λ h. refl, λ h. refl)
fault-Decides a b = (λ h. cc, λ h. cc)

three-Decides : {K : Type 0} (same : K → K → Bool) → ((a b : K) → Decides (same a b) (a ≡ b))
    → (t l u m : ℕ) (k j : K) → Decides (t == u && (l == m && same k j))
    ((t ≡ u) × ((l ≡ m) × (k ≡ j)))
three-Decides same kinds t l u m k j =
    Decides-and (t == u) (l == m && same k j) (unsigned_Decides t u)
    (Decides-and (l == m) (same k j) (unsigned_Decides l m) (kinds k j))

pub verdict-Decides : (a b : Verdict) → Decides ((verdict_eq.ghosts).eq a b) (a ≡ b)
verdict-Decides Passed Passed = (λ h. refl, λ h. refl)
verdict-Decides Cut Cut = (λ h. refl, λ h. refl)
verdict-Decides (Failed t l) (Failed u m) =
    Decides-like (t == u && l == m) (λ (e : (t ≡ u) × (l ≡ m)). cc) (λ e. (cc, cc))
    (Decides-and (t == u) (l == m) (unsigned_Decides t u) (unsigned_Decides l m))
verdict-Decides (Stuck ps) (Stuck qs) =
    Decides-like (same_places ps qs) (λ e. ap (λ places. Stuck places) e) (λ e. cc)
    (same_places-Decides ps qs)
verdict-Decides (Misuse t l k) (Misuse u m j) =
    Decides-like (t == u && (l == m && (misuse_eq.ghosts).eq k j))
    (λ (e : (t ≡ u) × ((l ≡ m) × (k ≡ j))). cc) (λ e. (cc, (cc, cc)))
    (three-Decides (misuse_eq.ghosts).eq misuse-Decides t l u m k j)
verdict-Decides (Fault t l k) (Fault u m j) =
    Decides-like (t == u && (l == m && (fault_eq.ghosts).eq k j))
    (λ (e : (t ≡ u) × ((l ≡ m) × (k ≡ j))). cc) (λ e. (cc, (cc, cc)))
    (three-Decides (fault_eq.ghosts).eq fault-Decides t l u m k j)
verdict-Decides a b = (λ h. cc, λ h. cc)

pub outcome-Decides : (a b : Outcome) → Decides ((outcome_eq.ghosts).eq a b) (a ≡ b)
outcome-Decides (outcome.Verdict v) (outcome.Verdict w) =
    Decides-like ((verdict_eq.ghosts).eq v w) (λ e. ap (λ verdict. outcome.Verdict verdict) e)
    (λ e. cc) (verdict-Decides v w)
outcome-Decides (Departed t) (Departed u) =
    Decides-like (t == u) (λ e. ap (λ thread. Departed thread) e) (λ e. cc) (unsigned_Decides t u)
outcome-Decides a b = (λ h. cc, λ h. cc)
