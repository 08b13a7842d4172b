-- The objects to which a step gives and from which it takes say which edges it makes.
use Rattle.std.proofs.Common.{◌≡◌, ℕ, ℤ, pos, true, cond, int_lt, Some, None, option_map, refl, sym}
use Rattle.std.proofs.Common.{ap, subst, ◌∙◌, inl, inr, ◌⊎◌}
use Rattle.std.proofs.lemmas.Bool.{cases_Bool}
use Rattle.std.specs.Ordering.{int_eq}
use Rattle.pct_ask.specs.declared.ask.Ask.{Ask}
use Rattle.pct_ask.specs.declared.ask.Ask.TheVariants.{Add, Cas, Lock, TryLock, Unlock, Release}
use Rattle.pct_ask.specs.declared.ask.Ask.TheVariants.{Regain, Signal, Broadcast, Down, TryDown, Up}
use Rattle.pct_ask.specs.declared.ask.Ask.TheVariants.{Arrive, Leave, Join, Start, RdLock, WrLock}
use Rattle.pct_ask.specs.declared.ask.Ask.TheVariants.{TryRdLock, TryWrLock, RwUnlock}
use Rattle.hb_race.specs.declared.object.Object.{Object}
use Rattle.hb_race.specs.declared.object.Object.TheVariants.{Thread, Beginning, Mutex, Condition}
use Rattle.hb_race.specs.declared.object.Object.TheVariants.{Semaphore, Barrier, Variable}
use Rattle.hb_race.specs.declared.object.Object.TheVariants.{ReadWriteLock}
use Rattle.hb_race.specs.HappensBefore.{if_taken, if_woken, mutex_let_go, mutex_taken}
use Rattle.hb_race.specs.HappensBefore.{condition_signalled, condition_left, semaphore_raised}
use Rattle.hb_race.specs.HappensBefore.{semaphore_lowered, barrier_reached, barrier_left}
use Rattle.hb_race.specs.HappensBefore.{thread_started, thread_joined, rwlock_let_go, rwlock_taken}
use Rattle.hb_race.specs.HappensBefore.{atomic_variable}
use Rattle.hb_race.specs.Objects.{object_given, first_taken, second_taken}

-- a step gives to an object by its words, beside its own thread
abbrev pub Gives : Ask → ℤ → Object → Type 0
Gives ask answer (Thread t) = ⊥
Gives ask answer (Beginning t) = thread_started ask ≡ Some t
Gives ask answer (Mutex m) = mutex_let_go ask ≡ Some m
Gives ask answer (Condition c) = condition_signalled ask answer ≡ Some c
Gives ask answer (Semaphore s) = semaphore_raised ask ≡ Some s
Gives ask answer (Barrier b) = barrier_reached ask ≡ Some b
Gives ask answer (Variable x) = atomic_variable ask ≡ Some x
Gives ask answer (ReadWriteLock l) = rwlock_let_go ask ≡ Some l

-- and takes from it
abbrev pub Takes : Ask → ℤ → Object → Type 0
Takes ask answer (Thread t) = thread_joined ask ≡ Some t
Takes ask answer (Beginning t) = ⊥
Takes ask answer (Mutex m) = mutex_taken ask answer ≡ Some m
Takes ask answer (Condition c) = condition_left ask ≡ Some c
Takes ask answer (Semaphore s) = semaphore_lowered ask answer ≡ Some s
Takes ask answer (Barrier b) = barrier_left ask ≡ Some b
Takes ask answer (Variable x) = atomic_variable ask ≡ Some x
Takes ask answer (ReadWriteLock l) = rwlock_taken ask answer ≡ Some l

pub some-same : {A : Type 0} (x y : A) → Some x ≡ Some y → x ≡ y
some-same x y e = cc

-- where an attempt succeeded, it did so with any object
pub taken-same : {A : Type 0} (answer : ℤ) (x y : A) → if_taken answer x ≡ Some y
    → (int_eq answer (pos 1) ≡ true) × (x ≡ y)
taken-same answer x y e = elim (cases_Bool (int_eq answer (pos 1))) [
  | inl holds ↦ (holds, some-same x y (sym (ap (λ b. cond b (Some x) None) holds) ∙ e))
  | inr fails ↦ let none : None ≡ Some y = sym (ap (λ b. cond b (Some x) None) fails) ∙ e in
      absurd cc
]

taken-other : {A : Type 0} (answer : ℤ) (x : A) → int_eq answer (pos 1) ≡ true
    → if_taken answer x ≡ Some x
taken-other answer x holds = ap (λ b. cond b (Some x) None) holds

pub woken-same : {A : Type 0} (answer : ℤ) (x y : A) → if_woken answer x ≡ Some y
    → (int_lt (pos 0) answer ≡ true) × (x ≡ y)
woken-same answer x y e = elim (cases_Bool (int_lt (pos 0) answer)) [
  | inl holds ↦ (holds, some-same x y (sym (ap (λ b. cond b (Some x) None) holds) ∙ e))
  | inr fails ↦ let none : None ≡ Some y = sym (ap (λ b. cond b (Some x) None) fails) ∙ e in
      absurd cc
]

woken-other : {A : Type 0} (answer : ℤ) (x : A) → int_lt (pos 0) answer ≡ true
    → if_woken answer x ≡ Some x
woken-other answer x holds = ap (λ b. cond b (Some x) None) holds

-- ---- what a step gives to
pub given-words : (ask : Ask) (answer : ℤ) (o : Object) → object_given ask answer ≡ Some o
    → Gives ask answer o
given-words (Start k) answer o e = subst (Gives (Start k) answer) (some-same (Beginning k) o e) refl
given-words (Unlock k) answer o e = subst (Gives (Unlock k) answer) (some-same (Mutex k) o e) refl
given-words (Release c k) answer o e =
    subst (Gives (Release c k) answer) (some-same (Mutex k) o e) refl
given-words (Signal k) answer o e = let same = woken-same answer (Condition k) o e in
    subst (Gives (Signal k) answer) same.1 (woken-other answer k same.0)
given-words (Broadcast k) answer o e = let same = woken-same answer (Condition k) o e in
    subst (Gives (Broadcast k) answer) same.1 (woken-other answer k same.0)
given-words (Up k) answer o e = subst (Gives (Up k) answer) (some-same (Semaphore k) o e) refl
given-words (Arrive k) answer o e = subst (Gives (Arrive k) answer) (some-same (Barrier k) o e) refl
given-words (Add k value) answer o e =
    subst (Gives (Add k value) answer) (some-same (Variable k) o e) refl
given-words (Cas k old new) answer o e =
    subst (Gives (Cas k old new) answer) (some-same (Variable k) o e) refl
given-words (RwUnlock k) answer o e =
    subst (Gives (RwUnlock k) answer) (some-same (ReadWriteLock k) o e) refl
given-words _ answer o e = absurd cc

words-given-Beginning : (ask : Ask) (answer : ℤ) (id : ℕ) → thread_started ask ≡ Some id
    → object_given ask answer ≡ Some (Beginning id)
words-given-Beginning (Start k) answer id e = ap (option_map Beginning) e
words-given-Beginning _ answer id e = absurd cc

words-given-Mutex : (ask : Ask) (answer : ℤ) (id : ℕ) → mutex_let_go ask ≡ Some id
    → object_given ask answer ≡ Some (Mutex id)
words-given-Mutex (Unlock k) answer id e = ap (option_map Mutex) e
words-given-Mutex (Release c k) answer id e = ap (option_map Mutex) e
words-given-Mutex _ answer id e = absurd cc

words-given-Condition : (ask : Ask) (answer : ℤ) (id : ℕ) → condition_signalled ask answer ≡ Some id
    → object_given ask answer ≡ Some (Condition id)
words-given-Condition (Signal k) answer id e = let same = woken-same answer k id e in
    woken-other answer (Condition k) same.0 ∙ ap (λ i. Some (Condition i)) same.1
words-given-Condition (Broadcast k) answer id e = let same = woken-same answer k id e in
    woken-other answer (Condition k) same.0 ∙ ap (λ i. Some (Condition i)) same.1
words-given-Condition _ answer id e = absurd cc

words-given-Semaphore : (ask : Ask) (answer : ℤ) (id : ℕ) → semaphore_raised ask ≡ Some id
    → object_given ask answer ≡ Some (Semaphore id)
words-given-Semaphore (Up k) answer id e = ap (option_map Semaphore) e
words-given-Semaphore _ answer id e = absurd cc

words-given-Barrier : (ask : Ask) (answer : ℤ) (id : ℕ) → barrier_reached ask ≡ Some id
    → object_given ask answer ≡ Some (Barrier id)
words-given-Barrier (Arrive k) answer id e = ap (option_map Barrier) e
words-given-Barrier _ answer id e = absurd cc

words-given-Variable : (ask : Ask) (answer : ℤ) (id : ℕ) → atomic_variable ask ≡ Some id
    → object_given ask answer ≡ Some (Variable id)
words-given-Variable (Add k value) answer id e = ap (option_map Variable) e
words-given-Variable (Cas k old new) answer id e = ap (option_map Variable) e
words-given-Variable _ answer id e = absurd cc

words-given-ReadWriteLock : (ask : Ask) (answer : ℤ) (id : ℕ) → rwlock_let_go ask ≡ Some id
    → object_given ask answer ≡ Some (ReadWriteLock id)
words-given-ReadWriteLock (RwUnlock k) answer id e = ap (option_map ReadWriteLock) e
words-given-ReadWriteLock _ answer id e = absurd cc

pub words-given : (ask : Ask) (answer : ℤ) (o : Object) → Gives ask answer o
    → object_given ask answer ≡ Some o
words-given ask answer (Thread id) e = absurd e
words-given ask answer (Beginning id) e = words-given-Beginning ask answer id e
words-given ask answer (Mutex id) e = words-given-Mutex ask answer id e
words-given ask answer (Condition id) e = words-given-Condition ask answer id e
words-given ask answer (Semaphore id) e = words-given-Semaphore ask answer id e
words-given ask answer (Barrier id) e = words-given-Barrier ask answer id e
words-given ask answer (Variable id) e = words-given-Variable ask answer id e
words-given ask answer (ReadWriteLock id) e = words-given-ReadWriteLock ask answer id e

-- ---- what a step takes from
pub first-words : (ask : Ask) (answer : ℤ) (o : Object) → first_taken ask answer ≡ Some o
    → Takes ask answer o
first-words (Join k) answer o e = subst (Takes (Join k) answer) (some-same (Thread k) o e) refl
first-words (Lock k) answer o e = subst (Takes (Lock k) answer) (some-same (Mutex k) o e) refl
first-words (TryLock k) answer o e = let same = taken-same answer (Mutex k) o e in
    subst (Takes (TryLock k) answer) same.1 (taken-other answer k same.0)
first-words (Regain c k) answer o e =
    subst (Takes (Regain c k) answer) (some-same (Mutex k) o e) refl
first-words (Down k) answer o e = subst (Takes (Down k) answer) (some-same (Semaphore k) o e) refl
first-words (TryDown k) answer o e = let same = taken-same answer (Semaphore k) o e in
    subst (Takes (TryDown k) answer) same.1 (taken-other answer k same.0)
first-words (Leave k) answer o e = subst (Takes (Leave k) answer) (some-same (Barrier k) o e) refl
first-words (Add k value) answer o e =
    subst (Takes (Add k value) answer) (some-same (Variable k) o e) refl
first-words (Cas k old new) answer o e =
    subst (Takes (Cas k old new) answer) (some-same (Variable k) o e) refl
first-words (RdLock k) answer o e =
    subst (Takes (RdLock k) answer) (some-same (ReadWriteLock k) o e) refl
first-words (WrLock k) answer o e =
    subst (Takes (WrLock k) answer) (some-same (ReadWriteLock k) o e) refl
first-words (TryRdLock k) answer o e = let same = taken-same answer (ReadWriteLock k) o e in
    subst (Takes (TryRdLock k) answer) same.1 (taken-other answer k same.0)
first-words (TryWrLock k) answer o e = let same = taken-same answer (ReadWriteLock k) o e in
    subst (Takes (TryWrLock k) answer) same.1 (taken-other answer k same.0)
first-words _ answer o e = absurd cc

pub second-words : (ask : Ask) (answer : ℤ) (o : Object) → second_taken ask ≡ Some o
    → Takes ask answer o
second-words (Regain c m) answer o e =
    subst (Takes (Regain c m) answer) (some-same (Condition c) o e) refl
second-words _ answer o e = absurd cc

words-first-Thread : (ask : Ask) (answer : ℤ) (id : ℕ) → thread_joined ask ≡ Some id
    → first_taken ask answer ≡ Some (Thread id)
words-first-Thread (Join k) answer id e = ap (option_map Thread) e
words-first-Thread _ answer id e = absurd cc

words-first-Mutex : (ask : Ask) (answer : ℤ) (id : ℕ) → mutex_taken ask answer ≡ Some id
    → first_taken ask answer ≡ Some (Mutex id)
words-first-Mutex (Lock k) answer id e = ap (option_map Mutex) e
words-first-Mutex (TryLock k) answer id e = let same = taken-same answer k id e in
    taken-other answer (Mutex k) same.0 ∙ ap (λ i. Some (Mutex i)) same.1
words-first-Mutex (Regain c k) answer id e = ap (option_map Mutex) e
words-first-Mutex _ answer id e = absurd cc

words-first-Semaphore : (ask : Ask) (answer : ℤ) (id : ℕ) → semaphore_lowered ask answer ≡ Some id
    → first_taken ask answer ≡ Some (Semaphore id)
words-first-Semaphore (Down k) answer id e = ap (option_map Semaphore) e
words-first-Semaphore (TryDown k) answer id e = let same = taken-same answer k id e in
    taken-other answer (Semaphore k) same.0 ∙ ap (λ i. Some (Semaphore i)) same.1
words-first-Semaphore _ answer id e = absurd cc

words-first-Barrier : (ask : Ask) (answer : ℤ) (id : ℕ) → barrier_left ask ≡ Some id
    → first_taken ask answer ≡ Some (Barrier id)
words-first-Barrier (Leave k) answer id e = ap (option_map Barrier) e
words-first-Barrier _ answer id e = absurd cc

words-first-Variable : (ask : Ask) (answer : ℤ) (id : ℕ) → atomic_variable ask ≡ Some id
    → first_taken ask answer ≡ Some (Variable id)
words-first-Variable (Add k value) answer id e = ap (option_map Variable) e
words-first-Variable (Cas k old new) answer id e = ap (option_map Variable) e
words-first-Variable _ answer id e = absurd cc

words-first-ReadWriteLock : (ask : Ask) (answer : ℤ) (id : ℕ) → rwlock_taken ask answer ≡ Some id
    → first_taken ask answer ≡ Some (ReadWriteLock id)
words-first-ReadWriteLock (RdLock k) answer id e = ap (option_map ReadWriteLock) e
words-first-ReadWriteLock (WrLock k) answer id e = ap (option_map ReadWriteLock) e
words-first-ReadWriteLock (TryRdLock k) answer id e = let same = taken-same answer k id e in
    taken-other answer (ReadWriteLock k) same.0 ∙ ap (λ i. Some (ReadWriteLock i)) same.1
words-first-ReadWriteLock (TryWrLock k) answer id e = let same = taken-same answer k id e in
    taken-other answer (ReadWriteLock k) same.0 ∙ ap (λ i. Some (ReadWriteLock i)) same.1
words-first-ReadWriteLock _ answer id e = absurd cc

words-second : (ask : Ask) (id : ℕ) → condition_left ask ≡ Some id
    → second_taken ask ≡ Some (Condition id)
words-second (Regain c m) id e = ap (option_map Condition) e
words-second _ id e = absurd cc

pub words-taken : (ask : Ask) (answer : ℤ) (o : Object) → Takes ask answer o
    → (first_taken ask answer ≡ Some o) ⊎ (second_taken ask ≡ Some o)
words-taken ask answer (Beginning id) e = absurd e
words-taken ask answer (Condition id) e = inr (words-second ask id e)
words-taken ask answer (Thread id) e = inl (words-first-Thread ask answer id e)
words-taken ask answer (Mutex id) e = inl (words-first-Mutex ask answer id e)
words-taken ask answer (Semaphore id) e = inl (words-first-Semaphore ask answer id e)
words-taken ask answer (Barrier id) e = inl (words-first-Barrier ask answer id e)
words-taken ask answer (Variable id) e = inl (words-first-Variable ask answer id e)
words-taken ask answer (ReadWriteLock id) e = inl (words-first-ReadWriteLock ask answer id e)
