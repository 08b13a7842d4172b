-- A thread that runs flat code does what the thread of the script does.
use Rattle.std.proofs.Common.{◌≡◌, ℕ, zero, suc, ℤ, Bool, true, false, cond, List, [], ◌∷◌, Option}
use Rattle.std.proofs.Common.{Some, None, Result, Ok, Err, refl, sym, ap, ap₂, ◌∙◌, subst}
use Rattle.std.specs.Prelude.{slice_get, slice_set}
use Rattle.pct_ask.specs.declared.ask.FaultKind.{FaultKind}
use Rattle.pct_ask.specs.declared.ask.FaultKind.TheVariants.{Spin}
use Rattle.script_tree.specs.Trees.{Expression, Statement, Read, Write, Add, Cas, TryLock, Wait}
use Rattle.script_tree.specs.Trees.{TryDown, Arrive, Assert, Set, If, IfElse, While, TryRdLock}
use Rattle.script_tree.specs.Trees.{TryWrLock, line_of}
use Rattle.script_tree.specs.Values.{Value, is_zero, value_of}
use Rattle.script_tree.specs.Machine.{Act, Moves, Asks, Ends, Stand, by_move, by_act, faults, stand}
use Rattle.script_tree.specs.Machine.{pending_from}
use Rattle.script_tree.specs.Moves.{State, state_before, end_state, moves, asks_by, chosen_block}
use Rattle.script_tree.specs.Moves.{act, state_halfway}
use Rattle.script_tree.specs.Moves.{head}
use Rattle.script_code.specs.Operations.{Operation, Do, Test, End}
use Rattle.script_code.specs.Placed.{last_place}
use Rattle.script_code.specs.FlatPosts.{Spot, spot, last_spot, after_lone, lone_move, test_move}
use Rattle.script_code.specs.FlatPosts.{flat_act, flat_head}
use Rattle.script_code.proofs.Laid.{Laid, Follows, follows_all}

-- the numbers count where statements remain
abbrev SameNumbers : List Statement → State → Spot → Type 0
SameNumbers [] s at = Unit {0}
SameNumbers (x ∷ rest) s at = (s.registers ≡ at.registers) × (s.halfway ≡ at.halfway)

no_both : {o : Option Operation} {line next otherwise mid : ℕ} {test : Expression} {s : Statement}
    → o ≡ Some (Test line test next otherwise) → o ≡ Some (Do s mid) → ⊥
no_both a b = let clash = sym a ∙ b in cc

-- of a code whose last operation is the end, on this line
module _ (code : List Operation) (end : ℕ)
    (last : slice_get code (last_place code) ≡ Some (End end)) where
  pub record Alike (s : State) (at : Spot) : Type 0 where
    pub follows : Follows code end at.place s.rest
    pub numbers : SameNumbers s.rest s at

  alike_ended : Alike end_state (last_spot code)
  alike_ended = record { follows = last; numbers = tt }

  same_numbers : (rest : List Statement) (registers : List ℤ) (place : ℕ)
      → SameNumbers rest (state_before rest registers) (spot place registers)
  same_numbers [] registers place = tt
  same_numbers (s ∷ rest) registers place = (refl, refl)

  pub alike_before : (rest : List Statement) (registers : List ℤ) (place : ℕ)
      → Follows code end place rest → Alike (state_before rest registers) (spot place registers)
  alike_before rest registers place f = record {
    follows = f;
    numbers = same_numbers rest registers place;
  }

  abbrev AlikeResults : Result State FaultKind → Result Spot FaultKind → Type 0
  AlikeResults (Ok s) (Ok at) = Alike s at
  AlikeResults (Err j) (Err k) = j ≡ k
  AlikeResults (Ok s) (Err k) = ⊥
  AlikeResults (Err j) (Ok at) = ⊥

  abbrev AlikeActs : Act State → Act Spot → Type 0
  AlikeActs (Moves r) (Moves q) = AlikeResults r q
  AlikeActs (Asks a f) (Asks b g) = (a ≡ b) × ((x : ℤ) → Alike (f x) (g x))
  AlikeActs Ends Ends = Unit {0}
  AlikeActs a b = ⊥

  record AlikeStands (a : Stand State) (b : Stand Spot) : Type 0 where
    post : a.post ≡ b.post
    after : (x : ℤ) → Alike (a.after x) (b.after x)

  record AlikeHeads (h : ℕ × Act State) (g : ℕ × Act Spot) : Type 0 where
    line : h.0 ≡ g.0
    acts : AlikeActs h.1 g.1

  faults_alike : (i j : ℕ) → i ≡ j → (k l : FaultKind) → k ≡ l
      → AlikeStands (faults (head end) end_state i k) (faults (flat_head code) (last_spot code) j l)
  faults_alike i j e k l f = record {
    post = ap₂ (λ (line : ℕ) kind. (faults (head end) end_state line kind).post) e f;
    after = λ x. alike_ended;
  }

  by_act_alike : (i j : ℕ) → i ≡ j → (a : Act State) (b : Act Spot) → AlikeActs a b
      → (f : Result State FaultKind → Stand State) (g : Result Spot FaultKind → Stand Spot)
      → ((r : Result State FaultKind) (q : Result Spot FaultKind) → AlikeResults r q
      → AlikeStands (f r) (g q)) → AlikeStands (by_act (head end) end_state i a f)
      (by_act (flat_head code) (last_spot code) j b g)
  by_act_alike i j e (Moves r) (Moves q) h f g go = go r q h
  by_act_alike i j e (Moves r) (Asks b after) h f g go = absurd h
  by_act_alike i j e (Moves r) Ends h f g go = absurd h
  by_act_alike i j e (Asks a before_) (Moves q) h f g go = absurd h
  by_act_alike i j e (Asks a before_) (Asks b after) h f g go = record {
    post = ap₂ (λ ask (line : ℕ). record { ask = Some ask; line = line }) h.0 e;
    after = h.1;
  }
  by_act_alike i j e (Asks a before_) Ends h f g go = absurd h
  by_act_alike i j e Ends (Moves q) h f g go = absurd h
  by_act_alike i j e Ends (Asks b after) h f g go = absurd h
  by_act_alike i j e Ends Ends h f g go = record {
    post = ap (λ (line : ℕ). record { ask = None; line = line }) e;
    after = λ x. alike_ended;
  }

  by_move_alike : (i j : ℕ) → i ≡ j → (r : Result State FaultKind) (q : Result Spot FaultKind)
      → AlikeResults r q → (f : State → Stand State) (g : Spot → Stand Spot)
      → ((s : State) (at : Spot) → Alike s at → AlikeStands (f s) (g at))
      → AlikeStands (by_move (head end) end_state i r f)
      (by_move (flat_head code) (last_spot code) j q g)
  by_move_alike i j e (Ok s) (Ok at) h f g go = go s at h
  by_move_alike i j e (Ok s) (Err k) h f g go = absurd h
  by_move_alike i j e (Err k) (Ok at) h f g go = absurd h
  by_move_alike i j e (Err k) (Err l) h f g go = faults_alike i j e k l h

  -- ---- one statement

  module _ (rest : List Statement) (registers : List ℤ) (place mid : ℕ)
      (f : Follows code end mid rest) where
    abbrev Agree : Act State → Act State → Type 0
    Agree a lone = AlikeActs a (lone_move (after_lone place mid) lone (last_spot code))

    abbrev on : (r : List ℤ) → Alike (state_before rest r) (spot mid r)
    on r = alike_before rest r mid f

    by_value : (v : Value) (a lone : ℤ → Act State) → ((n : ℤ) → Agree (a n) (lone n))
        → Agree (asks_by v a) (asks_by v lone)
    by_value (Ok n) a lone h = h n
    by_value (Err kind) a lone h = (refl, λ x. alike_ended)

    by_set : (reg : ℕ) (v : Value)
        → Agree (moves v (λ n. state_before rest (slice_set registers reg n)))
        (moves v (λ n. state_before [] (slice_set registers reg n)))
    by_set reg (Ok n) = on (slice_set registers reg n)
    by_set reg (Err kind) = refl

    halfway_through : (s : Statement) → Laid code place mid s
        → Alike (state_halfway rest registers s)
        (record { place = place; registers = registers; halfway = true })
    halfway_through s l = record { follows = (mid, l, f); numbers = (refl, refl) }

    lone_agrees : (halfway : Bool) (s : Statement) → Laid code place mid s
        → slice_get code place ≡ Some (Do s mid)
        → Agree (act rest registers halfway s) (act [] registers halfway s)
    lone_agrees halfway (Read line reg var) l e = (refl, λ x. on (slice_set registers reg x))
    lone_agrees halfway (Write line var value) l e =
        by_value (value_of registers value) _ _ (λ n. (refl, λ x. on registers))
    lone_agrees halfway (Add line reg var value) l e =
        by_value (value_of registers value) _ _ (λ n. (refl, λ x. on (slice_set registers reg x)))
    lone_agrees halfway (Cas line reg var old new) l e =
        by_value (value_of registers old) _ _
        (λ m. by_value (value_of registers new) _ _
        (λ n. (refl, λ x. on (slice_set registers reg x))))
    lone_agrees halfway (TryLock line reg mutex) l e = (refl, λ x. on (slice_set registers reg x))
    lone_agrees halfway (TryDown line reg sem) l e = (refl, λ x. on (slice_set registers reg x))
    lone_agrees false (Wait line cond mutex) l e =
        (refl, λ x. halfway_through (Wait line cond mutex) l)
    lone_agrees true (Wait line cond mutex) l e = (refl, λ x. on registers)
    lone_agrees false (Arrive line reg barrier) l e =
        (refl, λ x. halfway_through (Arrive line reg barrier) l)
    lone_agrees true (Arrive line reg barrier) l e = (refl, λ x. on (slice_set registers reg x))
    lone_agrees halfway (Assert line test) l e =
        by_value (value_of registers test) _ _ (λ n. (refl, λ x. on registers))
    lone_agrees halfway (Set line reg value) l e = by_set reg (value_of registers value)
    lone_agrees halfway (If line test first) l e = absurd (no_both l.1 e)
    lone_agrees halfway (IfElse line test first otherwise) l e = absurd (no_both l.2 e)
    lone_agrees halfway (While line test body) l e = absurd (no_both l.1 e)
    lone_agrees halfway (TryRdLock line reg rwlock) l e =
        (refl, λ x. on (slice_set registers reg x))
    lone_agrees halfway (TryWrLock line reg rwlock) l e =
        (refl, λ x. on (slice_set registers reg x))
    lone_agrees halfway s l e = (refl, λ x. on registers)

    -- a choice between two places
    by_test : (v : Value) (first second : List Statement) (a b : ℕ) → Follows code end a first
        → Follows code end b second →
        AlikeActs (moves v (λ n. state_before (chosen_block n first second) registers))
        (test_move v (λ n. spot (cond (is_zero n) b a) registers))
    by_test (Err kind) first second a b p q = refl
    by_test (Ok n) first second a b p q = chosen_alike (is_zero n)
      where
        chosen_alike : (z : Bool) → Alike (state_before (cond z second first) registers)
            (spot (cond z b a) registers)
        chosen_alike true = alike_before second registers b q
        chosen_alike false = alike_before first registers a p

    at_test : (halfway : Bool) (line : ℕ) (act_ : Act State) (test : Expression) (a b : ℕ)
        → slice_get code place ≡ Some (Test line test a b) →
        AlikeActs act_ (test_move (value_of registers test)
        (λ n. spot (cond (is_zero n) b a) registers)) →
        AlikeHeads (line, act_) (flat_head code
        (record { place = place; registers = registers; halfway = halfway }))
    at_test halfway line act_ test a b e h =
        subst (λ o. AlikeHeads (line, act_)
        (flat_act o code (record { place = place; registers = registers; halfway = halfway })))
        (sym e) (record { line = refl; acts = h })

    head_alike : (halfway : Bool) (s : Statement) → Laid code place mid s
        → AlikeHeads (line_of s, act rest registers halfway s)
        (flat_head code (record { place = place; registers = registers; halfway = halfway }))
    head_alike halfway (If line test first) l =
        at_test halfway line _ test l.0 mid l.1
        (by_test (value_of registers test) _ _ l.0 mid
        (follows_all code end first rest l.0 mid l.2 f) f)
    head_alike halfway (IfElse line test first otherwise) l =
        at_test halfway line _ test l.0 l.1 l.2
        (by_test (value_of registers test) _ _ l.0 l.1
        (follows_all code end first rest l.0 mid l.3 f)
        (follows_all code end otherwise rest l.1 mid l.4 f))
    head_alike halfway (While line test body) l =
        at_test halfway line _ test l.0 mid l.1
        (by_test (value_of registers test) _ _ l.0 mid
        (follows_all code end body (While line test body ∷ rest) l.0 place l.2 (mid, l, f)) f)
    head_alike halfway s l =
        let at : Spot = record { place = place; registers = registers; halfway = halfway } in
        subst (λ o. AlikeHeads (line_of s, act rest registers halfway s) (flat_act o code at))
        (sym l) (record { line = refl; acts = lone_agrees halfway s l l })

  -- ---- the whole thread

  heads_alike : (rest : List Statement) (registers : List ℤ) (halfway : Bool) (at : Spot)
      → Follows code end at.place rest
      → SameNumbers rest (record { rest = rest; registers = registers; halfway = halfway }) at →
      AlikeHeads (head end (record { rest = rest; registers = registers; halfway = halfway }))
      (flat_head code at)
  heads_alike [] registers halfway at f same =
      subst (λ o. AlikeHeads (end, Ends) (flat_act o code at)) (sym f)
      (record { line = refl; acts = tt })
  heads_alike (s ∷ rest) registers halfway at f same =
      subst (λ r. AlikeHeads (line_of s, act rest registers halfway s)
      (flat_head code (record { place = at.place; registers = r; halfway = at.halfway })))
      same.0
      (subst (λ h. AlikeHeads (line_of s, act rest registers halfway s)
      (flat_head code (record { place = at.place; registers = registers; halfway = h }))) same.1
      (head_alike rest registers at.place f.0 f.2 halfway s f.1))

  stand_alike : (limit : ℕ) (s : State) (at : Spot) → Alike s at
      → AlikeStands (stand (head end) end_state limit s)
      (stand (flat_head code) (last_spot code) limit at)
  stand_alike zero s at a =
      let h = heads_alike s.rest s.registers s.halfway at a.follows a.numbers in
      by_act_alike (head end s).0 (flat_head code at).0 h.line (head end s).1 (flat_head code at).1
      h.acts _ _ (λ r q same. faults_alike _ _ h.line Spin Spin refl)
  stand_alike (suc limit) s at a =
      let h = heads_alike s.rest s.registers s.halfway at a.follows a.numbers in
      by_act_alike (head end s).0 (flat_head code at).0 h.line (head end s).1 (flat_head code at).1
      h.acts _ _
      (λ r q same. by_move_alike _ _ h.line r q same _ _ (λ t b alike. stand_alike limit t b alike))

  pub pending_alike : (limit : ℕ) (answers : List ℤ) (s : State) (at : Spot) → Alike s at
      → pending_from (flat_head code) (last_spot code) limit at answers
      ≡ pending_from (head end) end_state limit s answers
  pending_alike limit [] s at a = sym (stand_alike limit s at a).post
  pending_alike limit (x ∷ answers) s at a =
      pending_alike limit answers _ _ ((stand_alike limit s at a).after x)
