-- The posts of a sound script name only what its threads share.
use Rattle.std.proofs.Common.{◌≡◌, ℕ, zero, suc, ◌-◌, ◌<◌, ◌≤◌, ◌&&◌, ℤ, Bool, true, false, cond}
use Rattle.std.proofs.Common.{List, [], ◌∷◌, ◌++◌, length, Option, Some, None, Result, Ok, Err, sym}
use Rattle.std.proofs.Common.{ap, ◌∙◌, subst, arith, append-nil}
use Rattle.std.specs.Prelude.{nat_lt, nat_le, slice_index_or}
use Rattle.std.specs.List.{list_all}
use Rattle.std.proofs.lemmas.Bool.{ltb-true}
use Rattle.std.proofs.lemmas.Bool.Decides.{nat_tests}
use Rattle.pct_ask.specs.NameLists.{NameLists}
use Rattle.pct_ask.specs.declared.ask.Ask.{Ask}
use Rattle.pct_ask.specs.declared.ask.Ask.TheVariants as asks
use Rattle.pct_ask.specs.declared.ask.FaultKind.{FaultKind}
use Rattle.pct_ask.specs.declared.ask.FaultKind.TheVariants.{Spin}
use Rattle.pct_ask.specs.declared.deal.Deal.{Deal}
use Rattle.pct_ask.specs.Objects.{sizes_of_deal, IsInRange, PostIsInRange}
use Rattle.script_tree.specs.Trees.{Statement, Statements, Closed, Then, Read, Write, Add, Cas}
use Rattle.script_tree.specs.Trees.{Lock, TryLock, Unlock, Wait, Signal, Broadcast, Down, TryDown}
use Rattle.script_tree.specs.Trees.{Up, Arrive, Join, Yield, Assert, Set, If, IfElse, While, Start}
use Rattle.script_tree.specs.Trees.{RdLock, WrLock, TryRdLock, TryWrLock, RwUnlock, line_of}
use Rattle.script_tree.specs.Trees.{statement_list, end_line}
use Rattle.script_tree.specs.ScriptText.{Thread, ScriptText}
use Rattle.script_tree.specs.Fitting.{line_fits, reg_fits, place_fits, expression_fits, counts_of}
use Rattle.script_tree.specs.Fitting.{statement_fits, statements_fit, thread_fits, IsScript}
use Rattle.script_tree.specs.Values.{Value, is_zero, value_of}
use Rattle.script_tree.specs.Machine.{Act, Moves, Asks, Ends, Stand, by_act, faults, stand}
use Rattle.script_tree.specs.Machine.{pending_from}
use Rattle.script_tree.specs.Moves.{State, end_state, moves, asks_by, act, head, at_start}
use Rattle.script_tree.specs.Posts.{most_moves, body_pending, held_pending, is_held, thread_of}
use Rattle.script_tree.specs.Posts.{no_thread, pending}
use Rattle.script_tree.specs.DealOf.{IsDealOf}
use Rattle.script_tree.specs.Naming.{IsPostOf}
use Rattle.script_tree.proofs.laws.Conjunctions.{left_true, right_true, first_of_3, first_of_4}
use Rattle.script_tree.proofs.laws.Conjunctions.{first_of_5, second_of_3, third_of_4, third_of_5}

-- ---- lines

line_low : (line : ℕ) → line_fits line ≡ true → 1 ≤ line
line_low line h = let e = left_true (nat_le 1 line) (nat_le line 4096) h in grind (arith, nat_tests)

line_high : (line : ℕ) → line_fits line ≡ true → line ≤ 4096
line_high line h = let e = right_true (nat_le 1 line) (nat_le line 4096) h in
    grind (arith, nat_tests)

module _ (version : ℕ) (names : NameLists) where
  line_ok : (room : ℕ) (s : Statement) → statement_fits version names room s ≡ true
      → line_fits (line_of s) ≡ true
  line_ok room (Read line reg var) h =
      first_of_3 (line_fits line) (reg_fits reg) (place_fits names.vars var) h
  line_ok room (Write line var value) h =
      first_of_3 (line_fits line) (place_fits names.vars var) (expression_fits value) h
  line_ok room (Add line reg var value) h =
      first_of_4 (line_fits line) (reg_fits reg) (place_fits names.vars var) (expression_fits value)
      h
  line_ok room (Cas line reg var old new) h =
      first_of_5 (line_fits line) (reg_fits reg) (place_fits names.vars var) (expression_fits old)
      (expression_fits new) h
  line_ok room (Lock line mutex) h = left_true (line_fits line) (place_fits names.mutexes mutex) h
  line_ok room (TryLock line reg mutex) h =
      first_of_3 (line_fits line) (reg_fits reg) (place_fits names.mutexes mutex) h
  line_ok room (Unlock line mutex) h = left_true (line_fits line) (place_fits names.mutexes mutex) h
  line_ok room (Wait line cond_ mutex) h =
      first_of_3 (line_fits line) (place_fits names.conds cond_) (place_fits names.mutexes mutex) h
  line_ok room (Signal line cond_) h = left_true (line_fits line) (place_fits names.conds cond_) h
  line_ok room (Broadcast line cond_) h =
      left_true (line_fits line) (place_fits names.conds cond_) h
  line_ok room (Down line sem) h = left_true (line_fits line) (place_fits names.sems sem) h
  line_ok room (TryDown line reg sem) h =
      first_of_3 (line_fits line) (reg_fits reg) (place_fits names.sems sem) h
  line_ok room (Up line sem) h = left_true (line_fits line) (place_fits names.sems sem) h
  line_ok room (Arrive line reg barrier) h =
      first_of_3 (line_fits line) (reg_fits reg) (place_fits names.barriers barrier) h
  line_ok room (Join line thread) h = left_true (line_fits line) (place_fits names.threads thread) h
  line_ok room (Yield line) h = h
  line_ok room (Assert line test) h = left_true (line_fits line) (expression_fits test) h
  line_ok room (Set line reg value) h =
      first_of_3 (line_fits line) (reg_fits reg) (expression_fits value) h
  line_ok room (If line test first) h =
      first_of_4 (line_fits line) (expression_fits test) (nat_lt 0 room)
      (statements_fit version names (room - 1) first) h
  line_ok room (IfElse line test first otherwise) h =
      first_of_5 (line_fits line) (expression_fits test) (nat_lt 0 room)
      (statements_fit version names (room - 1) first)
      (statements_fit version names (room - 1) otherwise) h
  line_ok room (While line test body) h =
      first_of_4 (line_fits line) (expression_fits test) (nat_lt 0 room)
      (statements_fit version names (room - 1) body) h
  line_ok room (Start line thread) h =
      first_of_3 (line_fits line) (nat_le 2 version) (place_fits names.threads thread) h
  line_ok room (RdLock line rwlock) h =
      first_of_3 (line_fits line) (nat_le 3 version) (place_fits names.rwlocks rwlock) h
  line_ok room (WrLock line rwlock) h =
      first_of_3 (line_fits line) (nat_le 3 version) (place_fits names.rwlocks rwlock) h
  line_ok room (TryRdLock line reg rwlock) h =
      first_of_4 (line_fits line) (nat_le 3 version) (reg_fits reg)
      (place_fits names.rwlocks rwlock) h
  line_ok room (TryWrLock line reg rwlock) h =
      first_of_4 (line_fits line) (nat_le 3 version) (reg_fits reg)
      (place_fits names.rwlocks rwlock) h
  line_ok room (RwUnlock line rwlock) h =
      first_of_3 (line_fits line) (nat_le 3 version) (place_fits names.rwlocks rwlock) h

  end_ok : (room : ℕ) (ss : Statements) → statements_fit version names room ss ≡ true
      → line_fits (end_line ss) ≡ true
  end_ok room (Closed line) h = h
  end_ok room (Then s rest) h =
      end_ok room rest (right_true (statement_fits version names room s)
      (statements_fit version names room rest) h)

  -- statements that fit, each with some room
  abbrev AllFit : List Statement → Type 0
  AllFit [] = Unit {0}
  AllFit (s ∷ rest) = ((room : ℕ) × (statement_fits version names room s ≡ true)) × AllFit rest

  all_fit : (room : ℕ) (ss : Statements) (rest : List Statement)
      → statements_fit version names room ss ≡ true → AllFit rest
      → AllFit (statement_list ss ++ rest)
  all_fit room (Closed line) rest h f = f
  all_fit room (Then s ss) rest h f = (
    (
      room,
      left_true (statement_fits version names room s) (statements_fit version names room ss)
          h,
    ),
    all_fit room ss rest (right_true (statement_fits version names room s)
        (statements_fit version names room ss) h) f,
  )

  -- ---- what a statement asks

  -- of a deal that has as much of each kind as there are names
  module _ (deal : Deal) (threads : length names.threads ≡ deal.threads)
      (vars : length names.vars ≡ length deal.vars) (mutexes : length names.mutexes ≡ deal.mutexes)
      (conds : length names.conds ≡ deal.conds)
      (sems : length names.sems ≡ length deal.sems)
      (barriers : length names.barriers ≡ length deal.barriers)
      (rwlocks : length names.rwlocks ≡ deal.rwlocks) where
    within : (list : List (List ℕ)) (count place : ℕ) → length list ≡ count
        → place_fits list place ≡ true → place < count
    within list count place e h = subst (λ (n : ℕ). place < n) e (ltb-true place (length list) h)

    abbrev ActFits : Act State → Type 0
    ActFits (Moves (Ok s)) = AllFit s.rest
    ActFits (Moves (Err kind)) = Unit {0}
    ActFits (Asks ask after) =
        IsInRange (sizes_of_deal deal) ask × ((x : ℤ) → AllFit (after x).rest)
    ActFits Ends = Unit {0}

    by_value : (v : Value) (a : ℤ → Act State) → ((n : ℤ) → ActFits (a n)) → ActFits (asks_by v a)
    by_value (Ok n) a h = h n
    by_value (Err kind) a h = (tt, λ x. tt)

    by_move_of : (v : Value) (next : ℤ → State) → ((n : ℤ) → AllFit (next n).rest)
        → ActFits (moves v next)
    by_move_of (Ok n) next h = h n
    by_move_of (Err kind) next h = tt

    fit_chosen : (z : Bool) (a b : List Statement) → AllFit a → AllFit b → AllFit (cond z b a)
    fit_chosen true a b p q = q
    fit_chosen false a b p q = p

    module _ (rest : List Statement) (registers : List ℤ) (f : AllFit rest) where
      act_fits : (halfway : Bool) (room : ℕ) (s : Statement)
          → statement_fits version names room s ≡ true → ActFits (act rest registers halfway s)
      act_fits halfway room (Read line reg var) h = (
        within names.vars (length deal.vars) var vars
            (right_true (line_fits line && reg_fits reg) (place_fits names.vars var) h),
        λ x. f,
      )
      act_fits halfway room (Write line var value) h =
          let w = within names.vars (length deal.vars) var vars
          (second_of_3 (line_fits line) (place_fits names.vars var) (expression_fits value)
          h) in
          by_value (value_of registers value) _ (λ n. (w, λ x. f))
      act_fits halfway room (Add line reg var value) h =
          let w = within names.vars (length deal.vars) var vars
          (third_of_4 (line_fits line) (reg_fits reg) (place_fits names.vars var)
          (expression_fits value) h) in
          by_value (value_of registers value) _ (λ n. (w, λ x. f))
      act_fits halfway room (Cas line reg var old new) h =
          let w = within names.vars (length deal.vars) var vars
          (third_of_5 (line_fits line) (reg_fits reg) (place_fits names.vars var)
          (expression_fits old) (expression_fits new) h) in
          by_value (value_of registers old) _
          (λ m. by_value (value_of registers new) _ (λ n. (w, λ x. f)))
      act_fits halfway room (Lock line mutex) h = (
        within names.mutexes deal.mutexes mutex mutexes
            (right_true (line_fits line) (place_fits names.mutexes mutex) h),
        λ x. f,
      )
      act_fits halfway room (TryLock line reg mutex) h = (
        within names.mutexes deal.mutexes mutex mutexes
            (right_true (line_fits line && reg_fits reg) (place_fits names.mutexes mutex) h),
        λ x. f,
      )
      act_fits halfway room (Unlock line mutex) h = (
        within names.mutexes deal.mutexes mutex mutexes
            (right_true (line_fits line) (place_fits names.mutexes mutex) h),
        λ x. f,
      )
      act_fits false room (Wait line cond_ mutex) h = (
        (
          within names.conds deal.conds cond_ conds
              (second_of_3 (line_fits line) (place_fits names.conds cond_)
              (place_fits names.mutexes mutex) h),
          within names.mutexes deal.mutexes mutex mutexes
              (right_true (line_fits line && place_fits names.conds cond_)
              (place_fits names.mutexes mutex) h),
        ),
        λ x. ((room, h), f),
      )
      act_fits true room (Wait line cond_ mutex) h = (
        (
          within names.conds deal.conds cond_ conds
              (second_of_3 (line_fits line) (place_fits names.conds cond_)
              (place_fits names.mutexes mutex) h),
          within names.mutexes deal.mutexes mutex mutexes
              (right_true (line_fits line && place_fits names.conds cond_)
              (place_fits names.mutexes mutex) h),
        ),
        λ x. f,
      )
      act_fits halfway room (Signal line cond_) h = (
        within names.conds deal.conds cond_ conds
            (right_true (line_fits line) (place_fits names.conds cond_) h),
        λ x. f,
      )
      act_fits halfway room (Broadcast line cond_) h = (
        within names.conds deal.conds cond_ conds
            (right_true (line_fits line) (place_fits names.conds cond_) h),
        λ x. f,
      )
      act_fits halfway room (Down line sem) h = (
        within names.sems (length deal.sems) sem sems
            (right_true (line_fits line) (place_fits names.sems sem) h),
        λ x. f,
      )
      act_fits halfway room (TryDown line reg sem) h = (
        within names.sems (length deal.sems) sem sems
            (right_true (line_fits line && reg_fits reg) (place_fits names.sems sem) h),
        λ x. f,
      )
      act_fits halfway room (Up line sem) h = (
        within names.sems (length deal.sems) sem sems
            (right_true (line_fits line) (place_fits names.sems sem) h),
        λ x. f,
      )
      act_fits false room (Arrive line reg barrier) h = (
        within names.barriers (length deal.barriers) barrier barriers
            (right_true (line_fits line && reg_fits reg) (place_fits names.barriers barrier) h),
        λ x. ((room, h), f),
      )
      act_fits true room (Arrive line reg barrier) h = (
        within names.barriers (length deal.barriers) barrier barriers
            (right_true (line_fits line && reg_fits reg) (place_fits names.barriers barrier) h),
        λ x. f,
      )
      act_fits halfway room (Join line thread) h = (
        within names.threads deal.threads thread threads
            (right_true (line_fits line) (place_fits names.threads thread) h),
        λ x. f,
      )
      act_fits halfway room (Yield line) h = (tt, λ x. f)
      act_fits halfway room (Assert line test) h =
          by_value (value_of registers test) _ (λ n. (tt, λ x. f))
      act_fits halfway room (Set line reg value) h =
          by_move_of (value_of registers value) _ (λ n. f)
      act_fits halfway room (If line test first) h =
          let inner = right_true (line_fits line && expression_fits test && nat_lt 0 room)
          (statements_fit version names (room - 1) first) h in
          by_move_of (value_of registers test) _
          (λ n. fit_chosen (is_zero n) (statement_list first ++ rest) rest
          (all_fit (room - 1) first rest inner f) f)
      act_fits halfway room (IfElse line test first otherwise) h =
          let front = line_fits line && expression_fits test && nat_lt 0 room in
          let inner = right_true front (statements_fit version names (room - 1) first)
          (left_true (front && statements_fit version names (room - 1) first)
          (statements_fit version names (room - 1) otherwise) h) in
          let other = right_true (front && statements_fit version names (room - 1) first)
          (statements_fit version names (room - 1) otherwise) h in
          by_move_of (value_of registers test) _
          (λ n. fit_chosen (is_zero n) (statement_list first ++ rest)
          (statement_list otherwise ++ rest) (all_fit (room - 1) first rest inner f)
          (all_fit (room - 1) otherwise rest other f))
      act_fits halfway room (While line test body) h =
          let inner = right_true (line_fits line && expression_fits test && nat_lt 0 room)
          (statements_fit version names (room - 1) body) h in
          by_move_of (value_of registers test) _
          (λ n. fit_chosen (is_zero n) (statement_list body ++ While line test body ∷ rest) rest
          (all_fit (room - 1) body (While line test body ∷ rest) inner ((room, h), f)) f)
      act_fits halfway room (Start line thread) h = (
        within names.threads deal.threads thread threads
            (right_true (line_fits line && nat_le 2 version) (place_fits names.threads thread) h),
        λ x. f,
      )
      act_fits halfway room (RdLock line rwlock) h = (
        within names.rwlocks deal.rwlocks rwlock rwlocks
            (right_true (line_fits line && nat_le 3 version) (place_fits names.rwlocks rwlock) h),
        λ x. f,
      )
      act_fits halfway room (WrLock line rwlock) h = (
        within names.rwlocks deal.rwlocks rwlock rwlocks
            (right_true (line_fits line && nat_le 3 version) (place_fits names.rwlocks rwlock) h),
        λ x. f,
      )
      act_fits halfway room (TryRdLock line reg rwlock) h = (
        within names.rwlocks deal.rwlocks rwlock rwlocks
            (right_true (line_fits line && nat_le 3 version && reg_fits reg)
            (place_fits names.rwlocks rwlock) h),
        λ x. f,
      )
      act_fits halfway room (TryWrLock line reg rwlock) h = (
        within names.rwlocks deal.rwlocks rwlock rwlocks
            (right_true (line_fits line && nat_le 3 version && reg_fits reg)
            (place_fits names.rwlocks rwlock) h),
        λ x. f,
      )
      act_fits halfway room (RwUnlock line rwlock) h = (
        within names.rwlocks deal.rwlocks rwlock rwlocks
            (right_true (line_fits line && nat_le 3 version) (place_fits names.rwlocks rwlock) h),
        λ x. f,
      )

    -- ---- where a thread stands

    post_of : (line : ℕ) (ask : Option Ask) → line_fits line ≡ true
        → PostIsInRange (sizes_of_deal deal) ask → IsPostOf deal (record { ask = ask; line = line })
    post_of line ask l a = record {
      first_line = line_low line l;
      last_line = line_high line l;
      ask = a;
    }

    module _ (end : ℕ) (end_fits : line_fits end ≡ true) where
      record StandFits (s : Stand State) : Type 0 where
        post : IsPostOf deal s.post
        after : (x : ℤ) → AllFit (s.after x).rest

      fault_fits : (line : ℕ) (kind : FaultKind) → line_fits line ≡ true
          → StandFits (faults (head end) end_state line kind)
      fault_fits line kind l = record {
        post = post_of line (Some (asks.Fault kind)) l tt;
        after = λ x. tt;
      }

      act_stands : (line : ℕ) (a : Act State) (f : Result State FaultKind → Stand State)
          → line_fits line ≡ true → ActFits a →
          ((s : State) → AllFit s.rest → StandFits (f (Ok s)))
          → ((kind : FaultKind) → StandFits (f (Err kind)))
          → StandFits (by_act (head end) end_state line a f)
      act_stands line (Moves (Ok s)) f l h go stop = go s h
      act_stands line (Moves (Err kind)) f l h go stop = stop kind
      act_stands line (Asks ask after) f l h go stop = record {
        post = post_of line (Some ask) l h.0;
        after = h.1;
      }
      act_stands line Ends f l h go stop = record { post = post_of line None l tt; after = λ x. tt }

      head_line : (rest : List Statement) (registers : List ℤ) (halfway : Bool) → AllFit rest
          → line_fits (head end (record {
            rest = rest;
            registers = registers;
            halfway = halfway;
          })).0 ≡ true
      head_line [] registers halfway f = end_fits
      head_line (s ∷ rest) registers halfway f = line_ok f.0.0 s f.0.1

      head_fits : (rest : List Statement) (registers : List ℤ) (halfway : Bool) → AllFit rest
          → ActFits (head end (record { rest = rest; registers = registers; halfway = halfway })).1
      head_fits [] registers halfway f = tt
      head_fits (s ∷ rest) registers halfway f = act_fits rest registers f.1 halfway f.0.0 s f.0.1

      stand_fits : (limit : ℕ) (s : State) → AllFit s.rest
          → StandFits (stand (head end) end_state limit s)
      stand_fits zero s f =
          let l = head_line s.rest s.registers s.halfway f in
          act_stands (head end s).0 (head end s).1 _ l (head_fits s.rest s.registers s.halfway f)
          (λ t g. fault_fits (head end s).0 Spin l) (λ kind. fault_fits (head end s).0 Spin l)
      stand_fits (suc limit) s f =
          let l = head_line s.rest s.registers s.halfway f in
          act_stands (head end s).0 (head end s).1 _ l (head_fits s.rest s.registers s.halfway f)
          (λ t g. stand_fits limit t g) (λ kind. fault_fits (head end s).0 kind l)

      from_fits : (limit : ℕ) (answers : List ℤ) (s : State) → AllFit s.rest
          → IsPostOf deal (pending_from (head end) end_state limit s answers)
      from_fits limit [] s f = (stand_fits limit s f).post
      from_fits limit (x ∷ answers) s f = from_fits limit answers _ ((stand_fits limit s f).after x)

    -- ---- a whole thread

    body_fits : (limit : ℕ) (body : Statements) (answers : List ℤ)
        → statements_fit version names 32 body ≡ true
        → IsPostOf deal (body_pending limit body answers)
    body_fits limit body answers h =
        from_fits (end_line body) (end_ok 32 body h) limit answers (at_start body)
        (subst AllFit (append-nil (statement_list body)) (all_fit 32 body [] h tt))

    held_fits : (held : Bool) (limit : ℕ) (t : Thread) (answers : List ℤ)
        → thread_fits version names t ≡ true → IsPostOf deal (held_pending held limit t answers)
    held_fits held limit t answers h = go held answers
      where
        body : statements_fit version names 32 t.body ≡ true
        body =
            second_of_3 (line_fits t.line) (statements_fit version names 32 t.body)
            (nat_le (counts_of t.body) 4096) h

        go : (held : Bool) (answers : List ℤ) → IsPostOf deal (held_pending held limit t answers)
        go false answers = body_fits limit t.body answers body
        go true [] =
            post_of t.line (Some asks.Begin)
            (first_of_3 (line_fits t.line) (statements_fit version names 32 t.body)
            (nat_le (counts_of t.body) 4096) h) tt
        go true (x ∷ answers) = body_fits limit t.body answers body

thread_at : (p : Thread → Bool) (threads : List Thread) (t : ℕ) → list_all p threads ≡ true
    → t < length threads → p (slice_index_or threads t no_thread) ≡ true
thread_at p [] t all below = absurd (omega arith)
thread_at p (x ∷ xs) zero all below = left_true (p x) (list_all p xs) all
thread_at p (x ∷ xs) (suc t) all below =
    thread_at p xs t (right_true (p x) (list_all p xs) all) (omega arith)

-- every post of a sound script's thread names only what the script's deal has, and stands on a line
-- of a script
pub pending_named : (script : ScriptText) (deal : Deal) → IsScript script → IsDealOf script deal
    → (t : ℕ) → t < length script.threads → (answers : List ℤ)
    → IsPostOf deal (pending script t answers)
pending_named script deal sound same t below answers =
    held_fits script.version script.names deal (sym same.threads)
    (sym sound.same_vars ∙ ap length (sym same.vars)) (sym same.mutexes) (sym same.conds)
    (sym sound.same_sems ∙ ap length (sym same.sems))
    (sym sound.same_barriers ∙ ap length (sym same.barriers)) (sym same.rwlocks)
    (is_held script t) most_moves (thread_of script t) answers
    (thread_at (thread_fits script.version script.names) script.threads t sound.threads_fit
    below)
