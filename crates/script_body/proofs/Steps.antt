-- From what comes first at a spot to where the thread stands.
use Rattle.std.proofs.Common.{◌≡◌, ℕ, zero, suc, ◌+◌, ◌<◌, ℤ, Bool, true, false, not, cond, List}
use Rattle.std.proofs.Common.{[], ◌∷◌, length, Option, Some, None, Result, Ok, Err, refl, sym, ap}
use Rattle.std.proofs.Common.{◌∙◌, subst, arith}
use Rattle.std.specs.Prelude.{slice_get}
use Rattle.pct_ask.specs.declared.ask.Ask.{Ask}
use Rattle.pct_ask.specs.declared.ask.Ask.TheVariants.{Fault, Begin as Beginning}
use Rattle.pct_ask.specs.declared.ask.FaultKind.{FaultKind}
use Rattle.pct_ask.specs.declared.ask.FaultKind.TheVariants.{Spin}
use Rattle.pct_ask.specs.declared.ask.Post.{Post}
use Rattle.script_tree.specs.Machine.{Act, Moves, Asks, Ends, Stand, by_act, by_move, faults, stand}
use Rattle.script_tree.specs.Moves.{State, act}
use Rattle.script_tree.specs.Posts.{most_moves}
use Rattle.script_tree.specs.Values.{Value, value_of}
use Rattle.script_code.specs.Operations.{Operation, Do, Test, End, Begin}
use Rattle.script_code.specs.Placed.{is_end, last_place}
use Rattle.script_code.specs.FlatPosts.{Spot, spot, last_spot, is_fault, lone_move, after_lone}
use Rattle.script_code.specs.FlatPosts.{test_move, flat_act, flat_head, flat_pending_from}
use Rattle.script_code.proofs.laws.Listings.{some_operation}
use Rattle.script_body.specs.Turns.{turn_of, Posts, MovesOn}
use Rattle.script_body.specs.Waiting.{after_act, spot_after, is_waiting, stand_of, Settles}
use Rattle.script_body.specs.Waiting.{asks_fault, spot_after_fault, pending_at}
use Rattle.script_body.proofs.Ends.{head_at_end}

pub most_is : most_moves ≡ 10000
unfolding most_moves
most_is = refl

no_truth : false ≡ true → ⊥
no_truth e = cc

module _ (code : List Operation) where
  abbrev pub the_stand : ℕ → Spot → Stand Spot
  the_stand limit at = stand (flat_head code) (last_spot code) limit at

  abbrev by : ℕ → Act Spot → (Result Spot FaultKind → Stand Spot) → Stand Spot
  by line a move = by_act (flat_head code) (last_spot code) line a move

  abbrev going : ℕ → ℕ → Result Spot FaultKind → Stand Spot
  going limit line next =
      by_move (flat_head code) (last_spot code) line next (λ t. the_stand limit t)

  -- a local move counts as one
  pub stand_moves : (k m : ℕ) (at next : Spot) → k ≡ m + 1 → (flat_head code at).1 ≡ Moves (Ok next)
      → the_stand k at ≡ the_stand m next
  stand_moves k m at next e h =
      let more : k ≡ suc m = omega arith in
      ap (λ (n : ℕ). the_stand n at) more
      ∙ ap (λ a. by (flat_head code at).0 a (going m (flat_head code at).0)) h

  -- the post of an ask or of an end
  record Shows (s : Stand Spot) (a : Act Spot) (post : Post) : Type 0 where
    shown : s.post ≡ post
    after : (x : ℤ) → s.after x ≡ after_act a (last_spot code) x
    waits : asks_fault post.ask ≡ false → is_waiting a ≡ true
    ask : asks_fault post.ask ≡ true → (f : ℤ → Spot) × (ask : Ask) × (a ≡ Asks ask f)
        × (is_fault ask ≡ true)

  not_true : (b : Bool) → b ≡ false → not b ≡ true
  not_true true e = absurd (no_truth (sym e))
  not_true false e = refl

  shows : (line : ℕ) (a : Act Spot) (move : Result Spot FaultKind → Stand Spot) (post : Post)
      → turn_of line a ≡ Posts post → Shows (by line a move) a post
  shows line (Moves next) move post e = absurd (cc)
  shows line (Asks ask f) move post e =
      let same : record { ask = Some ask; line = line } ≡ post = cc in
      record {
        shown = same;
        after = λ x. refl;
        waits =
            λ h. not_true (is_fault ask) (subst (λ (p : Post). asks_fault p.ask ≡ false) (sym same)
            h);
        ask = λ h. (f, ask, refl, subst (λ (p : Post). asks_fault p.ask ≡ true) (sym same) h);
      }
  shows line Ends move post e =
      let same : record { ask = None; line = line } ≡ post = cc in
      record {
        shown = same;
        after = λ x. refl;
        waits = λ h. refl;
        ask = λ h. absurd (no_truth (subst (λ (p : Post). asks_fault p.ask ≡ true) (sym same) h));
      }

  stand_shows : (limit : ℕ) (at : Spot) (post : Post)
      → turn_of (flat_head code at).0 (flat_head code at).1 ≡ Posts post
      → Shows (the_stand limit at) (flat_head code at).1 post
  stand_shows zero at post e =
      shows (flat_head code at).0 (flat_head code at).1
      (λ next. faults (flat_head code) (last_spot code) (flat_head code at).0 Spin) post e
  stand_shows (suc limit) at post e =
      shows (flat_head code at).0 (flat_head code at).1 (going limit (flat_head code at).0) post e

  -- after a fault of a statement the thread is at its end
  lone_fault : (go : State → Spot) (a : Act State) (x : ℤ) (f : ℤ → Spot) (ask : Ask)
      → lone_move go a (last_spot code) ≡ Asks ask f → is_fault ask ≡ true → f x ≡ last_spot code
  lone_fault go (Moves (Ok s)) x f ask e h = absurd (cc)
  lone_fault go (Moves (Err k)) x f ask e h = absurd (cc)
  lone_fault go (Asks b g) x f ask e h =
      let asks : b ≡ ask = cc in
      let after : (λ y. cond (is_fault b) (last_spot code) (go (g y))) ≡ f = cc in
      let fault : is_fault b ≡ true = ap is_fault asks ∙ h in
      sym (ap (λ (k : ℤ → Spot). k x) after) ∙ ap (λ t. cond t (last_spot code) (go (g x))) fault
  lone_fault go Ends x f ask e h = absurd (cc)

  test_fault : (v : Value) (next : ℤ → Spot) (x : ℤ) (f : ℤ → Spot) (ask : Ask)
      → test_move v next ≡ Asks ask f → f x ≡ last_spot code
  test_fault (Ok n) next x f ask e = absurd (cc)
  test_fault (Err k) next x f ask e = absurd (cc)

  fault_after : (op : Option Operation) (at : Spot) (x : ℤ) (f : ℤ → Spot) (ask : Ask)
      → (flat_act op code at).1 ≡ Asks ask f → is_fault ask ≡ true → f x ≡ last_spot code
  fault_after None at x f ask e h = absurd (cc)
  fault_after (Some (Do s next)) at x f ask e h =
      lone_fault (after_lone at.place next) (act [] at.registers at.halfway s) x f ask e h
  fault_after (Some (Test line test next otherwise)) at x f ask e h =
      test_fault (value_of at.registers test) _ x f ask e
  fault_after (Some (End line)) at x f ask e h = absurd (cc)
  fault_after (Some (Begin line next)) at x f ask e h = let asks : Beginning ≡ ask = cc in
      absurd (no_truth (ap is_fault asks ∙ h))

  -- ---- what settling gives

  module _ (ends : is_end (slice_get code (last_place code)) ≡ true) where
    last_inside : last_place code < length code
    last_inside = let some = some_operation code ends in omega arith

    -- at the last place, whatever the numbers
    ended_spot : (at : Spot) (registers : List ℤ) → at ≡ spot (last_place code) registers
        → (flat_head code at).1 ≡ Ends
    ended_spot at registers e =
        ap (λ (s : Spot). (flat_head code s).1) e
        ∙ ap (λ (h : ℕ × Act Spot). h.1)
        (head_at_end code (spot (last_place code) registers) ends)

    stops : (from at new : Spot) (k : ℕ) (post : Post) → stand_of code from ≡ the_stand k at
        → Shows (the_stand k at) (flat_head code at).1 post
        → new ≡ spot_after_fault code post.ask at
        → at.place < length code → Settles code from new post
    stops from at new k post same s n inside = go (asks_fault post.ask) refl
      where
        go : (b : Bool) → asks_fault post.ask ≡ b → Settles code from new post
        go false e =
            let here : new ≡ at = n ∙ ap (λ b. cond b (spot (last_place code) at.registers) at) e in
            record {
              post = ap (λ (t : Stand Spot). t.post) same ∙ s.shown;
              after =
                  λ x. ap (λ (t : Stand Spot). t.after x) same ∙ s.after x
                  ∙ ap (λ t. spot_after code t x) (sym here);
              waits = subst (λ t. is_waiting (flat_head code t).1 ≡ true) (sym here) (s.waits e);
              inside = subst (λ (t : Spot). t.place < length code) (sym here) inside;
            }
        go true e =
            let here : new ≡ spot (last_place code) at.registers =
            n ∙ ap (λ b. cond b (spot (last_place code) at.registers) at) e in
            let (f, ask, is, fault) = s.ask e in
            let head = ended_spot new at.registers here in
            let gone = fault_after (slice_get code at.place) at
            in record {
              post = ap (λ (t : Stand Spot). t.post) same ∙ s.shown;
              after =
                  λ x. ap (λ (t : Stand Spot). t.after x) same ∙ s.after x
                  ∙ ap (λ a. after_act a (last_spot code) x) is ∙ gone x f ask is fault
                  ∙ ap (λ a. after_act a (last_spot code) x) (sym head);
              waits = ap is_waiting head;
              inside = subst (λ (t : Spot). t.place < length code) (sym here) last_inside;
            }

    pub settled_post : (from at new : Spot) (k : ℕ) (post : Post)
        → stand_of code from ≡ the_stand k at
        → turn_of (flat_head code at).0 (flat_head code at).1 ≡ Posts post
        → new ≡ spot_after_fault code post.ask at → at.place < length code
        → Settles code from new post
    settled_post from at new k post same turn n inside =
        stops from at new k post same (stand_shows k at post turn) n inside

    settled_fault : (from at new : Spot) (line : ℕ) (kind : FaultKind) (post : Post)
        → stand_of code from ≡ faults (flat_head code) (last_spot code) line kind → post ≡ record {
          ask = Some (Fault kind);
          line = line;
        } → new ≡ spot_after_fault code post.ask at
        → Settles code from new post
    settled_fault from at new line kind post same is n =
        let here : new ≡ spot (last_place code) at.registers =
        n ∙ ap (λ (p : Post). spot_after_fault code p.ask at) is in
        let head = ended_spot new at.registers here in
        record {
          post = ap (λ (t : Stand Spot). t.post) same ∙ sym is;
          after =
              λ x. ap (λ (t : Stand Spot). t.after x) same
              ∙ ap (λ a. after_act a (last_spot code) x) (sym head);
          waits = ap is_waiting head;
          inside = subst (λ (t : Spot). t.place < length code) (sym here) last_inside;
        }

    move_line : (line : ℕ) (h : ℕ × Act Spot) → turn_of h.0 h.1 ≡ MovesOn line
        → (h.0 ≡ line) × ((next : Result Spot FaultKind) × (h.1 ≡ Moves next))
    move_line line h e = go h.0 h.1 e
      where
        go : (n : ℕ) (a : Act Spot) → turn_of n a ≡ MovesOn line
            → (n ≡ line) × ((next : Result Spot FaultKind) × (a ≡ Moves next))
        go n (Moves next) e = (cc, (next, refl))
        go n (Asks ask f) e = absurd (cc)
        go n Ends e = absurd (cc)

    pub settled_move_fault : (from at left new : Spot) (k m line : ℕ) (kind : FaultKind)
        (post : Post) → stand_of code from ≡ the_stand k at → k ≡ m + 1 →
        turn_of (flat_head code at).0 (flat_head code at).1 ≡ MovesOn line
        → (flat_head code at).1 ≡ Moves (Err kind) →
        post ≡ record { ask = Some (Fault kind); line = line }
        → new ≡ spot_after_fault code post.ask left
        → Settles code from new post
    settled_move_fault from at left new k m line kind post same more turn h is n =
        let e : k ≡ suc m = omega arith in
        let stands : the_stand k at ≡ faults (flat_head code) (last_spot code) (flat_head code at).0
        kind =
        ap (λ (j : ℕ). the_stand j at) e
        ∙ ap (λ a. by (flat_head code at).0 a (going m (flat_head code at).0)) h in
        settled_fault from left new line kind post
        (same ∙ stands ∙ ap (λ (l : ℕ). faults (flat_head code) (last_spot code) l kind)
        (move_line line (flat_head code at) turn).0)
        is n

    pub settled_spin : (from at new : Spot) (line : ℕ) (post : Post)
        → stand_of code from ≡ the_stand 0 at →
        turn_of (flat_head code at).0 (flat_head code at).1 ≡ MovesOn line →
        post ≡ record { ask = Some (Fault Spin); line = line }
        → new ≡ spot_after_fault code post.ask at
        → Settles code from new post
    settled_spin from at new line post same turn is n =
        let (l, (next, h)) = move_line line (flat_head code at) turn in
        let stands : the_stand 0 at ≡ faults (flat_head code) (last_spot code) (flat_head code at).0
        Spin =
        ap (λ a. by (flat_head code at).0 a
        (λ _. faults (flat_head code) (last_spot code) (flat_head code at).0 Spin)) h in
        settled_fault from at new line Spin post
        (same ∙ stands ∙ ap (λ (k : ℕ). faults (flat_head code) (last_spot code) k Spin) l) is n

  -- a body that settled posts what the thread does
  pub settled_pending : (from at : Spot) (post : Post) → Settles code from at post
      → (answers : List ℤ) → pending_at code at post answers ≡ flat_pending_from code from answers
  settled_pending from at post s [] = sym s.post
  settled_pending from at post s (x ∷ answers) =
      ap (λ t. flat_pending_from code t answers) (sym (s.after x))
