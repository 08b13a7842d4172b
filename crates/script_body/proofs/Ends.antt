-- A thread at its end stays there, whatever its numbers.
use Rattle.std.proofs.Common.{◌≡◌, ℕ, zero, suc, ℤ, true, false, List, [], ◌∷◌, Option, Some, None}
use Rattle.std.proofs.Common.{refl, sym, ap, ◌∙◌, subst}
use Rattle.std.specs.Prelude.{slice_get}
use Rattle.pct_ask.specs.declared.ask.FaultKind.TheVariants.{Spin}
use Rattle.script_tree.specs.Machine.{Act, Ends, Stand, by_act, by_move, faults, stand}
use Rattle.script_tree.specs.Machine.{pending_from}
use Rattle.script_tree.specs.Posts.{most_moves}
use Rattle.script_code.specs.Operations.{Operation, Do, Test, End, Begin}
use Rattle.script_code.specs.Placed.{is_end}
use Rattle.script_code.specs.FlatPosts.{Spot, last_spot, flat_act, flat_head, flat_pending_from}

-- the line of an end
abbrev pub end_of : Option Operation → ℕ
end_of (Some (End line)) = line
end_of op = 0

pub an_end : (op : Option Operation) → is_end op ≡ true → op ≡ Some (End (end_of op))
an_end None e = absurd (let n : false ≡ true = e in cc)
an_end (Some (Do s next)) e = absurd (let n : false ≡ true = e in cc)
an_end (Some (Test line test next otherwise)) e = absurd (let n : false ≡ true = e in cc)
an_end (Some (End line)) e = refl
an_end (Some (Begin line next)) e = absurd (let n : false ≡ true = e in cc)

module _ (code : List Operation) where
  pub head_at_end : (at : Spot) → is_end (slice_get code at.place) ≡ true
      → flat_head code at ≡ (end_of (slice_get code at.place), Ends)
  head_at_end at e = ap (λ o. flat_act o code at) (an_end (slice_get code at.place) e)

  -- the same stand at one place
  stand_at_end : (limit : ℕ) (a b : Spot) → a.place ≡ b.place
      → is_end (slice_get code a.place) ≡ true
      → stand (flat_head code) (last_spot code) limit a
      ≡ stand (flat_head code) (last_spot code) limit b
  stand_at_end limit a b same e = go limit
    where
      there : is_end (slice_get code b.place) ≡ true
      there = subst (λ (k : ℕ). is_end (slice_get code k) ≡ true) same e

      heads : flat_head code a ≡ flat_head code b
      heads =
          head_at_end a e ∙ ap (λ (k : ℕ). (end_of (slice_get code k), Ends)) same
          ∙ sym (head_at_end b there)

      go : (limit : ℕ) → stand (flat_head code) (last_spot code) limit a
          ≡ stand (flat_head code) (last_spot code) limit b
      go zero =
          ap (λ (h : ℕ × Act Spot). by_act (flat_head code) (last_spot code) h.0 h.1
          (λ next. faults (flat_head code) (last_spot code) h.0 Spin)) heads
      go (suc limit) =
          ap (λ (h : ℕ × Act Spot). by_act (flat_head code) (last_spot code) h.0 h.1
          (λ next. by_move (flat_head code) (last_spot code) h.0 next
          (λ t. stand (flat_head code) (last_spot code) limit t))) heads

  pub pending_at_end : (a b : Spot) → a.place ≡ b.place → is_end (slice_get code a.place) ≡ true
      → (answers : List ℤ) → flat_pending_from code a answers ≡ flat_pending_from code b answers
  pending_at_end a b same e [] =
      ap (λ (s : Stand Spot). s.post) (stand_at_end most_moves a b same e)
  pending_at_end a b same e (x ∷ answers) =
      ap (λ (s : Stand Spot). pending_from (flat_head code) (last_spot code) most_moves (s.after x)
      answers) (stand_at_end most_moves a b same e)
