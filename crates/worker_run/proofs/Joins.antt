-- Workers are started one after another: what was served in the end.
use Rattle.std.proofs.Common.{◌≡◌, ℕ, List, [], ◌∷◌, ◌++◌, length, map, sym, ap, subst, ◌∙◌, ◌⊎◌}
use Rattle.std.proofs.Common.{inl, inr}
use Rattle.std.specs.Prelude.{slice_get, Vec}
use Rattle.policy_pick.specs.declared.policy.Policy.{Ghosts}
use Rattle.pct_ask.specs.Bodies.{Pending}
use Rattle.worker_run.specs.Batch.{is_there}
use Rattle.worker_run.specs.Batches.{IsThere, Holds, ToldAt, AreSeats, AreTold, AreToldBeside}
use Rattle.worker_run.specs.declared.batch.RunningTest.{RunningTest}
use Rattle.worker_run.specs.declared.batch.Share.{Share}
use Rattle.worker_run.specs.declared.batch.Task.{Task}
use Rattle.worker_run.proofs.Loops.{listed-either}

module _ {P : Type 0} {policy : Ghosts P} {B : Type 0} {A : Type 0} (pending : B → Pending)
    (tests : List (RunningTest P B)) (shares : List (Share P B policy))
    (lists : List (Vec (Task P B policy) A)) where
  -- the last list's thread, and those before it
  pub told-last : (tasks : Vec (Task P B policy) A) (all : List (Vec (Task P B policy) A))
      (after : List (Share P B policy)) (t : ℕ) → t ≡ length lists → all ≡ lists ++ tasks ∷ []
      → AreToldBeside pending tests shares lists t tasks.items after
      → AreTold pending tests shares all after
  told-last tasks all after n last is b =
      let T : List (Vec (Task P B policy) A) → Type 0 = λ x. AreTold pending tests shares x after in
      subst T (sym is) (record {
        seats = (b.told).seats;
        held = (b.told).held;
        listed = λ i u p. elim (listed-either lists tasks i u p) [
          | inl w ↦ (b.told).listed i u w
          | inr w ↦
              let N : ℕ → Type 0 = λ k. ToldAt pending tests after i k in
              subst N (last ∙ sym w.0) (b.beside i w.1)
        ];
      })

  -- the thread was started, and joined after the others
  pub told-joined : (t : ℕ) (tasks back : List (Task P B policy))
      (mid after : List (Share P B policy)) → map is_there back ≡ map is_there tasks
      → AreTold pending tests shares lists mid → AreSeats tests after
      → ((i u : ℕ) → ToldAt pending tests mid i u → ToldAt pending tests after i u)
      → ((i : ℕ) → IsThere back i → ToldAt pending tests after i t)
      → AreToldBeside pending tests shares lists t tasks after
  told-joined t tasks back mid after same told seats kept joined = record {
    told = record {
      seats = seats;
      held = λ i u h. kept i u (told.held i u h);
      listed = λ i u p. kept i u (told.listed i u p);
    };
    beside = λ i there. joined i (ap (λ (l : List _). slice_get l i) same ∙ there);
  }

  -- it couldn't be started: its tasks were taken in by the shares, but for those that were served
  pub told-without : (t : ℕ) (tasks back : List (Task P B policy))
      (taken mid after : List (Share P B policy))
      → ((i u : ℕ) → Holds shares i u → Holds taken i u)
      → ((i : ℕ) → IsThere tasks i → Holds taken i t ⊎ IsThere back i)
      → AreTold pending tests taken lists mid → AreSeats tests after
      → ((i u : ℕ) → ToldAt pending tests mid i u → ToldAt pending tests after i u)
      → ((i : ℕ) → IsThere back i → ToldAt pending tests after i t)
      → AreToldBeside pending tests shares lists t tasks after
  told-without t tasks back taken mid after kept took told seats later joined = record {
    told = record {
      seats = seats;
      held = λ i u h. later i u (told.held i u (kept i u h));
      listed = λ i u p. later i u (told.listed i u p);
    };
    beside = λ i there. elim (took i there) [
      | inl held ↦ later i t (told.held i t held)
      | inr left ↦ joined i left
    ];
  }

  -- the same tasks, told of by another list
  pub beside-same : (t : ℕ) (tasks back : List (Task P B policy)) (after : List (Share P B policy))
      → map is_there back ≡ map is_there tasks
      → AreToldBeside pending tests shares lists t back after
      → AreToldBeside pending tests shares lists t tasks after
  beside-same t tasks back after same b = record {
    told = b.told;
    beside = λ i there.
        b.beside i (ap (λ (l : List _). slice_get l i) same ∙ there);
  }
