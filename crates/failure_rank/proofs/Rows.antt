-- Small theorems that read the definitions on known rows.
use Rattle.std.proofs.Common.{◌≡◌, ◌≤◌, false, [], ◌∷◌, refl, arith}
use Rattle.std.proofs.lemmas.List.Elements.{All-cons, All-nil}
use Rattle.pct_ask.specs.declared.event.Row.{Row}
use Rattle.pct_ask.specs.declared.verdict.Verdict.TheVariants.{Failed, Stuck}
use Rattle.pct_ask.specs.SameVerdict.{same_verdict}
use Rattle.failure_rank.specs.Groups.{earliest, IsGroup}
use Rattle.failure_rank.specs.declared.group.Group.{Group}

abbrev failing : Row
failing = record { seed = 7; steps = 1; verdict = Failed 0 3 }

abbrev again : Row
again = record { seed = 8; steps = 1; verdict = Failed 0 3 }

abbrev twice : Group
twice = record { verdict = Failed 0 3; count = 2; steps = 1; first = 7 }

one_group : IsGroup (failing ∷ again ∷ []) twice
one_group = record {
  failed = λ e. cc e;
  sums = record {
    count = refl;
    reached = (0, failing, omega arith, refl, refl);
    least =
        All-cons (λ row. 1 ≤ row.steps) failing (again ∷ []) (omega arith)
        (All-cons (λ row. 1 ≤ row.steps) again [] (omega arith)
        (All-nil (λ (row : Row). 1 ≤ row.steps)));
    first = refl;
  };
}

other_list : same_verdict (Stuck ((0, 3) ∷ (1, 8) ∷ [])) (Stuck ((0, 3) ∷ (1, 9) ∷ [])) ≡ false
other_list = refl

at_once : earliest (failing ∷ again ∷ []) (Failed 0 3) ≡ 0
at_once = refl

nowhere : earliest (failing ∷ again ∷ []) (Failed 0 4) ≡ 2
nowhere = refl
