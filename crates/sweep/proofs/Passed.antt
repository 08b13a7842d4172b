-- What is counted where no run of a batch was longer than all before it.
use Rattle.std.proofs.Common.{◌≡◌, ◌≤◌, ℕ, Option, Some, None, false, length, subst, sym, arith}
use Rattle.std.specs.Option.{is_some}
use Rattle.script_run.specs.Batches.{Decides}
use Rattle.sweep.specs.declared.next.Counts.{Counts}
use Rattle.sweep.specs.declared.next.NextRuns.{NextRuns}
use Rattle.sweep.specs.Batches.{setup_of_sweep, HavePointAbove, HasCounted, HasCountedNext}
use Rattle.sweep.specs.Batches.{HasCountedLonger}
use Rattle.sweep.proofs.Aheads.{none-ahead}
use Rattle.sweep.proofs.Steps.{pass-by}

no-longer : {A : Type 0} (next : NextRuns) (counts : Counts) (i : ℕ) (found : Option A)
    → is_some found ≡ false
    → Decides (HasCountedNext next) (λ kept answer. HasCountedLonger next kept) counts i found
    → HasCountedNext next counts i
no-longer next counts i None none has = has
no-longer next counts i (Some answer) none has = absurd cc

-- those behind the last one repeat runs that are counted
pub passed-all : {A : Type 0} (next : NextRuns) (counts : Counts) (i : ℕ) (found : Option A)
    → is_some found ≡ false
    → Decides (HasCountedNext next) (λ kept answer. HasCountedLonger next kept) counts i found
    → length next.ahead.now.places.items ≤ i
    → HasCounted (setup_of_sweep next.sweep.now)
    (record counts.reach { place = next.ahead.now.end })
    counts.tally
passed-all next counts i found none decides short =
    let setup = setup_of_sweep next.sweep.now in
    let has = no-longer next counts i found none decides in
    let rest = none-ahead setup next.before.longest counts.reach.place next.ahead.now.end i
    next.ahead.now.places.items short has.ahead in
    pass-by setup (next.sweep.now).some_steps counts.reach counts.tally next.ahead.now.end rest.0
    (omega (arith, next.end, (next.sweep.now).whole))
    (subst (λ n. HavePointAbove setup n counts.reach.place next.ahead.now.end) (sym has.same)
    rest.1)
    has.counted
